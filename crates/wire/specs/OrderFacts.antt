-- A byte order's own words are those of `number` and `number_bytes`. Assumes nothing.
use Rattle.std.specs.Prelude.{◌≡◌, ℕ, List, refl}
use Rattle.wire.specs.Numbers.{le, bytes, little, number, number_bytes}

pub little_numbers : (n : ℕ) (l : List ℕ) → number little n l ≡ le n l
unfolding number
little_numbers n l = refl

pub little_stores : (n v : ℕ) → number_bytes little n v ≡ bytes n v
unfolding number_bytes
little_stores n v = refl
