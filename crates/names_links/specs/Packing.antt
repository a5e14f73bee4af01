-- Records put in the row of a child one after the other, by their flags.
use Rattle.std.specs.Prelude.{ℕ, ◌+◌, ◌≡◌, cond, List, [], eqb, length, take, drop}
use Rattle.linkea.specs.Link.{Link, link_header, encode_links}
use Rattle.names.specs.Rows.{link_length_at, link_room_at}
use Rattle.names_links.specs.Kept.{stays}
use Rattle.names_links.specs.declared.keep.Packed.{Packed}

-- the bytes of a record that stays, else none
unfoldable pub bytes_if : ℕ → List ℕ → List ℕ
bytes_if f l = cond (eqb f stays) l []

unfoldable pub one_if : ℕ → ℕ
one_if f = cond (eqb f stays) 1 0

-- the records xs stand in the row behind the place of the header, as many as counted, and the next one goes behind them
pub record PackedIn (before row : List ℕ) (p : Packed) (xs : List Link) : Type 0 where
  pub long : length row ≡ length before
  pub front : take link_length_at row ≡ take link_length_at before
  pub bytes : take (length (encode_links xs)) (drop (link_room_at + link_header) row) ≡ encode_links xs
  pub to : p.to ≡ link_room_at + link_header + length (encode_links xs)
  pub count : p.count ≡ length xs
