-- What holds of each entry of a list. Assumes nothing.
use Prim.Native.Nat.{ℕ, zero, suc, ◌<◌}
use mathlib.Core.List.{List, [], ◌∷◌, map}
use native.Mathlib.Omega.{arith}
use lib.ListN.{length}
use Rattle.names.specs.Rows.{Entry}
use Rattle.names.specs.Promises.{entry_at}

abbrev pub Each : (Entry → Type 0) → List Entry → Type 0
Each P [] = Unit {0}
Each P (e ∷ es) = P e × Each P es

module _ (P : Entry → Type 0) where
  pub each_every : ((e : Entry) → P e) → (es : List Entry) → Each P es
  each_every h [] = tt
  each_every h (e ∷ es) = (h e, each_every h es)

  pub each_from : (es : List Entry) → ((i : ℕ) → i < length es → P (entry_at es i)) → Each P es
  unfolding entry_at
  each_from [] h = tt
  each_from (e ∷ es) h = (h 0 (omega arith), each_from es (λ i k. h (suc i) (omega arith)))

  pub each_at : (es : List Entry) → Each P es → (i : ℕ) → i < length es → P (entry_at es i)
  unfolding entry_at
  each_at [] h i k = absurd (omega arith)
  each_at (e ∷ es) h zero k = h.0
  each_at (e ∷ es) h (suc i) k = each_at es h.1 i (omega arith)

pub each_with : (P Q R : Entry → Type 0) → ((e : Entry) → P e → Q e → R e) → (es : List Entry) → Each P es → Each Q es → Each R es
each_with P Q R f [] p q = tt
each_with P Q R f (e ∷ es) p q = (f e p.0 q.0, each_with P Q R f es p.1 q.1)

pub each_map : (P Q : Entry → Type 0) (g : Entry → Entry) → ((e : Entry) → P e → Q (g e)) → (es : List Entry) → Each P es → Each Q (map g es)
each_map P Q g f [] p = tt
each_map P Q g f (e ∷ es) p = (f e p.0, each_map P Q g f es p.1)
