-- One more row that is given, and one more owners line that is taken. Assumes nothing.
use Prim.Native.Nat.{ℕ, ◌<◌}
use mathlib.Core.Path.{◌≡◌, refl, sym, ap, subst, ◌∙◌}
use mathlib.Core.List.{List, [], ◌∷◌}
use mathlib.Core.Bool.{Bool, true, false, true≢false}
use lib.ListN.{length, set, get_or}
use lib.Seq.{get_or-set_same, get_or-set_other}
use lib.Dec.{eqb}
use borrow.Author.Tests.{eqb-true, eqb-false}
use Rattle.tables.specs.Bytes.{is_used}
use Rattle.intake.specs.Owners.{Owning, no_owner, owning, Number, no_number, number, decimal, after_space, third, second, first, until_line, after_line, next_owner}
use Rattle.intake.specs.Reading.{first_unused, parent_from, object_from}
use Rattle.intake.specs.Given.{GivenParent, GivenObject, Becomes, stands, given}
use Rattle.intake.proofs.RowLaws.{unused_at}

-- ## Owners

-- what follows the owners line that was read; d where there was none
rest_of : List ℕ → Owning → List ℕ
rest_of d no_owner = d
rest_of d (owning u g i rest) = rest

third_rest : (u g : ℕ) (after : List ℕ) (x : Number) → rest_of after (third u g after x) ≡ after
unfolding rest_of third
third_rest u g after no_number = refl
third_rest u g after (number i []) = refl
third_rest u g after (number i (b ∷ l)) = refl

second_rest : (u : ℕ) (after : List ℕ) (x : Number) → rest_of after (second u after x) ≡ after
unfolding rest_of second
second_rest u after no_number = refl
second_rest u after (number g l) = third_rest u g after (after_space l)

first_rest : (after : List ℕ) (x : Number) → rest_of after (first after x) ≡ after
unfolding rest_of first
first_rest after no_number = refl
first_rest after (number u l) = second_rest u after (after_space l)

-- what is left of the owners file is what follows the line that was read
left : (o : List ℕ) → rest_of (after_line o) (next_owner o) ≡ after_line o
unfolding next_owner
left o = first_rest (after_line o) (decimal false 0 (until_line o))

-- "its next line as each entry closes"
pub next_rest : (o : List ℕ) (u g i : ℕ) (rest : List ℕ) → next_owner o ≡ owning u g i rest → rest ≡ after_line o
unfolding rest_of
next_rest o u g i rest e = sym (ap (rest_of (after_line o)) e) ∙ left o

-- ## A row that is given

pub parent_used : (room : ℕ) (owners : List ℕ) (all : List (List ℕ)) (before after : List ℕ) → GivenParent room owners all before after → is_used after ≡ true
unfolding is_used parent_from
parent_used room owners all before after s = ap is_used s.row

pub object_used : (owners : List ℕ) (all : List (List ℕ)) (before after : List ℕ) → GivenObject owners all before after → is_used after ≡ true
unfolding is_used object_from
object_used owners all before after s = ap is_used s.row

-- rows B became rows T, whose first unused one is filled
module _ (So : List ℕ → List ℕ → Type 0) (used : (before after : List ℕ) → So before after → is_used after ≡ true) (B T : List (List ℕ)) where
  -- a row that isn't used stands as it was
  still : (before after : List ℕ) → is_used after ≡ false → Becomes So before after → after ≡ before
  still before after h (stands e) = e
  still before after h (given u s) = absurd (true≢false (sym (used before after s) ∙ h))

  -- it is given, and the others are what they were
  pub fill : (x : List ℕ) → ((r : ℕ) → Becomes So (get_or B r []) (get_or T r [])) → first_unused T < length T
      → (get_or T (first_unused T) [] ≡ get_or B (first_unused T) [] → So (get_or B (first_unused T) []) x)
      → (r : ℕ) → Becomes So (get_or B r []) (get_or (set T (first_unused T) x) r [])
  fill x rows h s r = go (eqb r (first_unused T)) refl where
    same : get_or T (first_unused T) [] ≡ get_or B (first_unused T) []
    same = still (get_or B (first_unused T) []) (get_or T (first_unused T) []) (unused_at T h) (rows (first_unused T))

    here : Becomes So (get_or B (first_unused T) []) (get_or (set T (first_unused T) x) (first_unused T) [])
    here = rw (get_or-set_same T (first_unused T) x [] h) (given (ap is_used (sym same) ∙ unused_at T h) (s same))

    go : (t : Bool) → eqb r (first_unused T) ≡ t → Becomes So (get_or B r []) (get_or (set T (first_unused T) x) r [])
    go true e =
        subst (λ (n : ℕ). Becomes So (get_or B n []) (get_or (set T (first_unused T) x) n [])) (sym (eqb-true r (first_unused T) e)) here
    go false e = rw (get_or-set_other T (first_unused T) r x [] (eqb-false r (first_unused T) e)) (rows r)
