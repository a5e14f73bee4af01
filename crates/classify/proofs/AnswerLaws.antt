-- The class at a position, and the refusals, case by case as the code asks. Assumes nothing.
use mathlib.Core.Path.{◌≡◌, sym, ap, ◌∙◌}
use mathlib.Core.List.{List}
use mathlib.Core.Bool.{true, false}
use Prim.Native.Nat.{ℕ, suc, ◌/◌, ◌<◌}
use native.Mathlib.Decide.{ℕ_discrete}
use borrow.Author.Tests.{eq-eqb, ne_eqb}
use lib.ListN.{length}
use Rattle.std.specs.Prelude.{Ok, Err}
use Rattle.refusals.specs.Numbers.{number, told, refusal}
use Rattle.refusals.specs.declared.Refusal.{Refusal}
use Rattle.refusals.specs.declared.Refusal.TheVariants.{NoPlace}
use Rattle.refusals.proofs.NumberLaws.{told_number}
use Rattle.tables.proofs.CheckLaws.{refusal_not, tables_refused, tables_accepted}
use Rattle.tables.specs.Bytes.{parent_size, object_size, parse, parse_parents}
use Rattle.tables.specs.Positions.{row_at, is_position, is_end}
use Rattle.tables.specs.Check.{tables_number}
use Rattle.tables.specs.declared.Position.{Position}
use Rattle.tables.proofs.PositionLaws.{position_one, position_two, position_end, one_row, two_row}
use Rattle.rules.specs.Classes.{header_class, slot_class, object_class}
use Rattle.rules.specs.Steps.{part_class, class_at}
use Rattle.rules.specs.declared.Class.{Class}
use Rattle.rules.specs.declared.Class.TheVariants.{Header as OfHeader, Slot as OfSlot, Object as OfObject}
use Rattle.rules.specs.declared.HeaderClass.{HeaderClass}
use Rattle.rules.specs.declared.SlotClass.{SlotClass}
use Rattle.rules.specs.declared.ObjectClass.{ObjectClass}
use Rattle.rules.proofs.Tests.{clash}
use Rattle.classify.specs.Answer.{has_class, class_refused, class_answer}

-- ## The row of a position lies in its table

pub parent_there : (p o : List ℕ) (at : Position) → is_position (parse p o) at ≡ true → at.stage ≡ 1 → at.row < length p / parent_size
parent_there p o at h e = one_row p at.row at.part (position_one (parse p o) at e ∙ h)

pub object_there : (p o : List ℕ) (at : Position) → is_position (parse p o) at ≡ true → is_end at ≡ false → (at.stage ≡ 1 → ⊥) →
    at.row < length o / object_size
object_there p o at h n d = go (ℕ_discrete at.stage 2)
  where
    go : Dec (at.stage ≡ 2) → at.row < length o / object_size
    go (yes e) = two_row o at.row at.part (position_two (parse p o) at e ∙ h)
    go (no m) = clash (position_end (parse p o) at d m ∙ h) n

-- ## The class

module _ (p o : List ℕ) (at : Position) where
  pub at_object : (at.stage ≡ 1 → ⊥) → (c : ObjectClass) → c ≡ object_class (parse p o) at.row → OfObject c ≡ class_at (parse p o) at
  unfolding class_at
  at_object d c e = rw (ne_eqb at.stage 1 d, e)

  pub at_header : at.stage ≡ 1 → at.part ≡ 0 → (c : HeaderClass) → c ≡ header_class (row_at (parse_parents p) at.row) → OfHeader c ≡ class_at (parse p o) at
  unfolding class_at part_class
  at_header h k c e = rw (eq-eqb at.stage 1 h, k) (ap (λ (x : HeaderClass). OfHeader x) e)

  pub at_slot : at.stage ≡ 1 → (j : ℕ) → at.part ≡ suc j → (c : SlotClass) → c ≡ slot_class (parse p o) at.row j → OfSlot c ≡ class_at (parse p o) at
  unfolding class_at part_class
  at_slot h j k c e = rw (eq-eqb at.stage 1 h, k) (ap (λ (x : SlotClass). OfSlot x) e)

-- ## The answer

module _ (p o : List ℕ) (at : Position) where
  pub answer_refused : (e : Refusal) → Err e ≡ told (tables_number p o) (tt {0}) → Err e ≡ class_answer p o at
  unfolding class_answer class_refused
  answer_refused e h =
      let n = tables_refused p o e h in
      rw (← n, ne_eqb (number e) 0 (refusal_not e)) (sym (told_number e (class_at (parse p o) at)))

  module _ (h : Ok (tt {0}) ≡ told (tables_number p o) (tt {0})) where
    pub answer_nowhere : is_position (parse p o) at ≡ false → Err NoPlace ≡ class_answer p o at
    unfolding class_answer class_refused has_class told refusal
    answer_nowhere k = let n = tables_accepted p o h in rw (← n, k)

    pub answer_end : is_position (parse p o) at ≡ true → is_end at ≡ true → Err NoPlace ≡ class_answer p o at
    unfolding class_answer class_refused has_class told refusal
    answer_end k m = let n = tables_accepted p o h in rw (← n, k, m)

    pub answer_class : is_position (parse p o) at ≡ true → is_end at ≡ false → (c : Class) → c ≡ class_at (parse p o) at → Ok c ≡ class_answer p o at
    unfolding class_answer class_refused has_class told
    answer_class k m c q = let n = tables_accepted p o h in rw (← n, k, m, q)
