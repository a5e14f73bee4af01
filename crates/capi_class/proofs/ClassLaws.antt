-- The class at a position as numbers, case by case. Assumes nothing.
use mathlib.Core.Path.{◌≡◌, refl}
use mathlib.Core.List.{List}
use Prim.Native.Nat.{ℕ, ◌≤◌, ◌<◌}
use lib.ListN.{length}
use lib.Seq.{sets}
use Rattle.std.specs.Prelude.{Result, Ok, Err}
use Rattle.refusals.specs.Numbers.{number}
use Rattle.refusals.specs.declared.Refusal.{Refusal}
use Rattle.tables.proofs.CheckLaws.{refusal_not}
use Rattle.rules.specs.Classes.{only, header_numbers, slot_numbers, object_numbers, class_numbers}
use Rattle.rules.specs.declared.Class.{Class}
use Rattle.rules.specs.declared.Class.TheVariants.{Header as OfHeader, Slot as OfSlot, Object as OfObject}
use Rattle.rules.specs.declared.HeaderClass.{HeaderClass}
use Rattle.rules.specs.declared.HeaderClass.TheVariants.{CLEAN as CLEAN-HEADER, SELF, UNUSED as UNUSED-PARENT}
use Rattle.rules.specs.declared.SlotClass.{SlotClass}
use Rattle.rules.specs.declared.SlotClass.TheVariants.{CLEAN, HOLE, MULTIPLE, DANGLING, BLANK, UNMATCHED, OWNER, WRONGOST as WRONG-OST}
use Rattle.rules.specs.declared.ObjectClass.{ObjectClass}
use Rattle.rules.specs.declared.ObjectClass.TheVariants.{SPARE, EMPTY, ORPHAN, CONFLICT, KEPT, UNUSED}
use Rattle.classify.specs.Answer.{class_number}
use Rattle.capi_out.specs.Out.{out_answer, out_numbers}
use Rattle.capi_class.specs.Classes.{told_numbers}
use Rattle.capi_out.proofs.OutLaws.{out_refused, out_short, out_done}

-- the numbers of a class are four
header_four : (c : HeaderClass) → length (header_numbers c) ≡ 4
unfolding header_numbers only
header_four CLEAN-HEADER = refl
header_four SELF = refl
header_four UNUSED-PARENT = refl

slot_four : (c : SlotClass) → length (slot_numbers c) ≡ 4
unfolding slot_numbers only
slot_four CLEAN = refl
slot_four HOLE = refl
slot_four MULTIPLE = refl
slot_four DANGLING = refl
slot_four BLANK = refl
slot_four (UNMATCHED f i) = refl
slot_four OWNER = refl
slot_four WRONG-OST = refl

object_four : (c : ObjectClass) → length (object_numbers c) ≡ 4
unfolding object_numbers only
object_four SPARE = refl
object_four EMPTY = refl
object_four ORPHAN = refl
object_four CONFLICT = refl
object_four KEPT = refl
object_four UNUSED = refl

pub class_four : (c : Class) → length (class_numbers c) ≡ 4
unfolding class_numbers
class_four (OfHeader c) = header_four c
class_four (OfSlot c) = slot_four c
class_four (OfObject c) = object_four c

module _ (A : Result Class Refusal) (out : List ℕ) where
  -- the answer, and what out holds then
  abbrev pub Told : ℕ → List ℕ → Type 0
  Told n x = (n ≡ out_answer (class_number A) (told_numbers A) out) × (x ≡ out_numbers (class_number A) (told_numbers A) out)

  pub class_none : (e : Refusal) → Err e ≡ A → Told (number e) out
  unfolding class_number
  class_none e h = out_refused (class_number A) (told_numbers A) out (number e) (rw (← h)) (refusal_not e)

  module _ (c : Class) (e : Ok c ≡ A) where
    zero_class : class_number A ≡ 0
    unfolding class_number
    zero_class = rw (← e)

    told_are : told_numbers A ≡ class_numbers c
    unfolding told_numbers
    told_are = rw (← e)

    pub class_short : length out < 4 → Told 17 out
    class_short h = out_short (class_number A) (told_numbers A) out zero_class (rw (told_are, class_four c) h)

    pub class_done : (x : List ℕ) → 4 ≤ length out → x ≡ sets out 0 (class_numbers c) → Told 0 x
    class_done x h p = out_done (class_number A) (told_numbers A) out x zero_class (rw (told_are, class_four c) h) (rw told_are p)
