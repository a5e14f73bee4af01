-- Layouts as numbers, case by case. Assumes nothing.
use mathlib.Core.Path.{◌≡◌, refl, sym, ◌∙◌}
use mathlib.Core.List.{List, [], ◌∷◌}
use mathlib.Core.Bool.{Bool, true, false, cond}
use Prim.Native.Nat.{ℕ, ◌≤◌, ◌<◌}
use borrow.Author.Tests.{eq-eqb, ne_eqb}
use native.Mathlib.Omega.{arith}
use lib.Dec.{eqb}
use lib.ListN.{length, get_or, set}
use lib.Seq.{sets}
use Rattle.layout.specs.Layout.{plain_header, pool_header, magic_three, header_size}
use Rattle.layout.specs.Answers.{read_number, slot_read_number, rewrite_answer, rewrite_bytes}
use Rattle.layout_write.specs.Writer.{slot_numbers, slot_fields, slot_read_fields, given_from, given_at}
use Rattle.fid.specs.declared.OstFid.{OstFid}
use Rattle.layout.specs.declared.Header.{Header}
use Rattle.layout.specs.declared.Slot.{Slot}
use Rattle.layout.specs.declared.Slot.TheVariants.{Hole, Names}
use Rattle.std.specs.Prelude.{Option, Some, None, Result, Ok, Err}
use Rattle.refusals.specs.Numbers.{number}
use Rattle.refusals.specs.declared.Refusal.{Refusal}
use Rattle.refusals.proofs.NumberLaws.{number_above}
use Rattle.capi_out.specs.Out.{out_answer, out_numbers}
use Rattle.capi_layout.specs.Layouts.{header_numbers, version_of, header_fields, read_fields, rewrite_given, given_left, rewrite_number, rewrite_left}
use Rattle.layout_write.proofs.SlotNumbers.{fields_five}
use Rattle.capi_out.proofs.OutLaws.{out_refused, out_short, out_done, two_runs}

-- ## Reading

pub version_three : (m h : ℕ) → h ≡ header_size m → h ≡ pool_header → 3 ≡ version_of m
unfolding header_size version_of
version_three m h e k = go (eqb m magic_three) (sym e ∙ k)
  where
    go : (b : Bool) → cond {A = ℕ} b pool_header plain_header ≡ pool_header → 3 ≡ cond {A = ℕ} b 3 1
    go true q = refl
    go false q = absurd (omega (arith, q))

pub version_one : (m h : ℕ) → h ≡ header_size m → (h ≡ pool_header → ⊥) → 1 ≡ version_of m
unfolding header_size version_of
version_one m h e k = go (eqb m magic_three) (λ q. k (e ∙ q))
  where
    go : (b : Bool) → (cond {A = ℕ} b pool_header plain_header ≡ pool_header → ⊥) → 1 ≡ cond {A = ℕ} b 3 1
    go true q = absurd (q refl)
    go false q = refl

pub header_put : (l x y : List ℕ) (h : Header) (n v s : ℕ) → v ≡ version_of h.magic → s ≡ header_size h.magic →
    x ≡ sets l 0 (v ∷ h.pattern ∷ h.oid ∷ h.seq ∷ []) → y ≡ sets x 4 (h.stripe ∷ n ∷ h.generation ∷ s ∷ []) →
    y ≡ sets l 0 (header_fields h n)
unfolding header_fields
header_put l x y h n v s p q e f = rw (← p, ← q) (two_runs l x y 4 (v ∷ h.pattern ∷ h.oid ∷ h.seq ∷ []) (h.stripe ∷ n ∷ h.generation ∷ s ∷ []) e f refl)

module _ (R : Result (Header × ℕ) Refusal) (out : List ℕ) where
  pub read_bad : (r : Refusal) → R ≡ Err r → (number r ≡ out_answer (read_number R) (read_fields R) out) × (out ≡ out_numbers (read_number R) (read_fields R) out)
  unfolding read_number
  read_bad r e = out_refused (read_number R) (read_fields R) out (number r) (rw e) (number_above r)

  module _ (h : Header) (n : ℕ) (e : R ≡ Ok (h, n)) where
    zero_number : read_number R ≡ 0
    unfolding read_number
    zero_number = rw e

    eight : length (read_fields R) ≡ header_numbers
    unfolding read_fields header_fields
    eight = rw e

    pub read_short : length out < header_numbers → (17 ≡ out_answer (read_number R) (read_fields R) out) × (out ≡ out_numbers (read_number R) (read_fields R) out)
    read_short k = out_short (read_number R) (read_fields R) out zero_number (rw eight k)

    pub read_done : (x : List ℕ) → header_numbers ≤ length out → x ≡ sets out 0 (header_fields h n) →
        (0 ≡ out_answer (read_number R) (read_fields R) out) × (x ≡ out_numbers (read_number R) (read_fields R) out)
    unfolding read_fields
    read_done x k q = out_done (read_number R) (read_fields R) out x zero_number (rw eight k) (rw e q)

pub hole_put : (l x y : List ℕ) (s : Slot) → s ≡ Hole → x ≡ sets l 0 (0 ∷ 0 ∷ 0 ∷ 0 ∷ []) → y ≡ set x 4 0 → y ≡ sets l 0 (slot_fields s)
unfolding slot_fields
hole_put l x y s e p q = rw (e, q, p)

pub names_put : (l x y : List ℕ) (s : Slot) (f : OstFid) (g i : ℕ) → s ≡ Names f g i → x ≡ sets l 0 (1 ∷ f.0.seq ∷ f.0.oid ∷ g ∷ []) → y ≡ set x 4 i →
    y ≡ sets l 0 (slot_fields s)
unfolding slot_fields
names_put l x y s f g i e p q = rw (e, q, p)

module _ (R : Result Slot Refusal) (out : List ℕ) where
  pub slot_bad : (r : Refusal) → R ≡ Err r → (number r ≡ out_answer (slot_read_number R) (slot_read_fields R) out) × (out ≡ out_numbers (slot_read_number R) (slot_read_fields R) out)
  unfolding slot_read_number
  slot_bad r e = out_refused (slot_read_number R) (slot_read_fields R) out (number r) (rw e) (number_above r)

  module _ (s : Slot) (e : R ≡ Ok s) where
    zero_slot_lem : slot_read_number R ≡ 0
    unfolding slot_read_number
    zero_slot_lem = rw e

    five : length (slot_read_fields R) ≡ slot_numbers
    unfolding slot_read_fields
    five = rw e (fields_five s)

    pub slot_short : length out < slot_numbers → (17 ≡ out_answer (slot_read_number R) (slot_read_fields R) out) × (out ≡ out_numbers (slot_read_number R) (slot_read_fields R) out)
    slot_short k = out_short (slot_read_number R) (slot_read_fields R) out zero_slot_lem (rw five k)

    pub slot_done : (x : List ℕ) → slot_numbers ≤ length out → x ≡ sets out 0 (slot_fields s) →
        (0 ≡ out_answer (slot_read_number R) (slot_read_fields R) out) × (x ≡ out_numbers (slot_read_number R) (slot_read_fields R) out)
    unfolding slot_read_fields
    slot_done x k q = out_done (slot_read_number R) (slot_read_fields R) out x zero_slot_lem (rw five k) (rw e q)

-- ## Rewriting

module _ (l : List ℕ) (j : ℕ) (slot : List ℕ) where
  pub rewrite_uneven : (length slot ≡ slot_numbers → ⊥) → (13 ≡ rewrite_number l j slot) × (l ≡ rewrite_left l j slot)
  unfolding rewrite_number rewrite_left
  rewrite_uneven h = (rw (ne_eqb (length slot) slot_numbers h), rw (ne_eqb (length slot) slot_numbers h))

  five_is : (g : Option Slot) → g ≡ given_from (get_or slot 0 0) (get_or slot 1 0) (get_or slot 2 0) (get_or slot 3 0) (get_or slot 4 0) → given_at slot 0 ≡ g
  unfolding given_at
  five_is g e = sym e

  pub rewrite_none : (g : Option Slot) → length slot ≡ slot_numbers → g ≡ given_from (get_or slot 0 0) (get_or slot 1 0) (get_or slot 2 0) (get_or slot 3 0) (get_or slot 4 0) →
      g ≡ None → (13 ≡ rewrite_number l j slot) × (l ≡ rewrite_left l j slot)
  unfolding rewrite_number rewrite_left rewrite_given given_left
  rewrite_none g h e q =
      let z : given_at slot 0 ≡ None = five_is g e ∙ q in
      (rw (eq-eqb (length slot) slot_numbers h, z), rw (eq-eqb (length slot) slot_numbers h, z))

  pub rewrite_slot : (g : Option Slot) (s : Slot) (a : ℕ) (m : List ℕ) → length slot ≡ slot_numbers →
      g ≡ given_from (get_or slot 0 0) (get_or slot 1 0) (get_or slot 2 0) (get_or slot 3 0) (get_or slot 4 0) → g ≡ Some s →
      a ≡ rewrite_answer l j s → m ≡ rewrite_bytes l j s → (a ≡ rewrite_number l j slot) × (m ≡ rewrite_left l j slot)
  unfolding rewrite_number rewrite_left rewrite_given given_left
  rewrite_slot g s a m h e q x y =
      let z : given_at slot 0 ≡ Some s = five_is g e ∙ q in
      (rw (eq-eqb (length slot) slot_numbers h, z, x), rw (eq-eqb (length slot) slot_numbers h, z, y))
