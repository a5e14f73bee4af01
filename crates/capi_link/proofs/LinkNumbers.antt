-- LinkEA values as numbers, case by case. Assumes nothing.
use mathlib.Core.Path.{◌≡◌, refl, sym, ◌∙◌}
use mathlib.Core.List.{List, [], ◌∷◌}
use mathlib.Core.Bool.{Bool, true, false, cond}
use Prim.Native.Nat.{ℕ, ◌≤◌, ◌<◌}
use borrow.Author.Tests.{ne_eqb, eqb-true, eqb-false}
use native.Mathlib.Omega.{arith}
use lib.Dec.{eqb, ltb}
use lib.ListN.{length, set}
use lib.Seq.{sets}
use Rattle.std.specs.Prelude.{Option, Some, None, Result, Ok, Err, ok_or}
use Rattle.refusals.specs.Numbers.{number}
use Rattle.refusals.specs.declared.Refusal.{Refusal}
use Rattle.refusals.specs.declared.Refusal.TheVariants.{BadLink, TooShort}
use Rattle.refusals.proofs.NumberLaws.{told_number, told_ok}
use Rattle.linkea.specs.Answers.{read_link, reading_number, read_record, record_number}
use Rattle.linkea.specs.declared.LinkHeader.{LinkHeader}
use Rattle.linkea.specs.declared.Found.{Found}
use Rattle.linkea_write.specs.RoundTrip.{found_numbers}
use Rattle.linkea_write.specs.Writer.{refused_given, write_link, written_number, left_by, write_link_bytes}
use Rattle.capi_out.specs.Out.{out_answer, out_numbers}
use Rattle.capi_out.proofs.OutLaws.{out_refused, out_short, out_done}
use Rattle.capi_link.specs.Links.{header_numbers, header_fields, read_fields, record_numbers, found_fields, record_fields, fields_fit, fields_header, header_given, given_number, given_values, given_answer, given_dest, given_out, write_answer, write_dest, write_out}

-- no refusal has number 0
not_zero : (e : Refusal) → number e ≡ 0 → ⊥
not_zero e z =
    let c : ◌≡◌ {A = Result ℕ Refusal} (Err e) (Ok 0) = sym (told_number e 0) ∙ told_ok (number e) 0 z in
    let y : ◌≡◌ {A = ℕ} 0 1 = cc in
    omega (arith, y)

pub empty_short : (l : List ℕ) → eqb (length l) 0 ≡ true → length l < 1
empty_short l e = let n = eqb-true (length l) 0 e in omega arith

pub full_long : (l : List ℕ) → eqb (length l) 0 ≡ false → 1 ≤ length l
full_long l e = let n = eqb-false (length l) 0 e in omega (arith, n)

-- no value is 31
pub none_refused : {A : Type 0} (o : Option A) (e : Refusal) → o ≡ None → Err e ≡ ok_or o BadLink → e ≡ BadLink
none_refused {A = A} o e n h = let r : ◌≡◌ {A = Result A Refusal} (Err e) (Err BadLink) = h ∙ rw n in cc

-- ## Reading

module _ (l out : List ℕ) where
  abbrev pub ReadLeaves : ℕ → List ℕ → Type 0
  ReadLeaves a o =
      (a ≡ out_answer (reading_number (read_link l)) (read_fields (read_link l)) out) × (o ≡ out_numbers (reading_number (read_link l)) (read_fields (read_link l)) out)

  pub read_bad : (n : Refusal) → read_link l ≡ Err n → ReadLeaves (number n) out
  unfolding reading_number
  read_bad n e = out_refused (reading_number (read_link l)) (read_fields (read_link l)) out (number n) (rw e) (not_zero n)

  module _ (h : LinkHeader) (e : read_link l ≡ Ok h) where
    read_number : reading_number (read_link l) ≡ 0
    unfolding reading_number
    read_number = rw e

    read_fields_lem : read_fields (read_link l) ≡ header_fields h
    unfolding read_fields
    read_fields_lem = rw e

    pub read_short : length out < header_numbers → ReadLeaves 17 out
    unfolding header_fields
    read_short k = out_short (reading_number (read_link l)) (read_fields (read_link l)) out read_number (rw read_fields_lem k)

    pub read_done : (x : List ℕ) → header_numbers ≤ length out → x ≡ sets out 0 (h.count ∷ h.total ∷ h.time ∷ h.padding ∷ []) → ReadLeaves 0 x
    unfolding header_fields
    read_done x k q = out_done (reading_number (read_link l)) (read_fields (read_link l)) out x read_number (rw read_fields_lem k) (rw read_fields_lem q)

module _ (l : List ℕ) (p : ℕ) (out : List ℕ) where
  abbrev pub RecordLeaves : ℕ → List ℕ → Type 0
  RecordLeaves a o =
      (a ≡ out_answer (record_number (read_record l p)) (record_fields (read_record l p)) out)
      × (o ≡ out_numbers (record_number (read_record l p)) (record_fields (read_record l p)) out)

  pub record_bad : (n : Refusal) → read_record l p ≡ Err n → RecordLeaves (number n) out
  unfolding record_number
  record_bad n e = out_refused (record_number (read_record l p)) (record_fields (read_record l p)) out (number n) (rw e) (not_zero n)

  module _ (x : Found) (e : read_record l p ≡ Ok x) where
    record_number_lem : record_number (read_record l p) ≡ 0
    unfolding record_number
    record_number_lem = rw e

    record_fields_lem : record_fields (read_record l p) ≡ found_fields x
    unfolding record_fields
    record_fields_lem = rw e

    pub record_short : length out < record_numbers → RecordLeaves 17 out
    unfolding found_fields found_numbers
    record_short k = out_short (record_number (read_record l p)) (record_fields (read_record l p)) out record_number_lem (rw record_fields_lem k)

    pub record_done : (y : List ℕ) → record_numbers ≤ length out → y ≡ sets out 0 (found_fields x) → RecordLeaves 0 y
    unfolding found_fields found_numbers
    record_done y k q = out_done (record_number (read_record l p)) (record_fields (read_record l p)) out y record_number_lem (rw record_fields_lem k) (rw record_fields_lem q)

-- ## The fields handed in

given_fits : (l : List ℕ) (b : Bool) (h : LinkHeader) → fields_fit l ≡ b → cond b (Some (fields_header l)) None ≡ Some h → (fields_fit l ≡ true) × (fields_header l ≡ h)
given_fits l true h f e = (f, cc)
given_fits l false h f e = let z : ◌≡◌ {A = ℕ} 0 1 = cc in absurd (omega (arith, z))

-- a header that was given is that of the fields, which fit
pub given_is : (l : List ℕ) (h : LinkHeader) → header_given l ≡ Some h → (fields_fit l ≡ true) × (fields_header l ≡ h)
unfolding header_given
given_is l h e = given_fits l (fields_fit l) h refl e

given_not : (l : List ℕ) (b : Bool) → fields_fit l ≡ b → cond b (Some (fields_header l)) None ≡ None → fields_fit l ≡ false
given_not l true f e = let z : ◌≡◌ {A = ℕ} 0 1 = cc in absurd (omega (arith, z))
given_not l false f e = f

pub given_none : (l : List ℕ) → header_given l ≡ None → fields_fit l ≡ false
unfolding header_given
given_none l e = given_not l (fields_fit l) refl e

-- ## What the writer leaves

-- of a header that was given: the answer, the destination and the number handed out
module _ (h : LinkHeader) (records names dest out : List ℕ) where
  abbrev pub LeavesGiven : ℕ → List ℕ → List ℕ → Type 0
  LeavesGiven a d o =
      (a ≡ given_answer h records names dest out) × ((d ≡ given_dest h records names dest out) × (o ≡ given_out h records names dest out))

  refused : (k : ℕ) → given_number h records names dest ≡ k → (k ≡ 0 → ⊥) → LeavesGiven k dest out
  unfolding given_answer given_dest given_out
  refused k e z =
      let r = out_refused (given_number h records names dest) (given_values h) out k e z in
      (r.0, (rw (← r.0, ne_eqb k 0 z), r.1))

  pub write_refused : refused_given h records names ≡ true → LeavesGiven 31 dest out
  unfolding given_number write_link written_number
  write_refused w = refused 31 (rw w) (λ z. omega (arith, z))

  pub write_unplaced : refused_given h records names ≡ false → length out < 1 → LeavesGiven 17 dest out
  unfolding given_answer given_dest given_out given_number given_values write_link written_number
  write_unplaced w k = go (ltb (length dest) h.total) refl
    where
      go : (b : Bool) → ltb (length dest) h.total ≡ b → LeavesGiven 17 dest out
      go false e =
          let r = out_short (given_number h records names dest) (given_values h) out (rw (w, e)) k in
          (r.0, (rw (← r.0), r.1))
      go true e = refused 17 (rw (w, e)) (λ z. omega (arith, z))

  pub write_wrong : (n : Refusal) (d : List ℕ) → write_link h records names dest ≡ Err n → d ≡ write_link_bytes h records names dest →
      LeavesGiven (number n) d out
  unfolding given_number written_number write_link_bytes left_by
  write_wrong n d w q = let e : d ≡ dest = q ∙ rw w in rw e (refused (number n) (rw w) (not_zero n))

  -- the bytes written are the total
  written_total : (b : ℕ) → write_link h records names dest ≡ Ok b → h.total ≡ b
  unfolding write_link
  written_total b w = go (refused_given h records names) (ltb (length dest) h.total) w
    where
      go : (r t : Bool) → cond r (Err BadLink) (cond t (Err TooShort) (Ok h.total)) ≡ Ok b → h.total ≡ b
      go true t e = let z : ◌≡◌ {A = ℕ} 0 1 = cc in absurd (omega (arith, z))
      go false true e = let z : ◌≡◌ {A = ℕ} 0 1 = cc in absurd (omega (arith, z))
      go false false e = cc

  pub write_done : (b : ℕ) (d o : List ℕ) → write_link h records names dest ≡ Ok b → 1 ≤ length out → d ≡ write_link_bytes h records names dest →
      o ≡ set out 0 b → LeavesGiven 0 d o
  unfolding given_answer given_dest given_out given_number given_values written_number
  write_done b d o w k p q =
      let r = out_done (given_number h records names dest) (given_values h) out o (rw w) k (rw (written_total b w) q) in
      (r.0, (rw (← r.0) p, r.1))

-- of the fields handed in
module _ (fields records names dest out : List ℕ) where
  abbrev pub Leaves : ℕ → List ℕ → List ℕ → Type 0
  Leaves a d o =
      (a ≡ write_answer fields records names dest out) × ((d ≡ write_dest fields records names dest out) × (o ≡ write_out fields records names dest out))

  pub write_none : header_given fields ≡ None → Leaves 31 dest out
  unfolding write_answer write_dest write_out
  write_none e = let f = given_none fields e in (rw f, (rw f, rw f))

  pub write_header : (h : LinkHeader) (a : ℕ) (d o : List ℕ) → header_given fields ≡ Some h → LeavesGiven h records names dest out a d o → Leaves a d o
  unfolding write_answer write_dest write_out
  write_header h a d o g w = let f = given_is fields h g in (rw (f.0, f.1) w.0, (rw (f.0, f.1) w.1.0, rw (f.0, f.1) w.1.1))
