-- A layout written from numbers, case by case. Assumes nothing.
use mathlib.Core.Path.{◌≡◌, refl, ◌∙◌}
use mathlib.Core.List.{List}
use mathlib.Core.Bool.{Bool, true, false, cond, ◌&&◌}
use Prim.Native.Nat.{ℕ, ◌≤◌, ◌<◌}
use borrow.Author.Tests.{ne_eqb, eqb-true, leb-true, eq-eqb}
use native.Mathlib.Omega.{arith}
use lib.Dec.{eqb, leb}
use lib.ListN.{length, get_or, set}
use Rattle.wire.proofs.Both.{and_first, and_second}
use Rattle.layout.specs.Layout.{layout_size, magic_one, magic_three}
use Rattle.wire.specs.Numbers.{max_word}
use Rattle.layout_write.specs.Writer.{writable, write_layout, written_number, left_by, write_bytes}
use Rattle.layout.specs.declared.Header.{Header}
use Rattle.std.specs.Prelude.{Some, None, Ok, Err}
use Rattle.refusals.specs.Numbers.{number}
use Rattle.refusals.specs.declared.Refusal.{Refusal}
use Rattle.refusals.proofs.NumberLaws.{number_above}
use Rattle.capi_out.specs.Out.{out_numbers}
use Rattle.capi_write.specs.Write.{header_numbers, max_half, is_version, fields_fit, fields_header, fields_count, header_given, header_number, header_values, header_answer, header_dest, header_out, write_number, write_values, write_answer, write_dest, magic_of}
use Rattle.layout_write.proofs.WriteLaws.{write_took}
use Rattle.capi_out.proofs.OutLaws.{out_refused, out_short, out_done}

-- ## The magic numbers

pub magic_three_lem : (v : ℕ) → v ≡ 3 → magic_three ≡ magic_of v
unfolding magic_of
magic_three_lem v e = rw (eq-eqb v 3 e)

pub magic_one_lem : (v : ℕ) → (v ≡ 3 → ⊥) → magic_one ≡ magic_of v
unfolding magic_of
magic_one_lem v e = rw (ne_eqb v 3 e)

-- ## The fields

-- seven numbers that fit
pub record FitFields (l : List ℕ) : Type 0 where
  pub seven : length l ≡ header_numbers
  pub pattern : get_or l 1 0 ≤ max_word
  pub stripe : get_or l 4 0 ≤ max_word
  pub generation : get_or l 6 0 ≤ max_half

pub fit_fields : (l : List ℕ) → fields_fit l ≡ true → FitFields l
unfolding fields_fit
fit_fields l f =
    let a : Bool = eqb (length l) header_numbers in
    let b : Bool = is_version (get_or l 0 0) in
    let c : Bool = leb (get_or l 1 0) max_word in
    let d : Bool = leb (get_or l 4 0) max_word in
    let e : Bool = leb (get_or l 6 0) max_half in
    let abcd : (a && b && c && d) ≡ true = and_first (a && b && c && d) e f in
    let abc : (a && b && c) ≡ true = and_first (a && b && c) d abcd in
    let ab : (a && b) ≡ true = and_first (a && b) c abc in
    record {
      seven = eqb-true (length l) header_numbers (and_first a b ab);
      pattern = leb-true (get_or l 1 0) max_word (and_second (a && b) c abc);
      stripe = leb-true (get_or l 4 0) max_word (and_second (a && b && c) d abcd);
      generation = leb-true (get_or l 6 0) max_half (and_second (a && b && c && d) e f);
    }

given_fits : (l : List ℕ) (b : Bool) (h : Header) → fields_fit l ≡ b → cond b (Some (fields_header l)) None ≡ Some h → (fields_fit l ≡ true) × (fields_header l ≡ h)
given_fits l true h f e = (f, cc)
given_fits l false h f e = cc

-- a header that was given is that of the fields, which fit
pub given_is : (l : List ℕ) (h : Header) → header_given l ≡ Some h → (fields_fit l ≡ true) × (fields_header l ≡ h)
unfolding header_given
given_is l h e = given_fits l (fields_fit l) h refl e

given_not : (l : List ℕ) (b : Bool) → fields_fit l ≡ b → cond b (Some (fields_header l)) None ≡ None → fields_fit l ≡ false
given_not l true f e = cc
given_not l false f e = f

pub given_none : (l : List ℕ) → header_given l ≡ None → fields_fit l ≡ false
unfolding header_given
given_none l e = given_not l (fields_fit l) refl e

pub count_of : (l : List ℕ) → get_or l 5 0 ≡ fields_count l
unfolding fields_count
count_of l = refl

-- what the writer leaves of a header that was given: the answer, the destination and the number handed out
module _ (h : Header) (n : ℕ) (pool slots dest out : List ℕ) where
  abbrev pub LeavesGiven : ℕ → List ℕ → List ℕ → Type 0
  LeavesGiven a d o =
      (a ≡ header_answer h n pool slots dest out) × ((d ≡ header_dest h n pool slots dest out) × (o ≡ header_out h n pool slots dest out))

  refused : (k : ℕ) → header_number h n pool slots dest ≡ k → (k ≡ 0 → ⊥) → LeavesGiven k dest out
  unfolding header_answer header_dest header_out
  refused k e z =
      let r = out_refused (header_number h n pool slots dest) (header_values h n) out k e z in
      (r.0, (rw (← r.0, ne_eqb k 0 z), r.1))

  pub write_refused : writable h n pool slots ≡ false → LeavesGiven 13 dest out
  unfolding header_number write_layout written_number
  write_refused w = refused 13 (rw w) (λ z. omega (arith, z))

  pub write_unplaced : writable h n pool slots ≡ true → length out < 1 → LeavesGiven 17 dest out
  unfolding header_answer header_dest header_out header_number header_values write_layout written_number
  write_unplaced w k = go (leb (layout_size h.magic n) (length dest)) refl
    where
      go : (b : Bool) → leb (layout_size h.magic n) (length dest) ≡ b → LeavesGiven 17 dest out
      go true e =
          let r = out_short (header_number h n pool slots dest) (header_values h n) out (rw (w, e)) k in
          (r.0, (rw (← r.0), r.1))
      go false e = refused 17 (rw (w, e)) (λ z. omega (arith, z))

  pub write_stopped : (r : Refusal) (d : List ℕ) → write_layout h n pool slots dest ≡ Err r → d ≡ write_bytes h n pool slots dest → LeavesGiven (number r) d out
  unfolding header_number written_number write_bytes left_by
  write_stopped r d w q = let e : d ≡ dest = q ∙ rw w in rw e (refused (number r) (rw w) (number_above r))

  pub write_done : (b : ℕ) (d o : List ℕ) → write_layout h n pool slots dest ≡ Ok b → 1 ≤ length out → d ≡ write_bytes h n pool slots dest →
      o ≡ set out 0 b → LeavesGiven 0 d o
  unfolding header_answer header_dest header_out header_number header_values written_number
  write_done b d o w k p q =
      let r = out_done (header_number h n pool slots dest) (header_values h n) out o (rw w) k (rw (← (write_took h n pool slots dest b w).2) q) in
      (r.0, (rw (← r.0) p, r.1))

module _ (fields pool slots dest out : List ℕ) where
  -- what the writer leaves of the fields handed in
  abbrev pub Leaves : ℕ → List ℕ → List ℕ → Type 0
  Leaves a d o =
      (a ≡ write_answer fields pool slots dest out) × ((d ≡ write_dest fields pool slots dest out)
      × (o ≡ out_numbers (write_number fields pool slots dest) (write_values fields) out))

  pub write_none : header_given fields ≡ None → Leaves 13 dest out
  unfolding write_number write_answer write_dest
  write_none e =
      let r = out_refused (write_number fields pool slots dest) (write_values fields) out 13 (rw (given_none fields e)) (λ z. omega (arith, z)) in
      (r.0, (rw (← r.0), r.1))

  module _ (h : Header) (n : ℕ) (g : header_given fields ≡ Some h) (c : n ≡ fields_count fields) where
    number_is : write_number fields pool slots dest ≡ header_number h n pool slots dest
    unfolding write_number
    number_is = let f = given_is fields h g in rw (f.0, f.1, ← c)

    values_are : write_values fields ≡ header_values h n
    unfolding write_values
    values_are = let f = given_is fields h g in rw (f.1, ← c)

    pub write_header : (a : ℕ) (d o : List ℕ) → LeavesGiven h n pool slots dest out a d o → Leaves a d o
    unfolding write_answer write_dest header_answer header_dest header_out
    write_header a d o w =
        let f = given_is fields h g in
        (rw (number_is, values_are) w.0, (rw (number_is, values_are, f.1, ← c) w.1.0, rw (number_is, values_are) w.1.1))
