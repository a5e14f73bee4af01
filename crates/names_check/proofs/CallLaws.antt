-- Refusals of a call, in their order. Assumes nothing.
use mathlib.Core.Path.{◌≡◌, refl, sym, ap, ◌∙◌}
use mathlib.Core.Bool.{Bool, true, false, cond, true≢false}
use Rattle.std.specs.Prelude.{Result, Ok, Err, is_ok}
use Rattle.refusals.specs.Numbers.{number}
use Rattle.refusals.specs.declared.Refusal.{Refusal}
use Rattle.refusals.proofs.NumberLaws.{told_ok, told_number}
use mathlib.Core.List.{List, [], ◌∷◌}
use Prim.Native.Nat.{ℕ, ◌*◌, ◌/◌, ◌≤◌, ◌<◌}
use native.Mathlib.Omega.{arith}
use borrow.Author.Tests.{lt-leb, le-leb, ne_eqb}
use lib.Dec.{leb}
use lib.ListN.{length}
use lib.Seq.{sets}
use Rattle.tables.specs.Check.{Test, test, first_failing}
use Rattle.names.specs.Rows.{entry_size, entry_rows, parse_entries, parse_children}
use Rattle.names.specs.Check.{names_whole, children_there, names_good, names_tests, names_number}
use Rattle.names.specs.Findings.{findings}
use Rattle.names.specs.Calls.{find_tests, find_number, find_out}
use Rattle.names.proofs.SoundLaws.{entries_many}

-- the tests of the tables come first
module _ (n : ℕ) (rest : List Test) where
  refused_first : (a b d : Bool) → n ≡ first_failing (test 11 a ∷ test 16 b ∷ test 31 d ∷ []) → (n ≡ 0 → ⊥) →
      n ≡ first_failing (test 11 a ∷ test 16 b ∷ test 31 d ∷ rest)
  unfolding first_failing
  refused_first true true true e h = absurd (h e)
  refused_first true true false e h = e
  refused_first true false d e h = e
  refused_first false b d e h = e

  accepted_first : (a b d : Bool) → n ≡ first_failing (test 11 a ∷ test 16 b ∷ test 31 d ∷ []) → n ≡ 0 →
      first_failing (test 11 a ∷ test 16 b ∷ test 31 d ∷ rest) ≡ first_failing rest
  unfolding first_failing
  accepted_first true true true e h = refl
  accepted_first true true false e h = absurd (omega arith)
  accepted_first true false d e h = absurd (omega arith)
  accepted_first false b d e h = absurd (omega arith)

ok_not : (x : Refusal) → ◌≡◌ {A = Result ℕ Refusal} (Ok 0) (Err x) → ⊥
ok_not x q = true≢false (ap (λ (r : Result ℕ Refusal). is_ok r) q)

-- no refusal has number 0
pub refused_not : (x : Refusal) → number x ≡ 0 → ⊥
refused_not x h = ok_not x (sym (told_ok (number x) 0 h) ∙ told_number x 0)

module _ (e c : List ℕ) (rest : List Test) where
  pub names_refused : (x : Refusal) → number x ≡ names_number e c → number x ≡ first_failing (test 11 (names_whole e c) ∷ test 16 (children_there e c) ∷ test 31 (names_good e c) ∷ rest)
  unfolding names_number names_tests
  names_refused x p = refused_first (number x) rest (names_whole e c) (children_there e c) (names_good e c) p (refused_not x)

  pub names_accepted : 0 ≡ names_number e c → first_failing (test 11 (names_whole e c) ∷ test 16 (children_there e c) ∷ test 31 (names_good e c) ∷ rest) ≡ first_failing rest
  unfolding names_number names_tests
  names_accepted p = accepted_first 0 rest (names_whole e c) (children_there e c) (names_good e c) p refl

-- ## The findings

module _ (e c out : List ℕ) where
  pub out_same : (m : ℕ) → m ≡ find_number e c out → (m ≡ 0 → ⊥) → out ≡ find_out e c out
  unfolding find_out
  out_same m q h = rw (← q, ne_eqb m 0 h)

  pub find_refused : (x : Refusal) → number x ≡ names_number e c → (number x ≡ find_number e c out) × (out ≡ find_out e c out)
  unfolding find_number find_tests
  find_refused x p =
      let q : number x ≡ find_number e c out = names_refused e c (test 17 (leb (2 * length (entry_rows e)) (length out)) ∷ []) x p in
      (q, out_same (number x) q (refused_not x))

  module _ (z : 0 ≡ names_number e c) where
    places : find_number e c out ≡ cond (leb (2 * (length e / entry_size)) (length out)) 0 17
    unfolding find_number find_tests first_failing
    places =
        names_accepted e c (test 17 (leb (2 * length (entry_rows e)) (length out)) ∷ []) z
        ∙ ap (λ (k : ℕ). cond (leb (2 * k) (length out)) 0 17) (entries_many e)

    pub find_short : length out < 2 * (length e / entry_size) → (17 ≡ find_number e c out) × (out ≡ find_out e c out)
    find_short h =
        let q : 17 ≡ find_number e c out = sym (places ∙ rw (lt-leb (2 * (length e / entry_size)) (length out) h)) in
        (q, out_same 17 q (λ x. omega arith))

    pub find_done : (new : List ℕ) → 2 * (length e / entry_size) ≤ length out → new ≡ sets out 0 (findings (parse_children c) (parse_entries e)) →
        (0 ≡ find_number e c out) × (new ≡ find_out e c out)
    unfolding find_out
    find_done new h w =
        let q : 0 ≡ find_number e c out = sym (places ∙ rw (le-leb (2 * (length e / entry_size)) (length out) h)) in
        (q, rw (← q) w)
