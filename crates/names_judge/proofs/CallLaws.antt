-- The judging as lent, its refusals in their order. Assumes nothing.
use mathlib.Core.Path.{◌≡◌, refl, sym, ap, ap₂, ◌∙◌}
use Rattle.std.specs.Prelude.{Result, Ok, Err, ⊤}
use Rattle.refusals.specs.Numbers.{number, answer}
use Rattle.refusals.specs.declared.Refusal.{Refusal}
use Rattle.refusals.specs.declared.Refusal.TheVariants.{LongClimb}
use mathlib.Core.Bool.{Bool, true, false, cond, not, ◌&&◌}
use mathlib.Core.List.{List, [], ◌∷◌}
use Prim.Native.Nat.{ℕ, ◌+◌, ◌*◌, ◌/◌, ◌≤◌}
use native.Mathlib.Omega.{arith}
use borrow.Author.Tests.{leb-true, ne_eqb}
use lib.Dec.{leb}
use lib.ListN.{length}
use lib.Seq.{sets}
use Rattle.wire.proofs.Both.{and_first, and_second}
use Rattle.tables.specs.Check.{test, first_failing}
use Rattle.index.specs.Entries.{place_size}
use Rattle.names.specs.Rows.{entry_size, child_size, child_rows, parse_children}
use Rattle.names.specs.Check.{names_number}
use Rattle.names.specs.Visible.{max_levels, too_long, judged}
use Rattle.names.specs.Calls.{index_places, roomy, judge_tests, judge_number, judge_marks}
use Rattle.names.proofs.SoundLaws.{entries_many, children_many}
use Rattle.names_check.proofs.CallLaws.{names_refused, names_accepted, refused_not}

-- ## Places

pub room_is : (e c room : List ℕ) → leb (place_size * (length e / entry_size + length c / child_size)) (length room) ≡ roomy e c room
unfolding roomy index_places
room_is e c room = ap (λ (k : ℕ). leb (place_size * k) (length room)) (ap₂ (λ (a b : ℕ). a + b) (sym (entries_many e)) (sym (children_many c)))

module _ (e c index room : List ℕ) (m : ℕ) where
  abbrev pub places_there : Bool
  places_there = roomy e c index && roomy e c room && leb (length (child_rows c)) m

  pub no_rooms : false ≡ (roomy e c index && roomy e c room) → false ≡ places_there
  no_rooms h = rw (← h)

  pub their_marks : true ≡ (roomy e c index && roomy e c room) → leb (length c / child_size) m ≡ places_there
  their_marks h = rw (← h) (ap (λ (n : ℕ). leb n m) (sym (children_many c)))

  pub record Places : Type 0 where
    pub index_long : place_size * (length c / child_size) ≤ length index
    pub room_long : place_size * (length c / child_size) ≤ length room
    pub marks_long : length c / child_size ≤ m

  pub places_are : places_there ≡ true → Places
  places_are h =
      let i : Bool = roomy e c index in
      let r : Bool = roomy e c room in
      let l : Bool = leb (length (child_rows c)) m in
      let long : (x : List ℕ) → roomy e c x ≡ true → place_size * (length e / entry_size + length c / child_size) ≤ length x =
      λ x t. leb-true (place_size * (length e / entry_size + length c / child_size)) (length x) (room_is e c x ∙ t) in
      record {
        index_long = omega (arith, long index (and_first i r (and_first (i && r) l h)));
        room_long = omega (arith, long room (and_second i r (and_first (i && r) l h)));
        marks_long = omega (arith, leb-true (length (child_rows c)) m (and_second (i && r) l h), children_many c);
      }

-- ## The answer and the marks

module _ (e c index room marks : List ℕ) where
  marks_stay : (m : ℕ) → m ≡ judge_number e c index room marks → (m ≡ 0 → ⊥) → marks ≡ judge_marks e c index room marks
  unfolding judge_marks
  marks_stay m q h = rw (← q, ne_eqb m 0 h)

  pub judge_refused : (x : Refusal) → number x ≡ names_number e c → (number x ≡ judge_number e c index room marks) × (marks ≡ judge_marks e c index room marks)
  unfolding judge_number judge_tests
  judge_refused x p =
      let q : number x ≡ judge_number e c index room marks =
      names_refused e c (test 17 (places_there e c index room (length marks)) ∷ test 39 (not (too_long max_levels (parse_children c))) ∷ []) x p in
      (q, marks_stay (number x) q (refused_not x))

  module _ (z : 0 ≡ names_number e c) where
    then : judge_number e c index room marks
        ≡ first_failing (test 17 (places_there e c index room (length marks)) ∷ test 39 (not (too_long max_levels (parse_children c))) ∷ [])
    unfolding judge_number judge_tests
    then = names_accepted e c (test 17 (places_there e c index room (length marks)) ∷ test 39 (not (too_long max_levels (parse_children c))) ∷ []) z

    pub judge_short : places_there e c index room (length marks) ≡ false →
        (17 ≡ judge_number e c index room marks) × (marks ≡ judge_marks e c index room marks)
    unfolding first_failing
    judge_short t = let q : 17 ≡ judge_number e c index room marks = sym (then ∙ rw t) in (q, marks_stay 17 q (λ x. omega arith))

    module _ (t : places_there e c index room (length marks) ≡ true) (r : Result ⊤ Refusal) (new : List ℕ)
        (s : r ≡ cond (too_long max_levels (parse_children c)) (Err LongClimb) (Ok tt))
        (w : new ≡ cond (too_long max_levels (parse_children c)) marks (sets marks 0 (judged max_levels (parse_children c)))) where
      pub judge_done : (answer r ≡ judge_number e c index room marks) × (new ≡ judge_marks e c index room marks)
      unfolding first_failing judge_marks
      judge_done = go (too_long max_levels (parse_children c)) refl
        where
          go : (l : Bool) → too_long max_levels (parse_children c) ≡ l → (answer r ≡ judge_number e c index room marks) × (new ≡ judge_marks e c index room marks)
          go true l =
              let a : answer r ≡ 39 = ap answer (rw l at s) in
              let q : 39 ≡ judge_number e c index room marks = sym (then ∙ rw (t, l)) in
              let v : new ≡ marks = rw l at w in
              (a ∙ q, v ∙ marks_stay 39 q (λ x. omega arith))
          go false l =
              let a : answer r ≡ 0 = ap answer (rw l at s) in
              let q : 0 ≡ judge_number e c index room marks = sym (then ∙ rw (t, l)) in
              let v : new ≡ sets marks 0 (judged max_levels (parse_children c)) = rw l at w in
              (a ∙ q, rw (← q) v)
