-- When a mending or a pass is refused, and what is known of the lent tables when it is not. Assumes nothing.
use mathlib.Core.Path.{◌≡◌, refl, sym, ap, ◌∙◌}
use mathlib.Core.Bool.{Bool, true, false, cond, ◌&&◌, true≢false}
use mathlib.Core.List.{List, [], ◌∷◌}
use Prim.Native.Nat.{ℕ, ◌≤◌}
use native.Mathlib.Omega.{arith}
use borrow.Author.Tests.{leb-true, le-leb, not-true}
use lib.Dec.{leb}
use lib.ListN.{length}
use Rattle.wire.proofs.Both.{and_first, and_second, and_both}
use Rattle.tables.specs.Check.{Test, first_failing}
use Rattle.fid.specs.declared.MdtFid.{MdtFid}
use Rattle.names.specs.Rows.{Entry, Child, entry_rows, child_rows, parse_entries, parse_children}
use Rattle.names.specs.Check.{names_whole, children_there, names_good, names_tests, names_number, SoundNames}
use Rattle.names.specs.Visible.{max_levels, too_long, good_marks}
use Rattle.names.specs.Mend.{third, finish, mended}
use Rattle.names.specs.Calls.{index_places, roomy, report_size, mend_tests, pass_tests}
use Rattle.names.proofs.SoundLaws.{entries_many, children_many, parsed_entries, parsed_children}
use Rattle.names_again.specs.Pass.{went}

-- ## Answers

-- a mending is never a refusal
pub mended_went : (seen : MdtFid → Bool) (es : List Entry) (cs : List Child) → went (mended seen es cs).answer ≡ true
unfolding mended finish went
mended_went seen es cs = go (third seen es cs).full
  where
    go : (b : Bool) → went (finish seen es cs b).answer ≡ true
    go true = refl
    go false = refl

-- ## Tests in turn

abbrev Passes : List Test → Type 0
Passes [] = Unit {0}
Passes (t ∷ ts) = (t.passes ≡ true) × Passes ts

-- a refusal is none of the two answers
abbrev Refuse : List Test → Type 0
Refuse [] = Unit {0}
Refuse (t ∷ ts) = (went t.number ≡ false) × Refuse ts

-- so where the answer is one of them none fails
went_passes : (ts : List Test) → Refuse ts → went (first_failing ts) ≡ true → Passes ts
unfolding first_failing
went_passes [] f h = tt
went_passes (t ∷ ts) f h = go t.passes refl h (went_passes ts f.1)
  where
    go : (b : Bool) → t.passes ≡ b → went (cond b (first_failing ts) t.number) ≡ true → (went (first_failing ts) ≡ true → Passes ts) → Passes (t ∷ ts)
    go true e k rec = (e, rec k)
    go false e k rec = absurd (true≢false (sym k ∙ f.0))

passes_none : (ts : List Test) → Passes ts → first_failing ts ≡ 0
unfolding first_failing
passes_none [] p = refl
passes_none (t ∷ ts) p = rw p.0 (passes_none ts p.1)

tables_pass : (e c : List ℕ) → names_whole e c ≡ true → children_there e c ≡ true → names_good e c ≡ true → SoundNames e c
unfolding SoundNames names_number names_tests
tables_pass e c a b d = passes_none (names_tests e c) (a, (b, (d, tt)))

-- ## Calls that are not refused

module _ (e c index room marks report : List ℕ) where
  mend_passes : went (first_failing (mend_tests e c index room marks report)) ≡ true → Passes (mend_tests e c index room marks report)
  unfolding mend_tests went
  mend_passes h = went_passes (mend_tests e c index room marks report) (refl, (refl, (refl, (refl, tt)))) h

  pub mend_went : went (first_failing (mend_tests e c index room marks report)) ≡ true → first_failing (mend_tests e c index room marks report) ≡ 0
  mend_went h = passes_none (mend_tests e c index room marks report) (mend_passes h)

  pub record MendLent : Type 0 where
    pub sound : SoundNames e c
    pub marked : good_marks marks (parse_children c) ≡ true
    pub index_roomy : roomy e c index ≡ true
    pub room_roomy : roomy e c room ≡ true

  pub mend_lent : went (first_failing (mend_tests e c index room marks report)) ≡ true → MendLent
  unfolding mend_tests
  mend_lent h =
      let m : Bool = good_marks marks (parse_children c) in
      let i : Bool = roomy e c index in
      let r : Bool = roomy e c room in
      let l : Bool = leb report_size (length report) in
      let t = mend_passes h in
      record {
        sound = tables_pass e c (and_first (names_whole e c) m t.0) t.1.0 t.1.1.0;
        marked = and_second (names_whole e c) m t.0;
        index_roomy = and_first i r (and_first (i && r) l t.1.1.1.0);
        room_roomy = and_second i r (and_first (i && r) l t.1.1.1.0);
      }

  pass_passes : went (first_failing (pass_tests e c index room marks report)) ≡ true → Passes (pass_tests e c index room marks report)
  unfolding pass_tests went
  pass_passes h = went_passes (pass_tests e c index room marks report) (refl, (refl, (refl, (refl, (refl, tt))))) h

  pub pass_went : went (first_failing (pass_tests e c index room marks report)) ≡ true → first_failing (pass_tests e c index room marks report) ≡ 0
  pass_went h = passes_none (pass_tests e c index room marks report) (pass_passes h)

  pub record PassLent : Type 0 where
    pub sound : SoundNames e c
    pub index_roomy : roomy e c index ≡ true
    pub room_roomy : roomy e c room ≡ true
    pub marks_long : length (child_rows c) ≤ length marks
    pub climbed : too_long max_levels (parse_children c) ≡ false

  pub pass_lent : went (first_failing (pass_tests e c index room marks report)) ≡ true → PassLent
  unfolding pass_tests
  pass_lent h =
      let i : Bool = roomy e c index in
      let r : Bool = roomy e c room in
      let m : Bool = leb (length (child_rows c)) (length marks) in
      let l : Bool = leb report_size (length report) in
      let t = pass_passes h in
      let q : (i && r && m) ≡ true = and_first (i && r && m) l t.1.1.1.0 in
      record {
        sound = tables_pass e c t.0 t.1.0 t.1.1.0;
        index_roomy = and_first i r (and_first (i && r) m q);
        room_roomy = and_second i r (and_first (i && r) m q);
        marks_long = leb-true (length (child_rows c)) (length marks) (and_second (i && r) m q);
        climbed = not-true (too_long max_levels (parse_children c)) t.1.1.1.1.0;
      }

-- ## A second call

-- index and room are as roomy for tables with as many rows
pub roomy_same : (e c x y index : List ℕ) → length (parse_entries x) ≡ length (parse_entries e) → length (parse_children y) ≡ length (parse_children c) →
    roomy x y index ≡ roomy e c index
unfolding roomy index_places
roomy_same e c x y index p q =
    let a : length (entry_rows x) ≡ length (entry_rows e) = omega (arith, p, entries_many x, entries_many e, parsed_entries x, parsed_entries e) in
    let b : length (child_rows y) ≡ length (child_rows c) = omega (arith, q, children_many y, children_many c, parsed_children y, parsed_children c) in
    rw (a, b)

-- tables that pass with marks that fit, and room
pub mend_free : (e c index room marks report : List ℕ) → SoundNames e c → good_marks marks (parse_children c) ≡ true → roomy e c index ≡ true →
    roomy e c room ≡ true → report_size ≤ length report → first_failing (mend_tests e c index room marks report) ≡ 0
unfolding mend_tests SoundNames names_number names_tests went
mend_free e c index room marks report s m i r l =
    let t = went_passes (names_tests e c) (refl, (refl, (refl, tt))) (ap went s) in
    passes_none (mend_tests e c index room marks report)
    (and_both (names_whole e c) (good_marks marks (parse_children c)) t.0 m, (t.1.0, (t.1.1.0, (rw (i, r, le-leb report_size (length report) l), tt))))
