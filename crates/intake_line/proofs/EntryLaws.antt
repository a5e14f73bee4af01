-- What each line does to the open entry in the lent bytes. Assumes nothing.
use Prim.Native.Nat.{ℕ, suc, ◌+◌, ◌-◌, ◌<◌}
use mathlib.Core.Path.{◌≡◌, refl, sym, ap, subst}
use mathlib.Core.List.{List}
use mathlib.Core.Bool.{Bool, true, false, cond}
use native.Mathlib.Omega.{arith}
use lib.ListN.{length, take}
use lib.Dec.{eqb}
use borrow.Author.Tests.{eq-eqb, ne_eqb}
use Rattle.intake.specs.declared.Kind.{Kind}
use Rattle.intake.specs.declared.Kind.TheVariants.{Lov, Fid, Lma, Other}
use Rattle.intake_bytes.specs.declared.Marks.{Marks}
use Rattle.intake_line.specs.declared.Said.{Said}
use Rattle.intake_line.specs.declared.Said.TheVariants.{Opens, Closes, Skipped, Bad, Takes}
use Rattle.std.specs.Prelude.{Some, None, Ok, Err}
use Rattle.refusals.specs.declared.Refusal.TheVariants.{BadDump, AttributeTwice}
use Rattle.intake.specs.Says.{good_size}
use Rattle.intake.specs.Reading.{Attribute, had, outside, inside, Reading, stops_at, has, attribute_of, with_attribute, on_line}
use Rattle.intake_bytes.specs.Lent.{mark_of, part_of}
use Rattle.intake_line.specs.Ending.{line_of}
use Rattle.intake_line.specs.Entry.{marks_with, attribute_in, entry_in, open_in, good_mark, no_marks, MarksHeld, AfterHeld, after_is, Standing, EntryStep}

module _ (buf : List ℕ) (from : ℕ) (m : Marks) where
  pub open_out : from ≡ 0 → open_in buf from m ≡ outside
  unfolding open_in
  open_out e = rw (eq-eqb from 0 e)

  pub open_in_lem : (from ≡ 0 → ⊥) → open_in buf from m ≡ inside (entry_in buf from m)
  unfolding open_in
  open_in_lem e = rw (ne_eqb from 0 e)

  pub kind_in : (k : Kind) → attribute_of k (entry_in buf from m) ≡ attribute_in buf k (mark_of m k)
  unfolding attribute_of entry_in mark_of attribute_in
  kind_in Lov = refl
  kind_in Fid = refl
  kind_in Lma = refl
  kind_in Other = refl

  stored_in : (k : Kind) (size : ℕ) → attribute_in buf k (suc size) ≡ had size (take size (part_of (length buf) k buf))
  unfolding attribute_in
  stored_in k size =
      let e : suc size - 1 ≡ size = omega arith in
      rw (ne_eqb (suc size) 0 (λ z. omega arith), e)

  put_in : (k : Kind) (size : ℕ) → with_attribute k (had size (take size (part_of (length buf) k buf))) (entry_in buf from m) ≡ entry_in buf from (marks_with k (suc size) m)
  unfolding with_attribute entry_in marks_with
  put_in Lov size = ap (λ (a : Attribute). record { from = from; lov = a; fid = attribute_in buf Fid m.fid; lma = attribute_in buf Lma m.lma }) (sym (stored_in Lov size))
  put_in Fid size = ap (λ (a : Attribute). record { from = from; lov = attribute_in buf Lov m.lov; fid = a; lma = attribute_in buf Lma m.lma }) (sym (stored_in Fid size))
  put_in Lma size = ap (λ (a : Attribute). record { from = from; lov = attribute_in buf Lov m.lov; fid = attribute_in buf Fid m.fid; lma = a }) (sym (stored_in Lma size))
  put_in Other size = refl

pub has_not : (buf : List ℕ) (k : Kind) (n : ℕ) → n ≡ 0 → has (attribute_in buf k n) ≡ false
unfolding attribute_in has
has_not buf k n e = rw e

pub has_one : (buf : List ℕ) (k : Kind) (n : ℕ) → (n ≡ 0 → ⊥) → has (attribute_in buf k n) ≡ true
unfolding attribute_in has
has_one buf k n e = rw (ne_eqb n 0 e)

-- ## Marks of good lengths

none_marked : (k : Kind) → mark_of no_marks k ≡ 0
unfolding mark_of
none_marked Lov = refl
none_marked Fid = refl
none_marked Lma = refl
none_marked Other = refl

pub none_good : (k : Kind) → good_mark k (mark_of no_marks k) ≡ true
unfolding good_mark
none_good k = rw (none_marked k)

opened : {line : ℕ} → 0 < line → MarksHeld line no_marks
opened l = record { bare = λ e. absurd (omega arith); good = none_good }

-- marks of no entry
pub no_entry_lem : MarksHeld 0 no_marks
no_entry_lem = record { bare = λ e. none_marked; good = none_good }

module _ (from : ℕ) (m : Marks) (e : from ≡ 0 → ⊥) where
  mark_good : (k : Kind) (size : ℕ) → good_size k size ≡ true → good_mark k (size + 1) ≡ true
  unfolding good_mark
  mark_good k size g =
      let p : size + 1 - 1 ≡ size = omega arith in
      rw (ne_eqb (size + 1) 0 (λ z. omega arith), p) g

  with_good : (k : Kind) (n : ℕ) → good_mark k n ≡ true → MarksHeld from m → (j : Kind) → good_mark j (mark_of (marks_with k n m) j) ≡ true
  unfolding marks_with mark_of
  with_good Lov n g h Lov = g
  with_good Lov n g h Fid = h.good Fid
  with_good Lov n g h Lma = h.good Lma
  with_good Lov n g h Other = h.good Other
  with_good Fid n g h Lov = h.good Lov
  with_good Fid n g h Fid = g
  with_good Fid n g h Lma = h.good Lma
  with_good Fid n g h Other = h.good Other
  with_good Lma n g h Lov = h.good Lov
  with_good Lma n g h Fid = h.good Fid
  with_good Lma n g h Lma = g
  with_good Lma n g h Other = h.good Other
  with_good Other n g h j = h.good j

  marked_more : (k : Kind) (size : ℕ) → good_size k size ≡ true → MarksHeld from m → MarksHeld from (marks_with k (size + 1) m)
  marked_more k size g h = record { bare = λ z. absurd (e z); good = with_good k (size + 1) (mark_good k size g) h }

module _ (from : ℕ) (m : Marks) (s : Said) (size line : ℕ) where
  -- outside an entry every line but an opening one stops the reading
  pub step_bad : s ≡ Bad → EntryStep from m s size line (Err BadDump)
  unfolding line_of on_line after_is open_in AfterHeld
  step_bad e = record { step = λ room R buf v h. rw e (go room R buf v (eqb from 0)); marked = λ g h. (omega arith, omega arith) } where
    go : (room : ℕ) (R : Reading) (buf v : List ℕ) (t : Bool) → on_line room R line (cond t outside (inside (entry_in buf from m))) (line_of Bad size v) ≡ stops_at R 33 line
    go room R buf v true = refl
    go room R buf v false = refl

  module _ (e : from ≡ 0) where
    pub step_open : s ≡ Opens → 0 < line → EntryStep from m s size line (Ok (Some (line, no_marks)))
    unfolding line_of on_line after_is entry_in attribute_in AfterHeld
    step_open q l = record { step = λ room R buf v h. rw (q, open_out buf from m e, open_in_lem buf line no_marks (λ z. omega arith)); marked = λ g h. opened l }

    pub step_close_out : s ≡ Closes → EntryStep from m s size line (Err BadDump)
    unfolding line_of on_line after_is AfterHeld
    step_close_out q = record { step = λ room R buf v h. rw (q, open_out buf from m e); marked = λ g h. (omega arith, omega arith) }

    pub step_skip_out : s ≡ Skipped → EntryStep from m s size line (Err BadDump)
    unfolding line_of on_line after_is AfterHeld
    step_skip_out q = record { step = λ room R buf v h. rw (q, open_out buf from m e); marked = λ g h. (omega arith, omega arith) }

    pub step_take_out : (k : Kind) → s ≡ Takes k → EntryStep from m s size line (Err BadDump)
    unfolding line_of on_line after_is AfterHeld
    step_take_out k q = record { step = λ room R buf v h. rw (q, open_out buf from m e); marked = λ g h. (omega arith, omega arith) }

  module _ (e : from ≡ 0 → ⊥) where
    pub step_open_in : s ≡ Opens → EntryStep from m s size line (Err BadDump)
    unfolding line_of on_line after_is AfterHeld
    step_open_in q = record { step = λ room R buf v h. rw (q, open_in_lem buf from m e); marked = λ g h. (omega arith, omega arith) }

    pub step_close : s ≡ Closes → EntryStep from m s size line (Ok None)
    unfolding line_of on_line after_is AfterHeld
    step_close q = record { step = λ room R buf v h. rw (q, open_in_lem buf from m e); marked = λ g h. e }

    pub step_skip : s ≡ Skipped → EntryStep from m s size line (Ok (Some (from, m)))
    unfolding line_of on_line after_is AfterHeld
    step_skip q = record { step = λ room R buf v h. rw (q, open_in_lem buf from m e); marked = λ g h. h }

    pub step_twice : (k : Kind) → s ≡ Takes k → (mark_of m k ≡ 0 → ⊥) → EntryStep from m s size line (Err AttributeTwice)
    unfolding line_of on_line after_is AfterHeld
    step_twice k q z = record { step = λ room R buf v h. rw (q, open_in_lem buf from m e, kind_in buf from m k, has_one buf k (mark_of m k) z); marked = λ g h. (omega arith, omega arith) }

    pub step_take : (k : Kind) (n : Marks) → s ≡ Takes k → mark_of m k ≡ 0 → n ≡ marks_with k (size + 1) m → EntryStep from m s size line (Ok (Some (from, n)))
    unfolding line_of on_line after_is Standing AfterHeld
    step_take k n q z w = record {
      step = λ room R buf v h.
          let p : size + 1 ≡ suc size = omega arith in
          rw (q, open_in_lem buf from m e, kind_in buf from m k, has_not buf k (mark_of m k) z, h k q z, put_in buf from m k size, w, p, open_in_lem buf from (marks_with k (suc size) m) e);
      marked = λ g h. subst (λ (x : Marks). MarksHeld from x) (sym w) (marked_more from m e k size (g k q) h);
    }

-- marks by kind
module _ (m : Marks) (k : Kind) where
  pub mark_lov : k ≡ Lov → m.lov ≡ mark_of m k
  unfolding mark_of
  mark_lov e = rw e

  pub mark_fid : k ≡ Fid → m.fid ≡ mark_of m k
  unfolding mark_of
  mark_fid e = rw e

  pub mark_lma : k ≡ Lma → m.lma ≡ mark_of m k
  unfolding mark_of
  mark_lma e = rw e

  pub mark_other : k ≡ Other → 0 ≡ mark_of m k
  unfolding mark_of
  mark_other e = rw e

  pub with_lov : (n : ℕ) → k ≡ Lov → record { lov = n; fid = m.fid; lma = m.lma } ≡ marks_with k n m
  unfolding marks_with
  with_lov n e = rw e

  pub with_fid_lem : (n : ℕ) → k ≡ Fid → record { lov = m.lov; fid = n; lma = m.lma } ≡ marks_with k n m
  unfolding marks_with
  with_fid_lem n e = rw e

  pub with_lma : (n : ℕ) → k ≡ Lma → record { lov = m.lov; fid = m.fid; lma = n } ≡ marks_with k n m
  unfolding marks_with
  with_lma n e = rw e

  pub with_other : (n : ℕ) → k ≡ Other → m ≡ marks_with k n m
  unfolding marks_with
  with_other n e = rw e
