-- Whole tables stay whole, whatever is fed. Assumes nothing.
use Prim.Native.Nat.{ℕ, zero, suc, ◌+◌, ◌*◌, ◌/◌, ◌≤◌}
use mathlib.Core.Path.{◌≡◌, refl, sym, ap, subst, ◌∙◌}
use mathlib.Core.List.{List}
use mathlib.Core.Bool.{Bool, true, false, ◌&&◌}
use native.Mathlib.Nat.{mul-suc, mul-zero}
use native.Mathlib.Omega.{arith}
use lib.ListN.{length, drop, length-append, length-drop}
use lib.Seq.{length-take-le}
use lib.Dec.{leb, eqb}
use borrow.Author.Tests.{eq-eqb, eqb-true, le-leb, leb-true}
use Rattle.wire.specs.Rows.{rows}
use Rattle.wire.proofs.Both.{and_first, and_second, and_both}
use Rattle.wire.proofs.RowLaws.{rows_length}
use Rattle.tables.specs.Bytes.{parent_size, object_size, layout_room, parent_rows, object_rows, join}
use Rattle.tables.specs.Check.{max_parents, max_objects, all, when_used, whole_rows, used_mark, fresh_mark, parents_whole, objects_whole}
use Rattle.intake.specs.Machine.{State, feed}
use Rattle.intake_state.specs.State.{machine_of, KeptHeld, kept_of, good_state, machine_in, state_stands}
use Rattle.intake_feed.specs.Feed.{feed_refusal, stop_number, stop_line, fed_machine, fed_answer, fed_line, fed_table, Fed, PieceFed}
use Rattle.intake_state.proofs.TestLaws.{state_holds}
use Rattle.intake_feed.proofs.FedLaws.{passed}
use Rattle.intake_calls.proofs.LentLaws.{few_open, few_line}
use Rattle.intake_calls.proofs.MarkLaws.{Marked, MarkedState, marked_feed}

-- ## Whole rows

-- rows within a list, one after another
length_joined : (size n : ℕ) (l : List ℕ) → size * n ≤ length l → length (join (rows size n l)) ≡ size * n
unfolding join rows
length_joined size zero l h = rw mul-zero
length_joined size (suc n) l h =
    let m : size * suc n ≡ size * n + size = mul-suc size n in
    rw (length-append, length-take-le size l (omega arith), length_joined size n (drop size l) (rw length-drop (omega arith))) (omega arith)

-- a table that is the rows it is read as, one after another, is whole rows
joined : (size most : ℕ) (l : List ℕ) → size * (length l / size) ≤ length l → l ≡ join (rows size (length l / size) l)
    → length (rows size (length l / size) l) ≤ most → whole_rows size most l ≡ true
unfolding whole_rows
joined size most l k e h =
    let n : ℕ = length l / size in
    and_both (eqb (size * n) (length l)) (leb n most) (eq-eqb (size * n) (length l) (sym (ap length e ∙ length_joined size n l k)))
    (le-leb n most (omega (arith, h, rows_length size n l)))

whole_parents : (l : List ℕ) → l ≡ join (parent_rows l) → length (parent_rows l) ≤ max_parents → all used_mark (parent_rows l) ≡ true → parents_whole l ≡ true
unfolding parents_whole parent_rows
whole_parents l e h a = and_both (whole_rows parent_size max_parents l) (all used_mark (parent_rows l)) (joined parent_size max_parents l (omega arith) e h) a

whole_objects : (l : List ℕ) → l ≡ join (object_rows l) → length (object_rows l) ≤ max_objects → all used_mark (object_rows l) ≡ true
    → all (when_used fresh_mark) (object_rows l) ≡ true → objects_whole l ≡ true
unfolding objects_whole object_rows
whole_objects l e h a b =
    and_both (whole_rows object_size max_objects l && all used_mark (object_rows l)) (all (when_used fresh_mark) (object_rows l))
    (and_both (whole_rows object_size max_objects l) (all used_mark (object_rows l)) (joined object_size max_objects l (omega arith) e h) a) b

-- and back
most_parents_lem : (l : List ℕ) → parents_whole l ≡ true → length (parent_rows l) ≤ max_parents
unfolding parents_whole whole_rows parent_rows
most_parents_lem l w =
    let n : ℕ = length l / parent_size in
    let k : leb n max_parents ≡ true =
    and_second (eqb (parent_size * n) (length l)) (leb n max_parents) (and_first (whole_rows parent_size max_parents l) (all used_mark (parent_rows l)) w) in
    omega (arith, rows_length parent_size n l, leb-true n max_parents k)

used_parents : (l : List ℕ) → parents_whole l ≡ true → all used_mark (parent_rows l) ≡ true
unfolding parents_whole
used_parents l w = and_second (whole_rows parent_size max_parents l) (all used_mark (parent_rows l)) w

marks_objects : (l : List ℕ) → objects_whole l ≡ true
    → (whole_rows object_size max_objects l ≡ true) × (all used_mark (object_rows l) ≡ true) × (all (when_used fresh_mark) (object_rows l) ≡ true)
unfolding objects_whole
marks_objects l w =
    let f : (whole_rows object_size max_objects l && all used_mark (object_rows l)) ≡ true =
    and_first (whole_rows object_size max_objects l && all used_mark (object_rows l)) (all (when_used fresh_mark) (object_rows l)) w in (
      and_first (whole_rows object_size max_objects l) (all used_mark (object_rows l)) f,
      and_second (whole_rows object_size max_objects l) (all used_mark (object_rows l)) f,
      and_second (whole_rows object_size max_objects l && all used_mark (object_rows l)) (all (when_used fresh_mark) (object_rows l)) w,
    )

most_objects_lem : (l : List ℕ) → whole_rows object_size max_objects l ≡ true → length (object_rows l) ≤ max_objects
unfolding whole_rows object_rows
most_objects_lem l w =
    let n : ℕ = length l / object_size in
    omega (arith, rows_length object_size n l, leb-true n max_objects (and_second (eqb (object_size * n) (length l)) (leb n max_objects) w))

-- ## A call

-- a state that is held stands for a reading that keeps no more than is wanted
marked_begin : (s file p o : List ℕ) → KeptHeld s file (kept_of s) → parents_whole p ≡ true → objects_whole o ≡ true
    → MarkedState layout_room (machine_in s file p o)
unfolding machine_in machine_of
marked_begin s file p o h w v =
    let k = kept_of s in
    let m = marks_objects o v in
    record {
      reading = record {
        entry = few_open s k.reader.from k.reader.marks h.size;
        most_parents = most_parents_lem p w;
        most_objects = most_objects_lem o m.0;
        parents = used_parents p w;
        objects = m.1;
        fresh = m.2;
      };
      line = few_line s k.reader.from k.reader.marks k.reader.line h.size h.held.marked h.held.held;
    }

-- the machine's rows are the table's
pub rows_are : (s file p o : List ℕ) (S : State) → machine_in s file p o ≡ S → (parent_rows p ≡ S.reading.parents) × (object_rows o ≡ S.reading.objects)
unfolding machine_in machine_of
rows_are s file p o S e = (ap (λ (T : State). T.reading.parents) e, ap (λ (T : State). T.reading.objects) e)

-- what a call that isn't refused leaves, as equations with the machine
pub record Taken (s piece file p o out s' p' o' out' : List ℕ) (r : ℕ) : Type 0 where
  pub machine : machine_in s' file p' o' ≡ feed layout_room (machine_in s file p o) piece
  pub answer : r ≡ stop_number (feed layout_room (machine_in s file p o) piece).reading.stop
  pub line : out' ≡ stop_line (feed layout_room (machine_in s file p o) piece).reading.stop out
  pub parents : p' ≡ join (feed layout_room (machine_in s file p o) piece).reading.parents
  pub objects : o' ≡ join (feed layout_room (machine_in s file p o) piece).reading.objects

module _ (s piece file p o out s' p' o' out' : List ℕ) (r : ℕ) where
  pub taken : PieceFed s piece file p o out s' p' o' out' r → feed_refusal s piece file p o (length out) ≡ 0 → Taken s piece file p o out s' p' o' out' r
  unfolding PieceFed fed_machine fed_answer fed_line fed_table
  taken f z =
      let g : Fed 0 s piece file p o out s' p' o' out' r = subst (λ (n : ℕ). Fed n s piece file p o out s' p' o' out' r) z f in
      record { machine = g.state; answer = g.answer; line = g.line; parents = g.parents; objects = g.objects }

  module _ (w : parents_whole p ≡ true) (v : objects_whole o ≡ true) where
    whole_after : state_stands s file ≡ true → Taken s piece file p o out s' p' o' out' r → (parents_whole p' ≡ true) × (objects_whole o' ≡ true)
    unfolding state_stands
    whole_after g t =
        let h : KeptHeld s file (kept_of s) =
        state_holds s file (and_first (good_state s) (leb (kept_of s).taken (length file)) g)
        (leb-true (kept_of s).taken (length file) (and_second (good_state s) (leb (kept_of s).taken (length file)) g)) in
        let S : State = feed layout_room (machine_in s file p o) piece in
        let m : Marked layout_room S.reading = (marked_feed layout_room (machine_in s file p o) piece (marked_begin s file p o h w v)).reading in
        let e = rows_are s' file p' o' S t.machine in (
          whole_parents p' (t.parents ∙ ap join (sym e.0)) (rw e.0 m.most_parents) (rw e.0 m.parents),
          whole_objects o' (t.objects ∙ ap join (sym e.1)) (rw e.1 m.most_objects) (rw e.1 m.objects) (rw e.1 m.fresh),
        )

    -- THE LAW: of every call, refused or not
    pub whole_stays : PieceFed s piece file p o out s' p' o' out' r → (parents_whole p' ≡ true) × (objects_whole o' ≡ true)
    unfolding PieceFed fed_table
    whole_stays f = go (eqb n 0) refl where
      n : ℕ
      n = feed_refusal s piece file p o (length out)

      go : (t : Bool) → eqb n 0 ≡ t → (parents_whole p' ≡ true) × (objects_whole o' ≡ true)
      go true e = whole_after (passed s piece file p o (length out) (eqb-true n 0 e)).state (taken f (eqb-true n 0 e))
      go false e =
          let a : p' ≡ p = f.parents ∙ rw e in
          let b : o' ≡ o = f.objects ∙ rw e in
          (ap parents_whole a ∙ w, ap objects_whole b ∙ v)
