-- A piece that is fed, case by case. Assumes nothing.
use Prim.Native.Nat.{ℕ, ◌+◌, ◌*◌, ◌/◌, ◌≤◌, ◌<◌}
use mathlib.Core.Path.{◌≡◌, refl, sym, ap, subst, ◌∙◌}
use mathlib.Core.List.{List, [], ◌∷◌, foldl}
use mathlib.Core.Bool.{Bool, true, false, cond, ◌&&◌}
use native.Mathlib.Omega.{arith}
use lib.ListN.{length, set}
use lib.Dec.{eqb, leb}
use borrow.Author.Tests.{ne_eqb, eqb-true, le-leb, lt-leb, leb-true}
use Rattle.wire.proofs.Both.{and_first, and_second}
use Rattle.refusals.specs.declared.Refusal.{Refusal}
use Rattle.refusals.specs.declared.Refusal.TheVariants.{LongClimb}
use Rattle.refusals.specs.Numbers.{number, refusal}
use Rattle.refusals.proofs.NumberLaws.{refusal_of_number}
use Rattle.tables.specs.Bytes.{parent_size, object_size, layout_room, join, parent_rows, object_rows}
use Rattle.tables.specs.Check.{whole_rows, parents_whole, objects_whole, all, used_mark, fresh_mark, when_used, test, first_failing}
use Rattle.stores.proofs.TableLaws.{join_rows}
use Rattle.intake.specs.Reading.{Stop, going, stopped}
use Rattle.intake.specs.Machine.{State, byte, feed}
use Rattle.intake_bytes.specs.Lent.{max_count}
use Rattle.intake_state.specs.declared.Kept.{Kept}
use Rattle.intake_feed.specs.Piece.{Going, PieceRead}
use Rattle.intake_state.specs.State.{stop_is, machine_of, kept_of, max_read, good_state, machine_in, Stored, state_stands}
use Rattle.intake_feed.specs.Feed.{max_piece, feed_refusal, stop_number, out_line, stop_line, fed_machine, fed_answer, fed_line, fed_table, Fed}
use Rattle.intake_feed.proofs.PieceLaws.{stays, stopped_is}
use Rattle.intake_state.proofs.TestLaws.{state_holds, state_bounds, state_long}
use Rattle.intake_state.proofs.ReloadLaws.{reload}
use Rattle.intake_state.proofs.PassLaws.{count_back, size_back, stored_stands}

-- no refusal has the number 0
pub some_number : (e : Refusal) → number e ≡ 0 → ⊥
unfolding refusal
some_number e h =
    let z : e ≡ LongClimb = sym (refusal_of_number e) ∙ ap refusal h in
    omega (arith, h, ap number z)

pub stands_not : (s file : List ℕ) → good_state s ≡ false → false ≡ state_stands s file
unfolding state_stands
stands_not s file e = rw e

pub stands_if : (s file : List ℕ) (r : Bool) → good_state s ≡ true → r ≡ leb (kept_of s).taken (length file) → r ≡ state_stands s file
unfolding state_stands
stands_if s file r e q = rw e q

module _ (s piece file p o : List ℕ) (places : ℕ) where
  pub refuse_piece : max_piece < length piece → 11 ≡ feed_refusal s piece file p o places
  unfolding feed_refusal first_failing
  refuse_piece h = rw (lt-leb (length piece) max_piece h)

  module _ (h : length piece ≤ max_piece) where
    pub refuse_tables : (parents_whole p && objects_whole o) ≡ false → 11 ≡ feed_refusal s piece file p o places
    unfolding feed_refusal first_failing
    refuse_tables e = rw (le-leb (length piece) max_piece h, e)

    module _ (w : (parents_whole p && objects_whole o) ≡ true) where
      pub refuse_state : state_stands s file ≡ false → 16 ≡ feed_refusal s piece file p o places
      unfolding feed_refusal first_failing
      refuse_state e = rw (le-leb (length piece) max_piece h, w, e)

      module _ (t : state_stands s file ≡ true) where
        pub refuse_place : places < 1 → 17 ≡ feed_refusal s piece file p o places
        unfolding feed_refusal first_failing
        refuse_place e = rw (le-leb (length piece) max_piece h, w, t, lt-leb 1 places e)

        pub refuse_none : 1 ≤ places → 0 ≡ feed_refusal s piece file p o places
        unfolding feed_refusal first_failing
        refuse_none e = rw (le-leb (length piece) max_piece h, w, t, le-leb 1 places e)

-- what a call that isn't refused has been handed
pub record Passed (s piece file p o : List ℕ) (places : ℕ) : Type 0 where
  pub short : length piece ≤ max_piece
  pub tables : (parents_whole p && objects_whole o) ≡ true
  pub state : state_stands s file ≡ true
  pub place : 1 ≤ places

three : (a b c : Bool) → first_failing (test 11 a ∷ test 16 b ∷ test 17 c ∷ []) ≡ 0 → (a ≡ true) × (b ≡ true) × (c ≡ true)
unfolding first_failing
three true true true e = (refl, refl, refl)
three true true false e = absurd (omega arith)
three true false c e = absurd (omega arith)
three false b c e = absurd (omega arith)

pub passed : (s piece file p o : List ℕ) (places : ℕ) → feed_refusal s piece file p o places ≡ 0 → Passed s piece file p o places
unfolding feed_refusal
passed s piece file p o places e =
    let h = three (leb (length piece) max_piece && (parents_whole p && objects_whole o)) (state_stands s file) (leb 1 places) e in
    record {
      short = leb-true (length piece) max_piece (and_first (leb (length piece) max_piece) (parents_whole p && objects_whole o) h.0);
      tables = and_second (leb (length piece) max_piece) (parents_whole p && objects_whole o) h.0;
      state = h.1;
      place = leb-true 1 places h.2;
    }

whole_parents : (p o : List ℕ) → (parents_whole p && objects_whole o) ≡ true → parent_size * (length p / parent_size) ≡ length p
unfolding parents_whole whole_rows
whole_parents p o e =
    eqb-true (parent_size * (length p / parent_size)) (length p)
    (and_first (eqb (parent_size * (length p / parent_size)) (length p)) (leb (length p / parent_size) 1024)
    (and_first (whole_rows parent_size 1024 p) (all used_mark (parent_rows p)) (and_first (parents_whole p) (objects_whole o) e)))

whole_objects : (p o : List ℕ) → (parents_whole p && objects_whole o) ≡ true → object_size * (length o / object_size) ≡ length o
unfolding objects_whole whole_rows
whole_objects p o e =
    eqb-true (object_size * (length o / object_size)) (length o)
    (and_first (eqb (object_size * (length o / object_size)) (length o)) (leb (length o / object_size) 65536)
    (and_first (whole_rows object_size 65536 o) (all used_mark (object_rows o))
    (and_first (whole_rows object_size 65536 o && all used_mark (object_rows o)) (all (when_used fresh_mark) (object_rows o)) (and_second (parents_whole p) (objects_whole o) e))))

pub join_parents : (p o p' : List ℕ) → (parents_whole p && objects_whole o) ≡ true → length p' ≡ length p → join (parent_rows p') ≡ p'
unfolding parent_rows
join_parents p o p' e n = join_rows parent_size (length p' / parent_size) p' (sym (subst (λ (m : ℕ). parent_size * (m / parent_size) ≡ m) (sym n) (whole_parents p o e)))

pub join_objects : (p o o' : List ℕ) → (parents_whole p && objects_whole o) ≡ true → length o' ≡ length o → join (object_rows o') ≡ o'
unfolding object_rows
join_objects p o o' e n = join_rows object_size (length o' / object_size) o' (sym (subst (λ (m : ℕ). object_size * (m / object_size) ≡ m) (sym n) (whole_objects p o e)))

-- ## Answers

pub stop_number_lem : (a n : ℕ) → stop_number (stop_is a n) ≡ a
unfolding stop_is stop_number
stop_number_lem a n = go (eqb a 0) refl where
  go : (t : Bool) → eqb a 0 ≡ t → stop_number (cond t going (stopped a n)) ≡ a
  go true e = sym (eqb-true a 0 e)
  go false e = refl

pub stop_line_lem : (a n : ℕ) (out : List ℕ) → stop_line (stop_is a n) out ≡ out_line a n out
unfolding stop_is stop_line out_line
stop_line_lem a n out = go (eqb a 0) where
  go : (t : Bool) → stop_line (cond t going (stopped a n)) out ≡ cond t out (set out 0 n)
  go true = refl
  go false = refl

pub out_none : (a n : ℕ) (out : List ℕ) → a ≡ 0 → out ≡ out_line a n out
unfolding out_line
out_none a n out e = rw e

pub out_set : (a n : ℕ) (out : List ℕ) → (a ≡ 0 → ⊥) → set out 0 n ≡ out_line a n out
unfolding out_line
out_set a n out e = rw (ne_eqb a 0 e)

stop_of_lem : (s : List ℕ) (k : Kept) (file p o : List ℕ) → (machine_of s k file p o).reading.stop ≡ stop_is k.answer k.named
unfolding machine_of
stop_of_lem s k file p o = refl

rows_of_parents : (s file p o : List ℕ) → join (parent_rows p) ≡ join (machine_in s file p o).reading.parents
unfolding machine_in machine_of
rows_of_parents s file p o = refl

rows_of_objects : (s file p o : List ℕ) → join (object_rows o) ≡ join (machine_in s file p o).reading.objects
unfolding machine_in machine_of
rows_of_objects s file p o = refl

-- ## What a call leaves

-- the state that is left, where the one lent passes
record Counted (s piece file s' : List ℕ) : Type 0 where
  pub count : (kept_of s').reader.count ≤ (kept_of s).reader.count + length piece
  pub size : (kept_of s').reader.line.size ≤ (kept_of s).reader.line.size + length piece
  pub passes : (kept_of s').reader.count ≤ max_read → (kept_of s').reader.line.size ≤ max_read → state_stands s' file ≡ true

module _ (s piece file p o out : List ℕ) where
  pub fed_refused : (n : ℕ) → (n ≡ 0 → ⊥) → Fed n s piece file p o out s p o out n
  unfolding fed_answer fed_line fed_machine fed_table
  fed_refused n e = record {
    answer = rw (ne_eqb n 0 e);
    line = rw (ne_eqb n 0 e);
    state = rw (ne_eqb n 0 e);
    parents = rw (ne_eqb n 0 e);
    objects = rw (ne_eqb n 0 e);
    refused = λ z. refl;
    stays = λ z. refl;
    count = omega arith;
    size = omega arith;
    passes = λ z c d. z;
  }

  -- where the machine after the piece is the one that this state stands for
  leaves : (s' p' o' out' : List ℕ) (a l r : ℕ) → machine_in s' file p' o' ≡ feed layout_room (machine_in s file p o) piece
      → (machine_in s' file p' o').reading.stop ≡ stop_is a l → r ≡ a → out' ≡ out_line a l out
      → (parents_whole p && objects_whole o) ≡ true → length p' ≡ length p → length o' ≡ length o
      → (((kept_of s).answer ≡ 0 → ⊥) → s' ≡ s) → Counted s piece file s' → Fed 0 s piece file p o out s' p' o' out' r
  unfolding fed_answer fed_line fed_machine fed_table
  leaves s' p' o' out' a l r m q e f w lp lo st ct = record {
    answer = e ∙ sym (stop_number_lem a l) ∙ ap stop_number (sym q) ∙ ap (λ (S : State). stop_number S.reading.stop) m;
    line = f ∙ sym (stop_line_lem a l out) ∙ ap (λ (S : Stop). stop_line S out) (sym q) ∙ ap (λ (S : State). stop_line S.reading.stop out) m;
    state = m;
    parents = sym (join_parents p o p' w lp) ∙ rows_p ∙ ap (λ (S : State). join S.reading.parents) m;
    objects = sym (join_objects p o o' w lo) ∙ rows_o ∙ ap (λ (S : State). join S.reading.objects) m;
    refused = λ z. absurd (z refl);
    stays = st;
    count = ct.count;
    size = ct.size;
    passes = λ z. ct.passes;
  } where
    rows_p : join (parent_rows p') ≡ join (machine_in s' file p' o').reading.parents
    rows_p = rows_of_parents s' file p' o'

    rows_o : join (object_rows o') ≡ join (machine_in s' file p' o').reading.objects
    rows_o = rows_of_objects s' file p' o'

  pub fed_stopped : (n r : ℕ) (k : Kept) (out' : List ℕ) → Passed s piece file p o (length out) → n ≡ 0 → k ≡ kept_of s → (k.answer ≡ 0 → ⊥)
      → (r ≡ k.answer) × (out' ≡ out_line k.answer k.named out) → Fed n s piece file p o out s p o out' r
  unfolding machine_in feed
  fed_stopped n r k out' g e q z t =
      let y : (kept_of s).answer ≡ 0 → ⊥ = λ w. z (ap (λ (x : Kept). x.answer) q ∙ w) in
      subst (λ (m : ℕ). Fed m s piece file p o out s p o out' r) (sym e)
      (leaves s p o out' (kept_of s).answer (kept_of s).named r (sym (stays (machine_of s (kept_of s) file p o) piece (stopped_is s (kept_of s) file p o y)))
      (stop_of_lem s (kept_of s) file p o) (t.0 ∙ ap (λ (x : Kept). x.answer) q) (t.1 ∙ ap (λ (x : Kept). out_line x.answer x.named out) q) g.tables refl refl (λ w. refl)
      (record { count = omega arith; size = omega arith; passes = λ c d. g.state }))

  pub fed_piece : (n r : ℕ) (k after : Kept) (s₁ s' p' o' out' : List ℕ) → Passed s piece file p o (length out) → n ≡ 0 → k ≡ kept_of s → k.answer ≡ 0
      → PieceRead s k piece file p o s₁ p' o' after → Stored s₁ after s' → (r ≡ after.answer) × (out' ≡ out_line after.answer after.named out)
      → length p' ≡ length p → length o' ≡ length o → Fed n s piece file p o out s' p' o' out' r
  unfolding machine_in feed
  fed_piece n r k after s₁ s' p' o' out' g e q z read st t lp lo =
      let back : machine_in s' file p' o' ≡ machine_of s₁ after file p' o' = reload s₁ after s' st file p' o' read.kept in
      subst (λ (m : ℕ). Fed m s piece file p o out s' p' o' out' r) (sym e)
      (leaves s' p' o' out' after.answer after.named r
      (back ∙ sym read.machine ∙ ap (λ (x : Kept). foldl (byte layout_room) (machine_of s x file p o) piece) q)
      (ap (λ (S : State). S.reading.stop) back ∙ stop_of_lem s₁ after file p' o') t.0 t.1 g.tables lp lo
      (λ w. absurd (w (sym (ap (λ (x : Kept). x.answer) q) ∙ z)))
      (record {
        count = omega (arith, read.count, count_back s₁ after s' st, ap (λ (x : Kept). x.reader.count) q);
        size = omega (arith, read.size, size_back s₁ after s' st, ap (λ (x : Kept). x.reader.line.size) q);
        passes = stored_stands s₁ after s' st file read.kept;
      }))

-- what a piece relies on, of a call that isn't refused
pub goes_in : (s piece file p o : List ℕ) (places : ℕ) (k : Kept) → Passed s piece file p o places → k ≡ kept_of s → k.answer ≡ 0
    → Going s file k × (k.reader.count + length piece < max_count) × (k.reader.line.size + length piece + length piece < max_count)
unfolding state_stands
goes_in s piece file p o places k g q z =
    let gs : good_state s ≡ true = and_first (good_state s) (leb (kept_of s).taken (length file)) g.state in
    let tk : (kept_of s).taken ≤ length file = leb-true (kept_of s).taken (length file) (and_second (good_state s) (leb (kept_of s).taken (length file)) g.state) in
    let b = state_bounds s gs in
    subst (λ (x : Kept). x.answer ≡ 0 → Going s file x × (x.reader.count + length piece < max_count) × (x.reader.line.size + length piece + length piece < max_count)) (sym q)
    (λ y. (record { kept = state_holds s file gs tk; goes = y }, omega (arith, b.0, g.short), omega (arith, b.1, g.short))) z

pub answer_fits : (s piece file p o : List ℕ) (places : ℕ) (k : Kept) → Passed s piece file p o places → k ≡ kept_of s → (k.answer ≤ 37) × ((k.answer ≡ 0 → ⊥) → 33 ≤ k.answer)
unfolding state_stands
answer_fits s piece file p o places k g q =
    let gs : good_state s ≡ true = and_first (good_state s) (leb (kept_of s).taken (length file)) g.state in
    let tk : (kept_of s).taken ≤ length file = leb-true (kept_of s).taken (length file) (and_second (good_state s) (leb (kept_of s).taken (length file)) g.state) in
    let h = state_holds s file gs tk in
    subst (λ (x : Kept). (x.answer ≤ 37) × ((x.answer ≡ 0 → ⊥) → 33 ≤ x.answer)) (sym q) (h.answer, h.number)

pub long_state : (s piece file p o : List ℕ) (places : ℕ) → Passed s piece file p o places → 208 ≤ length s
unfolding state_stands
long_state s piece file p o places g =
    let gs : good_state s ≡ true = and_first (good_state s) (leb (kept_of s).taken (length file)) g.state in
    omega (arith, state_long s gs)
