-- The end of a line, and the lines of a piece, over the lent bytes. Assumes nothing.
use Prim.Native.Nat.{ℕ, suc, ◌+◌, ◌≤◌, ◌<◌}
use mathlib.Core.Path.{◌≡◌, refl, sym, ap, subst, ◌∙◌}
use mathlib.Core.List.{List}
use native.Mathlib.Numerals.{add-one}
use native.Mathlib.Omega.{arith}
use lib.ListN.{length, drop}
use borrow.Author.Tests.{ne_eqb}
use Rattle.tables.specs.Bytes.{layout_room, parent_rows, object_rows}
use Rattle.intake.specs.Reading.{Reading, going, stopped, stops_at, filled, closes_entry}
use Rattle.intake.specs.Owners.{after_line}
use Rattle.intake.specs.Machine.{State, byte, no_line}
use Rattle.intake_bytes.specs.declared.Marks.{Marks}
use Rattle.intake_line.specs.declared.Reader.{Reader}
use Rattle.std.specs.Prelude.{Some, None, Ok, Err}
use Rattle.refusals.specs.declared.Refusal.{Refusal}
use Rattle.refusals.specs.Numbers.{number}
use Rattle.intake_bytes.specs.Lent.{max_count, new_line, want_of}
use Rattle.intake_line.specs.Entry.{no_marks, entry_in, open_in, MarksHeld, ReaderHeld, NextHeld, Turn, TurnHeld, state_in, turn_is, TurnTaken}
use Rattle.intake_line.proofs.EntryLaws.{no_entry_lem}
use Rattle.intake_line.proofs.TurnLaws.{new_is, new_held}
use Rattle.intake_close.specs.OwnerLine.{LineAfter}
use Rattle.intake_close.specs.Closing.{Closed, with_tables, closed_as, stop_of, EntryClosed}
use Rattle.intake_state.specs.declared.Kept.{Kept}
use Rattle.intake_feed.specs.Piece.{stopped_at, closed_at, Going, closing_of, LineClosed, LineEnded}
use Rattle.intake_state.specs.State.{stop_is, machine_of, KeptHeld}

-- the reading of a state that goes on
goes_on_lem : (n : ℕ) → stop_is 0 n ≡ going
unfolding stop_is
goes_on_lem n = refl

stops_at_lem : (q n : ℕ) → 33 ≤ q → stop_is q n ≡ stopped q n
unfolding stop_is
stops_at_lem q n h = rw (ne_eqb q 0 (λ z. omega arith))

-- a reader of which the line is new
new_reader : (s : List ℕ) (from : ℕ) (m : Marks) (count : ℕ) → 208 ≤ length s → MarksHeld from m → count < max_count
    → ReaderHeld s (record { from = from; marks = m; count = count; line = new_line })
new_reader s from m count h g c = record { long = h; held = new_held (want_of m (length s)) s h; marked = g; lines = c; sizes = omega arith }

module _ (s file : List ℕ) (k : Kept) (p o : List ℕ) (g : Going s file k) where
  -- what each end of a line leaves
  stops_kept : (q : ℕ) → 33 ≤ q → q ≤ 37 → (stopped_at k q).reader.count < max_count → KeptHeld s file (stopped_at k q)
  unfolding stopped_at
  stops_kept q h n c = record {
    size = g.kept.size;
    held = new_reader s k.reader.from k.reader.marks (k.reader.count + 1) g.kept.held.long g.kept.held.marked c;
    taken = g.kept.taken;
    answer = n;
    number = λ z. h;
  }

  closes_kept : (taken : ℕ) → taken ≤ length file → (closed_at k taken).reader.count < max_count → KeptHeld s file (closed_at k taken)
  unfolding closed_at
  closes_kept taken h c = record {
    size = g.kept.size;
    held = new_reader s 0 no_marks (k.reader.count + 1) g.kept.held.long no_entry_lem c;
    taken = h;
    answer = omega arith;
    number = λ z. absurd (z refl);
  }

  -- the machine after a stop at this line
  stop_machine : (p o : List ℕ) (q : ℕ) → 33 ≤ q
      → record { reading = stops_at (machine_of s k file p o).reading q (suc k.reader.count); line = no_line } ≡ machine_of s (stopped_at k q) file p o
  unfolding machine_of stopped_at stops_at
  stop_machine p o q h = rw (stops_at_lem q (k.reader.count + 1) h, add-one, ← new_is s)

  -- and after a row was filled
  row_machine : (p o : List ℕ) (taken : ℕ) (R : Reading) (after : List ℕ) → after ≡ drop taken file
      → record { reading = filled R (suc k.reader.count) after (parent_rows p) (object_rows o); line = no_line } ≡ machine_of s (closed_at k taken) file p o
  unfolding machine_of closed_at filled open_in stop_is
  row_machine p o taken R after e = rw (e, add-one, ← new_is s)

  going_is : stop_is k.answer k.named ≡ going
  going_is = ap (λ (n : ℕ). stop_is n k.named) g.goes ∙ goes_on_lem k.named

  -- ## A closing line

  with_tables_lem : (p' o' : List ℕ) → with_tables (machine_of s k file p o).reading p' o' ≡ (machine_of s k file p' o').reading
  unfolding with_tables machine_of
  with_tables_lem p' o' = refl

  owners_are : (machine_of s k file p o).reading.owners ≡ drop k.taken file
  unfolding machine_of
  owners_are = refl

  -- what the closing line comes to, by the code's answer
  closing_is : (p' o' : List ℕ) (x : Closed) → EntryClosed s k.reader.marks file k.taken p o p' o' x
      → closing_of s k file p o
      ≡ record { reading = closed_as (machine_of s k file p o).reading (suc k.reader.count) (after_line (drop k.taken file)) p' o' x; line = no_line }
  unfolding closing_of
  closing_is p' o' x c = ap (λ (z : Reading). record { reading = z; line = no_line })
      (ap (λ (z : Reading). closes_entry layout_room z (suc k.reader.count) (entry_in s k.reader.from k.reader.marks)) (sym (with_tables_lem p o))
      ∙ c.closes (machine_of s k file p o).reading (suc k.reader.count) k.reader.from owners_are)

  refused_machine : (p' o' : List ℕ) (q : Refusal) → 33 ≤ number q
      → record { reading = closed_as (machine_of s k file p o).reading (suc k.reader.count) (after_line (drop k.taken file)) p' o' (Err q); line = no_line }
      ≡ machine_of s (stopped_at k (number q)) file p' o'
  unfolding closed_as
  refused_machine p' o' q h =
      ap (λ (z : Reading). record { reading = stops_at z (number q) (suc k.reader.count); line = no_line }) (with_tables_lem p' o') ∙ stop_machine p' o' (number q) h

  stop_count : (q : ℕ) → (stopped_at k q).reader.count ≡ k.reader.count + 1
  unfolding stopped_at
  stop_count q = refl

  stop_size : (q : ℕ) → (stopped_at k q).reader.line.size ≡ 0
  unfolding stopped_at
  stop_size q = refl

  row_count : (taken : ℕ) → (closed_at k taken).reader.count ≡ k.reader.count + 1
  unfolding closed_at
  row_count taken = refl

  row_size : (taken : ℕ) → (closed_at k taken).reader.line.size ≡ 0
  unfolding closed_at
  row_size taken = refl

  stop_number_lem : (x : Closed) (q : Refusal) → x ≡ Err q → (33 ≤ stop_of x) × (stop_of x ≤ 37) → (33 ≤ number q) × (number q ≤ 37)
  unfolding stop_of
  stop_number_lem x q e h = subst (λ (y : Closed). (33 ≤ stop_of y) × (stop_of y ≤ 37)) e h

  pub closed_stop : (p' o' : List ℕ) (x : Closed) (q : Refusal) (r : Kept) → EntryClosed s k.reader.marks file k.taken p o p' o' x → x ≡ Err q → r ≡ stopped_at k (number q)
      → LineClosed s file k p o p' o' r
  closed_stop p' o' x q r c e w =
      let n = stop_number_lem x q e c.number in
      subst (LineClosed s file k p o p' o') (sym w)
      (record {
        machine =
            closing_is p' o' x c
            ∙ ap (λ (y : Closed). record { reading = closed_as (machine_of s k file p o).reading (suc k.reader.count) (after_line (drop k.taken file)) p' o' y; line = no_line }) e
            ∙ refused_machine p' o' q n.0;
        count = stop_count (number q);
        size = stop_size (number q);
        kept = stops_kept (number q) n.0 n.1;
      })

  filled_machine : (p' o' : List ℕ) (taken : ℕ) → after_line (drop k.taken file) ≡ drop taken file
      → record { reading = closed_as (machine_of s k file p o).reading (suc k.reader.count) (after_line (drop k.taken file)) p' o' (Ok tt); line = no_line }
      ≡ machine_of s (closed_at k taken) file p' o'
  unfolding closed_as
  filled_machine p' o' taken e = row_machine p' o' taken (machine_of s k file p o).reading (after_line (drop k.taken file)) e

  pub closed_row : (p' o' : List ℕ) (x : Closed) (taken : ℕ) (r : Kept) → EntryClosed s k.reader.marks file k.taken p o p' o' x → x ≡ Ok tt
      → LineAfter file k.taken taken → r ≡ closed_at k taken → LineClosed s file k p o p' o' r
  closed_row p' o' x taken r c e a w =
      subst (LineClosed s file k p o p' o') (sym w)
      (record {
        machine =
            closing_is p' o' x c
            ∙ ap (λ (y : Closed). record { reading = closed_as (machine_of s k file p o).reading (suc k.reader.count) (after_line (drop k.taken file)) p' o' y; line = no_line }) e
            ∙ filled_machine p' o' taken a.after;
        count = row_count taken;
        size = row_size taken;
        kept = closes_kept taken a.within;
      })

  -- ## Any line

  state_is : state_in (machine_of s k file p o).reading s k.reader ≡ machine_of s k file p o
  unfolding state_in machine_of
  state_is = rw going_is

  module _ (t : Turn) (h : TurnTaken s k.reader t) where
    ended : byte layout_room (machine_of s k file p o) 10 ≡ turn_is layout_room (machine_of s k file p o).reading s k.reader t
    ended = ap (λ (S : State). byte layout_room S 10) (sym state_is) ∙ h.turn layout_room (machine_of s k file p o).reading

    next_machine : (n : Reader) → state_in (machine_of s k file p o).reading s n ≡ machine_of s (record { answer = 0; named = 0; taken = k.taken; reader = n }) file p o
    unfolding state_in machine_of stop_is
    next_machine n = refl

    pub ended_next : (n : Reader) → t ≡ Ok (Some n) → LineEnded s file k p o p o (record { answer = 0; named = 0; taken = k.taken; reader = n })
    unfolding turn_is TurnHeld
    ended_next n e =
        let w : NextHeld s k.reader n = subst (TurnHeld s k.reader) e h.held in
        record {
          machine = ended ∙ ap (turn_is layout_room (machine_of s k file p o).reading s k.reader) e ∙ next_machine n;
          count = w.count;
          size = w.size;
          kept = λ c. record {
            size = g.kept.size;
            held = record { long = g.kept.held.long; held = w.held; marked = w.marked; lines = c; sizes = omega (arith, w.size) };
            taken = g.kept.taken;
            answer = omega arith;
            number = λ z. absurd (z refl);
          };
        }

    pub ended_stop : (q : Refusal) (r : Kept) → t ≡ Err q → r ≡ stopped_at k (number q) → LineEnded s file k p o p o r
    unfolding turn_is TurnHeld
    ended_stop q r e w =
        let n : (33 ≤ number q) × (number q ≤ 34) = subst (TurnHeld s k.reader) e h.held in
        subst (LineEnded s file k p o p o) (sym w)
        (record {
          machine =
              ended ∙ ap (turn_is layout_room (machine_of s k file p o).reading s k.reader) e
              ∙ ap (λ (S : State). record { reading = stops_at S.reading (number q) (suc k.reader.count); line = no_line }) state_is
              ∙ stop_machine p o (number q) n.0;
          count = stop_count (number q);
          size = stop_size (number q);
          kept = stops_kept (number q) n.0 (omega (arith, n.1));
        })

    pub ended_close : (p' o' : List ℕ) (r : Kept) → t ≡ Ok None → LineClosed s file k p o p' o' r → LineEnded s file k p o p' o' r
    unfolding turn_is closing_of
    ended_close p' o' r e c =
        record {
          machine =
              ended ∙ ap (turn_is layout_room (machine_of s k file p o).reading s k.reader) e
              ∙ ap (λ (S : State). record { reading = closes_entry layout_room S.reading (suc k.reader.count) (entry_in s k.reader.from k.reader.marks); line = no_line }) state_is
              ∙ c.machine;
          count = c.count;
          size = c.size;
          kept = c.kept;
        }
