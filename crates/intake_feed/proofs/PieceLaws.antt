-- The lines of a piece, one after another. Assumes nothing.
use Prim.Native.Nat.{ℕ, suc, ◌+◌, ◌-◌, ◌≤◌, ◌<◌}
use mathlib.Core.Path.{◌≡◌, refl, sym, ap, subst, ◌∙◌}
use mathlib.Core.List.{List, [], ◌∷◌, foldl}
use mathlib.Core.Bool.{true, false}
use native.Mathlib.Numerals.{add-one}
use native.Mathlib.Omega.{arith}
use lib.ListN.{length, drop, get_or, drop_of_length-le}
use lib.Seq.{drop-cons}
use borrow.Author.Tests.{ne_eqb}
use Rattle.tables.specs.Bytes.{layout_room, parent_rows, object_rows}
use Rattle.intake.specs.Reading.{Open, is_going}
use Rattle.intake.specs.Machine.{State, byte}
use Rattle.intake_bytes.specs.declared.Reached.{Reached}
use Rattle.intake_bytes.specs.Lent.{max_count, partial_in, want_of, LineFed}
use Rattle.intake_bytes.proofs.FeedLaws.{held_at}
use Rattle.intake_line.proofs.GlueLaws.{want_open, open_stays}
use Rattle.intake_state.specs.declared.Kept.{Kept}
use Rattle.intake_feed.specs.Piece.{with_line, Going, LineEnded, PieceRead}
use Rattle.intake_state.specs.State.{stop_is, machine_of, KeptHeld}

-- a machine that has stopped stays as it is
pub stays : (S : State) (l : List ℕ) → is_going S.reading.stop ≡ false → foldl (byte layout_room) S l ≡ S
unfolding byte
stays S [] e = refl
stays S (b ∷ l) e = rw e (stays S l e)

pub stopped_is : (s : List ℕ) (k : Kept) (file p o : List ℕ) → (k.answer ≡ 0 → ⊥) → is_going (machine_of s k file p o).reading.stop ≡ false
unfolding machine_of stop_is is_going
stopped_is s k file p o e = rw (ne_eqb k.answer 0 e)

going_is : (s : List ℕ) (k : Kept) (file p o : List ℕ) → k.answer ≡ 0 → is_going (machine_of s k file p o).reading.stop ≡ true
unfolding machine_of stop_is is_going
going_is s k file p o e = rw e

-- a piece of which so much has been read, from the state as lent
pub record Reads (s₀ : List ℕ) (k₀ : Kept) (piece file p₀ o₀ : List ℕ) (at : ℕ) (s p o : List ℕ) (k : Kept) : Type 0 where
  pub machine : foldl (byte layout_room) (machine_of s₀ k₀ file p₀ o₀) piece ≡ foldl (byte layout_room) (machine_of s k file p o) (drop at piece)
  pub going : Going s file k
  pub within : at ≤ length piece
  pub count : k.reader.count ≤ k₀.reader.count + at
  pub size : k.reader.line.size ≤ k₀.reader.line.size + at

-- the same within a line, up to its end or the piece's
pub record InLine (s₀ : List ℕ) (k₀ : Kept) (piece file p₀ o₀ : List ℕ) (end : ℕ) (s p o : List ℕ) (k : Kept) : Type 0 where
  pub reads : Reads s₀ k₀ piece file p₀ o₀ end s p o k
  pub stop : end < length piece → get_or piece end 0 ≡ 10

module _ (s₀ : List ℕ) (k₀ : Kept) (piece file p₀ o₀ : List ℕ) (c₀ : k₀.reader.count + length piece < max_count) (z₀ : k₀.reader.line.size + length piece + length piece < max_count) where
  pub reads_start : Going s₀ file k₀ → Reads s₀ k₀ piece file p₀ o₀ 0 s₀ p₀ o₀ k₀
  reads_start g = record { machine = refl; going = g; within = omega arith; count = omega arith; size = omega arith }

  module _ (at : ℕ) (s p o : List ℕ) (k : Kept) (i : Reads s₀ k₀ piece file p₀ o₀ at s p o k) where
    module _ (s' : List ℕ) (x : Reached) (f : LineFed (want_of k.reader.marks (length s)) s k.reader.line piece at s' x) where
      fed_machine_lem : foldl (byte layout_room) (machine_of s k file p o) (drop at piece) ≡ foldl (byte layout_room) (machine_of s' (with_line k x.line) file p o) (drop x.at piece)
      unfolding machine_of with_line
      fed_machine_lem =
          let room : length s - 208 ≡ layout_room = omega (arith, i.going.kept.size) in
          let same = f.fed.same (machine_of s k file p o).reading (going_is s k file p o i.going.goes)
          (want_open s k.reader.marks k.reader.from i.going.kept.held.marked.bare) in
          subst (λ (n : ℕ). foldl (byte n) (record { reading = (machine_of s k file p o).reading; line = partial_in s k.reader.line }) (drop at piece)
          ≡ foldl (byte n) (record { reading = (machine_of s k file p o).reading; line = partial_in s' x.line }) (drop x.at piece)) room same
          ∙ ap (λ (e : Open). foldl (byte layout_room) (record {
            reading = record {
              parents = parent_rows p;
              objects = object_rows o;
              owners = drop k.taken file;
              count = k.reader.count;
              entry = e;
              stop = stop_is k.answer k.named;
            };
            line = partial_in s' x.line;
          }) (drop x.at piece))
          (sym (open_stays s s' k.reader.marks f.fed.long f.fed.others k.reader.from))

      fed_going : Going s' file (with_line k x.line)
      unfolding with_line
      fed_going =
          let g = i.going.kept in
          record {
            kept = record {
              size = f.fed.long ∙ g.size;
              held = record {
                long = omega (arith, f.fed.long, g.held.long);
                held = held_at k.reader.marks (length s) (length s') s' x.line (sym f.fed.long) f.fed.held;
                marked = g.held.marked;
                lines = g.held.lines;
                sizes = omega (arith, f.fed.counts, f.fed.least, f.fed.within, i.size);
              };
              taken = g.taken;
              answer = g.answer;
              number = g.number;
            };
            goes = i.going.goes;
          }

      pub reads_line : (k' : Kept) → k' ≡ with_line k x.line → InLine s₀ k₀ piece file p₀ o₀ x.at s' p o k'
      unfolding with_line
      reads_line k' w = subst (InLine s₀ k₀ piece file p₀ o₀ x.at s' p o) (sym w) (record {
        reads = record {
          machine = i.machine ∙ fed_machine_lem;
          going = fed_going;
          within = f.fed.within;
          count = omega (arith, i.count, f.fed.least);
          size = omega (arith, i.size, f.fed.counts, f.fed.least);
        };
        stop = f.stop;
      })

    -- the piece's end
    pub reads_all : length piece ≤ at → PieceRead s₀ k₀ piece file p₀ o₀ s p o k
    reads_all h = record {
      machine = i.machine ∙ ap (foldl (byte layout_room) (machine_of s k file p o)) (drop_of_length-le piece h);
      kept = i.going.kept;
      count = omega (arith, i.count, i.within);
      size = omega (arith, i.size, i.within);
    }

  -- a line's end
  module _ (end : ℕ) (s p o : List ℕ) (k : Kept) (i : InLine s₀ k₀ piece file p₀ o₀ end s p o k) (h : end < length piece) (p' o' : List ℕ) (r : Kept)
      (l : LineEnded s file k p o p' o' r) where
    line_machine : foldl (byte layout_room) (machine_of s₀ k₀ file p₀ o₀) piece ≡ foldl (byte layout_room) (machine_of s r file p' o') (drop (suc end) piece)
    line_machine =
        i.reads.machine
        ∙ ap (foldl (byte layout_room) (machine_of s k file p o)) (drop-cons piece end 0 h)
        ∙ ap (λ (S : State). foldl (byte layout_room) S (drop (suc end) piece)) (ap (byte layout_room (machine_of s k file p o)) (i.stop h) ∙ l.machine)

    line_kept : KeptHeld s file r
    line_kept = l.kept (omega (arith, l.count, i.reads.count))

    pub reads_stop : (r.answer ≡ 0 → ⊥) → PieceRead s₀ k₀ piece file p₀ o₀ s p' o' r
    reads_stop e = record {
      machine = line_machine ∙ stays (machine_of s r file p' o') (drop (suc end) piece) (stopped_is s r file p' o' e);
      kept = line_kept;
      count = omega (arith, l.count, i.reads.count);
      size = omega (arith, l.size);
    }

    pub reads_next : r.answer ≡ 0 → Reads s₀ k₀ piece file p₀ o₀ (end + 1) s p' o' r
    reads_next e = record {
      machine = line_machine ∙ ap (λ (n : ℕ). foldl (byte layout_room) (machine_of s r file p' o') (drop n piece)) (sym (add-one end));
      going = record { kept = line_kept; goes = e };
      within = omega arith;
      count = omega (arith, l.count, i.reads.count);
      size = omega (arith, l.size);
    }
