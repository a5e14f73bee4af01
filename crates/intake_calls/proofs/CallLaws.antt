-- Calls one after another, from the state of zeros: none of them is refused. Assumes nothing.
use Prim.Native.Nat.{ℕ, ◌+◌, ◌≤◌}
use mathlib.Core.Path.{◌≡◌, refl, sym, ap, subst, ◌∙◌}
use mathlib.Core.List.{List, [], ◌∷◌, ◌++◌, append_assoc, append-nil}
use mathlib.Core.Bool.{true}
use native.Mathlib.Omega.{arith}
use lib.ListN.{length, length-append, length-set}
use lib.Seq.{set-set}
use lib.Dec.{leb}
use borrow.Author.Tests.{le-leb}
use Rattle.wire.specs.Numbers.{le}
use Rattle.wire.proofs.Both.{and_both}
use Rattle.tables.specs.Bytes.{layout_room, join}
use Rattle.tables.specs.Check.{parents_whole, objects_whole}
use Rattle.intake.specs.Reading.{Stop, going, stopped, is_going}
use Rattle.intake.specs.Machine.{State, feed, begin, no_line}
use Rattle.intake.proofs.Simulation.{feed_append}
use Rattle.intake_bytes.specs.Lent.{kept_in, digits_of, digits_in, partial_in}
use Rattle.intake_line.specs.Entry.{open_in, good_mark}
use Rattle.intake_state.specs.State.{stop_is, machine_of, number_at, half_of, line_in, marks_in, reader_in, kept_of, machine_in, max_read, good_stop, bare_marks, good_open, good_half, is_even, good_line, good_kept, good_state, state_stands}
use Rattle.intake_feed.specs.Feed.{max_piece, feed_refusal, stop_number, stop_line, PieceFed}
use Rattle.intake_feed.proofs.PieceLaws.{stays}
use Rattle.intake_feed.proofs.FedLaws.{refuse_none}
use Rattle.intake_calls.specs.Calls.{Calls, zero_state, beginning, Short, Lent}
use Rattle.intake_calls.proofs.WholeLaws.{Taken, taken, whole_stays}

-- ## The state of zeros

-- it stands for the reading that begins
pub zero_begins : (file p o : List ℕ) → machine_in zero_state file p o ≡ begin (beginning file p o)
unfolding machine_in machine_of kept_of reader_in marks_in line_in number_at zero_state beginning begin open_in stop_is partial_in half_of digits_in digits_of kept_in no_line le
zero_begins file p o = refl

zero_good : good_state zero_state ≡ true
unfolding good_state good_kept good_stop good_open good_mark bare_marks good_half is_even good_line kept_of reader_in marks_in line_in half_of number_at zero_state le
zero_good = refl

zero_numbers : ((kept_of zero_state).taken ≡ 0) × ((kept_of zero_state).reader.count ≡ 0) × ((kept_of zero_state).reader.line.size ≡ 0)
unfolding kept_of reader_in marks_in line_in half_of number_at zero_state le
zero_numbers = (refl, refl, refl)

-- THE LAW: it passes
pub zero_stands : (file : List ℕ) → state_stands zero_state file ≡ true
unfolding state_stands
zero_stands file =
    and_both (good_state zero_state) (leb (kept_of zero_state).taken (length file)) zero_good
    (le-leb (kept_of zero_state).taken (length file) (omega (arith, zero_numbers.0)))

-- ## The line handed out

line_long : (S : Stop) (out : List ℕ) → length (stop_line S out) ≡ length out
unfolding stop_line
line_long going out = refl
line_long (stopped n l) out = length-set out 0 l

pub line_twice : (S : Stop) (out : List ℕ) → stop_line S (stop_line S out) ≡ stop_line S out
unfolding stop_line
line_twice going out = refl
line_twice (stopped n l) out = set-set out 0 l l

-- a machine that has stopped stays as it is
pub stop_stays : (S : State) (piece : List ℕ) (n l : ℕ) → S.reading.stop ≡ stopped n l → feed layout_room S piece ≡ S
unfolding feed is_going
stop_stays S piece n l e = stays S piece (ap is_going e)

-- and its line is written again
line_again : (S : State) (piece out : List ℕ)
    → stop_line (feed layout_room S piece).reading.stop (stop_line S.reading.stop out) ≡ stop_line (feed layout_room S piece).reading.stop out
unfolding stop_line
line_again S piece out = go S.reading.stop refl where
  go : (t : Stop) → S.reading.stop ≡ t
      → stop_line (feed layout_room S piece).reading.stop (stop_line t out) ≡ stop_line (feed layout_room S piece).reading.stop out
  go going e = refl
  go (stopped n l) e =
      let f : (feed layout_room S piece).reading.stop ≡ stopped n l = ap (λ (T : State). T.reading.stop) (stop_stays S piece n l e) ∙ e in
      subst (λ (t : Stop). stop_line t (stop_line (stopped n l) out) ≡ stop_line t out) (sym f) (line_twice (stopped n l) out)

-- ## Calls so far

-- what holds after the calls that fed these bytes, over tables p and o and a line handed out as `out` to begin with
pub record SoFar (file p o out done s' p' o' out' : List ℕ) (r' : ℕ) : Type 0 where
  pub machine : machine_in s' file p' o' ≡ feed layout_room (begin (beginning file p o)) done
  pub passes : state_stands s' file ≡ true
  pub count : (kept_of s').reader.count ≤ length done
  pub size : (kept_of s').reader.line.size ≤ length done
  pub parents : parents_whole p' ≡ true
  pub objects : objects_whole o' ≡ true
  pub place : 1 ≤ length out'
  pub answer : r' ≡ stop_number (machine_in s' file p' o').reading.stop
  pub line : out' ≡ stop_line (machine_in s' file p' o').reading.stop out

-- a call over what is lent isn't refused
pub accepted : (s piece file p o out : List ℕ) → length piece ≤ max_piece → state_stands s file ≡ true → parents_whole p ≡ true → objects_whole o ≡ true
    → 1 ≤ length out → feed_refusal s piece file p o (length out) ≡ 0
accepted s piece file p o out h g w v n = sym (refuse_none s piece file p o (length out) h (and_both (parents_whole p) (objects_whole o) w v) g n)

module _ (file p o out : List ℕ) where
  no_calls : parents_whole p ≡ true → objects_whole o ≡ true → 1 ≤ length out → SoFar file p o out [] zero_state p o out 0
  unfolding feed stop_number stop_line begin beginning
  no_calls w v n = record {
    machine = zero_begins file p o;
    passes = zero_stands file;
    count = omega (arith, zero_numbers.1);
    size = omega (arith, zero_numbers.2);
    parents = w;
    objects = v;
    place = n;
    answer = ap (λ (S : State). stop_number S.reading.stop) (sym (zero_begins file p o));
    line = ap (λ (S : State). stop_line S.reading.stop out) (sym (zero_begins file p o));
  }

  one_more : (done piece s p₁ o₁ out₁ : List ℕ) (r : ℕ) (s₂ p₂ o₂ out₂ : List ℕ) (r₂ : ℕ) → SoFar file p o out done s p₁ o₁ out₁ r → length piece ≤ max_piece
      → length (done ++ piece) ≤ max_read → PieceFed s piece file p₁ o₁ out₁ s₂ p₂ o₂ out₂ r₂ → SoFar file p o out (done ++ piece) s₂ p₂ o₂ out₂ r₂
  unfolding PieceFed
  one_more done piece s p₁ o₁ out₁ r s₂ p₂ o₂ out₂ r₂ h q n f =
      let t : Taken s piece file p₁ o₁ out₁ s₂ p₂ o₂ out₂ r₂ =
      taken s piece file p₁ o₁ out₁ s₂ p₂ o₂ out₂ r₂ f (accepted s piece file p₁ o₁ out₁ q h.passes h.parents h.objects h.place) in
      let long : length (done ++ piece) ≡ length done + length piece = length-append done piece in
      let c : (kept_of s₂).reader.count ≤ length (done ++ piece) = omega (arith, long, f.count, h.count) in
      let z : (kept_of s₂).reader.line.size ≤ length (done ++ piece) = omega (arith, long, f.size, h.size) in
      let w = whole_stays s piece file p₁ o₁ out₁ s₂ p₂ o₂ out₂ r₂ h.parents h.objects f in
      let S : State = machine_in s file p₁ o₁ in
      record {
        machine = t.machine ∙ ap (λ (T : State). feed layout_room T piece) h.machine ∙ feed_append layout_room (begin (beginning file p o)) done piece;
        passes = f.passes h.passes (omega (arith, c, n)) (omega (arith, z, n));
        count = c;
        size = z;
        parents = w.0;
        objects = w.1;
        place = omega (arith, h.place, ap length t.line ∙ line_long (feed layout_room S piece).reading.stop out₁);
        answer = t.answer ∙ ap (λ (T : State). stop_number T.reading.stop) (sym t.machine);
        line = t.line ∙ ap (stop_line (feed layout_room S piece).reading.stop) h.line ∙ line_again S piece out
            ∙ ap (λ (T : State). stop_line T.reading.stop out) (sym t.machine);
      }

  all_calls : (cut : List (List ℕ)) (done s p₁ o₁ out₁ : List ℕ) (r : ℕ) (s' p' o' out' : List ℕ) (r' : ℕ) → SoFar file p o out done s p₁ o₁ out₁ r → Short cut
      → length (done ++ join cut) ≤ max_read → Calls file cut s p₁ o₁ out₁ r s' p' o' out' r' → SoFar file p o out (done ++ join cut) s' p' o' out' r'
  unfolding Short Calls join
  all_calls [] done s p₁ o₁ out₁ r s' p' o' out' r' h q n c = rw (append-nil, ← c.0, ← c.1, ← c.2, ← c.3, ← c.4) h
  all_calls (piece ∷ cut) done s p₁ o₁ out₁ r s' p' o' out' r' h q n c =
      let a : done ++ piece ++ join cut ≡ done ++ (piece ++ join cut) = append_assoc done piece (join cut) in
      let k : length (done ++ piece ++ join cut) ≡ length (done ++ piece) + length (join cut) = length-append (done ++ piece) (join cut) in
      let b : length (done ++ piece ++ join cut) ≤ max_read = rw a n in
      subst (λ (l : List ℕ). SoFar file p o out l s' p' o' out' r') a
      (all_calls cut (done ++ piece) c.0 c.1 c.2 c.3 c.4 s' p' o' out' r'
      (one_more done piece s p₁ o₁ out₁ r c.0 c.1 c.2 c.3 c.4 h q.0 (omega (arith, b, k)) c.5) q.1 b c.6)

  pub from_zero : (cut : List (List ℕ)) (s' p' o' out' : List ℕ) (r' : ℕ) → Lent cut p o out → Calls file cut zero_state p o out 0 s' p' o' out' r'
      → SoFar file p o out (join cut) s' p' o' out' r'
  from_zero cut s' p' o' out' r' l c =
      all_calls cut [] zero_state p o out 0 s' p' o' out' r' (no_calls l.parents l.objects l.place) l.short l.counted c
