-- Calls one after another come to what the definition gives on the whole dump, and nothing comes after a stop. Assumes nothing.
use Prim.Native.Nat.{ℕ, ◌≤◌}
use mathlib.Core.Path.{◌≡◌, refl, sym, ap, subst, ◌∙◌}
use mathlib.Core.List.{List, [], ◌∷◌}
use mathlib.Core.Bool.{true, ◌&&◌}
use native.Mathlib.Omega.{arith}
use lib.ListN.{length, get_or}
use lib.Dec.{leb}
use borrow.Author.Tests.{le-leb}
use Rattle.wire.proofs.Both.{and_first, and_both}
use Rattle.tables.specs.Bytes.{layout_room, parent_rows, object_rows, join}
use Rattle.tables.specs.Check.{parents_whole, objects_whole, first_failing}
use Rattle.intake.specs.Lines.{lines}
use Rattle.intake.specs.Given.{Becomes, RowsGiven, EveryRowGiven, NothingFresh}
use Rattle.intake.specs.Reading.{bad_dump, Reading, Stop, going, stopped, dump_reading, dump_ends, ended}
use Rattle.intake.specs.Machine.{State, feed, begin, finish}
use Rattle.intake.proofs.GivenLaws.{every_row_given}
use Rattle.intake.proofs.FreshLaws.{nothing_fresh}
use Rattle.intake.proofs.Simulation.{feed_all, pieces, cut_anywhere, end_anywhere}
use Rattle.intake_state.specs.State.{machine_of, kept_of, machine_in, good_state, state_stands}
use Rattle.intake_feed.specs.Feed.{max_piece, stop_number, stop_line, PieceFed}
use Rattle.intake_feed.specs.End.{end_refusal, end_stop, DumpEnded}
use Rattle.intake_feed.proofs.FedLaws.{join_parents, join_objects, stop_number_lem}
use Rattle.intake_calls.specs.Calls.{Calls, beginning, Short, CutAnywhere, EveryCut, EveryRowComes, NothingAfter, NothingAfterStop}
use Rattle.intake_calls.proofs.WholeLaws.{Taken, taken, rows_are}
use Rattle.intake_calls.proofs.CallLaws.{line_twice, stop_stays, SoFar, accepted, from_zero}

module _ (file p o out : List ℕ) where
  -- the end asks neither the owners file nor the tables
  end_asks : (s p₁ o₁ : List ℕ) → end_stop s ≡ finish (machine_in s file p₁ o₁)
  unfolding end_stop finish machine_in machine_of ended
  end_asks s p₁ o₁ = refl

  -- a state that passes is answered for
  end_told : (s last last' : List ℕ) (e : ℕ) → good_state s ≡ true → 1 ≤ length last → DumpEnded s last last' e
      → (e ≡ stop_number (end_stop s)) × (last' ≡ stop_line (end_stop s) last)
  unfolding DumpEnded end_refusal first_failing
  end_told s last last' e g n d = (d.answer ∙ rw (g, le-leb 1 (length last) n), d.line ∙ rw (g, le-leb 1 (length last) n))

  -- what holds of the calls so far is what is promised of the whole
  cut_is : (cut : List (List ℕ)) (s' p' o' out' : List ℕ) (r' : ℕ) → SoFar file p o out (join cut) s' p' o' out' r'
      → CutAnywhere file cut p o out s' p' o' out' r'
  unfolding state_stands
  cut_is cut s' p' o' out' r' h =
      let R : Reading = dump_reading layout_room (beginning file p o) (join cut) in
      let m : machine_in s' file p' o' ≡ feed_all layout_room (begin (beginning file p o)) cut =
      h.machine ∙ sym (pieces layout_room (begin (beginning file p o)) cut) in
      let e : (machine_in s' file p' o').reading ≡ R = ap (λ (S : State). S.reading) m ∙ cut_anywhere layout_room (beginning file p o) cut in
      let x : end_stop s' ≡ dump_ends layout_room (beginning file p o) (join cut) =
      end_asks s' p' o' ∙ ap finish m ∙ end_anywhere layout_room (beginning file p o) cut in
      let w : (parents_whole p' && objects_whole o') ≡ true = and_both (parents_whole p') (objects_whole o') h.parents h.objects in
      let a = rows_are s' file p' o' (machine_in s' file p' o') refl in
      record {
        parents = sym (join_parents p' o' p' w refl) ∙ ap join (a.0 ∙ ap (λ (S : Reading). S.parents) e);
        objects = sym (join_objects p' o' o' w refl) ∙ ap join (a.1 ∙ ap (λ (S : Reading). S.objects) e);
        answer = h.answer ∙ ap (λ (S : Reading). stop_number S.stop) e;
        line = h.line ∙ ap (λ (S : Reading). stop_line S.stop out) e;
        passes = h.passes;
        end = λ last last' n k d.
            let t = end_told s' last last' n (and_first (good_state s') (leb (kept_of s').taken (length file)) h.passes) k d in
            (t.0 ∙ ap stop_number x, t.1 ∙ ap (λ (S : Stop). stop_line S last) x);
      }

-- THE LAW: "cutting it anywhere gives the same tables"
pub every_cut : EveryCut
unfolding EveryCut
every_cut file cut p o out s' p' o' out' r' l c = cut_is file p o out cut s' p' o' out' r' (from_zero file p o out cut s' p' o' out' r' l c)

-- ## Rows

-- of rows that are given otherwise
same_rows : (So : List ℕ → List ℕ → Type 0) (before now after : List (List ℕ)) → now ≡ after → ((r : ℕ) → Becomes So (get_or before r []) (get_or after r []))
    → (r : ℕ) → Becomes So (get_or before r []) (get_or now r [])
same_rows So before now after e h r = subst (λ (rows : List (List ℕ)). Becomes So (get_or before r []) (get_or rows r [])) (sym e) (h r)

pub every_row_comes : EveryRowComes
unfolding EveryRowComes EveryRowGiven NothingFresh beginning
every_row_comes file cut p o out s' p' o' out' r' l c =
    let h : SoFar file p o out (join cut) s' p' o' out' r' = from_zero file p o out cut s' p' o' out' r' l c in
    let B : Reading = beginning file p o in
    let e : (machine_in s' file p' o').reading ≡ dump_reading layout_room B (join cut) =
    ap (λ (S : State). S.reading) (h.machine ∙ sym (pieces layout_room (begin B) cut)) ∙ cut_anywhere layout_room B cut in
    let a = rows_are s' file p' o' (machine_in s' file p' o') refl in
    let g : RowsGiven layout_room (lines (join cut)).complete B (dump_reading layout_room B (join cut)) = every_row_given layout_room B (join cut) refl in
    record {
      parents = same_rows _ (parent_rows p) (parent_rows p') _ (a.0 ∙ ap (λ (S : Reading). S.parents) e) g.parents;
      objects = same_rows _ (object_rows o) (object_rows o') _ (a.1 ∙ ap (λ (S : Reading). S.objects) e) g.objects;
      fresh = same_rows _ (object_rows o) (object_rows o') _ (a.1 ∙ ap (λ (S : Reading). S.objects) e) (nothing_fresh layout_room B (join cut) refl);
    }

-- ## After a stop

module _ (file p o out done s p₁ o₁ out₁ : List ℕ) (r : ℕ) (h : SoFar file p o out done s p₁ o₁ out₁ r) (q : bad_dump ≤ r) where
  -- the machine has stopped, and the state's numbers say so
  stop_is_lem : (S : Stop) → S ≡ (machine_in s file p₁ o₁).reading.stop → (piece : List ℕ) → feed layout_room (machine_in s file p₁ o₁) piece ≡ machine_in s file p₁ o₁
  unfolding stop_number
  stop_is_lem going e piece = absurd (omega (arith, q, h.answer ∙ ap stop_number (sym e)))
  stop_is_lem (stopped n l) e piece = stop_stays (machine_in s file p₁ o₁) piece n l (sym e)

  has_answer : (kept_of s).answer ≡ r
  unfolding machine_in machine_of
  has_answer = sym (h.answer ∙ stop_number_lem (kept_of s).answer (kept_of s).named)

  -- one call, and a list of them
  one_after : (piece s₂ p₂ o₂ out₂ : List ℕ) (r₂ : ℕ) → length piece ≤ max_piece → PieceFed s piece file p₁ o₁ out₁ s₂ p₂ o₂ out₂ r₂
      → NothingAfter s p₁ o₁ out₁ r s₂ p₂ o₂ out₂ r₂
  unfolding PieceFed
  one_after piece s₂ p₂ o₂ out₂ r₂ n f =
      let S : State = machine_in s file p₁ o₁ in
      let t : Taken s piece file p₁ o₁ out₁ s₂ p₂ o₂ out₂ r₂ =
      taken s piece file p₁ o₁ out₁ s₂ p₂ o₂ out₂ r₂ f (accepted s piece file p₁ o₁ out₁ n h.passes h.parents h.objects h.place) in
      let m : feed layout_room S piece ≡ S = stop_is_lem S.reading.stop refl piece in
      let w : (parents_whole p₁ && objects_whole o₁) ≡ true = and_both (parents_whole p₁) (objects_whole o₁) h.parents h.objects in
      let a = rows_are s file p₁ o₁ S refl in
      record {
        state = f.stays (λ z. omega (arith, z, has_answer, q));
        parents = t.parents ∙ ap (λ (T : State). join T.reading.parents) m ∙ ap join (sym a.0) ∙ join_parents p₁ o₁ p₁ w refl;
        objects = t.objects ∙ ap (λ (T : State). join T.reading.objects) m ∙ ap join (sym a.1) ∙ join_objects p₁ o₁ o₁ w refl;
        line = t.line ∙ ap (λ (T : State). stop_line T.reading.stop out₁) m ∙ ap (stop_line S.reading.stop) h.line
            ∙ line_twice S.reading.stop out ∙ sym h.line;
        answer = t.answer ∙ ap (λ (T : State). stop_number T.reading.stop) m ∙ sym h.answer;
      }

  calls_after : (more : List (List ℕ)) (s₂ p₂ o₂ out₂ : List ℕ) (r₂ : ℕ) → Short more → Calls file more s p₁ o₁ out₁ r s₂ p₂ o₂ out₂ r₂
      → NothingAfter s p₁ o₁ out₁ r s₂ p₂ o₂ out₂ r₂
  unfolding Short Calls
  calls_after [] s₂ p₂ o₂ out₂ r₂ n c = record { state = sym c.0; parents = sym c.1; objects = sym c.2; line = sym c.3; answer = sym c.4 }
  calls_after (piece ∷ more) s₂ p₂ o₂ out₂ r₂ n c =
      let a = one_after piece c.0 c.1 c.2 c.3 c.4 n.0 c.5 in
      calls_after more s₂ p₂ o₂ out₂ r₂ n.1 (rw (a.state, a.parents, a.objects, a.line, a.answer) at c.6)

-- THE LAW: 33 to 37 "stop the reading"
pub nothing_after_stop : NothingAfterStop
unfolding NothingAfterStop
nothing_after_stop file cut more p o out s₁ p₁ o₁ out₁ r₁ s₂ p₂ o₂ out₂ r₂ l c q n d =
    calls_after file p o out (join cut) s₁ p₁ o₁ out₁ r₁ (from_zero file p o out cut s₁ p₁ o₁ out₁ r₁ l c) q more s₂ p₂ o₂ out₂ r₂ n d
