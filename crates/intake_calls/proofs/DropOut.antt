-- Calls that are refused drop out of a list. Assumes nothing.
use Prim.Native.Nat.{ℕ}
use mathlib.Core.Path.{◌≡◌, refl, sym, ap, subst, ◌∙◌}
use mathlib.Core.List.{List, [], ◌∷◌, ◌++◌, append_assoc, append-nil}
use mathlib.Core.Bool.{true, ◌&&◌}
use lib.ListN.{length}
use borrow.Author.Tests.{ne_eqb}
use Rattle.wire.proofs.Both.{and_both}
use Rattle.tables.specs.Bytes.{layout_room, join}
use Rattle.tables.specs.Check.{parents_whole, objects_whole}
use Rattle.intake.specs.Reading.{Reading, dump_reading}
use Rattle.intake.specs.Machine.{State, feed, begin}
use Rattle.intake.proofs.Simulation.{state, state_of, simulates, feed_append}
use Rattle.intake_state.specs.State.{machine_in}
use Rattle.intake_feed.specs.Feed.{feed_refusal, fed_table, PieceFed}
use Rattle.intake_feed.proofs.FedLaws.{join_parents, join_objects}
use Rattle.intake_calls.specs.Calls.{zero_state, beginning, Step, takes, refused, One, Steps, taken_bytes, RefusedDropOut}
use Rattle.intake_calls.proofs.WholeLaws.{taken, whole_stays, rows_are}
use Rattle.intake_calls.proofs.CallLaws.{zero_begins}

module _ (s piece file p o out s' p' o' out' : List ℕ) (r : ℕ) where
  -- a call that is refused leaves state and tables
  left_out : PieceFed s piece file p o out s' p' o' out' r → (feed_refusal s piece file p o (length out) ≡ 0 → ⊥) → (s' ≡ s) × (p' ≡ p) × (o' ≡ o)
  unfolding PieceFed fed_table
  left_out f z =
      let n : ℕ = feed_refusal s piece file p o (length out) in
      let e = ne_eqb n 0 z in
      (f.refused z, f.parents ∙ rw e, f.objects ∙ rw e)

module _ (file p o : List ℕ) where
  -- after the bytes done
  record Reached (done s p₁ o₁ : List ℕ) : Type 0 where
    machine : machine_in s file p₁ o₁ ≡ feed layout_room (begin (beginning file p o)) done
    parents : parents_whole p₁ ≡ true
    objects : objects_whole o₁ ≡ true

  all_steps : (steps : List Step) (done s p₁ o₁ s' p' o' : List ℕ) → Reached done s p₁ o₁ → Steps file steps s p₁ o₁ s' p' o'
      → Reached (done ++ taken_bytes steps) s' p' o'
  unfolding Steps One taken_bytes
  all_steps [] done s p₁ o₁ s' p' o' h c = rw (append-nil, ← c.0, ← c.1, ← c.2) h
  all_steps (takes piece ∷ more) done s p₁ o₁ s' p' o' h c =
      let x = c.3 in
      let t = taken s piece file p₁ o₁ x.0 c.0 c.1 c.2 x.1 x.2 x.3 x.4 in
      let w = whole_stays s piece file p₁ o₁ x.0 c.0 c.1 c.2 x.1 x.2 h.parents h.objects x.3 in
      subst (λ (l : List ℕ). Reached l s' p' o') (append_assoc done piece (taken_bytes more))
      (all_steps more (done ++ piece) c.0 c.1 c.2 s' p' o'
      (record {
        machine = t.machine ∙ ap (λ (T : State). feed layout_room T piece) h.machine ∙ feed_append layout_room (begin (beginning file p o)) done piece;
        parents = w.0;
        objects = w.1;
      }) c.4)
  all_steps (refused ∷ more) done s p₁ o₁ s' p' o' h c =
      let x = c.3 in
      let e = left_out s x.0 x.1 p₁ o₁ x.2 c.0 c.1 c.2 x.3 x.4 x.5 x.6 in
      all_steps more done c.0 c.1 c.2 s' p' o' (rw (e.0, e.1, e.2) h) c.4

  zero_reached : parents_whole p ≡ true → objects_whole o ≡ true → Reached [] zero_state p o
  unfolding feed
  zero_reached w v = record { machine = zero_begins file p o; parents = w; objects = v }

pub refused_drop_out : RefusedDropOut
unfolding RefusedDropOut state_of state
refused_drop_out file steps p o s' p' o' w v c =
    let B : Reading = beginning file p o in
    let h = all_steps file p o steps [] zero_state p o s' p' o' (zero_reached file p o w v) c in
    let e : (machine_in s' file p' o').reading ≡ dump_reading layout_room B (taken_bytes steps) =
    ap (λ (S : State). S.reading) (h.machine ∙ simulates layout_room B (taken_bytes steps)) in
    let a = rows_are s' file p' o' (machine_in s' file p' o') refl in
    let k : (parents_whole p' && objects_whole o') ≡ true = and_both (parents_whole p') (objects_whole o') h.parents h.objects in (
      sym (join_parents p' o' p' k refl) ∙ ap join (a.0 ∙ ap (λ (S : Reading). S.parents) e),
      sym (join_objects p' o' o' k refl) ∙ ap join (a.1 ∙ ap (λ (S : Reading). S.objects) e),
    )
