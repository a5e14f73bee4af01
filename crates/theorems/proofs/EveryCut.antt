-- A cut between two writes, on bytes: the tables there are those of a cut of the rules' run, which a run from the start mends. Assumes nothing.
use Prim.Native.Nat.{ℕ, suc, ◌+◌, ◌≤◌}
use native.Mathlib.Omega.{arith}
use mathlib.Core.Path.{◌≡◌, sym, ap, subst, ◌∙◌}
use mathlib.Core.Bool.{true}
use mathlib.Core.List.{List, [], ◌∷◌}
use lib.ListN.{take}
use Rattle.wire.specs.Numbers.{Bytes}
use Rattle.tables.specs.Records.{Tables}
use Rattle.tables.specs.Check.{good_policy, SoundReserve}
use Rattle.tables.specs.Positions.{is_position, start, count_steps}
use Rattle.tables.specs.declared.Position.{Position}
use Rattle.rules.specs.declared.Step.{Step}
use Rattle.rules.specs.Steps.{step_at}
use Rattle.rules.specs.Runs.{Run, halt, run, step_tables}
use Rattle.rules.specs.Calls.{run_of}
use Rattle.rules.specs.Promises.{Ended, then, uncut as uncut_records}
use Rattle.rules.specs.Settings.{Settings, settings_of}
use Rattle.rules.specs.Cuts.{Target, targets, cut_tables, CutMended as CutMendedRecords, CutsMended}
use Rattle.steps.specs.Ran.{Ran, rendered}
use Rattle.steps.proofs.Standing.{Good, reserve_fits}
use Rattle.theorems.specs.Calls.{Lent, tables_of, Accepted, ran, left, leaves, AtEnd, from_start, uncut}
use Rattle.theorems.specs.Cuts.{stored_all, step_targets, next_targets, cut_at, CutMended, EveryCut, Cut, cuts_at, EveryCuts}
use Rattle.theorems.proofs.FromRules.{a_then_b, run_makes, exists_is, start_exists, FitReserve, writes_ordered, cuts_mended, cut_fits}
use Rattle.theorems.proofs.Written.{written, good_read, good_run, Parts}
use Rattle.theorems.proofs.EveryRun.{Says, says_read, says_sound, request, ran_accepted, accepts}
use Rattle.theorems.proofs.Lists.{starts, says, from_start_lem, uncut_is, leaves_is}
use Rattle.theorems.proofs.EveryStored.{one_tables}
use Rattle.theorems.proofs.CutRows.{copied_all, stored_written}
use Rattle.theorems.proofs.CutWrites.{cut_copied, cut_size}

-- ## One step more

next_tables : (settings : Settings) (k : ℕ) (T : Tables) (p : Position) →
    let x = run settings k T p in
    (run settings (suc k) T p).tables ≡ step_tables (step_at settings x.tables x.report.position) x.tables
unfolding then
next_tables settings k T p =
    let x = run settings k T p in
    let e : suc k ≡ k + 1 = omega arith in
    ap (λ (n : ℕ). (run settings n T p).tables) e ∙ ap (λ (y : Run). y.tables) (a_then_b settings k 1 T p (omega arith))
    ∙ one_tables settings x.tables x.report.position

-- ## Bytes that say good tables

-- are what they are read as
says_itself : {c : Lent} {C : Tables} → Says c C → Says c (tables_of c)
says_itself {c} {C} s = subst (Says c) (sym (says_read s)) s

-- and pass at the start, with a policy and a reserve that do
starts_so : {c : Lent} {C : Tables} (policy : ℕ) (reserve : List ℕ) → Says c C → good_policy policy ≡ true → SoundReserve reserve →
    Parts c.parents c.objects reserve policy (start (tables_of c))
unfolding tables_of
starts_so {c} {C} policy reserve s p r =
    record { tables = says_sound s; policy = p; reserve = r; position = exists_is (tables_of c) (start (tables_of c)) (start_exists (tables_of c)) }

-- ## The tables at a cut

module _ (policy : ℕ) (reserve : List ℕ) (entries : Bytes reserve) (t : Lent) (told : Says t (tables_of t))
    (passes : Parts t.parents t.objects reserve policy (start (tables_of t))) where
  abbrev T : Tables
  T = tables_of t

  abbrev R : Settings
  R = settings_of policy reserve

  abbrev at : ℕ → Tables
  at k = (run R k T (start T)).tables

  abbrev stands : ℕ → Position
  stands k = (run R k T (start T)).report.position

  abbrev step : ℕ → Step
  step k = step_at R (at k) (stands k)

  fits : FitReserve R.reserve
  unfolding settings_of
  fits = reserve_fits reserve entries passes.reserve

  good_at : (k : ℕ) → Good (at k)
  good_at k = good_run T told.good R k (start T) fits

  next_is : (k : ℕ) → next_targets policy reserve k t ≡ targets (step k)
  unfolding next_targets step_targets left rendered written
  next_is k =
      ap (λ (x : Ran). targets (step_at R (tables_of (left x)) x.report.position)) (from_start_lem policy reserve entries t passes k)
      ∙ ap (λ (X : Tables). targets (step_at R X (stands k))) (good_read (at k) (good_at k))

  -- records stored in the tables after k steps, as one more leaves them
  stored_next : (k : ℕ) (xs : List Target) →
      stored_all (leaves t (from_start policy reserve t (suc k))) xs (leaves t (from_start policy reserve t k)) ≡ written (copied_all (at (suc k)) xs (at k))
  stored_next k xs =
      let x = (run_makes R k T (start T) told.good.distinct).grows in
      let y = (run_makes R (suc k) T (start T) told.good.distinct).grows in
      rw (leaves_is policy reserve entries t passes (suc k), leaves_is policy reserve entries t passes k)
      (stored_written (at (suc k)) (at k) xs
      (record { fits = (good_at k).fits; others = (good_at (suc k)).fits; tall = x.tall ∙ sym y.tall; size = x.size ∙ sym y.size }))

  record CutIs (k m : ℕ) : Type 0 where
    writes : ℕ
    same : cut_at policy reserve k m t ≡ written (cut_tables R k writes T)

  cut_is : (k m : ℕ) → CutIs k m
  unfolding cut_at cut_tables
  cut_is k m =
      let v : is_position (at k) (stands k) ≡ true =
      exists_is (at k) (stands k) ((run_makes R k T (start T) told.good.distinct).exists (start_exists T)) in
      let c = cut_copied (stands k).row (step k) (at k) m (writes_ordered R (at k) (stands k) (good_at k).distinct v) in
      record {
        writes = c.writes;
        same =
            stored_next k (take m (next_targets policy reserve k t))
            ∙ ap (λ (l : List Target). written (copied_all (at (suc k)) (take m l) (at k))) (next_is k)
            ∙ ap (λ (Y : Tables). written (copied_all Y (take m (targets (step k))) (at k))) (next_tables R k T (start T))
            ∙ ap written c.same;
      }

  -- ## A run from there

  module _ (whole : AtEnd (uncut policy reserve t)) where
    ended : Ended (uncut_records R T)
    unfolding AtEnd Ended rendered
    ended = sym (ap (λ (x : Ran). x.report.position) (uncut_is policy reserve entries t passes)) ∙ whole

    mended : (k j : ℕ) → CutMendedRecords R T (cut_tables R k j T)
    unfolding CutsMended
    mended k j = cuts_mended R T told.good.distinct ended k j

    good_cut : (k j : ℕ) → Good (cut_tables R k j T)
    unfolding cut_tables
    good_cut k j =
        let s = cut_size j (step k) (at k) in
        record {
          fits = cut_fits R k j T told.good.distinct fits told.good.fits;
          distinct = (mended k j).distinct;
          parents_few = rw s.0 (good_at k).parents_few;
          objects_few = rw s.1 (good_at k).objects_few;
        }

    -- bytes that say tables which the rules' run mends
    says_mended : (c : Lent) (C : Tables) → Says c C → CutMendedRecords R T C → CutMended policy reserve t c
    unfolding from_start AtEnd Ended rendered leaves left written request run_of
    says_mended c C s h = record { sound = says_sound s; ends = λ n k. ends n (omega arith) }
      where
        read : tables_of c ≡ C
        read = says_read s

        accepted : (n : ℕ) → Accepted c (from_start policy reserve c n)
        accepted n = accepts c (from_start policy reserve c n) (starts_so policy reserve s passes.policy passes.reserve)

        runs : (n : ℕ) → ran c (from_start policy reserve c n) ≡ rendered (run R n C (start C))
        runs n =
            ran_accepted c (from_start policy reserve c n) read (accepted n)
            ∙ ap (λ (U : Tables). rendered (run R n C (start U))) read

        ends : (n : ℕ) → count_steps (tables_of c) ≤ n →
            Accepted c (from_start policy reserve c n)
            × AtEnd (ran c (from_start policy reserve c n))
            × ((ran c (from_start policy reserve c n)).report.answer ≡ 0)
            × (leaves c (from_start policy reserve c n) ≡ left (uncut policy reserve t))
        ends n k =
            let e = h.ends n (subst (λ (U : Tables). count_steps U ≤ n) read k) in (
              accepted n,
              ap (λ (x : Ran). x.report.position) (runs n) ∙ e.0,
              ap (λ (x : Ran). x.report.answer) (runs n) ∙ e.1,
              ap left (runs n) ∙ ap written e.2 ∙ sym (ap left (uncut_is policy reserve entries t passes)),
            )

    says_cut : (k m : ℕ) (c : CutIs k m) → Says (cut_at policy reserve k m t) (cut_tables R k c.writes T)
    says_cut k m c = record { good = good_cut k c.writes; bytes = c.same }

    pub cut_mended : (k m : ℕ) → CutMended policy reserve t (cut_at policy reserve k m t)
    cut_mended k m =
        let c = cut_is k m in
        says_mended (cut_at policy reserve k m t) (cut_tables R k c.writes T) (says_cut k m c) (mended k c.writes)

-- "A cut after any single write, then a run from the start .. ends with the tables of the uncut run, if that one reaches its end"
pub every_cut : EveryCut
unfolding EveryCut
every_cut policy reserve t b whole k m =
    cut_mended policy reserve b.entries t (says policy reserve b.entries t b) (starts policy reserve b.entries t b) whole k m

-- ## Cuts after cuts

module _ (policy : ℕ) (reserve : List ℕ) (entries : Bytes reserve) where
  -- what is mended to the tables of c is mended to those of t, where the one leads to the other
  mended_through : (t c d : Lent) → left (uncut policy reserve c) ≡ left (uncut policy reserve t) → CutMended policy reserve c d → CutMended policy reserve t d
  mended_through t c d e h = record { sound = h.sound; ends = λ n k. let x = h.ends n k in (x.0, x.1, x.2, x.3 ∙ e) }

  none_cut : (t : Lent) → Says t (tables_of t) → (p : Parts t.parents t.objects reserve policy (start (tables_of t))) → cut_at policy reserve 0 0 t ≡ t
  unfolding cut_at stored_all run halt
  none_cut t s p = leaves_is policy reserve entries t p 0 ∙ sym s.bytes

  cuts : (cs : List Cut) (t : Lent) → Says t (tables_of t) → Parts t.parents t.objects reserve policy (start (tables_of t)) →
      AtEnd (uncut policy reserve t) → CutMended policy reserve t (cuts_at policy reserve cs t)
  unfolding cuts_at uncut leaves
  cuts [] t s p w = subst (CutMended policy reserve t) (none_cut t s p) (cut_mended policy reserve entries t s p w 0 0)
  cuts (x ∷ cs) t s p w =
      let c : Lent = cut_at policy reserve x.steps x.writes t in
      let i = cut_is policy reserve entries t s p x.steps x.writes in
      let q = says_cut policy reserve entries t s p w x.steps x.writes i in
      let e = (cut_mended policy reserve entries t s p w x.steps x.writes).ends (count_steps (tables_of c)) (omega arith) in
      mended_through t c (cuts_at policy reserve cs c) e.3 (cuts cs c (says_itself q) (starts_so policy reserve q p.policy p.reserve) e.1)

pub every_cuts : EveryCuts
unfolding EveryCuts
every_cuts policy reserve t cs b whole =
    cuts policy reserve b.entries cs t (says policy reserve b.entries t b) (starts policy reserve b.entries t b) whole
