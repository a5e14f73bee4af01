-- The cut between two writes: the theorems that `specs/Cuts.antt` states.
use Rattle.std.specs.Prelude.{Option, Some, None}
pub mod Ordered
unfoldable pub use Ordered.*

-- ## A redirect

reusable_is : (T : Tables) (home : Place) (x : Object) → x.fresh ≡ true → x.claim ≡ Some home → ((k i : ℕ) → names_at T.parents x.fid k i ≡ false) →
    is_reusable T.parents home (used x) ≡ true
unfolding is_reusable
reusable_is T home x f c u =
    and_both (and_both f (claim_here x.claim home c))
    (rw (never (named T.parents x.fid) (λ t. let (k, l, y) = named_elim T x.fid t in clash y (u k l))))

-- what is found is the first object that can be used, and what can be used first is found
reused_found : (T : Tables) (r j o : ℕ) (x : Object) → reusable T r j ≡ Some o → object_at T.objects o ≡ used x → Reused T r j o x
unfolding is_reusable
reused_found T r j o x q holds =
    let home = place_of (row_at T.parents r) j in
    let m = reusable_means T.parents home x (subst (λ w. is_reusable T.parents home w ≡ true) holds (reusable_passes T r j o q)) in
    record {
      there = holds;
      fresh = m.0;
      claim = m.1;
      unnamed = named_none T x.fid m.2;
      first = λ k y l d f c u.
          clash (reusable_is T home y f c u)
          (subst (λ w. is_reusable T.parents home w ≡ false) d (first_below (reusable_first T r j) q k l));
    }

found_reused : (T : Tables) (r j o : ℕ) (x : Object) → Reused T r j o x → reusable T r j ≡ Some o
unfolding is_reusable
found_reused T r j o x h = first_unique (reusable_first T r j) (found passes below)
  where
    home : Place
    home = place_of (row_at T.parents r) j

    passes : is_reusable T.parents home (object_at T.objects o) ≡ true
    passes = subst (λ w. is_reusable T.parents home w ≡ true) (sym h.there) (reusable_is T home x h.fresh h.claim h.unnamed)

    below : (k : ℕ) → k < o → is_reusable T.parents home (object_at T.objects k) ≡ false
    below k l = go (object_at T.objects k) refl
      where
        go : (w : ObjectRow) → object_at T.objects k ≡ w → is_reusable T.parents home w ≡ false
        go (unused b) d = refl
        go (used y) d = never (is_reusable T.parents home (used y)) (λ t.
            let m = reusable_means T.parents home y t in h.first k y l d m.0 m.1 (named_none T y.fid m.2))

pub redirects : (settings : Settings) (T : Tables) (r j : ℕ) (f : OstFid) (n ost : ℕ) → slot_at T.parents r j ≡ Names f n ost → slot_class T r j ≡ MULTIPLE →
    creates settings.policy ≡ true → Redirects settings T r j ost
unfolding step_at place part_step slot_step repair_slot redirect_by reuse slot_for is_reusable
redirects settings T r j f n ost at class create =
    record {
      reused = λ o x h. rw (at, class, create, found_reused T r j o x h) (by_found settings T r j ost o x h.there);
      taken = λ none. rw (at, class, create) (go none (reusable T r j) refl);
    }
  where
    row : (o : ℕ) → reusable T r j ≡ Some o → (w : ObjectRow) → object_at T.objects o ≡ w → is_reusable T.parents (place_of (row_at T.parents r) j) w ≡ true →
        ((o : ℕ) (x : Object) → Reused T r j o x → ⊥) → ⊥
    row o q (unused b) d t none = clash t refl
    row o q (used x) d t none = none o x (reused_found T r j o x q d)

    go : ((o : ℕ) (x : Object) → Reused T r j o x → ⊥) → (a : Option ℕ) → reusable T r j ≡ a → redirect_by settings T r j ost a ≡ redirect T r j ost (usable T settings.reserve)
    go none None q = refl
    go none (Some o) q = absurd (row o q (object_at T.objects o) refl (reusable_passes T r j o q) none)

-- ## The writes of a step

-- each of them changes the tables that it is made in
pub writes_change : (settings : Settings) (T : Tables) (p : Position) → Distinct T → is_position T p ≡ true →
    EachChanges T (step_at settings T p)
writes_change settings T p sound v = step_changes settings T sound p (is_exists T p v)

-- and they stand in the request's order
pub writes_ordered : (settings : Settings) (T : Tables) (p : Position) → Distinct T → is_position T p ≡ true →
    InOrder p.row (step_at settings T p)
writes_ordered settings T p sound v = step_order settings T sound p (is_exists T p v)

-- ## A cut between two writes

end_rests : (settings : Settings) (X : Tables) → step_at settings X (place 3 0 0) ≡ rests
unfolding step_at place
end_rests settings X = refl

module _ (settings : Settings) (T : Tables) (sound : Distinct T) (ended : (uncut settings T).report.position ≡ place 3 0 0) where
  -- where the uncut run comes to
  goal : Stand
  goal = stand (uncut settings T)

  goal_last : goal.position ≡ place 3 0 0
  unfolding goal
  goal_last = ended

  -- it stands so after k steps
  stands_after : (k : ℕ) → let x = run settings k T (start T) in Stands settings goal goal_last x.tables x.report.position
  unfolding goal then
  stands_after k =
      let r = run_makes settings k T (start T) sound in
      record {
        sound = r.sound;
        exists = r.exists (start_exists T);
        done = r.done (start_exists T) (done_start settings T);
        ends = record {
          steps = suc (count_steps T);
          same = ap stand (sym (run_then settings k (count_steps T) T (start T))) ∙ ap stand ((uncut_run settings T sound).whole (k + suc (count_steps T)) (omega arith));
        };
      }

  cut_step_lem : (X : Tables) (p : Position) → Stands settings goal goal_last X p → (m : ℕ) (u : Step) → step_at settings X p ≡ u →
      (is_end p ≡ false → EachCut settings goal goal_last X u) → Mends settings goal goal_last (cut_step m u X)
  unfolding cut_step first_writes
  cut_step_lem X p h m rests e c = stands_mends settings goal goal_last X p h
  cut_step_lem X p h m (stops a) e c = stands_mends settings goal goal_last X p h
  cut_step_lem X p h m (repairs k a b d) e c = go m (is_end p) refl
    where
      whole : is_end p ≡ false → Mends settings goal goal_last (apply_writes a b d X)
      whole n = stands_mends settings goal goal_last _ _ (stands_on settings goal goal_last X p h n k a b d e)

      go : (m : ℕ) (q : Bool) → is_end p ≡ q → Mends settings goal goal_last (first_writes m a b d X)
      go m true n =
          let y : step_at settings X p ≡ rests = ap (step_at settings X) (is_end_lem p n) ∙ end_rests settings X in
          let z : ◌≡◌ {A = ℕ} 0 1 = cc in
          absurd (omega arith)
      go zero false n = stands_mends settings goal goal_last X p h
      go (suc zero) false n = (c n).0
      go (suc (suc zero)) false n = (c n).1
      go (suc (suc (suc m))) false n = whole n

  cut_mends : (k m : ℕ) → Mends settings goal goal_last (cut_tables settings k m T)
  unfolding cut_tables
  cut_mends k m =
      let x = run settings k T (start T) in
      cut_step_lem x.tables x.report.position (stands_after k) m (step_at settings x.tables x.report.position) refl
      (step_cuts settings goal goal_last x.tables x.report.position (stands_after k))

-- a run on the tables at any cut ends with those of the uncut run
pub cuts_mended : (settings : Settings) (T : Tables) → Distinct T → CutsMended settings T
unfolding CutsMended Ended goal
cuts_mended settings T sound whole k m = record { distinct = c.sound; ends = λ n h. ends n h }
  where
    c : Mends settings (goal settings T sound whole) (goal_last settings T sound whole) (cut_tables settings k m T)
    c = cut_mends settings T sound whole k m

    answer : (uncut settings T).report.answer ≡ 0
    answer = go (uncut_run settings T sound).answer
      where
        go : (Ended (uncut settings T) × ((uncut settings T).report.answer ≡ 0))
            ⊎ ((Ended (uncut settings T) → ⊥) × (21 ≤ (uncut settings T).report.answer) × ((uncut settings T).report.answer ≤ 23)) →
            (uncut settings T).report.answer ≡ 0
        go (inl a) = a.1
        go (inr b) = absurd (b.0 whole)

    ends : (n : ℕ) → count_steps (cut_tables settings k m T) ≤ n →
        let x = run settings n (cut_tables settings k m T) (start (cut_tables settings k m T)) in
        Ended x × (x.report.answer ≡ 0) × (x.tables ≡ (uncut settings T).tables)
    ends n h =
        let e = ends_enough settings (goal settings T sound whole) (goal_last settings T sound whole) (cut_tables settings k m T) c.sound c.ends answer n h in
        (ap (λ (v : Stand). v.position) e ∙ whole, ap (λ (v : Stand). v.answer) e ∙ answer, ap (λ (v : Stand). v.tables) e)

-- and they fit their rows: with `CutMended`'s `distinct`, tables that pass the check pass it at any cut
pub cut_fits : (settings : Settings) (k m : ℕ) (T : Tables) → Distinct T → FitReserve settings.reserve → FitTables T →
    FitTables (cut_tables settings k m T)
unfolding cut_tables cut_step first_writes
cut_fits settings k m T sound good fit = go m (step_at settings X p) (step_fits settings X fits good p)
  where
    X : Tables
    X = (run settings k T (start T)).tables

    p : Position
    p = (run settings k T (start T)).report.position

    fits : FitTables X
    fits = run_fits settings k T (start T) sound good fit

    go : (m : ℕ) (u : Step) → FitStep X u → FitTables (cut_step m u X)
    go m rests h = fits
    go m (stops n) h = fits
    go zero (repairs c a b d) h = fits
    go (suc zero) (repairs c a b d) h = fit_write X a fits h.0
    go (suc (suc zero)) (repairs c a b d) h = fit_write _ b (fit_write X a fits h.0) h.1
    go (suc (suc (suc m))) (repairs c a b d) h = fit_writes X c a b d fits h
