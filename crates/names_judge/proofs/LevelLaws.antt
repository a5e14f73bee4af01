-- How climbs end, by the ways on from a directory. Assumes nothing.
use Rattle.std.specs.Prelude.{Option, None, Some}
use mathlib.Core.Path.{◌≡◌, refl, sym, ap, subst, ◌∙◌}
use mathlib.Core.Bool.{Bool, true, false, cond, true≢false}
use mathlib.Core.List.{List}
use Prim.Native.Nat.{ℕ, zero, suc, ◌≤◌, ◌<◌}
use native.Mathlib.Omega.{arith}
use borrow.Author.Tests.{ltb-true, ltb-false, lt-ltb, le-ltb}
use lib.Dec.{ltb}
use Rattle.fid.specs.declared.MdtFid.{MdtFid}
use Rattle.names.specs.Rows.{Child, is_none, is_linked, child_at}
use Rattle.names.specs.Visible.{is_root, directory, at_row, at_directory, arrive, none_left, climb}
use Rattle.names.specs.declared.Climbed.{Climbed}
use Rattle.names.specs.declared.Climbed.TheVariants.{Hidden, Visible}
use Rattle.names_judge.specs.Levels.{Ended, one_more, end_row, end_directory, end_at, endless, ended, climbed_of, within, Known}

-- ## The count changes nothing else

more_climbed : (e : Ended) → climbed_of (one_more e) ≡ climbed_of e
unfolding climbed_of one_more
more_climbed None = refl
more_climbed (Some (d, v)) = refl

module _ (one : MdtFid → Ended) (two : MdtFid → Climbed) (same : (g : MdtFid) → climbed_of (one g) ≡ two g) where
  row_climbed : (c : Child) → climbed_of (end_row one c) ≡ at_row two c
  unfolding end_row at_row climbed_of
  row_climbed c = go (is_linked c.link) (is_none c.up)
    where
      go : (a b : Bool) → climbed_of (cond a (Some (0, true)) (cond b (Some (0, false)) (one_more (one c.up)))) ≡ cond a Visible (cond b Hidden (two c.up))
      go true b = refl
      go false true = refl
      go false false = more_climbed (one c.up) ∙ same c.up

  directory_climbed : (cs : List Child) (r : Option ℕ) → climbed_of (end_directory one cs r) ≡ at_directory two cs r
  unfolding end_directory at_directory climbed_of
  directory_climbed cs None = refl
  directory_climbed cs (Some r) = row_climbed (child_at cs r)

  at_climbed : (cs : List Child) (f : MdtFid) → climbed_of (end_at one cs f) ≡ arrive two cs f
  unfolding end_at arrive climbed_of
  at_climbed cs f = go (is_root f)
    where
      go : (b : Bool) → climbed_of (cond b (Some (0, true)) (end_directory one cs (directory cs f))) ≡ cond b Visible (at_directory two cs (directory cs f))
      go true = refl
      go false = directory_climbed cs (directory cs f)

pub ended_climbed : (left : ℕ) (cs : List Child) (f : MdtFid) → climbed_of (ended left cs f) ≡ climb left cs f
unfolding ended climb endless none_left climbed_of
ended_climbed zero cs f = at_climbed endless none_left (λ g. refl) cs f
ended_climbed (suc left) cs f = at_climbed (ended left cs) (climb left cs) (λ g. ended_climbed left cs g) cs f

-- ## The ways on

-- a climb stops at a directory, or goes on to the one above
pub data Way (cs : List Child) (f : MdtFid) : Type 0 where
  stops : (v : Bool) → ((above : MdtFid → Ended) → end_at above cs f ≡ Some (0, v)) → Way cs f
  follows : (g : MdtFid) → ((above : MdtFid → Ended) → end_at above cs f ≡ one_more (above g)) → Way cs f

module _ (cs : List Child) (f : MdtFid) where
  pub way_root : is_root f ≡ true → (above : MdtFid → Ended) → end_at above cs f ≡ Some (0, true)
  unfolding end_at
  way_root e above = rw e

  pub way_out : is_root f ≡ false → directory cs f ≡ None → (above : MdtFid → Ended) → end_at above cs f ≡ Some (0, false)
  unfolding end_at end_directory
  way_out e d above = rw (e, d)

  module _ (r : ℕ) (e : is_root f ≡ false) (d : directory cs f ≡ Some r) where
    pub way_linked : is_linked (child_at cs r).link ≡ true → (above : MdtFid → Ended) → end_at above cs f ≡ Some (0, true)
    unfolding end_at end_directory end_row
    way_linked l above = rw (e, d, l)

    pub way_none : is_linked (child_at cs r).link ≡ false → is_none (child_at cs r).up ≡ true → (above : MdtFid → Ended) → end_at above cs f ≡ Some (0, false)
    unfolding end_at end_directory end_row
    way_none l n above = rw (e, d, l, n)

    pub way_up : is_linked (child_at cs r).link ≡ false → is_none (child_at cs r).up ≡ false → (above : MdtFid → Ended) →
        end_at above cs f ≡ one_more (above (child_at cs r).up)
    unfolding end_at end_directory end_row
    way_up l n above = rw (e, d, l, n)

    row_way_lem : (a b : Bool) → is_linked (child_at cs r).link ≡ a → is_none (child_at cs r).up ≡ b → Way cs f
    row_way_lem true b p q = stops true (way_linked p)
    row_way_lem false true p q = stops false (way_none p q)
    row_way_lem false false p q = follows (child_at cs r).up (way_up p q)

  pub way : Way cs f
  way = go (is_root f) (directory cs f) refl refl
    where
      go : (b : Bool) (r : Option ℕ) → is_root f ≡ b → directory cs f ≡ r → Way cs f
      go true r e d = stops true (way_root e)
      go false None e d = stops false (way_out e d)
      go false (Some r) e d = row_way_lem r e d (is_linked (child_at cs r).link) (is_none (child_at cs r).up) refl refl

-- ## What is known of every climb

-- a directory at which a climb stops
pub stop_known : (cs : List Child) (f : MdtFid) (v : Bool) → ((above : MdtFid → Ended) → end_at above cs f ≡ Some (0, v)) → Known cs f (Some (0, v))
unfolding Known within ended
stop_known cs f v w zero = w endless
stop_known cs f v w (suc left) = w (ended left cs) ∙ sym (rw (le-ltb (suc left) 0 (omega arith)))

-- one level more
within_more : (left d : ℕ) (v : Bool) → one_more (within left (Some (d, v))) ≡ within (suc left) (Some (suc d, v))
unfolding within one_more
within_more left d v = go (ltb left d) refl
  where
    go : (b : Bool) → ltb left d ≡ b → one_more (cond b None (Some (d, v))) ≡ cond (ltb (suc left) (suc d)) None (Some (suc d, v))
    go true e = let h : left < d = ltb-true left d e in sym (rw (lt-ltb (suc left) (suc d) (omega arith)))
    go false e = let h : d ≤ left = ltb-false left d e in sym (rw (le-ltb (suc left) (suc d) (omega arith)))

pub more_known : (cs : List Child) (f g : MdtFid) (d : ℕ) (v : Bool) → ((above : MdtFid → Ended) → end_at above cs f ≡ one_more (above g)) →
    Known cs g (Some (d, v)) → Known cs f (Some (suc d, v))
unfolding Known ended endless one_more within
more_known cs f g d v w k zero = w endless ∙ sym (none_left_lem d v)
  where
    none_left_lem : (d : ℕ) (v : Bool) → within 0 (Some (suc d, v)) ≡ None
    none_left_lem d v = rw (lt-ltb 0 (suc d) (omega arith))
more_known cs f g d v w k (suc left) = w (ended left cs) ∙ ap one_more (k left) ∙ within_more left d v

-- ## Of one climb that ends

more_endless : None ≡ one_more None
unfolding one_more
more_endless = refl

more_ends : (d : ℕ) (v : Bool) → Some (suc d, v) ≡ one_more (Some (d, v))
unfolding one_more
more_ends d v = refl

is_endless : (g : MdtFid) → endless g ≡ None
unfolding endless
is_endless g = refl

is_end : Ended → Bool
is_end None = false
is_end (Some (d, v)) = true

endless_not : (d : ℕ) (v : Bool) → ◌≡◌ {A = Ended} None (Some (d, v)) → ⊥
unfolding is_end
endless_not d v e = true≢false (sym (ap is_end e))

-- by a level more
follow_known : (left : ℕ) (cs : List Child) (f g : MdtFid) → ((above : MdtFid → Ended) → end_at above cs f ≡ one_more (above g)) →
    ((d : ℕ) (v : Bool) → ended left cs g ≡ Some (d, v) → Known cs g (Some (d, v))) → (d : ℕ) (v : Bool) → one_more (ended left cs g) ≡ Some (d, v) →
    Known cs f (Some (d, v))
follow_known left cs f g w rec d v e = go (ended left cs g) refl e
  where
    go : (x : Ended) → ended left cs g ≡ x → one_more x ≡ Some (d, v) → Known cs f (Some (d, v))
    go None q r = absurd (endless_not d v (more_endless ∙ r))
    go (Some (a, b)) q r = subst (λ (x : Ended). Known cs f x) (more_ends a b ∙ r) (more_known cs f g a b w (rec a b q))

-- from how one climb ends, every climb is known
pub ended_known : (left : ℕ) (cs : List Child) (f : MdtFid) (d : ℕ) (v : Bool) → ended left cs f ≡ Some (d, v) → Known cs f (Some (d, v))
unfolding ended
ended_known zero cs f d v e = go (way cs f)
  where
    go : Way cs f → Known cs f (Some (d, v))
    go (stops b w) = subst (λ (x : Ended). Known cs f x) (sym (w endless) ∙ e) (stop_known cs f b w)
    go (follows g w) = absurd (endless_not d v (more_endless ∙ ap one_more (sym (is_endless g)) ∙ sym (w endless) ∙ e))
ended_known (suc left) cs f d v e = go (λ g a b q. ended_known left cs g a b q) (way cs f)
  where
    go : ((g : MdtFid) (a : ℕ) (b : Bool) → ended left cs g ≡ Some (a, b) → Known cs g (Some (a, b))) → Way cs f → Known cs f (Some (d, v))
    go rec (stops b w) = subst (λ (x : Ended). Known cs f x) (sym (w (ended left cs)) ∙ e) (stop_known cs f b w)
    go rec (follows g w) = follow_known left cs f g w (rec g) d v (sym (w (ended left cs)) ∙ e)

-- and it takes no more levels than were left
pub few_levels : (left : ℕ) (cs : List Child) (f : MdtFid) (d : ℕ) (v : Bool) → ended left cs f ≡ Some (d, v) → d ≤ left
unfolding Known within
few_levels left cs f d v e = go (ltb left d) refl (sym e ∙ ended_known left cs f d v e left)
  where
    go : (b : Bool) → ltb left d ≡ b → ◌≡◌ {A = Ended} (Some (d, v)) (cond b None (Some (d, v))) → d ≤ left
    go true h k = absurd (endless_not d v (sym k))
    go false h k = ltb-false left d h
