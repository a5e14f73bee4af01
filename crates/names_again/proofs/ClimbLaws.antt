-- What the judged marks make visible is what the climb finds. Assumes nothing.
use Rattle.std.specs.Prelude.{None, Some}
use mathlib.Core.Path.{◌≡◌, refl, sym, ap, ◌∙◌}
use mathlib.Core.Bool.{Bool, true, false, cond, not, ◌&&◌, ◌||◌, and-false}
use mathlib.Core.List.{List, [], ◌∷◌, map}
use Prim.Native.Nat.{ℕ, zero, suc}
use lib.Dec.{ltb, eqb}
use Rattle.fid.specs.declared.MdtFid.{MdtFid}
use Rattle.linkea.proofs.PlaceLaws.{clash}
use Rattle.names.specs.Rows.{Child, is_none}
use Rattle.names.specs.Findings.{same, any}
use Rattle.names.specs.Visible.{is_root, first_row, directory, at_directory, arrive, climb, no_self_mark, visible_mark, climb_mark, mark_of, judged, first_marked, seen_by}
use Rattle.names.specs.declared.Climbed.{Climbed}
use Rattle.names.specs.declared.Climbed.TheVariants.{TooLong, Hidden, Visible}
use Rattle.names_promises.proofs.SameLinks.{fid_is}
use Rattle.names_again.specs.Pass.{is_visible, MarksAreClimbs}

-- a row has the FID
unfoldable has : MdtFid → List Child → Bool
has f cs = any (λ (c : Child). same c.self f) cs

-- ## The climb

module _ (cs : List Child) (f : MdtFid) where
  climb_root : (levels : ℕ) → is_root f ≡ true → climb levels cs f ≡ Visible
  unfolding climb arrive
  climb_root zero h = rw h
  climb_root (suc n) h = rw h

  climb_out : (levels : ℕ) → is_root f ≡ false → directory cs f ≡ None → climb levels cs f ≡ Hidden
  unfolding climb arrive at_directory
  climb_out zero h d = rw (h, d)
  climb_out (suc n) h d = rw (h, d)

first_none : (f : MdtFid) (cs : List Child) (r : ℕ) → has f cs ≡ false → first_row f cs r ≡ None
unfolding first_row has any
first_none f [] r h = refl
first_none f (c ∷ cs) r h = go (same c.self f) h (first_none f cs (suc r))
  where
    go : (b : Bool) → (b || has f cs) ≡ false → (has f cs ≡ false → first_row f cs (suc r) ≡ None) → cond b (Some r) (first_row f cs (suc r)) ≡ None
    go true k rec = clash (sym k)
    go false k rec = rec k

no_directory : (f : MdtFid) (cs : List Child) → is_none f ≡ true → directory cs f ≡ None
unfolding directory
no_directory f cs h = rw h

not_there : (f : MdtFid) (cs : List Child) → is_none f ≡ false → has f cs ≡ false → directory cs f ≡ None
unfolding directory
not_there f cs n h = rw n (first_none f cs 0 h)

-- ## The marks

-- a row with the FID has the mark of its climb
mark_is : (levels : ℕ) (cs : List Child) (c : Child) (f : MdtFid) → is_none f ≡ false → c.self ≡ f → mark_of levels cs c ≡ climb_mark (climb levels cs f)
unfolding mark_of
mark_is levels cs c f h q = ap (λ (g : MdtFid). cond (is_none g) no_self_mark (climb_mark (climb levels cs g))) q ∙ rw h

mark_seen : (x : Climbed) (rest : Bool) → cond (ltb (climb_mark x) no_self_mark && true) (eqb (climb_mark x) visible_mark) rest ≡ is_visible x
unfolding climb_mark is_visible
mark_seen TooLong rest = refl
mark_seen Hidden rest = refl
mark_seen Visible rest = refl

-- the first of some rows ds that has it
first_is : (levels : ℕ) (cs : List Child) (f : MdtFid) → is_none f ≡ false → (ds : List Child) →
    first_marked f (map (mark_of levels cs) ds) ds ≡ (has f ds && is_visible (climb levels cs f))
unfolding first_marked has any
first_is levels cs f h [] = refl
first_is levels cs f h (c ∷ ds) = go (same c.self f) refl (first_is levels cs f h ds)
  where
    go : (b : Bool) → same c.self f ≡ b → first_marked f (map (mark_of levels cs) ds) ds ≡ (has f ds && is_visible (climb levels cs f)) →
        cond (ltb (mark_of levels cs c) no_self_mark && b) (eqb (mark_of levels cs c) visible_mark) (first_marked f (map (mark_of levels cs) ds) ds)
        ≡ ((b || has f ds) && is_visible (climb levels cs f))
    go true e rec =
        ap (λ (m : ℕ). cond (ltb m no_self_mark && true) (eqb m visible_mark) (first_marked f (map (mark_of levels cs) ds) ds))
        (mark_is levels cs c f h (fid_is c.self f e))
        ∙ mark_seen (climb levels cs f) (first_marked f (map (mark_of levels cs) ds) ds)
    go false e rec = rw (and-false (ltb (mark_of levels cs c) no_self_mark)) rec

pub marks_are_climbs : MarksAreClimbs
unfolding MarksAreClimbs seen_by judged is_visible
marks_are_climbs levels cs f = go (is_root f) (is_none f) refl refl
  where
    out : is_root f ≡ false → directory cs f ≡ None → false ≡ is_visible (climb levels cs f)
    out p d = sym (ap is_visible (climb_out cs f levels p d))

    there : (b : Bool) → has f cs ≡ b → is_root f ≡ false → is_none f ≡ false → (b && is_visible (climb levels cs f)) ≡ is_visible (climb levels cs f)
    there true h p q = refl
    there false h p q = out p (not_there f cs q h)

    go : (a b : Bool) → is_root f ≡ a → is_none f ≡ b → (a || not b && first_marked f (map (mark_of levels cs) cs) cs) ≡ is_visible (climb levels cs f)
    go true b p q = sym (ap is_visible (climb_root cs f levels p))
    go false true p q = out p (no_directory f cs q)
    go false false p q = first_is levels cs f q cs ∙ there (has f cs) refl p q
