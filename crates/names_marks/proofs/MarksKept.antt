-- Children that keep every self FID fit the marks as before, and the directories under them stay. Assumes nothing.
use mathlib.Core.Path.{◌≡◌, refl, sym, ap, ◌∙◌}
use mathlib.Core.Bool.{Bool, true, false, cond, not, ◌&&◌, ◌||◌}
use mathlib.Core.List.{List, [], ◌∷◌, map}
use Prim.Native.Nat.{ℕ, zero, suc, ◌/◌, ◌<◌}
use native.Mathlib.Omega.{arith}
use borrow.Author.Tests.{lt-ltb, ne_eqb}
use lib.Dec.{ltb, eqb}
use lib.ListN.{length, get_or}
use Rattle.wire.proofs.Both.{and_first, and_second}
use Rattle.linkea.proofs.PlaceLaws.{clash}
use Rattle.names.specs.Rows.{Child, child_size, is_none, no_child, child_at, parse_children}
use Rattle.names.proofs.SoundLaws.{parsed_children}
use Rattle.names.specs.Visible.{no_self_mark, climb_mark, good_mark, good_marks, mark_of, judged, climb}
use Rattle.names.specs.declared.Climbed.{Climbed}
use Rattle.names.specs.declared.Climbed.TheVariants.{TooLong, Hidden, Visible}
use Rattle.names_marks.specs.Directories.{Keeps}

-- a self FID that is there stays
unfoldable pub SelvesStay : List Child → List Child → Type 0
SelvesStay cs ds = (r : ℕ) → is_none (child_at cs r).self ≡ false → (child_at ds r).self ≡ (child_at cs r).self

below_two : (m : ℕ) (c : Child) → m < no_self_mark → good_mark m c ≡ true → is_none c.self ≡ false
unfolding good_mark
below_two m c h g = go (is_none c.self) (rw (lt-ltb m no_self_mark h, ne_eqb m no_self_mark (λ e. omega arith)) at g)
  where
    go : (b : Bool) → (not b || false) ≡ true → b ≡ false
    go true z = sym z
    go false z = refl

good_self : (ms : List ℕ) (cs : List Child) (r : ℕ) → good_marks ms cs ≡ true → r < length cs → get_or ms r 0 < no_self_mark → is_none (get_or cs r no_child).self ≡ false
unfolding good_marks
good_self [] [] r g h t = absurd (omega arith)
good_self [] (c ∷ cs) r g h t = clash g
good_self (m ∷ ms) [] r g h t = absurd (omega arith)
good_self (m ∷ ms) (c ∷ cs) zero g h t = below_two m c t (and_first (good_mark m c) (good_marks ms cs) g)
good_self (m ∷ ms) (c ∷ cs) (suc r) g h t = good_self ms cs r (and_second (good_mark m c) (good_marks ms cs) g) (omega arith) t

pub stays_keeps : (ms : List ℕ) (cs ds : List Child) → good_marks ms cs ≡ true → length ds ≡ length cs → SelvesStay cs ds → Keeps ms cs ds
unfolding SelvesStay child_at
stays_keeps ms cs ds g l s = record { long = l; selves = λ r h t. s r (good_self ms cs r g h t) }

mark_kept : (m : ℕ) (c d : Child) → (is_none c.self ≡ false → d.self ≡ c.self) → good_mark m c ≡ true → good_mark m d ≡ true
unfolding good_mark
mark_kept m c d s g = go (is_none c.self) refl
  where
    go : (b : Bool) → is_none c.self ≡ b → (ltb m no_self_mark && not (is_none d.self) || eqb m no_self_mark) ≡ true
    go false e = rw (s e) g
    go true e = two (ltb m no_self_mark) (eqb m no_self_mark) (is_none d.self) (rw e at g)
      where
        two : (a b x : Bool) → (a && false || b) ≡ true → (a && not x || b) ≡ true
        two true true true h = refl
        two true true false h = refl
        two true false x h = clash h
        two false b x h = h

pub marks_kept : (ms : List ℕ) (cs ds : List Child) → good_marks ms cs ≡ true → length ds ≡ length cs → SelvesStay cs ds → good_marks ms ds ≡ true
unfolding good_marks SelvesStay child_at
marks_kept [] [] [] g l s = refl
marks_kept [] [] (d ∷ ds) g l s = absurd (omega arith)
marks_kept [] (c ∷ cs) ds g l s = clash g
marks_kept (m ∷ ms) [] ds g l s = clash g
marks_kept (m ∷ ms) (c ∷ cs) [] g l s = absurd (omega arith)
marks_kept (m ∷ ms) (c ∷ cs) (d ∷ ds) g l s =
    rw (
      mark_kept m c d (s 0) (and_first (good_mark m c) (good_marks ms cs) g),
      marks_kept ms cs ds (and_second (good_mark m c) (good_marks ms cs) g) (omega arith) (λ r. s (suc r)),
    )

good_many : (ms : List ℕ) (cs : List Child) → good_marks ms cs ≡ true → length ms ≡ length cs
unfolding good_marks
good_many [] [] g = refl
good_many [] (c ∷ cs) g = clash g
good_many (m ∷ ms) [] g = clash g
good_many (m ∷ ms) (c ∷ cs) g = ap suc (good_many ms cs (and_second (good_mark m c) (good_marks ms cs) g))

-- one for each row
pub marks_many : (ms c : List ℕ) → good_marks ms (parse_children c) ≡ true → length ms ≡ length c / child_size
marks_many ms c g = good_many ms (parse_children c) g ∙ parsed_children c

-- ## Marks that are judged fit

mark_good : (x : Climbed) (c : Child) → is_none c.self ≡ false → good_mark (climb_mark x) c ≡ true
unfolding good_mark climb_mark
mark_good TooLong c h = rw h
mark_good Hidden c h = rw h
mark_good Visible c h = rw h

none_good : (c : Child) → good_mark no_self_mark c ≡ true
unfolding good_mark
none_good c = refl

judged_mark : (levels : ℕ) (cs : List Child) (c : Child) → good_mark (mark_of levels cs c) c ≡ true
unfolding mark_of
judged_mark levels cs c = go (is_none c.self) refl
  where
    go : (b : Bool) → is_none c.self ≡ b → good_mark (cond b no_self_mark (climb_mark (climb levels cs c.self))) c ≡ true
    go true e = none_good c
    go false e = mark_good (climb levels cs c.self) c e

judged_all : (levels : ℕ) (cs ds : List Child) → good_marks (map (mark_of levels cs) ds) ds ≡ true
unfolding good_marks
judged_all levels cs [] = refl
judged_all levels cs (d ∷ ds) = rw (judged_mark levels cs d, judged_all levels cs ds)

pub judged_good : (levels : ℕ) (cs : List Child) → good_marks (judged levels cs) cs ≡ true
unfolding judged
judged_good levels cs = judged_all levels cs cs
