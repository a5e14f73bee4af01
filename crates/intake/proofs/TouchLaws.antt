-- A table changes where an entry closes and a row is filled, and nowhere else. Assumes nothing.
use Prim.Native.Nat.{ℕ, suc}
use mathlib.Core.Path.{◌≡◌, refl}
use mathlib.Core.List.{List, ◌∷◌}
use mathlib.Core.Bool.{Bool, true, false, ◌&&◌, true≢false}
use lib.ListN.{length, drop}
use lib.Dec.{leb, ltb}
use Rattle.intake.specs.declared.Kind.{Kind}
use Rattle.intake.specs.declared.Kind.TheVariants.{Lov, Fid, Lma, Other}
use Rattle.intake.specs.Says.{Value, wrong, holds, Line, opens, closes, skipped, bad, takes, file_word, trusted_word, value_word, mark_at, starts, kind_of, good_size, sized, attribute, is_empty, judge, saying, line_says}
use Rattle.intake.specs.Owners.{Owning, no_owner, owning, next_owner}
use Rattle.intake.specs.Reading.{Attribute, none, had, Entry, Open, outside, inside, Reading, stops_at, goes_on, has, attribute_of, first_unused, filled, fills, with_self, closes_entry, on_line, is_going, take_line, read_line}
use Rattle.intake.specs.Rows.{Untouched, OpenLinesTouchNothing, RefusedTouchNothing}
use Rattle.intake.proofs.TestLaws.{by_test}

-- ## Lines that close nothing

is_closing : Line → Bool
is_closing opens = false
is_closing closes = true
is_closing skipped = false
is_closing bad = false
is_closing (takes k n v) = false

NotClosing : Line → Type 0
NotClosing x = is_closing x ≡ false

sized_not : (k : Kind) (x : Value) → NotClosing (sized k x)
unfolding NotClosing is_closing sized
sized_not k wrong = refl
sized_not k (holds n v) = by_test NotClosing (good_size k n) (takes k n v) bad (λ _. refl) (λ _. refl)

attribute_not : (k : Kind) (a : List ℕ) (x : Value) → NotClosing (attribute k a x)
unfolding NotClosing is_closing attribute
attribute_not Other a x = refl
attribute_not Lov a x = by_test NotClosing (starts value_word a) (sized Lov x) bad (λ _. sized_not Lov x) (λ _. refl)
attribute_not Fid a x = by_test NotClosing (starts value_word a) (sized Fid x) bad (λ _. sized_not Fid x) (λ _. refl)
attribute_not Lma a x = by_test NotClosing (starts value_word a) (sized Lma x) bad (λ _. sized_not Lma x) (λ _. refl)

judge_not : (b : ℕ) (l : List ℕ) (x : Value) → NotClosing (judge (b ∷ l) x)
unfolding NotClosing is_closing judge is_empty
judge_not b l x =
    by_test NotClosing (starts file_word (b ∷ l)) opens _ (λ _. refl)
    (λ _. by_test NotClosing (starts trusted_word (b ∷ l)) (attribute (kind_of (b ∷ l)) (drop mark_at (b ∷ l)) x) bad (λ _. attribute_not (kind_of (b ∷ l)) (drop mark_at (b ∷ l)) x) (λ _. refl))

module _ (room : ℕ) (R : Reading) (line : ℕ) where
  stopped_same : (q : ℕ) → Untouched R (stops_at R q line)
  unfolding stops_at
  stopped_same q = record { parents = refl; objects = refl }

  going_same : (e : Open) → Untouched R (goes_on R line e)
  unfolding goes_on
  going_same e = record { parents = refl; objects = refl }

  -- outside an entry no line touches a table
  outside_same : (x : Line) → Untouched R (on_line room R line outside x)
  unfolding on_line
  outside_same opens = going_same _
  outside_same closes = stopped_same _
  outside_same skipped = stopped_same _
  outside_same bad = stopped_same _
  outside_same (takes k n v) = stopped_same _

  open_line : (o : Open) (x : Line) → is_closing x ≡ false → Untouched R (on_line room R line o x)
  unfolding on_line is_closing
  open_line outside x h = outside_same x
  open_line (inside e) opens h = stopped_same _
  open_line (inside e) closes h = absurd (true≢false h)
  open_line (inside e) skipped h = going_same _
  open_line (inside e) bad h = stopped_same _
  open_line (inside e) (takes k n v) h = by_test (Untouched R) (has (attribute_of k e)) _ _ (λ _. stopped_same _) (λ _. going_same _)

  -- ## Lines that stop the reading

  Refused : Reading → Type 0
  Refused S = is_going S.stop ≡ false → Untouched R S

  -- a reading that a row went into goes on
  filled_goes : (owners : List ℕ) (p o : List (List ℕ)) → Refused (filled R line owners p o)
  unfolding Refused filled is_going
  filled_goes owners p o h = absurd (true≢false h)

  stop_refused : (q : ℕ) → Refused (stops_at R q line)
  unfolding Refused
  stop_refused q h = stopped_same q

  fills_refused : (self : List ℕ) (u g i : ℕ) (owners : List ℕ) (a b : Attribute) → Refused (fills room R line self u g i owners a b)
  unfolding fills
  fills_refused self u g i owners none none = stop_refused _
  fills_refused self u g i owners (had n v) (had m w) = stop_refused _
  fills_refused self u g i owners (had n v) none =
      by_test Refused (leb n room && ltb (first_unused R.parents) (length R.parents)) _ _ (λ _. filled_goes owners _ _) (λ _. stop_refused _)
  fills_refused self u g i owners none (had m w) =
      by_test Refused (ltb (first_unused R.objects) (length R.objects)) _ _ (λ _. filled_goes owners _ _) (λ _. stop_refused _)

  self_refused : (e : Entry) (x : Owning) (a : Attribute) → Refused (with_self room R line e x a)
  unfolding with_self
  self_refused e no_owner a = stop_refused _
  self_refused e (owning u g i owners) none = stop_refused _
  self_refused e (owning u g i owners) (had n v) = fills_refused _ u g i owners e.lov e.fid

  refused_line : (o : Open) (x : Line) → Refused (on_line room R line o x)
  unfolding Refused on_line closes_entry is_closing
  refused_line outside x h = outside_same x
  refused_line (inside e) closes h = self_refused e (next_owner R.owners) e.lma h
  refused_line (inside e) opens h = open_line (inside e) opens refl
  refused_line (inside e) skipped h = open_line (inside e) skipped refl
  refused_line (inside e) bad h = open_line (inside e) bad refl
  refused_line (inside e) (takes k n v) h = open_line (inside e) (takes k n v) refl

-- ## Of every line

pub open_lines_touch_nothing : OpenLinesTouchNothing
unfolding OpenLinesTouchNothing read_line take_line line_says saying NotClosing
open_lines_touch_nothing room R b l =
    by_test (Untouched R) (is_going R.stop) _ R (λ _. open_line room R (suc R.count) R.entry _ (judge_not b l _)) (λ _. record { parents = refl; objects = refl })

pub refused_touch_nothing : RefusedTouchNothing
unfolding RefusedTouchNothing read_line take_line Refused
refused_touch_nothing room R l =
    by_test (λ (S : Reading). is_going S.stop ≡ false → Untouched R S) (is_going R.stop) _ R (λ _. refused_line room R (suc R.count) R.entry (line_says room l))
    (λ _ h. record { parents = refl; objects = refl })
