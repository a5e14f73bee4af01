-- A state that is held and stored passes its own test while its counts do. Assumes nothing.
use Prim.Native.Nat.{ℕ, ◌≤◌}
use mathlib.Core.Path.{◌≡◌, refl, ap, ◌∙◌}
use mathlib.Core.List.{List}
use mathlib.Core.Bool.{Bool, true, false, cond, ◌&&◌}
use native.Mathlib.Omega.{arith}
use lib.ListN.{length, take, drop}
use lib.Dec.{eqb, leb, ltb}
use borrow.Author.Tests.{eq-eqb, eqb-true, eqb-false, le-leb}
use Rattle.wire.proofs.Both.{and_both}
use Rattle.intake.specs.Says.{kind_of}
use Rattle.intake.specs.declared.Kind.{Kind}
use Rattle.intake.specs.declared.Kind.TheVariants.{Lov, Fid, Lma}
use Rattle.intake_bytes.specs.declared.Marks.{Marks}
use Rattle.intake_bytes.specs.declared.Half.{Half}
use Rattle.intake_bytes.specs.declared.Half.TheVariants.{Even}
use Rattle.intake_bytes.specs.declared.Unfinished.{Unfinished}
use Rattle.intake_bytes.specs.Lent.{mark_of, base_of, want_of, Held}
use Rattle.intake_line.specs.Entry.{good_mark, MarksHeld}
use Rattle.intake_state.specs.declared.Kept.{Kept}
use Rattle.intake_state.specs.State.{state_size, KeptHeld, line_in, kept_of, max_read, good_stop, bare_marks, good_open, good_half, is_even, good_line, good_kept, good_state, Stored, state_stands}
use Rattle.intake_state.proofs.ReloadLaws.{kept_raw, kept_back}
use Rattle.intake_state.proofs.TestLaws.{half_good}

-- ## Each part of the test

stop_passes : (n : ℕ) → n ≤ 37 → ((n ≡ 0 → ⊥) → 33 ≤ n) → good_stop n ≡ true
unfolding good_stop
stop_passes n h k = go (eqb n 0) refl where
  go : (t : Bool) → eqb n 0 ≡ t → cond t true (leb 33 n && leb n 37) ≡ true
  go true e = refl
  go false e = and_both (leb 33 n) (leb n 37) (le-leb 33 n (k (eqb-false n 0 e))) (le-leb n 37 h)

marks_pass : (from : ℕ) (m : Marks) → MarksHeld from m → good_open from m ≡ true
unfolding good_open bare_marks mark_of
marks_pass from m h =
    and_both (good_mark Fid m.fid) (good_mark Lma m.lma && cond (eqb from 0) none true) (h.good Fid)
    (and_both (good_mark Lma m.lma) (cond (eqb from 0) none true) (h.good Lma) (go (eqb from 0) refl))
  where
    none : Bool
    none = eqb m.lov 0 && (eqb m.fid 0 && eqb m.lma 0)

    go : (t : Bool) → eqb from 0 ≡ t → cond t none true ≡ true
    go true e =
        let z : (k : Kind) → mark_of m k ≡ 0 = h.bare (eqb-true from 0 e) in
        and_both (eqb m.lov 0) (eqb m.fid 0 && eqb m.lma 0) (eq-eqb m.lov 0 (z Lov))
        (and_both (eqb m.fid 0) (eqb m.lma 0) (eq-eqb m.fid 0 (z Fid)) (eq-eqb m.lma 0 (z Lma)))
    go false e = refl

line_passes : (want : Kind → ℕ) (s : List ℕ) (x : Unfinished) → Held want s x → x.size ≤ max_read → good_line x ≡ true
unfolding good_line is_even
line_passes want s x h k =
    and_both (leb x.seen 14) (good_half x.half && (leb x.size max_read && rest (eqb 14 x.seen))) (le-leb x.seen 14 h.heads)
    (and_both (good_half x.half) (leb x.size max_read && rest (eqb 14 x.seen)) (half_good x.half h.halves)
    (and_both (leb x.size max_read) (rest (eqb 14 x.seen)) (le-leb x.size max_read k) (go (eqb 14 x.seen) refl)))
  where
    rest : Bool → Bool
    rest t = cond t true (is_even x.half && eqb x.size 0)

    go : (t : Bool) → eqb 14 x.seen ≡ t → cond t true (is_even x.half && eqb x.size 0) ≡ true
    go true e = refl
    go false e =
        let none : (x.half ≡ Even) × (x.size ≡ 0) = h.short (omega (arith, h.heads, eqb-false 14 x.seen e)) in
        and_both (is_even x.half) (eqb x.size 0) (ap is_even none.0) (eq-eqb x.size 0 none.1)

-- ## What is stored

-- a line's numbers are read back as they are; where its value goes the test doesn't ask
module _ (s : List ℕ) (m : Marks) (x : Unfinished) (half : Half) where
  abbrev back : Bool → Unfinished
  back t =
      cond t (record { seen = x.seen; base = 144; most = 0; half = half; size = x.size })
      (record {
        seen = x.seen;
        base = base_of (kind_of (take 14 (drop 128 s)));
        most = want_of m (length s) (kind_of (take 14 (drop 128 s)));
        half = half;
        size = x.size;
      })

  same_test : x.half ≡ half → good_line (line_in s m x.seen half x.size) ≡ good_line x
  unfolding line_in good_line
  same_test e = go (ltb x.seen 14) where
    go : (t : Bool) → good_line (back t) ≡ good_line x
    go true = rw e
    go false = rw e

  same_size : (line_in s m x.seen half x.size).size ≡ x.size
  unfolding line_in
  same_size = go (ltb x.seen 14) where
    go : (t : Bool) → (back t).size ≡ x.size
    go true = refl
    go false = refl

module _ (s : List ℕ) (k : Kept) (s' : List ℕ) (t : Stored s k s') where
  pub count_back : (kept_of s').reader.count ≡ k.reader.count
  count_back = ap (λ (x : Kept). x.reader.count) (kept_raw s k s' t)

  pub size_back : (kept_of s').reader.line.size ≡ k.reader.line.size
  size_back = ap (λ (x : Kept). x.reader.line.size) (kept_raw s k s' t) ∙ same_size s' k.reader.marks k.reader.line _

  kept_passes : (file : List ℕ) → KeptHeld s file k → k.reader.count ≤ max_read → k.reader.line.size ≤ max_read → good_kept (kept_of s') ≡ true
  unfolding good_kept
  kept_passes file h c z =
      ap good_kept (kept_back s k s' t h.held.held.halves)
      ∙ and_both (good_stop k.answer) (good_open k.reader.from k.reader.marks && (good_line L && leb k.reader.count max_read))
      (stop_passes k.answer h.answer h.number)
      (and_both (good_open k.reader.from k.reader.marks) (good_line L && leb k.reader.count max_read)
      (marks_pass k.reader.from k.reader.marks h.held.marked)
      (and_both (good_line L) (leb k.reader.count max_read)
      (same_test s' k.reader.marks k.reader.line k.reader.line.half refl ∙ line_passes (want_of k.reader.marks (length s)) s k.reader.line h.held.held z)
      (le-leb k.reader.count max_read c)))
    where
      L : Unfinished
      L = line_in s' k.reader.marks k.reader.line.seen k.reader.line.half k.reader.line.size

  -- THE LAW: what a piece leaves in the state passes
  pub stored_stands : (file : List ℕ) → KeptHeld s file k → (kept_of s').reader.count ≤ max_read → (kept_of s').reader.line.size ≤ max_read
      → state_stands s' file ≡ true
  unfolding state_stands good_state
  stored_stands file h c z =
      let n : length s' ≡ state_size = t.long ∙ h.size in
      let taken : (kept_of s').taken ≡ k.taken = ap (λ (x : Kept). x.taken) (kept_raw s k s' t) in
      and_both (eqb (length s') state_size && good_kept (kept_of s')) (leb (kept_of s').taken (length file))
      (and_both (eqb (length s') state_size) (good_kept (kept_of s')) (eq-eqb (length s') state_size n)
      (kept_passes file h (omega (arith, c, count_back)) (omega (arith, z, size_back))))
      (le-leb (kept_of s').taken (length file) (omega (arith, taken, h.taken)))
