-- The flags of the records, one after the other, and what one record is asked. Assumes nothing.
use Rattle.std.specs.Prelude.{Option, None, Some}
use mathlib.Core.Path.{◌≡◌, refl, sym, ap, ◌∙◌}
use mathlib.Core.Bool.{Bool, true, false, cond, not, ◌&&◌}
use mathlib.Core.List.{List, [], ◌∷◌, ◌++◌, append_assoc, append-nil}
use Prim.Native.Nat.{ℕ, ◌+◌, ◌-◌, ◌/◌, ◌≤◌, ◌<◌}
use native.Mathlib.Nat.{not-suc-le-zero}
use native.Mathlib.Omega.{arith}
use mir.Val.{bool_byte}
use lib.Dec.{eqb}
use lib.ListN.{length, take, drop, get_or, set, length-append, length-take, length-map, drop_of_length-le}
use lib.Seq.{take_all, length-take-le}
use Rattle.wire.proofs.Both.{and_first}
use Rattle.fid.specs.declared.MdtFid.{MdtFid}
use Rattle.fid.proofs.SameLaws.{same_is}
use Rattle.linkea.specs.Link.{Link}
use Rattle.names.specs.Rows.{Entry, entry_size, parse_entries}
use Rattle.names.specs.Findings.{any, same, same_name, same_link, link_for}
use Rattle.names.specs.Sweeps.{one, named, goes, kept}
use Rattle.names.specs.Promises.{no_entry}
use Rattle.names.proofs.SoundLaws.{parsed_entries}
use Rattle.names_links.specs.Kept.{stays, kept_by}
use Rattle.names_check.proofs.FindingLaws.{entry_row}
use Rattle.names_store.specs.Notes.{note_of, Noted}
use Rattle.names_store.proofs.NoteLaws.{note_at_lem}
use Rattle.names_prune.specs.ByChild.{first_named}
use Rattle.names_prune.proofs.ByChildLaws.{Names, found_none, found_some}
use Rattle.names_prune.proofs.RecordLaws.{taken, inside}

-- ## One record

-- the flag as a byte, and how many more are gone by it
pub flag_byte : (s b : Bool) (f : ℕ) → f ≡ bool_byte s → s ≡ not b → f ≡ one (not b)
unfolding one
flag_byte true b f k h = rw (k, ← h)
flag_byte false b f k h = rw (k, ← h)

pub gone_most : (b : Bool) (g : ℕ) → g ≡ bool_byte b → g ≤ 1
gone_most true g e = omega (arith, e)
gone_most false g e = omega (arith, e)

pub gone_byte : (s : Bool) (f g : ℕ) → f ≡ bool_byte s → g ≡ bool_byte (not s) → 1 - f ≡ g
gone_byte true f g k h = omega (arith, k, h)
gone_byte false f g k h = omega (arith, k, h)

one_zero : (b : Bool) → one b ≡ 0 → b ≡ false
unfolding one
one_zero true h = absurd (omega arith)
one_zero false h = refl

one_some : (b : Bool) → (one b ≡ 0 → ⊥) → b ≡ true
unfolding one
one_some true h = refl
one_some false h = absurd (h refl)

-- a record that an entry has: its directory is the entry's
same_parent : (x y : Link) → same_link x y ≡ true → y.parent ≡ x.parent
unfolding same_link same
same_parent x y h =
    let e = same_is x.parent.0 y.parent.0 (and_first (same x.parent y.parent) (same_name x.name y.name) h) in
    λ i. record { 0 = sym e i }

module _ (seen : MdtFid → Bool) (t notes : List ℕ) (w : Noted seen t notes) where
  pub noted_many : length t / entry_size ≤ length notes
  unfolding Noted
  noted_many =
      let m : length (take (length t / entry_size) notes) ≡ length t / entry_size =
      ap length w ∙ length-map (parse_entries t) (note_of seen) ∙ parsed_entries t in
      omega (arith, length-take (length t / entry_size) notes)

module _ (seen : MdtFid → Bool) (es : List Entry) (r : ℕ) (before : List Link) (x : Link) where
  pub goes_unnamed : named es r x ≡ false → seen x.parent ≡ goes seen es r before x
  unfolding goes
  goes_unnamed h = rw h (go (seen x.parent))
    where
      go : (b : Bool) → b ≡ (b && true)
      go true = refl
      go false = refl

  goes_hidden : seen x.parent ≡ false → false ≡ goes seen es r before x
  unfolding goes
  goes_hidden h = rw h

  goes_named : named es r x ≡ true → seen x.parent ≡ true → any (same_link x) before ≡ goes seen es r before x
  unfolding goes
  goes_named h k = rw (h, k)

-- what is found of the record, and the note of the entry that has it
module _ (seen : MdtFid → Bool) (t notes : List ℕ) (r : ℕ) (before : List Link) (x : Link) where
  pub goes_none : (f : Option ℕ) → f ≡ first_named (parse_entries t) r x 0 → f ≡ None → seen x.parent ≡ goes seen (parse_entries t) r before x
  goes_none f e n = goes_unnamed seen (parse_entries t) r before x (found_none (parse_entries t) r x 0 (sym e ∙ n))

  module _ (w : Noted seen t notes) (f : Option ℕ) (e : f ≡ first_named (parse_entries t) r x 0) (i : ℕ) (v : f ≡ Some i) where
    names : Names (parse_entries t) r x 0 i
    names = found_some (parse_entries t) r x 0 i (sym e ∙ v)

    entry_inside : i < length t / entry_size
    entry_inside = omega (arith, names.inside, parsed_entries t)

    pub note_inside : i < length notes
    note_inside = omega (arith, entry_inside, noted_many seen t notes w)

    note_is : get_or notes i 0 ≡ one (seen x.parent)
    unfolding link_for no_entry note_of
    note_is =
        let z : i - 0 ≡ i = omega arith in
        let h : same_link x (link_for (get_or (parse_entries t) i no_entry)) ≡ true = rw z at names.link in
        note_at_lem seen t notes i entry_inside w ∙ ap (note_of seen) (sym (entry_row t i entry_inside)) ∙ ap (λ (g : MdtFid). one (seen g)) (same_parent x (link_for (get_or (parse_entries t) i no_entry)) h)

    pub goes_not : get_or notes i 0 ≡ 0 → false ≡ goes seen (parse_entries t) r before x
    goes_not h = goes_hidden seen (parse_entries t) r before x (one_zero (seen x.parent) (sym note_is ∙ h))

    pub goes_again : (get_or notes i 0 ≡ 0 → ⊥) → any (same_link x) before ≡ goes seen (parse_entries t) r before x
    goes_again h = goes_named seen (parse_entries t) r before x names.has (one_some (seen x.parent) (λ z. h (note_is ∙ z)))

-- ## One flag more

kept_snoc : (fs : List ℕ) (xs : List Link) (x : Link) (f : ℕ) → length xs < length fs →
    kept_by (set fs (length xs) f) (xs ++ (x ∷ [])) ≡ kept_by fs xs ++ cond (eqb f stays) (x ∷ []) []
unfolding kept_by
kept_snoc [] xs x f h = absurd (not-suc-le-zero h)
kept_snoc (g ∷ fs) [] x f h = append-nil (cond (eqb f stays) (x ∷ []) [])
kept_snoc (g ∷ fs) (y ∷ ys) x f h =
    rw (kept_snoc fs ys x f (omega arith)) (sym (append_assoc (cond (eqb g stays) (y ∷ []) []) (kept_by fs ys) (cond (eqb f stays) (x ∷ []) [])))

module _ (seen : MdtFid → Bool) (es : List Entry) (r : ℕ) (links : List Link) where
  -- k records flagged, of which some go
  pub record Flagged (k gone : ℕ) (fs : List ℕ) : Type 0 where
    pub left : kept_by fs (take k links) ++ kept seen es r (take k links) (drop k links) ≡ kept seen es r [] links
    pub count : gone + length (kept_by fs (take k links)) ≡ k

  pub flagged_start : (fs : List ℕ) → Flagged 0 0 fs
  unfolding kept_by
  flagged_start fs = record { left = refl; count = refl }

  -- the record stays or goes
  flag_says : (b : Bool) (f : ℕ) (x : Link) → f ≡ one (not b) → cond (eqb f stays) (x ∷ []) [] ≡ cond b [] (x ∷ [])
  unfolding one
  flag_says true f x e = rw e
  flag_says false f x e = rw e

  flag_counts : (b : Bool) (f : ℕ) (x : Link) → f ≡ one (not b) → 1 - f + length (cond b [] (x ∷ [])) ≡ 1
  unfolding one
  flag_counts true f x e = omega (arith, e)
  flag_counts false f x e = omega (arith, e)

  pub flagged_next : (k gone f : ℕ) (fs : List ℕ) (x : Link) → Flagged k gone fs → drop k links ≡ x ∷ drop (k + 1) links → k < length fs →
      f ≡ one (not (goes seen es r (take k links) x)) → Flagged (k + 1) (gone + (1 - f)) (set fs k f)
  unfolding kept
  flagged_next k gone f fs x w e h q =
      let n : length (take k links) ≡ k = length-take-le k links (omega (arith, inside links k x e)) in
      let b : Bool = goes seen es r (take k links) x in
      let s : kept_by (set fs k f) (take (k + 1) links) ≡ kept_by fs (take k links) ++ cond b [] (x ∷ []) =
      rw (taken links k x e, ← flag_says b f x q) (rw n at (kept_snoc fs (take k links) x f (omega arith))) in
      let rest : List Link = kept seen es r (take k links ++ (x ∷ [])) (drop (k + 1) links) in
      let m : kept_by fs (take k links) ++ (cond b [] (x ∷ []) ++ rest) ≡ kept seen es r [] links = rw e at w.left in
      record {
        left = rw (s, taken links k x e) (append_assoc (kept_by fs (take k links)) (cond b [] (x ∷ [])) rest ∙ m);
        count = omega (arith, ap length s, length-append (kept_by fs (take k links)) (cond b [] (x ∷ [])), flag_counts b f x q, w.count);
      }

  pub flagged_end : (k gone : ℕ) (fs : List ℕ) → length links ≡ k → Flagged k gone fs →
      (kept_by fs links ≡ kept seen es r [] links) × (gone ≡ length links - length (kept seen es r [] links))
  unfolding kept
  flagged_end k gone fs h w =
      let t : take k links ≡ links = take_all k links (omega arith) in
      let d : drop k links ≡ [] = drop_of_length-le links {i = k} (omega arith) in
      let a : kept_by fs links ≡ kept seen es r [] links = sym (append-nil (kept_by fs links)) ∙ (rw (t, d) at w.left) in
      (a, omega (arith, w.count, ap (λ (ys : List Link). length (kept_by fs ys)) t, ap length a))
