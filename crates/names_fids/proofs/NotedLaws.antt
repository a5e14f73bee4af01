-- Notes of the entries, one by one, and what a note says. Assumes nothing.
use mathlib.Core.Path.{◌≡◌, refl, sym, ap, ◌∙◌}
use mathlib.Core.Bool.{Bool, true, false, cond}
use mathlib.Core.List.{List, [], ◌∷◌, ◌++◌, map, map-append}
use Prim.Native.Nat.{ℕ, suc, ◌+◌, ◌/◌, ◌≤◌, ◌<◌}
use native.Mathlib.Numerals.{add-one}
use native.Mathlib.Omega.{arith}
use mir.Val.{bool_byte}
use lib.ListN.{length, take, set}
use lib.Seq.{take-suc, take_all, take-suc-set, take-append_seam}
use Rattle.fid.specs.declared.MdtFid.{MdtFid}
use Rattle.names.specs.Rows.{Entry, entry_size, decode_entry, parse_entries}
use Rattle.names.specs.Sweeps.{one}
use Rattle.names.proofs.SoundLaws.{parsed_entries}
use Rattle.names_check.specs.Asked.{entry_at}
use Rattle.names_check.proofs.FindingLaws.{entry_row}
use Rattle.names_store.specs.Notes.{note_of, Noted}

module _ (seen : MdtFid → Bool) (e : Entry) (b : ℕ) where
  pub note_visible : seen e.parent ≡ true → 1 ≡ note_of seen e
  unfolding note_of one
  note_visible h = rw h

  pub hidden_note : b ≡ 0 → b ≡ note_of seen e → seen e.parent ≡ false
  unfolding note_of one
  hidden_note h k = go (seen e.parent) (sym k ∙ h)
    where
      go : (v : Bool) → ◌≡◌ {A = ℕ} (cond v 1 0) 0 → v ≡ false
      go true z = absurd (omega arith)
      go false z = refl

  pub visible_note : (b ≡ 0 → ⊥) → b ≡ note_of seen e → seen e.parent ≡ true
  unfolding note_of one
  visible_note h k = go (seen e.parent) k
    where
      go : (v : Bool) → b ≡ cond v 1 0 → v ≡ true
      go true z = refl
      go false z = absurd (h z)

module _ (seen : MdtFid → Bool) (entries : List ℕ) where
  -- the notes of the first i entries
  pub NotedTo : ℕ → List ℕ → Type 0
  NotedTo i notes = take i notes ≡ map (note_of seen) (take i (parse_entries entries))

  pub noted_start : (notes : List ℕ) → NotedTo 0 notes
  unfolding NotedTo
  noted_start notes = refl

  pub noted_next : (i : ℕ) (l : List ℕ) (b : ℕ) → i < length entries / entry_size → i < length l → NotedTo i l → b ≡ note_of seen (entry_at entries i) →
      NotedTo (i + 1) (set l i b)
  unfolding NotedTo
  noted_next i l b h k n e =
      let t : take (suc i) (parse_entries entries) ≡ take i (parse_entries entries) ++ (entry_at entries i ∷ []) =
      rw (take-suc (parse_entries entries) i (decode_entry []) (omega (arith, parsed_entries entries)), entry_row entries i h) in
      rw (add-one i, take-suc-set l i b k, n, t, map-append (note_of seen) (take i (parse_entries entries)) (entry_at entries i ∷ []), e)

  pub noted_all : (i : ℕ) (l rest : List ℕ) → length entries / entry_size ≤ i → i ≤ length entries / entry_size → length l ≡ i → NotedTo i l →
      Noted seen entries (l ++ rest)
  unfolding NotedTo Noted
  noted_all i l rest h k q n =
      let z : i ≡ length entries / entry_size = omega arith in
      rw (← z)
      (ap (λ (j : ℕ). take j (l ++ rest)) (sym q) ∙ take-append_seam l rest ∙ sym (take_all i l (omega (arith, q))) ∙ n
      ∙ ap (map (note_of seen)) (take_all i (parse_entries entries) (omega (arith, parsed_entries entries))))

-- a flag counted
pub flag_one : (b : Bool) (n : ℕ) → n ≡ bool_byte b → n ≡ one b
unfolding one
flag_one true n e = e
flag_one false n e = e

pub flag_most : (b : Bool) (n : ℕ) → n ≡ bool_byte b → n ≤ 1
flag_most true n e = omega (arith, e)
flag_most false n e = omega (arith, e)

-- a flag noted
pub noted_flag : (seen : MdtFid → Bool) (e : Entry) (b : Bool) (n : ℕ) → n ≡ bool_byte b → b ≡ seen e.parent → n ≡ note_of seen e
unfolding note_of
noted_flag seen e b n k h = flag_one b n k ∙ ap one h
