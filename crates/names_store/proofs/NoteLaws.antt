-- The note of an entry, among those of the table. Assumes nothing.
use mathlib.Core.Path.{◌≡◌, refl, sym, ap, ◌∙◌}
use mathlib.Core.Bool.{Bool}
use mathlib.Core.List.{List, [], ◌∷◌, map}
use Prim.Native.Nat.{ℕ, zero, suc, ◌/◌, ◌<◌}
use native.Mathlib.Omega.{arith}
use lib.ListN.{length, get_or}
use lib.Seq.{get_or-take}
use Rattle.fid.specs.declared.MdtFid.{MdtFid}
use Rattle.names.specs.Rows.{Entry, entry_size, decode_entry, parse_entries}
use Rattle.names.proofs.SoundLaws.{parsed_entries}
use Rattle.names_check.specs.Asked.{entry_at}
use Rattle.names_check.proofs.FindingLaws.{entry_row}
use Rattle.names_store.specs.Notes.{note_of, Noted}

note_in : (seen : MdtFid → Bool) (es : List Entry) (i : ℕ) → i < length es → get_or (map (note_of seen) es) i 0 ≡ note_of seen (get_or es i (decode_entry []))
note_in seen [] i h = absurd (omega arith)
note_in seen (e ∷ es) zero h = refl
note_in seen (e ∷ es) (suc i) h = note_in seen es i (omega arith)

pub note_at_lem : (seen : MdtFid → Bool) (entries notes : List ℕ) (i : ℕ) → i < length entries / entry_size → Noted seen entries notes →
    get_or notes i 0 ≡ note_of seen (entry_at entries i)
unfolding Noted
note_at_lem seen entries notes i h n =
    sym (get_or-take (length entries / entry_size) notes i 0 h) ∙ ap (λ (l : List ℕ). get_or l i 0) n
    ∙ note_in seen (parse_entries entries) i (omega (arith, parsed_entries entries)) ∙ ap (note_of seen) (entry_row entries i h)
