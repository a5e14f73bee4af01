-- Layouts as numbers: what is read, and one slot rewritten.
use Rattle.std.specs.Prelude.{ℕ, List, [], ◌∷◌, cond, eqb, length, Option, Some, None, Result, Ok, Err}
use Rattle.refusals.specs.declared.Refusal.{Refusal}
use Rattle.layout.specs.Layout.{magic_three, header_size}
use Rattle.layout.specs.Answers.{rewrite_answer, rewrite_bytes}
use Rattle.layout_write.specs.Writer.{slot_numbers, given_at}
use Rattle.layout.specs.declared.Header.{Header}
use Rattle.layout.specs.declared.Slot.{Slot}

-- ## Reading

-- "version 1 or 3"
unfoldable pub version_of : ℕ → ℕ
version_of magic = cond (eqb magic magic_three) 3 1

-- a header is handed out as eight numbers
abbrev pub header_numbers : ℕ
header_numbers = 8

-- "version, pattern, own id, own sequence, stripe size, stripe count, generation, where the slots start"
unfoldable pub header_fields : Header → ℕ → List ℕ
header_fields h n =
    version_of h.magic ∷ h.pattern ∷ h.oid ∷ h.seq ∷ h.stripe ∷ n ∷ h.generation ∷ header_size h.magic ∷ []

unfoldable pub read_fields : Result (Header × ℕ) Refusal → List ℕ
read_fields (Err e) = []
read_fields (Ok (h, n)) = header_fields h n

-- ## Rewriting

unfoldable pub rewrite_given : List ℕ → ℕ → Option Slot → ℕ
rewrite_given l j None = 13
rewrite_given l j (Some s) = rewrite_answer l j s

unfoldable pub given_left : List ℕ → ℕ → Option Slot → List ℕ
given_left l j None = l
given_left l j (Some s) = rewrite_bytes l j s

unfoldable pub rewrite_number : List ℕ → ℕ → List ℕ → ℕ
rewrite_number l j slot = cond (eqb (length slot) slot_numbers) (rewrite_given l j (given_at slot 0)) 13

unfoldable pub rewrite_left : List ℕ → ℕ → List ℕ → List ℕ
rewrite_left l j slot = cond (eqb (length slot) slot_numbers) (given_left l j (given_at slot 0)) l
