-- What the two reading exports hand out goes through the writing export as the same bytes. Document 02, 2026-01: "What was read is written back byte for
-- byte".
use Rattle.std.specs.Prelude.{ℕ, zero, suc, ◌≤◌, ◌≡◌, List, [], ◌∷◌, ◌++◌, length, take, drop, Ok}
use Rattle.wire.specs.Numbers.{Bytes}
use Rattle.linkea.specs.Link.{link_header}
use Rattle.linkea.specs.Answers.{read_link, read_record}
use Rattle.linkea.specs.declared.LinkHeader.{LinkHeader}
use Rattle.linkea_write.specs.Writer.{link_numbers}
use Rattle.linkea_write.specs.RoundTrip.{read_next}
use Rattle.capi_link.specs.Links.{header_fields, record_fields, write_answer, write_dest, write_out}

-- "the first five as handed out", of n records from place p on
unfoldable pub records_handed : ℕ → List ℕ → ℕ → List ℕ
records_handed zero l p = []
records_handed (suc n) l p = take link_numbers (record_fields (read_record l p)) ++ records_handed n l (read_next (read_record l p) p)

-- the fields and records that were handed out of l, and l itself for the names
pub record NumbersBack (l : List ℕ) (h : LinkHeader) (dest out : List ℕ) : Type 0 where
  pub answer : write_answer (header_fields h) (records_handed h.count l link_header) l dest out ≡ 0
  pub link_ea : take (length l) (write_dest (header_fields h) (records_handed h.count l link_header) l dest out) ≡ l
  pub rest : drop (length l) (write_dest (header_fields h) (records_handed h.count l link_header) l dest out) ≡ drop (length l) dest
  pub written : take 1 (write_out (header_fields h) (records_handed h.count l link_header) l dest out) ≡ length l ∷ []

-- of every link_ea that is read, and every destination with room for it
unfoldable pub EveryNumbersBack : Type 0
EveryNumbersBack =
    (l : List ℕ) (h : LinkHeader) (dest out : List ℕ) → Bytes l → read_link l ≡ Ok h → length l ≤ length dest → 1 ≤ length out →
    NumbersBack l h dest out
