-- The round trips of the public functions: what the readers give goes through the writer as the same bytes, and what the writer takes comes
-- back through the readers as it was given. Document 02, 2026-01: "What was read is written back byte for byte".
use Rattle.std.specs.Prelude.{ℕ, zero, suc, ◌≤◌, ◌<◌, ◌^◌, ◌≡◌, List, [], ◌∷◌, ◌++◌, length, take, drop, get_or, Result, Ok, Err}
use Rattle.refusals.specs.declared.Refusal.{Refusal}
use Rattle.wire.specs.Numbers.{Bytes}
use Rattle.linkea.specs.Link.{link_header}
use Rattle.linkea.specs.Answers.{read_link, read_record}
use Rattle.linkea.specs.Walk.{opening_of, walked}
use Rattle.linkea.specs.declared.LinkHeader.{LinkHeader}
use Rattle.linkea.specs.declared.Found.{Found}
use Rattle.linkea_write.specs.Writer.{link_ea_given, write_link, write_link_bytes}

-- ## What was read, written

-- the five numbers of a record that the reader of one record gave
unfoldable pub found_numbers : Found → List ℕ
found_numbers x = x.parent.0.seq ∷ x.parent.0.oid ∷ x.parent.0.ver ∷ x.start ∷ x.size ∷ []

unfoldable pub read_numbers : Result Found Refusal → List ℕ
read_numbers (Err e) = []
read_numbers (Ok x) = found_numbers x

unfoldable pub read_next : Result Found Refusal → ℕ → ℕ
read_next (Err e) p = p
read_next (Ok x) p = x.next

-- the numbers of n records, read one by one from place p on
unfoldable pub records_read : ℕ → List ℕ → ℕ → List ℕ
records_read zero l p = []
records_read (suc n) l p = read_numbers (read_record l p) ++ records_read n l (read_next (read_record l p) p)

-- the header h that the reader gave of l, with its records as read and the names where they lie in l, are taken by the writer, which leaves l
-- and no other byte
pub record WritesBack (l : List ℕ) (h : LinkHeader) (dest : List ℕ) : Type 0 where
  pub answer : write_link h (records_read h.count l link_header) l dest ≡ Ok (length l)
  pub link_ea : take (length l) (write_link_bytes h (records_read h.count l link_header) l dest) ≡ l
  pub rest : drop (length l) (write_link_bytes h (records_read h.count l link_header) l dest) ≡ drop (length l) dest

-- of every link_ea that is accepted, and every destination with room for it
unfoldable pub EveryLinkBack : Type 0
EveryLinkBack = (l : List ℕ) (h : LinkHeader) (dest : List ℕ) → Bytes l → read_link l ≡ Ok h → length l ≤ length dest → WritesBack l h dest

-- ## What was written, read

-- the numbers are of their declared widths, and names are bytes
pub record DeclaredWidths (h : LinkHeader) (numbers names : List ℕ) : Type 0 where
  pub count : h.count < 2 ^ 32
  pub total : h.total < 2 ^ 64
  pub time : h.time < 2 ^ 32
  pub padding : h.padding < 2 ^ 32
  pub given : (i : ℕ) → get_or numbers i 0 < 2 ^ 64
  pub lent : Bytes names

-- the bytes that were written read back as given: the header, and each record's parent and name, in order
pub record ReadsBack (h : LinkHeader) (numbers names written : List ℕ) : Type 0 where
  pub header : read_link written ≡ Ok h
  pub records : walked h.count written (opening_of written) ≡ (link_ea_given h numbers names).links

-- of everything that the writer takes
unfoldable pub EveryWriteBack : Type 0
EveryWriteBack =
    (h : LinkHeader) (numbers names dest : List ℕ) (b : ℕ) → DeclaredWidths h numbers names → write_link h numbers names dest ≡ Ok b →
    ReadsBack h numbers names (take b (write_link_bytes h numbers names dest))
