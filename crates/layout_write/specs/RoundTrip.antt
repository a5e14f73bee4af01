-- The round trips of the public functions: what the readers give goes through the writer as the same bytes, and what the writer takes comes
-- back through the readers as it was given. Document 01: "What is written reads back as the same layout".
use Rattle.std.specs.Prelude.{ℕ, zero, suc, ◌-◌, ◌≤◌, ◌<◌, ◌^◌, ◌≡◌, List, [], ◌++◌, length, take, drop, Ok}
use Rattle.wire.specs.Numbers.{Bytes}
use Rattle.layout.specs.Layout.{plain_header, header_size}
use Rattle.layout.specs.Answers.{read_layout, read_slot}
use Rattle.layout.specs.declared.Header.{Header}
use Rattle.layout_write.specs.Writer.{slot_read_fields, write_layout, write_bytes}

-- the numbers of n slots from slot j on, as the slot reader gives them one by one
unfoldable pub slots_read : List ℕ → ℕ → ℕ → List ℕ
slots_read l zero j = []
slots_read l (suc n) j = slot_read_fields (read_slot l j) ++ slots_read l n (suc j)

-- the bytes of the pool name, which stand between the plain header and the slots
unfoldable pub pool_read : Header → List ℕ → List ℕ
pool_read h l = take (header_size h.magic - plain_header) (drop plain_header l)

-- the fields are of their declared widths; magic number and pattern are so as known ones
pub record DeclaredWidths (h : Header) : Type 0 where
  pub oid : h.oid < 2 ^ 64
  pub seq : h.seq < 2 ^ 64
  pub stripe : h.stripe < 2 ^ 32
  pub generation : h.generation < 2 ^ 16

-- ## What was read, written

-- header h and stripe count n that the reader gave of l, with its pool name and slots as read, are taken by the writer, which leaves l and no other byte
pub record WritesBack (l : List ℕ) (h : Header) (n : ℕ) (dest : List ℕ) : Type 0 where
  pub answer : write_layout h n (pool_read h l) (slots_read l n 0) dest ≡ Ok (length l)
  pub layout : take (length l) (write_bytes h n (pool_read h l) (slots_read l n 0) dest) ≡ l
  pub rest : drop (length l) (write_bytes h n (pool_read h l) (slots_read l n 0) dest) ≡ drop (length l) dest

-- of every layout that is accepted, and every destination with room for it
unfoldable pub EveryLayoutBack : Type 0
EveryLayoutBack =
    (l : List ℕ) (h : Header) (n : ℕ) (dest : List ℕ) → Bytes l → read_layout l ≡ Ok (h, n) → length l ≤ length dest → WritesBack l h n dest

-- ## What was written, read

-- the b bytes that were written read back as given: header and stripe count, pool name, slots
pub record ReadsBack (h : Header) (n : ℕ) (pool numbers written : List ℕ) : Type 0 where
  pub header : read_layout written ≡ Ok (h, n)
  pub pool_name : pool_read h written ≡ pool
  pub slots : slots_read written n 0 ≡ numbers

-- of everything that the writer takes
unfoldable pub EveryWriteBack : Type 0
EveryWriteBack =
    (h : Header) (n : ℕ) (pool numbers dest : List ℕ) (b : ℕ) → DeclaredWidths h → write_layout h n pool numbers dest ≡ Ok b →
    ReadsBack h n pool numbers (take b (write_bytes h n pool numbers dest))
