-- What the reader of the whole, the cursor and the reader of one record answer, refusals first. Document 02, 2026-01.
use Rattle.std.specs.Prelude.{ℕ, ◌+◌, ◌-◌, List, cond, length, ltb, leb, eqb, Option, Some, None, Result, Ok, Err}
use Rattle.refusals.specs.Numbers.{answer}
use Rattle.refusals.specs.declared.Refusal.{Refusal}
use Rattle.refusals.specs.declared.Refusal.TheVariants.{BadLink, NoPlace}
use Rattle.linkea.specs.Link.{link_header, name_at, decode_link_header, length_at, link_at, places}
use Rattle.linkea.specs.Conditions.{some, bad_record, refused_link}
use Rattle.linkea.specs.declared.LinkHeader.{LinkHeader}
use Rattle.linkea.specs.declared.Found.{Found}

-- ## The reader of the whole

-- the header of a link_ea that none of the conditions refuses
unfoldable pub read_link : List ℕ → Result LinkHeader Refusal
read_link l = cond (refused_link l) (Err BadLink) (Ok (decode_link_header l))

-- "is 31"
unfoldable pub reading_number : Result LinkHeader Refusal → ℕ
reading_number r = answer r

-- ## The cursor

-- the record at a place: its parent, where its name starts, the name's length, and the place after it
unfoldable pub found_at : List ℕ → ℕ → Found
found_at l p = record { parent = (link_at l p).parent; start = p + name_at; size = length_at l p - name_at; next = p + length_at l p }

-- a place in the header is none; at or past the end the walk is over
unfoldable pub step_at : List ℕ → ℕ → Result (Option Found) Refusal
step_at l p =
    cond (ltb p link_header) (Err BadLink) (cond (leb (length l) p) (Ok None) (cond (bad_record l p) (Err BadLink) (Ok (Some (found_at l p)))))

-- ## The reader of one record

-- "31 for the whole first, then 16 where no record begins there"
unfoldable pub read_record : List ℕ → ℕ → Result Found Refusal
read_record l p = cond (refused_link l) (Err BadLink) (cond (some (eqb p) (places l)) (Ok (found_at l p)) (Err NoPlace))

unfoldable pub record_number : Result Found Refusal → ℕ
record_number r = answer r
