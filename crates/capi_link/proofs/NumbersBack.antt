-- What was read by numbers is written back. Assumes nothing.
use mathlib.Core.Path.{◌≡◌, refl, sym, ap, ◌∙◌}
use mathlib.Core.List.{List, [], ◌∷◌, ◌++◌}
use mathlib.Core.Bool.{Bool, true, false, cond}
use Prim.Native.Nat.{ℕ, zero, suc, ◌≤◌}
use borrow.Author.Tests.{le-leb}
use native.Mathlib.Omega.{arith}
use lib.ListN.{length, take}
use lib.Seq.{length-take-le}
use Rattle.wire.specs.Numbers.{Bytes, max_word}
use Rattle.wire.proofs.NumberLaws.{le_small_at}
use Rattle.wire.proofs.Splice.{sets_whole}
use Rattle.wire.proofs.RowLaws.{take_sets_in}
use Rattle.linkea.specs.Link.{count_at, time_at, padding_at, link_header, decode_link_header}
use Rattle.linkea.specs.Conditions.{refused_link}
use Rattle.linkea.specs.Answers.{read_link, read_record}
use Rattle.linkea.specs.declared.LinkHeader.{LinkHeader}
use Rattle.linkea.specs.declared.Found.{Found}
use Rattle.linkea_write.specs.Writer.{link_numbers, written_number, write_link, write_link_bytes}
use Rattle.linkea_write.specs.RoundTrip.{found_numbers, read_numbers, read_next, records_read, EveryLinkBack}
use Rattle.std.specs.Prelude.{Result, Ok, Err}
use Rattle.refusals.specs.declared.Refusal.{Refusal}
use Rattle.refusals.specs.declared.Refusal.TheVariants.{BadLink}
use Rattle.linkea.proofs.RecordLaws.{good_link}
use Rattle.linkea_write.proofs.RoundTrips.{every_link_back}
use Rattle.capi_out.specs.Out.{out_answer, out_numbers}
use Rattle.capi_link.specs.Links.{header_fields, found_fields, record_fields, fields_fit, fields_header, given_number, given_values, given_answer, given_dest, given_out, write_answer, write_dest, write_out}
use Rattle.capi_link.specs.Back.{records_handed, EveryNumbersBack}

-- the five that the writer takes
five : (x : Result Found Refusal) → take link_numbers (record_fields x) ≡ read_numbers x
unfolding record_fields found_fields found_numbers read_numbers
five (Err e) = refl
five (Ok x) = refl

handed : (n : ℕ) (l : List ℕ) (p : ℕ) → records_handed n l p ≡ records_read n l p
unfolding records_handed records_read
handed zero l p = refl
handed (suc n) l p =
    rw (five (read_record l p)) (ap (λ (s : List ℕ). read_numbers (read_record l p) ++ s) (handed n l (read_next (read_record l p) p)))

-- the header that is read is the one in the bytes
header_is : (l : List ℕ) (h : LinkHeader) → read_link l ≡ Ok h → decode_link_header l ≡ h
unfolding read_link
header_is l h e = go (refused_link l) e
  where
    go : (b : Bool) → cond b (Err BadLink) (Ok (decode_link_header l)) ≡ Ok h → decode_link_header l ≡ h
    go true e = let z : ◌≡◌ {A = ℕ} 0 1 = cc in absurd (omega (arith, z))
    go false e = cc

-- of which the total is the length
read_total : (l : List ℕ) (h : LinkHeader) → read_link l ≡ Ok h → (decode_link_header l).total ≡ length l
unfolding read_link
read_total l h e = go (refused_link l) refl e
  where
    go : (b : Bool) → refused_link l ≡ b → cond b (Err BadLink) (Ok (decode_link_header l)) ≡ Ok h → (decode_link_header l).total ≡ length l
    go true f e = let z : ◌≡◌ {A = ℕ} 0 1 = cc in absurd (omega (arith, z))
    go false f e = (good_link l f).total

-- handed in again, its fields are that header
fields_back : (h : LinkHeader) → fields_header (header_fields h) ≡ h
unfolding fields_header header_fields
fields_back h = refl

-- its numbers fit their fields
header_fits : (l : List ℕ) → Bytes l → fields_fit (header_fields (decode_link_header l)) ≡ true
unfolding fields_fit header_fields decode_link_header
header_fits l b =
    rw (
      le-leb (decode_link_header l).count max_word (omega (arith, le_small_at 4 count_at l b)),
      le-leb (decode_link_header l).time max_word (omega (arith, le_small_at 4 time_at l b)),
      le-leb (decode_link_header l).padding max_word (omega (arith, le_small_at 4 padding_at l b)),
    )

-- with a place for it, the number that the writer gives is handed out
module _ (h : LinkHeader) (records names dest out : List ℕ) (n : ℕ) (w : write_link h records names dest ≡ Ok n) (t : h.total ≡ n) (k : 1 ≤ length out) where
  answers : given_answer h records names dest out ≡ 0
  unfolding given_answer given_number given_values written_number out_answer
  answers = rw (w, le-leb 1 (length out) k)

  leaves : given_dest h records names dest out ≡ write_link_bytes h records names dest
  unfolding given_dest
  leaves = rw answers

  tells : take 1 (given_out h records names dest out) ≡ n ∷ []
  unfolding given_out given_answer given_number given_values written_number out_answer out_numbers
  tells = rw (w, le-leb 1 (length out) k, t) (take_sets_in (n ∷ []) out 1 0 (omega arith) ∙ sets_whole (n ∷ []) (take 1 out) (length-take-le 1 out k))

pub every_numbers_back : EveryNumbersBack
unfolding EveryNumbersBack EveryLinkBack write_answer write_dest write_out
every_numbers_back l h dest out b e r k =
    let f : fields_fit (header_fields h) ≡ true = ap (λ (g : LinkHeader). fields_fit (header_fields g)) (sym (header_is l h e)) ∙ header_fits l b in
    let q = fields_back h in
    let s = handed h.count l link_header in
    let w = every_link_back l h dest b e r in
    let t : h.total ≡ length l = ap (λ (g : LinkHeader). g.total) (sym (header_is l h e)) ∙ read_total l h e in
    let R : List ℕ = records_read h.count l link_header in
    record {
      answer = rw (f, q, s) (answers h R l dest out (length l) w.answer t k);
      link_ea = rw (f, q, s, leaves h R l dest out (length l) w.answer t k) w.link_ea;
      rest = rw (f, q, s, leaves h R l dest out (length l) w.answer t k) w.rest;
      written = rw (f, q, s) (tells h R l dest out (length l) w.answer t k);
    }
