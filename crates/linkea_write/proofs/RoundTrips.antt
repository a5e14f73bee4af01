-- The round trips that `specs/RoundTrip.antt` states. Assumes nothing.
use mathlib.Core.Path.{◌≡◌, refl, sym, ap, ◌∙◌}
use mathlib.Core.List.{List, ◌++◌, map}
use mathlib.Core.Bool.{Bool, true, false, cond}
use Prim.Native.Nat.{ℕ, zero, suc, ◌+◌, ◌*◌, ◌≤◌, ◌<◌, ◌^◌}
use native.Mathlib.Omega.{arith}
use lib.ListN.{length, take, drop, get_or}
use lib.Seq.{sets, take_at, drop_at}
use Rattle.wire.specs.Numbers.{Bytes}
use Rattle.wire.proofs.Splice.{sets_front}
use Rattle.fid.proofs.FidLaws.{Fits}
use Rattle.linkea.specs.Link.{LinkEA, link_header, link_at, places, decode_link_header, decode_link_ea, header_of, encode_link_ea}
use Rattle.linkea.specs.Conditions.{some, bad_record, refused_link}
use Rattle.linkea.specs.Answers.{read_link}
use Rattle.linkea.specs.Walk.{opening_of, walked}
use Rattle.linkea.specs.declared.LinkHeader.{LinkHeader}
use Rattle.linkea.proofs.PlaceLaws.{or_first, or_second, places_from_lem, AllGood}
use Rattle.linkea.proofs.RecordLaws.{good_link, read_accepted}
use Rattle.linkea.proofs.WalkLaws.{every_walk}
use Rattle.std.specs.Prelude.{Result, Ok, Err}
use Rattle.refusals.specs.declared.Refusal.{Refusal}
use Rattle.refusals.specs.declared.Refusal.TheVariants.{BadLink}
use Rattle.linkea_write.specs.Writer.{link_numbers, number_of, parent_given, link_given, link_ea_given, upward, bad_given, refused_given, write_link, write_link_bytes}
use Rattle.linkea_write.specs.RoundTrip.{records_read, EveryLinkBack, EveryWriteBack}
use Rattle.linkea_write.proofs.LinkLaws.{FitLink, FitHeader}
use Rattle.linkea_write.proofs.GivenLaws.{TakenFacts, taken_facts, length_name}
use Rattle.linkea_write.proofs.WriteLaws.{write_facts, facts_write, write_is, write_took}
use Rattle.linkea_write.proofs.StandLaws.{FitLinks, header_read, written_again, links_back, header_of_back, length_encoded, encoded_accepted}
use Rattle.linkea_write.proofs.ReadLaws.{numbers_at, length_numbers, links_at, good_at, records_read_lem}

-- ## What was read, written

read_taken : (l : List ℕ) (h : LinkHeader) → read_link l ≡ Ok h → (refused_link l ≡ false) × (decode_link_header l ≡ h)
unfolding read_link
read_taken l h = go (refused_link l) refl
  where
    go : (b : Bool) → refused_link l ≡ b → cond b (Err BadLink) (Ok (decode_link_header l)) ≡ Ok h → (refused_link l ≡ false) × (decode_link_header l ≡ h)
    go false a e = (a, cc)
    go true a e = let z : ◌≡◌ {A = ℕ} 0 1 = cc in absurd (omega (arith, z))

module _ (l : List ℕ) (a : refused_link l ≡ false) where
  numbers_read : records_read (decode_link_header l).count l link_header ≡ numbers_at l (places l)
  numbers_read = ap (λ (n : ℕ). records_read n l link_header) (good_link l a).counted ∙ records_read_lem l a

  -- what was read, handed to the writer, is the link_ea that was read
  given_is : link_ea_given (decode_link_header l) (numbers_at l (places l)) l ≡ decode_link_ea l
  unfolding link_ea_given decode_link_ea
  given_is =
      let e : map (link_given (numbers_at l (places l)) l) (upward (decode_link_header l).count 0) ≡ map (link_at l) (places l) =
      rw (good_link l a).counted (links_at l (places l)) in
      λ i. record { time = (decode_link_header l).time; padding = (decode_link_header l).padding; links = e i }

-- a link_ea that is not refused, handed to the writer as it was read
module _ (l : List ℕ) (b : Bytes l) (a : refused_link l ≡ false) where
  read_writable : refused_given (decode_link_header l) (numbers_at l (places l)) l ≡ false
  unfolding AllGood
  read_writable =
      let g = good_link l a in
      let e : length (numbers_at l (places l)) ≡ link_numbers * (decode_link_header l).count = rw g.counted (length_numbers l (places l)) in
      let s : some (bad_record l) (places l) ≡ false = rw (places_from_lem l) g.records in
      let n : some (bad_given (numbers_at l (places l)) l) (upward (decode_link_header l).count 0) ≡ false = rw g.counted (good_at l b (places l) s) in
      let t : (decode_link_header l).total ≡ (header_of (link_ea_given (decode_link_header l) (numbers_at l (places l)) l)).total =
      ap (λ (h : LinkHeader). h.total) (sym (header_read l b a)) ∙ ap (λ (x : LinkEA). (header_of x).total) (sym (given_is l a)) in
      facts_write (decode_link_header l) (numbers_at l (places l)) l e n t

  read_written : (dest : List ℕ) → length l ≤ length dest →
      (write_link (decode_link_header l) (numbers_at l (places l)) l dest ≡ Ok (length l))
      × (write_link_bytes (decode_link_header l) (numbers_at l (places l)) l dest ≡ sets dest 0 l)
  read_written dest k =
      let t = (good_link l a).total in
      let r = write_is (decode_link_header l) (numbers_at l (places l)) l dest read_writable (omega arith) in
      (r.0 ∙ ap {B = Result ℕ Refusal} Ok t, r.1 ∙ ap (λ (x : LinkEA). sets dest 0 (encode_link_ea x)) (given_is l a) ∙ ap (λ (m : List ℕ). sets dest 0 m) (written_again l b a))

pub every_link_back : EveryLinkBack
unfolding EveryLinkBack
every_link_back l h dest b e k =
    let t = read_taken l h e in
    let w = read_written l b t.0 dest k in
    let n : records_read h.count l link_header ≡ numbers_at l (places l) = rw (← t.1) (numbers_read l t.0) in
    let x : write_link_bytes h (records_read h.count l link_header) l dest ≡ l ++ drop (length l) dest = rw (n, ← t.1) w.1 ∙ sets_front l dest k in
    record {
      answer = rw (n, ← t.1) w.0;
      link_ea = ap (λ (m : List ℕ). take (length l) m) x ∙ take_at l (drop (length l) dest) (length l) refl;
      rest = ap (λ (m : List ℕ). drop (length l) m) x ∙ drop_at l (drop (length l) dest) (length l) refl;
    }

-- ## What was written, read

parent_fit : (numbers names : List ℕ) (j : ℕ) → ((i : ℕ) → get_or numbers i 0 < 2 ^ 64) → TakenFacts numbers names j → Fits (link_given numbers names j).parent.0
unfolding link_given parent_given number_of
parent_fit numbers names j d t = record { seq = d (link_numbers * j + 0); oid = omega (arith, t.id); ver = omega (arith, t.version) }

-- a record that the writer takes, of numbers of their declared width, can be written and read
fit_given : (numbers names : List ℕ) (j : ℕ) → ((i : ℕ) → get_or numbers i 0 < 2 ^ 64) → bad_given numbers names j ≡ false → FitLink (link_given numbers names j)
fit_given numbers names j d h =
    let t = taken_facts numbers names j h in
    let n = length_name numbers names j h in
    record { fits = parent_fit numbers names j d t; named = omega (arith, n, t.named); short = omega (arith, n, t.short); clean = t.clean }

fit_givens : (numbers names : List ℕ) (n j : ℕ) → ((i : ℕ) → get_or numbers i 0 < 2 ^ 64) → some (bad_given numbers names) (upward n j) ≡ false →
    FitLinks (map (link_given numbers names) (upward n j))
unfolding FitLinks upward some
fit_givens numbers names zero j d h = tt
fit_givens numbers names (suc n) j d h =
    let b : Bool = bad_given numbers names j in
    let r : Bool = some (bad_given numbers names) (upward n (suc j)) in
    (fit_given numbers names j d (or_first b r h), fit_givens numbers names n (suc j) d (or_second b r h))

-- the bytes of a link_ea whose records and header fit, read back
encoded_read : (e : LinkEA) → FitLinks e.links → FitHeader (header_of e) →
    (read_link (encode_link_ea e) ≡ Ok (header_of e)) × (walked (header_of e).count (encode_link_ea e) (opening_of (encode_link_ea e)) ≡ e.links)
encoded_read e f w =
    let l : List ℕ = encode_link_ea e in
    let a = encoded_accepted e f w in
    let h : decode_link_header l ≡ header_of e = header_of_back e f w in (
      sym (read_accepted l a) ∙ ap {B = Result LinkHeader Refusal} Ok h,
      ap (λ (g : LinkHeader). walked g.count l (opening_of l)) (sym h) ∙ ((every_walk l).accepted a).records ∙ links_back e f w,
    )

pub every_write_back : EveryWriteBack
unfolding EveryWriteBack link_ea_given
every_write_back h numbers names dest b d e =
    let t = write_took h numbers names dest b e in
    let f = write_facts h numbers names t.0 in
    let x : LinkEA = link_ea_given h numbers names in
    let l : List ℕ = encode_link_ea x in
    let w : FitHeader (header_of x) = rw f.header (record { count = d.count; total = d.total; time = d.time; padding = d.padding }) in
    let g : FitLinks x.links = fit_givens numbers names h.count 0 d.given f.good in
    let n : length l ≡ b = length_encoded x g w ∙ ap (λ (y : LinkHeader). y.total) f.header ∙ sym t.2 in
    let q : take b (write_link_bytes h numbers names dest) ≡ l =
    ap (λ (m : List ℕ). take b m) ((write_is h numbers names dest t.0 t.1).1 ∙ sets_front l dest (omega (arith, t.1, t.2))) ∙ take_at l (drop (length l) dest) b n in
    let r = encoded_read x g w in
    record {
      header = rw q (r.0 ∙ ap {B = Result LinkHeader Refusal} Ok f.header);
      records = rw q (ap (λ (y : LinkHeader). walked y.count l (opening_of l)) (sym f.header) ∙ r.1);
    }
