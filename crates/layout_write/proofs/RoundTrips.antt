-- The round trips that `specs/RoundTrip.antt` states. Assumes nothing.
use mathlib.Core.Path.{◌≡◌, refl, sym, ap, ◌∙◌}
use mathlib.Core.List.{List, [], ◌++◌, append-nil}
use mathlib.Core.Bool.{Bool, true, false, ◌&&◌, ◌||◌}
use Prim.Native.Nat.{ℕ, zero, suc, ◌+◌, ◌*◌, ◌≤◌, ◌<◌, ◌^◌}
use borrow.Author.Tests.{eqb-true}
use native.Mathlib.Omega.{arith}
use lib.Dec.{eqb}
use lib.ListN.{length, take, drop}
use lib.Seq.{sets, drop-drop, take_at, drop_at}
use Rattle.wire.proofs.Both.{and_first, and_second}
use Rattle.wire.proofs.Splice.{drop_take_all, sets_front}
use Rattle.layout.specs.declared.Header.{Header}
use Rattle.layout.specs.declared.Slot.{Slot}
use Rattle.std.specs.Prelude.{Ok}
use Rattle.layout.specs.Slot.{slot_size, slot_of, decode_slots, allowed_slots}
use Rattle.layout.specs.Layout.{Layout, magic_one, magic_three, plain_pattern, hole_pattern, decode_header, stripe_count, slot_start, decode_layout, encode_layout, with_holes, known_version, known_pattern, possible_stripe, good_header, few_slots, layout_size, layout_rules, accepted_layout}
use Rattle.layout.specs.Answers.{read_slot}
use Rattle.layout.proofs.HeaderLaws.{FitHeader}
use Rattle.layout.proofs.LayoutLaws.{Writable, accepted_writable, rules_slots, read_back, written_back, written_accepted, length_layout, header_is, slots_are, slots_many, slot_is, read_accepted, read_taken}
use Rattle.layout_write.specs.Writer.{slot_read_fields, given_slots, given_layout, writable, write_layout, write_bytes}
use Rattle.layout_write.specs.RoundTrip.{slots_read, pool_read, DeclaredWidths, EveryLayoutBack, ReadsBack, EveryWriteBack}
use Rattle.layout_write.proofs.GivenLaws.{length_given}
use Rattle.layout_write.proofs.SlotNumbers.{fields_of, length_fields, givens_fields, all_fields, fields_given, fit_givens}
use Rattle.layout_write.proofs.WriteLaws.{write_facts, facts_write, write_is, write_took}

-- ## What the readers give

-- the pool name that is read is that of the layout
pool_is : (l : List ℕ) → pool_read (decode_header l) l ≡ (decode_layout l).pool
unfolding pool_read decode_header decode_layout slot_start
pool_is l = refl

module _ (l : List ℕ) (a : accepted_layout l ≡ true) where
  slots_from : (k j : ℕ) → j + k ≤ stripe_count l → slots_read l k j ≡ fields_of (decode_slots k (drop (slot_size * j) (drop (slot_start l) l)))
  unfolding slots_read decode_slots fields_of slot_read_fields slot_of
  slots_from zero j h = refl
  slots_from (suc k) j h =
      let area : List ℕ = drop (slot_start l) l in
      let e : Ok (slot_of area j) ≡ read_slot l j =
      slot_is l j (stripe_count l) (slot_start l) (slot_of area j) a refl refl (omega arith) (rw (drop_take_all (slot_start l) l)) in
      let m : slot_size * suc j ≡ slot_size * j + slot_size = omega arith in
      rw (← e, slots_from k (suc j) (omega arith), m, drop-drop slot_size (slot_size * j) area)

  -- the numbers that are read slot by slot are those of the layout's slots
  slots_read_lem : slots_read l (stripe_count l) 0 ≡ fields_of (decode_layout l).slots
  slots_read_lem = slots_from (stripe_count l) 0 (omega arith) ∙ ap fields_of (sym (slots_are l))

-- ## What was read, written

module _ (L : Layout) (w : Writable L) where
  taken : writable L.header (length L.slots) L.pool (fields_of L.slots) ≡ true
  taken =
      let t = rules_slots L.header L.slots w.rules in
      facts_write L.header (length L.slots) L.pool (fields_of L.slots) (length_fields L.slots)
      (all_fields (with_holes L.header) L.slots t w.fits) w.pool
      (rw (givens_fields (with_holes L.header) L.slots t w.fits) w.rules)

  given_is : given_layout L.header (length L.slots) L.pool (fields_of L.slots) ≡ L
  unfolding given_layout
  given_is =
      let e : given_slots (fields_of L.slots) (length L.slots) 0 ≡ L.slots =
      givens_fields (with_holes L.header) L.slots (rules_slots L.header L.slots w.rules) w.fits in
      λ i. record { header = L.header; pool = L.pool; slots = e i }

  -- a layout that can be written, handed to the writer field by field
  fields_written : (dest : List ℕ) → length (encode_layout L) ≤ length dest →
      (write_layout L.header (length L.slots) L.pool (fields_of L.slots) dest ≡ Ok (length (encode_layout L)))
      × (write_bytes L.header (length L.slots) L.pool (fields_of L.slots) dest ≡ sets dest 0 (encode_layout L))
  fields_written dest k =
      let z = length_layout L w.pool in
      let r = write_is L.header (length L.slots) L.pool (fields_of L.slots) dest taken (rw (← z) k) in
      (r.0 ∙ ap (λ (b : ℕ). Ok b) (sym z), r.1 ∙ ap (λ (M : Layout). sets dest 0 (encode_layout M)) given_is)

pub every_layout_back : EveryLayoutBack
unfolding EveryLayoutBack
every_layout_back l h n dest b e k =
    let t = read_taken l h n e in
    let L : Layout = decode_layout l in
    let W : List ℕ = sets dest 0 l in
    let q : encode_layout L ≡ l = written_back l b t.0 in
    let f = fields_written L (accepted_writable l b t.0) dest (rw q k) in
    let hd : L.header ≡ h = header_is l ∙ t.1 in
    let ct : length L.slots ≡ n = slots_many l ∙ t.2 in
    let pl : pool_read h l ≡ L.pool = rw (← t.1) (pool_is l) in
    let nm : slots_read l n 0 ≡ fields_of L.slots = rw (← t.2) (slots_read_lem l t.0) in
    let x : write_bytes h n (pool_read h l) (slots_read l n 0) dest ≡ l ++ drop (length l) dest =
    rw (pl, nm, ← hd, ← ct) (f.1 ∙ ap (λ (m : List ℕ). sets dest 0 m) q) ∙ sets_front l dest k in
    record {
      answer = rw (pl, nm, ← hd, ← ct) (f.0 ∙ ap (λ (m : List ℕ). Ok (length m)) q);
      layout = ap (λ (m : List ℕ). take (length l) m) x ∙ take_at l (drop (length l) dest) (length l) refl;
      rest = ap (λ (m : List ℕ). drop (length l) m) x ∙ drop_at l (drop (length l) dest) (length l) refl;
    }

-- ## What was written, read

either : (m a b : ℕ) → (eqb m a || eqb m b) ≡ true → a < 2 ^ 32 → b < 2 ^ 32 → m < 2 ^ 32
either m a b e p q = go (eqb m a) refl e
  where
    go : (t : Bool) → eqb m a ≡ t → (t || eqb m b) ≡ true → m < 2 ^ 32
    go true h e = omega (arith, eqb-true m a h)
    go false h e = omega (arith, eqb-true m b e)

-- a header that the rules take, of the declared widths, fits
header_fits : (h : Header) (ss : List Slot) → DeclaredWidths h → layout_rules h ss ≡ true → FitHeader h
unfolding layout_rules good_header known_version known_pattern
header_fits h ss d r =
    let v : Bool = eqb h.magic magic_one || eqb h.magic magic_three in
    let p : Bool = eqb h.pattern plain_pattern || eqb h.pattern hole_pattern in
    let s : Bool = possible_stripe h.stripe in
    let g : (v && p && s) ≡ true = and_first (v && p && s) (few_slots (length ss)) (and_first (v && p && s && few_slots (length ss)) (allowed_slots (with_holes h) ss) r) in
    let k : (v && p) ≡ true = and_first (v && p) s g in
    record {
      magic = either h.magic magic_one magic_three (and_first v p k) (omega arith) (omega arith);
      pattern = either h.pattern plain_pattern hole_pattern (and_second v p k) (omega arith) (omega arith);
      oid = d.oid;
      seq = d.seq;
      stripe = d.stripe;
      generation = d.generation;
    }

-- a layout that is handed to the writer and taken can be written
given_writable : (h : Header) (n : ℕ) (pool numbers : List ℕ) → DeclaredWidths h → writable h n pool numbers ≡ true → Writable (given_layout h n pool numbers)
unfolding given_layout
given_writable h n pool numbers d t =
    let f = write_facts h n pool numbers t in
    let ss : List Slot = given_slots numbers n 0 in
    record {
      header = header_fits h ss d f.rules;
      fits = fit_givens (with_holes h) numbers n 0 (rules_slots h ss f.rules);
      pool = f.pool_fits;
      rules = f.rules;
    }

-- the bytes of a layout that can be written, read back
layout_read : (L : Layout) → Writable L → ReadsBack L.header (length L.slots) L.pool (fields_of L.slots) (encode_layout L)
layout_read L w =
    let l : List ℕ = encode_layout L in
    let a = written_accepted L w in
    let e : decode_layout l ≡ L = rw (append-nil l) at (read_back L w []) in
    let hd : decode_header l ≡ L.header = sym (header_is l) ∙ ap (λ (M : Layout). M.header) e in
    let ct : stripe_count l ≡ length L.slots = sym (slots_many l) ∙ ap (λ (M : Layout). length M.slots) e in
    record {
      header = sym (read_accepted l L.header (length L.slots) a (sym hd) (sym ct));
      pool_name = ap (λ (x : Header). pool_read x l) (sym hd) ∙ pool_is l ∙ ap (λ (M : Layout). M.pool) e;
      slots = ap (λ (n : ℕ). slots_read l n 0) (sym ct) ∙ slots_read_lem l a ∙ ap (λ (M : Layout). fields_of M.slots) e;
    }

pub every_write_back : EveryWriteBack
unfolding EveryWriteBack given_layout
every_write_back h n pool numbers dest b d e =
    let t = write_took h n pool numbers dest b e in
    let f = write_facts h n pool numbers t.0 in
    let L : Layout = given_layout h n pool numbers in
    let l : List ℕ = encode_layout L in
    let w = given_writable h n pool numbers d t.0 in
    let ct : length (given_slots numbers n 0) ≡ n = length_given numbers n 0 in
    let z : length l ≡ b = length_layout L w.pool ∙ ap (λ (k : ℕ). layout_size h.magic k) ct ∙ sym t.2 in
    let x : take b (write_bytes h n pool numbers dest) ≡ l =
    ap (λ (m : List ℕ). take b m) ((write_is h n pool numbers dest t.0 t.1).1 ∙ sets_front l dest (omega (arith, t.1, t.2))) ∙ take_at l (drop (length l) dest) b z in
    let r = layout_read L w in
    record {
      header = rw x (r.header ∙ ap (λ (k : ℕ). Ok (h, k)) ct);
      pool_name = rw x r.pool_name;
      slots = rw x (ap (λ (k : ℕ). slots_read l k 0) (sym ct) ∙ r.slots ∙ fields_given n numbers f.even f.given);
    }
