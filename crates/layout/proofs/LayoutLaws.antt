-- Laws of layouts: what is accepted, case by case and as facts, and the round trips. Assumes nothing.
use mathlib.Core.Path.{◌≡◌, refl, sym, ap, ◌∙◌}
use mathlib.Core.List.{List, [], ◌∷◌, ◌++◌, append_assoc, append-nil}
use mathlib.Core.Bool.{Bool, true, false, cond, ◌&&◌}
use Prim.Native.Nat.{ℕ, zero, suc, ◌+◌, ◌-◌, ◌*◌, ◌/◌, ◌≤◌, ◌<◌}
use borrow.Author.Tests.{eq-eqb, ne_eqb, le-leb, lt-ltb, le-ltb, ltb-true, eqb-true, leb-true}
use native.Mathlib.Omega.{arith}
use lib.Dec.{eqb, leb, ltb}
use lib.ListN.{length, get_or, take, drop, set, length-append, length-drop, length-set, take-append-drop}
use lib.Seq.{sets, length-sets, take_all, take-add, drop_at, take_at, length-take-le}
use Rattle.wire.specs.Numbers.{le, bytes}
use Rattle.wire.proofs.Both.{and_first, and_second, and_both}
use borrow.Rule.Slice.PartMut.{put_mid}
use Rattle.wire.proofs.Splice.{sets_mid, sets_whole, drop_take_all, put_sets}
use Rattle.wire.proofs.NumberLaws.{Bytes, bytes_drop, length_bytes}
use Rattle.layout.specs.declared.Header.{Header}
use Rattle.layout.specs.declared.Slot.{Slot}
use Rattle.layout.specs.declared.Slot.TheVariants.{Hole}
use Rattle.std.specs.Prelude.{Result, Ok, Err}
use Rattle.refusals.specs.Numbers.{number}
use Rattle.refusals.specs.declared.Refusal.{Refusal}
use Rattle.refusals.specs.declared.Refusal.TheVariants.{BadLayout, NoPlace}
use Rattle.layout.specs.Slot.{slot_size, slot_of, encode_slot, decode_slots, encode_slots, allowed_slot, allowed_slots, same_slot, same_slots}
use Rattle.layout.specs.Layout.{Layout, plain_header, pool_header, header_size, decode_header, encode_header, stripe_count, slot_start, decode_layout, encode_layout, generation_at, next_generation, at_generation, generation_with, restriped, changed, known_version, known_pattern, good_header, with_holes, max_slots, few_slots, layout_size, exact_length, layout_rules, accepted_layout}
use Rattle.layout.specs.Answers.{read_layout, read_slot, rewrite_answer, rewrite_bytes}
use Rattle.layout.proofs.SlotLaws.{FitSlot, FitSlots, slots_fit, fit_set, length_slot, length_slots, length_encode_slots, encode_set, slots_at, slots_written_back, slots_read_back}
use Rattle.layout.proofs.StripeLaws.{slots_changed, restriped_same, generation_small}
use Rattle.layout.proofs.HeaderLaws.{FitHeader, fit_generation, header_fits, size_least, size_most, length_header, header_written_back, header_read_back, count_read_back}

-- ## What is accepted

module _ (l : List ℕ) where
  pub start_least : {h : ℕ} → h ≡ slot_start l → plain_header ≤ h
  unfolding slot_start
  start_least e = rw e (size_least (le 4 l))

  pub start_most : {h : ℕ} → h ≡ slot_start l → h ≤ pool_header
  unfolding slot_start
  start_most e = rw e (size_most (le 4 l))

  pub exact_short : length l < plain_header → false ≡ exact_length l
  unfolding exact_length layout_size
  exact_short h =
      let m : ℕ = header_size (le 4 l) + slot_size * stripe_count l in
      rw (ne_eqb (length l) m (λ e. omega (arith, size_least (le 4 l))))

  pub exact_is : (h n : ℕ) → h ≡ slot_start l → n ≡ stripe_count l → eqb (length l) (h + slot_size * n) ≡ exact_length l
  unfolding exact_length layout_size slot_start
  exact_is h n p q = rw (p, q)

  pub accepted_length : exact_length l ≡ false → false ≡ accepted_layout l
  unfolding accepted_layout
  accepted_length h = rw h

  pub exact_size : exact_length l ≡ true → length l ≡ slot_start l + slot_size * stripe_count l
  unfolding exact_length layout_size slot_start
  exact_size x = eqb-true (length l) (header_size (le 4 l) + slot_size * stripe_count l) x

  pub exact_long : exact_length l ≡ true → plain_header ≤ length l
  exact_long x = omega (arith, exact_size x, start_least refl)

  -- the slot area has room for every slot
  pub area_long : (start n : ℕ) → exact_length l ≡ true → start ≡ slot_start l → n ≡ stripe_count l →
      slot_size * n ≤ length (take (length l - start) (drop start l))
  area_long start n x b q =
      let z : length l ≡ start + slot_size * n = rw (b, q) (exact_size x) in
      rw (drop_take_all start l, length-drop) (omega arith)

  pub accepted_header : (h : Header) → h ≡ decode_header l → exact_length l ≡ true → good_header h ≡ false → false ≡ accepted_layout l
  unfolding accepted_layout layout_rules
  accepted_header h e x k = rw (x, ← e, k)

  pub slots_many : length (decode_layout l).slots ≡ stripe_count l
  unfolding decode_layout
  slots_many = length_slots (stripe_count l) (drop (slot_start l) l)

  -- the slots of a layout are those of the part after its header
  pub slots_are : (decode_layout l).slots ≡ decode_slots (stripe_count l) (drop (slot_start l) l)
  unfolding decode_layout
  slots_are = refl

  -- the rules on a layout of exact length
  pub accepted_rules : (h : Header) (n : ℕ) → h ≡ decode_header l → n ≡ stripe_count l → exact_length l ≡ true →
      accepted_layout l ≡ (good_header h && leb n max_slots && allowed_slots (with_holes h) (decode_slots n (drop (slot_start l) l)))
  unfolding accepted_layout layout_rules few_slots
  accepted_rules h n e q x = rw (x, slots_many, slots_are, ← e, ← q)

  -- the slots of the part after the header are as many as there is room for
  pub area_slots : (start n : ℕ) → exact_length l ≡ true → start ≡ slot_start l → n ≡ stripe_count l →
      decode_slots (length (take (length l - start) (drop start l)) / slot_size) (take (length l - start) (drop start l)) ≡ decode_slots n (drop (slot_start l) l)
  area_slots start n x b q =
      let z : length l ≡ start + slot_size * n = rw (b, q) (exact_size x) in
      let k : (length l - start) / slot_size ≡ n = omega arith in
      rw (drop_take_all start l, length-drop, k, b)

  pub header_is : (decode_layout l).header ≡ decode_header l
  unfolding decode_layout
  header_is = refl

  -- the magic number stands first
  pub magic_read : (decode_header l).magic ≡ le 4 l
  unfolding decode_header
  magic_read = refl

  pub magic_of_lem : (h : Header) → decode_header l ≡ h → le 4 l ≡ h.magic
  magic_of_lem h e = sym magic_read ∙ ap (λ (x : Header). x.magic) e

  -- the rules, each met, are all that is asked
  pub accepted_from : length l ≡ slot_start l + slot_size * stripe_count l → good_header (decode_header l) ≡ true →
      stripe_count l ≤ max_slots → allowed_slots (with_holes (decode_header l)) (decode_layout l).slots ≡ true → accepted_layout l ≡ true
  accepted_from z k m t =
      accepted_rules (decode_header l) (stripe_count l) refl refl
      (sym (exact_is (slot_start l) (stripe_count l) refl refl) ∙ eq-eqb (length l) (slot_start l + slot_size * stripe_count l) z)
      ∙ rw (k, le-leb (stripe_count l) max_slots m, ← slots_are, t)

-- what an accepted layout is
pub record LayoutFacts (l : List ℕ) : Type 0 where
  pub size : length l ≡ slot_start l + slot_size * stripe_count l
  pub head : plain_header ≤ slot_start l
  pub few : stripe_count l ≤ max_slots
  pub known : good_header (decode_header l) ≡ true
  pub slots : allowed_slots (with_holes (decode_header l)) (decode_layout l).slots ≡ true

pub accepted_facts : (l : List ℕ) → accepted_layout l ≡ true → LayoutFacts l
unfolding accepted_layout layout_rules exact_length layout_size slot_start few_slots
accepted_facts l h =
    let v : Bool = good_header (decode_header l) in
    let n : ℕ = length (decode_layout l).slots in
    let s : Bool = allowed_slots (with_holes (decode_header l)) (decode_layout l).slots in
    let x : Bool = eqb (length l) (header_size (le 4 l) + slot_size * stripe_count l) in
    let r : (v && leb n max_slots && s) ≡ true = and_second x (v && leb n max_slots && s) h in
    let f : (v && leb n max_slots) ≡ true = and_first (v && leb n max_slots) s r in
    record {
      size = eqb-true (length l) (header_size (le 4 l) + slot_size * stripe_count l) (and_first x (v && leb n max_slots && s) h);
      head = size_least (le 4 l);
      few = rw (slots_many l) at (leb-true n max_slots (and_second v (leb n max_slots) f));
      known = and_first v (leb n max_slots) f;
      slots = and_second (v && leb n max_slots) s r;
    }

pub accepted_exact : (l : List ℕ) → accepted_layout l ≡ true → exact_length l ≡ true
unfolding accepted_layout
accepted_exact l a = and_first (exact_length l) (layout_rules (decode_header l) (decode_layout l).slots) a

pub accepted_long : (l : List ℕ) → accepted_layout l ≡ true → plain_header ≤ length l
accepted_long l a = exact_long l (accepted_exact l a)

pub accepted_size : (l : List ℕ) (start n : ℕ) → accepted_layout l ≡ true → start ≡ slot_start l → n ≡ stripe_count l → length l ≡ start + slot_size * n
accepted_size l start n a b q = rw (b, q) (exact_size l (accepted_exact l a))

-- ## The reader's answers

module _ (l : List ℕ) where
  pub read_refused : accepted_layout l ≡ false → Err BadLayout ≡ read_layout l
  unfolding read_layout
  read_refused h = rw h

  pub read_accepted : (h : Header) (n : ℕ) → accepted_layout l ≡ true → h ≡ decode_header l → n ≡ stripe_count l → Ok (h, n) ≡ read_layout l
  unfolding read_layout
  read_accepted h n a p q = rw (a, p, q)

  -- what a layout that was read is
  pub read_taken : (h : Header) (n : ℕ) → read_layout l ≡ Ok (h, n) → (accepted_layout l ≡ true) × (decode_header l ≡ h) × (stripe_count l ≡ n)
  unfolding read_layout
  read_taken h n = go (accepted_layout l) refl
    where
      go : (b : Bool) → accepted_layout l ≡ b → ◌≡◌ {A = Result (Header × ℕ) Refusal} (cond b (Ok (decode_header l, stripe_count l)) (Err BadLayout)) (Ok (h, n)) →
          (accepted_layout l ≡ true) × (decode_header l ≡ h) × (stripe_count l ≡ n)
      go true a e =
          let p : ◌≡◌ {A = Header × ℕ} (decode_header l, stripe_count l) (h, n) = cc in
          (a, ap (λ (x : Header × ℕ). x.0) p, ap (λ (x : Header × ℕ). x.1) p)
      go false a e = cc

  -- and why one was not
  pub read_bad : (e : Refusal) → read_layout l ≡ Err e → (accepted_layout l ≡ false) × (e ≡ BadLayout)
  unfolding read_layout
  read_bad r = go (accepted_layout l) refl
    where
      go : (b : Bool) → accepted_layout l ≡ b → ◌≡◌ {A = Result (Header × ℕ) Refusal} (cond b (Ok (decode_header l, stripe_count l)) (Err BadLayout)) (Err r) →
          (accepted_layout l ≡ false) × (r ≡ BadLayout)
      go true a e = cc
      go false a e = (a, cc)

  pub slot_bad : (j : ℕ) (e : Refusal) → read_layout l ≡ Err e → Err e ≡ read_slot l j
  unfolding read_slot
  slot_bad j e h = let b = read_bad e h in rw (b.0, b.1)

  pub slot_past : (j n : ℕ) → accepted_layout l ≡ true → n ≡ stripe_count l → n ≤ j → Err NoPlace ≡ read_slot l j
  unfolding read_slot
  slot_past j n h q k = rw (h, ← q, le-ltb j n k)

  pub slot_is : (j n start : ℕ) (s : Slot) → accepted_layout l ≡ true → n ≡ stripe_count l → start ≡ slot_start l → j < n →
      s ≡ slot_of (take (length l - start) (drop start l)) j → Ok s ≡ read_slot l j
  unfolding read_slot
  slot_is j n start s h q b k e =
      rw (h, ← q, lt-ltb j n k, slots_are, ← q, ← b, slots_at n j (drop start l) Hole k, e, drop_take_all start l)

  pub has_slot_is : (j start : ℕ) (t s : Slot) (b : Bool) → start ≡ slot_start l → t ≡ slot_of (take (length l - start) (drop start l)) j → b ≡ same_slot t s →
      b ≡ same_slot (slot_of (drop (slot_start l) l) j) s
  has_slot_is j start t s b e d q = rw (q, d, drop_take_all start l, e)

  -- the 24 bytes of slot j, written over
  pub placed : (start j : ℕ) (s : Slot) (part : List ℕ) → exact_length l ≡ true → start ≡ slot_start l → j < stripe_count l → part ≡ encode_slot s →
      put_mid (start + slot_size * j) (start + slot_size * j + slot_size - (start + slot_size * j)) l part ≡ sets l (slot_start l + slot_size * j) (encode_slot s)
  placed start j s part x b h e =
      let at : ℕ = start + slot_size * j in
      let z = exact_size l x in
      ap (λ (y : List ℕ). put_mid at (at + slot_size - at) l y) e
      ∙ put_sets at (at + slot_size) l (encode_slot s) (omega (arith, length_slot s)) (omega arith)
      ∙ ap (λ (n : ℕ). sets l (n + slot_size * j) (encode_slot s)) b

  pub place_long : (j : ℕ) (s : Slot) (y : List ℕ) → exact_length l ≡ true → y ≡ sets l (slot_start l + slot_size * j) (encode_slot s) → plain_header ≤ length y
  place_long j s y x e = rw (e, length-sets l (slot_start l + slot_size * j) (encode_slot s)) (exact_long l x)

  -- what may not be rewritten is 13, whatever the index
  pub rewrite_bad : (j : ℕ) (s : Slot) → (accepted_layout l && allowed_slot (with_holes (decode_header l)) s) ≡ false →
      (13 ≡ rewrite_answer l j s) × (l ≡ rewrite_bytes l j s)
  unfolding rewrite_answer rewrite_bytes
  rewrite_bad j s h = (rw h, rw h)

  pub rewrite_refused : (j : ℕ) (s : Slot) (e : Refusal) → read_layout l ≡ Err e → (number e ≡ rewrite_answer l j s) × (l ≡ rewrite_bytes l j s)
  rewrite_refused j s e h = let b = read_bad e h in let w = rewrite_bad j s (rw (b.0)) in (rw (b.1) (w.0), w.1)

  module _ (j n : ℕ) (s : Slot) (h : Header) (holes : Bool) (e : read_layout l ≡ Ok (h, n)) (w : holes ≡ with_holes h) where
    pub rewrite_unfit : false ≡ allowed_slot holes s → (13 ≡ rewrite_answer l j s) × (l ≡ rewrite_bytes l j s)
    rewrite_unfit t = let a = read_taken h n e in rewrite_bad j s (rw (a.0, a.1, ← w, ← t))

    module _ (t : true ≡ allowed_slot holes s) where
      pub rewrite_past : n ≤ j → (16 ≡ rewrite_answer l j s) × (l ≡ rewrite_bytes l j s)
      unfolding rewrite_answer rewrite_bytes
      rewrite_past k =
          let a = read_taken h n e in
          (rw (a.0, a.1, ← w, ← t, a.2, le-ltb j n k), rw (a.0, a.1, ← w, ← t, a.2, le-ltb j n k))

      pub rewrite_done : (m : List ℕ) → j < n → m ≡ encode_layout (changed (decode_layout l) j s) →
          (0 ≡ rewrite_answer l j s) × (m ≡ rewrite_bytes l j s)
      unfolding rewrite_answer rewrite_bytes
      rewrite_done m k q =
          let a = read_taken h n e in
          (rw (a.0, a.1, ← w, ← t, a.2, lt-ltb j n k), rw (a.0, a.1, ← w, ← t, a.2, lt-ltb j n k, q))

-- ## Read and written

-- a layout of exact length, written from what was read of it, is the same bytes
pub exact_back : (l : List ℕ) → Bytes l → exact_length l ≡ true → encode_layout (decode_layout l) ≡ l
unfolding encode_layout decode_layout
exact_back l b x =
    let z = exact_size l x in
    let m = start_least l refl in
    let h : ℕ = slot_start l in
    let n : ℕ = stripe_count l in
    let e : plain_header + (h - plain_header) ≡ h = omega arith in
    rw (
      length_slots n (drop h l),
      header_written_back l b (omega arith),
      ← take-add plain_header (h - plain_header) l,
      e,
      slots_written_back n (drop h l) (bytes_drop h l b) (rw length-drop (omega arith)),
      take_all (slot_size * n) (drop h l) (rw length-drop (omega arith)),
      take-append-drop h l,
    )

-- what is written from what was read is the same bytes
pub written_back : (l : List ℕ) → Bytes l → accepted_layout l ≡ true → encode_layout (decode_layout l) ≡ l
written_back l b a = exact_back l b (accepted_exact l a)

-- the pool name is what the header's size leaves for it
pub pool_length : (l : List ℕ) → exact_length l ≡ true → length (decode_layout l).pool ≡ slot_start l - plain_header
unfolding decode_layout
pool_length l x =
    let z = exact_size l x in
    let m = start_least l refl in
    length-take-le (slot_start l - plain_header) (drop plain_header l) (rw length-drop (omega arith))

-- a layout that can be written: its numbers fit, its pool name is as long as the version says, and the rules hold
pub record Writable (L : Layout) : Type 0 where
  pub header : FitHeader L.header
  pub fits : FitSlots L.slots
  pub pool : length L.pool ≡ header_size L.header.magic - plain_header
  pub rules : layout_rules L.header L.slots ≡ true

-- an accepted layout is one that can be written
pub accepted_writable : (l : List ℕ) → Bytes l → accepted_layout l ≡ true → Writable (decode_layout l)
unfolding decode_layout decode_header slot_start accepted_layout
accepted_writable l b a =
    record {
      header = header_fits l b;
      fits = slots_fit (stripe_count l) (drop (slot_start l) l) (bytes_drop (slot_start l) l b);
      pool = pool_length l (accepted_exact l a);
      rules = and_second (exact_length l) (layout_rules (decode_header l) (decode_layout l).slots) a;
    }

pub rules_few : (h : Header) (ss : List Slot) → layout_rules h ss ≡ true → length ss ≤ max_slots
unfolding layout_rules few_slots
rules_few h ss r =
    let v : Bool = good_header h in
    leb-true (length ss) max_slots (and_second v (leb (length ss) max_slots) (and_first (v && leb (length ss) max_slots) (allowed_slots (with_holes h) ss) r))

pub rules_slots : (h : Header) (ss : List Slot) → layout_rules h ss ≡ true → allowed_slots (with_holes h) ss ≡ true
unfolding layout_rules
rules_slots h ss r = and_second (good_header h && few_slots (length ss)) (allowed_slots (with_holes h) ss) r

module _ (L : Layout) (w : Writable L) (r : List ℕ) where
  n : ℕ
  n = length L.slots

  head : List ℕ
  head = encode_header L.header n

  area : List ℕ
  area = encode_slots L.slots

  few : n ≤ max_slots
  unfolding n
  few = rules_few L.header L.slots w.rules

  spread : encode_layout L ++ r ≡ head ++ (L.pool ++ (area ++ r))
  unfolding encode_layout n head area
  spread = simp append_assoc

  header_back : decode_header (encode_layout L ++ r) ≡ L.header
  unfolding head
  header_back = rw (spread, header_read_back L.header n (L.pool ++ (area ++ r)) w.header)

  count_back : stripe_count (encode_layout L ++ r) ≡ n
  unfolding head
  count_back = rw (spread, count_read_back L.header n (L.pool ++ (area ++ r)) (omega (arith, few)))

  start_back : slot_start (encode_layout L ++ r) ≡ header_size L.header.magic
  unfolding slot_start decode_header
  start_back = ap (λ (h : Header). header_size h.magic) header_back

  -- what is read from what was written is the same layout, whatever follows it
  pub read_back : decode_layout (encode_layout L ++ r) ≡ L
  unfolding decode_layout n head area
  read_back =
      let k : ℕ = header_size L.header.magic in
      let hp : length (head ++ L.pool) ≡ k = rw (length-append, length_header L.header n, w.pool) (omega (arith, size_least L.header.magic)) in
      let pool : take (k - plain_header) (drop plain_header (encode_layout L ++ r)) ≡ L.pool =
      rw (spread, drop_at head (L.pool ++ (area ++ r)) plain_header (length_header L.header n), take_at L.pool (area ++ r) (k - plain_header) w.pool) in
      let slots : decode_slots n (drop k (encode_layout L ++ r)) ≡ L.slots =
      rw (spread, ← append_assoc head L.pool (area ++ r), drop_at (head ++ L.pool) (area ++ r) k hp)
      (slots_read_back (with_holes L.header) L.slots r w.fits (rules_slots L.header L.slots w.rules)) in
      let pool' : take (slot_start (encode_layout L ++ r) - plain_header) (drop plain_header (encode_layout L ++ r)) ≡ L.pool = rw start_back pool in
      let slots' : decode_slots (stripe_count (encode_layout L ++ r)) (drop (slot_start (encode_layout L ++ r)) (encode_layout L ++ r)) ≡ L.slots =
      rw (start_back, count_back) slots in
      λ i. record { header = header_back i; pool = pool' i; slots = slots' i }

pub length_layout : (L : Layout) → length L.pool ≡ header_size L.header.magic - plain_header →
    length (encode_layout L) ≡ layout_size L.header.magic (length L.slots)
unfolding encode_layout layout_size
length_layout L p =
    rw (length-append, length-append, length_header L.header (length L.slots), p, length_encode_slots L.slots)
    (omega (arith, size_least L.header.magic))

-- and it is accepted
pub written_accepted : (L : Layout) → Writable L → accepted_layout (encode_layout L) ≡ true
unfolding accepted_layout exact_length n
written_accepted L w =
    let l : List ℕ = encode_layout L in
    let c : stripe_count l ≡ length L.slots = rw (append-nil l) at (count_back L w []) in
    let h : decode_header l ≡ L.header = rw (append-nil l) at (header_back L w []) in
    let d : decode_layout l ≡ L = rw (append-nil l) at (read_back L w []) in
    let m : le 4 l ≡ L.header.magic = magic_of_lem l L.header h in
    let z : length l ≡ layout_size (le 4 l) (stripe_count l) = rw (m, c) (length_layout L w.pool) in
    let r : layout_rules (decode_header l) (decode_layout l).slots ≡ true = rw (h, d) w.rules in
    rw (eq-eqb (length l) (layout_size (le 4 l) (stripe_count l)) z) r

-- ## A changed slot

pub allowed_set : (holes : Bool) (ss : List Slot) (j : ℕ) (s : Slot) → allowed_slots holes ss ≡ true → allowed_slot holes s ≡ true →
    allowed_slots holes (set ss j s) ≡ true
unfolding allowed_slots
allowed_set holes [] j s a t = refl
allowed_set holes (x ∷ ss) zero s a t = rw t (and_second (allowed_slot holes x) (allowed_slots holes ss) a)
allowed_set holes (x ∷ ss) (suc j) s a t =
    rw (and_first (allowed_slot holes x) (allowed_slots holes ss) a)
    (allowed_set holes ss j s (and_second (allowed_slot holes x) (allowed_slots holes ss) a) t)

-- the bytes of the layout with slot j set, its header as it was
pub slot_bytes : (L : Layout) (j : ℕ) (s : Slot) → j < length L.slots →
    encode_layout (record { header = L.header; pool = L.pool; slots = set L.slots j s }) ≡
    sets (encode_layout L) (plain_header + length L.pool + slot_size * j) (encode_slot s)
unfolding encode_layout
slot_bytes L j s h =
    let n : ℕ = length L.slots in
    let pre : List ℕ = encode_header L.header n ++ L.pool in
    let ss : List ℕ = encode_slots L.slots in
    let k : plain_header + length L.pool + slot_size * j ≡ length pre + slot_size * j = rw (length-append, length_header L.header n) in
    let m : slot_size * j + length (encode_slot s) ≤ length ss = omega (arith, length_slot s, length_encode_slots L.slots) in
    let e : sets (pre ++ (ss ++ [])) (length pre + slot_size * j) (encode_slot s) ≡ pre ++ (sets ss (slot_size * j) (encode_slot s) ++ []) =
    sets_mid pre [] (encode_slot s) ss (slot_size * j) m in
    rw (length-set L.slots j s, encode_set L.slots j s h, k) (sym (rw (append-nil ss, append-nil (sets ss (slot_size * j) (encode_slot s))) at e))

-- a layout's bytes in front of its generation, the generation's two, and those behind
ahead : Layout → List ℕ
ahead L =
    let h = L.header in
    bytes 4 h.magic ++ bytes 4 h.pattern ++ bytes 8 h.oid ++ bytes 8 h.seq ++ bytes 4 h.stripe ++ bytes 2 (length L.slots)

length_ahead : (L : Layout) → length (ahead L) ≡ generation_at
unfolding ahead
length_ahead L = simp (length-append, length_bytes)

apart : (L : Layout) → encode_layout L ≡ ahead L ++ (bytes 2 L.header.generation ++ (L.pool ++ encode_slots L.slots))
unfolding encode_layout encode_header ahead
apart L = simp append_assoc

-- the bytes of a layout of another generation: two others, at 30 and 31
pub generation_bytes : (L : Layout) (g : ℕ) →
    encode_layout (record { header = at_generation L.header g; pool = L.pool; slots = L.slots }) ≡ sets (encode_layout L) generation_at (bytes 2 g)
unfolding at_generation ahead
generation_bytes L g =
    let M : Layout = record { header = at_generation L.header g; pool = L.pool; slots = L.slots } in
    let pre : List ℕ = ahead L in
    let q : List ℕ = L.pool ++ encode_slots L.slots in
    let old : List ℕ = bytes 2 L.header.generation in
    let k : length pre + 0 ≡ generation_at = omega (arith, length_ahead L) in
    let m : length old ≡ length (bytes 2 g) = length_bytes 2 L.header.generation ∙ sym (length_bytes 2 g) in
    let e : sets (pre ++ (old ++ q)) (length pre + 0) (bytes 2 g) ≡ pre ++ (sets old 0 (bytes 2 g) ++ q) = sets_mid pre q (bytes 2 g) old 0 (omega arith) in
    let w : sets (pre ++ (old ++ q)) generation_at (bytes 2 g) ≡ pre ++ (bytes 2 g ++ q) = rw (k, sets_whole (bytes 2 g) old m) at e in
    apart M ∙ sym w ∙ ap (λ (l : List ℕ). sets l generation_at (bytes 2 g)) (sym (apart L))

-- the bytes of a changed layout: those of the slot and of the generation in place of the old ones
pub changed_bytes : (L : Layout) (j : ℕ) (s : Slot) → j < length L.slots →
    encode_layout (changed L j s) ≡
    sets (sets (encode_layout L) (plain_header + length L.pool + slot_size * j) (encode_slot s)) generation_at (bytes 2 (generation_with L (set L.slots j s)))
unfolding changed restriped
changed_bytes L j s h =
    generation_bytes (record { header = L.header; pool = L.pool; slots = set L.slots j s }) (generation_with L (set L.slots j s))
    ∙ ap (λ (l : List ℕ). sets l generation_at (bytes 2 (generation_with L (set L.slots j s)))) (slot_bytes L j s h)

pub length_changed : (L : Layout) (j : ℕ) (s : Slot) → j < length L.slots → length (encode_layout (changed L j s)) ≡ length (encode_layout L)
length_changed L j s h =
    let at : ℕ = plain_header + length L.pool + slot_size * j in
    rw (changed_bytes L j s h)
    (length-sets (sets (encode_layout L) at (encode_slot s)) generation_at (bytes 2 (generation_with L (set L.slots j s)))
    ∙ length-sets (encode_layout L) at (encode_slot s))

module _ (l : List ℕ) (j : ℕ) (s : Slot) (b : Bytes l) (x : exact_length l ≡ true) (h : j < stripe_count l) where
  -- whether the slots stay is whether slot j does
  slot_stays : same_slots (decode_layout l).slots (set (decode_layout l).slots j s) ≡ same_slot (slot_of (drop (slot_start l) l) j) s
  slot_stays =
      slots_changed (decode_layout l).slots j s (rw (slots_many l) h)
      ∙ ap (λ (t : Slot). same_slot t s) (ap (λ (ss : List Slot). get_or ss j Hole) (slots_are l) ∙ slots_at (stripe_count l) j (drop (slot_start l) l) Hole h)

  -- an equal slot: no byte changes
  pub stays_spliced : true ≡ same_slot (slot_of (drop (slot_start l) l) j) s → l ≡ encode_layout (changed (decode_layout l) j s)
  unfolding changed
  stays_spliced e = sym (ap encode_layout (restriped_same (decode_layout l) (set (decode_layout l).slots j s) (slot_stays ∙ sym e)) ∙ exact_back l b x)

  -- another slot: its 24 bytes, and the two of the generation
  pub spliced : (g n : ℕ) (y z : List ℕ) → false ≡ same_slot (slot_of (drop (slot_start l) l) j) s → g ≡ le 2 (drop generation_at l) →
      y ≡ sets l (slot_start l + slot_size * j) (encode_slot s) → n ≡ next_generation g → z ≡ sets y generation_at (bytes 2 n) →
      z ≡ encode_layout (changed (decode_layout l) j s)
  unfolding generation_with decode_header
  spliced g n y z e eg ey en ez =
      let L : Layout = decode_layout l in
      let p = pool_length l x in
      let m = start_least l refl in
      let q : plain_header + length L.pool ≡ slot_start l = omega arith in
      let t : L.header.generation ≡ g = ap (λ (h : Header). h.generation) (header_is l) ∙ sym eg in
      rw (changed_bytes L j s (rw (slots_many l) h), q, exact_back l b x, slot_stays, ← e, t, ez, ey, en)

changed_writable : (L : Layout) (j : ℕ) (s : Slot) → Writable L → FitSlot s → allowed_slot (with_holes L.header) s ≡ true → Writable (changed L j s)
unfolding changed restriped at_generation layout_rules good_header known_version known_pattern with_holes
changed_writable L j s w f t =
    let few : Bool = good_header L.header && few_slots (length L.slots) in
    record {
      header = fit_generation L.header (generation_with L (set L.slots j s)) w.header (generation_small L (set L.slots j s) w.header.generation);
      fits = fit_set L.slots j s w.fits f;
      pool = w.pool;
      rules =
          rw (length-set L.slots j s)
          (and_both few (allowed_slots (with_holes L.header) (set L.slots j s)) (and_first few (allowed_slots (with_holes L.header) L.slots) w.rules)
          (allowed_set (with_holes L.header) L.slots j s (rules_slots L.header L.slots w.rules) t));
    }

-- a rewrite that is not refused
pub rewrite_taken : (l : List ℕ) (j : ℕ) (s : Slot) → rewrite_answer l j s ≡ 0 →
    (accepted_layout l ≡ true) × (allowed_slot (with_holes (decode_header l)) s ≡ true) × (j < stripe_count l)
unfolding rewrite_answer
rewrite_taken l j s = go (accepted_layout l) (allowed_slot (with_holes (decode_header l)) s) (ltb j (stripe_count l)) refl
  where
    go : (a t u : Bool) → ltb j (stripe_count l) ≡ u → cond {A = ℕ} (a && t) (cond u 0 16) 13 ≡ 0 → (a ≡ true) × (t ≡ true) × (j < stripe_count l)
    go true true true q e = (refl, refl, ltb-true j (stripe_count l) q)
    go true true false q e = absurd (omega (arith, e))
    go true false u q e = absurd (omega (arith, e))
    go false t u q e = absurd (omega (arith, e))

-- the bytes of a rewrite: the slot's 24 and those at 30 and 31
pub rewrite_splices : (l : List ℕ) (j : ℕ) (s : Slot) → Bytes l → rewrite_answer l j s ≡ 0 → same_slot (slot_of (drop (slot_start l) l) j) s ≡ false →
    rewrite_bytes l j s ≡ sets (sets l (slot_start l + slot_size * j) (encode_slot s)) generation_at (bytes 2 (next_generation (le 2 (drop generation_at l))))
unfolding rewrite_bytes
rewrite_splices l j s b e d =
    let t = rewrite_taken l j s e in
    rw (eq-eqb (rewrite_answer l j s) 0 e) (sym (spliced l j s b (accepted_exact l t.0) t.2 _ _ _ _ (sym d) refl refl refl refl))

-- "unless the slot stays as it was": then no byte changes
pub rewrite_stays : (l : List ℕ) (j : ℕ) (s : Slot) → Bytes l → rewrite_answer l j s ≡ 0 → same_slot (slot_of (drop (slot_start l) l) j) s ≡ true →
    rewrite_bytes l j s ≡ l
unfolding rewrite_bytes
rewrite_stays l j s b e d =
    let t = rewrite_taken l j s e in
    rw (eq-eqb (rewrite_answer l j s) 0 e) (sym (stays_spliced l j s b (accepted_exact l t.0) t.2 (sym d)))

-- and what was rewritten is accepted and reads back as the layout with that slot changed
pub rewritten : (l : List ℕ) (j : ℕ) (s : Slot) → Bytes l → FitSlot s → rewrite_answer l j s ≡ 0 →
    (accepted_layout (rewrite_bytes l j s) ≡ true) × (decode_layout (rewrite_bytes l j s) ≡ changed (decode_layout l) j s)
unfolding rewrite_bytes
rewritten l j s b f e =
    let t = rewrite_taken l j s e in
    let M : Layout = changed (decode_layout l) j s in
    let w = changed_writable (decode_layout l) j s (accepted_writable l b t.0) f (rw (header_is l) t.1) in
    rw (eq-eqb (rewrite_answer l j s) 0 e) (written_accepted M w, rw (append-nil (encode_layout M)) at (read_back M w []))
