-- Laws of the writer: what it takes, and the stores of header, pool name and slots. Assumes nothing.
use mathlib.Core.Path.{◌≡◌, refl, ap, ◌∙◌}
use mathlib.Core.List.{List, [], ◌∷◌, ◌++◌, append-nil}
use mathlib.Core.Bool.{Bool, true, false, cond, ◌&&◌}
use Prim.Native.Nat.{ℕ, ◌+◌, ◌-◌, ◌*◌, ◌≤◌, ◌<◌}
use borrow.Author.Tests.{eq-eqb, le-leb, lt-leb, eqb-true, leb-true}
use native.Mathlib.Omega.{arith}
use native.Mathlib.Numerals.{add-one}
use lib.Dec.{eqb, leb}
use lib.ListN.{length, length-append}
use lib.Seq.{sets, length-sets}
use Rattle.wire.proofs.Both.{and_first, and_second}
use Rattle.wire.proofs.Splice.{sets_at, put_sets}
use borrow.Rule.Slice.PartMut.{put_mid}
use Rattle.layout.specs.declared.Header.{Header}
use Rattle.std.specs.Prelude.{Result, Ok, Err}
use Rattle.refusals.specs.declared.Refusal.{Refusal}
use Rattle.refusals.specs.declared.Refusal.TheVariants.{BadLayout, TooShort}
use Rattle.layout.specs.Slot.{slot_size, allowed_slots, encode_slot, encode_slots}
use Rattle.layout.specs.Layout.{plain_header, header_size, encode_header, encode_layout, good_header, with_holes, max_slots, few_slots, layout_size, layout_rules}
use Rattle.layout_write.specs.Writer.{slot_numbers, given_at, slot_given, given_slots, all_given, given_layout, writable, write_layout, left_by, write_bytes}
use Rattle.layout.proofs.SlotLaws.{length_slot, length_encode_slots, encode_append}
use Rattle.layout.proofs.HeaderLaws.{length_header, size_least}
use Rattle.layout.proofs.LayoutLaws.{rules_few}
use Rattle.layout_write.proofs.GivenLaws.{length_given, given_more}

-- ## What the writer takes

module _ (h : Header) (n : ℕ) (pool numbers : List ℕ) where
  reorder : (a b c v f x : Bool) → ((a && b && c) && (v && f && x)) ≡ (f && a && c && v && (b && x))
  reorder a b c v f x = grind arith

  -- in the order in which the writer asks
  pub writable_rules : writable h n pool numbers ≡
      (leb n max_slots && eqb (length numbers) (slot_numbers * n) && eqb (length pool) (header_size h.magic - plain_header) && good_header h
      && (all_given numbers n 0 && allowed_slots (with_holes h) (given_slots numbers n 0)))
  unfolding writable layout_rules few_slots
  writable_rules =
      rw (length_given numbers n 0)
      (reorder (eqb (length numbers) (slot_numbers * n)) (all_given numbers n 0) (eqb (length pool) (header_size h.magic - plain_header)) (good_header h)
      (leb n max_slots) (allowed_slots (with_holes h) (given_slots numbers n 0)))

-- what the writer takes, as facts
pub record WriteFacts (h : Header) (n : ℕ) (pool numbers : List ℕ) : Type 0 where
  pub even : length numbers ≡ slot_numbers * n
  pub given : all_given numbers n 0 ≡ true
  pub pool_fits : length pool ≡ header_size h.magic - plain_header
  pub rules : layout_rules h (given_slots numbers n 0) ≡ true
  pub few : n ≤ max_slots

pub write_facts : (h : Header) (n : ℕ) (pool numbers : List ℕ) → writable h n pool numbers ≡ true → WriteFacts h n pool numbers
unfolding writable
write_facts h n pool numbers w =
    let a : Bool = eqb (length numbers) (slot_numbers * n) in
    let b : Bool = all_given numbers n 0 in
    let c : Bool = eqb (length pool) (header_size h.magic - plain_header) in
    let d : Bool = layout_rules h (given_slots numbers n 0) in
    let abc : (a && b && c) ≡ true = and_first (a && b && c) d w in
    let ab : (a && b) ≡ true = and_first (a && b) c abc in
    let r : d ≡ true = and_second (a && b && c) d w in
    record {
      even = eqb-true (length numbers) (slot_numbers * n) (and_first a b ab);
      given = and_second a b ab;
      pool_fits = eqb-true (length pool) (header_size h.magic - plain_header) (and_second (a && b) c abc);
      rules = r;
      few = few_of r;
    }
  where
    few_of : layout_rules h (given_slots numbers n 0) ≡ true → n ≤ max_slots
    few_of r = rw (length_given numbers n 0) at (rules_few h (given_slots numbers n 0) r)

pub facts_write : (h : Header) (n : ℕ) (pool numbers : List ℕ) → length numbers ≡ slot_numbers * n → all_given numbers n 0 ≡ true →
    length pool ≡ header_size h.magic - plain_header → layout_rules h (given_slots numbers n 0) ≡ true → writable h n pool numbers ≡ true
unfolding writable
facts_write h n pool numbers e g p r = rw (eq-eqb (length numbers) (slot_numbers * n) e, g, eq-eqb (length pool) (header_size h.magic - plain_header) p, r)

-- ## The stores

-- the destination with the first j slots from a place on
pub slots_done : List ℕ → List ℕ → ℕ → ℕ → List ℕ
slots_done d numbers start j = sets d start (encode_slots (given_slots numbers j 0))

module _ (d numbers : List ℕ) (start : ℕ) where
  pub slots_start : d ≡ slots_done d numbers start 0
  unfolding slots_done given_slots encode_slots
  slots_start = refl

  pub slots_step : (j : ℕ) (x y : List ℕ) → start + slot_size * j + slot_size ≤ length x → x ≡ slots_done d numbers start j →
      y ≡ encode_slot (slot_given (given_at numbers j)) →
      put_mid (start + slot_size * j) (start + slot_size * j + slot_size - (start + slot_size * j)) x y ≡ slots_done d numbers start (j + 1)
  unfolding slots_done encode_slots
  slots_step j x y h e f =
      let s : List ℕ = encode_slot (slot_given (given_at numbers j)) in
      let z : 0 + j ≡ j = omega arith in
      let k : length (encode_slots (given_slots numbers j 0)) ≡ slot_size * j = rw (length_encode_slots (given_slots numbers j 0), length_given numbers j 0) in
      let m : given_slots numbers (j + 1) 0 ≡ given_slots numbers j 0 ++ (slot_given (given_at numbers j) ∷ []) = rw (add-one j, given_more numbers j 0, z) in
      rw (
        f,
        put_sets (start + slot_size * j) (start + slot_size * j + slot_size) x s (omega (arith, length_slot (slot_given (given_at numbers j)))) h,
        e,
        sets_at (encode_slots (given_slots numbers j 0)) s d start (slot_size * j) k,
        m,
        encode_append (given_slots numbers j 0) (slot_given (given_at numbers j) ∷ []),
        append-nil s,
      )

  pub slots_length : (j : ℕ) (x : List ℕ) → x ≡ slots_done d numbers start j → length x ≡ length d
  unfolding slots_done
  slots_length j x e = ap length e ∙ length-sets d start (encode_slots (given_slots numbers j 0))

  pub slots_end : (j n : ℕ) (x : List ℕ) → x ≡ slots_done d numbers start j → j ≤ n → n ≤ j → x ≡ sets d start (encode_slots (given_slots numbers n 0))
  unfolding slots_done
  slots_end j n x e h k = let q : n ≡ j = omega arith in rw q e

-- ## The writer's answers

module _ (h : Header) (n : ℕ) (pool numbers dest : List ℕ) where
  pub write_bad : writable h n pool numbers ≡ false → (Err BadLayout ≡ write_layout h n pool numbers dest) × (dest ≡ write_bytes h n pool numbers dest)
  unfolding write_layout write_bytes left_by
  write_bad w = (rw w, rw w)

  pub write_short : (b : ℕ) → writable h n pool numbers ≡ true → b ≡ header_size h.magic → length dest < b + slot_size * n →
      (Err TooShort ≡ write_layout h n pool numbers dest) × (dest ≡ write_bytes h n pool numbers dest)
  unfolding write_layout write_bytes left_by layout_size
  write_short b w e k =
      let t : leb (header_size h.magic + slot_size * n) (length dest) ≡ false = lt-leb (header_size h.magic + slot_size * n) (length dest) (rw (← e) k) in
      (rw (w, t), rw (w, t))

  pub write_done : (b : ℕ) (x y z : List ℕ) → writable h n pool numbers ≡ true → b ≡ header_size h.magic → b + slot_size * n ≤ length dest →
      x ≡ sets dest 0 (encode_header h n) → y ≡ sets x plain_header pool → z ≡ sets y b (encode_slots (given_slots numbers n 0)) →
      (Ok (b + slot_size * n) ≡ write_layout h n pool numbers dest) × (z ≡ write_bytes h n pool numbers dest)
  unfolding write_layout write_bytes left_by layout_size encode_layout given_layout
  write_done b x y z w e k p q r =
      let t : leb (header_size h.magic + slot_size * n) (length dest) ≡ true = le-leb (header_size h.magic + slot_size * n) (length dest) (rw (← e) k) in
      let f = write_facts h n pool numbers w in
      let H : List ℕ = encode_header h n in
      let S : List ℕ = encode_slots (given_slots numbers n 0) in
      let l : length (H ++ pool) ≡ b = rw (length-append, length_header h n, f.pool_fits, e) (omega (arith, size_least h.magic)) in
      let z0 : 0 + b ≡ b = omega arith in
      let u : sets (sets dest 0 (H ++ pool)) b S ≡ sets dest 0 ((H ++ pool) ++ S) = rw z0 at (sets_at (H ++ pool) S dest 0 b l) in
      (rw (w, t, e), rw (w, t, r, q, p, sets_at H pool dest 0 plain_header (length_header h n), u, length_given numbers n 0))

  pub write_is : writable h n pool numbers ≡ true → layout_size h.magic n ≤ length dest →
      (write_layout h n pool numbers dest ≡ Ok (layout_size h.magic n)) × (write_bytes h n pool numbers dest ≡ sets dest 0 (encode_layout (given_layout h n pool numbers)))
  unfolding write_layout write_bytes left_by
  write_is w k =
      let t : leb (layout_size h.magic n) (length dest) ≡ true = le-leb (layout_size h.magic n) (length dest) k in
      (rw (w, t), rw (w, t))

  -- the bytes that the writer says it wrote, of fields that it takes and into a destination with room
  pub write_took : (b : ℕ) → write_layout h n pool numbers dest ≡ Ok b →
      (writable h n pool numbers ≡ true) × (layout_size h.magic n ≤ length dest) × (b ≡ layout_size h.magic n)
  unfolding write_layout
  write_took b = go (writable h n pool numbers) (leb (layout_size h.magic n) (length dest)) refl refl
    where
      go : (u v : Bool) → writable h n pool numbers ≡ u → leb (layout_size h.magic n) (length dest) ≡ v →
          ◌≡◌ {A = Result ℕ Refusal} (cond u (cond v (Ok (layout_size h.magic n)) (Err TooShort)) (Err BadLayout)) (Ok b) →
          (writable h n pool numbers ≡ true) × (layout_size h.magic n ≤ length dest) × (b ≡ layout_size h.magic n)
      go true true p q e = (p, leb-true (layout_size h.magic n) (length dest) q, cc)
      go true false p q e = cc
      go false v p q e = cc
