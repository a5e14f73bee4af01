-- The stores of a row that is filled, and the first unused row. Assumes nothing.
use Prim.Native.Nat.{ℕ, zero, suc, ◌+◌, ◌-◌, ◌*◌, ◌/◌, ◌≤◌, ◌<◌}
use Rattle.std.specs.Prelude.{Option, Some, None}
use mathlib.Core.Path.{◌≡◌, refl, sym, ap, subst, ◌∙◌}
use mathlib.Core.List.{List, [], ◌∷◌, ◌++◌, append_assoc}
use mathlib.Core.Bool.{Bool, true, false, cond, not}
use native.Mathlib.Nat.{mul-div-le, mul-zero, mul-suc}
use native.Mathlib.Omega.{arith}
use lib.ListN.{length, take, drop, set, get_or, length-append, length-drop}
use lib.Seq.{sets, length-sets, drop-drop, length-take-le}
use borrow.Rule.Slice.PartMut.{put_mid}
use Rattle.wire.specs.Numbers.{bytes}
use Rattle.wire.specs.Rows.{rows}
use Rattle.wire.proofs.NumberLaws.{length_bytes}
use Rattle.wire.proofs.Splice.{sets_at, sets_whole, sets_front}
use Rattle.wire.proofs.RowLaws.{rows_at, rows_inside}
use Rattle.tables.specs.Bytes.{parent_size, object_size, layout_room, is_used, encode_owner}
use Rattle.tables.specs.declared.Owner.{Owner}
use Rattle.tables.proofs.AllLaws.{row_fits, part_length, part_is}
use Rattle.rules.specs.Search.{row_from}
use Rattle.search.specs.FirstRow.{free_row}
use Rattle.stores.proofs.StoreLaws.{length_owner, part_whole}
use Rattle.intake.specs.Reading.{first_unused, parent_from, object_from}
use Rattle.intake_close.specs.Closing.{self_in, claim_in, layout_in}

-- ## What is kept of an entry

pub self_length : (buf : List ℕ) → 208 ≤ length buf → length (self_in buf) ≡ 16
unfolding self_in
self_length buf h = length-take-le 16 (drop 168 buf) (rw length-drop (omega arith))

pub claim_length : (buf : List ℕ) → 208 ≤ length buf → length (claim_in buf) ≡ 16
unfolding claim_in
claim_length buf h = length-take-le 16 (drop 144 buf) (rw length-drop (omega arith))

pub layout_length_lem : (buf : List ℕ) (size : ℕ) → 208 + size ≤ length buf → length (layout_in buf size) ≡ size
unfolding layout_in
layout_length_lem buf size h = length-take-le size (drop 208 buf) (rw length-drop (omega arith))

-- ## A parent row

module _ (self layout : List ℕ) (w : Owner) (row : List ℕ) (s : length self ≡ 16) where
  -- what stands in front of the layout, and the layout
  written : List ℕ
  written = 1 ∷ (self ++ encode_owner w ++ bytes 2 (length layout) ++ layout)

  written_length : length written ≡ 27 + length layout
  unfolding written
  written_length = simp (length-append, s, length_owner, length_bytes) (omega arith)

  parent_is : parent_from self layout w.uid w.gid row ≡ written ++ drop (27 + length layout) row
  unfolding parent_from written encode_owner
  parent_is = simp append_assoc

  pub parent_length : length row ≡ parent_size → length layout ≤ layout_room → length (parent_from self layout w.uid w.gid row) ≡ parent_size
  parent_length h k = rw (parent_is, length-append, written_length, length-drop) (omega arith)

  pub parent_stores : (size : ℕ) (b c d e f : List ℕ) → length row ≡ parent_size → length layout ≡ size → size ≤ layout_room →
      b ≡ set row 0 1 → c ≡ sets b 1 self → d ≡ sets c 17 (encode_owner w) → e ≡ sets d 25 (bytes 2 size) → f ≡ sets e 27 layout →
      f ≡ parent_from self layout w.uid w.gid row
  unfolding written
  parent_stores size b c d e f h n k s1 s2 s3 s4 s5 =
      let W : List ℕ = encode_owner w in
      let N : List ℕ = bytes 2 (length layout) in
      let k1 : c ≡ sets row 0 (1 ∷ self) = rw (s2, s1) (sets_at (1 ∷ []) self row 0 1 refl) in
      let k2 : d ≡ sets row 0 (1 ∷ (self ++ W)) = rw (s3, k1) (sets_at (1 ∷ self) W row 0 17 (rw s refl)) in
      let k3 : e ≡ sets row 0 (1 ∷ (self ++ W ++ N)) = rw (s4, k2, ← n) (sets_at (1 ∷ (self ++ W)) N row 0 25 (simp (length-append, s, length_owner))) in
      let k4 : f ≡ sets row 0 (1 ∷ (self ++ W ++ N ++ layout)) = rw (s5, k3) (sets_at (1 ∷ (self ++ W ++ N)) layout row 0 27 (simp (length-append, s, length_owner, length_bytes))) in
      k4 ∙ sets_front written row (rw written_length (omega arith)) ∙ ap (λ (z : ℕ). written ++ drop z row) written_length ∙ sym parent_is

-- the same from the lent bytes, and as a part of its table
pub parent_put : (buf row : List ℕ) (size : ℕ) (w : Owner) (b c d e f : List ℕ) → length row ≡ parent_size → size ≤ layout_room → 208 + size ≤ length buf →
    b ≡ set row 0 1 → c ≡ sets b 1 (take (184 - 168) (drop 168 buf)) → d ≡ sets c 17 (encode_owner w) → e ≡ sets d 25 (bytes 2 size) →
    f ≡ sets e 27 (take (208 + size - 208) (drop 208 buf)) → f ≡ parent_from (self_in buf) (layout_in buf size) w.uid w.gid row
unfolding self_in layout_in
parent_put buf row size w b c d e f h k n s1 s2 s3 s4 s5 =
    parent_stores (self_in buf) (layout_in buf size) w row (self_length buf (omega arith)) size b c d e f h (layout_length_lem buf size n) k s1 s2 s3 s4
    (s5 ∙ ap (sets e 27) (part_is size 208 buf))

pub parent_in : (p buf : List ℕ) (size r : ℕ) (w : Owner) (z : List ℕ) → parent_size * r + parent_size ≤ length p → size ≤ layout_room → 208 + size ≤ length buf →
    z ≡ parent_from (self_in buf) (layout_in buf size) w.uid w.gid (take (parent_size * r + parent_size - parent_size * r) (drop (parent_size * r) p)) →
    put_mid (parent_size * r) (parent_size * r + parent_size - parent_size * r) p z
    ≡ sets p (parent_size * r) (parent_from (self_in buf) (layout_in buf size) w.uid w.gid (take parent_size (drop (parent_size * r) p)))
parent_in p buf size r w z h k n e =
    let l : length (layout_in buf size) ≡ size = layout_length_lem buf size n in
    part_whole (parent_size * r) parent_size p (parent_from (self_in buf) (layout_in buf size) w.uid w.gid (take parent_size (drop (parent_size * r) p))) z
    (e ∙ ap (parent_from (self_in buf) (layout_in buf size) w.uid w.gid) (part_is parent_size (parent_size * r) p))
    (parent_length (self_in buf) (layout_in buf size) w (take parent_size (drop (parent_size * r) p)) (self_length buf (omega arith)) (part_length parent_size r p h) (omega arith)) h

-- ## An object row

module _ (self claim : List ℕ) (w : Owner) (index : ℕ) (s : length self ≡ 16) (t : length claim ≡ 16) where
  object_is_lem : object_from self claim w.uid w.gid index ≡ 1 ∷ (self ++ bytes 4 index ++ encode_owner w ++ claim ++ 0 ∷ [])
  unfolding object_from encode_owner
  object_is_lem = simp append_assoc

  pub object_length : length (object_from self claim w.uid w.gid index) ≡ object_size
  object_length = rw object_is_lem (simp (length-append, s, t, length_owner, length_bytes))

  pub object_stores : (row b c d e f g : List ℕ) → length row ≡ object_size → b ≡ set row 0 1 → c ≡ sets b 1 self → d ≡ sets c 17 (bytes 4 index) →
      e ≡ sets d 21 (encode_owner w) → f ≡ sets e 29 claim → g ≡ set f 45 0 → g ≡ object_from self claim w.uid w.gid index
  object_stores row b c d e f g h s1 s2 s3 s4 s5 s6 =
      let W : List ℕ = encode_owner w in
      let I : List ℕ = bytes 4 index in
      let k1 : c ≡ sets row 0 (1 ∷ self) = rw (s2, s1) (sets_at (1 ∷ []) self row 0 1 refl) in
      let k2 : d ≡ sets row 0 (1 ∷ (self ++ I)) = rw (s3, k1) (sets_at (1 ∷ self) I row 0 17 (rw s refl)) in
      let k3 : e ≡ sets row 0 (1 ∷ (self ++ I ++ W)) = rw (s4, k2) (sets_at (1 ∷ (self ++ I)) W row 0 21 (simp (length-append, s, length_bytes))) in
      let k4 : f ≡ sets row 0 (1 ∷ (self ++ I ++ W ++ claim)) = rw (s5, k3) (sets_at (1 ∷ (self ++ I ++ W)) claim row 0 29 (simp (length-append, s, length_owner, length_bytes))) in
      let k5 : g ≡ sets row 0 (1 ∷ (self ++ I ++ W ++ claim ++ 0 ∷ [])) = rw (s6, k4) (sets_at (1 ∷ (self ++ I ++ W ++ claim)) (0 ∷ []) row 0 45 (simp (length-append, s, t, length_owner, length_bytes))) in
      k5 ∙ sets_whole (1 ∷ (self ++ I ++ W ++ claim ++ 0 ∷ [])) row (h ∙ sym object_length ∙ ap length object_is_lem) ∙ sym object_is_lem

pub object_put : (buf row : List ℕ) (w : Owner) (index : ℕ) (b c d e f g : List ℕ) → length row ≡ object_size → 208 ≤ length buf → b ≡ set row 0 1 →
    c ≡ sets b 1 (take (184 - 168) (drop 168 buf)) → d ≡ sets c 17 (bytes 4 index) → e ≡ sets d 21 (encode_owner w) →
    f ≡ sets e 29 (take (160 - 144) (drop 144 buf)) → g ≡ set f 45 0 → g ≡ object_from (self_in buf) (claim_in buf) w.uid w.gid index
unfolding self_in claim_in
object_put buf row w index b c d e f g h n s1 s2 s3 s4 s5 s6 =
    object_stores (self_in buf) (claim_in buf) w index (self_length buf n) (claim_length buf n) row b c d e f g h s1 s2 s3 s4 s5 s6

pub object_in_lem : (o buf : List ℕ) (r index : ℕ) (w : Owner) (z : List ℕ) → object_size * r + object_size ≤ length o → 208 ≤ length buf →
    z ≡ object_from (self_in buf) (claim_in buf) w.uid w.gid index →
    put_mid (object_size * r) (object_size * r + object_size - object_size * r) o z ≡ sets o (object_size * r) (object_from (self_in buf) (claim_in buf) w.uid w.gid index)
object_in_lem o buf r index w z h n e =
    part_whole (object_size * r) object_size o (object_from (self_in buf) (claim_in buf) w.uid w.gid index) z e
    (object_length (self_in buf) (claim_in buf) w index (self_length buf n) (claim_length buf n)) h

-- ## A table with a row changed

pub row_changed : (size r : ℕ) (l e : List ℕ) → 1 ≤ size → r < length l / size → length e ≡ size →
    rows size (length (sets l (size * r) e) / size) (sets l (size * r) e) ≡ set (rows size (length l / size) l) r e
row_changed size r l e h k n =
    let m : length (sets l (size * r) e) ≡ length l = length-sets l (size * r) e in
    let f : size * r + size ≤ length l = row_fits size r (length l) h k in
    let z : size * r + 0 ≡ size * r = omega arith in
    let q : size * (length l / size) ≤ length l = mul-div-le (length l) size in
    let i : rows size (length l / size) (sets l (size * r) e) ≡ set (rows size (length l / size) l) r (sets (get_or (rows size (length l / size) l) r []) 0 e) =
    subst (λ (a : ℕ). rows size (length l / size) (sets l a e) ≡ set (rows size (length l / size) l) r (sets (get_or (rows size (length l / size) l) r []) 0 e)) z
    (rows_inside size (length l / size) r 0 l e (omega arith) k q) in
    let w : sets (get_or (rows size (length l / size) l) r []) 0 e ≡ e = rw (rows_at size (length l / size) r l k) (sets_whole e _ (part_length size r l f ∙ sym n)) in
    rw (m, i, w)

-- ## The first unused row

-- what a search from row i on over n rows finds, where the first unused of them is k
Agrees : Option ℕ → ℕ → ℕ → ℕ → Type 0
Agrees None i n k = n ≤ k
Agrees (Some r) i n k = (r ≡ i + k) × (k < n)

later : (x : Option ℕ) (i n k : ℕ) → Agrees x (suc i) n k → Agrees x i (suc n) (suc k)
unfolding Agrees
later None i n k h = omega arith
later (Some r) i n k h = (omega (arith, h.0), omega (arith, h.1))

absent : (i : ℕ) → Agrees None i 0 0
unfolding Agrees
absent i = omega arith

here : (i n : ℕ) → Agrees (Some i) i (suc n) 0
unfolding Agrees
here i n = (omega arith, omega arith)

module _ (size : ℕ) (l : List ℕ) where
  agrees : (n i : ℕ) → Agrees (row_from n i (λ r. not (is_used (take size (drop (size * r) l))))) i n (first_unused (rows size n (drop (size * i) l)))
  unfolding row_from rows first_unused
  agrees zero i = absent i
  agrees (suc n) i = go (is_used (take size (drop (size * i) l))) (agrees n (suc i)) where
    on : drop size (drop (size * i) l) ≡ drop (size * suc i) l
    on = drop-drop size (size * i) l ∙ ap (λ (z : ℕ). drop z l) (sym (mul-suc size i))

    go : (t : Bool)
        → Agrees (row_from n (suc i) (λ r. not (is_used (take size (drop (size * r) l))))) (suc i) n (first_unused (rows size n (drop (size * suc i) l)))
        → Agrees (elim (not t) [ true ↦ Some i | false ↦ row_from n (suc i) (λ r. not (is_used (take size (drop (size * r) l)))) ]) i (suc n)
        (cond t (suc (first_unused (rows size n (drop size (drop (size * i) l))))) 0)
    go true h = rw on (later _ i n _ h)
    go false h = here i n

  all_rows : Agrees (free_row l size) 0 (length l / size) (first_unused (rows size (length l / size) l))
  unfolding free_row
  all_rows =
      let z : drop (size * 0) l ≡ l = rw mul-zero in
      subst (λ (m : List ℕ). Agrees (free_row l size) 0 (length l / size) (first_unused (rows size (length l / size) m))) z (agrees (length l / size) 0)

  pub free_none : free_row l size ≡ None → length l / size ≤ first_unused (rows size (length l / size) l)
  unfolding Agrees
  free_none e = subst (λ (x : Option ℕ). Agrees x 0 (length l / size) (first_unused (rows size (length l / size) l))) e all_rows

  pub free_is : (r : ℕ) → free_row l size ≡ Some r → (first_unused (rows size (length l / size) l) ≡ r) × (r < length l / size)
  unfolding Agrees
  free_is r e =
      let h : (r ≡ 0 + first_unused (rows size (length l / size) l)) × (first_unused (rows size (length l / size) l) < length l / size) =
      subst (λ (x : Option ℕ). Agrees x 0 (length l / size) (first_unused (rows size (length l / size) l))) e all_rows in
      (omega (arith, h.0), omega (arith, h.0, h.1))
