-- Notes of the lent room: one is made, the others stand, and a look by right notes is right. Assumes nothing.
use Rattle.std.specs.Prelude.{Option, None, Some, replicate}
use mathlib.Core.Path.{◌≡◌, refl, sym, ap, subst, ◌∙◌}
use mathlib.Core.Bool.{Bool, true, false, cond}
use mathlib.Core.List.{List, [], ◌∷◌, ◌++◌}
use Prim.Native.Nat.{ℕ, zero, suc, ◌+◌, ◌-◌, ◌*◌, ◌/◌, ◌%◌, ◌^◌, ◌≤◌, ◌<◌}
use native.Mathlib.Nat.{mod-eq_of_lt}
use native.Mathlib.Numerals.{add-one}
use native.Mathlib.Omega.{arith}
use borrow.Author.Tests.{eqb-true, eqb-false, ltb-true, ltb-false}
use lib.Dec.{eqb, ltb}
use lib.ListN.{length, take, drop}
use lib.Seq.{sets}
use Rattle.wire.specs.Numbers.{le, bytes}
use Rattle.wire.proofs.NumberLaws.{le_bytes, length_bytes}
use Rattle.wire.proofs.RowLaws.{drop_sets_le}
use Rattle.wire.proofs.Splice.{drop_sets_add, take_sets_le}
use Rattle.fid.specs.declared.MdtFid.{MdtFid}
use Rattle.index.specs.Entries.{place_size}
use Rattle.index.proofs.EntryLaws.{drop_sets}
use Rattle.names.specs.Rows.{Child, is_none, is_linked, child_at}
use Rattle.names.specs.Visible.{is_root, directory, max_levels}
use Rattle.names_judge.specs.Levels.{Ended, one_more, endless, ended, within, Known, Says, note_at, note_of, ended_of, visible_bit, Right, blank, told, Noted, look_child, look_row, look, noted, Few, Blank}
use Rattle.names_judge.specs.declared.Looked.{Looked}
use Rattle.names_judge.specs.declared.Looked.TheVariants.{Told, Above}
use Rattle.names_judge.proofs.LevelLaws.{stop_known, more_known, ended_known, few_levels, way_root, way_out, way_linked, way_none, way_up}
use Rattle.names_judge.proofs.LookLaws.{look_root, look_out, look_in_lem, row_inside, row_self}

-- ## A note that is made

pub bit_small : (v : Bool) → visible_bit v ≤ 1
unfolding visible_bit
bit_small true = omega arith
bit_small false = omega arith

note_small : (d : ℕ) (v : Bool) → d ≤ max_levels → note_of (Some (suc d, v)) < 2 ^ 32
unfolding note_of
note_small d v h = omega (arith, bit_small v)

pub note_put : (r d bit : ℕ) (v : Bool) (room new : List ℕ) → bit ≡ visible_bit v → new ≡ sets room (place_size * r) (bytes 4 (1 + 2 * d + bit)) →
    new ≡ noted r (Some (d, v)) room
unfolding noted note_of
note_put r d bit v room new p q = rw p at q

module _ (r : ℕ) (above : Ended) (room : List ℕ) where
  pub note_endless : above ≡ None → (None ≡ one_more above) × (room ≡ noted r (one_more above) room)
  unfolding one_more noted
  note_endless p = (rw p, rw p)

  pub note_ends : (d : ℕ) (v : Bool) (new : List ℕ) → above ≡ Some (d, v) → new ≡ noted r (Some (d + 1, v)) room →
      (Some (d + 1, v) ≡ one_more above) × (new ≡ noted r (one_more above) room)
  unfolding one_more
  note_ends d v new p q = (rw (p, add-one d), rw p (rw (add-one d) at q))

-- ## Notes of other rows stand

le_take : (n : ℕ) (l : List ℕ) → le n l ≡ le n (take n l)
unfolding le
le_take zero l = refl
le_take (suc n) [] = refl
le_take (suc n) (b ∷ l) = ap (λ (x : ℕ). b + 256 * x) (le_take n l)

-- a number before a store
pub le_before : (n i : ℕ) (l vs : List ℕ) → n ≤ i → le n (sets l i vs) ≡ le n l
le_before n i l vs h = le_take n (sets l i vs) ∙ ap (le n) (take_sets_le vs l n i h) ∙ sym (le_take n l)

note_same : (r v : ℕ) (room : List ℕ) → place_size * r + place_size ≤ length room → v < 2 ^ 32 → note_at r (sets room (place_size * r) (bytes 4 v)) ≡ v
unfolding note_at
note_same r v room h k =
    rw (
      drop_sets (bytes 4 v) room (place_size * r) (omega (arith, length_bytes 4 v)),
      le_bytes 4 v (drop (place_size * r + length (bytes 4 v)) room),
    )
    (mod-eq_of_lt k)

note_other : (r s v : ℕ) (room : List ℕ) → (s ≡ r → ⊥) → note_at s (sets room (place_size * r) (bytes 4 v)) ≡ note_at s room
unfolding note_at
note_other r s v room h = go (ltb s r) refl
  where
    go : (b : Bool) → ltb s r ≡ b → le 4 (drop (place_size * s) (sets room (place_size * r) (bytes 4 v))) ≡ le 4 (drop (place_size * s) room)
    go true e =
        let k : s < r = ltb-true s r e in
        let z : place_size * s + place_size * (r - s) ≡ place_size * r = omega arith in
        let p : drop (place_size * s) (sets room (place_size * r) (bytes 4 v)) ≡ sets (drop (place_size * s) room) (place_size * (r - s)) (bytes 4 v) =
        rw z at (drop_sets_add (bytes 4 v) room (place_size * s) (place_size * (r - s))) in
        ap (le 4) p ∙ le_before 4 (place_size * (r - s)) (drop (place_size * s) room) (bytes 4 v) (omega arith)
    go false e =
        let k : r ≤ s = ltb-false s r e in
        ap (le 4) (drop_sets_le (bytes 4 v) room (place_size * s) (place_size * r) (omega (arith, length_bytes 4 v, h)))

-- ## What a look says, by notes that are right

ended_of_lem : (d : ℕ) (v : Bool) → ended_of (note_of (Some (d, v))) ≡ Some (d, v)
unfolding ended_of note_of visible_bit
ended_of_lem d true =
    let p : (1 + 2 * d + 1 - 1) / 2 ≡ d = omega arith in
    let q : (1 + 2 * d + 1 - 1) % 2 ≡ 1 = omega arith in
    rw (p, q)
ended_of_lem d false =
    let p : (1 + 2 * d + 0 - 1) / 2 ≡ d = omega arith in
    let q : (1 + 2 * d + 0 - 1) % 2 ≡ 0 = omega arith in
    rw (p, q)

right_known : (cs : List Child) (f : MdtFid) (note : ℕ) → Right cs f note → (note ≡ 0 → ⊥) → Known cs f (ended_of note)
unfolding note_of
right_known cs f note (blank z) h = absurd (h z)
right_known cs f note (told None p k) h = absurd (h p)
right_known cs f note (told (Some (d, v)) p k) h = subst (λ (x : Ended). Known cs f x) (sym (ap ended_of p ∙ ended_of_lem d v)) k

module _ (cs : List Child) (room : List ℕ) (f : MdtFid) (n : Noted cs room) where
  row_says : (r : ℕ) → is_root f ≡ false → directory cs f ≡ Some r → Says cs f (look_row cs room r)
  unfolding Says look_row look_child Noted
  row_says r e d = go (eqb (note_at r room) 0) (is_linked (child_at cs r).link) (is_none (child_at cs r).up) refl refl refl
    where
      go : (a b c : Bool) → eqb (note_at r room) 0 ≡ a → is_linked (child_at cs r).link ≡ b → is_none (child_at cs r).up ≡ c →
          Says cs f (cond a (cond b (Told (Some (0, true))) (cond c (Told (Some (0, false))) (Above r (child_at cs r).up))) (Told (ended_of (note_at r room))))
      go false b c p q s =
          subst (λ (g : MdtFid). Known cs g (ended_of (note_at r room))) (row_self cs f r d)
          (right_known cs (child_at cs r).self (note_at r room) (n r (row_inside cs f r d)) (eqb-false (note_at r room) 0 p))
      go true true c p q s = stop_known cs f true (way_linked cs f r e d q)
      go true false true p q s = stop_known cs f false (way_none cs f r e d q s)
      go true false false p q s = (d, way_up cs f r e d q s)

  pub look_says : Says cs f (look cs room f)
  unfolding Says
  look_says = go (is_root f) (directory cs f) refl refl
    where
      go : (b : Bool) (x : Option ℕ) → is_root f ≡ b → directory cs f ≡ x → Says cs f (look cs room f)
      go true x p q = subst (λ (y : Looked). Says cs f y) (look_root cs room f p) (stop_known cs f true (way_root cs f p))
      go false None p q = subst (λ (y : Looked). Says cs f y) (look_out cs room f p q) (stop_known cs f false (way_out cs f p q))
      go false (Some r) p q = subst (λ (y : Looked). Says cs f y) (look_in_lem cs room f p r q) (row_says r p q)

-- as it comes back
pub look_told : (cs : List Child) (room : List ℕ) (f : MdtFid) (x y : Looked) → Noted cs room → x ≡ look cs room f → x ≡ y → Says cs f y
look_told cs room f x y n p q = subst (λ (z : Looked). Says cs f z) (sym p ∙ q) (look_says cs room f n)

-- ## The climb

pub climb_told : (cs : List Child) (f : MdtFid) (left : ℕ) (e : Ended) → Says cs f (Told e) → within left e ≡ ended left cs f
unfolding Says Known
climb_told cs f left e k = sym (k left)

module _ (cs : List Child) (f up : MdtFid) (r : ℕ) (s : Says cs f (Above r up)) where
  pub climb_stuck : (left : ℕ) → left ≡ 0 → None ≡ ended left cs f
  unfolding Says ended endless one_more
  climb_stuck left z = rw z (sym (s.1 endless))

  pub climb_more : (left k : ℕ) (above : Ended) → left ≡ suc k → above ≡ ended k cs up → one_more above ≡ ended left cs f
  unfolding Says ended
  climb_more left k above z e = rw (z, e) (sym (s.1 (ended k cs)))

  pub climb_row : directory cs f ≡ Some r
  unfolding Says
  climb_row = s.0

  -- a note made of row r is right, and the others are
  right_note : (k d t : ℕ) (v : Bool) (room : List ℕ) → Noted cs room → ended k cs up ≡ Some (d, v) → k ≤ max_levels → place_size * r + place_size ≤ length room →
      t < length cs → Right cs (child_at cs t).self (note_at t (sets room (place_size * r) (bytes 4 (note_of (Some (suc d, v))))))
  unfolding Says Noted
  right_note k d t v room n q h l i = go (eqb t r) refl
    where
      go : (b : Bool) → eqb t r ≡ b → Right cs (child_at cs t).self (note_at t (sets room (place_size * r) (bytes 4 (note_of (Some (suc d, v))))))
      go true p =
          let z : t ≡ r = eqb-true t r p in
          let g : (child_at cs t).self ≡ f = ap (λ (j : ℕ). (child_at cs j).self) z ∙ row_self cs f r s.0 in
          told (Some (suc d, v))
          (ap (λ (j : ℕ). note_at j (sets room (place_size * r) (bytes 4 (note_of (Some (suc d, v)))))) z
          ∙ note_same r (note_of (Some (suc d, v))) room l (note_small d v (omega (arith, few_levels k cs up d v q))))
          (subst (λ (x : MdtFid). Known cs x (Some (suc d, v))) (sym g) (more_known cs f up d v s.1 (ended_known k cs up d v q)))
      go false p =
          subst (λ (m : ℕ). Right cs (child_at cs t).self m) (sym (note_other r t (note_of (Some (suc d, v))) room (eqb-false t r p))) (n t i)

  pub climb_noted : (k : ℕ) (above : Ended) (room new : List ℕ) → Noted cs room → above ≡ ended k cs up → k ≤ max_levels →
      place_size * r + place_size ≤ length room → new ≡ noted r (one_more above) room → Noted cs new
  unfolding one_more noted Noted
  climb_noted k above room new n e h l p = rw (p, e) (go (ended k cs up) refl)
    where
      go : (x : Ended) → ended k cs up ≡ x → (t : ℕ) → t < length cs → Right cs (child_at cs t).self (note_at t (noted r (one_more x) room))
      go None q t i = n t i
      go (Some (d, v)) q t i = right_note k d t v room n q h l i

pub few_above : (k : ℕ) (cs : List Child) (g : MdtFid) (above : Ended) → above ≡ ended k cs g → k ≤ max_levels → Few max_levels above
unfolding Few
few_above k cs g above e h = subst (λ (x : Ended). Few max_levels x) (sym e) (go (ended k cs g) refl)
  where
    go : (x : Ended) → ended k cs g ≡ x → Few max_levels x
    go None q = tt
    go (Some (d, v)) q = omega (arith, few_levels k cs g d v q)

-- ## Blank notes

drop_zeros : (n m : ℕ) (l : List ℕ) → drop n (replicate (m + n) 0 ++ l) ≡ replicate m 0 ++ l
drop_zeros zero m l = let z : m + zero ≡ m = omega arith in rw z
drop_zeros (suc n) m l = let z : m + suc n ≡ suc (m + n) = omega arith in rw z (drop_zeros n m l)

blank_zeros : (n : ℕ) (l : List ℕ) → Blank n (replicate (place_size * n) 0 ++ l)
unfolding Blank note_at le
blank_zeros n l r h =
    let k : ℕ = place_size * n - (place_size * r + 4) in
    let z : place_size * n ≡ suc (suc (suc (suc k))) + place_size * r = omega arith in
    ap (λ (m : ℕ). le 4 (drop (place_size * r) (replicate m 0 ++ l))) z ∙ ap (le 4) (drop_zeros (place_size * r) (suc (suc (suc (suc k)))) l)

pub blank_by : (n : ℕ) (x l : List ℕ) (m : ℕ) → m ≡ place_size * n → x ≡ replicate m 0 → Blank n (x ++ l)
blank_by n x l m h e = rw (e, h) (blank_zeros n l)

pub blank_noted : (cs : List Child) (n : ℕ) (room : List ℕ) → length cs ≤ n → Blank n room → Noted cs room
unfolding Blank Noted
blank_noted cs n room h b r k = blank (b r (omega arith))
