-- The first records of a step, put one after the other, are the first of its writes. Assumes nothing.
use Prim.Native.Nat.{ℕ, zero, suc, ◌<◌}
use native.Mathlib.Decide.{dec_lt}
use native.Mathlib.Omega.{arith}
use mathlib.Core.Path.{◌≡◌, refl, sym, ap, subst, ◌∙◌}
use mathlib.Core.List.Memᴰ
use mathlib.Core.List.{List, [], ◌∷◌, ◌++◌, append-nil, append_assoc, Memᴰ}
use mathlib.Core.Logic.{◌⊎◌, inl, inr, ⊎_elim}
use lib.ListN.{length, get_or, take, set, length-set}
use lib.Seq.{get_or-set_same, get_or-set_other, set_out, set_comm, take-nil}
use Rattle.tables.specs.Records.{ParentRow, ObjectRow, unused, Tables}
use Rattle.tables.specs.Positions.{row_at}
use Rattle.rules.specs.Rows.{object_at}
use Rattle.rules.specs.Repairs.{destroyed, put_parent, put_object, apply_write, apply_writes}
use Rattle.rules.specs.declared.Write.{Write}
use Rattle.rules.specs.declared.Write.TheVariants.{Nothing, Object as PutObject, Destroy, Own, Slot as PutSlot, Grow as GrowTo, Make}
use Rattle.rules.specs.declared.Repair.{Repair}
use Rattle.rules.specs.declared.Repair.TheVariants.{OfSelf, OfMultiple, OfDangling, OfBlank, OfUnmatched, OfOwner, OfEmpty, OfOrphan, OfWrongOst}
use Rattle.rules.specs.declared.Step.{Step}
use Rattle.rules.specs.declared.Step.TheVariants.{Rests as rests, Repairs as repairs, Stops as stops}
use Rattle.rules.specs.Runs.{step_tables}
use Rattle.rules.specs.Cuts.{Changes, EachChanges, Target, object_record, destroyed_record, parent_record, target, targets, LayoutFirst, placed_alone, placed_owned, placed_emptied, placed_both, ObjectFirst, object_alone, destroyed_alone, layout_alone, object_layout, OrderFor, InOrder, first_writes, cut_step}
use Rattle.theorems.proofs.CutRows.{copied, copied_all}

-- ## No record twice

-- two records are of different rows
unfoldable Other : Target → Target → Type 0
Other (object_record o) (object_record k) = o ≡ k → ⊥
Other (object_record o) (destroyed_record k) = o ≡ k → ⊥
Other (object_record o) (parent_record r) = Unit {0}
Other (destroyed_record o) (object_record k) = o ≡ k → ⊥
Other (destroyed_record o) (destroyed_record k) = o ≡ k → ⊥
Other (destroyed_record o) (parent_record r) = Unit {0}
Other (parent_record q) (object_record k) = Unit {0}
Other (parent_record q) (destroyed_record k) = Unit {0}
Other (parent_record q) (parent_record r) = q ≡ r → ⊥

unfoldable AllOther : Target → List Target → Type 0
AllOther x [] = Unit {0}
AllOther x (y ∷ ys) = Other x y × AllOther x ys

unfoldable NoTwice : List Target → Type 0
NoTwice [] = Unit {0}
NoTwice (x ∷ xs) = AllOther x xs × NoTwice xs

layout_once : {o : ℕ} {l : List Target} → LayoutFirst o l → NoTwice l
unfolding NoTwice AllOther Other
layout_once placed_alone = (tt, tt)
layout_once placed_owned = ((tt, tt), (tt, tt))
layout_once (placed_emptied n) = ((tt, tt), (tt, tt))
layout_once (placed_both n) = ((tt, (tt, tt)), (((λ e. n (sym e)), tt), (tt, tt)))

object_once : {l : List Target} → ObjectFirst l → NoTwice l
unfolding NoTwice AllOther Other
object_once object_alone = (tt, tt)
object_once destroyed_alone = (tt, tt)
object_once layout_alone = (tt, tt)
object_once object_layout = ((tt, tt), (tt, tt))

order_once : (o : ℕ) (k : Repair) (l : List Target) → OrderFor o k l → NoTwice l
unfolding OrderFor
order_once o OfSelf l h = object_once h
order_once o OfMultiple l h = object_once h
order_once o OfDangling l h = object_once h
order_once o OfBlank l h = object_once h
order_once o OfUnmatched l h = object_once h
order_once o OfOwner l h = object_once h
order_once o OfEmpty l h = object_once h
order_once o OfOrphan l h = layout_once h
order_once o OfWrongOst l h = object_once h

-- ## A write puts one row, or none

data OneRow (Z : Tables) : List Target → Tables → Type 0 where
  no_row : OneRow Z [] Z
  an_object : (o : ℕ) (w : ObjectRow) → OneRow Z (object_record o ∷ []) (put_object Z o w)
  a_destroyed : (o : ℕ) → OneRow Z (destroyed_record o ∷ []) (put_object Z o destroyed)
  a_parent : (r : ℕ) (w : ParentRow) → OneRow Z (parent_record r ∷ []) (put_parent Z r w)

one_row : (Z : Tables) (w : Write) → OneRow Z (target w) (apply_write Z w)
unfolding target apply_write
one_row Z Nothing = no_row
one_row Z (PutObject o x) = an_object o _
one_row Z (Destroy o) = a_destroyed o
one_row Z (Own r) = a_parent r _
one_row Z (PutSlot r j s) = a_parent r _
one_row Z (GrowTo r i s) = a_parent r _
one_row Z (Make r f w i s) = a_parent r _

-- ## Rows elsewhere stay

other_object : (Z X : Tables) (o k : ℕ) (w : ObjectRow) → (o ≡ k → ⊥) →
    put_object X o (object_at (put_object Z k w).objects o) ≡ put_object X o (object_at Z.objects o)
unfolding put_object object_at
other_object Z X o k w n = ap (λ (v : ObjectRow). put_object X o v) (get_or-set_other Z.objects k o w (unused []) n)

other_parent : (Z X : Tables) (q r : ℕ) (w : ParentRow) → (q ≡ r → ⊥) →
    put_parent X q (row_at (put_parent Z r w).parents q) ≡ put_parent X q (row_at Z.parents q)
unfolding put_parent row_at
other_parent Z X q r w n = ap (λ (v : ParentRow). put_parent X q v) (get_or-set_other Z.parents r q w (unused []) n)

one_other : (Z X : Tables) (x : Target) {l : List Target} {S : Tables} → OneRow Z l S → AllOther x l → copied S x X ≡ copied Z x X
unfolding AllOther Other copied put_object put_parent
one_other Z X x no_row h = refl
one_other Z X (object_record q) (an_object o w) h = other_object Z X q o w h.0
one_other Z X (destroyed_record q) (an_object o w) h = other_object Z X q o w h.0
one_other Z X (parent_record q) (an_object o w) h = refl
one_other Z X (object_record q) (a_destroyed o) h = other_object Z X q o destroyed h.0
one_other Z X (destroyed_record q) (a_destroyed o) h = other_object Z X q o destroyed h.0
one_other Z X (parent_record q) (a_destroyed o) h = refl
one_other Z X (object_record q) (a_parent r w) h = refl
one_other Z X (destroyed_record q) (a_parent r w) h = refl
one_other Z X (parent_record q) (a_parent r w) h = other_parent Z X q r w h.0

-- a row that was put, put again
module _ {A : Type 0} where
  put_again : (l : List A) (i : ℕ) (a d : A) → set l i (get_or (set l i a) i d) ≡ set l i a
  put_again [] i a d = refl
  put_again (x ∷ l) zero a d = refl
  put_again (x ∷ l) (suc i) a d = ap (λ (t : List A). x ∷ t) (put_again l i a d)

one_copied : (X : Tables) {l : List Target} {S : Tables} → OneRow X l S → copied_all S l X ≡ S
unfolding copied_all copied put_object put_parent object_at row_at
one_copied X no_row = refl
one_copied X (an_object o w) = λ i. record { parents = X.parents; objects = put_again X.objects o w (unused []) i }
one_copied X (a_destroyed o) = λ i. record { parents = X.parents; objects = put_again X.objects o destroyed (unused []) i }
one_copied X (a_parent r w) = λ i. record { parents = put_again X.parents r w (unused []) i; objects = X.objects }

-- ## A list of writes

unfoldable makes : List Write → Tables → Tables
makes [] X = X
makes (w ∷ ws) X = makes ws (apply_write X w)

unfoldable names : List Write → List Target
names [] = []
names (w ∷ ws) = target w ++ names ws

other_append : (x : Target) (l m : List Target) → AllOther x (l ++ m) → AllOther x l × AllOther x m
unfolding AllOther
other_append x [] m h = (tt, h)
other_append x (y ∷ l) m h = let k = other_append x l m h.1 in ((h.0, k.0), k.1)

makes_other : (ws : List Write) (Z X : Tables) (x : Target) → AllOther x (names ws) → copied (makes ws Z) x X ≡ copied Z x X
unfolding makes names
makes_other [] Z X x h = refl
makes_other (w ∷ ws) Z X x h =
    let k = other_append x (target w) (names ws) h in
    makes_other ws (apply_write Z w) X x k.1 ∙ one_other Z X x (one_row Z w) k.0

-- the tables X before a write that leaves S, or those after it and the first j writes of more
unfoldable partly : ℕ → List Write → Tables → Tables → Tables
partly zero ws X S = X
partly (suc j) ws X S = makes (take j ws) S

partly_is : (j : ℕ) (w : Write) (ws : List Write) (X : Tables) → partly j ws X (apply_write X w) ≡ makes (take j (w ∷ ws)) X
unfolding partly makes
partly_is zero w ws X = refl
partly_is (suc j) w ws X = refl

-- the first m records, put as the writes leave them, are the first so many of the writes
record CutWrites (ws : List Write) (X : Tables) (m : ℕ) : Type 0 where
  writes : ℕ
  same : copied_all (makes ws X) (take m (names ws)) X ≡ makes (take writes ws) X

record Partly (l : List Target) (ws : List Write) (X S : Tables) (m : ℕ) : Type 0 where
  writes : ℕ
  same : copied_all (makes ws S) (take m (l ++ names ws)) X ≡ partly writes ws X S

-- a record that is written, put as the writes after it leave it
put_first : (x : Target) (ws : List Write) (X S : Tables) → AllOther x (names ws) → copied S x X ≡ S → copied (makes ws S) x X ≡ S
put_first x ws X S n e = makes_other ws S X x n ∙ e

-- and those of the writes after it
one_more : (x : Target) (ws : List Write) (X S : Tables) (m : ℕ) → AllOther x (names ws) → copied S x X ≡ S → CutWrites ws S m → Partly (x ∷ []) ws X S (suc m)
unfolding copied_all partly
one_more x ws X S m n e c =
    record {
      writes = suc c.writes;
      same = ap (λ (Z : Tables). copied_all (makes ws S) (take m (names ws)) Z) (put_first x ws X S n e) ∙ c.same;
    }

module _ (ws : List Write) (X : Tables) (more : (S : Tables) (m : ℕ) → NoTwice (names ws) → CutWrites ws S m) where
  first_more : {l : List Target} {S : Tables} (m : ℕ) → OneRow X l S → NoTwice (l ++ names ws) → Partly l ws X S m
  unfolding NoTwice copied_all partly
  first_more m no_row h = let c = more X m h in record { writes = suc c.writes; same = c.same }
  first_more zero (an_object o w) h = record { writes = 0; same = refl }
  first_more (suc m) (an_object o w) h =
      one_more (object_record o) ws X (put_object X o w) m h.0 (one_copied X (an_object o w)) (more (put_object X o w) m h.1)
  first_more zero (a_destroyed o) h = record { writes = 0; same = refl }
  first_more (suc m) (a_destroyed o) h =
      one_more (destroyed_record o) ws X (put_object X o destroyed) m h.0 (one_copied X (a_destroyed o)) (more (put_object X o destroyed) m h.1)
  first_more zero (a_parent r w) h = record { writes = 0; same = refl }
  first_more (suc m) (a_parent r w) h =
      one_more (parent_record r) ws X (put_parent X r w) m h.0 (one_copied X (a_parent r w)) (more (put_parent X r w) m h.1)

cut_writes : (ws : List Write) (X : Tables) (m : ℕ) → NoTwice (names ws) → CutWrites ws X m
unfolding makes names copied_all
cut_writes [] X m h = record { writes = 0; same = ap (λ (l : List Target). copied_all X l X) (take-nil m) }
cut_writes (w ∷ ws) X m h =
    let p = first_more ws X (λ S n k. cut_writes ws S n k) m (one_row X w) h in
    record { writes = p.writes; same = p.same ∙ partly_is p.writes w ws X }

-- ## All records

whole_more : (x : Target) (ws : List Write) (X S : Tables) → AllOther x (names ws) → copied S x X ≡ S → copied_all (makes ws S) (names ws) S ≡ makes ws S →
    copied_all (makes ws S) (x ∷ names ws) X ≡ makes ws S
unfolding copied_all
whole_more x ws X S n e c = ap (λ (Z : Tables). copied_all (makes ws S) (names ws) Z) (put_first x ws X S n e) ∙ c

module _ (ws : List Write) (X : Tables) (more : (S : Tables) → NoTwice (names ws) → copied_all (makes ws S) (names ws) S ≡ makes ws S) where
  whole_first : {l : List Target} {S : Tables} → OneRow X l S → NoTwice (l ++ names ws) → copied_all (makes ws S) (l ++ names ws) X ≡ makes ws S
  unfolding NoTwice copied_all
  whole_first no_row h = more X h
  whole_first (an_object o w) h =
      whole_more (object_record o) ws X (put_object X o w) h.0 (one_copied X (an_object o w)) (more (put_object X o w) h.1)
  whole_first (a_destroyed o) h =
      whole_more (destroyed_record o) ws X (put_object X o destroyed) h.0 (one_copied X (a_destroyed o)) (more (put_object X o destroyed) h.1)
  whole_first (a_parent r w) h =
      whole_more (parent_record r) ws X (put_parent X r w) h.0 (one_copied X (a_parent r w)) (more (put_parent X r w) h.1)

whole_writes : (ws : List Write) (X : Tables) → NoTwice (names ws) → copied_all (makes ws X) (names ws) X ≡ makes ws X
unfolding makes names copied_all
whole_writes [] X h = refl
whole_writes (w ∷ ws) X h = whole_first ws X (λ S k. whole_writes ws S k) (one_row X w) h

-- ## Each record changes

-- each write is left out or changes the tables that those before it left
unfoldable AllChange : Tables → List Write → Type 0
AllChange X [] = Unit {0}
AllChange X (w ∷ ws) = Changes X w × AllChange (apply_write X w) ws

other_member : (x y : Target) (l : List Target) → AllOther x l → Memᴰ y l → Other x y
unfolding AllOther
other_member x y [] h m = absurd (Memᴰ.not-nil m)
other_member x y (z ∷ l) h m =
    ⊎_elim (λ e. subst (Other x) (sym e) h.0) (λ k. other_member x y l h.1 k) (Memᴰ.cases_cons m)

-- a record that changes nothing changes nothing after a write of another
stays_object : (Y X : Tables) (o : ℕ) (w : ObjectRow) (x : Target) → Other (object_record o) x → copied Y x X ≡ X → copied Y x (put_object X o w) ≡ put_object X o w
unfolding Other copied put_object put_parent
stays_object Y X o w (object_record k) n e =
    let v : ObjectRow = object_at Y.objects k in
    let c : put_object (put_object X o w) k v ≡ put_object (put_object X k v) o w =
    λ i. record { parents = X.parents; objects = set_comm X.objects o k w v n i } in
    c ∙ ap (λ (Z : Tables). put_object Z o w) e
stays_object Y X o w (destroyed_record k) n e =
    let v : ObjectRow = object_at Y.objects k in
    let c : put_object (put_object X o w) k v ≡ put_object (put_object X k v) o w =
    λ i. record { parents = X.parents; objects = set_comm X.objects o k w v n i } in
    c ∙ ap (λ (Z : Tables). put_object Z o w) e
stays_object Y X o w (parent_record r) n e = ap (λ (Z : Tables). put_object Z o w) e

other_destroyed : (o : ℕ) (x : Target) → Other (destroyed_record o) x → Other (object_record o) x
unfolding Other
other_destroyed o (object_record k) n = n
other_destroyed o (destroyed_record k) n = n
other_destroyed o (parent_record r) n = n

stays_parent : (Y X : Tables) (q : ℕ) (w : ParentRow) (x : Target) → Other (parent_record q) x → copied Y x X ≡ X → copied Y x (put_parent X q w) ≡ put_parent X q w
unfolding Other copied put_object put_parent
stays_parent Y X q w (object_record k) n e = ap (λ (Z : Tables). put_parent Z q w) e
stays_parent Y X q w (destroyed_record k) n e = ap (λ (Z : Tables). put_parent Z q w) e
stays_parent Y X q w (parent_record r) n e =
    let v : ParentRow = row_at Y.parents r in
    let c : put_parent (put_parent X q w) r v ≡ put_parent (put_parent X r v) q w =
    λ i. record { parents = set_comm X.parents q r w v n i; objects = X.objects } in
    c ∙ ap (λ (Z : Tables). put_parent Z q w) e

-- a write of record x that leaves S, and the writes after it
module _ (ws : List Write) (X S : Tables) (more : (y : Target) → Memᴰ y (names ws) → NoTwice (names ws) → copied (makes ws S) y S ≡ S → ⊥) where
  needed_one : (x : Target) → (◌≡◌ {A = List Target} (x ∷ []) []) ⊎ (S ≡ X → ⊥) → AllOther x (names ws) × NoTwice (names ws) → copied S x X ≡ S →
      ((y : Target) → Other x y → copied (makes ws S) y X ≡ X → copied (makes ws S) y S ≡ S) →
      (y : Target) → Memᴰ y (x ∷ names ws) → copied (makes ws S) y X ≡ X → ⊥
  needed_one x c h e stays y m k =
      ⊎_elim
      (λ q. let z : S ≡ X = sym (put_first x ws X S h.0 e) ∙ subst (λ (v : Target). copied (makes ws S) v X ≡ X) q k in
      ⊎_elim (λ d. let f : ◌≡◌ {A = ℕ} 1 0 = ap length d in absurd (omega arith)) (λ n. n z) c)
      (λ l. more y l h.1 (stays y (other_member x y (names ws) h.0 l) k))
      (Memᴰ.cases_cons m)

needed_first : (ws : List Write) (X : Tables) {l : List Target} {S : Tables} → OneRow X l S →
    ((y : Target) → Memᴰ y (names ws) → NoTwice (names ws) → copied (makes ws S) y S ≡ S → ⊥) →
    (◌≡◌ {A = List Target} l []) ⊎ (S ≡ X → ⊥) → NoTwice (l ++ names ws) →
    (y : Target) → Memᴰ y (l ++ names ws) → copied (makes ws S) y X ≡ X → ⊥
unfolding NoTwice copied_all
needed_first ws X no_row more c h y m e = more y m h e
needed_first ws X (an_object o w) more c h y m e =
    let S = put_object X o w in
    needed_one ws X S more (object_record o) c h (one_copied X (an_object o w)) (λ z n. stays_object (makes ws S) X o w z n) y m e
needed_first ws X (a_destroyed o) more c h y m e =
    let S = put_object X o destroyed in
    needed_one ws X S more (destroyed_record o) c h (one_copied X (a_destroyed o))
    (λ z n. stays_object (makes ws S) X o destroyed z (other_destroyed o z n)) y m e
needed_first ws X (a_parent r w) more c h y m e =
    let S = put_parent X r w in
    needed_one ws X S more (parent_record r) c h (one_copied X (a_parent r w)) (λ z n. stays_parent (makes ws S) X r w z n) y m e

left_out : (X : Tables) (w : Write) → Changes X w → (target w ≡ []) ⊎ (apply_write X w ≡ X → ⊥)
unfolding Changes target
left_out X w c = ⊎_elim (λ e. inl (ap target e)) (λ n. inr n) c

needed_writes : (ws : List Write) (X : Tables) → NoTwice (names ws) → AllChange X ws → (y : Target) → Memᴰ y (names ws) → copied (makes ws X) y X ≡ X → ⊥
unfolding makes names AllChange
needed_writes [] X h c y m e = absurd (Memᴰ.not-nil m)
needed_writes (w ∷ ws) X h c y m e =
    needed_first ws X (one_row X w) (λ z l k. needed_writes ws (apply_write X w) k c.1 z l) (left_out X w c.0) h y m e

-- ## A destroyed row

-- a write that isn't of row k leaves what stands there, and so do more of them
one_beside : (Z : Tables) (k : ℕ) {l : List Target} {S : Tables} → OneRow Z l S → AllOther (destroyed_record k) l → object_at S.objects k ≡ object_at Z.objects k
unfolding AllOther Other put_object put_parent object_at
one_beside Z k no_row h = refl
one_beside Z k (an_object o w) h = get_or-set_other Z.objects o k w (unused []) h.0
one_beside Z k (a_destroyed o) h = get_or-set_other Z.objects o k destroyed (unused []) h.0
one_beside Z k (a_parent r w) h = refl

all_beside : (ws : List Write) (Z : Tables) (k : ℕ) → AllOther (destroyed_record k) (names ws) → object_at (makes ws Z).objects k ≡ object_at Z.objects k
unfolding makes names
all_beside [] Z k h = refl
all_beside (w ∷ ws) Z k h =
    let a = other_append (destroyed_record k) (target w) (names ws) h in
    all_beside ws (apply_write Z w) k a.1 ∙ one_beside Z k (one_row Z w) a.0

-- row k is destroyed by the first write or by one of those after it
module _ (ws : List Write) (X : Tables) (k : ℕ) (inside : k < length X.objects)
    (more : (S : Tables) → NoTwice (names ws) → Memᴰ (destroyed_record k) (names ws) → k < length S.objects → object_at (makes ws S).objects k ≡ destroyed) where
  gone_later : (x : Target) (S : Tables) → (destroyed_record k ≡ x → ⊥) → k < length S.objects → NoTwice (names ws) → Memᴰ (destroyed_record k) (x ∷ names ws) →
      object_at (makes ws S).objects k ≡ destroyed
  gone_later x S n v h m = ⊎_elim (λ e. absurd (n e)) (λ q. more S h q v) (Memᴰ.cases_cons m)

  gone_here : (o : ℕ) → k ≡ o → AllOther (destroyed_record o) (names ws) → object_at (makes ws (put_object X o destroyed)).objects k ≡ destroyed
  unfolding put_object object_at
  gone_here o e h =
      all_beside ws (put_object X o destroyed) k (subst (λ (i : ℕ). AllOther (destroyed_record i) (names ws)) (sym e) h)
      ∙ ap (λ (i : ℕ). get_or (set X.objects i destroyed) k (unused [])) (sym e) ∙ get_or-set_same X.objects k destroyed (unused []) inside

  gone_first : {l : List Target} {S : Tables} → OneRow X l S → NoTwice (l ++ names ws) → Memᴰ (destroyed_record k) (l ++ names ws) →
      object_at (makes ws S).objects k ≡ destroyed
  unfolding NoTwice put_object put_parent
  gone_first no_row h m = more X h m inside
  gone_first (an_object o w) h m =
      gone_later (object_record o) (put_object X o w) (λ e. let z : ◌≡◌ {A = ℕ} 0 1 = cc in omega arith) (rw (length-set X.objects o w) inside) h.1 m
  gone_first (a_destroyed o) h m =
      ⊎_elim (λ e. gone_here o (let d : k ≡ o = cc in d) h.0)
      (λ q. more (put_object X o destroyed) h.1 q (rw (length-set X.objects o destroyed) inside)) (Memᴰ.cases_cons m)
  gone_first (a_parent r w) h m = gone_later (parent_record r) (put_parent X r w) (λ e. let z : ◌≡◌ {A = ℕ} 0 1 = cc in omega arith) inside h.1 m

gone_writes : (ws : List Write) (X : Tables) (k : ℕ) → NoTwice (names ws) → Memᴰ (destroyed_record k) (names ws) → k < length X.objects →
    object_at (makes ws X).objects k ≡ destroyed
unfolding makes names
gone_writes [] X k h m v = absurd (Memᴰ.not-nil m)
gone_writes (w ∷ ws) X k h m v = gone_first ws X k v (λ S n q u. gone_writes ws S k n q u) (one_row X w) h m

-- ## A step

pub record CutCopied (u : Step) (X : Tables) (m : ℕ) : Type 0 where
  pub writes : ℕ
  pub same : copied_all (step_tables u X) (take m (targets u)) X ≡ cut_step writes u X

names_three : (a b c : Write) → target a ++ target b ++ target c ≡ names (a ∷ b ∷ c ∷ [])
unfolding names
names_three a b c = rw (append-nil (target c), append_assoc (target a) (target b) (target c))

-- the list that is handed out names the records of the writes in their order
targets_are : (k : Repair) (a b c : Write) → targets (repairs k a b c) ≡ names (a ∷ b ∷ c ∷ [])
unfolding targets
targets_are k a b c = names_three a b c

first_three : (j : ℕ) (a b c : Write) (X : Tables) → makes (take j (a ∷ b ∷ c ∷ [])) X ≡ first_writes j a b c X
unfolding makes first_writes apply_writes
first_three zero a b c X = refl
first_three (suc zero) a b c X = refl
first_three (suc (suc zero)) a b c X = refl
first_three (suc (suc (suc j))) a b c X = ap (λ (l : List Write). makes l (apply_write (apply_write (apply_write X a) b) c)) (take-nil j)

written_once : (o : ℕ) (k : Repair) (a b c : Write) → InOrder o (repairs k a b c) → NoTwice (names (a ∷ b ∷ c ∷ []))
unfolding InOrder targets
written_once o k a b c h = subst NoTwice (names_three a b c) (order_once o k (target a ++ target b ++ target c) h)

-- the first m records of a step that are put as it leaves them are the first so many of its writes
pub cut_copied : (o : ℕ) (u : Step) (X : Tables) (m : ℕ) → InOrder o u → CutCopied u X m
unfolding targets step_tables copied_all cut_step makes apply_writes
cut_copied o rests X m h = record { writes = 0; same = ap (λ (l : List Target). copied_all X l X) (take-nil m) }
cut_copied o (stops n) X m h = record { writes = 0; same = ap (λ (l : List Target). copied_all X l X) (take-nil m) }
cut_copied o (repairs k a b c) X m h =
    let w = cut_writes (a ∷ b ∷ c ∷ []) X m (written_once o k a b c h) in
    record {
      writes = w.writes;
      same = ap (λ (l : List Target). copied_all (apply_writes a b c X) (take m l) X) (targets_are k a b c) ∙ w.same ∙ first_three w.writes a b c X;
    }

-- all of them are all of its writes
pub whole_copied : (o : ℕ) (u : Step) (X : Tables) → InOrder o u → copied_all (step_tables u X) (targets u) X ≡ step_tables u X
unfolding targets step_tables copied_all makes apply_writes
whole_copied o rests X h = refl
whole_copied o (stops n) X h = refl
whole_copied o (repairs k a b c) X h =
    ap (λ (l : List Target). copied_all (apply_writes a b c X) l X) (targets_are k a b c)
    ∙ whole_writes (a ∷ b ∷ c ∷ []) X (written_once o k a b c h)

-- and each of them changes the tables
pub needed_copied : (o : ℕ) (u : Step) (X : Tables) → InOrder o u → EachChanges X u → (x : Target) → Memᴰ x (targets u) → copied (step_tables u X) x X ≡ X → ⊥
unfolding EachChanges targets step_tables makes apply_writes AllChange
needed_copied o rests X h c x m e = absurd (Memᴰ.not-nil m)
needed_copied o (stops n) X h c x m e = absurd (Memᴰ.not-nil m)
needed_copied o (repairs k a b d) X h c x m e =
    needed_writes (a ∷ b ∷ d ∷ []) X (written_once o k a b d h) (c.0, (c.1, (c.2, tt))) x (subst (Memᴰ x) (targets_are k a b d) m) e

-- a row that it destroys is there, and is destroyed
pub gone_copied : (o : ℕ) (u : Step) (X : Tables) → InOrder o u → EachChanges X u → (k : ℕ) → Memᴰ (destroyed_record k) (targets u) →
    (k < length X.objects) × (object_at (step_tables u X).objects k ≡ destroyed)
unfolding targets step_tables makes apply_writes copied put_object
gone_copied o rests X h c k m = absurd (Memᴰ.not-nil m)
gone_copied o (stops n) X h c k m = absurd (Memᴰ.not-nil m)
gone_copied o (repairs r a b d) X h c k m = go (dec_lt k (length X.objects))
  where
    go : Dec (k < length X.objects) → (k < length X.objects) × (object_at (apply_writes a b d X).objects k ≡ destroyed)
    go (yes v) = (v, gone_writes (a ∷ b ∷ d ∷ []) X k (written_once o r a b d h) (subst (Memᴰ (destroyed_record k)) (targets_are r a b d) m) v)
    go (no n) =
        absurd (needed_copied o (repairs r a b d) X h c (destroyed_record k) m
        (λ i. record { parents = X.parents; objects = set_out X.objects k (object_at (apply_writes a b d X).objects k) (omega arith) i }))

-- no table changes its number of rows
SameSize : Tables → Tables → Type 0
SameSize S X = (length S.parents ≡ length X.parents) × (length S.objects ≡ length X.objects)

one_size : (X : Tables) {l : List Target} {S : Tables} → OneRow X l S → SameSize S X
unfolding SameSize put_object put_parent
one_size X no_row = (refl, refl)
one_size X (an_object o w) = (refl, length-set X.objects o w)
one_size X (a_destroyed o) = (refl, length-set X.objects o destroyed)
one_size X (a_parent r w) = (length-set X.parents r w, refl)

write_size : (X : Tables) (w : Write) → SameSize (apply_write X w) X
write_size X w = one_size X (one_row X w)

makes_size : (ws : List Write) (X : Tables) → SameSize (makes ws X) X
unfolding makes SameSize
makes_size [] X = (refl, refl)
makes_size (w ∷ ws) X = let a = makes_size ws (apply_write X w) in let b = write_size X w in (a.0 ∙ b.0, a.1 ∙ b.1)

pub cut_size : (j : ℕ) (u : Step) (X : Tables) →
    (length (cut_step j u X).parents ≡ length X.parents) × (length (cut_step j u X).objects ≡ length X.objects)
unfolding cut_step SameSize
cut_size j rests X = (refl, refl)
cut_size j (stops n) X = (refl, refl)
cut_size j (repairs k a b c) X = subst (λ (S : Tables). SameSize S X) (first_three j a b c X) (makes_size (take j (a ∷ b ∷ c ∷ [])) X)
