-- Rows that were used stand. Assumes nothing.
use Prim.Native.Nat.{ℕ, suc, ◌<◌}
use mathlib.Core.Path.{◌≡◌, refl, sym, ap, ◌∙◌}
use mathlib.Core.List.{List, [], ◌∷◌}
use mathlib.Core.Bool.{Bool, true, false, cond, ◌&&◌, true≢false}
use native.Mathlib.Omega.{arith}
use lib.ListN.{length, set, get_or, length-set}
use lib.Seq.{get_or-set_other}
use lib.Dec.{leb, ltb}
use borrow.Author.Tests.{ltb-true}
use Rattle.wire.proofs.Both.{and_second}
use Rattle.tables.specs.Bytes.{is_used}
use Rattle.intake.specs.Lines.{lines}
use Rattle.intake.specs.Says.{Line, opens, closes, skipped, bad, takes, line_says}
use Rattle.intake.specs.Owners.{Owning, no_owner, owning, next_owner}
use Rattle.intake.specs.Reading.{Attribute, none, had, Entry, Open, outside, inside, Reading, stops_at, goes_on, has, attribute_of, with_attribute, first_unused, parent_from, object_from, filled, fills, with_self, closes_entry, on_line, is_going, take_line, read_line, read_all, dump_reading}
use Rattle.intake.specs.Rows.{Stands, RowsStand, EveryRowStands}

same : (l : List (List ℕ)) → Stands l l
same l = record { long = refl; rows = λ r u. refl }

then : (a b c : List (List ℕ)) → Stands a b → Stands b c → Stands a c
then a b c p q = record { long = q.long ∙ p.long; rows = λ r u. q.rows r (ap is_used (p.rows r u) ∙ u) ∙ p.rows r u }

-- the first unused row isn't used
pub unused_at : (l : List (List ℕ)) → first_unused l < length l → is_used (get_or l (first_unused l) []) ≡ false
unfolding first_unused
unused_at [] h = absurd (omega arith)
unused_at (row ∷ l) h = go (is_used row) refl h (unused_at l) where
  go : (t : Bool) → is_used row ≡ t → cond t (suc (first_unused l)) 0 < suc (length l) → (first_unused l < length l → is_used (get_or l (first_unused l) []) ≡ false)
      → is_used (get_or (row ∷ l) (cond t (suc (first_unused l)) 0) []) ≡ false
  go true e k ih = ih (omega arith)
  go false e k ih = e

filled_stands : (l : List (List ℕ)) (x : List ℕ) → first_unused l < length l → Stands l (set l (first_unused l) x)
filled_stands l x h = record {
  long = length-set l (first_unused l) x;
  rows = λ r u. get_or-set_other l (first_unused l) r x [] (λ e. true≢false (sym u ∙ ap (λ (n : ℕ). is_used (get_or l n [])) e ∙ unused_at l h));
}

module _ (room : ℕ) (R : Reading) (line : ℕ) where
  stays : (S : Reading) → S.parents ≡ R.parents → S.objects ≡ R.objects → RowsStand R S
  stays S p o = record { parents = record { long = rw p; rows = λ r u. rw p }; objects = record { long = rw o; rows = λ r u. rw o } }

  stopped_stand : (q : ℕ) → RowsStand R (stops_at R q line)
  unfolding stops_at
  stopped_stand q = stays _ refl refl

  going_stand : (e : Open) → RowsStand R (goes_on R line e)
  unfolding goes_on
  going_stand e = stays _ refl refl

  fills_stand : (self : List ℕ) (u g i : ℕ) (owners : List ℕ) (a b : Attribute) → RowsStand R (fills room R line self u g i owners a b)
  unfolding fills filled
  fills_stand self u g i owners none none = stopped_stand 36
  fills_stand self u g i owners (had n v) (had m w) = stopped_stand 36
  fills_stand self u g i owners (had n v) none = go (leb n room && ltb (first_unused R.parents) (length R.parents)) refl where
    go : (t : Bool) → (leb n room && ltb (first_unused R.parents) (length R.parents)) ≡ t
        → RowsStand R (cond t (filled R line owners (set R.parents (first_unused R.parents) (parent_from self v u g (get_or R.parents (first_unused R.parents) []))) R.objects) (stops_at R 37 line))
    go true e = record {
      parents = filled_stands R.parents _ (ltb-true _ _ (and_second (leb n room) (ltb (first_unused R.parents) (length R.parents)) e));
      objects = same R.objects;
    }
    go false e = stopped_stand 37
  fills_stand self u g i owners none (had m w) = go (ltb (first_unused R.objects) (length R.objects)) refl where
    go : (t : Bool) → ltb (first_unused R.objects) (length R.objects) ≡ t
        → RowsStand R (cond t (filled R line owners R.parents (set R.objects (first_unused R.objects) (object_from self w u g i))) (stops_at R 37 line))
    go true e = record { parents = same R.parents; objects = filled_stands R.objects _ (ltb-true _ _ e) }
    go false e = stopped_stand 37

  self_stand : (e : Entry) (x : Owning) (a : Attribute) → RowsStand R (with_self room R line e x a)
  unfolding with_self
  self_stand e no_owner a = stopped_stand _
  self_stand e (owning u g i owners) none = stopped_stand 35
  self_stand e (owning u g i owners) (had n v) = fills_stand _ u g i owners e.lov e.fid

  line_stands : (o : Open) (x : Line) → RowsStand R (on_line room R line o x)
  unfolding on_line closes_entry
  line_stands outside opens = going_stand _
  line_stands outside closes = stopped_stand 33
  line_stands outside skipped = stopped_stand 33
  line_stands outside bad = stopped_stand 33
  line_stands outside (takes k n v) = stopped_stand 33
  line_stands (inside e) opens = stopped_stand 33
  line_stands (inside e) closes = self_stand e (next_owner R.owners) e.lma
  line_stands (inside e) skipped = going_stand _
  line_stands (inside e) bad = stopped_stand 33
  line_stands (inside e) (takes k n v) = go (has (attribute_of k e)) where
    go : (t : Bool) → RowsStand R (cond t (stops_at R 34 line) (goes_on R line (inside (with_attribute k (had n v) e))))
    go true = stopped_stand 34
    go false = going_stand _

read_stands : (room : ℕ) (R : Reading) (l : List ℕ) → RowsStand R (read_line room R l)
unfolding read_line take_line
read_stands room R l = go (is_going R.stop) where
  go : (t : Bool) → RowsStand R (cond t (on_line room R (suc R.count) R.entry (line_says room l)) R)
  go true = line_stands room R (suc R.count) R.entry (line_says room l)
  go false = record { parents = same R.parents; objects = same R.objects }

all_stand : (room : ℕ) (R : Reading) (ls : List (List ℕ)) → RowsStand R (read_all room R ls)
unfolding read_all
all_stand room R [] = record { parents = same R.parents; objects = same R.objects }
all_stand room R (l ∷ ls) =
    let a = read_stands room R l in
    let b = all_stand room (read_line room R l) ls in
    record { parents = then _ _ _ a.parents b.parents; objects = then _ _ _ a.objects b.objects }

pub every_row_stands : EveryRowStands
unfolding EveryRowStands dump_reading
every_row_stands room R dump = all_stand room R (lines dump).complete
