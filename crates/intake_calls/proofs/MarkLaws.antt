-- Marks stay good: a row that is filled is marked used and isn't no_line, the other rows stay. Assumes nothing.
use Prim.Native.Nat.{ℕ, zero, suc, ◌≤◌}
use mathlib.Core.Path.{◌≡◌, refl, ap}
use mathlib.Core.List.{List, [], ◌∷◌, ◌++◌}
use mathlib.Core.Bool.{Bool, true, false, cond, ◌&&◌}
use native.Mathlib.Omega.{arith}
use lib.ListN.{length, drop, set, get_or, length-append, length-drop, length-set}
use lib.Dec.{leb, ltb, eqb}
use Rattle.wire.specs.Numbers.{bytes}
use Rattle.wire.proofs.Both.{and_first, and_second, and_both}
use Rattle.wire.proofs.NumberLaws.{length_bytes}
use Rattle.tables.specs.Bytes.{is_used}
use Rattle.tables.specs.Check.{max_parents, max_objects, all, when_used, is_mark, used_mark, fresh_mark}
use Rattle.intake.specs.declared.Kind.{Kind}
use Rattle.intake.specs.declared.Kind.TheVariants.{Fid, Lma}
use Rattle.intake.specs.Says.{Line, opens, closes, skipped, bad, takes, wanted}
use Rattle.intake.specs.Owners.{Owning, no_owner, owning, next_owner}
use Rattle.intake.specs.Reading.{Attribute, none, had, Entry, Open, outside, inside, Reading, stops_at, goes_on, has, attribute_of, with_attribute, first_unused, parent_from, object_from, filled, fills, with_self, closes_entry, on_line, is_going, take_line}
use Rattle.intake.specs.Machine.{State, no_line, line_byte, line_end, want_in, going_byte, byte, feed}
use Rattle.intake_calls.proofs.KeptLaws.{kept_of, FewOpen, FewLine, FewSaid, few_fresh, few_byte, few_said, few_none, few_with}

-- ## Rows

all_set : (test : List ℕ → Bool) (l : List (List ℕ)) (i : ℕ) (x : List ℕ) → all test l ≡ true → test x ≡ true → all test (set l i x) ≡ true
unfolding all
all_set test [] i x h e = refl
all_set test (y ∷ l) zero x h e = and_both (test x) (all test l) e (and_second (test y) (all test l) h)
all_set test (y ∷ l) (suc i) x h e =
    and_both (test y) (all test (set l i x)) (and_first (test y) (all test l) h) (all_set test l i x (and_second (test y) (all test l) h) e)

parent_marked : (self layout : List ℕ) (u g : ℕ) (row : List ℕ) → used_mark (parent_from self layout u g row) ≡ true
unfolding used_mark parent_from is_mark
parent_marked self layout u g row = refl

object_marked : (self claim : List ℕ) (u g i : ℕ) → used_mark (object_from self claim u g i) ≡ true
unfolding used_mark object_from is_mark
object_marked self claim u g i = refl

-- the last byte of a row, or none
last_zero : (l : List ℕ) (n : ℕ) → length l ≤ n → get_or (l ++ 0 ∷ []) n 0 ≡ 0
last_zero [] zero h = refl
last_zero [] (suc n) h = refl
last_zero (b ∷ l) zero h = absurd (omega arith)
last_zero (b ∷ l) (suc n) h = last_zero l n (omega arith)

object_fresh : (self claim : List ℕ) (u g i : ℕ) → length self ≤ 16 → length claim ≤ 16 → when_used fresh_mark (object_from self claim u g i) ≡ true
unfolding when_used is_used fresh_mark object_from is_mark
object_fresh self claim u g i h k =
    ap (λ (n : ℕ). leb n 1) (last_zero (1 ∷ self ++ bytes 4 i ++ bytes 4 u ++ bytes 4 g ++ claim) 45
    (rw (length-append, length-append, length-append, length-append, length_bytes, length_bytes, length_bytes) (omega arith)))

-- ## A reading

module _ (room : ℕ) where
  -- a reading whose rows are no more than a table has and are well marked, and whose entry keeps no more than is wanted
  pub record Marked (R : Reading) : Type 0 where
    pub entry : FewOpen room R.entry
    pub most_parents : length R.parents ≤ max_parents
    pub most_objects : length R.objects ≤ max_objects
    pub parents : all used_mark R.parents ≡ true
    pub objects : all used_mark R.objects ≡ true
    pub fresh : all (when_used fresh_mark) R.objects ≡ true

  module _ (R : Reading) (m : Marked R) (line : ℕ) where
    marked_stop : (q : ℕ) → Marked (stops_at R q line)
    unfolding stops_at
    marked_stop q = record {
      entry = m.entry;
      most_parents = m.most_parents;
      most_objects = m.most_objects;
      parents = m.parents;
      objects = m.objects;
      fresh = m.fresh;
    }

    marked_on : (e : Open) → FewOpen room e → Marked (goes_on R line e)
    unfolding goes_on
    marked_on e f = record {
      entry = f;
      most_parents = m.most_parents;
      most_objects = m.most_objects;
      parents = m.parents;
      objects = m.objects;
      fresh = m.fresh;
    }

    marked_fills : (self : List ℕ) (u g i : ℕ) (owners : List ℕ) (a b : Attribute) → length self ≤ 16 → length (kept_of b) ≤ 16
        → Marked (fills room R line self u g i owners a b)
    unfolding fills filled kept_of FewOpen
    marked_fills self u g i owners none none h k = marked_stop 36
    marked_fills self u g i owners (had n v) (had j w) h k = marked_stop 36
    marked_fills self u g i owners (had n v) none h k = go (leb n room && ltb (first_unused R.parents) (length R.parents)) where
      row : List ℕ
      row = parent_from self v u g (get_or R.parents (first_unused R.parents) [])

      go : (t : Bool) → Marked (cond t (filled R line owners (set R.parents (first_unused R.parents) row) R.objects) (stops_at R 37 line))
      go true = record {
        entry = tt;
        most_parents = omega (arith, length-set R.parents (first_unused R.parents) row, m.most_parents);
        most_objects = m.most_objects;
        parents = all_set used_mark R.parents (first_unused R.parents) row m.parents
            (parent_marked self v u g (get_or R.parents (first_unused R.parents) []));
        objects = m.objects;
        fresh = m.fresh;
      }
      go false = marked_stop 37
    marked_fills self u g i owners none (had j w) h k = go (ltb (first_unused R.objects) (length R.objects)) where
      row : List ℕ
      row = object_from self w u g i

      go : (t : Bool) → Marked (cond t (filled R line owners R.parents (set R.objects (first_unused R.objects) row)) (stops_at R 37 line))
      go true = record {
        entry = tt;
        most_parents = m.most_parents;
        most_objects = omega (arith, length-set R.objects (first_unused R.objects) row, m.most_objects);
        parents = m.parents;
        objects = all_set used_mark R.objects (first_unused R.objects) row m.objects (object_marked self w u g i);
        fresh = all_set (when_used fresh_mark) R.objects (first_unused R.objects) row m.fresh (object_fresh self w u g i h k);
      }
      go false = marked_stop 37

    marked_self : (e : Entry) → ((k : Kind) → length (kept_of (attribute_of k e)) ≤ wanted room k) → (x : Owning) (a : Attribute) → length (kept_of a) ≤ 24
        → Marked (with_self room R line e x a)
    unfolding with_self kept_of wanted attribute_of
    marked_self e f no_owner a h = marked_stop 33
    marked_self e f (owning u g i owners) none h = marked_stop 35
    marked_self e f (owning u g i owners) (had n v) h =
        marked_fills (drop 8 v) u g i owners e.lov e.fid (rw length-drop (omega (arith, h))) (f Fid)

    marked_line : (o : Open) → FewOpen room o → (x : Line) → FewSaid room x → Marked (on_line room R line o x)
    unfolding on_line closes_entry FewOpen FewSaid wanted attribute_of
    marked_line outside f opens g = marked_on _ (few_none room line)
    marked_line outside f closes g = marked_stop 33
    marked_line outside f skipped g = marked_stop 33
    marked_line outside f bad g = marked_stop 33
    marked_line outside f (takes k n v) g = marked_stop 33
    marked_line (inside e) f opens g = marked_stop 33
    marked_line (inside e) f closes g = marked_self e f (next_owner R.owners) e.lma (f Lma)
    marked_line (inside e) f skipped g = marked_on (inside e) f
    marked_line (inside e) f bad g = marked_stop 33
    marked_line (inside e) f (takes k n v) g = go (has (attribute_of k e)) where
      go : (t : Bool) → Marked (cond t (stops_at R 34 line) (goes_on R line (inside (with_attribute k (had n v) e))))
      go true = marked_stop 34
      go false = marked_on (inside (with_attribute k (had n v) e)) (λ (j : Kind). few_with room k j n v e g f)

  -- ## The machine

  pub record MarkedState (S : State) : Type 0 where
    pub reading : Marked S.reading
    pub line : FewLine room S.line

  marked_byte : (S : State) (b : ℕ) → MarkedState S → MarkedState (byte room S b)
  unfolding byte going_byte take_line
  marked_byte S b m = go (is_going S.reading.stop) (eqb b 10) where
    R : Reading
    R = S.reading

    next : Reading
    next = on_line room R (suc R.count) R.entry (line_end S.line)

    go : (t u : Bool)
        → MarkedState (cond t (cond u (record { reading = cond t next R; line = no_line })
        (record { reading = R; line = line_byte (want_in room R.entry) S.line b })) S)
    go true true = record {
      reading = marked_line R m.reading (suc R.count) R.entry m.reading.entry (line_end S.line) (few_said room S.line m.line);
      line = few_fresh room;
    }
    go true false = record { reading = m.reading; line = few_byte room R.entry S.line b m.line }
    go false u = m

  -- THE LAW: a piece leaves rows that are well marked
  pub marked_feed : (S : State) (piece : List ℕ) → MarkedState S → MarkedState (feed room S piece)
  unfolding feed
  marked_feed S [] m = m
  marked_feed S (b ∷ piece) m = marked_feed (byte room S b) piece (marked_byte S b m)
