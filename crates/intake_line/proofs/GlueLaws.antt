-- The open entry while a line is read: what is wanted of a line, and what stays. Assumes nothing.
use Prim.Native.Nat.{ℕ, ◌-◌, ◌≤◌}
use mathlib.Core.Path.{◌≡◌, refl, sym, ap, ◌∙◌}
use mathlib.Core.List.{List}
use mathlib.Core.Bool.{Bool, true, false, cond}
use lib.ListN.{length, take, drop}
use lib.Dec.{eqb}
use borrow.Author.Tests.{eq-eqb, ne_eqb, eqb-true, eqb-false}
use Rattle.intake.specs.declared.Kind.{Kind}
use Rattle.intake.specs.declared.Kind.TheVariants.{Lov, Fid, Lma}
use Rattle.intake_bytes.specs.declared.Marks.{Marks}
use Rattle.intake_bytes.specs.declared.Unfinished.{Unfinished}
use Rattle.intake.specs.Says.{wanted, kind_of}
use Rattle.intake.specs.Reading.{Attribute, none, had, Entry, Reading, is_going, take_line, has}
use Rattle.intake.specs.Machine.{Partial, no_line, line_end, going_byte, byte, want_in}
use Rattle.intake_bytes.specs.Lent.{mark_of, want_of, kept_in, part_of, Held, Others}
use Rattle.intake_line.specs.Entry.{attribute_in, entry_in, open_in}
use Rattle.intake_line.proofs.EntryLaws.{kind_in, has_not, has_one, open_out, open_in_lem}

-- the code and the machine want the same of each kind; outside an entry there are no marks
module _ (buf : List ℕ) (m : Marks) where
  pub want_open : (from : ℕ) → (from ≡ 0 → (k : Kind) → mark_of m k ≡ 0) → (k : Kind)
      → want_in (length buf - 208) (open_in buf from m) k ≡ want_of m (length buf) k
  unfolding want_in want_of
  want_open from z k = go (eqb from 0) refl where
    marked : (t : Bool) → eqb (mark_of m k) 0 ≡ t → cond (has (attribute_in buf k (mark_of m k))) 0 (wanted (length buf - 208) k) ≡ cond t (wanted (length buf - 208) k) 0
    marked true e = rw (has_not buf k (mark_of m k) (eqb-true (mark_of m k) 0 e))
    marked false e = rw (has_one buf k (mark_of m k) (eqb-false (mark_of m k) 0 e))

    go : (t : Bool) → eqb from 0 ≡ t → want_in (length buf - 208) (open_in buf from m) k ≡ cond (eqb (mark_of m k) 0) (wanted (length buf - 208) k) 0
    go true e = rw (open_out buf from m (eqb-true from 0 e), eq-eqb (mark_of m k) 0 (z (eqb-true from 0 e) k))
    go false e = rw (open_in_lem buf from m (eqb-false from 0 e), kind_in buf from m k) (marked (eqb (mark_of m k) 0) refl)

-- what a line's bytes leave of the entry
module _ (before after : List ℕ) (m : Marks) (long : length after ≡ length before) (o : Others (want_of m (length before)) before after) where
  kept : (k : Kind) → (mark_of m k ≡ 0 → ⊥) → part_of (length after) k after ≡ part_of (length before) k before
  unfolding Others want_of
  kept k e = ap (λ (n : ℕ). part_of n k after) long ∙ o k (rw (ne_eqb (mark_of m k) 0 e))

  attribute_stays : (k : Kind) → attribute_in after k (mark_of m k) ≡ attribute_in before k (mark_of m k)
  unfolding attribute_in
  attribute_stays k = go (eqb (mark_of m k) 0) refl where
    go : (t : Bool) → eqb (mark_of m k) 0 ≡ t
        → cond t none (had (mark_of m k - 1) (take (mark_of m k - 1) (part_of (length after) k after)))
        ≡ cond t none (had (mark_of m k - 1) (take (mark_of m k - 1) (part_of (length before) k before)))
    go true e = refl
    go false e = ap (λ (l : List ℕ). had (mark_of m k - 1) (take (mark_of m k - 1) l)) (kept k (eqb-false (mark_of m k) 0 e))

  entry_stays : (from : ℕ) → entry_in after from m ≡ entry_in before from m
  unfolding entry_in mark_of
  entry_stays from = three _ _ _ _ _ _ (attribute_stays Lov) (attribute_stays Fid) (attribute_stays Lma) where
    three : (a b c d e f : Attribute) → a ≡ d → b ≡ e → c ≡ f
        → ◌≡◌ {A = Entry} (record { from = from; lov = a; fid = b; lma = c }) (record { from = from; lov = d; fid = e; lma = f })
    three a b c d e f p q r = rw (p, q, r)

  pub open_stays : (from : ℕ) → open_in after from m ≡ open_in before from m
  unfolding open_in
  open_stays from = rw (entry_stays from)

-- a taken value stands in its part
pub stands : (m : Marks) (buf : List ℕ) (x : Unfinished) (k : Kind) → Held (want_of m (length buf)) buf x → 14 ≤ x.seen → k ≡ kind_of (take 14 (drop 128 buf))
    → mark_of m k ≡ 0 → kept_in buf x ≡ take x.size (part_of (length buf) k buf)
unfolding kept_in part_of want_of
stands m buf x k g h q z =
    let most : x.most ≡ wanted (length buf - 208) k = g.keeps h ∙ ap (want_of m (length buf)) (sym q) ∙ rw (eq-eqb (mark_of m k) 0 z) refl in
    rw (most, g.at h, q)

-- the byte that ends a line
pub end_byte : (room : ℕ) (R : Reading) (p : Partial) → is_going R.stop ≡ true
    → byte room (record { reading = R; line = p }) 10 ≡ record { reading = take_line room R (line_end p); line = no_line }
unfolding byte going_byte
end_byte room R p e = rw e
