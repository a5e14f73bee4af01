-- What is kept of a value is at most what is wanted of its kind, byte by byte. Assumes nothing.
use Prim.Native.Nat.{ℕ, suc, ◌+◌, ◌*◌, ◌≤◌, ◌<◌}
use mathlib.Core.Path.{◌≡◌, refl}
use mathlib.Core.List.{List, [], ◌∷◌, ◌++◌}
use mathlib.Core.Bool.{Bool, true, false, cond}
use native.Mathlib.Omega.{arith}
use lib.ListN.{length, drop, length-append}
use lib.Dec.{ltb}
use borrow.Author.Tests.{ltb-true, ltb-false}
use Rattle.intake.specs.declared.Kind.{Kind}
use Rattle.intake.specs.declared.Kind.TheVariants.{Lov, Fid, Lma, Other}
use Rattle.intake.specs.Says.{Line, opens, closes, skipped, bad, takes, starts, is_digit, digit, kind_of, good_size, sized, attribute, is_empty, judge, wanted, file_word, trusted_word, value_word}
use Rattle.intake.specs.Reading.{Attribute, none, had, Entry, Open, outside, inside, has, attribute_of, with_attribute}
use Rattle.intake.specs.Machine.{Digits, broken, even, odd, store, digit_byte, value_of, Partial, no_line, line_byte, line_end, want_in}

-- ## The bytes that are kept

unfoldable pub kept_of : Attribute → List ℕ
kept_of none = []
kept_of (had n v) = v

unfoldable pub kept_digits : Digits → List ℕ
kept_digits broken = []
kept_digits (even n v) = v
kept_digits (odd h n v) = v

unfoldable pub counted : Digits → ℕ
counted broken = 0
counted (even n v) = n
counted (odd h n v) = n

module _ (room : ℕ) where
  -- of an open entry, of an unfinished line (nothing before its digits), and of a complete one
  unfoldable pub FewOpen : Open → Type 0
  FewOpen outside = Unit {0}
  FewOpen (inside e) = (k : Kind) → length (kept_of (attribute_of k e)) ≤ wanted room k

  pub record FewLine (p : Partial) : Type 0 where
    pub count : length (kept_digits p.digits) ≤ counted p.digits
    pub head : length p.head < 14 → length (kept_digits p.digits) ≡ 0
    pub most : length (kept_digits p.digits) ≤ wanted room (kind_of p.head)

  unfoldable pub FewSaid : Line → Type 0
  FewSaid opens = Unit {0}
  FewSaid closes = Unit {0}
  FewSaid skipped = Unit {0}
  FewSaid bad = Unit {0}
  FewSaid (takes k n v) = length v ≤ wanted room k

  -- ## A byte of a line

  pub want_few : (o : Open) (k : Kind) → want_in room o k ≤ wanted room k
  unfolding want_in
  want_few outside k = omega arith
  want_few (inside e) k = go (has (attribute_of k e)) where
    go : (t : Bool) → cond t 0 (wanted room k) ≤ wanted room k
    go true = omega arith
    go false = omega arith

-- digits of which so many are counted and at most so many kept
Few : ℕ → Digits → Type 0
Few w d = (length (kept_digits d) ≤ counted d) × (length (kept_digits d) ≤ w)

few_broken : (w : ℕ) → Few w broken
unfolding Few kept_digits counted
few_broken w = (omega arith, omega arith)

few_store : (w most n : ℕ) (v : List ℕ) (b : ℕ) → most ≤ w → length v ≤ n → length v ≤ w → Few w (even (suc n) (store most n v b))
unfolding Few kept_digits counted store
few_store w most n v b m c h = go (ltb n most) refl where
  go : (t : Bool) → ltb n most ≡ t → (length (cond t (v ++ b ∷ []) v) ≤ suc n) × (length (cond t (v ++ b ∷ []) v) ≤ w)
  go true e = let a = length-append v (b ∷ []) in (omega (arith, a, c), omega (arith, a, c, m, ltb-true n most e))
  go false e = (omega arith, h)

few_digit : (w most : ℕ) (d : Digits) (b : ℕ) → most ≤ w → Few w d → Few w (digit_byte most d b)
unfolding Few digit_byte kept_digits counted
few_digit w most broken b m f = f
few_digit w most (even n v) b m f = go (is_digit b) where
  go : (t : Bool) → Few w (cond t (odd (digit b) n v) broken)
  go true = f
  go false = few_broken w
few_digit w most (odd h n v) b m f = go (is_digit b) where
  go : (t : Bool) → Few w (cond t (even (suc n) (store most n v (16 * h + digit b))) broken)
  go true = few_store w most n v (16 * h + digit b) m f.0 f.1
  go false = few_broken w

module _ (room : ℕ) where
  pub few_fresh : FewLine room no_line
  unfolding no_line kept_digits counted
  few_fresh = record { count = omega arith; head = λ h. refl; most = omega arith }

  pub few_byte : (o : Open) (p : Partial) (b : ℕ) → FewLine room p → FewLine room (line_byte (want_in room o) p b)
  unfolding line_byte Few
  few_byte o p b f = go (ltb (length p.head) 14) refl where
    d : Digits
    d = digit_byte (want_in room o (kind_of p.head)) p.digits b

    next : Few (wanted room (kind_of p.head)) d
    next = few_digit (wanted room (kind_of p.head)) (want_in room o (kind_of p.head)) p.digits b (want_few room o (kind_of p.head)) (f.count, f.most)

    go : (t : Bool) → ltb (length p.head) 14 ≡ t
        → FewLine room (cond t (record { head = p.head ++ b ∷ []; digits = p.digits }) (record { head = p.head; digits = d }))
    go true e =
        let z : length (kept_digits p.digits) ≡ 0 = f.head (ltb-true (length p.head) 14 e) in
        record { count = f.count; head = λ h. z; most = omega (arith, z) }
    go false e = record {
      count = next.0;
      head = λ h. absurd (omega (arith, h, ltb-false (length p.head) 14 e));
      most = next.1;
    }

  -- ## A line's end

  few_sized : (k : Kind) (d : Digits) → length (kept_digits d) ≤ wanted room k → FewSaid room (sized k (value_of d))
  unfolding sized value_of FewSaid kept_digits
  few_sized k broken h = tt
  few_sized k (odd a n v) h = tt
  few_sized k (even n v) h = go (good_size k n) where
    go : (t : Bool) → FewSaid room (cond t (takes k n v) bad)
    go true = h
    go false = tt

  few_attribute : (k : Kind) (a : List ℕ) (d : Digits) → length (kept_digits d) ≤ wanted room k → FewSaid room (attribute k a (value_of d))
  unfolding attribute FewSaid
  few_attribute Other a d h = tt
  few_attribute Lov a d h = go (starts value_word a) where
    go : (t : Bool) → FewSaid room (cond t (sized Lov (value_of d)) bad)
    go true = few_sized Lov d h
    go false = tt
  few_attribute Fid a d h = go (starts value_word a) where
    go : (t : Bool) → FewSaid room (cond t (sized Fid (value_of d)) bad)
    go true = few_sized Fid d h
    go false = tt
  few_attribute Lma a d h = go (starts value_word a) where
    go : (t : Bool) → FewSaid room (cond t (sized Lma (value_of d)) bad)
    go true = few_sized Lma d h
    go false = tt

  -- what a line says at its end keeps no more either
  pub few_said : (p : Partial) → FewLine room p → FewSaid room (line_end p)
  unfolding line_end judge FewSaid
  few_said p f = go (is_empty p.head) (starts file_word p.head) (starts trusted_word p.head) where
    go : (a b c : Bool) → FewSaid room (cond a closes (cond b opens (cond c (attribute (kind_of p.head) (drop 11 p.head) (value_of p.digits)) bad)))
    go true b c = tt
    go false true c = tt
    go false false true = few_attribute (kind_of p.head) (drop 11 p.head) p.digits f.most
    go false false false = tt

  -- an entry that opens, and an attribute that is taken in
  pub few_none : (line : ℕ) (k : Kind) → length (kept_of (attribute_of k (record { from = line; lov = none; fid = none; lma = none }))) ≤ wanted room k
  unfolding attribute_of kept_of
  few_none line Lov = omega arith
  few_none line Fid = omega arith
  few_none line Lma = omega arith
  few_none line Other = omega arith

  pub few_with : (k j : Kind) (n : ℕ) (v : List ℕ) (e : Entry) → length v ≤ wanted room k → ((i : Kind) → length (kept_of (attribute_of i e)) ≤ wanted room i)
      → length (kept_of (attribute_of j (with_attribute k (had n v) e))) ≤ wanted room j
  unfolding with_attribute attribute_of kept_of
  few_with Lov Lov n v e h f = h
  few_with Lov Fid n v e h f = f Fid
  few_with Lov Lma n v e h f = f Lma
  few_with Lov Other n v e h f = f Other
  few_with Fid Lov n v e h f = f Lov
  few_with Fid Fid n v e h f = h
  few_with Fid Lma n v e h f = f Lma
  few_with Fid Other n v e h f = f Other
  few_with Lma Lov n v e h f = f Lov
  few_with Lma Fid n v e h f = f Fid
  few_with Lma Lma n v e h f = h
  few_with Lma Other n v e h f = f Other
  few_with Other j n v e h f = f j
