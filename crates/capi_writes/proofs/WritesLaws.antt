-- The writes of a step as numbers, case by case. Assumes nothing.
use mathlib.Core.Path.{◌≡◌, refl, sym, ap, ◌∙◌}
use mathlib.Core.List.{List, [], ◌∷◌, ◌++◌}
use mathlib.Core.Bool.{true, false}
use Prim.Native.Nat.{ℕ, suc, ◌+◌, ◌*◌, ◌≤◌, ◌<◌}
use native.Mathlib.Omega.{arith}
use borrow.Author.Tests.{eq-eqb, ne_eqb, lt-ltb, le-ltb}
use lib.ListN.{length, drop, set}
use lib.Seq.{sets}
use Rattle.wire.proofs.Splice.{sets_front}
use Rattle.tables.specs.Check.{check_number}
use Rattle.tables.specs.Positions.{is_end}
use Rattle.tables.specs.declared.Position.{Position}
use Rattle.rules.specs.Cuts.{Target, target}
use Rattle.rules.specs.declared.Step.{Step}
use Rattle.rules.specs.declared.Write.{Write}
use Rattle.rules.specs.declared.Write.TheVariants.{Nothing, Object as PutObject, Destroy, Own, Slot as PutSlot, Grow as GrowTo, Make}
use Rattle.repair.specs.StepBytes.{step_of}
use Rattle.decide.specs.Ready.{StepReady}
use Rattle.steps.proofs.Standing.{accepted_ready}
use Rattle.capi_writes.specs.Writes.{writes_size, table_of, row_of, row_numbers, writes_numbers, step_number, writes_answer, told, writes_out}

-- ## Table and row of a write

module _ (n : ℕ) (l : List ℕ) (w : Write) where
  -- r is where the next write goes, and x is l with the numbers of this one
  unfoldable pub Put : ℕ → List ℕ → Type 0
  Put r x = (r ≡ n + length (target w)) × (x ≡ sets l (1 + 2 * n) (row_numbers (target w)))

  pub put_left_out : w ≡ Nothing → Put n l
  unfolding Put target row_numbers
  put_left_out e = let z : n ≡ n + 0 = omega arith in rw e (z, refl)

  pub put_target : (t : Target) → target w ≡ t ∷ [] → (r : ℕ) (x : List ℕ) → (r ≡ n + 1) × (x ≡ sets l (1 + 2 * n) (table_of t ∷ row_of t ∷ [])) → Put r x
  unfolding Put row_numbers
  put_target t e r x h = rw e h

-- ## All numbers

-- no writes, or one
data Short : List Target → Type 0 where
  none : Short []
  one : (t : Target) → Short (t ∷ [])

target_short : (w : Write) → Short (target w)
unfolding target
target_short Nothing = none
target_short (PutObject o x) = one _
target_short (Destroy o) = one _
target_short (Own r) = one _
target_short (PutSlot r j s) = one _
target_short (GrowTo r i s) = one _
target_short (Make r f w i s) = one _

short_one : {l : List Target} → Short l → length l ≤ 1
short_one none = omega arith
short_one (one t) = omega arith

-- a write is of at most one row
pub target_one : (w : Write) → length (target w) ≤ 1
target_one w = short_one (target_short w)

-- zeros, and the numbers of up to three writes put into them
filled : (l : List ℕ) {a b c : List Target} → Short a → Short b → Short c →
    set (sets (sets (sets (writes_numbers [] ++ l) (1 + 2 * 0) (row_numbers a)) (1 + 2 * (0 + length a)) (row_numbers b))
    (1 + 2 * (0 + length a + length b)) (row_numbers c)) 0 (0 + length a + length b + length c) ≡ writes_numbers (a ++ b ++ c) ++ l
unfolding writes_numbers row_numbers
filled l none none none = refl
filled l none none (one u) = refl
filled l none (one t) none = refl
filled l none (one t) (one u) = refl
filled l (one s) none none = refl
filled l (one s) none (one u) = refl
filled l (one s) (one t) none = refl
filled l (one s) (one t) (one u) = refl

seven : {a b c : List Target} → Short a → Short b → Short c → length (writes_numbers (a ++ b ++ c)) ≡ writes_size
unfolding writes_numbers row_numbers
seven none none none = refl
seven none none (one u) = refl
seven none (one t) none = refl
seven none (one t) (one u) = refl
seven (one s) none none = refl
seven (one s) none (one u) = refl
seven (one s) (one t) none = refl
seven (one s) (one t) (one u) = refl

-- as many numbers at the front, and the rest
front : (v l : List ℕ) → length v ≡ writes_size → writes_size ≤ length l → sets l 0 v ≡ v ++ drop writes_size l
front v l e h = sets_front v l (omega arith) ∙ ap (λ (n : ℕ). v ++ drop n l) e

module _ (l : List ℕ) (h : writes_size ≤ length l) (a b c : Write) where
  -- what is handed out stands at the front
  pub numbers_front : sets l 0 (writes_numbers (target a ++ target b ++ target c)) ≡ writes_numbers (target a ++ target b ++ target c) ++ drop writes_size l
  numbers_front = front (writes_numbers (target a ++ target b ++ target c)) l (seven (target_short a) (target_short b) (target_short c)) h

  pub writes_put : (l₀ l₁ l₂ l₃ x : List ℕ) (i j k : ℕ) → l₀ ≡ sets l 0 (writes_numbers []) → Put 0 l₀ a i l₁ → Put i l₁ b j l₂ → Put j l₂ c k l₃ →
      x ≡ set l₃ 0 k → x ≡ sets l 0 (writes_numbers (target a ++ target b ++ target c))
  unfolding Put
  writes_put l₀ l₁ l₂ l₃ x i j k p q r s e =
      let f = front (writes_numbers []) l (seven none none none) h in
      rw (e, s.1, s.0, r.1, r.0, q.1, q.0, p, f, numbers_front) (filled (drop writes_size l) (target_short a) (target_short b) (target_short c))

-- ## The answer, and what is handed out

module _ (p o s : List ℕ) (policy : ℕ) (at : Position) (out : List ℕ) (n : ℕ) (e : n ≡ check_number p o s policy at) where
  -- r is the answer, and x what is handed out
  unfoldable pub Told : ℕ → List ℕ → Type 0
  Told r x = (r ≡ writes_answer p o s policy at out) × (x ≡ writes_out p o s policy at out)

  pub writes_refused : (n ≡ 0 → ⊥) → Told n out
  unfolding Told writes_answer writes_out
  writes_refused d = (rw (← e, ne_eqb n 0 d), rw (← e, ne_eqb n 0 d))

  module _ (h : n ≡ 0) where
    pub writes_end : is_end at ≡ true → Told 16 out
    unfolding Told writes_answer writes_out
    writes_end k = (rw (← e, eq-eqb n 0 h, k), rw (← e, eq-eqb n 0 h, k))

    pub writes_short : is_end at ≡ false → length out < writes_size → Told 17 out
    unfolding Told writes_answer writes_out
    writes_short k m = (rw (← e, eq-eqb n 0 h, k, lt-ltb (length out) writes_size m), rw (← e, eq-eqb n 0 h, k, lt-ltb (length out) writes_size m))

    pub writes_ready : is_end at ≡ false → StepReady p o s at
    writes_ready k =
        let r = accepted_ready p o s policy at (sym e ∙ h) in
        record { tables = r.tables; reserve = r.reserve; position = r.position; before_end = k }

    pub writes_told : is_end at ≡ false → writes_size ≤ length out → (d : Step) → d ≡ step_of p o s policy at → (r : ℕ) (x : List ℕ) → r ≡ step_number d →
        x ≡ told d out → Told r x
    unfolding Told writes_answer writes_out
    writes_told k m d q r x a b =
        (rw (← e, eq-eqb n 0 h, k, le-ltb (length out) writes_size m, ← q) a, rw (← e, eq-eqb n 0 h, k, le-ltb (length out) writes_size m, ← q) b)
