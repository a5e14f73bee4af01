-- A record that the cursor finds ends inside the bytes.
use Prim.Native.Nat.{ℕ, ◌+◌, ◌-◌, ◌≤◌}
use native.Mathlib.Omega.{arith}
use mathlib.Core.Path.{◌≡◌, refl, ap, subst, ◌∙◌}
use mathlib.Core.List.{List}
use mathlib.Core.Bool.{Bool, true, false, cond}
use lib.ListN.{length, take, drop}
use lib.Dec.{ltb, leb}
use Rattle.std.specs.Prelude.{Option, Some, None, Result, Ok, Err}
use Rattle.refusals.specs.declared.Refusal.{Refusal}
use Rattle.refusals.specs.declared.Refusal.TheVariants.{BadLink}
use Rattle.linkea.specs.Link.{link_header}
use Rattle.linkea.specs.Conditions.{bad_record}
use Rattle.linkea.specs.Walk.{name_given}
use Rattle.linkea.specs.Answers.{found_at, step_at}
use Rattle.linkea.specs.declared.Found.{Found}
use Rattle.linkea.proofs.PlaceLaws.{clash, good_record}

is_record : Result (Option Found) Refusal → Bool
is_record (Err e) = false
is_record (Ok None) = false
is_record (Ok (Some x)) = true

record_or : Found → Result (Option Found) Refusal → Found
record_or y (Err e) = y
record_or y (Ok None) = y
record_or y (Ok (Some x)) = x

-- a step that is a record is the one found, and the record was tested
tested : (a b c : Bool) (y x : Found) → cond a (Err BadLink) (cond b (Ok None) (cond c (Err BadLink) (Ok (Some y)))) ≡ Ok (Some x) → (c ≡ false) × (y ≡ x)
unfolding is_record record_or
tested true b c y x e = clash (ap is_record e)
tested false true c y x e = clash (ap is_record e)
tested false false true y x e = clash (ap is_record e)
tested false false false y x e = (refl, ap (record_or y) e)

inside : (l : List ℕ) (p : ℕ) → bad_record l p ≡ false → (found_at l p).start + (found_at l p).size ≤ length l
unfolding found_at
inside l p e =
    let g = good_record l p e in
    omega (arith, g.long, g.inside)

pub found_inside : (l : List ℕ) (p : ℕ) (x : Found) → step_at l p ≡ Ok (Some x) → x.start + x.size ≤ length l
unfolding step_at
found_inside l p x e =
    let t = tested (ltb p link_header) (leb (length l) p) (bad_record l p) (found_at l p) x e in
    subst (λ (y : Found). y.start + y.size ≤ length l) t.1 (inside l p t.0)

plus_less : (a n : ℕ) → a + n - a ≡ n
plus_less a n = omega arith

-- the part from a record's start to its end is its name
pub name_part : (l : List ℕ) (p : ℕ) (x : Found) → Ok (Some x) ≡ step_at l p → take (x.start + x.size - x.start) (drop x.start l) ≡ name_given l (step_at l p)
unfolding name_given
name_part l p x e = ap (λ (n : ℕ). take n (drop x.start l)) (plus_less x.start x.size) ∙ ap (name_given l) e
