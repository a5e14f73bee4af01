-- Demand 3 of each call within a list: from that of the calls up to it. Assumes nothing.
use Prim.Native.Nat.{ℕ}
use native.Mathlib.Omega.{arith}
use mathlib.Core.Path.{◌≡◌, refl, sym, ap, subst, ◌∙◌}
use mathlib.Core.List.{List, [], ◌∷◌, ◌++◌}
use mathlib.Core.Logic.{inl, inr}
use Rattle.tables.specs.Positions.{start}
use Rattle.tables.specs.declared.Position.{Position}
use Rattle.theorems.specs.Calls.{Lent, tables_of, RunCall, call, Accepted, ran, leaves, passed_by, AtEnd, after, passed_after, Reached, Follows, Fair, uncut}
use Rattle.theorems.specs.Promises.{Begins, SameEnd, DemandThree, EachCall}
use Rattle.theorems.proofs.Lists.{demand_three}

fair_split : (policy : ℕ) (reserve : List ℕ) (t : Lent) (ps : List Position) (xs ys : List RunCall) → Fair policy reserve t ps (xs ++ ys) →
    Fair policy reserve t ps xs × Fair policy reserve (after t xs) (passed_after t ps xs) ys
unfolding Fair after passed_after
fair_split policy reserve t ps [] ys f = (tt, f)
fair_split policy reserve t ps (c ∷ xs) ys f =
    let k = fair_split policy reserve (leaves t c) (ps ++ passed_by t c) xs ys f.1 in ((f.0, k.0), k.1)

after_append : (t : Lent) (xs ys : List RunCall) → after t (xs ++ ys) ≡ after (after t xs) ys
unfolding after
after_append t [] ys = refl
after_append t (c ∷ xs) ys = after_append (leaves t c) xs ys

passed_append : (t : Lent) (ps : List Position) (xs ys : List RunCall) → passed_after t ps (xs ++ ys) ≡ passed_after (after t xs) (passed_after t ps xs) ys
unfolding after passed_after
passed_append t ps [] ys = refl
passed_append t ps (c ∷ xs) ys = passed_append (leaves t c) (ps ++ passed_by t c) xs ys

reached_last : (t : Lent) (xs : List RunCall) (c : RunCall) → Accepted (after t xs) c → AtEnd (ran (after t xs) c) → Reached t (xs ++ c ∷ [])
unfolding after Reached
reached_last t [] c a e = inl (a, e)
reached_last t (x ∷ xs) c a e = inr (reached_last (leaves t x) xs c a e)

-- demand 3 of each call c of a list, after the calls xs and before the calls ys
pub each_call : (policy : ℕ) (reserve : List ℕ) (t : Lent) (xs : List RunCall) (c : RunCall) (ys : List RunCall) → Begins policy reserve t →
    Fair policy reserve t (start (tables_of t) ∷ []) (xs ++ c ∷ ys) → EachCall policy reserve t xs c ys
unfolding Fair after passed_after AtEnd
each_call policy reserve t xs c ys b f =
    record {
      ended = λ a e. let r = reached_last t xs c a e in ((d1.ended r).0, sym same ∙ (d1.ended r).1, subst (λ (u : Lent). after u ys ≡ u) same (d1.kept r ys later));
      enough = λ a h. let w = s.1.0 a in subst (λ (k : RunCall). SameEnd (ran (after t xs) k) (uncut policy reserve t)) (sym (as_called w)) (d0.enough c.from w.handed c.steps (omega arith));
    }
  where
    ps : List Position
    ps = start (tables_of t) ∷ []

    s : Fair policy reserve t ps xs × Fair policy reserve (after t xs) (passed_after t ps xs) (c ∷ ys)
    s = fair_split policy reserve t ps xs (c ∷ ys) f

    d0 : DemandThree policy reserve t xs
    d0 = demand_three policy reserve t xs b s.0

    fair1 : Fair policy reserve t ps (xs ++ c ∷ [])
    fair1 = go t ps xs f
      where
        go : (u : Lent) (qs : List Position) (zs : List RunCall) → Fair policy reserve u qs (zs ++ c ∷ ys) → Fair policy reserve u qs (zs ++ c ∷ [])
        go u qs [] g = (g.0, tt)
        go u qs (z ∷ zs) g = (g.0, go (leaves u z) (qs ++ passed_by u z) zs g.1)

    d1 : DemandThree policy reserve t (xs ++ c ∷ [])
    d1 = demand_three policy reserve t (xs ++ c ∷ []) b fair1

    same : after t (xs ++ c ∷ []) ≡ leaves (after t xs) c
    same = after_append t xs (c ∷ [])

    as_called : Follows policy reserve (passed_after t ps xs) c → c ≡ call policy reserve c.steps c.from
    as_called w = ap (λ (p : ℕ). call p c.reserve c.steps c.from) w.same_policy ∙ ap (λ (l : List ℕ). call policy l c.steps c.from) w.same_reserve

    -- the later calls follow c's list
    later : Fair policy reserve (after t (xs ++ c ∷ [])) (passed_after t ps (xs ++ c ∷ [])) ys
    later =
        subst (λ (l : List Position). Fair policy reserve (after t (xs ++ c ∷ [])) l ys) (sym (passed_append t ps xs (c ∷ [])))
        (subst (λ (u : Lent). Fair policy reserve u (passed_after t ps xs ++ passed_by (after t xs) c) ys) (sym same) s.1.1)
