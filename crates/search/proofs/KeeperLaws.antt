-- The keeper, case by case as the code finds it. Assumes nothing.
use mathlib.Core.Path.{◌≡◌, refl, sym, ap, ◌∙◌}
use Rattle.std.specs.Prelude.{Option, Some, None}
use mathlib.Core.Bool.{Bool, true, false, cond}
use mathlib.Core.List.{List, ◌∷◌}
use Prim.Native.Nat.{ℕ, ◌+◌}
use native.Mathlib.Omega.{arith}
use lib.ListN.{take, drop}
use Rattle.layout.specs.declared.Slot.{Slot}
use Rattle.fid.specs.declared.OstFid.{OstFid}
use Rattle.tables.specs.Records.{ParentRow, Tables}
use Rattle.tables.specs.Positions.{slots_of, row_at, width}
use Rattle.rules.specs.Search.{slot_from, or_else, is_somewhere}
use Rattle.rules.specs.Rows.{parent_row, names_at, scan, named, object_of}
use Rattle.rules.specs.Keeper.{claim_in, in_claimed, at_claimed, keeper_by, keeper}
use Rattle.rules.specs.Compared.{up_to, hit, in_turn}
use Rattle.rules.proofs.ComparedLaws.{turn_hit, turn_miss, hit_claimed}
use Rattle.rules.proofs.Tests.{clash}
use Rattle.rules.proofs.Searches.{OneParent, FirstPlace, nowhere, first, scan_first, keeper_names}
use Rattle.rules.proofs.Looks.{look_at, look_in, keeper_looks}
use Rattle.tables.specs.declared.Place.{Place}
use Rattle.search.proofs.PlaceSearch.{or_hit, or_miss}

module _ (ps : List ParentRow) (f : OstFid) (home : Place) (one : OneParent ps) where
  -- the claimed parent is absent
  pub keeper_absent : parent_row ps home.file ≡ None → scan ps (names_at ps f) ≡ keeper_by ps f (Some home)
  unfolding look_at look_in or_else
  keeper_absent e = rw (keeper_looks ps f home one, e)

  -- it is in row m: "the claimed slot if that one names it; else the first slot naming it in the claimed parent; else the first in scan order"
  pub keeper_in : (m : ℕ) → parent_row ps home.file ≡ Some m →
      or_else (cond (names_at ps f m home.index) (Some (m, home.index)) None) (or_else (slot_from m (width ps m) 0 (names_at ps f)) (scan ps (names_at ps f)))
      ≡ keeper_by ps f (Some home)
  unfolding look_at look_in
  keeper_in m e = rw (keeper_looks ps f home one, e)

-- ## One case after another: the first finds `here` among its slots or nothing, the others find `there`

module _ (f : OstFid) (l : List Slot) (rest : List (List Slot)) (here there : Option (ℕ × ℕ)) (e : hit f l ≡ is_somewhere here) (x : Option (ℕ × ℕ)) (n : ℕ) (q : x ≡ here) (k : n ≡ up_to f l) where
  pub turn_found : is_somewhere x ≡ true → (x ≡ or_else here there) × (n ≡ in_turn f (l ∷ rest))
  turn_found t = (or_hit here there x q t, k ∙ turn_hit f l rest (e ∙ ap is_somewhere (sym q) ∙ t))

  pub turn_next : is_somewhere x ≡ false → (y : Option (ℕ × ℕ)) (m : ℕ) → y ≡ there → m ≡ in_turn f rest → (y ≡ or_else here there) × (n + m ≡ in_turn f (l ∷ rest))
  turn_next t y m u v =
      (u ∙ sym (or_miss here there x q t), ap (λ (w : ℕ). w + m) k ∙ turn_miss f l rest m (e ∙ ap is_somewhere (sym q) ∙ t) v)

-- the claimed slot is a hit where it is found
pub hit_there : (ps : List ParentRow) (f : OstFid) (r j : ℕ) → hit f (take 1 (drop j (slots_of (row_at ps r)))) ≡ is_somewhere (cond (names_at ps f r j) (Some (r, j)) None)
hit_there ps f r j = hit_claimed ps f r j ∙ go (names_at ps f r j)
  where
    go : (b : Bool) → b ≡ is_somewhere (cond b (Some (r, j)) None)
    go true = refl
    go false = refl

-- the keeper is that of the object's claim
pub keeper_is : (T : Tables) (f : OstFid) (c : Option Place) → c ≡ claim_in (object_of T.objects f) → keeper_by T.parents f c ≡ keeper T f
unfolding keeper
keeper_is T f c e = rw e

-- ## A FID is named where it has a keeper, whatever is claimed

unnamed : {P : ℕ → ℕ → Bool} {a : Option (ℕ × ℕ)} → FirstPlace P a → a ≡ None → (r j : ℕ) → P r j ≡ false
unnamed (nowhere f) e r j = f r j
unnamed (first t f g) e r j = let z : ◌≡◌ {A = ℕ} 0 1 = cc in absurd (omega arith)

last_found : (a b : Option (ℕ × ℕ)) (r j : ℕ) → is_somewhere (or_else a (or_else b (Some (r, j)))) ≡ true
unfolding or_else
last_found (Some (k, i)) b r j = refl
last_found None (Some (k, i)) r j = refl
last_found None None r j = refl

pub named_kept : (ps : List ParentRow) (f : OstFid) (c : Option Place) → is_somewhere (keeper_by ps f c) ≡ named ps f
unfolding named keeper_by
named_kept ps f c = go (scan ps (names_at ps f)) refl
  where
    none : scan ps (names_at ps f) ≡ None → (k : Option (ℕ × ℕ)) → keeper_by ps f c ≡ k → is_somewhere k ≡ is_somewhere None
    none e None q = refl
    none e (Some (r, j)) q = clash (keeper_names ps f c r j q) (unnamed (scan_first ps f (names_at ps f) (λ r j t. t)) e r j)

    some : (a : Option (ℕ × ℕ)) (r j : ℕ) → a ≡ Some (r, j) → is_somewhere (or_else (scan ps (at_claimed ps f c)) (or_else (scan ps (in_claimed ps f c)) a)) ≡ is_somewhere a
    some a r j e = rw e (last_found (scan ps (at_claimed ps f c)) (scan ps (in_claimed ps f c)) r j)

    go : (a : Option (ℕ × ℕ)) → scan ps (names_at ps f) ≡ a → is_somewhere (keeper_by ps f c) ≡ is_somewhere (scan ps (names_at ps f))
    go None e = none e (keeper_by ps f c) refl ∙ ap is_somewhere (sym e)
    go (Some (r, j)) e = some (scan ps (names_at ps f)) r j e
