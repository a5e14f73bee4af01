-- The search for a keeper, and what is handed out of it, case by case. Assumes nothing.
use mathlib.Core.Path.{◌≡◌, refl, sym, ◌∙◌}
use Rattle.std.specs.Prelude.{Option, Some, None}
use Rattle.tables.specs.declared.Object.{Object}
use Rattle.tables.specs.declared.Place.{Place}
use mathlib.Core.List.{List, [], ◌∷◌}
use Prim.Native.Nat.{ℕ, ◌≤◌, ◌<◌}
use lib.ListN.{length}
use lib.Seq.{sets}
use Rattle.fid.specs.declared.OstFid.{OstFid}
use Rattle.tables.specs.Bytes.{parse, parse_parents, parse_objects}
use Rattle.rules.specs.Rows.{object_of}
use Rattle.rules.specs.Keeper.{claim_in, keeper_by, keeper}
use Rattle.rules.specs.Compared.{compared_by, compared}
use Rattle.capi_out.specs.Out.{out_answer, out_numbers}
use Rattle.capi_out.proofs.OutLaws.{out_refused, out_short, out_done}
use Rattle.capi_keeper.specs.Keepers.{asked, keeper_number, place_numbers, keeper_numbers}

-- ## The search, by what the object claims

module _ (p o : List ℕ) (f : OstFid) (x : Option Object) (c : Option Place) (l : x ≡ object_of (parse_objects o) f) (e : c ≡ claim_in x) where
  pub place_is : (k : Option (ℕ × ℕ)) → k ≡ keeper_by (parse_parents p) f c → k ≡ keeper (parse p o) f
  unfolding keeper
  place_is k q = rw (q, e, l)

  pub count_is : (n : ℕ) → n ≡ compared_by (parse_parents p) f c → n ≡ compared (parse p o) f
  unfolding compared
  count_is n q = rw (q, e, l)

-- ## Its four numbers

module _ (l y : List ℕ) (k : Option (ℕ × ℕ)) (n : ℕ) where
  pub put_nowhere : k ≡ None → y ≡ sets l 0 (0 ∷ 0 ∷ 0 ∷ n ∷ []) → y ≡ sets l 0 (place_numbers k n)
  unfolding place_numbers
  put_nowhere e q = rw (e, q)

  pub put_place : (r j : ℕ) → k ≡ Some (r, j) → y ≡ sets l 0 (1 ∷ r ∷ j ∷ n ∷ []) → y ≡ sets l 0 (place_numbers k n)
  unfolding place_numbers
  put_place r j e q = rw (e, q)

place_four : (k : Option (ℕ × ℕ)) (n : ℕ) → length (place_numbers k n) ≡ 4
unfolding place_numbers
place_four None n = refl
place_four (Some (r, j)) n = refl

-- ## What is handed out

module _ (p o : List ℕ) (s i : ℕ) (out : List ℕ) where
  -- the answer, and what out holds then
  abbrev pub Told : ℕ → List ℕ → Type 0
  Told r x = (r ≡ out_answer (keeper_number p o s i) (keeper_numbers p o s i) out) × (x ≡ out_numbers (keeper_number p o s i) (keeper_numbers p o s i) out)

  four : length (keeper_numbers p o s i) ≡ 4
  unfolding keeper_numbers
  four = place_four (keeper (parse p o) (asked s i)) (compared (parse p o) (asked s i))

  module _ (n : ℕ) (e : n ≡ keeper_number p o s i) where
    pub told_none : (n ≡ 0 → ⊥) → Told n out
    told_none h = out_refused (keeper_number p o s i) (keeper_numbers p o s i) out n (sym e) h

    module _ (z : n ≡ 0) where
      pub told_short : length out < 4 → Told 17 out
      told_short h = out_short (keeper_number p o s i) (keeper_numbers p o s i) out (sym e ∙ z) (rw four h)

      pub told_done : (f : OstFid) (k : Option (ℕ × ℕ)) (m : ℕ) (x : List ℕ) → 4 ≤ length out → f ≡ asked s i → k ≡ keeper (parse p o) f → m ≡ compared (parse p o) f →
          x ≡ sets out 0 (place_numbers k m) → Told 0 x
      unfolding keeper_numbers
      told_done f k m x h a b d q = out_done (keeper_number p o s i) (keeper_numbers p o s i) out x (sym e ∙ z) (rw four h) (rw (← a, ← b, ← d) q)
