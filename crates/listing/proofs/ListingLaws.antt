-- A listing for C, case by case. Assumes nothing.
use Prim.Native.Nat.{ℕ, ◌≤◌, ◌<◌}
use mathlib.Core.Path.{◌≡◌, refl, sym, ap, ◌∙◌}
use mathlib.Core.List.{List}
use mathlib.Core.Bool.{Bool, true, false, cond}
use native.Mathlib.Omega.{arith}
use borrow.Author.Tests.{eq-eqb, ne_eqb, eqb-true, eqb-false, lt-ltb, le-ltb}
use lib.Dec.{eqb}
use lib.ListN.{length, set}
use lib.Seq.{sets}
use Rattle.tables.specs.Bytes.{parse}
use Rattle.tables.specs.Positions.{is_position}
use Rattle.tables.specs.Check.{tables_number, Sound}
use Rattle.tables.specs.declared.Position.{Position}
use Rattle.capi_tables.specs.Tables.{position_numbers, position_given}
use Rattle.listing.specs.Listing.{told_positions, onward, classes_at, Listing, untold, told, listing_number, listing}

-- ## What refuses

module _ (p o : List ℕ) (at : Position) (t : ℕ) (e : t ≡ tables_number p o) where
  pub number_tables : (t ≡ 0 → ⊥) → t ≡ listing_number p o at
  unfolding listing_number
  number_tables d = rw (← e, ne_eqb t 0 d)

  module _ (h : t ≡ 0) where
    pub number_nowhere : is_position (parse p o) at ≡ false → 16 ≡ listing_number p o at
    unfolding listing_number
    number_nowhere k = rw (← e, eq-eqb t 0 h, k)

    pub number_none : is_position (parse p o) at ≡ true → 0 ≡ listing_number p o at
    unfolding listing_number
    number_none k = rw (← e, eq-eqb t 0 h, k)

-- what is not refused
pub record Accepted (p o : List ℕ) (at : Position) : Type 0 where
  pub tables : Sound p o
  pub position : is_position (parse p o) at ≡ true

pub accepted : (p o : List ℕ) (at : Position) (n : ℕ) → n ≡ listing_number p o at → n ≡ 0 → Accepted p o at
unfolding listing_number Sound
accepted p o at n e z = go (tables_number p o) (is_position (parse p o) at) (eqb (tables_number p o) 0) refl refl refl (sym z ∙ e)
  where
    go : (t : ℕ) (b z : Bool) → tables_number p o ≡ t → is_position (parse p o) at ≡ b → eqb t 0 ≡ z → 0 ≡ cond z (cond b 0 16) t → Accepted p o at
    go t true true s k f h = record { tables = s ∙ eqb-true t 0 f; position = k }
    go t false true s k f h = absurd (omega arith)
    go t b false s k f h = absurd (eqb-false t 0 f (sym h))

-- ## The clauses of the contract

abbrev Four : Listing → ℕ → List ℕ → List ℕ → List ℕ → Type 0
Four x a q l d = (a ≡ x.answer) × ((q ≡ x.position) × ((l ≡ x.out) × (d ≡ x.done)))

four : {x y : Listing} → x ≡ y → Four x y.answer y.position y.out y.done
four e = ((λ i. (sym e i).answer), ((λ i. (sym e i).position), ((λ i. (sym e i).out), (λ i. (sym e i).done))))

module _ (p o q l d : List ℕ) (n : ℕ) (at : Position) (g : at ≡ position_given q) (e : n ≡ listing_number p o at) where
  number_is : n ≡ listing_number p o (position_given q)
  number_is = e ∙ ap (listing_number p o) g

  is_refused : (n ≡ 0 → ⊥) → listing p o q l d ≡ untold n q l d
  unfolding listing
  is_refused z = rw (← number_is, ne_eqb n 0 z)

  pub listing_refused : (n ≡ 0 → ⊥) → Four (listing p o q l d) n q l d
  unfolding untold
  listing_refused z = four (is_refused z)

  is_short : n ≡ 0 → length d < 1 → listing p o q l d ≡ untold 17 q l d
  unfolding listing
  is_short z h = rw (← number_is, eq-eqb n 0 z, lt-ltb (length d) 1 h)

  pub listing_short : n ≡ 0 → length d < 1 → Four (listing p o q l d) 17 q l d
  unfolding untold
  listing_short z h = four (is_short z h)

  is_told : n ≡ 0 → 1 ≤ length d → listing p o q l d ≡ told (parse p o) at q l d
  unfolding listing
  is_told z h = rw (← number_is, eq-eqb n 0 z, le-ltb (length d) 1 h, g)

  pub listing_told : n ≡ 0 → 1 ≤ length d → (k : ℕ) (v : Position) (q' l' d' : List ℕ) → k ≡ length (told_positions (parse p o) at l) →
      v ≡ onward (length (told_positions (parse p o) at l)) (parse p o) at →
      l' ≡ sets l 0 (classes_at (parse p o) (told_positions (parse p o) at l)) →
      q' ≡ sets q 0 (position_numbers v) → d' ≡ set d 0 k → Four (listing p o q l d) 0 q' l' d'
  unfolding told
  listing_told z h k v q' l' d' a b c f r =
      let w = four (is_told z h) in (
        w.0,
        (
          f ∙ ap (λ (u : Position). sets q 0 (position_numbers u)) b ∙ w.1.0,
          (c ∙ w.1.1.0, r ∙ ap (λ (u : ℕ). set d 0 u) a ∙ w.1.1.1),
        ),
      )
