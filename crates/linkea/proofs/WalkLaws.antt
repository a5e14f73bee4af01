-- The walk by the cursor over a link_ea that is not refused. Assumes nothing.
use mathlib.Core.Path.{◌≡◌, refl, sym, ap, ◌∙◌}
use mathlib.Core.List.{List, ◌∷◌, map}
use mathlib.Core.Bool.{Bool, true, false}
use Prim.Native.Nat.{ℕ, zero, suc, ◌+◌, ◌≤◌, ◌<◌}
use borrow.Author.Tests.{ltb-true, ltb-false}
use native.Mathlib.Omega.{arith}
use lib.Dec.{ltb}
use lib.ListN.{length, take, drop, length-map}
use lib.Seq.{drop-drop}
use Rattle.std.specs.Prelude.{Some, None, Ok, Err}
use Rattle.refusals.specs.declared.Refusal.TheVariants.{BadLink}
use Rattle.linkea.specs.Link.{Link, link_header, name_at, decode_link_header, decode_link_ea, decode_link, length_at, link_at, places}
use Rattle.linkea.specs.Conditions.{refused_link}
use Rattle.linkea.specs.Answers.{found_at, step_at}
use Rattle.linkea.specs.Walk.{opening_of, onward, place_after, name_given, links_given, walked, GoodWalk, BadWalk, EveryWalk}
use Rattle.linkea.proofs.PlaceLaws.{from, places_from_lem, from_end, from_step, AllGood, good_here, good_on, good_record}
use Rattle.linkea.proofs.RecordLaws.{step_header, step_end, step_record, good_link}

module _ (l : List ℕ) (p : ℕ) where
  from_none : length l ≤ p → length (from l p) ≡ 0
  from_none h = rw (from_end l p h)

  from_more : p < length l → AllGood l p → length (from l p) ≡ suc (length (from l (p + length_at l p)))
  from_more h g = rw (from_step l p h (good_record l p (good_here l p h g)).short)

  step_good : link_header ≤ p → p < length l → AllGood l p → step_at l p ≡ Ok (Some (found_at l p))
  step_good k h g = sym (step_record l p k h (good_here l p h g))

  next_inside : p < length l → AllGood l p → p + length_at l p ≤ length l
  next_inside h g = (good_record l p (good_here l p h g)).inside

  link_found : ◌≡◌ {A = Link} (record { parent = (found_at l p).parent; name = take (found_at l p).size (drop (found_at l p).start l) }) (link_at l p)
  unfolding found_at link_at decode_link length_at
  link_found = rw (drop-drop name_at p l)

-- as many steps as there are records from p on give these records, and end at the end
pub walks : (n : ℕ) (l : List ℕ) (p : ℕ) → link_header ≤ p → p ≤ length l → AllGood l p → length (from l p) ≡ n →
    (walked n l p ≡ map (link_at l) (from l p)) × (place_after n l p ≡ length l)
unfolding walked place_after links_given name_given onward length_at found_at
walks zero l p k i g e = go (ltb p (length l)) refl
  where
    go : (b : Bool) → ltb p (length l) ≡ b → (walked zero l p ≡ map (link_at l) (from l p)) × (place_after zero l p ≡ length l)
    go true t = let h : p < length l = ltb-true p (length l) t in absurd (omega (arith, e, from_more l p h g))
    go false t = let h : length l ≤ p = ltb-false p (length l) t in (rw (from_end l p h), omega arith)
walks (suc m) l p k i g e = go (ltb p (length l)) refl (walks m l (p + length_at l p))
  where
    go : (b : Bool) → ltb p (length l) ≡ b →
        (link_header ≤ p + length_at l p → p + length_at l p ≤ length l → AllGood l (p + length_at l p) → length (from l (p + length_at l p)) ≡ m →
        (walked m l (p + length_at l p) ≡ map (link_at l) (from l (p + length_at l p))) × (place_after m l (p + length_at l p) ≡ length l)) →
        (walked (suc m) l p ≡ map (link_at l) (from l p)) × (place_after (suc m) l p ≡ length l)
    go false t on = let h : length l ≤ p = ltb-false p (length l) t in absurd (omega (arith, e, from_none l p h))
    go true t on =
        let h : p < length l = ltb-true p (length l) t in
        let r = good_record l p (good_here l p h g) in
        let q : ℕ = p + length_at l p in
        let w = on (omega arith) (next_inside l p h g) (good_on l p h g) (omega (arith, e, from_more l p h g)) in (
          rw (step_good l p k h g, from_step l p h r.short) (ap (λ (x : Link). x ∷ walked m l q) (link_found l p) ∙ ap (λ (xs : List Link). link_at l p ∷ xs) w.0),
          rw (step_good l p k h g) w.1,
        )

-- however far a walk goes, it meets no bad record
pub walks_well : (n : ℕ) (l : List ℕ) (p : ℕ) → link_header ≤ p → AllGood l p → step_at l (place_after n l p) ≡ Err BadLink → ⊥
unfolding place_after onward length_at found_at
walks_well zero l p k g e = go (ltb p (length l)) refl
  where
    go : (b : Bool) → ltb p (length l) ≡ b → ⊥
    go true t =
        let c : Ok (Some (found_at l p)) ≡ Err BadLink = sym (step_good l p k (ltb-true p (length l) t) g) ∙ e in
        let z : ◌≡◌ {A = ℕ} 0 1 = cc in
        omega (arith, z)
    go false t =
        let c : Ok None ≡ Err BadLink = step_end l p k (ltb-false p (length l) t) ∙ e in
        let z : ◌≡◌ {A = ℕ} 0 1 = cc in
        omega (arith, z)
walks_well (suc m) l p k g e = go (ltb p (length l)) refl (λ q. walks_well m l q)
  where
    go : (b : Bool) → ltb p (length l) ≡ b → ((q : ℕ) → link_header ≤ q → AllGood l q → step_at l (place_after m l q) ≡ Err BadLink → ⊥) → ⊥
    go true t on =
        let h : p < length l = ltb-true p (length l) t in
        on (p + length_at l p) (omega arith) (good_on l p h g) (rw (step_good l p k h g) at e)
    go false t on = on p k g (rw (← step_end l p k (ltb-false p (length l) t)) at e)

module _ (l : List ℕ) where
  opens : refused_link l ≡ false → opening_of l ≡ link_header
  unfolding opening_of
  opens h = rw h

  opens_not : refused_link l ≡ true → opening_of l ≡ 0
  unfolding opening_of
  opens_not h = rw h

-- a bad step leads nowhere
stays_put : (n : ℕ) (l : List ℕ) (p : ℕ) → step_at l p ≡ Err BadLink → place_after n l p ≡ p
unfolding place_after onward
stays_put zero l p e = refl
stays_put (suc n) l p e = rw e (stays_put n l p e)

good_walk : (l : List ℕ) → refused_link l ≡ false → GoodWalk l
unfolding decode_link_ea
good_walk l h =
    let g = good_link l h in
    let o = opens l h in
    let e : length (from l link_header) ≡ (decode_link_header l).count = rw (← places_from_lem l) (sym g.counted) in
    let w = walks (decode_link_header l).count l link_header (omega arith) g.header g.records e in
    record {
      never_bad = λ n. rw o (walks_well n l link_header (omega arith) g.records);
      records = rw o (w.0 ∙ rw (places_from_lem l));
      counted = length-map (places l) (link_at l) ∙ sym g.counted;
      ends = rw o (w.1 ∙ sym g.total);
      over = rw g.total (sym (step_end l (length l) g.header (omega arith)));
    }

bad_walk : (l : List ℕ) → refused_link l ≡ true → BadWalk l
bad_walk l h =
    let b : step_at l (opening_of l) ≡ Err BadLink = rw (opens_not l h) (sym (step_header l 0 (omega arith))) in
    record { stays = λ n. stays_put n l (opening_of l) b; bad = b }

pub every_walk : (l : List ℕ) → EveryWalk l
every_walk l = record { accepted = good_walk l; refused = bad_walk l }
