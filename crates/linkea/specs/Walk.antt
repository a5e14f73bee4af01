-- The walk by the cursor, from the first place on, and what it promises of a link_ea that is accepted. Document 02, 2026-01:
-- "A linkEA reader keeps the lent bytes and walks record by record".
use Rattle.std.specs.Prelude.{ℕ, zero, suc, ◌≡◌, List, [], ◌∷◌, ◌++◌, true, false, cond, length, take, drop, Option, Some, None, Result, Ok, Err}
use Rattle.refusals.specs.declared.Refusal.{Refusal}
use Rattle.refusals.specs.declared.Refusal.TheVariants.{BadLink}
use Rattle.linkea.specs.Link.{Link, link_header, decode_link_header, decode_link_ea}
use Rattle.linkea.specs.Conditions.{refused_link}
use Rattle.linkea.specs.Answers.{step_at}
use Rattle.linkea.specs.declared.Found.{Found}

-- where a walk begins: at the first record, or in the header, where there is none, if the link_ea is refused
unfoldable pub opening_of : List ℕ → ℕ
opening_of l = cond (refused_link l) 0 link_header

-- the place after a step: behind the record, or the same
unfoldable pub onward : ℕ → Result (Option Found) Refusal → ℕ
onward p (Err e) = p
onward p (Ok None) = p
onward p (Ok (Some x)) = x.next

-- the place after n steps from p on
unfoldable pub place_after : ℕ → List ℕ → ℕ → ℕ
place_after zero l p = p
place_after (suc n) l p = place_after n l (onward p (step_at l p))

-- "the name it hands out is a part of those bytes"
unfoldable pub name_given : List ℕ → Result (Option Found) Refusal → List ℕ
name_given l (Err e) = []
name_given l (Ok None) = []
name_given l (Ok (Some x)) = take x.size (drop x.start l)

-- what a step gives: a record, or none
unfoldable pub links_given : List ℕ → Result (Option Found) Refusal → List Link
links_given l (Err e) = []
links_given l (Ok None) = []
links_given l (Ok (Some x)) = record { parent = x.parent; name = name_given l (Ok (Some x)) } ∷ []

-- the records that n steps from p on give, in their order
unfoldable pub walked : ℕ → List ℕ → ℕ → List Link
walked zero l p = []
walked (suc n) l p = links_given l (step_at l p) ++ walked n l (onward p (step_at l p))

-- after a good opening
pub record GoodWalk (l : List ℕ) : Type 0 where
  -- "a walk never meets 31", however far it goes
  pub never_bad : (n : ℕ) → step_at l (place_after n l (opening_of l)) ≡ Err BadLink → ⊥
  -- it visits exactly the count of records: as many steps give the records of the link_ea, in order
  pub records : walked (decode_link_header l).count l (opening_of l) ≡ (decode_link_ea l).links
  -- each of them gives one
  pub counted : length (decode_link_ea l).links ≡ (decode_link_header l).count
  -- and they end at the total, where the walk is over
  pub ends : place_after (decode_link_header l).count l (opening_of l) ≡ (decode_link_header l).total
  pub over : step_at l (decode_link_header l).total ≡ Ok None

-- of a link_ea that is refused every step is bad, and none leads on
pub record BadWalk (l : List ℕ) : Type 0 where
  pub stays : (n : ℕ) → place_after n l (opening_of l) ≡ opening_of l
  pub bad : step_at l (opening_of l) ≡ Err BadLink

pub record EveryWalk (l : List ℕ) : Type 0 where
  pub accepted : refused_link l ≡ false → GoodWalk l
  pub refused : refused_link l ≡ true → BadWalk l
