-- Claims and owners: the tests, and the class of a keeper, case by case. Assumes nothing.
use mathlib.Core.Path.{◌≡◌, refl}
use Rattle.std.specs.Prelude.{Option, Some, None, nat_eq}
use Rattle.std.specs.Option.{option_eq}
use mathlib.Core.Bool.{Bool, true, false, ◌&&◌}
use Prim.Native.Nat.{ℕ}
use lib.Dec.{eqb}
use Rattle.fid.specs.Fid.{same_fid}
use Rattle.tables.specs.declared.Owner.{Owner}
use Rattle.tables.specs.declared.Object.{Object}
use Rattle.rules.specs.Rows.{same_owner}
use Rattle.rules.specs.Keeper.{is_place}
use Rattle.rules.specs.Classes.{claimed_class, claim_class, keeper_class}
use Rattle.rules.specs.declared.SlotClass.{SlotClass}
use Rattle.rules.specs.declared.SlotClass.TheVariants.{UNMATCHED, WRONGOST as WRONG-OST, OWNER, CLEAN}
use Rattle.tables.specs.declared.Place.{Place}
use Rattle.rules.specs.Places.{claims, same_place}

-- ## What `==` says

-- a place is found where it is the one that is looked for
pub found_at : (o : Option (ℕ × ℕ)) (r j : ℕ) → option_eq (λ (x y : ℕ × ℕ). nat_eq x.0 y.0 && nat_eq x.1 y.1) o (Some (r, j)) ≡ is_place o r j
unfolding is_place
found_at None r j = refl
found_at (Some p) r j = refl

-- owners are the same by uid and gid
pub owners_eq : (a b : Owner) → (nat_eq a.uid b.uid && nat_eq a.gid b.gid) ≡ same_owner a b
unfolding same_owner
owners_eq a b = refl

module _ (q home : Place) where
  pub claim_file : same_fid q.file.0 home.file.0 ≡ false → false ≡ claims (Some q) home
  unfolding claims same_place
  claim_file h = rw h

  pub claim_index : same_fid q.file.0 home.file.0 ≡ true → eqb q.index home.index ≡ claims (Some q) home
  unfolding claims same_place
  claim_index h = rw h

-- "the first row that applies is the class": of a keeper whose object claims it
module _ (there owned : Bool) where
  pub class_wrong_ost : there ≡ false → WRONG-OST ≡ claimed_class there owned
  unfolding claimed_class
  class_wrong_ost t = rw t

  pub class_owner : there ≡ true → owned ≡ false → OWNER ≡ claimed_class there owned
  unfolding claimed_class
  class_owner t k = rw (t, k)

  pub class_clean : there ≡ true → owned ≡ true → CLEAN ≡ claimed_class there owned
  unfolding claimed_class
  class_clean t k = rw (t, k)

-- of a keeper at home whose object claims q
module _ (home : Place) (there owned : Bool) (claim : Option Place) (q : Place) (e : claim ≡ Some q) where
  pub class_unmatched : claims (Some q) home ≡ false → UNMATCHED q.file q.index ≡ claim_class home there owned claim
  unfolding claim_class
  class_unmatched t = rw (e, t)

  pub class_claimed : claims (Some q) home ≡ true → (c : SlotClass) → c ≡ claimed_class there owned → c ≡ claim_class home there owned claim
  unfolding claim_class
  class_claimed t c h = rw (e, t) h

pub class_present : (home : Place) (ost : ℕ) (owner : Owner) (found : Option Object) (x : Object) (b : Bool) (c : SlotClass) → found ≡ Some x →
    b ≡ same_owner x.owner owner → c ≡ claim_class home (eqb x.ost ost) b x.claim → c ≡ keeper_class home ost owner found
unfolding keeper_class
class_present home ost owner found x b c e t q = rw (e, ← t) q
