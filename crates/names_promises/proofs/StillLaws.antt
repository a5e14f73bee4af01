-- After a finished mending no entry gives, differs or lacks. Assumes nothing.
use Prim.Native.Nat.{ℕ, zero, suc, ◌<◌}
use mathlib.Core.Path.{◌≡◌, refl, sym, subst₂, ◌∙◌}
use mathlib.Core.Bool.{Bool, true, false, ◌&&◌, or-true}
use mathlib.Core.List.{List, [], ◌∷◌}
use native.Mathlib.Omega.{arith}
use borrow.Author.Tests.{eq-eqb}
use lib.ListN.{length}
use lib.Dec.{eqb}
use Rattle.fid.specs.declared.MdtFid.{MdtFid}
use Rattle.names.specs.Rows.{Entry, Child, child_of}
use Rattle.names.specs.Findings.{any, same_link, link_for}
use Rattle.names.specs.Sweeps.{gives, written, sweep2, differs, lacks, named, sweep4}
use Rattle.names.specs.Mend.{first, second, third, finish, mended}
use Rattle.names.specs.Promises.{entry_at, Belong}
use Rattle.names_promises.proofs.AskLaws.{gives_same, differs_same, lacks_same}
use Rattle.names_promises.proofs.EachLaws.{Each, each_from, each_with, each_map}
use Rattle.names_promises.proofs.FirstLaws.{sweep1_none}
use Rattle.names_promises.proofs.FrameLaws.{sweep1_many, same_written}
use Rattle.names_promises.proofs.LinkLaws.{sweep4_links}
use Rattle.names_promises.proofs.SameLinks.{link_self}
use Rattle.names_promises.proofs.SecondLaws.{sweep2_gives, sweep2_differs}
use Rattle.names_promises.proofs.SelfLaws.{sweep3_self, sweep4_self}
use Rattle.names_promises.proofs.ThirdLaws.{sweep3_none}

-- nothing is to be done for an entry
pub record Still (seen : MdtFid → Bool) (cs : List Child) (e : Entry) : Type 0 where
  pub gift : gives seen cs e ≡ false
  pub difference : differs seen cs e ≡ false
  pub lack : lacks seen cs e ≡ false

-- every entry names its record
named_at_lem : (es : List Entry) (i : ℕ) → i < length es → named es (entry_at es i).child (link_for (entry_at es i)) ≡ true
unfolding named any entry_at
named_at_lem [] i h = absurd (omega arith)
named_at_lem (e ∷ es) zero h = rw (eq-eqb e.child e.child refl, link_self (link_for e))
named_at_lem (e ∷ es) (suc i) h =
    rw (named_at_lem es i (omega arith)) (or-true (eqb e.child (entry_at es i).child && same_link (link_for (entry_at es i)) (link_for e)))

pub each_named : (es : List Entry) → Each (λ e. named es e.child (link_for e) ≡ true) es
each_named es = each_from (λ e. named es e.child (link_for e) ≡ true) es (named_at_lem es)

module _ (seen : MdtFid → Bool) (es : List Entry) (cs : List Child) (b : Belong es cs) where
  fits_first : Each (λ e. e.child < length cs) es
  unfolding Belong
  fits_first = each_from (λ e. e.child < length cs) es b

  fits_second : Each (λ e. e.child < length (first seen es cs)) (second seen es cs)
  unfolding first second sweep2
  fits_second =
      each_map (λ e. e.child < length cs) (λ e. e.child < length (first seen es cs)) (written seen (first seen es cs))
      (λ e h. subst₂ (λ (k n : ℕ). k < n) (sym (same_written seen (first seen es cs) e).child) (sym (sweep1_many seen es cs)) h) es fits_first

  -- the children of a finished mending
  abbrev last : List Child
  last = sweep4 seen (second seen es cs) (third seen es cs).children 0

  last_self : (e : Entry) → (child_of last e).self ≡ (child_of (first seen es cs) e).self
  unfolding child_of third
  last_self e =
      sweep4_self seen (second seen es cs) (third seen es cs).children 0 e.child
      ∙ sweep3_self seen (second seen es cs) (first seen es cs) 0 0 e.child

  third_self : (e : Entry) → (child_of last e).self ≡ (child_of (third seen es cs).children e).self
  unfolding child_of
  third_self e = sweep4_self seen (second seen es cs) (third seen es cs).children 0 e.child

  gifts : Each (λ e. gives seen (first seen es cs) e ≡ false) (second seen es cs)
  unfolding first second
  gifts = sweep2_gives seen (first seen es cs) es (sweep1_none seen es cs fits_first)

  differences : Each (λ e. differs seen (first seen es cs) e ≡ false) (second seen es cs)
  unfolding second
  differences = sweep2_differs seen (first seen es cs) es

  module _ (f : (third seen es cs).full ≡ false) where
    lacks_third : Each (λ e. lacks seen (third seen es cs).children e ≡ false) (second seen es cs)
    unfolding third
    lacks_third = sweep3_none seen (second seen es cs) (first seen es cs) 0 0 fits_second f

    lacks_last : Each (λ e. lacks seen last e ≡ false) (second seen es cs)
    unfolding child_of
    lacks_last =
        each_with (λ e. lacks seen (third seen es cs).children e ≡ false) (λ e. named (second seen es cs) e.child (link_for e) ≡ true)
        (λ e. lacks seen last e ≡ false)
        (λ e l n. lacks_same seen (third seen es cs).children last e (third_self e)
        (sweep4_links seen (second seen es cs) (third seen es cs).children e.child (link_for e) n) l)
        (second seen es cs) lacks_third (each_named (second seen es cs))

    still_last : Each (Still seen last) (second seen es cs)
    still_last =
        each_with (λ e. (gives seen (first seen es cs) e ≡ false) × (differs seen (first seen es cs) e ≡ false)) (λ e. lacks seen last e ≡ false)
        (Still seen last)
        (λ e h l. record {
          gift = gives_same seen (first seen es cs) last e (last_self e) ∙ h.0;
          difference = differs_same seen (first seen es cs) last e (last_self e) ∙ h.1;
          lack = l;
        }) (second seen es cs)
        (each_with (λ e. gives seen (first seen es cs) e ≡ false) (λ e. differs seen (first seen es cs) e ≡ false)
        (λ e. (gives seen (first seen es cs) e ≡ false) × (differs seen (first seen es cs) e ≡ false)) (λ e g d. (g, d)) (second seen es cs) gifts differences)
        lacks_last

-- ## Of the mending

module _ (seen : MdtFid → Bool) (es : List Entry) (cs : List Child) where
  pub finished : (mended seen es cs).answer ≡ 0 → (third seen es cs).full ≡ false
  unfolding mended finish
  finished = go (third seen es cs).full
    where
      go : (b : Bool) → (finish seen es cs b).answer ≡ 0 → b ≡ false
      go true h = absurd (omega arith)
      go false h = refl

  pub still : Belong es cs → (mended seen es cs).answer ≡ 0 → Each (Still seen (mended seen es cs).children) (mended seen es cs).entries
  unfolding mended finish
  still b h = rw (finished h) (still_last seen es cs b (finished h))
