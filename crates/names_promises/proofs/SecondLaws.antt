-- After sweep 2 no entry has a self FID to give, and none differs from its child's. Assumes nothing.
use mathlib.Core.Path.{◌≡◌, refl}
use mathlib.Core.Bool.{Bool, true, false, cond, and-false}
use mathlib.Core.List.{List}
use Rattle.fid.specs.declared.MdtFid.{MdtFid}
use Rattle.names.specs.Rows.{Entry, Child, child_of, with_fid}
use Rattle.names.specs.Sweeps.{gives, mends, written, sweep2, differs}
use Rattle.names_promises.proofs.EachLaws.{Each, each_every, each_map}
use Rattle.names_promises.proofs.FirstLaws.{gives_own}
use Rattle.names_promises.proofs.SameLinks.{fid_self}

module _ (seen : MdtFid → Bool) (cs : List Child) where
  written_gives : (e : Entry) → gives seen cs e ≡ false → gives seen cs (written seen cs e) ≡ false
  unfolding written with_fid child_of
  written_gives e h = go (mends seen cs e)
    where
      go : (b : Bool) → gives seen cs (cond b (with_fid e (child_of cs e).self) e) ≡ false
      go true = gives_own seen cs (with_fid e (child_of cs e).self) refl
      go false = h

  written_differs : (e : Entry) → differs seen cs (written seen cs e) ≡ false
  unfolding written differs with_fid child_of
  written_differs e = go (mends seen cs e) refl
    where
      go : (b : Bool) → mends seen cs e ≡ b → differs seen cs (cond b (with_fid e (child_of cs e).self) e) ≡ false
      go true h = rw (fid_self (child_of cs e).self) (and-false (mends seen cs (with_fid e (child_of cs e).self)))
      go false h = rw h

  pub sweep2_gives : (es : List Entry) → Each (λ e. gives seen cs e ≡ false) es → Each (λ e. gives seen cs e ≡ false) (sweep2 seen cs es)
  unfolding sweep2
  sweep2_gives es h = each_map (λ e. gives seen cs e ≡ false) (λ e. gives seen cs e ≡ false) (written seen cs) written_gives es h

  pub sweep2_differs : (es : List Entry) → Each (λ e. differs seen cs e ≡ false) (sweep2 seen cs es)
  unfolding sweep2
  sweep2_differs es =
      each_map (λ e. Unit {0}) (λ e. differs seen cs e ≡ false) (written seen cs) (λ e t. written_differs e) es (each_every (λ e. Unit {0}) (λ e. tt) es)
