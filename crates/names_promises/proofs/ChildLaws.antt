-- Nothing but self FID and link_ea with its room changes in a child. Assumes nothing.
use Prim.Native.Nat.{ℕ}
use mathlib.Core.Path.{◌≡◌, refl, ◌∙◌}
use mathlib.Core.Bool.{Bool}
use mathlib.Core.List.{List}
use Rattle.fid.specs.declared.MdtFid.{MdtFid}
use Rattle.names.specs.Rows.{Entry, Child, child_at, with_self, with_link_ea}
use Rattle.names.specs.Sweeps.{pruned}
use Rattle.names.specs.Mend.{mended}
use Rattle.names.specs.Promises.{SameChild}
use Rattle.names_promises.proofs.RoomLaws.{mended_room}
use Rattle.names_promises.proofs.RowFrames.{grown, shorter, pruned_either, mended_rows}
use Rattle.names_promises.proofs.SelfLaws.{mended_self}

module _ (seen : MdtFid → Bool) where
  pruned_up : (es : List Entry) (r : ℕ) (c : Child) → (pruned seen es r c).up ≡ c.up
  unfolding shorter with_link_ea
  pruned_up es r c = pruned_either seen es r c (λ d. d.up ≡ c.up) (λ g. refl) (λ g. refl)

  module _ (es : List Entry) (cs : List Child) (r : ℕ) where
    mended_up : (child_at (mended seen es cs).children r).up ≡ (child_at cs r).up
    unfolding with_self grown with_link_ea
    mended_up =
        mended_rows seen (λ i c d. d.up ≡ c.up) (λ i c. refl) (λ i a b c p q. q ∙ p) (λ i c f n. refl) (λ c e s. refl) pruned_up es cs r

    pub mended_child : SameChild (child_at cs r) (child_at (mended seen es cs).children r)
    mended_child = record { up = mended_up; self = mended_self seen es cs r; room = mended_room seen es cs r }
