-- What the sweep is lent is ready in one way at most.
use Rattle.std.proofs.Common.{List, ℕ, Bool}
use Rattle.std.proofs.Props as below
use Rattle.fid.specs.declared.MdtFid.{MdtFid}
use Rattle.names.specs.Check.{SoundNames}
use Rattle.names_store.specs.Notes.{Noted}

pub Sound-prop : (e c : List ℕ) → IsProp (SoundNames e c)
unfolding SoundNames
Sound-prop e c = Prim.hlevel below.props

pub Noted-prop : (seen : MdtFid → Bool) (e n : List ℕ) → IsProp (Noted seen e n)
unfolding Noted
Noted-prop seen e n = Prim.hlevel below.props

pub ruleset ready_props = (below.props, Sound-prop, Noted-prop)
