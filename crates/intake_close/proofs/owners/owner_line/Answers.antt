use native.Mathlib.Omega.{arith}
use Rattle.intake_close.proofs.OwnerLaws.{owner_none, owner_more, uid_none, uid_more, gid_none, gid_last, gid_more, ends_within}
use Rattle.intake_close.proofs.owners.owner_line.Goals as goal

pub returns-in_err-uid : goal.returns-in_err-uid
returns-in_err-uid c = rw c.from_residual.ensures (owner_none _ _ c.number.ensures c.in_err-uid.was)

pub spaced-requires : goal.spaced-requires
spaced-requires c = ends_within _ _ _ _ c.number.ensures.within c.in_ok-uid.was

pub returns-in_err-gid : goal.returns-in_err-gid
returns-in_err-gid c =
    rw c.from_residual-in_err-gid.ensures (owner_more _ _ c.number.ensures _ _ _ c.in_ok-uid.was (uid_none _ _ _ _ c.spaced.ensures c.in_err-gid.was))

pub spaced-requires-2 : goal.spaced-requires-2
spaced-requires-2 c = ends_within _ _ c.in_ok-gid.gid _ c.spaced.ensures.within c.in_ok-gid.was

pub returns-in_err-index : goal.returns-in_err-index
returns-in_err-index c =
    rw c.from_residual-in_err-index.ensures
    (owner_more _ _ c.number.ensures _ _ _ c.in_ok-uid.was (uid_more _ _ _ _ c.spaced.ensures _ _ _ c.in_ok-gid.was (gid_none _ _ _ _ _ c.spaced-2.ensures c.in_err-index.was)))

pub returns-then-at-line : goal.returns-then-at-line
returns-then-at-line c =
    owner_more _ _ c.number.ensures _ _ _ c.in_ok-uid.was
    (uid_more _ _ _ _ c.spaced.ensures _ _ _ c.in_ok-gid.was (gid_more _ _ _ _ _ c.spaced-2.ensures _ _ c.in_ok-index.was (λ z. omega arith)))

pub returns : goal.returns
returns c =
    owner_more _ _ c.number.ensures _ _ _ c.in_ok-uid.was
    (uid_more _ _ _ _ c.spaced.ensures _ _ _ c.in_ok-gid.was
    (gid_last _ _ _ _ _ c.spaced-2.ensures _ _ c.in_ok-index.was (omega (arith, ends_within _ _ c.in_ok-index.index c.in_ok-index.at c.spaced-2.ensures.within c.in_ok-index.was))))
