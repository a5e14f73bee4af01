-- The numbers of refusals and stops: document 01, "What comes back", and what document 02 adds.
use Rattle.std.specs.Prelude.{ℕ, cond, eqb, Result, Ok, Err}
use Rattle.refusals.specs.declared.Refusal.{Refusal}
use Rattle.refusals.specs.declared.Refusal.TheVariants.{BadTable, BadPolicy, BadLayout, BadFid, FidTwice, NoPlace, TooShort, NoReserve, NoObjectRow, NoParentRow, BadLink, BadDump, AttributeTwice, NoSelf, NoKind, NoFit, LinkFull, LongClimb}

abbrev pub number : Refusal → ℕ
-- "table not whole rows, too long, or a mark not 0 or 1"
number BadTable = 11
-- "policy above 3"
number BadPolicy = 12
-- "layout not as above"
number BadLayout = 13
-- "bad FID, object index or claim, or fresh without claim"
number BadFid = 14
-- "a FID twice among used parents, or twice among used objects"
number FidTwice = 15
-- "no such position"
number NoPlace = 16
-- "the writer's destination is too short"
number TooShort = 17
-- "redirect, no usable reserve FID"
number NoReserve = 21
-- "object to be made, no unused object row"
number NoObjectRow = 22
-- "parent to be made, no unused parent row"
number NoParentRow = 23
-- a linkEA that isn't one
number BadLink = 31
-- a dump: a bad line, an attribute twice, no self FID, neither kind or both, a row that doesn't fit
number BadDump = 33
number AttributeTwice = 34
number NoSelf = 35
number NoKind = 36
number NoFit = 37
-- a record outgrows the room for its child's linkEA
number LinkFull = 38
-- a climb that is too long
number LongClimb = 39

-- the number that a call answers: 0, or that of its refusal
abbrev pub answer : {A : Type 0} → Result A Refusal → ℕ
answer (Ok x) = 0
answer (Err e) = number e

-- the refusal of a number
unfoldable pub refusal : ℕ → Refusal
refusal n =
    cond (eqb n 11) BadTable (cond (eqb n 12) BadPolicy (cond (eqb n 13) BadLayout (cond (eqb n 14) BadFid (cond (eqb n 15) FidTwice
    (cond (eqb n 16) NoPlace (cond (eqb n 17) TooShort (cond (eqb n 21) NoReserve (cond (eqb n 22) NoObjectRow
    (cond (eqb n 23) NoParentRow (cond (eqb n 31) BadLink (cond (eqb n 33) BadDump (cond (eqb n 34) AttributeTwice
    (cond (eqb n 35) NoSelf (cond (eqb n 36) NoKind (cond (eqb n 37) NoFit (cond (eqb n 38) LinkFull LongClimb))))))))))))))))

-- what a call with this number says: with 0 the value, else the refusal of the number
unfoldable pub told : {A : Type 0} → ℕ → A → Result A Refusal
told n x = cond (eqb n 0) (Ok x) (Err (refusal n))
