use native.Mathlib.Omega.{arith}
use Rattle.fid.specs.Fid.{zero_fid}
use Rattle.names_marks.proofs.MarkLaws.{under_less, under_none}
use Rattle.names_marks.proofs.marked.self_under.Goals as goal

pub returns-then-mark-lt-NO_SELF : goal.returns-then-mark-lt-NO_SELF
returns-then-mark-lt-NO_SELF c = under_less _ _ (omega arith)

pub returns : goal.returns
unfolding zero_fid
returns c = under_none _ _ (omega arith)
