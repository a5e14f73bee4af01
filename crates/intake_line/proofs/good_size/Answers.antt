use mathlib.Core.Path.{◌∙◌}
use borrow.Author.Tests.{eq-eqb}
use Rattle.intake_line.proofs.EndLaws.{size_lov, size_fid, size_old, size_lma, size_other}
use Rattle.intake_line.proofs.good_size.Goals as goal

pub returns-then-n-eq-FID_SIZE : goal.returns-then-n-eq-FID_SIZE
returns-then-n-eq-FID_SIZE c = let a = c.args in eq-eqb a.n 16 c.if-n-eq-FID_SIZE.true ∙ size_fid a.k a.n c.in-Fid.is c.if-n-eq-FID_SIZE.true

pub returns-in-Lov : goal.returns-in-Lov
returns-in-Lov c = let a = c.args in size_lov a.k a.n c.in-Lov.is

pub returns-else-n-eq-FID_SIZE : goal.returns-else-n-eq-FID_SIZE
returns-else-n-eq-FID_SIZE c = let a = c.args in size_old a.k a.n c.in-Fid.is c.if-n-eq-FID_SIZE.false

pub returns-in-Lma : goal.returns-in-Lma
returns-in-Lma c = let a = c.args in size_lma a.k a.n c.in-Lma.is

pub returns-in-Other : goal.returns-in-Other
returns-in-Other c = let a = c.args in size_other a.k a.n c.in-Other.is
