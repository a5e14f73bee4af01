use Rattle.intake_line.proofs.EntryLaws.{with_lov, with_fid_lem, with_lma, with_other}
use Rattle.intake_line.proofs.marks_with.Goals as goal

pub returns-in-Lov : goal.returns-in-Lov
returns-in-Lov c = let a = c.args in with_lov a.m a.k a.mark c.in-Lov.is

pub returns-in-Fid : goal.returns-in-Fid
returns-in-Fid c = let a = c.args in with_fid_lem a.m a.k a.mark c.in-Fid.is

pub returns-in-Lma : goal.returns-in-Lma
returns-in-Lma c = let a = c.args in with_lma a.m a.k a.mark c.in-Lma.is

pub returns-in-Other : goal.returns-in-Other
returns-in-Other c = let a = c.args in with_other a.m a.k a.mark c.in-Other.is
