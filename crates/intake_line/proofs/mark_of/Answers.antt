use Rattle.intake_line.proofs.EntryLaws.{mark_lov, mark_fid, mark_lma, mark_other}
use Rattle.intake_line.proofs.mark_of.Goals as goal

pub returns-in-Lov : goal.returns-in-Lov
returns-in-Lov c = let a = c.args in mark_lov a.m a.k c.in-Lov.is

pub returns-in-Fid : goal.returns-in-Fid
returns-in-Fid c = let a = c.args in mark_fid a.m a.k c.in-Fid.is

pub returns-in-Lma : goal.returns-in-Lma
returns-in-Lma c = let a = c.args in mark_lma a.m a.k c.in-Lma.is

pub returns-in-Other : goal.returns-in-Other
returns-in-Other c = let a = c.args in mark_other a.m a.k c.in-Other.is
