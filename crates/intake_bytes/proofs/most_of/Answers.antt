use mathlib.Core.Path.{refl}
use Rattle.intake_bytes.proofs.WordLaws.{want_lov, want_fid, want_lma, want_other}
use Rattle.intake_bytes.proofs.most_of.Goals as goal

pub returns-in-Lov : goal.returns-in-Lov
returns-in-Lov c = let a = c.args in want_lov a.m a.size a.k _ c.in-Lov.is c.unless.ensures

pub returns-in-Fid : goal.returns-in-Fid
returns-in-Fid c = let a = c.args in want_fid a.m a.size a.k _ c.in-Fid.is c.unless-in-Fid.ensures

pub returns-in-Lma : goal.returns-in-Lma
returns-in-Lma c = let a = c.args in want_lma a.m a.size a.k _ c.in-Lma.is c.unless-in-Lma.ensures

pub returns-in-Other : goal.returns-in-Other
returns-in-Other c = let a = c.args in want_other a.m a.size a.k 0 c.in-Other.is refl
