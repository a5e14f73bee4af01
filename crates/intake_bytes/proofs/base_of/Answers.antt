use Rattle.intake_bytes.specs.Lent.{base_of}
use Rattle.intake_bytes.proofs.base_of.Goals as goal

pub returns-in-Lov : goal.returns-in-Lov
unfolding base_of
returns-in-Lov c = cc

pub returns-in-Fid : goal.returns-in-Fid
unfolding base_of
returns-in-Fid c = cc

pub returns-in-Lma : goal.returns-in-Lma
unfolding base_of
returns-in-Lma c = cc

pub returns-in-Other : goal.returns-in-Other
unfolding base_of
returns-in-Other c = cc
