use Rattle.decide_slots.proofs.SlotLaws.{index_right, index_wrong}
use Rattle.decide_slots.proofs.index_write.Goals as goal

pub returns-then-index-at : goal.returns-then-index-at
returns-then-index-at c = let a = c.args in index_right a.at.row a.at.index a.at.fid a.at.generation a.at.ost a.index c.if-index-at.true

pub returns : goal.returns
returns c = let a = c.args in index_wrong a.at.row a.at.index a.at.fid a.at.generation a.at.ost a.index c.if-index-at.false
