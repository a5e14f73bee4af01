use Rattle.stores.specs.UsedRow.{row_bytes}
use Rattle.decide_slots.proofs.SlotLaws.{new_is}
use Rattle.decide_slots.proofs.new_object.Goals as goal

pub returns : goal.returns
unfolding row_bytes
returns c = let d = c in let a = d.args in new_is a.parents.now a.at.row d.requires _ c.row_at-row.ensures.0 _ c.owner_of-owner.ensures _ c.self_of-file.ensures a.f a.at.index a.at.ost
