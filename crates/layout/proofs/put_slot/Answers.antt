use Rattle.layout.proofs.SlotLaws.{put_hole, put_names}
use Rattle.layout.proofs.put_slot.Goals as goal

pub returns-in-Hole : goal.returns-in-Hole
returns-in-Hole c =
    let x = c in
    let b = x in
    let a = b in
    let k = a in
    put_hole _ _ _ _ _ k.requires k.in-Hole.is a.put.ensures b.put-in-Hole.ensures x.put-in-Hole-2.ensures

pub returns-in-Names : goal.returns-in-Names
returns-in-Names c =
    let x = c in
    let b = x in
    let a = b in
    let k = a in
    put_names _ _ _ _ _ k.in-Names.f k.in-Names.g k.in-Names.i k.requires k.in-Names.is a.write_fid.ensures b.put-in-Names.ensures x.put-in-Names-2.ensures
