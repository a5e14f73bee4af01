use Rattle.writes.proofs.RowLaws.{decides_rest, decides_same}
use Rattle.decide_objects.proofs.ObjectLaws.{claim_none, claim_some}
use Rattle.decide_objects.proofs.adopt.Goals as goal

pub returns-in-None : goal.returns-in-None
returns-in-None c = let a = c.args in decides_rest a.parents.now a.objects.now _ (claim_none a.parents.now a.objects.now a.k _ c.row_at.ensures.0 _ c.decode_object-x.ensures c.in-None.is)

pub returns-in-Some : goal.returns-in-Some
returns-in-Some c = let a = c.args in decides_same a.parents.now a.objects.now _ _ _ c.adopt_by.ensures (claim_some a.parents.now a.objects.now a.k _ c.row_at.ensures.0 _ c.decode_object-x.ensures c.in-Some.place c.in-Some.is)
