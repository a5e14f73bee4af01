use Rattle.stores.proofs.ObjectStores.{claim_none, claim_some}
use Rattle.stores.proofs.objects.claim_fid.Goals as goal

pub returns-in-None : goal.returns-in-None
returns-in-None c = claim_none _ (cc)

pub returns-in-Some : goal.returns-in-Some
returns-in-Some c = claim_some _ c.in-Some.place (cc)
