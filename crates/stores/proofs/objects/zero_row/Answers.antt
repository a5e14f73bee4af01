use Rattle.stores.proofs.ObjectStores.{zero_filled}
use Rattle.stores.proofs.objects.zero_row.Goals as goal

pub returns : goal.returns
returns c = zero_filled _ _ c.requires (c.fill.ensures.after (λ y k. k))
