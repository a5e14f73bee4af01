use mathlib.Core.Path.{◌∙◌}
use Rattle.stores.proofs.ObjectStores.{mark_byte}
use Rattle.stores.proofs.objects.mark_of.Goals as goal

pub returns : goal.returns
returns c = c.from.ensures ∙ mark_byte c.args.fresh
