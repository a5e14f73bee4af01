use mathlib.Core.Path.{◌∙◌}
use Rattle.search.proofs.ParsedRows.{free_object_is}
use Rattle.search.proofs.objects.free_object.Goals as goal

pub returns : goal.returns
returns c = c.free_row.ensures ∙ free_object_is _
