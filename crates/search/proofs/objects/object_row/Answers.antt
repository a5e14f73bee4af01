use mathlib.Core.Path.{◌∙◌}
use Rattle.search.proofs.ParsedRows.{object_row_is}
use Rattle.search.proofs.objects.object_row.Goals as goal

pub returns : goal.returns
returns c = c.row_of.ensures ∙ object_row_is _ _
