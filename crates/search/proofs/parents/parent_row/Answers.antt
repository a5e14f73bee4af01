use mathlib.Core.Path.{◌∙◌}
use Rattle.search.proofs.ParsedRows.{parent_row_is}
use Rattle.search.proofs.parents.parent_row.Goals as goal

pub returns : goal.returns
returns c = c.row_of.ensures ∙ parent_row_is _ _
