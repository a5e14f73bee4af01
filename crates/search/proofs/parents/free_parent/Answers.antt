use mathlib.Core.Path.{◌∙◌}
use Rattle.search.proofs.ParsedRows.{free_parent_is}
use Rattle.search.proofs.parents.free_parent.Goals as goal

pub returns : goal.returns
returns c = c.free_row.ensures ∙ free_parent_is _
