use mathlib.Core.Path.{ap, ◌∙◌}
use native.Mathlib.Omega.{arith}
use Rattle.index.specs.Entries.{sorted}
use Rattle.names_prune.proofs.by_child.index_entries.Goals as goal

pub returns : goal.returns
returns c =
    let l = c.list in
    let s = c.sort in
    record { few = c.requires.0; room = omega arith; rows = s.ensures ∙ ap sorted l.ensures }
