use mathlib.Core.Path.{ap, ◌∙◌}
use native.Mathlib.Omega.{arith}
use Rattle.index.specs.Entries.{sorted}
use Rattle.names_judge.proofs.listing.index_rows.Goals as goal

pub returns : goal.returns
returns c =
    let l = c.list-n in
    let s = c.sort in
    record { few = c.requires.0; room = omega (arith, l.ensures.1); rows = s.ensures ∙ ap sorted l.ensures.0 }
