use mathlib.Core.Path.{ap, ◌∙◌}
use mathlib.Core.List.{List}
use Prim.Native.Nat.{ℕ}
use lib.ListN.{length}
use Rattle.names.proofs.BackLaws.{link_part, link_length_lem}
use Rattle.names.proofs.rows.link_of.Goals as goal

pub returns : goal.returns
returns c =
    let d = c in
    let e = link_part d.args.row.now _ c.link_len.ensures in
    (e, ap (λ (l : List ℕ). length l) e ∙ link_length_lem d.args.row.now d.requires.0 d.requires.1)
