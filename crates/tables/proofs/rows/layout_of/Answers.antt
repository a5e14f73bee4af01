use mathlib.Core.Path.{ap, ◌∙◌}
use Prim.Native.Nat.{ℕ}
use mathlib.Core.List.{List}
use lib.ListN.{length}
use Rattle.tables.proofs.RowReads.{layout_part, layout_bytes_lem}
use Rattle.tables.proofs.rows.layout_of.Goals as goal

pub returns : goal.returns
returns c =
    let d = c in
    let e = layout_part d.args.row.now _ c.layout_len.ensures in
    (e, ap (λ (l : List ℕ). length l) e ∙ layout_bytes_lem d.args.row.now d.requires.0 d.requires.1)
