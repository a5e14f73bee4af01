use mathlib.Core.Path.{ap, ◌∙◌}
use mathlib.Core.List.{List}
use Prim.Native.Nat.{ℕ}
use lib.ListN.{length}
use Rattle.names.specs.Rows.{decode_entry}
use Rattle.names.proofs.BackLaws.{name_part, name_length_lem}
use Rattle.names.proofs.rows.name_of.Goals as goal

pub returns : goal.returns
unfolding decode_entry
returns c =
    let d = c in
    let e = name_part d.args.row.now _ c.name_len.ensures in
    (e, ap (λ (l : List ℕ). length l) e ∙ name_length_lem d.args.row.now d.requires.0 d.requires.1)
