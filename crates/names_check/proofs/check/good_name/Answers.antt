use Rattle.std.proofs.Common.{not, ap, ◌∙◌, List, ℕ, arith}
use borrow.Author.Tests.{lt-leb}
use Rattle.linkea.specs.Conditions.{some, bad_byte}
use Rattle.names_check.proofs.TestLaws.{name_empty, name_long, name_read}
use Rattle.names_check.proofs.check.good_name.Goals.{then-n-ge1, else-n-ge1}
use Rattle.names_check.proofs.check.good_name.Goals as goal

pub returns-then-n-le-NAME_ROOM : goal.returns-then-n-le-NAME_ROOM
returns-then-n-le-NAME_ROOM c =
    let e = c.name_len-n.ensures in
    ap not (c.bad_bytes.ensures ∙ ap (λ (l : List ℕ). some bad_byte l) c.name_of.ensures.0)
    ∙ name_read c.args.row.now (omega (arith, e)) (omega (arith, e))

pub returns-else-n-le-NAME_ROOM : goal.returns-else-n-le-NAME_ROOM
returns-else-n-le-NAME_ROOM c =
    let e = c.name_len-n.ensures in
    elim c.if-n-ge1.branch [
      | then-n-ge1 w ↦ cc (w.t-5-is, lt-leb c.name_len-n.result 255 (omega arith), name_long c.args.row.now (omega (arith, e)) (omega (arith, e)))
      | else-n-ge1 w ↦ cc (w.t-5-is, name_empty c.args.row.now (omega (arith, e)))
    ]
