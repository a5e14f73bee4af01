use Rattle.std.proofs.Common.{not, sym, ap, ◌∙◌, List, ℕ, arith}
use borrow.Author.Tests.{lt-leb, eq-eqb}
use Rattle.linkea.specs.Conditions.{refused_link}
use Rattle.names_check.proofs.TestLaws.{link_none, link_long, link_read}
use Rattle.names_check.proofs.check.good_link.Goals as goal

pub returns-then-n-eq0 : goal.returns-then-n-eq0
returns-then-n-eq0 c =
    eq-eqb c.link_len-n.result 0 c.if-n-eq0.true ∙ link_none c.args.row.now (sym c.link_len-n.ensures ∙ c.if-n-eq0.true)

pub returns-then-n-le-LINK_ROOM : goal.returns-then-n-le-LINK_ROOM
returns-then-n-le-LINK_ROOM c =
    let e = c.link_len-n.ensures in
    ap not (c.refused.ensures ∙ ap (λ (l : List ℕ). refused_link l) c.link_of.ensures.0)
    ∙ link_read c.args.row.now (λ z. c.if-n-eq0.false (e ∙ z)) (omega (arith, e))

pub returns-else-n-le-LINK_ROOM : goal.returns-else-n-le-LINK_ROOM
returns-else-n-le-LINK_ROOM c =
    let e = c.link_len-n.ensures in
    lt-leb c.link_len-n.result 4096 c.if-n-le-LINK_ROOM.false ∙ link_long c.args.row.now (λ z. c.if-n-eq0.false (e ∙ z)) (omega (arith, e))
