use native.Mathlib.Omega.{arith}
use mathlib.Core.Path.{sym, ap, ◌∙◌}
use mathlib.Core.Bool.{Bool, not}
use Rattle.linkea.specs.Link.{link_header}
use Rattle.linkea.specs.declared.LinkHeader.{LinkHeader}
use Rattle.linkea.proofs.PlaceLaws.{good_start, good_from}
use Rattle.linkea.proofs.RecordLaws.{refused_short, refused_magic, refused_total, refused_records}
use Rattle.linkea.proofs.refused.Goals as goal

pub returns-then-l-lt-LINK_HEADER : goal.returns-then-l-lt-LINK_HEADER
returns-then-l-lt-LINK_HEADER c = refused_short c.args.l.now (omega arith)

pub returns-then-get-ne-LINK_MAGIC : goal.returns-then-get-ne-LINK_MAGIC
returns-then-get-ne-LINK_MAGIC c = refused_magic c.args.l.now (omega arith) (λ e. c.if-get-ne-LINK_MAGIC.true (c.get.ensures ∙ e))

pub returns-then-h-l : goal.returns-then-h-l
returns-then-h-l c =
    refused_total c.args.l.now
    (λ e. c.if-h-l.true (ap (λ (h : LinkHeader). h.total) c.read_header-h.ensures ∙ e))

pub returns : goal.returns
returns c =
    let b = c in
    let l = b.args.l.now in
    let e = b.read_header-h.ensures in
    ap (λ (r : Bool). not r) (c.good_records.ensures ∙ good_start l b.read_header-h.result.count ∙ ap (λ (h : LinkHeader). good_from l h.count 0 link_header) e)
    ∙ refused_records l (omega arith) (sym b.get.ensures ∙ b.if-get-ne-LINK_MAGIC.false) (ap (λ (h : LinkHeader). h.total) (sym e) ∙ c.if-h-l.false)
