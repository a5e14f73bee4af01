use mathlib.Core.Path.{sym, ap, ap₂, ◌∙◌}
use mathlib.Core.Bool.{not}
use borrow.Author.Tests.{eq-eqb}
use mathlib.Core.List.{List}
use Prim.Native.Nat.{ℕ}
use Rattle.linkea.specs.Link.{Link, decode_link_ea}
use Rattle.linkea.specs.Conditions.{refused_link}
use Rattle.names.specs.Rows.{decode_entry}
use Rattle.names.specs.Findings.{any, same_link, link_for}
use Rattle.names.proofs.BackLaws.{link_room_lem, link_accepted}
use Rattle.names_check.specs.Asked.{asked}
use Rattle.names_check.proofs.TestLaws.{name_room_lem}
use Rattle.names_check.proofs.LinkLaws.{no_link, some_link, asked_for}
use Rattle.names_check.proofs.finding.has_record.Goals as goal

pub returns-else-link_len-ne0 : goal.returns-else-link_len-ne0
returns-else-link_len-ne0 c =
    let a = c.args in
    ap not (eq-eqb c.link_len.result 0 c.if-link_len-ne0.false) ∙ no_link (link_for (decode_entry a.row.now)) a.child.now (sym c.link_len.ensures ∙ c.if-link_len-ne0.false)

pub link_of-requires : goal.link_of-requires
link_of-requires c = let b = c in (b.requires.1, link_room_lem b.args.child.now b.requires.3)

pub name_of-requires : goal.name_of-requires
name_of-requires c =
    let b = c in
    (b.requires.0, name_room_lem b.args.row.now b.requires.2)

pub has_link-requires : goal.has_link-requires
has_link-requires c =
    let d = c in
    let b = d in
    ap refused_link c.link_of.ensures.0
    ∙ link_accepted b.args.child.now b.requires.3 (λ e. d.if-link_len-ne0.true (d.link_len.ensures ∙ e))

pub returns-then-link_len-ne0 : goal.returns-then-link_len-ne0
returns-then-link_len-ne0 c =
    let d = c in
    let b = d in
    let x = link_for (decode_entry b.args.row.now) in
    let e = ap₂ asked c.parent_of.ensures c.name_of.ensures.0 ∙ asked_for b.args.row.now in
    c.has_link.ensures
    ∙ ap₂ (λ (y : Link) (l : List ℕ). any (same_link y) (decode_link_ea l).links) e c.link_of.ensures.0
    ∙ some_link x b.args.child.now (λ z. d.if-link_len-ne0.true (d.link_len.ensures ∙ z))
