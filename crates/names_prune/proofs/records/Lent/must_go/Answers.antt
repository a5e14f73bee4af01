use mathlib.Core.Path.{◌∙◌}
use lib.ListN.{take}
use Rattle.linkea.specs.Link.{decode_link_ea}
use Rattle.names.specs.Rows.{parse_children}
use Rattle.names.specs.Visible.{seen_by}
use Rattle.names.proofs.SoundLaws.{names_facts}
use Rattle.names_check.specs.Asked.{asked}
use Rattle.names_prune.proofs.FlagLaws.{goes_none, note_inside, goes_not, goes_again}
use Rattle.names_prune.proofs.records.Lent.must_go.Goals as goal

pub find-requires : goal.find-requires
find-requires c =
    (c.args.self.ready.listed, (names_facts c.args.self.entries.now c.args.self.children.now c.args.self.ready.sound).names)

pub bounds-self-i : goal.bounds-self-i
bounds-self-i c =
    let a = c.args in
    note_inside (seen_by a.self.marks.now (parse_children a.self.children.now)) a.self.entries.now a.self.notes.now a.r (take a.k (decode_link_ea a.l.now).links)
    (asked a.parent a.name.now) c.args.self.ready.noted _ c.find.ensures _ c.in-Some.is

pub returns-then-self-i-eq0 : goal.returns-then-self-i-eq0
returns-then-self-i-eq0 c =
    let a = c.args in
    goes_not (seen_by a.self.marks.now (parse_children a.self.children.now)) a.self.entries.now a.self.notes.now a.r (take a.k (decode_link_ea a.l.now).links)
    (asked a.parent a.name.now) c.args.self.ready.noted _ c.find.ensures _ c.in-Some.is c.if-self-i-eq0.true

pub returns-in-None : goal.returns-in-None
unfolding asked
returns-in-None c =
    let a = c.args in
    c.seen.ensures
    ∙ goes_none (seen_by a.self.marks.now (parse_children a.self.children.now)) a.self.entries.now a.self.notes.now a.r (take a.k (decode_link_ea a.l.now).links)
    (asked a.parent a.name.now) _ c.find.ensures c.in-None.is

pub returns-else-self-i-eq0 : goal.returns-else-self-i-eq0
returns-else-self-i-eq0 c =
    let a = c.args in
    c.stands_before.ensures
    ∙ goes_again (seen_by a.self.marks.now (parse_children a.self.children.now)) a.self.entries.now a.self.notes.now a.r (take a.k (decode_link_ea a.l.now).links)
    (asked a.parent a.name.now) c.args.self.ready.noted _ c.find.ensures _ c.in-Some.is c.if-self-i-eq0.false
