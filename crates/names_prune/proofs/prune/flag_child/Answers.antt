use mathlib.Core.Path.{◌≡◌, sym, ap, ◌∙◌}
use mathlib.Core.Bool.{true}
use mathlib.Core.List.{List}
use Prim.Native.Nat.{ℕ}
use native.Mathlib.Omega.{arith}
use Rattle.linkea.specs.Conditions.{refused_link}
use Rattle.names.specs.Rows.{is_none, link_length, link_bytes, decode_child, parse_entries, parse_children}
use Rattle.names.specs.Check.{good_link_ea}
use Rattle.names.specs.Visible.{seen_by}
use Rattle.names.proofs.BackLaws.{link_room_lem, link_accepted}
use Rattle.names_prune.specs.Ready.{child_bytes}
use Rattle.names_prune.proofs.PruneLaws.{row_good, no_self, no_link, some_flagged}
use Rattle.names_prune.proofs.prune.flag_child.Goals as goal
use Rattle.names_prune.proofs.prune.flag_child.Goals.{After-row_at-row}

-- the row is the child's
row : (c : goal.After-row_at-row) → c.row_at-row.result.now ≡ child_bytes c.args.lent.children.now c.args.r
unfolding child_bytes
row c = c.row_at-row.ensures.0

good : (c : goal.After-row_at-row) → good_link_ea c.row_at-row.result.now ≡ true
good c =
    ap good_link_ea (row c) ∙ row_good c.args.lent.entries.now c.args.lent.children.now c.args.r c.args.lent.ready.sound c.requires.0

pub returns-then-is_none : goal.returns-then-is_none
returns-then-is_none c =
    let a = c.args in
    no_self (seen_by a.lent.marks.now (parse_children a.lent.children.now)) (parse_entries a.lent.entries.now) a.r (child_bytes a.lent.children.now a.r) _
    (ap (λ (l : List ℕ). is_none (decode_child l).self) (sym (row (goal.at.returns-then-is_none c).After-row_at-row)) ∙ ap is_none (sym c.self_of.ensures) ∙ sym c.is_none.ensures ∙ c.if-is_none.true)

pub returns-then-link_len-eq0 : goal.returns-then-link_len-eq0
returns-then-link_len-eq0 c =
    let a = c.args in
    no_link (seen_by a.lent.marks.now (parse_children a.lent.children.now)) (parse_entries a.lent.entries.now) a.r (child_bytes a.lent.children.now a.r) _
    (ap link_length (sym (row (goal.at.returns-then-link_len-eq0 c).After-row_at-row)) ∙ sym c.link_len.ensures ∙ c.if-link_len-eq0.true)

pub link_of-requires : goal.link_of-requires
link_of-requires c =
    (c.row_at-row.ensures.1, link_room_lem _ (good (goal.at.link_of-requires c).After-row_at-row))

pub flag-requires : goal.flag-requires
flag-requires c =
    let l = c.link_of in (
      ap refused_link l.ensures.0 ∙ link_accepted _ (good (goal.at.flag-requires c).After-row_at-row) (λ e. c.if-link_len-eq0.false (c.link_len.ensures ∙ e)),
      omega (arith, l.ensures.1, link_room_lem _ (good (goal.at.flag-requires c).After-row_at-row)),
      omega arith,
    )

pub returns : goal.returns
returns c =
    let f = c.flag in
    let a = c.args in
    some_flagged (seen_by a.lent.marks.now (parse_children a.lent.children.now)) (parse_entries a.lent.entries.now) a.r (child_bytes a.lent.children.now a.r) _
    (ap (λ (l : List ℕ). is_none (decode_child l).self) (sym (row (goal.at.returns c).After-row_at-row)) ∙ ap is_none (sym c.self_of.ensures)
    ∙ sym c.is_none.ensures ∙ c.if-is_none.false)
    (λ e. c.if-link_len-eq0.false (c.link_len.ensures ∙ ap link_length (row (goal.at.returns c).After-row_at-row) ∙ e)) _ (c.link_of.ensures.0 ∙ ap link_bytes (row (goal.at.returns c).After-row_at-row)) _ f.ensures
