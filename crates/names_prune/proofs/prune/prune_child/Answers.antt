use mathlib.Core.Path.{sym, ◌∙◌}
use native.Mathlib.Omega.{arith}
use Rattle.names.specs.Rows.{parse_entries, parse_children}
use Rattle.names.specs.Visible.{seen_by}
use Rattle.names_prune.proofs.StoredLaws.{part_row}
use Rattle.names_prune.proofs.PruneLaws.{gone_there, none_pruned, keep_asks, some_pruned, some_sound}
use Rattle.names_prune.proofs.prune.prune_child.Goals as goal

pub returns-then-gone-eq0 : goal.returns-then-gone-eq0
returns-then-gone-eq0 c =
    let f = c.flag_child-gone in
    let a = c.args in
    let seen = seen_by a.marks.now (parse_children a.children.now) in
    let es = parse_entries a.entries.now in (
      none_pruned seen es a.children.now a.r c.requires.1 _ f.ensures.0 c.if-gone-eq0.true,
      sym c.if-gone-eq0.true ∙ gone_there seen es a.children.now a.r c.requires.1 _ f.ensures.0,
      omega arith,
      c.requires.0.sound,
    )

pub keep_flagged-requires : goal.keep_flagged-requires
keep_flagged-requires c =
    let f = c.flag_child-gone in
    let a = c.args in
    let seen = seen_by a.marks.now (parse_children a.children.now) in
    let es = parse_entries a.entries.now in
    keep_asks seen es a.children.now a.r c.requires.1 _ f.ensures.0 a.entries.now _ c.requires.0.sound (omega arith)
    (f.ensures.2 (omega (arith, c.if-gone-eq0.false))) _ (part_row a.children.now a.r)

pub returns : goal.returns
returns c =
    let k = c.keep_flagged in
    let f = c.flag_child-gone in
    let a = c.args in
    let seen = seen_by a.marks.now (parse_children a.children.now) in
    let es = parse_entries a.entries.now in
    let w = f.ensures.2 (omega (arith, c.if-gone-eq0.false)) in
    let p = part_row a.children.now a.r in (
      some_pruned seen es a.children.now a.r c.requires.1 _ f.ensures.0 a.entries.now _ c.requires.0.sound c.if-gone-eq0.false w _ (omega arith) _ p k.ensures.0,
      gone_there seen es a.children.now a.r c.requires.1 _ f.ensures.0,
      f.ensures.1,
      some_sound seen es a.children.now a.r c.requires.1 _ f.ensures.0 a.entries.now _ c.requires.0.sound c.if-gone-eq0.false w _ (omega arith) _ p k.ensures.0
          k.ensures.1,
    )
