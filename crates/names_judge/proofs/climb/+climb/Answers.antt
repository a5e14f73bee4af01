use mathlib.Core.Path.{◌≡◌, ◌∙◌}
use Prim.Native.Nat.{suc, ◌-◌}
use native.Mathlib.Omega.{arith}
use Rattle.names.specs.Rows.{parse_children}
use Rattle.names_judge.proofs.LookLaws.{row_in_table}
use Rattle.names_judge.proofs.NoteLaws.{look_told, climb_told, climb_stuck, climb_more, climb_row, climb_noted, few_above}
use Rattle.names_judge.proofs.climb.+climb.Goals as goal

pub returns-then-left-eq0 : goal.returns-then-left-eq0
returns-then-left-eq0 t c =
    let a = c.args in
    let cs = parse_children a.children.now in
    let s = look_told cs a.room.now a.f _ _ c.requires.2 c.look_at.ensures c.in-Above.is in
    (climb_stuck cs a.f _ _ s a.left c.if-left-eq0.true, c.requires.2)

pub note_row-requires : goal.note_row-requires
note_row-requires t c =
    let a = c.args in
    let cs = parse_children a.children.now in
    let s = look_told cs a.room.now a.f _ _ c.requires.2 c.look_at.ensures c.in-Above.is in
    let k = c.climb-above in
    let r = row_in_table a.children.now a.f _ (climb_row cs a.f _ _ s) in
    (omega (arith, r, k.auto.room), few_above (a.left - 1) cs _ _ k.ensures.0 (omega arith))

pub returns-in-Told : goal.returns-in-Told
returns-in-Told t c =
    let a = c.args in
    let cs = parse_children a.children.now in
    let s = look_told cs a.room.now a.f _ _ c.requires.2 c.look_at.ensures c.in-Told.is in
    (c.allowed.ensures ∙ climb_told cs a.f a.left _ s, c.requires.2)

pub returns-else-left-eq0 : goal.returns-else-left-eq0
returns-else-left-eq0 t c =
    let a = c.args in
    let cs = parse_children a.children.now in
    let s = look_told cs a.room.now a.f _ _ c.requires.2 c.look_at.ensures c.in-Above.is in
    let k = c.climb-above in
    let m = c.note_row in
    let r = row_in_table a.children.now a.f _ (climb_row cs a.f _ _ s) in
    let z : a.left ≡ suc (a.left - 1) = omega arith in (
      m.ensures.0 ∙ climb_more cs a.f _ _ s a.left (a.left - 1) _ z k.ensures.0,
      climb_noted cs a.f _ _ s (a.left - 1) _ _ _ k.ensures.1 k.ensures.0 (omega arith) (omega (arith, r, k.auto.room)) m.ensures.1,
    )
