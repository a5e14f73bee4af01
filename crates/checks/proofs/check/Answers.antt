use mathlib.Core.Path.{sym, ◌∙◌}
use native.Mathlib.Omega.{arith}
use Rattle.tables.proofs.CheckLaws.{check_11, check_11_reserve, check_12, check_13, check_14, check_14_reserve, check_15, check_16, check_0, tables_sound}
use Rattle.checks.proofs.check.Goals as goal

pub returns-then-not-both_whole : goal.returns-then-not-both_whole
returns-then-not-both_whole c =
    let a = c.args in
    check_11 a.parents.now a.objects.now a.reserve.now a.policy a.at
    (sym c.both_whole.ensures ∙ c.if-not-both_whole.true)

pub returns-then-not-reserve_whole : goal.returns-then-not-reserve_whole
returns-then-not-reserve_whole c =
    let a = c.args in
    check_11_reserve a.parents.now a.objects.now a.reserve.now a.policy a.at
    (sym c.both_whole.ensures ∙ c.if-not-both_whole.false)
    (sym c.reserve_whole.ensures ∙ c.if-not-reserve_whole.true)

pub returns-then-policy-gt-MAX_POLICY : goal.returns-then-policy-gt-MAX_POLICY
returns-then-policy-gt-MAX_POLICY c =
    let a = c.args in
    check_12 a.parents.now a.objects.now a.reserve.now a.policy a.at
    (sym c.both_whole.ensures ∙ c.if-not-both_whole.false)
    (sym c.reserve_whole.ensures ∙ c.if-not-reserve_whole.false)
    (omega arith)

pub returns-then-not-good_layouts : goal.returns-then-not-good_layouts
returns-then-not-good_layouts c =
    let a = c.args in
    check_13 a.parents.now a.objects.now a.reserve.now a.policy a.at
    (sym c.both_whole.ensures ∙ c.if-not-both_whole.false)
    (sym c.reserve_whole.ensures ∙ c.if-not-reserve_whole.false)
    (omega arith)
    (sym c.good_layouts.ensures ∙ c.if-not-good_layouts.true)

pub returns-then-not-good_rows : goal.returns-then-not-good_rows
returns-then-not-good_rows c =
    let a = c.args in
    check_14 a.parents.now a.objects.now a.reserve.now a.policy a.at
    (sym c.both_whole.ensures ∙ c.if-not-both_whole.false)
    (sym c.reserve_whole.ensures ∙ c.if-not-reserve_whole.false)
    (omega arith)
    (sym c.good_layouts.ensures ∙ c.if-not-good_layouts.false)
    (sym c.good_rows.ensures ∙ c.if-not-good_rows.true)

pub returns-then-not-good_reserve : goal.returns-then-not-good_reserve
returns-then-not-good_reserve c =
    let a = c.args in
    check_14_reserve a.parents.now a.objects.now a.reserve.now a.policy a.at
    (sym c.both_whole.ensures ∙ c.if-not-both_whole.false)
    (sym c.reserve_whole.ensures ∙ c.if-not-reserve_whole.false)
    (omega arith)
    (sym c.good_layouts.ensures ∙ c.if-not-good_layouts.false)
    (sym c.good_rows.ensures ∙ c.if-not-good_rows.false)
    (sym c.good_reserve.ensures ∙ c.if-not-good_reserve.true)

pub returns-then-not-all_different : goal.returns-then-not-all_different
returns-then-not-all_different c =
    let a = c.args in
    check_15 a.parents.now a.objects.now a.reserve.now a.policy a.at
    (sym c.both_whole.ensures ∙ c.if-not-both_whole.false)
    (sym c.reserve_whole.ensures ∙ c.if-not-reserve_whole.false)
    (omega arith)
    (sym c.good_layouts.ensures ∙ c.if-not-good_layouts.false)
    (sym c.good_rows.ensures ∙ c.if-not-good_rows.false)
    (sym c.good_reserve.ensures ∙ c.if-not-good_reserve.false)
    (sym c.all_different.ensures ∙ c.if-not-all_different.true)

pub is_position-requires : goal.is_position-requires
is_position-requires c =
    let a = c.args in
    tables_sound a.parents.now a.objects.now
    (sym c.both_whole.ensures ∙ c.if-not-both_whole.false)
    (sym c.good_layouts.ensures ∙ c.if-not-good_layouts.false)
    (sym c.good_rows.ensures ∙ c.if-not-good_rows.false)
    (sym c.all_different.ensures ∙ c.if-not-all_different.false)

pub returns-then-not-is_position : goal.returns-then-not-is_position
returns-then-not-is_position c =
    let a = c.args in
    check_16 a.parents.now a.objects.now a.reserve.now a.policy a.at
    (sym c.both_whole.ensures ∙ c.if-not-both_whole.false)
    (sym c.reserve_whole.ensures ∙ c.if-not-reserve_whole.false)
    (omega arith)
    (sym c.good_layouts.ensures ∙ c.if-not-good_layouts.false)
    (sym c.good_rows.ensures ∙ c.if-not-good_rows.false)
    (sym c.good_reserve.ensures ∙ c.if-not-good_reserve.false)
    (sym c.all_different.ensures ∙ c.if-not-all_different.false)
    (sym c.is_position.ensures ∙ c.if-not-is_position.true)

pub returns : goal.returns
returns c =
    let a = c.args in
    check_0 a.parents.now a.objects.now a.reserve.now a.policy a.at
    (sym c.both_whole.ensures ∙ c.if-not-both_whole.false)
    (sym c.reserve_whole.ensures ∙ c.if-not-reserve_whole.false)
    (omega arith)
    (sym c.good_layouts.ensures ∙ c.if-not-good_layouts.false)
    (sym c.good_rows.ensures ∙ c.if-not-good_rows.false)
    (sym c.good_reserve.ensures ∙ c.if-not-good_reserve.false)
    (sym c.all_different.ensures ∙ c.if-not-all_different.false)
    (sym c.is_position.ensures ∙ c.if-not-is_position.false)
