use native.Mathlib.Omega.{arith}
use mathlib.Core.Path.{◌∙◌}
use Rattle.linkea_write.proofs.GivenLaws.{wide_none, bad_parent, bad_empty, bad_long, bad_outside, bad_name_lem}
use Rattle.linkea_write.proofs.bad_given.Goals as goal

pub returns-then-is_none : goal.returns-then-is_none
returns-then-is_none c = bad_parent _ _ _ (wide_none _ _ _ c.parent_given.ensures _ c.is_none.ensures ∙ c.if-is_none.true)

pub returns-then-size-eq0 : goal.returns-then-size-eq0
returns-then-size-eq0 c =
    let n = c in
    bad_empty _ _ _ (wide_none _ _ _ n.parent_given.ensures _ n.is_none.ensures ∙ n.if-is_none.false) (omega arith)

pub returns-then-size-gt-LONGEST_NAME : goal.returns-then-size-gt-LONGEST_NAME
returns-then-size-gt-LONGEST_NAME c =
    let n = c in
    bad_long _ _ _ (wide_none _ _ _ n.parent_given.ensures _ n.is_none.ensures ∙ n.if-is_none.false) c.if-size-eq0.false (omega arith)

pub returns-then-end-size : goal.returns-then-end-size
returns-then-end-size c =
    let e = c in
    let n = e in
    bad_outside _ _ _ (wide_none _ _ _ n.parent_given.ensures _ n.is_none.ensures ∙ n.if-is_none.false) e.if-size-eq0.false (omega arith) (omega arith)

pub returns-then-end-size-2 : goal.returns-then-end-size-2
returns-then-end-size-2 c =
    let e = c in
    let n = e in
    bad_outside _ _ _ (wide_none _ _ _ n.parent_given.ensures _ n.is_none.ensures ∙ n.if-is_none.false) e.if-size-eq0.false (omega arith) (omega arith)

pub returns : goal.returns
returns c =
    let e = c in
    let n = e in
    bad_name_lem _ _ _ (wide_none _ _ _ n.parent_given.ensures _ n.is_none.ensures ∙ n.if-is_none.false) e.if-size-eq0.false (omega arith) _ (omega arith) c.bad_bytes.ensures
