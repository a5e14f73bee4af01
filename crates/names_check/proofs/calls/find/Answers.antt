use Rattle.std.proofs.Common.{rules, ◌≡◌, Err, sym, ap, ◌∙◌, arith}
use Rattle.refusals.specs.Numbers.{answer}
use Rattle.names.specs.Check.{SoundNames}
use Rattle.names_check.proofs.CallLaws.{find_refused, find_short, find_done}
use Rattle.names_check.proofs.calls.find.Goals as goal

pub returns-in_err-check-clause-answer : goal.returns-in_err-check-clause-answer
returns-in_err-check-clause-answer c =
    let a = c.args in
    let e : c.from_residual.result ≡ Err c.in_err-check.field-0.0 = search rules in
    ap answer e ∙ (find_refused a.entries.now a.children.now a.out.now c.in_err-check.field-0.0 c.in_err-check.ensures).0

pub returns-in_err-check-clause-numbers : goal.returns-in_err-check-clause-numbers
returns-in_err-check-clause-numbers c =
    let a = c.args in
    (find_refused a.entries.now a.children.now a.out.now c.in_err-check.field-0.0 c.in_err-check.ensures).1

pub returns-then-out-count-clause-answer : goal.returns-then-out-count-clause-answer
returns-then-out-count-clause-answer c =
    let a = c.args in
    (find_short a.entries.now a.children.now a.out.now c.in_ok-check.ensures (omega arith)).0

pub returns-then-out-count-clause-numbers : goal.returns-then-out-count-clause-numbers
returns-then-out-count-clause-numbers c =
    let a = c.args in
    (find_short a.entries.now a.children.now a.out.now c.in_ok-check.ensures (omega arith)).1

pub find-requires : goal.find-requires
unfolding SoundNames
find-requires c = (sym c.in_ok-check.ensures, omega arith)

pub returns-clause-answer : goal.returns-clause-answer
returns-clause-answer c =
    let a = c.args in
    (find_done a.entries.now a.children.now a.out.now c.in_ok-check.ensures _ (omega arith) c.find.ensures).0

pub returns-clause-numbers : goal.returns-clause-numbers
returns-clause-numbers c =
    let a = c.args in
    (find_done a.entries.now a.children.now a.out.now c.in_ok-check.ensures _ (omega arith) c.find.ensures).1
