use Rattle.std.proofs.Common.{rules, ◌≡◌, Err, true, sym, ap, ◌∙◌, length}
use Rattle.refusals.specs.Numbers.{answer}
use Rattle.names.specs.Check.{SoundNames}
use Rattle.names.proofs.SoundLaws.{names_facts}
use Rattle.names_judge.proofs.CallLaws.{places_there, places_are, judge_refused, judge_short, judge_done}
use Rattle.names_judge.proofs.calls.judge.Goals as goal

pub returns-in_err-check-clause-answer : goal.returns-in_err-check-clause-answer
returns-in_err-check-clause-answer c =
    let a = c.args in
    let e : c.from_residual.result ≡ Err c.in_err-check.field-0.0 = search rules in
    ap answer e ∙ (judge_refused a.entries.now a.children.now a.index.now a.room.now a.marks.now _ c.in_err-check.ensures).0

pub returns-in_err-check-clause-marked : goal.returns-in_err-check-clause-marked
returns-in_err-check-clause-marked c =
    let a = c.args in
    (judge_refused a.entries.now a.children.now a.index.now a.room.now a.marks.now c.in_err-check.field-0.0 c.in_err-check.ensures).1

pub has_places-requires : goal.has_places-requires
unfolding SoundNames
has_places-requires c = sym c.in_ok-check.ensures

pub returns-then-not-has_places-clause-answer : goal.returns-then-not-has_places-clause-answer
returns-then-not-has_places-clause-answer c =
    let a = c.args in
    (judge_short a.entries.now a.children.now a.index.now a.room.now a.marks.now c.in_ok-check.ensures (sym c.has_places.ensures ∙ c.if-not-has_places.true)).0

pub returns-then-not-has_places-clause-marked : goal.returns-then-not-has_places-clause-marked
returns-then-not-has_places-clause-marked c =
    let a = c.args in
    (judge_short a.entries.now a.children.now a.index.now a.room.now a.marks.now c.in_ok-check.ensures (sym c.has_places.ensures ∙ c.if-not-has_places.true)).1

pub judge_rows-requires : goal.judge_rows-requires
unfolding SoundNames
judge_rows-requires c =
    let a = c.args in
    let t : places_there a.entries.now a.children.now a.index.now a.room.now (length a.marks.now) ≡ true = sym c.has_places.ensures ∙ c.if-not-has_places.false in
    let p = places_are a.entries.now a.children.now a.index.now a.room.now (length a.marks.now) t in
    ((names_facts a.entries.now a.children.now (sym c.in_ok-check.ensures)).children_whole.few, p.index_long, p.room_long, p.marks_long)

pub returns-clause-answer : goal.returns-clause-answer
returns-clause-answer c =
    let a = c.args in
    let k = c.judge_rows.ensures in
    (judge_done a.entries.now a.children.now a.index.now a.room.now a.marks.now c.in_ok-check.ensures (sym c.has_places.ensures ∙ c.if-not-has_places.false) _ _ k.0 k.1).0

pub returns-clause-marked : goal.returns-clause-marked
returns-clause-marked c =
    let a = c.args in
    let k = c.judge_rows.ensures in
    (judge_done a.entries.now a.children.now a.index.now a.room.now a.marks.now c.in_ok-check.ensures (sym c.has_places.ensures ∙ c.if-not-has_places.false) _ _ k.0 k.1).1
