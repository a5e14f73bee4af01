use native.Mathlib.Omega.{arith}
use mathlib.Core.Path.{sym, ap, ◌∙◌}
use Rattle.wire.proofs.Splice.{drop_take_all}
use Rattle.intake.specs.declared.Kind.{Kind}
use Rattle.intake.specs.Says.{starts, value_word, good_size}
use Rattle.intake_line.specs.Ending.{line_of}
use Rattle.intake_line.proofs.EndLaws.{other_is, ends_empty, ends_opens, ends_bad, ends_skipped, ends_short, ends_unmarked, ends_odd, ends_taken, ends_unfit, opens_not, closes_not, skipped_not, bad_not, takes_same}
use Rattle.intake_line.proofs.head_says.Goals as goal

pub returns-then-h-eq0 : goal.returns-then-h-eq0
unfolding line_of
returns-then-h-eq0 c =
    let a = c.args in
    record { says = λ v. ends_empty a.h.now a.half a.size v c.if-h-eq0.true; whole = λ k e. absurd (closes_not k e) }

pub returns-then-starts : goal.returns-then-starts
unfolding line_of
returns-then-starts c =
    let a = c.args in
    record { says = λ v. ends_opens a.h.now a.half a.size v c.if-h-eq0.false (sym c.starts.ensures ∙ c.if-starts.true); whole = λ k e. absurd (opens_not k e) }

pub returns-then-not-starts : goal.returns-then-not-starts
unfolding line_of
returns-then-not-starts c =
    let a = c.args in
    record { says = λ v. ends_bad a.h.now a.half a.size v c.if-h-eq0.false (sym c.starts.ensures ∙ c.if-starts.false) (sym c.starts-2.ensures ∙ c.if-not-starts.true); whole = λ k e. absurd (bad_not k e) }

pub returns-then-eq : goal.returns-then-eq
unfolding line_of
returns-then-eq c =
    let a = c.args in
    record { says = λ v. ends_skipped a.h.now a.half a.size v c.if-h-eq0.false (sym c.starts.ensures ∙ c.if-starts.false) (sym c.starts-2.ensures ∙ c.if-not-starts.false) c.kind_of-k.result c.kind_of-k.ensures (other_is c.kind_of-k.result ∙ sym c.eq.ensures ∙ c.if-eq.true); whole = λ k e. absurd (skipped_not k e) }

pub returns-then-h-lt-HEAD_SIZE : goal.returns-then-h-lt-HEAD_SIZE
unfolding line_of
returns-then-h-lt-HEAD_SIZE c =
    let a = c.args in
    record { says = λ v. ends_short a.h.now a.half a.size v c.if-h-eq0.false (sym c.starts.ensures ∙ c.if-starts.false) (sym c.starts-2.ensures ∙ c.if-not-starts.false) c.kind_of-k.result c.kind_of-k.ensures (other_is c.kind_of-k.result ∙ sym c.eq.ensures ∙ c.if-eq.false) (omega arith); whole = λ k e. absurd (bad_not k e) }

pub returns-then-not-starts-2 : goal.returns-then-not-starts-2
unfolding line_of
returns-then-not-starts-2 c =
    let a = c.args in
    record { says = λ v. ends_unmarked a.h.now a.half a.size v c.if-h-eq0.false (sym c.starts.ensures ∙ c.if-starts.false) (sym c.starts-2.ensures ∙ c.if-not-starts.false) c.kind_of-k.result c.kind_of-k.ensures (other_is c.kind_of-k.result ∙ sym c.eq.ensures ∙ c.if-eq.false) (sym (ap (starts value_word) (drop_take_all 11 a.h.now)) ∙ sym c.starts-3.ensures ∙ c.if-not-starts-2.true); whole = λ k e. absurd (bad_not k e) }

pub returns-in_default : goal.returns-in_default
unfolding line_of
returns-in_default c =
    let a = c.args in
    record { says = λ v. ends_odd a.h.now a.half a.size v c.if-h-eq0.false (sym c.starts.ensures ∙ c.if-starts.false) (sym c.starts-2.ensures ∙ c.if-not-starts.false) c.kind_of-k.result c.kind_of-k.ensures (other_is c.kind_of-k.result ∙ sym c.eq.ensures ∙ c.if-eq.false) (sym (ap (starts value_word) (drop_take_all 11 a.h.now)) ∙ sym c.starts-3.ensures ∙ c.if-not-starts-2.false) (λ z. c.in_default.not-Even z); whole = λ k e. absurd (bad_not k e) }

pub returns-then-good_size : goal.returns-then-good_size
unfolding line_of
returns-then-good_size c =
    let a = c.args in
    record { says = λ v. ends_taken a.h.now a.half a.size v c.if-h-eq0.false (sym c.starts.ensures ∙ c.if-starts.false) (sym c.starts-2.ensures ∙ c.if-not-starts.false) c.kind_of-k.result c.kind_of-k.ensures (other_is c.kind_of-k.result ∙ sym c.eq.ensures ∙ c.if-eq.false) (sym (ap (starts value_word) (drop_take_all 11 a.h.now)) ∙ sym c.starts-3.ensures ∙ c.if-not-starts-2.false) c.in-Even.is (sym c.good_size.ensures ∙ c.if-good_size.true); whole = λ k e. (omega arith, takes_same k c.kind_of-k.result e ∙ c.kind_of-k.ensures, ap (λ (z : Kind). good_size z a.size) (takes_same k c.kind_of-k.result e) ∙ sym c.good_size.ensures ∙ c.if-good_size.true) }

pub returns : goal.returns
unfolding line_of
returns c =
    let a = c.args in
    record { says = λ v. ends_unfit a.h.now a.half a.size v c.if-h-eq0.false (sym c.starts.ensures ∙ c.if-starts.false) (sym c.starts-2.ensures ∙ c.if-not-starts.false) c.kind_of-k.result c.kind_of-k.ensures (other_is c.kind_of-k.result ∙ sym c.eq.ensures ∙ c.if-eq.false) (sym (ap (starts value_word) (drop_take_all 11 a.h.now)) ∙ sym c.starts-3.ensures ∙ c.if-not-starts-2.false) c.in-Even.is (sym c.good_size.ensures ∙ c.if-good_size.false); whole = λ k e. absurd (bad_not k e) }
