use mathlib.Core.Path.{sym, ap, ◌∙◌}
use Rattle.std.specs.Prelude.{Result, Ok}
use Rattle.refusals.specs.declared.Refusal.{Refusal}
use Rattle.linkea.specs.declared.Found.{Found}
use Rattle.linkea.proofs.PlaceLaws.{place_before_end}
use Rattle.linkea.proofs.RecordLaws.{place_good, record_refused, record_none, record_is}
use Rattle.linkea.proofs.record_at.Goals as goal

pub returns-then-refused : goal.returns-then-refused
returns-then-refused c = let a = c.args in record_refused a.l.now a.p (sym c.refused.ensures ∙ c.if-refused.true)

pub returns-then-not-begins : goal.returns-then-not-begins
returns-then-not-begins c =
    let b = c in
    let a = b.args in
    record_none a.l.now a.p (sym b.refused.ensures ∙ c.if-refused.false) (sym c.begins.ensures ∙ c.if-not-begins.true)

pub found_at-requires : goal.found_at-requires
found_at-requires c =
    let b = c in
    let a = b.args in
    let e = sym c.begins.ensures ∙ c.if-not-begins.false in
    (place_before_end a.l.now a.p e, place_good a.l.now a.p (sym b.refused.ensures ∙ c.if-refused.false) e)

pub returns : goal.returns
returns c =
    let b = c in
    let a = b.args in
    ap {B = Result Found Refusal} Ok c.found_at.ensures
    ∙ record_is a.l.now a.p (sym b.refused.ensures ∙ c.if-refused.false) (sym c.begins.ensures ∙ c.if-not-begins.false)
