use Rattle.std.proofs.Common.{refl, arith}
use Rattle.std.proofs.lemmas.Result.{err_from_is_err_and}
use Rattle.tables.proofs.CheckLaws.{refusal_not}
use Rattle.tables.specs.Bytes.{parse}
use Rattle.capi_tables.proofs.TableNumbers.{given_is}
use Rattle.listing.proofs.ListingLaws.{accepted, listing_refused, listing_short, listing_told}
use Rattle.listing.proofs.classes.Goals as goal

pub returns-in_err-check : goal.returns-in_err-check
returns-in_err-check c =
    let a = c.args in
    let g = c.position_given-at in
    let p = err_from_is_err_and c.from_residual.result c.from_residual.ensures.1 in
    let whole = listing_refused a.parents.now a.objects.now a.position.now a.out.now a.done.now _ _ g.ensures c.in_err-check.ensures (refusal_not c.in_err-check.field-0.0) in
    record { answer = rw (p.1, p.2) whole.0; position = whole.1.0; out = whole.1.1.0; done = whole.1.1.1 }

pub returns-then-done-lt1 : goal.returns-then-done-lt1
returns-then-done-lt1 c =
    let a = c.args in
    let g = c.position_given-at in
    let whole = listing_short a.parents.now a.objects.now a.position.now a.out.now a.done.now _ _ g.ensures c.in_ok-check.ensures refl c.if-done-lt1.true in
    record { answer = whole.0; position = whole.1.0; out = whole.1.1.0; done = whole.1.1.1 }

pub tell-told-requires : goal.tell-told-requires
tell-told-requires c =
    let a = c.args in
    let g = c.position_given-at in
    let w = accepted a.parents.now a.objects.now g.result _ c.in_ok-check.ensures refl in
    (w.tables, w.position)

pub put_position-requires : goal.put_position-requires
put_position-requires c =
    let a = c.args in
    let g = c.position_given-at in
    let w = accepted a.parents.now a.objects.now g.result _ c.in_ok-check.ensures refl in
    omega (arith, given_is (parse a.parents.now a.objects.now) a.position.now g.result g.ensures w.position)

pub returns : goal.returns
returns c =
    let a = c.args in
    let g = c.position_given-at in
    let t = c.tell-told in
    let whole = listing_told a.parents.now a.objects.now a.position.now a.out.now a.done.now _ _ g.ensures c.in_ok-check.ensures refl c.if-done-lt1.false _ _ _ _ _ t.ensures.done t.ensures.position t.ensures.out c.put_position.ensures c.put.ensures in
    record { answer = whole.0; position = whole.1.0; out = whole.1.1.0; done = whole.1.1.1 }
