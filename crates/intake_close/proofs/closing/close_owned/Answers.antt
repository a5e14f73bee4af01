use Rattle.intake_close.proofs.CloseLaws.{owned_bare, owned_neither, owned_both, owned_object, owned_parent}
use Rattle.intake_close.proofs.closing.close_owned.Goals as goal

pub returns-then-m-eq0 : goal.returns-then-m-eq0
returns-then-m-eq0 c =
    let p = c in let a = p.args in
    owned_bare a.buf.now a.m p.requires.1 p.requires.0 a.w a.index a.parents.now a.objects.now c.if-m-eq0.true

pub returns-then-m-eq0-3 : goal.returns-then-m-eq0-3
returns-then-m-eq0-3 c =
    let p = c in let a = p.args in
    owned_neither a.buf.now a.m p.requires.1 p.requires.0 a.w a.index a.parents.now a.objects.now c.if-m-eq0.false c.if-m-eq0-2.true c.if-m-eq0-3.true

pub returns-then-m-eq0-2 : goal.returns-then-m-eq0-2
returns-then-m-eq0-2 c =
    let p = c in let a = p.args in
    owned_object a.buf.now a.m p.requires.1 p.requires.0 a.w a.index a.parents.now a.objects.now c.if-m-eq0.false _ _ c.if-m-eq0-2.true c.if-m-eq0-3.false c.close_object.ensures

pub returns-then-m-ne0 : goal.returns-then-m-ne0
returns-then-m-ne0 c =
    let p = c in let a = p.args in
    owned_both a.buf.now a.m p.requires.1 p.requires.0 a.w a.index a.parents.now a.objects.now c.if-m-eq0.false c.if-m-eq0-2.false c.if-m-ne0.true

pub returns : goal.returns
returns c =
    let p = c in let a = p.args in
    owned_parent a.buf.now a.m p.requires.1 p.requires.0 a.w a.index a.parents.now a.objects.now c.if-m-eq0.false _ _ c.if-m-eq0-2.false c.if-m-ne0.false c.close_parent.ensures
