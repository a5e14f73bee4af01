use mathlib.Core.Path.{sym, ap, ◌∙◌}
use native.Mathlib.Omega.{arith}
use Rattle.std.specs.Prelude.{Some}
use Rattle.tables.specs.declared.Object.{Object}
use Rattle.search.proofs.FoundRows.{object_inside, lookup_missing, lookup_present}
use Rattle.search.proofs.objects.lookup.Goals as goal

pub returns-in_err-o : goal.returns-in_err-o
returns-in_err-o c = let a = c.args in let none = lookup_missing a.objects.now a.f (sym c.object_row.ensures ∙ c.in_err-o.was) in cc

pub row_at-requires : goal.row_at-requires
row_at-requires c =
    let a = c.args in
    let h = object_inside a.objects.now a.f c.in_ok-o.o (sym c.object_row.ensures ∙ c.in_ok-o.was) in
    omega arith

pub returns : goal.returns
returns c =
    let a = c.args in
    ap (λ (x : Object). Some x) c.decode_object.ensures
    ∙ lookup_present a.objects.now a.f c.in_ok-o.o _ (sym c.object_row.ensures ∙ c.in_ok-o.was) c.row_at.ensures.0
