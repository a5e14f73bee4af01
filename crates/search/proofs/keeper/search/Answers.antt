use mathlib.Core.Path.{sym, ap, ◌∙◌}
use Rattle.tables.specs.Bytes.{parse_parents}
use Rattle.rules.specs.Keeper.{keeper_by}
use Rattle.rules.specs.Compared.{compared_by}
use Rattle.rules.proofs.Looks.{keeper_unclaimed}
use Rattle.rules.proofs.ComparedLaws.{compared_unclaimed}
use Rattle.search.proofs.keeper.search.Goals as goal

pub returns-in-None : goal.returns-in-None
returns-in-None c =
    let a = c.args in
    let ps = parse_parents a.parents.now in
    let none = sym c.in-None.is in record {
      place = c.first_naming.ensures.place ∙ sym (keeper_unclaimed ps a.f) ∙ ap (keeper_by ps a.f) none;
      compared = c.first_naming.ensures.compared ∙ compared_unclaimed ps a.f ∙ ap (compared_by ps a.f) none;
    }

pub returns-in-Some : goal.returns-in-Some
returns-in-Some c =
    let a = c.args in
    let ps = parse_parents a.parents.now in
    let some = sym c.in-Some.is in
    record {
      place = c.search_at.ensures.place ∙ ap (keeper_by ps a.f) some;
      compared = c.search_at.ensures.compared ∙ ap (compared_by ps a.f) some;
    }
