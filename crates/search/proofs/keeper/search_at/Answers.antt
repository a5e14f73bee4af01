use mathlib.Core.Path.{◌≡◌, sym, ◌∙◌}
use Rattle.std.specs.Prelude.{Some}
use Rattle.tables.specs.Bytes.{parse_parents}
use Rattle.rules.specs.Rows.{parent_row}
use Rattle.rules.proofs.Checked.{checked_parents}
use Rattle.rules.proofs.ComparedLaws.{compared_absent, compared_in}
use Rattle.search.proofs.FoundRows.{parent_inside}
use Rattle.search.proofs.KeeperLaws.{keeper_absent, keeper_in}
use Rattle.search.proofs.keeper.search_at.Goals as goal
use Rattle.search.proofs.keeper.search_at.Goals.{After-struct_known-1}

-- the claimed parent's row
row_is : (c : goal.After-struct_known-1) →
    let a = c.args in
    parent_row (parse_parents a.parents.now) a.place.file ≡ Some c.in-Some.r
row_is c = sym c.parent_row.ensures ∙ c.in-Some.is

pub search_from-requires : goal.search_from-requires
search_from-requires c =
    let d = c in
    (d.requires.0, parent_inside d.args.parents.now d.args.place.file _ (row_is c))

pub returns-in-None : goal.returns-in-None
returns-in-None c =
    let d = c in
    let ps = parse_parents d.args.parents.now in
    let none = sym c.parent_row.ensures ∙ c.in-None.is in record {
      place = c.first_naming.ensures.place ∙ keeper_absent ps d.args.f d.args.place (checked_parents d.args.parents.now d.requires.1) none;
      compared = c.first_naming.ensures.compared ∙ compared_absent ps d.args.f d.args.place none;
    }

pub returns-in-Some : goal.returns-in-Some
returns-in-Some c =
    let d = c in
    let ps = parse_parents d.args.parents.now in record {
      place = c.search_from.ensures.place ∙ keeper_in ps d.args.f d.args.place (checked_parents d.args.parents.now d.requires.1) _ (row_is (goal.at.returns-in-Some c).After-struct_known-1);
      compared = c.search_from.ensures.compared ∙ compared_in ps d.args.f d.args.place _ (row_is (goal.at.returns-in-Some c).After-struct_known-1);
    }
