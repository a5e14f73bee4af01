use mathlib.Core.Path.{sym, ◌∙◌}
use native.Mathlib.Omega.{arith}
use Rattle.tables.specs.Bytes.{parse_parents}
use Rattle.rules.proofs.ComparedLaws.{turn_last, hit_row}
use Rattle.search.proofs.CountLaws.{all_fit_lem, row_fits}
use Rattle.search.proofs.KeeperLaws.{turn_found, turn_next}
use Rattle.search.proofs.keeper.search_in.Goals as goal

pub returns-then-is_some : goal.returns-then-is_some
returns-then-is_some c =
    let a = c.args in
    let whole = turn_found _ _ _ _ _ (hit_row (parse_parents a.parents.now) a.f a.r) _ _ c.first_in-near.ensures.place c.first_in-near.ensures.compared
    (sym c.is_some.ensures ∙ c.if-is_some.true) in
    record { place = whole.0; compared = whole.1 }

pub after-requires : goal.after-requires
after-requires c =
    let d = c in
    let row = row_fits d.args.parents.now d.requires.0 d.args.f d.args.r in
    let all = all_fit_lem d.args.parents.now d.requires.0 d.args.f in
    omega (arith, c.first_naming.ensures.compared, c.first_in-near.ensures.compared, row, all)

pub returns : goal.returns
returns c =
    let a = c.args in
    let both = turn_next _ _ _ _ _ (hit_row (parse_parents a.parents.now) a.f a.r) _ _ c.first_in-near.ensures.place c.first_in-near.ensures.compared
    (sym c.is_some.ensures ∙ c.if-is_some.false) _ _ c.first_naming.ensures.place (c.first_naming.ensures.compared ∙ turn_last _ _) in
    record {
      place = c.after.ensures.place ∙ both.0;
      compared = c.after.ensures.compared ∙ both.1;
    }
