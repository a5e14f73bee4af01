use mathlib.Core.Path.{sym, ◌∙◌}
use native.Mathlib.Omega.{arith}
use Rattle.tables.specs.Bytes.{parse_parents}
use Rattle.search.proofs.CountLaws.{both_fit, one_fits}
use Rattle.search.proofs.KeeperLaws.{turn_found, turn_next, hit_there}
use Rattle.search.proofs.keeper.search_from.Goals as goal

pub returns-then-is_some : goal.returns-then-is_some
returns-then-is_some c =
    let a = c.args in
    let whole = turn_found _ _ _ _ _ (hit_there (parse_parents a.parents.now) a.f a.r a.j) _ _ c.claimed_at-claimed.ensures.place c.claimed_at-claimed.ensures.compared
    (sym c.is_some.ensures ∙ c.if-is_some.true) in
    record { place = whole.0; compared = whole.1 }

pub after-requires : goal.after-requires
after-requires c =
    let d = c in
    let one = one_fits d.args.parents.now d.args.f d.args.r d.args.j in
    let both = both_fit d.args.parents.now d.requires.0 d.args.f d.args.r in
    omega (arith, c.search_in.ensures.compared, c.claimed_at-claimed.ensures.compared, one, both)

pub returns : goal.returns
returns c =
    let a = c.args in
    let both = turn_next _ _ _ _ _ (hit_there (parse_parents a.parents.now) a.f a.r a.j) _ _ c.claimed_at-claimed.ensures.place c.claimed_at-claimed.ensures.compared
    (sym c.is_some.ensures ∙ c.if-is_some.false) _ _ c.search_in.ensures.place c.search_in.ensures.compared in
    record {
      place = c.after.ensures.place ∙ both.0;
      compared = c.after.ensures.compared ∙ both.1;
    }
