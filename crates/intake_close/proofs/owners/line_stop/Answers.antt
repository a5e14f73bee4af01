use Rattle.std.proofs.Common.{rules, ◌∙◌, sym, drop}
use Rattle.std.proofs.lemmas.Iterator.{YieldsList-from_slice}
use Rattle.std.proofs.lemmas.Iterator.Search.{position_from_yields_List}
use Rattle.intake_close.proofs.OwnerLaws.{rest_whole, stops_found, stops_end}
use lib.Dec.{eqb}
use Rattle.intake_close.proofs.owners.line_stop.Goals as goal

pub returns-in-Some : goal.returns-in-Some
returns-in-Some c =
    let a = c.args in
    stops_found a.s.now a.from c.requires c.in-Some.n
    (sym c.in-Some.is ∙ position_from_yields_List (λ b. eqb b 10) _ _ _ c.position.ensures.ran (YieldsList-from_slice (drop a.from a.s.now) (c.iter.ensures.rest ∙ rest_whole a.s.now a.from c.requires)) (λ x b q k. search (rules, k)))

pub returns-in-None : goal.returns-in-None
returns-in-None c =
    let a = c.args in
    stops_end a.s.now a.from c.requires
    (sym c.in-None.is ∙ position_from_yields_List (λ b. eqb b 10) _ _ _ c.position.ensures.ran (YieldsList-from_slice (drop a.from a.s.now) (c.iter.ensures.rest ∙ rest_whole a.s.now a.from c.requires)) (λ x b q k. search (rules, k)))
