use Rattle.std.proofs.Common.{Bool, cond, sym, ap, ◌∙◌}
use Rattle.linkea.specs.Link.{link_header}
use Rattle.linkea.specs.Walk.{opening_of}
use Rattle.linkea_walk.proofs.opening.Goals as goal

pub returns-then-refused : goal.returns-then-refused
unfolding opening_of
returns-then-refused c = ap (λ (b : Bool). cond b 0 link_header) (sym c.if-refused.true ∙ c.refused.ensures)

pub returns : goal.returns
unfolding opening_of
returns c = ap (λ (b : Bool). cond b 0 link_header) (sym c.if-refused.false ∙ c.refused.ensures)
