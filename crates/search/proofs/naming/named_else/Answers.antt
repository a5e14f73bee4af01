use mathlib.Core.Path.{refl, ◌∙◌}
use native.Mathlib.Omega.{arith}
use Rattle.std.proofs.Common.{rules}
use Rattle.std.proofs.lemmas.Iterator.{YieldsList-from_range}
use Rattle.std.proofs.lemmas.Iterator.Search.{any_from_yields_List}
use Rattle.tables.specs.Bytes.{parse_parents}
use Rattle.tables.specs.Positions.{width}
use Rattle.rules.specs.Search.{slot_from, is_somewhere}
use Rattle.rules.specs.Rows.{names_else}
use Rattle.search.proofs.NamingLaws.{any_else_row}
use Rattle.search.proofs.naming.named_else.Goals as goal

pub returns : goal.returns
returns c =
    any_from_yields_List (λ k. is_somewhere (slot_from k (width (parse_parents c.args.parents.now) k) 0 (names_else (parse_parents c.args.parents.now) c.args.f c.args.r c.args.j))) _ _ _ c.any.ensures.ran
    (YieldsList-from_range 0 _ _ refl (omega arith)) (λ x b q k. search rules)
    ∙ any_else_row c.args.parents.now c.args.f c.args.r c.args.j
