use mathlib.Core.Path.{refl, ◌∙◌}
use mathlib.Core.Bool.{not, ◌&&◌}
use native.Mathlib.Omega.{arith}
use lib.Dec.{eqb}
use Rattle.std.proofs.Common.{rules}
use Rattle.std.proofs.lemmas.Iterator.{YieldsList-from_range}
use Rattle.std.proofs.lemmas.Iterator.Search.{any_from_yields_List}
use Rattle.layout.specs.Slot.{slot_names, slot_of}
use Rattle.tables.specs.Bytes.{parse_parents}
use Rattle.tables.proofs.SoundLaws.{layout_at_lem}
use Rattle.search.proofs.SlotArea.{area_of}
use Rattle.search.proofs.NamingLaws.{any_else}
use Rattle.search.proofs.naming.named_in.Goals as goal

pub slot_area-area-requires : goal.slot_area-area-requires
slot_area-area-requires c = (c.row_at.ensures.1, layout_at_lem c.args.parents.now _ c.args.k c.requires.0 c.requires.1 c.row_at.ensures.0)

pub returns : goal.returns
returns c =
    any_from_yields_List (λ i. slot_names c.args.f (slot_of c.slot_area-area.result.now i) && not (eqb c.args.k c.args.r && eqb i c.args.j)) _ _ _ c.any.ensures.ran
    (YieldsList-from_range 0 _ _ refl (omega arith)) (λ x b q k. search rules)
    ∙ any_else (parse_parents c.args.parents.now) _ _ (area_of _ _ _ c.slot_area-area.result.now c.requires.1 c.row_at.ensures.0 c.slot_area-area.ensures) c.args.f c.args.r c.args.j
