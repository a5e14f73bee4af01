use mathlib.Core.Path.{sym, ◌∙◌}
use Rattle.layout.proofs.SlotLaws.{slot_hole, slot_names_lem}
use Rattle.layout.proofs.slot_at.Goals as goal

pub returns-then-is_zero_slot : goal.returns-then-is_zero_slot
returns-then-is_zero_slot c =
    let a = c.args in
    slot_hole _ _ _ a.area.now a.j c.read_fid-f.ensures c.get-g.ensures
    c.get-i.ensures (sym c.is_zero_slot.ensures ∙ c.if-is_zero_slot.true)

pub returns-else-is_zero_slot : goal.returns-else-is_zero_slot
returns-else-is_zero_slot c =
    let a = c.args in
    slot_names_lem _ _ _ a.area.now a.j c.read_fid-f.ensures c.get-g.ensures
    c.get-i.ensures (sym c.is_zero_slot.ensures ∙ c.if-is_zero_slot.false)
