use mathlib.Core.Path.{sym, ◌∙◌}
use Rattle.stores.specs.UsedRow.{row_bytes}
use Rattle.classify_places.proofs.ClaimLaws.{owners_eq}
use Rattle.decide_slots.proofs.SlotLaws.{mend_claim, mend_owner, mend_none}
use Rattle.decide_slots.proofs.mend_write.Goals as goal
use Rattle.decide_slots.proofs.mend_write.Goals.{else-claim_is-via-then-claim_is+else-eq, else-claim_is-via-else-claim_is}

pub returns-then-eq : goal.returns-then-eq
unfolding row_bytes
returns-then-eq c =
    let k = c in
    let s = k in
    let a = s.args in
    mend_none a.parents.now a.r s.requires _ k.row_at-row.ensures.0 _ k.self_of.ensures a.j a.o a.x (sym k.claim_is.ensures ∙ c.if-claim_is.true)
    _ c.owner_of.ensures (sym (c.eq.ensures ∙ owners_eq _ _) ∙ c.if-eq.true)

pub returns : goal.returns
unfolding row_bytes
returns c =
    let a = c.args in
    elim c.else-claim_is.branch [
      | else-claim_is-via-then-claim_is+else-eq w ↦
          mend_owner a.parents.now a.r c.requires _ c.row_at-row.ensures.0 _ c.self_of.ensures a.j a.o a.x (sym c.claim_is.ensures ∙ w.if-claim_is.true)
          _ w.owner_of.ensures (sym (w.eq.ensures ∙ owners_eq _ _) ∙ w.if-eq.false) _ c.mended.ensures
      | else-claim_is-via-else-claim_is w ↦
          mend_claim a.parents.now a.r c.requires _ c.row_at-row.ensures.0 _ c.self_of.ensures a.j a.o a.x (sym c.claim_is.ensures ∙ w.if-claim_is.false) _ c.mended.ensures
    ]
