use Rattle.tables.proofs.RowReads.{object_is_lem}
use Rattle.tables.proofs.rows.decode_object.Goals as goal

pub returns : goal.returns
returns c =
    let a = c.args in
    object_is_lem a.row.now _ _ _ _ _ c.read_fid-name.ensures c.get-ost.ensures
    c.owner_at-owner.ensures c.read_fid.ensures c.claim_from-claim.ensures
