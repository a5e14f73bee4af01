use Rattle.stores.proofs.ObjectStores.{object_stores}
use Rattle.stores.proofs.objects.put_row.Goals as goal

pub returns : goal.returns
returns c =
    let b = c in
    let a = b in
    object_stores a.args.row.now _ _ _ _ _ _ a.args.x _ _ a.requires c.claim_fid.ensures c.mark_of.ensures
    a.put_byte.ensures b.write_fid.ensures b.put.ensures b.put_owner.ensures c.write_fid-2.ensures
    c.put_byte-2.ensures
