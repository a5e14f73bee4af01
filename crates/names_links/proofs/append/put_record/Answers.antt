use mathlib.Core.Path.{refl}
use Rattle.names_links.proofs.AppendLaws.{record_put}
use Rattle.names_links.proofs.append.put_record.Goals as goal

pub returns : goal.returns
returns c =
    let a = c.args in
    record_put a.row.now _ _ _ a.at _ a.parent a.name.now refl c.put.ensures c.write_in.ensures c.put_bytes.ensures
