use Prim.Native.Nat.{◌*◌}
use native.Mathlib.Omega.{arith}
use Rattle.tables.specs.Records.{used}
use Rattle.tables.specs.Bytes.{render_object}
use Rattle.stores.proofs.StoreLaws.{part_whole}
use Rattle.stores.proofs.ObjectStores.{length_object}
use Rattle.stores.proofs.objects.put_object.Goals as goal

pub returns : goal.returns
returns c = let a = c.args in part_whole (46 * a.o) 46 a.objects.now (render_object (used a.x)) _ c.put_row.ensures (length_object a.x) (omega arith)
