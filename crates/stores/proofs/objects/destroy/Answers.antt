use Prim.Native.Nat.{◌*◌}
use native.Mathlib.Omega.{arith}
use Rattle.rules.specs.Repairs.{destroyed}
use Rattle.tables.specs.Bytes.{render_object}
use Rattle.stores.proofs.StoreLaws.{part_whole}
use Rattle.stores.proofs.ObjectStores.{length_destroyed}
use Rattle.stores.proofs.objects.destroy.Goals as goal

pub returns : goal.returns
returns c = let a = c.args in part_whole (46 * a.o) 46 a.objects.now (render_object destroyed) _ c.zero_row.ensures length_destroyed (omega arith)
