use mathlib.Core.Path.{sym, ap, ◌∙◌}
use mathlib.Core.Bool.{not, ◌||◌}
use native.Mathlib.Omega.{arith}
use Rattle.std.proofs.Common.{rules}
use Rattle.std.proofs.lemmas.Iterator.{YieldsList-from_map}
use Rattle.std.proofs.lemmas.Iterator.Adapters.{option_map_id}
use Rattle.std.proofs.lemmas.Iterator.Search.{find_from_yields_List}
use Rattle.std.specs.Slice.Iter.{chunks_exact_rest, chunks_exact_size}
use Rattle.wire.proofs.ChunkLaws.{chunk_rows}
use Rattle.tables.specs.Bytes.{parse, parse_parents, parse_objects, reserve_fid, reserve_entries, parse_reserve}
use Rattle.rules.specs.Search.{is_row}
use Rattle.rules.specs.Rows.{object_row, named}
use Rattle.search.proofs.ReserveLaws.{find_usable}
use Rattle.search.proofs.reserve.usable.Goals as goal

pub returns : goal.returns
unfolding parse_reserve reserve_entries reserve_fid
returns c =
    sym (option_map_id c.find.result)
    ∙ find_from_yields_List (λ f. not (is_row (object_row (parse_objects c.args.objects.now) f) || named (parse_parents c.args.parents.now) f)) _ _ c.find.result c.find.ensures.ran
    (YieldsList-from_map _ reserve_fid
    (chunk_rows _ c.args.reserve.now (omega arith) (ap chunks_exact_rest c.map.ensures.source ∙ c.chunks_exact.ensures.rest) (ap chunks_exact_size c.map.ensures.source ∙ c.chunks_exact.ensures.size))
    c.map.ensures.closure (λ x r q k. search rules))
    (λ x b q k. search rules)
    ∙ find_usable (parse c.args.parents.now c.args.objects.now) (parse_reserve c.args.reserve.now)
