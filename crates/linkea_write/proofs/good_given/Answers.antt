use Rattle.std.proofs.Common.{not, ap, rules}
use Rattle.std.proofs.lemmas.Iterator.{YieldsList-from_slice}
use Rattle.std.proofs.lemmas.Iterator.Search.{any_from_yields_List}
use Rattle.linkea_write.proofs.ChunkLaws.{is_bad}
use Rattle.linkea_write.proofs.good_given.Goals as goal

pub returns : goal.returns
returns c =
    ap not (any_from_yields_List (is_bad c.args.names.now) _ _ _ c.any.ensures.ran (YieldsList-from_slice c.args.records.now cc) (λ x b q k. search (rules, k)))
