use Rattle.tables.proofs.SoundLaws.{sound_facts}
use Rattle.capi_keeper.proofs.KeeperNumbers.{place_is, count_is}
use Rattle.capi_keeper.proofs.search_of.Goals as goal

pub search-requires : goal.search-requires
search-requires c = let k = sound_facts _ _ c.requires in (k.layouts, k.parents_differ)

pub returns : goal.returns
returns c =
    let l = c.lookup-found.ensures in
    let e = c.claim_in.ensures in
    record {
      place = place_is _ _ _ _ _ l e _ c.search.ensures.place;
      compared = count_is _ _ _ _ _ l e _ c.search.ensures.compared;
    }
