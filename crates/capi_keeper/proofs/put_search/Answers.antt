use Rattle.capi_keeper.proofs.KeeperNumbers.{put_nowhere, put_place}
use Rattle.capi_keeper.proofs.put_search.Goals as goal

pub returns-in-None : goal.returns-in-None
returns-in-None c =
    let a = c.args in
    put_nowhere a.out.now _ _ a.found.compared c.in-None.is c.put_four.ensures

pub returns-in-Some : goal.returns-in-Some
returns-in-Some c =
    let a = c.args in
    put_place a.out.now _ _ a.found.compared _ _ c.in-Some.is c.put_four-in-Some.ensures
