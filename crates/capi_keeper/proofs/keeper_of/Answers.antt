use Rattle.std.proofs.Common.{refl, sym}
use Rattle.std.proofs.lemmas.Result.{err_from_is_err_and}
use Rattle.tables.proofs.CheckLaws.{refusal_not}
use Rattle.capi_keeper.proofs.AskedLaws.{good_fits, zero_passes}
use Rattle.capi_keeper.proofs.KeeperNumbers.{told_none, told_short, told_done}
use Rattle.capi_keeper.proofs.keeper_of.Goals as goal

pub returns-in_err-check_asked : goal.returns-in_err-check_asked
returns-in_err-check_asked c =
    let p = err_from_is_err_and c.from_residual.result c.from_residual.ensures.1 in
    let whole = told_none _ _ _ _ _ _ c.in_err-check_asked.ensures (refusal_not c.in_err-check_asked.field-0.0) in
    record { answer = rw (p.1, p.2) whole.0; out = whole.1 }

pub returns-then-out-lt-KEEPER_SIZE : goal.returns-then-out-lt-KEEPER_SIZE
returns-then-out-lt-KEEPER_SIZE c =
    let whole = told_short _ _ _ _ _ _ c.in_ok-check_asked.ensures refl c.if-out-lt-KEEPER_SIZE.true in
    record { answer = whole.0; out = whole.1 }

pub asked_fid-requires : goal.asked_fid-requires
asked_fid-requires c = good_fits _ _ (zero_passes _ _ _ _ (sym c.in_ok-check_asked.ensures)).fid

pub search_of-found-requires : goal.search_of-found-requires
search_of-found-requires c = (zero_passes _ _ _ _ (sym c.in_ok-check_asked.ensures)).tables

pub returns : goal.returns
returns c =
    let whole = told_done _ _ _ _ _ _ c.in_ok-check_asked.ensures refl
    _ _ _ _ c.if-out-lt-KEEPER_SIZE.false c.asked_fid.ensures c.search_of-found.ensures.place c.search_of-found.ensures.compared c.put_search.ensures in
    record { answer = whole.0; out = whole.1 }
