use Rattle.capi_run.proofs.RunNumbers.{report_put}
use Rattle.capi_run.proofs.put_report.Goals as goal

pub returns : goal.returns
returns c = report_put _ _ _ _ c.put.ensures c.put_all.ensures
