use mathlib.Core.Path.{refl}
use native.Mathlib.Omega.{arith}
use lib.ListN.{set, length-set}
use Rattle.names.specs.Calls.{report_numbers}
use Rattle.names_mend.specs.Mending.{report_by}
use Rattle.names_mend.proofs.calls.put_report.Goals as goal

pub bounds-report-1 : goal.bounds-report-1
bounds-report-1 c =
    omega (arith, length-set c.args.report.now 0 c.args.x.taken)

pub bounds-report-2 : goal.bounds-report-2
bounds-report-2 c =
    omega (arith, length-set c.args.report.now 0 c.args.x.taken, length-set (set c.args.report.now 0 c.args.x.taken) 1 c.args.x.written)

pub bounds-report-3 : goal.bounds-report-3
bounds-report-3 c =
    omega (arith, length-set c.args.report.now 0 c.args.x.taken, length-set (set c.args.report.now 0 c.args.x.taken) 1 c.args.x.written, length-set (set (set c.args.report.now 0 c.args.x.taken) 1 c.args.x.written) 2 c.args.x.appended)

pub returns : goal.returns
unfolding report_numbers report_by
returns c =
    refl
