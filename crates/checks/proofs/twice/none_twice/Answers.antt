use mathlib.Core.Path.{sym, ◌∙◌}
use native.Mathlib.Omega.{arith}
use native.Mathlib.Nat.{div-le_self}
use lib.ListN.{length}
use Rattle.tables.proofs.AllLaws.{row_fits}
use Rattle.tables.proofs.TwiceLaws.{none_start, none_end, none_unused, none_pass, none_fail}
use Rattle.checks.proofs.twice.none_twice.Goals as goal
use Rattle.checks.proofs.twice.none_twice.Goals.{else-is_used-via-then-is_used+else-has_self, else-is_used-via-else-is_used}

pub loop-r-init : goal.loop-r-init
loop-r-init c = (omega arith, none_start _ _ _)

pub row_at-row-requires : goal.row_at-row-requires
row_at-row-requires c = let a = c.args in row_fits a.size _ (length a.table.now) (omega arith) (omega arith)

pub overflow_add-r : goal.overflow_add-r
overflow_add-r c = let a = c.args in omega (arith, div-le_self (length a.table.now) a.size)

pub returns-then-has_self : goal.returns-then-has_self
returns-then-has_self c =
    let d = c in
    none_fail _ _ _ _ _ _ d.loop-r.invariant.1 (omega arith) d.row_at-row.ensures.0 (sym c.is_used.ensures ∙ c.if-is_used.true)
    _ c.self_fid.ensures (sym c.has_self.ensures ∙ c.if-has_self.true)

pub overflow_step-r : goal.overflow_step-r
overflow_step-r c = let a = c.args in omega (arith, div-le_self (length a.table.now) a.size)

pub loop-r-preserved : goal.loop-r-preserved
loop-r-preserved c =
    let i = c.loop-r.invariant in
    elim c.else-is_used.branch [
      | else-is_used-via-then-is_used+else-has_self w ↦ (
        omega arith,
        none_pass _ _ _ _ _ _ i.1 (omega arith) c.row_at-row.ensures.0 (sym c.is_used.ensures ∙ w.if-is_used.true)
            _ w.self_fid.ensures (sym w.has_self.ensures ∙ w.if-has_self.false),
      )
      | else-is_used-via-else-is_used w ↦
          (omega arith, none_unused _ _ _ _ _ _ i.1 (omega arith) c.row_at-row.ensures.0 (sym c.is_used.ensures ∙ w.if-is_used.false))
    ]

pub returns : goal.returns
returns c = none_end _ _ _ _ _ c.loop-r.invariant.1 (omega arith)
