-- The rules' run as a run of bytes.
use Rattle.std.specs.Prelude.{ℕ, List}
use Rattle.tables.specs.Bytes.{render_parents, render_objects}
use Rattle.rules.specs.Runs.{Run}
use Rattle.rules.specs.declared.Report.{Report}

-- what a run call returns and how it leaves the two tables
pub record Ran : Type 0 where
  pub report : Report
  pub parents : List ℕ
  pub objects : List ℕ

-- the rules' run, back in bytes
unfoldable pub rendered : Run → Ran
rendered x = record { report = x.report; parents = render_parents x.tables; objects = render_objects x.tables }
