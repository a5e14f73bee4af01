-- What the code tells of a mending, as the definition says it.
use Rattle.std.specs.Prelude.{ℕ, Bool, cond, List}
use Rattle.names.specs.Rows.{Entry, Child}
use Rattle.names.specs.Mend.{Report, Mended, link_full}
use Rattle.names_mend.specs.declared.Mending.{Mending}

unfoldable pub answer_of : Bool → ℕ
answer_of full = cond full link_full 0

unfoldable pub report_by : Mending → Report
report_by x = record { taken = x.taken; written = x.written; appended = x.appended; removed = x.removed; reached = x.reached }

-- with the entries and children that it left
unfoldable pub mended_by : Mending → List Entry → List Child → Mended
mended_by x es cs = record { answer = answer_of x.full; entries = es; children = cs; report = report_by x }
