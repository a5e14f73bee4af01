use borrow.Author.Rules.{rules}
use mathlib.Core.Path.{ap₂, ◌∙◌}
use mathlib.Core.List.{List}
use Prim.Native.Nat.{ℕ}
use Rattle.wire.specs.Numbers.{Bytes}
use Rattle.names.specs.Rows.{parse_children}
use Rattle.names.specs.Visible.{seen_by}
use Rattle.names.specs.Calls.{left}
use Rattle.names_mend.proofs.CallLaws.{told}
use Rattle.names_mend.proofs.calls.mend_told.Goals as goal

pub returns : goal.returns
unfolding Bytes
returns c =
    λ ms.
    let a = c.args in
    let k = c.mend-x in
    ap₂ (λ (n : ℕ) (r : List ℕ). left n k.new.entries k.new.children ms r) c.done.ensures c.put_report.ensures
    ∙ told (seen_by a.marks.now (parse_children a.children.now)) a.entries.now a.children.now k.new.entries k.new.children a.report.now k.result k.ensures.0
    (λ i. search rules) (λ i. search rules) k.ensures.1 ms
