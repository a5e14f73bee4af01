use native.Mathlib.Omega.{arith}
use mathlib.Core.Path.{◌∙◌}
use Rattle.linkea.proofs.RecordLaws.{length_read, is_cut, is_short, is_past, is_name}
use Rattle.linkea.proofs.bad_record.Goals as goal
use Rattle.linkea.proofs.bad_record.Goals.{then-n-lt-SHORTEST_RECORD-via-then-n-lt-SHORTEST_RECORD, then-n-lt-SHORTEST_RECORD-via-else-n-lt-SHORTEST_RECORD+then-left-n}

pub returns-then-left-lt-SHORTEST_RECORD : goal.returns-then-left-lt-SHORTEST_RECORD
returns-then-left-lt-SHORTEST_RECORD c = let a = c.args in is_cut a.l.now a.p (omega arith)

pub returns-then-n-lt-SHORTEST_RECORD : goal.returns-then-n-lt-SHORTEST_RECORD
returns-then-n-lt-SHORTEST_RECORD c =
    let a = c.args in
    let e = c.get-n.ensures in
    let r = length_read a.l.now a.p in
    elim c.then-n-lt-SHORTEST_RECORD.branch [
      | then-n-lt-SHORTEST_RECORD-via-then-n-lt-SHORTEST_RECORD w ↦ let t = w.if-n-lt-SHORTEST_RECORD.true in is_short a.l.now a.p (omega (arith, e, r, t))
      | then-n-lt-SHORTEST_RECORD-via-else-n-lt-SHORTEST_RECORD+then-left-n w ↦
          let s = w.if-n-lt-SHORTEST_RECORD.false in
          let t = w.if-left-n.true in
          is_past a.l.now a.p (omega (arith, e, r, s)) (omega (arith, e, r, t))
    ]

pub returns : goal.returns
returns c =
    let a = c.args in
    c.bad_bytes.ensures ∙ is_name a.l.now a.p _ (c.get-n.ensures ∙ length_read a.l.now a.p) (omega arith) (omega arith)
