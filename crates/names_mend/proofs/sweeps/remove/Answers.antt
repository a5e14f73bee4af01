use mathlib.Core.Path.{sym, ap, subst, ◌∙◌}
use Prim.Native.Nat.{ℕ}
use native.Mathlib.Omega.{arith}
use lib.ListN.{take, drop}
use lib.Seq.{length-take-le}
use Rattle.wire.proofs.Splice.{drop_take_all}
use Rattle.names_marks.specs.Directories.{IndexedUnder}
use Rattle.names_prune.specs.ByChild.{ByChild}
use Rattle.names_mend.proofs.sweeps.remove.Goals as goal

pub returns-then-full : goal.returns-then-full
returns-then-full c =
    (rw c.if-full.true, rw c.if-full.true, c.requires.0)

pub slice_bounds-prune-end : goal.slice_bounds-prune-end
slice_bounds-prune-end c =
    sym (length-take-le c.entries_at-at.result c.args.index.now (omega (arith, c.entries_at-at.ensures, c.requires.1.index_long)))

pub slice_bounds-prune-count : goal.slice_bounds-prune-count
slice_bounds-prune-count c =
    omega (arith, c.entries_at-at.ensures, c.requires.1.index_long)

pub slice_bounds-prune-start : goal.slice_bounds-prune-start
slice_bounds-prune-start c =
    omega (arith, c.entries_at-at.ensures, c.requires.1.index_long)

pub prune-requires : goal.prune-requires
prune-requires c =
    let a = c.args in
    let e = sym c.entries_at-at.ensures in
    let d = drop_take_all c.entries_at-at.result a.index.now in (
      c.requires.0,
      subst (λ (i : ℕ). IndexedUnder a.children.now a.marks.now (take i a.index.now) a.n) e c.requires.1.directories,
      subst (ByChild a.entries.now) (ap (λ (i : ℕ). drop i a.index.now) e ∙ sym d) c.requires.1.by_child,
      c.requires.1.noted,
    )

pub returns : goal.returns
returns c =
    let e = c.prune.ensures in let h = c.if-full.false in (rw h e.0, rw h e.1, e.2)
