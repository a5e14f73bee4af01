use native.Mathlib.Omega.{arith}
use mathlib.Core.Path.{sym, ◌∙◌}
use Rattle.intake.specs.Says.{trusted_word, lov_word, fid_word, lma_word}
use Rattle.intake_bytes.proofs.WordLaws.{starts_long, kind_not, kind_lov, kind_fid, kind_lma, kind_other, part_named}
use Rattle.intake_bytes.proofs.kind_of.Goals as goal

pub returns-then-not-starts : goal.returns-then-not-starts
returns-then-not-starts c = let a = c.args in kind_not a.s.now (sym c.starts.ensures ∙ c.if-not-starts.true)

pub slice_bounds-named-count : goal.slice_bounds-named-count
slice_bounds-named-count c = omega (arith, starts_long trusted_word c.args.s.now (sym c.starts.ensures ∙ c.if-not-starts.false))

pub slice_bounds-named-start : goal.slice_bounds-named-start
slice_bounds-named-start c = omega (arith, starts_long trusted_word c.args.s.now (sym c.starts.ensures ∙ c.if-not-starts.false))

pub slice_bounds-named-count-2 : goal.slice_bounds-named-count-2
slice_bounds-named-count-2 c = omega (arith, starts_long trusted_word c.args.s.now (sym c.starts.ensures ∙ c.if-not-starts.false))

pub slice_bounds-named-start-2 : goal.slice_bounds-named-start-2
slice_bounds-named-start-2 c = omega (arith, starts_long trusted_word c.args.s.now (sym c.starts.ensures ∙ c.if-not-starts.false))

pub slice_bounds-named-count-3 : goal.slice_bounds-named-count-3
slice_bounds-named-count-3 c = omega (arith, starts_long trusted_word c.args.s.now (sym c.starts.ensures ∙ c.if-not-starts.false))

pub slice_bounds-named-start-3 : goal.slice_bounds-named-start-3
slice_bounds-named-start-3 c = omega (arith, starts_long trusted_word c.args.s.now (sym c.starts.ensures ∙ c.if-not-starts.false))

pub returns-then-named : goal.returns-then-named
returns-then-named c =
    let a = c.args in
    kind_lov a.s.now (sym c.starts.ensures ∙ c.if-not-starts.false) (sym (part_named lov_word a.s.now) ∙ sym c.named.ensures ∙ c.if-named.true)

pub returns-then-named-2 : goal.returns-then-named-2
returns-then-named-2 c =
    let a = c.args in
    kind_fid a.s.now (sym c.starts.ensures ∙ c.if-not-starts.false) (sym (part_named lov_word a.s.now) ∙ sym c.named.ensures ∙ c.if-named.false) (sym (part_named fid_word a.s.now) ∙ sym c.named-2.ensures ∙ c.if-named-2.true)

pub returns-then-named-3 : goal.returns-then-named-3
returns-then-named-3 c =
    let a = c.args in
    kind_lma a.s.now (sym c.starts.ensures ∙ c.if-not-starts.false) (sym (part_named lov_word a.s.now) ∙ sym c.named.ensures ∙ c.if-named.false) (sym (part_named fid_word a.s.now) ∙ sym c.named-2.ensures ∙ c.if-named-2.false) (sym (part_named lma_word a.s.now) ∙ sym c.named-3.ensures ∙ c.if-named-3.true)

pub returns : goal.returns
returns c =
    let a = c.args in
    kind_other a.s.now (sym c.starts.ensures ∙ c.if-not-starts.false) (sym (part_named lov_word a.s.now) ∙ sym c.named.ensures ∙ c.if-named.false) (sym (part_named fid_word a.s.now) ∙ sym c.named-2.ensures ∙ c.if-named-2.false) (sym (part_named lma_word a.s.now) ∙ sym c.named-3.ensures ∙ c.if-named-3.false)
