use mathlib.Core.Path.{◌≡◌, sym, ◌∙◌}
use mathlib.Core.Logic.{◌⊎◌, inl, inr, ⊎_elim}
use Prim.Native.Nat.{◌+◌}
use native.Mathlib.Omega.{arith}
use lib.Seq.{get_or-take, length-take-le}
use Rattle.names.specs.Rows.{parse_children}
use Rattle.names_store.proofs.NoteLaws.{note_at_lem}
use Rattle.names_append.proofs.AskLaws.{swept_start, swept_on, swept_more, swept_end}
use Rattle.names_append.specs.declared.Asked.TheVariants.{Nothing, Room}
use Rattle.names_append.proofs.append_all.Goals as goal
use Rattle.names_append.proofs.append_all.Goals.{Joined-append_at, in-Nothing, in-Room}

-- what the two arms that go on give
told : (c : goal.Joined-append_at) →
    (let x = c.append_at.result in let n = c.loop-i.n in
    ((x ≡ Nothing) × (c.match-append_at.n ≡ n)) ⊎ ((x ≡ Room) × (c.match-append_at.n ≡ n + 1)))
told c = elim c.match-append_at.branch [ in-Nothing w ↦ inl (w.in-Nothing.is, w.n-is) | in-Room w ↦ inr (w.in-Room.is, w.n-is) ]

pub loop-i-init : goal.loop-i-init
loop-i-init c =
    let a = c.args in
    (omega arith, omega arith, omega arith, c.requires.0, λ seen q. swept_start seen a.entries.now (parse_children a.children.now))

pub append_at-requires : goal.append_at-requires
append_at-requires c = (c.loop-i.invariant.3, omega (arith, length-take-le _ c.args.notes.now c.requires.1))

pub returns-in-More : goal.returns-in-More
returns-in-More c =
    let a = c.args in
    let m = length-take-le _ a.notes.now c.requires.1 in
    let t = c.append_at.ensures in (
      t.0,
      λ seen q.
          swept_more seen a.entries.now c.loop-i.i (parse_children c.loop-i.children) _ c.loop-i.n (omega (arith, m)) _
          (t.1 seen (get_or-take _ a.notes.now c.loop-i.i 0 (omega (arith, m)) ∙ note_at_lem seen a.entries.now a.notes.now c.loop-i.i (omega (arith, m)) q)) c.in-More.is
          ∙ sym (c.loop-i.invariant.4 seen q),
    )

pub loop-i-preserved : goal.loop-i-preserved
loop-i-preserved c =
    let a = c.args in
    let m = length-take-le _ a.notes.now c.requires.1 in
    let t = c.append_at.ensures in
    let w = told (goal.at.loop-i-preserved c).Joined-append_at in (
      omega (arith, m),
      ⊎_elim (λ v. omega (arith, v.1)) (λ v. omega (arith, v.1)) w,
      omega arith,
      t.0,
      λ seen q.
          c.loop-i.invariant.4 seen q
          ∙ swept_on seen a.entries.now c.loop-i.i (parse_children c.loop-i.children) _ c.loop-i.n (omega (arith, m)) _
          (t.1 seen (get_or-take _ a.notes.now c.loop-i.i 0 (omega (arith, m)) ∙ note_at_lem seen a.entries.now a.notes.now c.loop-i.i (omega (arith, m)) q)) c.match-append_at.n w,
    )

pub returns : goal.returns
returns c =
    let a = c.args in
    let m = length-take-le _ a.notes.now c.requires.1 in (
      c.loop-i.invariant.3,
      λ seen q.
          swept_end seen a.entries.now c.loop-i.i (parse_children c.loop-i.children) c.loop-i.n (omega (arith, m)) (omega arith) ∙ sym (c.loop-i.invariant.4 seen q),
    )
