-- The byte that ends a line, over the lent bytes. Assumes nothing.
use Prim.Native.Nat.{ℕ, suc, ◌+◌, ◌≤◌}
use mathlib.Core.Path.{◌≡◌, refl, sym, ap, subst, ◌∙◌}
use mathlib.Core.List.{List}
use native.Mathlib.Numerals.{add-one}
use native.Mathlib.Omega.{arith}
use lib.ListN.{length, take, drop}
use Rattle.intake.specs.declared.Kind.{Kind}
use Rattle.intake_bytes.specs.declared.Marks.{Marks}
use Rattle.intake_bytes.specs.declared.Unfinished.{Unfinished}
use Rattle.intake_line.specs.declared.Reader.{Reader}
use Rattle.intake_line.specs.declared.Said.{Said}
use Rattle.std.specs.Prelude.{Some, None, Ok, Err}
use Rattle.refusals.specs.declared.Refusal.{Refusal}
use Rattle.intake.specs.Says.{Line, kind_of}
use Rattle.intake.specs.Reading.{Reading, is_going, take_line, on_line, goes_on}
use Rattle.intake.specs.Machine.{byte, going_byte, no_line}
use Rattle.intake_bytes.specs.Lent.{want_of, new_line, kept_in, digits_of, digits_in, partial_in, HalfFits, Held}
use Rattle.intake_line.specs.Ending.{line_of, LineSaid}
use Rattle.intake_line.specs.Entry.{open_in, After, AfterHeld, after_is, Standing, EntryStep, ReaderHeld, TurnHeld, state_in, turn_is, TurnTaken}
use Rattle.intake_line.proofs.GlueLaws.{stands}

pub new_is : (buf : List ℕ) → no_line ≡ partial_in buf new_line
unfolding no_line partial_in digits_in digits_of kept_in
new_is buf = refl

-- and it is held, whatever is wanted
pub new_held : (want : Kind → ℕ) (buf : List ℕ) → 208 ≤ length buf → Held want buf new_line
unfolding HalfFits
new_held want buf h =
    record {
      heads = omega arith;
      short = λ _. (refl, refl);
      at = λ q. absurd (omega arith);
      keeps = λ q. absurd (omega arith);
      past = omega arith;
      fits = omega arith;
      halves = tt;
    }

module _ (buf : List ℕ) (r : Reader) (g : ReaderHeld buf r) (s : Said) (l : LineSaid buf r.line s) (a : After)
    (e : EntryStep r.from r.marks s r.line.size (r.count + 1) a) where
  standing : Standing r.marks s r.line.size buf (kept_in buf r.line)
  unfolding Standing
  standing k q z =
      let w = l.whole k q in
      let full : r.line.seen ≡ 14 = omega (arith, w.0, g.held.heads) in
      stands r.marks buf r.line k g.held w.0 (w.1 ∙ ap (λ (n : ℕ). kind_of (take n (drop 128 buf))) full) z

  -- what the end byte does, by the code's answer
  ended : (room : ℕ) (R : Reading) → byte room (state_in R buf r) 10
      ≡ record { reading = after_is room (state_in R buf r).reading (suc r.count) buf r.from r.marks a; line = no_line }
  unfolding byte going_byte take_line is_going state_in
  ended room R =
      ap (λ (x : Line). record { reading = on_line room (state_in R buf r).reading (suc r.count) (open_in buf r.from r.marks) x; line = no_line }) (sym l.says)
      ∙ ap (λ (z : Reading). record { reading = z; line = no_line })
      (subst (λ (n : ℕ). on_line room (state_in R buf r).reading n (open_in buf r.from r.marks) (line_of s r.line.size (kept_in buf r.line))
      ≡ after_is room (state_in R buf r).reading n buf r.from r.marks a) (add-one r.count)
      (e.step room (state_in R buf r).reading buf (kept_in buf r.line) standing))

  marks : AfterHeld r.from a
  marks = e.marked (λ k q. (l.whole k q).2) g.marked

  pub turn_next : (f : ℕ) (n : Marks) (x : Unfinished) → a ≡ Ok (Some (f, n)) → x ≡ new_line → TurnTaken buf r (Ok (Some (record { from = f; marks = n; count = r.count + 1; line = x })))
  unfolding turn_is after_is goes_on state_in TurnHeld AfterHeld
  turn_next f n x q z = record {
    turn = λ room R. ended room R ∙ rw (q, z, add-one, ← new_is buf);
    held = record {
      count = refl;
      marked = subst (AfterHeld r.from) q marks;
      held = subst (λ (y : Unfinished). Held (want_of n (length buf)) buf y) (sym z) (new_held (want_of n (length buf)) buf g.long);
      size = ap (λ (y : Unfinished). y.size) z;
    };
  }

  pub turn_stop : (n : Refusal) → a ≡ Err n → TurnTaken buf r (Err n)
  unfolding turn_is after_is TurnHeld AfterHeld
  turn_stop n q = record { turn = λ room R. ended room R ∙ rw q; held = subst (AfterHeld r.from) q marks }

  pub turn_close : a ≡ Ok None → TurnTaken buf r (Ok None)
  unfolding turn_is after_is TurnHeld AfterHeld
  turn_close q = record { turn = λ room R. ended room R ∙ rw q; held = subst (AfterHeld r.from) q marks }
