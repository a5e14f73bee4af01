-- A line's bytes one after another in the lent bytes. Assumes nothing.
use Prim.Native.Nat.{ℕ, suc, ◌+◌, ◌-◌, ◌*◌, ◌≤◌, ◌<◌}
use mathlib.Core.Path.{◌≡◌, refl, sym, ap, subst, ◌∙◌}
use mathlib.Core.List.{List, foldl}
use mathlib.Core.Bool.{true}
use native.Mathlib.Numerals.{add-one}
use native.Mathlib.Omega.{arith}
use lib.ListN.{length, drop, get_or}
use lib.Seq.{drop-cons}
use borrow.Author.Tests.{ne_eqb}
use Rattle.intake.specs.declared.Kind.{Kind}
use Rattle.intake_bytes.specs.declared.Marks.{Marks}
use Rattle.intake_bytes.specs.declared.Unfinished.{Unfinished}
use Rattle.intake.specs.Reading.{Reading, is_going}
use Rattle.intake.specs.Says.{kind_of, digit}
use Rattle.intake.specs.Machine.{Partial, line_byte, State, going_byte, byte, want_in}
use Rattle.intake_bytes.specs.declared.Half.TheVariants.{Even, Odd}
use Rattle.intake_bytes.specs.Lent.{want_of, partial_in, part_of, valued, DigitStep, ByteStep, Held, Others, LineStep, Feeding, PastHead, DigitsFed, ValueFed, LineFed}
use Rattle.intake_bytes.specs.declared.Reached.{Reached}
use Rattle.intake_bytes.proofs.HoldLaws.{digit_step}
use Rattle.intake_bytes.proofs.StoreLaws.{first_half_lem}

-- the machine asks only how much is wanted of the line's own kind
line_want : (want also : Kind → ℕ) (p : Partial) (b : ℕ) → ((k : Kind) → want k ≡ also k) → line_byte want p b ≡ line_byte also p b
unfolding line_byte
line_want want also p b e = rw (e (kind_of p.head))

-- a byte of a line that isn't its end
byte_line : (room : ℕ) (want : Kind → ℕ) (R : Reading) (p : Partial) (b : ℕ) → is_going R.stop ≡ true → ((k : Kind) → want_in room R.entry k ≡ want k)
    → (b ≡ 10 → ⊥) → byte room (record { reading = R; line = p }) b ≡ record { reading = R; line = line_byte want p b }
unfolding byte going_byte
byte_line room want R p b e w n = rw (e, ne_eqb b 10 n, line_want (want_in room R.entry) want p b w)

pub feeding_start : (want : Kind → ℕ) (buf : List ℕ) (x : Unfinished) (piece : List ℕ) (from : ℕ) → Held want buf x → from ≤ length piece
    → Feeding want buf x piece from buf x from
unfolding Others
feeding_start want buf x piece from g h =
    record { same = λ R e w. refl; least = omega arith; within = h; held = g; counts = omega arith; long = refl; others = λ k e. refl }

module _ (want : Kind → ℕ) (before : List ℕ) (x : Unfinished) (piece : List ℕ) (from : ℕ) where
  pub feeding_step : (now : List ℕ) (y : Unfinished) (at : ℕ) (b : ℕ) (after : List ℕ) (r : Unfinished) → Feeding want before x piece from now y at
      → at < length piece → b ≡ get_or piece at 0 → (b ≡ 10 → ⊥) → LineStep want now y b after r → Feeding want before x piece from after r (at + 1)
  unfolding Others
  feeding_step now y at b after r f h e n s =
      record {
        same = λ R g w. f.same R g w ∙ next R g w;
        least = omega (arith, f.least);
        within = omega arith;
        held = s.held;
        counts = omega (arith, s.counts, f.counts, f.least);
        long = s.long ∙ f.long;
        others = λ k z. subst (λ (m : ℕ). part_of m k after ≡ part_of m k now) f.long (s.others k z) ∙ f.others k z;
      }
    where
      next : (R : Reading) → is_going R.stop ≡ true → ((k : Kind) → want_in (length before - 208) R.entry k ≡ want k)
          → foldl (byte (length before - 208)) (record { reading = R; line = partial_in now y }) (drop at piece)
          ≡ foldl (byte (length before - 208)) (record { reading = R; line = partial_in after r }) (drop (at + 1) piece)
      next R g w =
          ap (λ (l : List ℕ). foldl (byte (length before - 208)) (record { reading = R; line = partial_in now y }) l) (drop-cons piece at 0 h)
          ∙ ap (λ (z : State). foldl (byte (length before - 208)) z (drop (suc at) piece))
          (ap (byte (length before - 208) (record { reading = R; line = partial_in now y })) (sym e)
          ∙ byte_line (length before - 208) want R (partial_in now y) b g w n
          ∙ ap (λ (p : Partial). record { reading = R; line = p }) (sym s.line))
          ∙ ap (λ (z : ℕ). foldl (byte (length before - 208)) (record { reading = R; line = partial_in after r }) (drop z piece)) (sym (add-one at))

-- what is wanted, in a state whose length is given otherwise
pub held_at : (m : Marks) (a n : ℕ) (buf : List ℕ) (x : Unfinished) → a ≡ n → Held (want_of m a) buf x → Held (want_of m n) buf x
held_at m a n buf x e g = subst (λ (z : ℕ). Held (want_of m z) buf x) e g

pub step_at_lem : (m : Marks) (a n : ℕ) (buf : List ℕ) (x : Unfinished) (b : ℕ) (after : List ℕ) (r : Unfinished) → a ≡ n
    → LineStep (want_of m a) buf x b after r → LineStep (want_of m n) buf x b after r
step_at_lem m a n buf x b after r e s = subst (λ (z : ℕ). LineStep (want_of m z) buf x b after r) e s

-- from one place to a second, and from there to a third
pub feeding_then : (want : Kind → ℕ) (before : List ℕ) (x : Unfinished) (piece : List ℕ) (from : ℕ) (now : List ℕ) (y : Unfinished) (at : ℕ) (after : List ℕ) (r : Unfinished) (end : ℕ)
    → Feeding want before x piece from now y at → Feeding want now y piece at after r end → Feeding want before x piece from after r end
unfolding Others
feeding_then want before x piece from now y at after r end f g =
    record {
      same = λ R e w. f.same R e w ∙ later R e w;
      least = omega (arith, f.least, g.least);
      within = g.within;
      held = g.held;
      counts = omega (arith, f.counts, g.counts, f.least, g.least);
      long = g.long ∙ f.long;
      others = λ k z. subst (λ (m : ℕ). part_of m k after ≡ part_of m k now) f.long (g.others k z) ∙ f.others k z;
    }
  where
    later : (R : Reading) → is_going R.stop ≡ true → ((k : Kind) → want_in (length before - 208) R.entry k ≡ want k)
        → foldl (byte (length before - 208)) (record { reading = R; line = partial_in now y }) (drop at piece)
        ≡ foldl (byte (length before - 208)) (record { reading = R; line = partial_in after r }) (drop end piece)
    later R e w =
        subst
        (λ (n : ℕ). foldl (byte (n - 208)) (record { reading = R; line = partial_in now y }) (drop at piece) ≡ foldl (byte (n - 208)) (record { reading = R; line = partial_in after r }) (drop end piece))
        f.long (g.same R e (λ k. ap (λ (n : ℕ). want_in (n - 208) R.entry k) f.long ∙ w k))

-- a place past which nothing is left
pub reaches : (at n : ℕ) → n ≤ at → at ≤ n → at ≡ n
reaches at n h k = omega arith

-- ## The digits of a value

pub digits_start : (buf : List ℕ) (x : Unfinished) (piece : List ℕ) (from : ℕ) → PastHead (length buf) x (length piece) from → DigitsFed buf x piece from buf x from
digits_start buf x piece from h =
    record {
      long = refl;
      room = h.room;
      full = h.full;
      least = omega arith;
      within = h.within;
      counts = omega arith;
      fed = λ m g. feeding_start (want_of m (length buf)) buf x piece from g h.within;
    }

module _ (before : List ℕ) (x : Unfinished) (piece : List ℕ) (from : ℕ) where
  pub digits_step : (now : List ℕ) (y : Unfinished) (at b : ℕ) (after : List ℕ) (r : Unfinished) → DigitsFed before x piece from now y at
      → PastHead (length before) x (length piece) from → at < length piece → b ≡ get_or piece at 0 → (b ≡ 10 → ⊥) → DigitStep now y b after r
      → DigitsFed before x piece from after r (at + 1)
  digits_step now y at b after r d p h e n s =
      record {
        long = s.within.long ∙ d.long;
        room = record {
          fits = omega (arith, d.room.fits, s.base, s.most, s.within.long);
          past = omega (arith, d.room.past, s.base);
          halves = s.halves;
          counts = omega (arith, s.counts, d.counts, d.least, p.counts);
        };
        full = omega (arith, s.seen, d.full);
        least = omega (arith, d.least);
        within = omega arith;
        counts = omega (arith, s.counts, d.counts, d.least);
        fed = λ m g. feeding_step (want_of m (length before)) before x piece from now y at b after r (d.fed m g) h e n (one m g);
      }
    where
      one : (m : Marks) → Held (want_of m (length before)) before x → LineStep (want_of m (length before)) now y b after r
      one m g =
          let f : Feeding (want_of m (length before)) before x piece from now y at = d.fed m g in
          step_at_lem m (length now) (length before) now y b after r f.long
          (digit_step m now y b after r (held_at m (length before) (length now) now y (sym f.long) f.held) d.full s)

  -- byte 10 is no digit
  not_newline : (b d : ℕ) → d ≡ digit b → d < 16 → b ≡ 10 → ⊥
  unfolding digit
  not_newline b d e h n = omega (arith, e ∙ ap digit n)

  pub pair_step : (now : List ℕ) (y : Unfinished) (at high low v : ℕ) (after : List ℕ) (r : Unfinished) → DigitsFed before x piece from now y at
      → PastHead (length before) x (length piece) from → at + 2 ≤ length piece → y.half ≡ Even → (high ≡ digit (get_or piece at 0)) × (high < 16)
      → (low ≡ digit (get_or piece (at + 1) 0)) × (low < 16) → v ≡ 16 * high + low → ByteStep now y v after r → DigitsFed before x piece from after r (at + 2)
  pair_step now y at high low v after r d p h z i j w s =
      let one : DigitsFed before x piece from now (valued y (Odd high) y.size) (at + 1) =
      digits_step now y at _ now (valued y (Odd high) y.size) d p (omega arith) refl (not_newline _ high i.0 i.1) (first_half_lem now y _ z high i.0 i.1) in
      subst (DigitsFed before x piece from after r) (two at)
      (digits_step now (valued y (Odd high) y.size) (at + 1) _ after r one p (omega arith) refl (not_newline _ low j.0 j.1)
      (s.second high _ i.1 (omega (arith, j.0, j.1)) (omega (arith, w, j.0))))
    where
      two : (n : ℕ) → n + 1 + 1 ≡ n + 2
      two n = omega arith

-- ## A line's head, and then its value

module _ (m : Marks) (before : List ℕ) (x : Unfinished) (piece : List ℕ) (from : ℕ) (now : List ℕ) (y : Unfinished) (at : ℕ) (f : Feeding (want_of m (length before)) before x piece from now y at) where
  pub past_head : 14 ≤ y.seen → x.size + length piece < 0xffffffffffffffff → PastHead (length now) y (length piece) at
  past_head h k =
      record {
        room = record { fits = f.held.fits; past = f.held.past; halves = f.held.halves; counts = omega (arith, f.counts, f.least, f.within) };
        full = h;
        counts = omega (arith, f.counts, f.least, f.within);
        within = f.within;
      }

  pub value_then : (after : List ℕ) (r : Reached) → ValueFed now y piece at after r → LineFed (want_of m (length before)) before x piece from after r
  unfolding ValueFed
  value_then after r v =
      let g : LineFed (want_of m (length now)) now y piece at after r = v m (held_at m (length before) (length now) now y (sym f.long) f.held) in
      record {
        fed =
            feeding_then (want_of m (length before)) before x piece from now y at after r.line r.at f
            (subst (λ (n : ℕ). Feeding (want_of m n) now y piece at after r.line r.at) f.long g.fed);
        stop = g.stop;
      }

-- some digits, and then the others
pub digits_then : (before : List ℕ) (x : Unfinished) (piece : List ℕ) (from : ℕ) (now : List ℕ) (y : Unfinished) (at : ℕ) (after : List ℕ) (r : Reached)
    → DigitsFed before x piece from now y at → ValueFed now y piece at after r → ValueFed before x piece from after r
unfolding ValueFed
digits_then before x piece from now y at after r d v = λ m g. value_then m before x piece from now y at (d.fed m g) after r v
