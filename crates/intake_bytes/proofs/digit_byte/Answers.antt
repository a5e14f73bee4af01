use native.Mathlib.Omega.{arith}
use Rattle.intake_bytes.proofs.StartsLaws.{digit_at, digit_not}
use Rattle.intake_bytes.proofs.StoreLaws.{stays_broken, no_digit, first_half_lem, byte_second, half_below}
use Rattle.intake_bytes.proofs.digit_byte.Goals as goal

pub returns-in-Broken-half : goal.returns-in-Broken-half
returns-in-Broken-half c = let a = c.args in stays_broken a.buf.now a.x a.b c.in-Broken-half.is

pub returns-in_default-digit : goal.returns-in_default-digit
returns-in_default-digit c = let a = c.args in no_digit a.buf.now a.x a.b (digit_not a.b c.in_default-digit.ensures)

pub overflow_mul-h : goal.overflow_mul-h
overflow_mul-h c = omega (arith, half_below c.args.x c.in-Odd.h c.requires.halves c.in-Odd.is)

pub overflow_cast-h : goal.overflow_cast-h
overflow_cast-h c = omega (arith, half_below c.args.x c.in-Odd.h c.requires.halves c.in-Odd.is)

pub overflow_add-h : goal.overflow_add-h
overflow_add-h c =
    let d = digit_at c.args.b c.in-Some.d c.in-Some.ensures in
    omega (arith, half_below c.args.x c.in-Odd.h c.requires.halves c.in-Odd.is, d.1)

pub returns-in-Broken : goal.returns-in-Broken
returns-in-Broken c = let a = c.args in stays_broken a.buf.now a.x a.b c.in-Broken.is

pub returns-in-Even : goal.returns-in-Even
returns-in-Even c =
    let a = c.args in
    let d = digit_at a.b c.in-Some.d c.in-Some.ensures in
    first_half_lem a.buf.now a.x a.b c.in-Even.is c.in-Some.d d.0 d.1

pub returns-in-Odd : goal.returns-in-Odd
returns-in-Odd c =
    let a = c.args in
    let d = digit_at a.b c.in-Some.d c.in-Some.ensures in
    byte_second a.buf.now a.x _ c.requires _ _ c.in-Odd.h a.b c.put_byte.ensures c.in-Odd.is (half_below a.x c.in-Odd.h c.requires.halves c.in-Odd.is)
    (omega (arith, d.0, d.1)) (omega (arith, d.0))
