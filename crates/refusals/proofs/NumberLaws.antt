-- Refusals and their numbers are the same, and what `told` says of a number.
use Rattle.std.proofs.Common.{◌≡◌, ℕ, Bool, true, false, cond, eqb, eqb-true, refl, ap, ◌∙◌}
use Rattle.std.specs.Prelude.{Ok, Err}
use Rattle.refusals.specs.Numbers.{number, answer, refusal, told}
use Rattle.refusals.specs.declared.Refusal.{Refusal}
use Rattle.refusals.specs.declared.Refusal.TheVariants.{BadTable, BadPolicy, BadLayout, BadFid, FidTwice, NoPlace, TooShort, NoReserve, NoObjectRow, NoParentRow, BadLink, BadDump, AttributeTwice, NoSelf, NoKind, NoFit, LinkFull, LongClimb}

-- no two refusals have one number
pub refusal_of_number : (e : Refusal) → refusal (number e) ≡ e
unfolding refusal
refusal_of_number BadTable = refl
refusal_of_number BadPolicy = refl
refusal_of_number BadLayout = refl
refusal_of_number BadFid = refl
refusal_of_number FidTwice = refl
refusal_of_number NoPlace = refl
refusal_of_number TooShort = refl
refusal_of_number NoReserve = refl
refusal_of_number NoObjectRow = refl
refusal_of_number NoParentRow = refl
refusal_of_number BadLink = refl
refusal_of_number BadDump = refl
refusal_of_number AttributeTwice = refl
refusal_of_number NoSelf = refl
refusal_of_number NoKind = refl
refusal_of_number NoFit = refl
refusal_of_number LinkFull = refl
refusal_of_number LongClimb = refl

-- a call that is refused with e tells its number
pub told_number : {A : Type 0} (e : Refusal) (x : A) → told (number e) x ≡ Err e
unfolding told refusal
told_number BadTable x = refl
told_number BadPolicy x = refl
told_number BadLayout x = refl
told_number BadFid x = refl
told_number FidTwice x = refl
told_number NoPlace x = refl
told_number TooShort x = refl
told_number NoReserve x = refl
told_number NoObjectRow x = refl
told_number NoParentRow x = refl
told_number BadLink x = refl
told_number BadDump x = refl
told_number AttributeTwice x = refl
told_number NoSelf x = refl
told_number NoKind x = refl
told_number NoFit x = refl
told_number LinkFull x = refl
told_number LongClimb x = refl

-- a call that is refused with e tells e, whatever it would have given
pub told_refused : {A : Type 0} (n : ℕ) (x : A) (e : Refusal) → n ≡ number e → told n x ≡ Err e
told_refused n x e h = ap (λ m. told m x) h ∙ told_number e x

-- a call with 0 tells its value
pub told_ok : {A : Type 0} (n : ℕ) (x : A) → n ≡ 0 → told n x ≡ Ok x
unfolding told
told_ok n x h = ap (λ m. cond (eqb m 0) (Ok x) (Err (refusal m))) h

told_cases : {A : Type 0} (n : ℕ) (b : Bool) (x y : A) → eqb n 0 ≡ b → told n x ≡ Ok y → n ≡ 0
unfolding told
told_cases n true x y z h = eqb-true n 0 z
told_cases n false x y z h = cc (h, z)

-- and only such a call does
pub told_zero : {A : Type 0} (n : ℕ) (x y : A) → told n x ≡ Ok y → n ≡ 0
told_zero n x y h = told_cases n (eqb n 0) x y refl h

refused_cases : {A B : Type 0} (n : ℕ) (b : Bool) (x : A) (y : B) (e : Refusal) → eqb n 0 ≡ b → told n x ≡ Err e → told n y ≡ Err e
unfolding told
refused_cases n true x y e z h = cc (h, z)
refused_cases n false x y e z h = cc (h, z)

-- no refusal has the number 0
pub number_above : (e : Refusal) → number e ≡ 0 → ⊥
number_above e h =
    let a : told {A = ℕ} (number e) 0 ≡ Ok 0 = told_ok (number e) 0 h in
    let b : told {A = ℕ} (number e) 0 ≡ Err e = told_number e 0 in
    cc (a, b)

-- calls with one number are refused alike
pub told_alike : {A B : Type 0} (n : ℕ) (x : A) (y : B) (e : Refusal) → told n x ≡ Err e → told n y ≡ Err e
told_alike n x y e h = refused_cases n (eqb n 0) x y e refl h

-- the number of what is told
pub answer_zero : {A : Type 0} (x : A) → answer (told 0 x) ≡ 0
unfolding told
answer_zero x = refl

pub answer_number : {A : Type 0} (e : Refusal) (x : A) → answer (told (number e) x) ≡ number e
answer_number e x = ap answer (told_number e x)
