-- One more byte of a line in the lent bytes. Assumes nothing.
use Prim.Native.Nat.{ℕ, ◌+◌, ◌-◌, ◌≤◌, ◌<◌}
use mathlib.Core.Path.{◌≡◌, refl, sym, ap, subst, ◌∙◌}
use mathlib.Core.List.{List, [], ◌∷◌, ◌++◌}
use mathlib.Core.Bool.{Bool, true, false, cond}
use native.Mathlib.Numerals.{add-one}
use native.Mathlib.Omega.{arith}
use lib.ListN.{length, take, drop, set, length-set, length-drop, take-append-drop}
use lib.Seq.{drop-set-lt, drop-set-add, take-suc-set, take-take, drop-drop, length-take-le}
use lib.Dec.{eqb}
use Rattle.intake.specs.declared.Kind.{Kind}
use Rattle.intake.specs.declared.Kind.TheVariants.{Lov, Fid, Lma, Other}
use Rattle.intake_bytes.specs.declared.Marks.{Marks}
use Rattle.intake_bytes.specs.declared.Unfinished.{Unfinished}
use Rattle.intake.specs.Says.{kind_of, wanted}
use Rattle.intake.specs.Machine.{Digits, even, digit_byte, line_byte}
use Rattle.intake_bytes.specs.declared.Half.TheVariants.{Even}
use Rattle.intake_bytes.specs.Lent.{base_of, mark_of, want_of, kept_in, digits_of, digits_in, HalfFits, partial_in, part_of, Within, DigitStep, Held, Others, LineStep}
use Rattle.intake.proofs.HeadLaws.{drop_take}
use Rattle.intake.proofs.LineLaws.{partial, head_byte, digit_byte_lem}

same_partial : (h k : List ℕ) (d e : Digits) → h ≡ k → d ≡ e → partial h d ≡ partial k e
same_partial h k d e p q = cc

-- ## Regions

-- a part that ends before what may have changed, or begins after it
module _ (base most : ℕ) (before after : List ℕ) (w : Within base most before after) where
  front_part : (a n : ℕ) → a + n ≤ base → take n (drop a after) ≡ take n (drop a before)
  front_part a n h =
      let e : base ≡ a + (base - a) = omega arith in
      let go : (l : List ℕ) → take n (drop a (take base l)) ≡ take n (drop a l) = λ (l : List ℕ).
      ap (λ (z : ℕ). take n (drop a (take z l))) e ∙ ap (take n) (drop_take a (base - a) l) ∙ take-take n (base - a) (drop a l) (omega arith) in
      sym (go after) ∙ ap (λ (l : List ℕ). take n (drop a l)) w.front ∙ go before

  back_part : (a n : ℕ) → base + most ≤ a → take n (drop a after) ≡ take n (drop a before)
  back_part a n h =
      let e : a ≡ base + most + (a - (base + most)) = omega arith in
      let go : (l : List ℕ) → take n (drop (a - (base + most)) (drop (base + most) l)) ≡ take n (drop a l) = λ (l : List ℕ).
      ap (take n) (drop-drop (a - (base + most)) (base + most) l ∙ ap (λ (z : ℕ). drop z l) (sym e)) in
      sym (go after) ∙ ap (λ (l : List ℕ). take n (drop (a - (base + most)) l)) w.back ∙ go before

  nothing_changed : most ≡ 0 → after ≡ before
  nothing_changed e =
      let z : base + most ≡ base = omega arith in
      sym (take-append-drop base after)
      ∙ ap (λ (l : List ℕ). l ++ drop base after) w.front
      ∙ ap (λ (l : List ℕ). take base before ++ l) (subst (λ (n : ℕ). drop n after ≡ drop n before) z w.back)
      ∙ take-append-drop base before

-- ## Where values go

pub base_past : (k : Kind) → 144 ≤ base_of k
unfolding base_of
base_past Lov = omega arith
base_past Fid = omega arith
base_past Lma = omega arith
base_past Other = omega arith

want_most : (m : Marks) (n : ℕ) (k : Kind) → want_of m n k ≤ wanted (n - 208) k
unfolding want_of
want_most m n k = go (eqb (mark_of m k) 0) where
  go : (t : Bool) → cond t (wanted (n - 208) k) 0 ≤ wanted (n - 208) k
  go true = omega arith
  go false = omega arith

region_fits : (n : ℕ) (k : Kind) → 208 ≤ n → base_of k + wanted (n - 208) k ≤ n
unfolding base_of wanted
region_fits n Lov h = omega arith
region_fits n Fid h = omega arith
region_fits n Lma h = omega arith
region_fits n Other h = omega arith

-- a store into the region of one kind leaves the attributes that the entry has
others_kind : (n : ℕ) (before after : List ℕ) (most : ℕ) (K k : Kind) → Within (base_of K) most before after → most ≤ wanted (n - 208) K
    → (K ≡ k → most ≡ 0) → part_of n k after ≡ part_of n k before
unfolding part_of base_of wanted
others_kind n before after most Lov Lov w h z = ap (part_of n Lov) (nothing_changed 208 most before after w (z refl))
others_kind n before after most Lov Fid w h z = front_part 208 most before after w 144 16 (omega arith)
others_kind n before after most Lov Lma w h z = front_part 208 most before after w 160 24 (omega arith)
others_kind n before after most Lov Other w h z = refl
others_kind n before after most Fid Lov w h z = back_part 144 most before after w 208 (n - 208) (omega arith)
others_kind n before after most Fid Fid w h z = ap (part_of n Fid) (nothing_changed 144 most before after w (z refl))
others_kind n before after most Fid Lma w h z = back_part 144 most before after w 160 24 (omega arith)
others_kind n before after most Fid Other w h z = refl
others_kind n before after most Lma Lov w h z = back_part 160 most before after w 208 (n - 208) (omega arith)
others_kind n before after most Lma Fid w h z = front_part 160 most before after w 144 16 (omega arith)
others_kind n before after most Lma Lma w h z = ap (part_of n Lma) (nothing_changed 160 most before after w (z refl))
others_kind n before after most Lma Other w h z = refl
others_kind n before after most Other k w h z = ap (part_of n k) (nothing_changed 144 most before after w (omega arith))

-- ## The head

none_in : (buf : List ℕ) (r : Unfinished) → r.half ≡ Even → r.size ≡ 0 → digits_in buf r ≡ even 0 []
unfolding digits_in digits_of kept_in
none_in buf r e z = rw (e, z)

module _ (want : Kind → ℕ) (buf : List ℕ) (x : Unfinished) (b : ℕ) (long : 208 ≤ length buf) (g : Held want buf x) (h : x.seen < 14) where
  stored : List ℕ
  stored = set buf (128 + x.seen) b

  head_is : take (x.seen + 1) (drop 128 (set buf (128 + x.seen) b)) ≡ take x.seen (drop 128 buf) ++ b ∷ []
  head_is =
      let l : x.seen < length (drop 128 buf) = rw length-drop (omega arith) in
      rw (add-one, drop-set-add 128 buf x.seen b) (take-suc-set (drop 128 buf) x.seen b l)

  none_yet : digits_in buf x ≡ even 0 []
  none_yet = none_in buf x (g.short h).0 (g.short h).1

  head_line : (r : Unfinished) → r.seen ≡ x.seen + 1 → r.half ≡ Even → r.size ≡ 0
      → partial_in (set buf (128 + x.seen) b) r ≡ line_byte want (partial_in buf x) b
  unfolding partial_in partial
  head_line r s e z =
      let l : length (take x.seen (drop 128 buf)) ≡ x.seen = length-take-le x.seen (drop 128 buf) (rw length-drop (omega arith)) in
      same_partial _ _ _ _ (ap (λ (n : ℕ). take n (drop 128 (set buf (128 + x.seen) b))) s ∙ head_is) (none_in (set buf (128 + x.seen) b) r e z ∙ sym none_yet)
      ∙ sym (head_byte want (take x.seen (drop 128 buf)) (digits_in buf x) b (omega arith))

  head_others : Others want buf (set buf (128 + x.seen) b)
  unfolding Others part_of
  head_others k e = ap (take (wanted (length buf - 208) k)) (drop-set-lt (base_of k) buf (128 + x.seen) b (omega (arith, base_past k)))

  pub head_step : x.seen < 13 → LineStep want buf x b (set buf (128 + x.seen) b) (record { seen = x.seen + 1; base = x.base; most = x.most; half = Even; size = 0 })
  unfolding HalfFits
  head_step k =
      record {
        line = head_line _ refl refl refl;
        held = record {
          heads = omega arith;
          short = λ _. (refl, refl);
          at = λ q. absurd (omega arith);
          keeps = λ q. absurd (omega arith);
          past = g.past;
          fits = rw length-set g.fits;
          halves = tt;
        };
        counts = omega arith;
        long = length-set buf (128 + x.seen) b;
        others = head_others;
      }

  pub full_step : x.seen ≡ 13 → (base most : ℕ) → base ≡ base_of (kind_of (take 14 (drop 128 (set buf (128 + x.seen) b))))
      → most ≡ want (kind_of (take 14 (drop 128 (set buf (128 + x.seen) b)))) → base + most ≤ length buf
      → LineStep want buf x b (set buf (128 + x.seen) b) (record { seen = 14; base = base; most = most; half = Even; size = 0 })
  unfolding HalfFits
  full_step k base most p q f =
      record {
        line = head_line _ (omega arith) refl refl;
        held = record {
          heads = omega arith;
          short = λ _. (refl, refl);
          at = λ _. p;
          keeps = λ _. q;
          past = subst (λ (n : ℕ). 144 ≤ n) (sym p) (base_past _);
          fits = rw length-set f;
          halves = tt;
        };
        counts = omega arith;
        long = length-set buf (128 + x.seen) b;
        others = head_others;
      }

pub want_fits : (m : Marks) (n : ℕ) (k : Kind) (base most : ℕ) → 208 ≤ n → base ≡ base_of k → most ≡ want_of m n k → base + most ≤ n
want_fits m n k base most h p q = omega (arith, want_most m n k, region_fits n k h)

-- ## A digit

pub digit_step : (m : Marks) (before : List ℕ) (x : Unfinished) (b : ℕ) (after : List ℕ) (r : Unfinished) → Held (want_of m (length before)) before x → 14 ≤ x.seen
    → DigitStep before x b after r → LineStep (want_of m (length before)) before x b after r
unfolding partial_in partial Others
digit_step m before x b after r g h s =
    let K : Kind = kind_of (take 14 (drop 128 before)) in
    let full : x.seen ≡ 14 = omega arith in
    let also : r.seen ≡ 14 = s.seen ∙ full in
    let l : length (take 14 (drop 128 before)) ≡ 14 = length-take-le 14 (drop 128 before) (rw length-drop (omega arith)) in
    let same : take 14 (drop 128 after) ≡ take 14 (drop 128 before) = front_part x.base x.most before after s.within 128 14 (omega arith) in
    let most : x.most ≡ want_of m (length before) K = g.keeps h in
    let w : Within (base_of K) x.most before after = subst (λ (n : ℕ). Within n x.most before after) (g.at h) s.within in
    record {
      line =
          same_partial _ _ _ _ (ap (λ (n : ℕ). take n (drop 128 after)) also ∙ same) (s.digits ∙ ap (λ (n : ℕ). digit_byte n (digits_in before x) b) most)
          ∙ sym (digit_byte_lem (want_of m (length before)) (take 14 (drop 128 before)) (digits_in before x) b (omega arith))
          ∙ ap (λ (n : ℕ). line_byte (want_of m (length before)) (partial (take n (drop 128 before)) (digits_in before x)) b) (sym full);
      held = record {
        heads = omega arith;
        short = λ q. absurd (omega arith);
        at = λ _. s.base ∙ g.at h ∙ ap (λ (z : List ℕ). base_of (kind_of z)) (sym same);
        keeps = λ _. s.most ∙ most ∙ ap (λ (z : List ℕ). want_of m (length before) (kind_of z)) (sym same);
        past = omega (arith, s.base, g.past);
        fits = omega (arith, s.base, s.most, s.within.long, g.fits);
        halves = s.halves;
      };
      counts = s.counts;
      long = s.within.long;
      others = λ k e. others_kind (length before) before after x.most K k w (omega (arith, want_most m (length before) K))
          (λ q. most ∙ ap (want_of m (length before)) q ∙ e);
    }
