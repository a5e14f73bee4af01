-- The stores of an object row. Assumes nothing.
use mir.Val.{bool_byte}
use mathlib.Core.Path.{ap, ◌≡◌, refl, sym, ◌∙◌}
use Rattle.std.specs.Prelude.{Option, Some, None}
use mathlib.Core.List.{List, [], ◌∷◌, ◌++◌}
use Prim.Native.Nat.{ℕ}
use mathlib.Core.Bool.{Bool, true, false}
use lib.ListN.{length, set, length-append, replicate}
use lib.Seq.{sets}
use Rattle.wire.specs.Numbers.{bytes}
use Rattle.wire.proofs.NumberLaws.{length_bytes}
use Rattle.wire.proofs.Splice.{sets_at, sets_whole}
use Rattle.fid.specs.Fid.{encode_fid, zero_fid}
use Rattle.fid.specs.declared.Fid.{Fid}
use Rattle.fid.proofs.FidLaws.{length_encode}
use Rattle.tables.specs.Records.{used}
use Rattle.tables.specs.Bytes.{object_size, encode_owner, claim_fid, mark, encode_object, render_object, render_row}
use Rattle.tables.specs.declared.Object.{Object}
use Rattle.rules.specs.Repairs.{destroyed}
use Rattle.stores.proofs.StoreLaws.{length_owner}
use Rattle.tables.specs.declared.Place.{Place}

-- the byte of a truth value is the mark
pub mark_byte : (b : Bool) → bool_byte b ≡ mark b
unfolding mark
mark_byte true = refl
mark_byte false = refl

pub length_object : (x : Object) → length (render_object (used x)) ≡ object_size
unfolding render_object encode_object render_row
length_object x = simp (length-append, length_encode, length_bytes, length_owner)

pub object_stores : (a b c d e f g : List ℕ) (x : Object) (n : Fid) (m : ℕ) → length a ≡ object_size → n ≡ claim_fid x.claim → m ≡ mark x.fresh →
    b ≡ set a 0 1 → c ≡ sets b 1 (encode_fid x.fid.0) → d ≡ sets c 17 (bytes 4 x.ost) → e ≡ sets d 21 (encode_owner x.owner) →
    f ≡ sets e 29 (encode_fid n) → g ≡ set f 45 m → g ≡ render_object (used x)
unfolding render_object render_row encode_object
object_stores a b c d e f g x n m h p q s1 s2 s3 s4 s5 s6 =
    let F : List ℕ = encode_fid x.fid.0 in
    let O : List ℕ = bytes 4 x.ost in
    let W : List ℕ = encode_owner x.owner in
    let C : List ℕ = encode_fid (claim_fid x.claim) in
    let M : List ℕ = mark x.fresh ∷ [] in
    let k1 : c ≡ sets a 0 (1 ∷ F) = rw (s2, s1) (sets_at (1 ∷ []) F a 0 1 refl) in
    let k2 : d ≡ sets a 0 (1 ∷ (F ++ O)) = rw (s3, k1) (sets_at (1 ∷ F) O a 0 17 (simp length_encode)) in
    let k3 : e ≡ sets a 0 (1 ∷ (F ++ O ++ W)) = rw (s4, k2) (sets_at (1 ∷ (F ++ O)) W a 0 21 (simp (length-append, length_encode, length_bytes))) in
    let k4 : f ≡ sets a 0 (1 ∷ (F ++ O ++ W ++ C)) = rw (s5, k3, p) (sets_at (1 ∷ (F ++ O ++ W)) C a 0 29 (simp (length-append, length_encode, length_bytes, length_owner))) in
    let k5 : g ≡ sets a 0 (1 ∷ (F ++ O ++ W ++ C ++ M)) = rw (s6, k4, q) (sets_at (1 ∷ (F ++ O ++ W ++ C)) M a 0 45 (simp (length-append, length_encode, length_bytes, length_owner))) in
    k5 ∙ sets_whole (1 ∷ (F ++ O ++ W ++ C ++ M)) a (h ∙ sym (length_object x))

pub zero_filled : (n : ℕ) (b : List ℕ) → n ≡ object_size → b ≡ replicate n 0 → b ≡ render_object destroyed
unfolding render_object destroyed render_row
zero_filled n b h e = e ∙ ap (λ (k : ℕ). replicate k 0) h

pub length_destroyed : length (render_object destroyed) ≡ object_size
unfolding render_object destroyed render_row
length_destroyed = refl

pub claim_none : (k : Option Place) → k ≡ None → ◌≡◌ {A = Fid} (record { seq = 0; oid = 0; ver = 0 }) (claim_fid k)
unfolding claim_fid zero_fid
claim_none k e = rw e

pub claim_some : (k : Option Place) (p : Place) → k ≡ Some p →
    ◌≡◌ {A = Fid} (record { seq = p.file.0.seq; oid = p.file.0.oid; ver = p.index }) (claim_fid k)
unfolding claim_fid
claim_some k p e = rw e
