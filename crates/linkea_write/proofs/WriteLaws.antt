-- Laws of the writer: what it takes, the stores of header, name and records, and its answers. Assumes nothing.
use mathlib.Core.Path.{◌≡◌, refl, sym, ap, ◌∙◌}
use mathlib.Core.List.{List, ◌++◌, map}
use mathlib.Core.Bool.{Bool, true, false, cond, not, ◌||◌}
use Prim.Native.Nat.{ℕ, ◌+◌, ◌-◌, ◌*◌, ◌≤◌, ◌<◌}
use borrow.Author.Tests.{lt-ltb, le-ltb, ltb-false, eq-eqb, ne_eqb, eqb-true, not-false}
use native.Mathlib.Omega.{arith}
use lib.Dec.{ltb, eqb}
use lib.ListN.{length, take, drop, length-append, length-drop, length-map}
use lib.Seq.{sets, length-take-le}
use Rattle.wire.specs.Numbers.{big, number_bytes}
use Rattle.wire.proofs.Splice.{sets_at, sets_whole}
use Rattle.wire.proofs.OrderLaws.{length_number}
use Rattle.fid.specs.Fid.{encode_fid_in}
use Rattle.fid.specs.declared.MdtFid.{MdtFid}
use Rattle.fid.proofs.FidLaws.{length_fid}
use Rattle.linkea.specs.Link.{Link, link_header, parent_at, name_at, header_of, encode_link, encode_links, encode_link_header, encode_link_ea}
use Rattle.linkea.specs.Conditions.{some}
use Rattle.linkea.specs.declared.LinkHeader.{LinkHeader}
use Rattle.linkea.proofs.PlaceLaws.{or_first, or_second}
use Rattle.std.specs.Prelude.{Ok, Err}
use Rattle.refusals.specs.declared.Refusal.TheVariants.{BadLink, TooShort}
use Rattle.linkea_write.specs.Writer.{link_numbers, number_of, start_given, size_given, parent_given, link_given, link_ea_given, upward, bytes_given, bad_given, other_count, other_total, refused_given, write_link, left_by, write_link_bytes}
use Rattle.linkea_write.proofs.LinkLaws.{length_link_header}
use Rattle.linkea_write.proofs.GivenLaws.{start_of, size_of, length_name, length_links, length_upward}

-- ## What the writer takes

module _ (h : LinkHeader) (numbers names : List ℕ) where
  pub refused_count : (length numbers ≡ link_numbers * h.count → ⊥) → true ≡ refused_given h numbers names
  unfolding refused_given other_count
  refused_count e = rw (ne_eqb (length numbers) (link_numbers * h.count) e)

  module _ (e : length numbers ≡ link_numbers * h.count) where
    pub refused_bad : some (bad_given numbers names) (upward h.count 0) ≡ true → true ≡ refused_given h numbers names
    unfolding refused_given other_count
    refused_bad b = rw (eq-eqb (length numbers) (link_numbers * h.count) e, b)

    pub refused_total : (t : ℕ) → some (bad_given numbers names) (upward h.count 0) ≡ false → t ≡ link_header + bytes_given numbers h.count 0 →
        not (eqb h.total t) ≡ refused_given h numbers names
    unfolding refused_given other_count other_total header_of link_ea_given
    refused_total t b q = rw (eq-eqb (length numbers) (link_numbers * h.count) e, b, q, length_links numbers names h.count 0 b)

-- what the writer takes, as facts
pub record WriteFacts (h : LinkHeader) (numbers names : List ℕ) : Type 0 where
  pub even : length numbers ≡ link_numbers * h.count
  pub good : some (bad_given numbers names) (upward h.count 0) ≡ false
  pub total : h.total ≡ link_header + bytes_given numbers h.count 0
  pub header : header_of (link_ea_given h numbers names) ≡ h

pub write_facts : (h : LinkHeader) (numbers names : List ℕ) → refused_given h numbers names ≡ false → WriteFacts h numbers names
unfolding refused_given other_count other_total header_of link_ea_given
write_facts h numbers names w =
    let xs : List Link = map (link_given numbers names) (upward h.count 0) in
    let a : Bool = not (eqb (length numbers) (link_numbers * h.count)) in
    let b : Bool = some (bad_given numbers names) (upward h.count 0) in
    let c : Bool = not (eqb h.total (link_header + length (encode_links xs))) in
    let ab : (a || b) ≡ false = or_first (a || b) c w in
    let g : b ≡ false = or_second a b ab in
    let t : h.total ≡ link_header + length (encode_links xs) = eqb-true h.total (link_header + length (encode_links xs)) (not-false (eqb h.total (link_header + length (encode_links xs))) (or_second (a || b) c w)) in
    let n : length xs ≡ h.count = length-map (upward h.count 0) (link_given numbers names) ∙ length_upward h.count 0 in
    record {
      even = eqb-true (length numbers) (link_numbers * h.count) (not-false (eqb (length numbers) (link_numbers * h.count)) (or_first a b ab));
      good = g;
      total = t ∙ ap (λ (k : ℕ). link_header + k) (length_links numbers names h.count 0 g);
      header = λ i. record { count = n i; total = sym t i; time = h.time; padding = h.padding };
    }

pub facts_write : (h : LinkHeader) (numbers names : List ℕ) → length numbers ≡ link_numbers * h.count →
    some (bad_given numbers names) (upward h.count 0) ≡ false → h.total ≡ (header_of (link_ea_given h numbers names)).total → refused_given h numbers names ≡ false
unfolding refused_given other_count other_total
facts_write h numbers names e g t =
    rw (eq-eqb (length numbers) (link_numbers * h.count) e, g, eq-eqb h.total (header_of (link_ea_given h numbers names)).total t)

-- ## The stores

-- length, parent and name, stored one after the other over the bytes of the record
pub record_stores : (numbers names l a b x : List ℕ) (j : ℕ) (f : MdtFid) → bad_given numbers names j ≡ false → length l ≡ name_at + size_of numbers j →
    f ≡ parent_given numbers j → a ≡ sets l 0 (number_bytes big 2 (name_at + size_of numbers j)) → b ≡ sets a parent_at (encode_fid_in big f.0) →
    x ≡ sets b name_at (take (start_of numbers j + size_of numbers j - start_of numbers j) (drop (start_of numbers j) names)) →
    x ≡ encode_link (link_given numbers names j)
unfolding encode_link link_given start_given size_given number_of
record_stores numbers names l a b x j f g k p ea eb ex =
    let s : ℕ = size_of numbers j in
    let n : List ℕ = take s (drop (start_of numbers j) names) in
    let m : List ℕ = number_bytes big 2 (name_at + s) in
    let u : List ℕ = encode_fid_in big (parent_given numbers j).0 in
    let z : start_of numbers j + s - start_of numbers j ≡ s = omega arith in
    let e : length n ≡ s = length_name numbers names j g in
    let y : x ≡ sets l 0 ((m ++ u) ++ n) =
    rw (
      ex,
      eb,
      ea,
      p,
      z,
      sets_at m u l 0 parent_at (length_number big 2 (name_at + s)),
      sets_at (m ++ u) n l 0 name_at (simp (length-append, length_number, length_fid)),
    ) in
    y ∙ rw e (sets_whole ((m ++ u) ++ n) l (simp (length-append, length_number, length_fid) (omega arith)))

-- the bytes that a record is lent
pub part_long : (l : List ℕ) (a k : ℕ) → a + k ≤ length l → length (take (a + k - a) (drop a l)) ≡ k
part_long l a k h = let e : a + k - a ≡ k = omega arith in rw e (length-take-le k (drop a l) (rw length-drop (omega arith)))

-- ## The writer's answers

module _ (h : LinkHeader) (numbers names dest : List ℕ) where
  pub write_bad : refused_given h numbers names ≡ true → (Err BadLink ≡ write_link h numbers names dest) × (dest ≡ write_link_bytes h numbers names dest)
  unfolding write_link write_link_bytes left_by
  write_bad w = (rw w, rw w)

  pub write_short : refused_given h numbers names ≡ false → length dest < h.total →
      (Err TooShort ≡ write_link h numbers names dest) × (dest ≡ write_link_bytes h numbers names dest)
  unfolding write_link write_link_bytes left_by
  write_short w k = let t : ltb (length dest) h.total ≡ true = lt-ltb (length dest) h.total k in (rw (w, t), rw (w, t))

  pub write_is : refused_given h numbers names ≡ false → h.total ≤ length dest →
      (write_link h numbers names dest ≡ Ok h.total) × (write_link_bytes h numbers names dest ≡ sets dest 0 (encode_link_ea (link_ea_given h numbers names)))
  unfolding write_link write_link_bytes left_by
  write_is w k = let t : ltb (length dest) h.total ≡ false = le-ltb (length dest) h.total k in (rw (w, t), rw (w, t))

  pub write_done : (x y : List ℕ) → refused_given h numbers names ≡ false → h.total ≤ length dest → x ≡ sets dest 0 (encode_link_header h) →
      y ≡ sets x link_header (encode_links (map (link_given numbers names) (upward h.count 0))) →
      (Ok h.total ≡ write_link h numbers names dest) × (y ≡ write_link_bytes h numbers names dest)
  unfolding encode_link_ea link_ea_given
  write_done x y w k p q =
      let r = write_is w k in
      let f = write_facts h numbers names w in
      let s : List ℕ = encode_links (map (link_given numbers names) (upward h.count 0)) in
      let e : y ≡ sets dest 0 (encode_link_header h ++ s) = rw (q, p, sets_at (encode_link_header h) s dest 0 link_header (length_link_header h)) in
      (sym r.0, e ∙ ap (λ (g : LinkHeader). sets dest 0 (encode_link_header g ++ s)) (sym f.header) ∙ sym r.1)

  -- the bytes that the writer says it wrote, of records that it takes and into a destination with room
  pub write_took : (b : ℕ) → write_link h numbers names dest ≡ Ok b → (refused_given h numbers names ≡ false) × (h.total ≤ length dest) × (b ≡ h.total)
  unfolding write_link
  write_took b = go (refused_given h numbers names) (ltb (length dest) h.total) refl refl
    where
      go : (u v : Bool) → refused_given h numbers names ≡ u → ltb (length dest) h.total ≡ v →
          cond u (Err BadLink) (cond v (Err TooShort) (Ok h.total)) ≡ Ok b →
          (refused_given h numbers names ≡ false) × (h.total ≤ length dest) × (b ≡ h.total)
      go false false p q e = (p, ltb-false (length dest) h.total q, cc)
      go false true p q e = let z : ◌≡◌ {A = ℕ} 0 1 = cc in absurd (omega (arith, z))
      go true v p q e = let z : ◌≡◌ {A = ℕ} 0 1 = cc in absurd (omega (arith, z))
