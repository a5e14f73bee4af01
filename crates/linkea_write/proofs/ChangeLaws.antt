-- A link_ea with a record more or less: its header and its bytes. Assumes nothing.
use mathlib.Core.Path.{◌≡◌, ap, ◌∙◌}
use mathlib.Core.List.{List, [], ◌∷◌, ◌++◌, append-nil}
use Prim.Native.Nat.{ℕ, suc, ◌+◌}
use native.Mathlib.Omega.{arith}
use lib.ListN.{length, length-append}
use lib.Seq.{take-append_seam, drop-append-add}
use Rattle.linkea.specs.Link.{Link, LinkEA, link_header, encode_link, encode_links, header_of, encode_link_header, encode_link_ea}
use Rattle.linkea.specs.declared.LinkHeader.{LinkHeader}
use Rattle.linkea_write.specs.Change.{appended, removed}
use Rattle.linkea_write.proofs.LinkLaws.{links_append}

-- a header with k records and n bytes more
unfoldable pub grown : LinkHeader → ℕ → ℕ → LinkHeader
grown h k n = record { count = h.count + k; total = h.total + n; time = h.time; padding = h.padding }

one_bytes : (x : Link) → encode_links (x ∷ []) ≡ encode_link x
unfolding encode_links
one_bytes x = append-nil (encode_link x)

module _ (e : LinkEA) (x : Link) where
  links_bytes : encode_links (e.links ++ (x ∷ [])) ≡ encode_links e.links ++ encode_link x
  links_bytes = links_append e.links (x ∷ []) ∙ ap (λ (s : List ℕ). encode_links e.links ++ s) (one_bytes x)

  -- one record more, and as many bytes as it has
  pub appended_header : header_of (appended e x) ≡ grown (header_of e) 1 (length (encode_link x))
  unfolding header_of appended grown
  appended_header =
      let n : length (e.links ++ (x ∷ [])) ≡ length e.links + 1 = length-append e.links (x ∷ []) in
      let t : link_header + length (encode_links (e.links ++ (x ∷ []))) ≡ link_header + length (encode_links e.links) + length (encode_link x) =
      rw (links_bytes, length-append) (omega arith) in
      λ i. record { count = n i; total = t i; time = e.time; padding = e.padding }

  -- the header, the bytes of the records before, and those of the new one
  pub appended_bytes : encode_link_ea (appended e x) ≡ encode_link_header (header_of (appended e x)) ++ (encode_links e.links ++ encode_link x)
  unfolding encode_link_ea appended
  appended_bytes = ap (λ (s : List ℕ). encode_link_header (header_of (appended e x)) ++ s) links_bytes

-- of the records xs, x and ys, x removed
module _ (e : LinkEA) (xs ys : List Link) (x : Link) (s : e.links ≡ xs ++ (x ∷ ys)) where
  pub removed_links : (removed e (length xs)).links ≡ xs ++ ys
  unfolding removed
  removed_links =
      let z : suc (length xs) ≡ length xs + 1 = omega arith in
      rw (s, take-append_seam xs (x ∷ ys), z, drop-append-add xs (x ∷ ys) 1)

  all_bytes : length (encode_links e.links) ≡ length (encode_links (xs ++ ys)) + length (encode_link x)
  unfolding encode_links
  all_bytes = rw (s, links_append xs (x ∷ ys), links_append xs ys) (simp length-append (omega arith))

  -- one record less, and as many bytes as it has
  pub removed_header : header_of e ≡ grown (header_of (removed e (length xs))) 1 (length (encode_link x))
  unfolding header_of removed grown
  removed_header =
      let n : length e.links ≡ length (removed e (length xs)).links + 1 = rw (removed_links, s) (simp length-append (omega arith)) in
      let t : link_header + length (encode_links e.links) ≡ link_header + length (encode_links (removed e (length xs)).links) + length (encode_link x) =
      rw (removed_links, all_bytes) (omega arith) in
      λ i. record { count = n i; total = t i; time = e.time; padding = e.padding }

  -- the header, and the bytes of the records before and after it
  pub removed_bytes : encode_link_ea (removed e (length xs)) ≡ encode_link_header (header_of (removed e (length xs))) ++ (encode_links xs ++ encode_links ys)
  unfolding encode_link_ea
  removed_bytes =
      ap (λ (l : List Link). encode_link_header (header_of (removed e (length xs))) ++ encode_links l) removed_links
      ∙ ap (λ (l : List ℕ). encode_link_header (header_of (removed e (length xs))) ++ l) (links_append xs ys)
