-- A child whose link_ea is as it was after a mending has its room as it was. Assumes nothing.
use Prim.Native.Nat.{ℕ}
use mathlib.Core.Path.{◌≡◌, refl, sym, ap, ◌∙◌}
use mathlib.Core.Bool.{Bool, true, false, true≢false}
use mathlib.Core.List.{List}
use native.Mathlib.Omega.{arith}
use Rattle.fid.specs.declared.MdtFid.{MdtFid}
use Rattle.linkea.specs.Link.{Link}
use Rattle.names.specs.Rows.{Entry, Child, child_at, links_in, links_of, with_self}
use Rattle.names.specs.Findings.{link_for, has_link}
use Rattle.names.specs.Sweeps.{sweep3, named, gone, pruned}
use Rattle.names.specs.Mend.{first, second, third, finish, mended}
use Rattle.names_promises.proofs.KeptLaws.{gone_none, shorter_links}
use Rattle.names_promises.proofs.LinkLaws.{grown_keeps, grown_has, pruned_has}
use Rattle.names_promises.proofs.RowFrames.{grown, sweep1_rows, sweep3_rows, shorter, pruned_either, sweep4_at}
use Rattle.names_promises.proofs.StillLaws.{each_named}

-- link_ea and room as they were
pub record SameRoom (c d : Child) : Type 0 where
  pub link : d.link ≡ c.link
  pub rest : d.rest ≡ c.rest

-- records stay, and where no named one is new, all is as it was
pub record Grows (es : List Entry) (r : ℕ) (c d : Child) : Type 0 where
  pub stays : (x : Link) → has_link x c ≡ true → has_link x d ≡ true
  pub none_new : ((x : Link) → named es r x ≡ true → has_link x d ≡ true → has_link x c ≡ true) → SameRoom c d

link_has : (x : Link) (d c : Child) → d.link ≡ c.link → has_link x d ≡ true → has_link x c ≡ true
unfolding has_link links_of
link_has x d c h k = rw (← h) k

module _ (seen : MdtFid → Bool) (es : List Entry) where
  grows_not : (r : ℕ) (c : Child) → Grows es r c c
  grows_not r c = record { stays = λ x h. h; none_new = λ f. record { link = refl; rest = refl } }

  grows_on : (r : ℕ) (a b c : Child) → Grows es r a b → Grows es r b c → Grows es r a c
  grows_on r a b c p q =
      record {
        stays = λ x h. q.stays x (p.stays x h);
        none_new = λ f.
            let u : SameRoom a b = p.none_new (λ x n h. f x n (q.stays x h)) in
            let v : SameRoom b c = q.none_new (λ x n h. p.stays x (f x n h)) in
            record { link = v.link ∙ u.link; rest = v.rest ∙ u.rest };
      }

  grows_grown : (c : Child) (e : Entry) → named es e.child (link_for e) ≡ true → has_link (link_for e) c ≡ false → Grows es e.child c (grown c e)
  grows_grown c e n l =
      record {
        stays = λ x h. grown_keeps x c e h;
        none_new = λ f. absurd (true≢false (sym (f (link_for e) n (grown_has c e)) ∙ l));
      }

  sweep3_grows : (cs : List Child) (n i r : ℕ) → Grows es r (child_at cs r) (child_at (sweep3 seen es cs n i).children r)
  sweep3_grows cs n i r =
      sweep3_rows seen (Grows es) grows_not grows_on (λ e. named es e.child (link_for e) ≡ true) (λ c e p s l. grows_grown c e p l) es
      (each_named es) cs n i r

  -- a child that loses records ends with fewer
  shorter_fewer : (r : ℕ) (c : Child) → (gone seen es r c ≡ 0 → ⊥) → links_of (shorter seen es r c) ≡ links_of c → ⊥
  shorter_fewer r c g h = g (gone_none seen es r c (sym h ∙ shorter_links seen es r c))

  -- a row that ends with its link_ea after sweep 3, and after sweep 4
  grown_room : (r : ℕ) (c d : Child) → Grows es r c d → d.link ≡ c.link → SameRoom c d
  grown_room r c d g h = g.none_new (λ x n k. link_has x d c h k)

  pruned_room : (r : ℕ) (c d : Child) → Grows es r c d → (pruned seen es r d).link ≡ c.link → (pruned seen es r d).rest ≡ c.rest
  unfolding links_of
  pruned_room r c d g =
      pruned_either seen es r d
      (λ z. ((x : Link) → named es r x ≡ true → has_link x d ≡ true → has_link x z ≡ true) → z.link ≡ c.link → z.rest ≡ c.rest)
      (λ n f h. (room (λ x t k. link_has x d c h k)).rest)
      (λ n f h. absurd (shorter_fewer r d n (ap links_in (h ∙ sym (room (λ x t k. link_has x (shorter seen es r d) c h (f x t k))).link))))
      (λ x n h. pruned_has seen es r x d n h)
    where
      room : ((x : Link) → named es r x ≡ true → has_link x d ≡ true → has_link x c ≡ true) → SameRoom c d
      room f = g.none_new f

-- ## The mending

module _ (seen : MdtFid → Bool) (es : List Entry) (cs : List Child) (r : ℕ) where
  first_room : SameRoom (child_at cs r) (child_at (first seen es cs) r)
  unfolding first with_self
  first_room =
      sweep1_rows seen (λ i c d. SameRoom c d) (λ i c. record { link = refl; rest = refl })
      (λ i a b c p q. record { link = q.link ∙ p.link; rest = q.rest ∙ p.rest }) (λ i c f n. record { link = refl; rest = refl }) es cs r

  third_grows : Grows (second seen es cs) r (child_at (first seen es cs) r) (child_at (third seen es cs).children r)
  unfolding third
  third_grows = sweep3_grows seen (second seen es cs) (first seen es cs) 0 0 r

  pub mended_room : (child_at (mended seen es cs).children r).link ≡ (child_at cs r).link → (child_at (mended seen es cs).children r).rest ≡ (child_at cs r).rest
  unfolding mended finish
  mended_room = go (third seen es cs).full
    where
      go : (b : Bool) → (child_at (finish seen es cs b).children r).link ≡ (child_at cs r).link → (child_at (finish seen es cs b).children r).rest ≡ (child_at cs r).rest
      go true h =
          (grown_room seen (second seen es cs) r (child_at (first seen es cs) r) (child_at (third seen es cs).children r) third_grows (h ∙ sym first_room.link)).rest
          ∙ first_room.rest
      go false h =
          let p = sweep4_at seen (second seen es cs) (third seen es cs).children 0 r r (omega arith) in
          ap (λ (c : Child). c.rest) p
          ∙ pruned_room seen (second seen es cs) r (child_at (first seen es cs) r) (child_at (third seen es cs).children r) third_grows
          (sym (ap (λ (c : Child). c.link) p) ∙ h ∙ sym first_room.link) ∙ first_room.rest
