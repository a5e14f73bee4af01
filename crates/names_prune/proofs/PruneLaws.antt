-- One child pruned, and the children one after the other. Assumes nothing.
use mathlib.Core.Path.{◌≡◌, refl, sym, ap, subst, ◌∙◌}
use mathlib.Core.Bool.{Bool, true, false, cond}
use mathlib.Core.List.{List, [], ◌∷◌, ◌++◌, append-nil}
use Prim.Native.Nat.{ℕ, suc, ◌+◌, ◌-◌, ◌*◌, ◌/◌, ◌≤◌, ◌<◌}
use native.Mathlib.Numerals.{add-one}
use native.Mathlib.Omega.{arith}
use borrow.Author.Tests.{eq-eqb, ne_eqb}
use borrow.Rule.Slice.PartMut.{put_mid}
use lib.Dec.{eqb}
use lib.ListN.{length, take, drop, get_or, set, drop_of_length-le}
use lib.Seq.{append_snoc, drop-cons, drop-set-lt, set-get_or, sets, take_all, take-suc-set}
use Rattle.fid.specs.declared.MdtFid.{MdtFid}
use Rattle.linkea.specs.Link.{Link, decode_link_ea}
use Rattle.names.specs.Rows.{Entry, Child, child_size, is_none, link_length, link_bytes, decode_linked, decode_child, links_in, links_of, with_link_ea, parse_entries, parse_children, no_child, child_at}
use Rattle.names.specs.Check.{good_link_ea, SoundNames}
use Rattle.names.specs.Visible.{seen_by}
use Rattle.names.specs.Sweeps.{start_of, kept, left_links, gone, pruned, sweep4, removals}
use Rattle.names.proofs.SoundLaws.{parsed_child, link_at}
use Rattle.names_links.specs.Kept.{kept_by, linked_by}
use Rattle.names_links.proofs.KeepLaws.{links_are}
use Rattle.names_store.specs.Notes.{Noted}
use Rattle.names_store.proofs.StoreLaws.{row_back, child_stored, child_sound}
use Rattle.names_prune.specs.Ready.{Ready, flag_room, Told, child_bytes, Flags}
use Rattle.names_prune.proofs.StoredLaws.{row_size, seen_stays, indexed_stays}

-- ## The records of a row

pub row_child : (c : List ℕ) (r : ℕ) → r < length c / child_size → child_at (parse_children c) r ≡ decode_child (child_bytes c r)
unfolding child_bytes
row_child c r h = parsed_child c r h

pub row_good : (e c : List ℕ) (r : ℕ) → SoundNames e c → r < length c / child_size → good_link_ea (child_bytes c r) ≡ true
unfolding child_bytes
row_good e c r s h = link_at e c s r h

module _ (row : List ℕ) where
  no_links : link_length row ≡ 0 → links_of (decode_child row) ≡ []
  unfolding links_of decode_child decode_linked links_in
  no_links h = rw (eq-eqb (link_length row) 0 h)

module _ (seen : MdtFid → Bool) (es : List Entry) (r : ℕ) (row flags : List ℕ) where
  none_flagged : 0 ≡ gone seen es r (decode_child row) →
      (0 ≡ gone seen es r (decode_child row)) × (0 ≤ flag_room) × (0 < 0 → Flags seen es r row flags)
  none_flagged e = (e, omega arith, λ h. absurd (omega (arith, h)))

  pub no_self : is_none (decode_child row).self ≡ true → (0 ≡ gone seen es r (decode_child row)) × (0 ≤ flag_room) × (0 < 0 → Flags seen es r row flags)
  unfolding gone
  no_self h = none_flagged (rw h)

  pub no_link : link_length row ≡ 0 → (0 ≡ gone seen es r (decode_child row)) × (0 ≤ flag_room) × (0 < 0 → Flags seen es r row flags)
  unfolding gone
  no_link h = none_flagged (rw (no_links row h) (go (is_none (decode_child row).self) (length (left_links seen es r (decode_child row)))))
    where
      go : (b : Bool) (n : ℕ) → 0 ≡ cond b 0 (0 - n)
      go true n = refl
      go false n = omega arith

  module _ (h : is_none (decode_child row).self ≡ false) (k : link_length row ≡ 0 → ⊥) (l : List ℕ) (p : l ≡ link_bytes row) (g : ℕ) where
    links_read : links_of (decode_child row) ≡ (decode_link_ea l).links
    links_read = links_are row (omega (arith, k)) ∙ ap (λ (x : List ℕ). (decode_link_ea x).links) (sym p)

    pub some_flagged : Told seen es r (decode_link_ea l).links flags g →
        (g ≡ gone seen es r (decode_child row)) × (g ≤ flag_room) × (0 < g → Flags seen es r row flags)
    unfolding gone left_links
    some_flagged t =
        let z : g ≡ length (links_of (decode_child row)) - length (kept seen es r [] (links_of (decode_child row))) = rw links_read t.count in (
          rw h z,
          omega (arith, t.count, t.few),
          λ q. record { linked = omega (arith, k); stay = rw links_read t.stay; few = rw links_read t.few },
        )

-- ## One child

module _ (seen : MdtFid → Bool) (es : List Entry) (r : ℕ) (c : Child) where
  pruned_same : gone seen es r c ≡ 0 → pruned seen es r c ≡ c
  unfolding pruned
  pruned_same h = rw (eq-eqb (gone seen es r c) 0 h)

  pruned_less : (gone seen es r c ≡ 0 → ⊥) → pruned seen es r c ≡ with_link_ea c (linked_by c (left_links seen es r c))
  unfolding pruned linked_by
  pruned_less h = rw (ne_eqb (gone seen es r c) 0 h)

  pub pruned_self : (pruned seen es r c).self ≡ c.self
  unfolding pruned with_link_ea
  pruned_self = go (eqb (gone seen es r c) 0)
    where
      go : (b : Bool) →
          (cond b c (with_link_ea c (record { time = (start_of c.link).time; padding = (start_of c.link).padding; links = left_links seen es r c }))).self ≡ c.self
      go true = refl
      go false = refl

module _ (seen : MdtFid → Bool) (es : List Entry) (c : List ℕ) (r : ℕ) (h : r < length c / child_size) (g : ℕ)
    (q : g ≡ gone seen es r (decode_child (child_bytes c r))) where
  pub gone_there : g ≡ gone seen es r (child_at (parse_children c) r)
  gone_there = q ∙ ap (gone seen es r) (sym (row_child c r h))

  pub none_pruned : g ≡ 0 → parse_children c ≡ set (parse_children c) r (pruned seen es r (child_at (parse_children c) r))
  unfolding child_at
  none_pruned z =
      sym (ap (λ (x : Child). set (parse_children c) r x) (pruned_same seen es r (child_at (parse_children c) r) (sym gone_there ∙ z))
      ∙ set-get_or (parse_children c) r no_child)

  -- what is asked of a row in which some go
  pub keep_asks : (e flags : List ℕ) → SoundNames e c → length flags ≡ flag_room → Flags seen es r (child_bytes c r) flags →
      (p : List ℕ) → p ≡ child_bytes c r →
      (length p ≡ child_size) × (good_link_ea p ≡ true) × (0 < link_length p) × (length (links_of (decode_child p)) ≤ length flags)
  keep_asks e flags s m f p w = (
    rw w (row_size c r h),
    rw w (row_good e c r s h),
    rw w f.linked,
    rw w (omega (arith, f.few)),
  )

  module _ (e flags : List ℕ) (s : SoundNames e c) (n : g ≡ 0 → ⊥) (f : Flags seen es r (child_bytes c r) flags) (z : List ℕ) (m : length z ≡ child_size)
      (p : List ℕ) (w : p ≡ child_bytes c r) (d : decode_child z ≡ with_link_ea (decode_child p) (linked_by (decode_child p) (kept_by flags (links_of (decode_child p))))) where
    row_pruned : decode_child z ≡ pruned seen es r (child_at (parse_children c) r)
    row_pruned =
        let x : Child = decode_child (child_bytes c r) in
        d ∙ ap (λ (y : List ℕ). with_link_ea (decode_child y) (linked_by (decode_child y) (kept_by flags (links_of (decode_child y))))) w
        ∙ ap (λ (y : List Link). with_link_ea x (linked_by x y)) f.stay
        ∙ sym (pruned_less seen es r x (λ k. n (q ∙ k)))
        ∙ ap (pruned seen es r) (sym (row_child c r h))

    row_there : put_mid (child_size * r) (child_size * r + child_size - child_size * r) c z ≡ sets c (child_size * r) z
    row_there = row_back child_size r c z z (omega arith) refl m h

    pub some_pruned : parse_children (put_mid (child_size * r) (child_size * r + child_size - child_size * r) c z)
        ≡ set (parse_children c) r (pruned seen es r (child_at (parse_children c) r))
    some_pruned =
        ap parse_children row_there ∙ child_stored e c s r h z m ∙ ap (λ (y : Child). set (parse_children c) r y) row_pruned

    pub some_sound : good_link_ea z ≡ true → SoundNames e (put_mid (child_size * r) (child_size * r + child_size - child_size * r) c z)
    some_sound g = subst (SoundNames e) (sym row_there) (child_sound e c s r h z m g)

-- ## The children

-- what the sweep leaves is what was left of the rows before r, and the sweep of those from r on
pub record Swept (seen : MdtFid → Bool) (es : List Entry) (old cs : List Child) (r total : ℕ) : Type 0 where
  pub left : take r cs ++ sweep4 seen es (drop r cs) r ≡ sweep4 seen es old 0
  pub count : total + removals seen es (drop r cs) r ≡ removals seen es old 0

pub swept_start : (seen : MdtFid → Bool) (es : List Entry) (cs : List Child) → Swept seen es cs cs 0 0
swept_start seen es cs = record { left = refl; count = omega arith }

module _ (seen : MdtFid → Bool) (es : List Entry) (old cs : List Child) (r total : ℕ) (w : Swept seen es old cs r total) where
  pub swept_end : length cs ≤ r → (cs ≡ sweep4 seen es old 0) × (total ≡ removals seen es old 0)
  unfolding sweep4 removals
  swept_end h =
      let t : take r cs ≡ cs = take_all r cs h in
      let d : drop r cs ≡ [] = drop_of_length-le cs h in
      let z : total + 0 ≡ total = omega arith in
      (sym (append-nil cs) ∙ (rw (t, d) at w.left), sym z ∙ (rw d at w.count))

  swept_on : (g : ℕ) (ds : List Child) → r < length cs → ds ≡ set cs r (pruned seen es r (child_at cs r)) → g ≡ gone seen es r (child_at cs r) →
      Swept seen es old ds (r + 1) (total + g)
  unfolding sweep4 removals child_at
  swept_on g ds h e q =
      let c : Child = get_or cs r no_child in
      let f : drop r cs ≡ c ∷ drop (suc r) cs = drop-cons cs r no_child h in
      let t : take (suc r) ds ≡ take r cs ++ (pruned seen es r c ∷ []) = rw e (take-suc-set cs r (pruned seen es r c) h) in
      let d : drop (suc r) ds ≡ drop (suc r) cs = rw e (drop-set-lt (suc r) cs r (pruned seen es r c) (omega arith)) in
      let l : take r cs ++ (pruned seen es r c ∷ sweep4 seen es (drop (suc r) cs) (suc r)) ≡ sweep4 seen es old 0 = rw f at w.left in
      let n : total + (gone seen es r c + removals seen es (drop (suc r) cs) (suc r)) ≡ removals seen es old 0 = rw f at w.count in
      record {
        left = rw (add-one r, t, d) (append_snoc (take r cs) (pruned seen es r c) (sweep4 seen es (drop (suc r) cs) (suc r)) ∙ l);
        count = rw (add-one r, d) (omega (arith, n, q));
      }

  -- the same, where the visibility is that of the rows as they stand
  pub swept_next : (now : MdtFid → Bool) → now ≡ seen → (g : ℕ) (ds : List Child) → r < length cs →
      ds ≡ set cs r (pruned now es r (child_at cs r)) → g ≡ gone now es r (child_at cs r) → Swept seen es old ds (r + 1) (total + g)
  swept_next now p g ds h e q = swept_on g ds h (rw p at e) (rw p at q)

-- what the sweep was lent stays
module _ (e c d marks index : List ℕ) (n : ℕ) (places notes : List ℕ) (w : Ready e c marks index n places notes) (r : ℕ) (l : length d ≡ length c)
    (p : parse_children d ≡ set (parse_children c) r (pruned (seen_by marks (parse_children c)) (parse_entries e) r (child_at (parse_children c) r)))
    (s : SoundNames e d) where
  self_stays : (pruned (seen_by marks (parse_children c)) (parse_entries e) r (child_at (parse_children c) r)).self ≡ (get_or (parse_children c) r no_child).self
  unfolding child_at
  self_stays = pruned_self (seen_by marks (parse_children c)) (parse_entries e) r (child_at (parse_children c) r)

  pub sees_again : seen_by marks (parse_children d) ≡ seen_by marks (parse_children c)
  sees_again = seen_stays marks (parse_children c) (parse_children d) r _ p self_stays

  pub ready_again : Ready e d marks index n places notes
  ready_again =
      record {
        sound = s;
        indexed = indexed_stays c d marks index n r _ w.indexed l p self_stays;
        listed = w.listed;
        noted = subst (λ (f : MdtFid → Bool). Noted f e notes) (sym sees_again) w.noted;
      }
