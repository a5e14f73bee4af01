-- The open entry holds what its lines spell. Assumes nothing.
use Prim.Native.Nat.{ℕ, suc, ◌+◌}
use mathlib.Core.Path.{◌≡◌, refl, sym, ap, ◌∙◌}
use mathlib.Core.List.{List, [], ◌∷◌, ◌++◌, append_assoc, cons≢nil}
use mathlib.Core.Bool.{Bool, true, false, cond, true≢false}
use native.Mathlib.Nat.{zero-add, suc-add, add-zero}
use native.Mathlib.Numerals.{add-one}
use lib.ListN.{length, take}
use Rattle.intake.specs.declared.Kind.{Kind}
use Rattle.intake.specs.declared.Kind.TheVariants.{Lov, Fid, Lma, Other}
use Rattle.intake.specs.Says.{file_word, starts, is_empty, kind_of, good_size, wanted}
use Rattle.intake.specs.Reading.{Attribute, none, had, Entry, Open, outside, inside, has, attribute_of, with_attribute}
use Rattle.intake.specs.Given.{names, naming, Gives, closings, shut}
use Rattle.intake.proofs.NameLaws.{word_of, is_lov, is_fid, is_lma, names_lov, names_fid, names_lma}
use Rattle.intake.proofs.TellLaws.{Taken}

-- ## Lines added

pub closings_append : (p q : List (List ℕ)) → closings (p ++ q) ≡ closings p + closings q
unfolding closings
closings_append [] q = sym (zero-add (closings q))
closings_append ([] ∷ p) q = ap suc (closings_append p q) ∙ sym (suc-add (closings p) (closings q))
closings_append ((b ∷ l) ∷ p) q = closings_append p q

pub closings_full : (l : List ℕ) (q : List (List ℕ)) → is_empty l ≡ false → closings (l ∷ q) ≡ closings q
unfolding closings is_empty
closings_full [] q h = absurd (true≢false h)
closings_full (b ∷ l) q h = refl

-- a line that isn't empty closes nothing
pub closings_more : (p : List (List ℕ)) (l : List ℕ) → is_empty l ≡ false → closings (p ++ l ∷ []) ≡ closings p
unfolding closings
closings_more p l h = closings_append p (l ∷ []) ∙ ap (λ (n : ℕ). closings p + n) (closings_full l [] h) ∙ add-zero (closings p)

pub closings_empty : (p : List (List ℕ)) → closings (p ++ [] ∷ []) ≡ suc (closings p)
unfolding closings
closings_empty p = closings_append p ([] ∷ []) ∙ add-one (closings p)

pub shut_empty : (p : List (List ℕ)) → shut (p ++ [] ∷ []) ≡ true
unfolding shut
shut_empty [] = refl
shut_empty (l ∷ []) = refl
shut_empty (l ∷ m ∷ p) = shut_empty (m ∷ p)

module _ (w : List ℕ) (l : List ℕ) where
  naming_past : (p : List (List ℕ)) → names w l ≡ false → naming w (p ++ l ∷ []) ≡ naming w p
  unfolding naming
  naming_past [] h = rw h
  naming_past (x ∷ p) h = rw (naming_past p h)

  naming_last : (p : List (List ℕ)) → names w l ≡ true → naming w p ≡ [] → naming w (p ++ l ∷ []) ≡ l ∷ []
  unfolding naming
  naming_last [] h e = rw h
  naming_last (x ∷ p) h e = go (names w x) e (naming_last p h) where
    go : (t : Bool) → cond t (x ∷ naming w p) (naming w p) ≡ [] → (naming w p ≡ [] → naming w (p ++ l ∷ []) ≡ l ∷ [])
        → cond t (x ∷ naming w (p ++ l ∷ [])) (naming w (p ++ l ∷ [])) ≡ l ∷ []
    go true k ih = absurd (cons≢nil k)
    go false k ih = ih k

-- ## An attribute of the open entry

-- the bytes that the entry's lines give, and what is kept of them
pub record Had (room : ℕ) (k : Kind) (entry : List (List ℕ)) (n : ℕ) (v : List ℕ) : Type 0 where
  pub value : List ℕ
  pub gives : Gives entry (word_of k) value
  pub long : n ≡ length value
  pub kept : v ≡ take (wanted room k) value
  pub good : good_size k n ≡ true

abbrev pub Kept : ℕ → Kind → List (List ℕ) → Attribute → Type 0
Kept room k entry none = naming (word_of k) entry ≡ []
Kept room k entry (had n v) = Had room k entry n v

module _ (room : ℕ) (k : Kind) (entry : List (List ℕ)) (l : List ℕ) where
  -- a line of another name
  kept_past : (a : Attribute) → names (word_of k) l ≡ false → Kept room k entry a → Kept room k (entry ++ l ∷ []) a
  kept_past none h e = naming_past (word_of k) l entry h ∙ e
  kept_past (had n v) h e = record {
    value = e.value;
    gives = record { line = e.gives.line; only = naming_past (word_of k) l entry h ∙ e.gives.only; spells = e.gives.spells };
    long = e.long;
    kept = e.kept;
    good = e.good;
  }

  -- the first line of this name
  kept_first : (a : Attribute) (n : ℕ) (v : List ℕ) → has a ≡ false → names (word_of k) l ≡ true → Kept room k entry a → Taken room k l n v
      → Had room k (entry ++ l ∷ []) n v
  unfolding has
  kept_first none n v f h e t = record {
    value = t.value;
    gives = record { line = l; only = naming_last (word_of k) l entry h e; spells = t.spells };
    long = t.long;
    kept = t.kept;
    good = t.good;
  }
  kept_first (had m w) n v f h e t = absurd (true≢false f)

-- ## The open entry

-- the lines read end with an open entry's, and its attributes are what they give
pub record Opened (room : ℕ) (done : List (List ℕ)) (e : Entry) : Type 0 where
  pub front : List (List ℕ)
  pub file : List ℕ
  pub entry : List (List ℕ)
  pub is : done ≡ front ++ file ∷ entry
  pub begins : shut front ≡ true
  pub full : is_empty file ≡ false
  pub opens : starts file_word file ≡ true
  pub unbroken : closings entry ≡ 0
  pub lov : Kept room Lov entry e.lov
  pub fid : Kept room Fid entry e.fid
  pub lma : Kept room Lma entry e.lma

-- outside an entry no line is read, or the last one is empty
abbrev pub Stage : ℕ → List (List ℕ) → Open → Type 0
Stage room done outside = shut done ≡ true
Stage room done (inside e) = Opened room done e

-- a `# file:` line
pub opened : (room line : ℕ) (done : List (List ℕ)) (l : List ℕ) → shut done ≡ true → is_empty l ≡ false → starts file_word l ≡ true
    → Opened room (done ++ l ∷ []) (record { from = line; lov = none; fid = none; lma = none })
unfolding closings naming
opened room line done l s f h = record {
  front = done;
  file = l;
  entry = [];
  is = refl;
  begins = s;
  full = f;
  opens = h;
  unbroken = refl;
  lov = refl;
  fid = refl;
  lma = refl;
}

module _ (room : ℕ) (done : List (List ℕ)) (e : Entry) (o : Opened room done e) (l : List ℕ) (f : is_empty l ≡ false) where
  -- one more line, with what it leaves of the attributes
  grown : (a b c : Attribute) → Kept room Lov (o.entry ++ l ∷ []) a → Kept room Fid (o.entry ++ l ∷ []) b → Kept room Lma (o.entry ++ l ∷ []) c
      → Opened room (done ++ l ∷ []) (record { from = e.from; lov = a; fid = b; lma = c })
  grown a b c x y z = record {
    front = o.front;
    file = o.file;
    entry = o.entry ++ l ∷ [];
    is = ap (λ (d : List (List ℕ)). d ++ l ∷ []) o.is ∙ append_assoc o.front (o.file ∷ o.entry) (l ∷ []);
    begins = o.begins;
    full = o.full;
    opens = o.opens;
    unbroken = closings_more o.entry l f ∙ o.unbroken;
    lov = x;
    fid = y;
    lma = z;
  }

  no_lov : is_lov (kind_of l) ≡ false → Kept room Lov (o.entry ++ l ∷ []) e.lov
  no_lov h = kept_past room Lov o.entry l e.lov (names_lov l ∙ h) o.lov

  no_fid : is_fid (kind_of l) ≡ false → Kept room Fid (o.entry ++ l ∷ []) e.fid
  no_fid h = kept_past room Fid o.entry l e.fid (names_fid l ∙ h) o.fid

  no_lma : is_lma (kind_of l) ≡ false → Kept room Lma (o.entry ++ l ∷ []) e.lma
  no_lma h = kept_past room Lma o.entry l e.lma (names_lma l ∙ h) o.lma

  -- a line that is skipped
  pub skips : kind_of l ≡ Other → Opened room (done ++ l ∷ []) e
  skips h = grown e.lov e.fid e.lma (no_lov (ap is_lov h)) (no_fid (ap is_fid h)) (no_lma (ap is_lma h))

  -- a line that is taken
  pub takes_line : (k : Kind) (n : ℕ) (v : List ℕ) → kind_of l ≡ k → has (attribute_of k e) ≡ false → Taken room k l n v
      → Opened room (done ++ l ∷ []) (with_attribute k (had n v) e)
  unfolding attribute_of with_attribute good_size
  takes_line Lov n v h a t =
      let new = kept_first room Lov o.entry l e.lov n v a (names_lov l ∙ ap is_lov h) o.lov t in
      grown (had n v) e.fid e.lma new (no_fid (ap is_fid h)) (no_lma (ap is_lma h))
  takes_line Fid n v h a t =
      let new = kept_first room Fid o.entry l e.fid n v a (names_fid l ∙ ap is_fid h) o.fid t in
      grown e.lov (had n v) e.lma (no_lov (ap is_lov h)) new (no_lma (ap is_lma h))
  takes_line Lma n v h a t =
      let new = kept_first room Lma o.entry l e.lma n v a (names_lma l ∙ ap is_lma h) o.lma t in
      grown e.lov e.fid (had n v) (no_lov (ap is_lov h)) (no_fid (ap is_fid h)) new
  takes_line Other n v h a t = absurd (true≢false (sym t.good))
