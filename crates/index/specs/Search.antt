-- What is found of a key: the lowest value that was put with it, whatever the order of the entries, and so the first row with the key.
use Rattle.std.specs.Prelude.{ℕ, suc, ◌+◌, ◌*◌, ◌/◌, ◌%◌, ◌^◌, ◌≤◌, ◌<◌, ◌≡◌, min, Bool, true, false, cond, ◌&&◌, List, [], ◌∷◌, length, get_or, leb, eqb, Option, None, Some}
use Rattle.index.specs.Entries.{one, value_range}

-- each entry is at least those before it
unfoldable pub Ordered : List ℕ → Type 0
Ordered l = (i j : ℕ) → i ≤ j → j < length l → get_or l i 0 ≤ get_or l j 0

-- the same by a look at each
unfoldable pub up_from : ℕ → List ℕ → Bool
up_from x [] = true
up_from x (y ∷ l) = leb x y && up_from y l

unfoldable pub in_order : List ℕ → Bool
in_order [] = true
in_order (x ∷ l) = up_from x l

-- how often a number stands in a list: two lists of the same counts are permutations of each other
unfoldable pub count : ℕ → List ℕ → ℕ
count x [] = 0
count x (y ∷ l) = one (eqb x y) + count x l

unfoldable pub stop : Bool → ℕ → ℕ
stop true n = 0
stop false n = suc n

-- how many of the first entries are below t
unfoldable pub first_from : ℕ → List ℕ → ℕ
first_from t [] = 0
first_from t (x ∷ l) = stop (leb t x) (first_from t l)

unfoldable pub key_of : ℕ → ℕ → ℕ
key_of seq oid = oid + value_range * seq

-- the value of an entry that has a key
unfoldable pub value_with : ℕ → ℕ → Option ℕ
value_with k x = cond (eqb (x / value_range) k) (Some (x % value_range)) None

unfoldable pub lower : Bool → ℕ → Option ℕ → Option ℕ
lower false v r = r
lower true v None = Some v
lower true v (Some w) = Some (min v w)

-- the lowest value that passes a test, of the entries with a key, in any order
unfoldable pub lowest_of : (ℕ → Bool) → ℕ → List ℕ → Option ℕ
lowest_of test k [] = None
lowest_of test k (x ∷ l) = lower (eqb (x / value_range) k && test (x % value_range)) (x % value_range) (lowest_of test k l)

-- the answers that a test may give are those of `passes`
unfoldable pub Tells : (ℕ → Bool → Type 0) → (ℕ → Bool) → Type 0
Tells answers passes = (v : ℕ) (b : Bool) → v < 2 ^ 32 → answers v b → b ≡ passes v

unfoldable pub always : ℕ → Bool
always v = true

unfoldable pub lowest : ℕ → List ℕ → Option ℕ
lowest k l = lowest_of always k l

-- ## Rows

-- what a row has: no key, or one
pub data Key : Type 0 where
  keyless : Key
  key : ℕ → Key

unfoldable pub numbers_of : Key → ℕ → List ℕ → List ℕ
numbers_of keyless r l = l
numbers_of (key k) r l = (r + value_range * k) ∷ l

-- the entries of the rows from r on, in their order: each key with its row
unfoldable pub listed : List Key → ℕ → List ℕ
listed [] r = []
listed (k ∷ ks) r = numbers_of k r (listed ks (suc r))

unfoldable pub is_key : ℕ → Key → Bool
is_key k keyless = false
is_key k (key j) = eqb j k

-- the first row with a key that passes a test
unfoldable pub first_with : (ℕ → Bool) → ℕ → List Key → ℕ → Option ℕ
first_with test k [] r = None
first_with test k (j ∷ js) r = cond (is_key k j && test r) (Some r) (first_with test k js (suc r))
