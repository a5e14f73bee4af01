-- What is stored in a row is bytes: numbers, FIDs, records and headers. Assumes nothing.
use mathlib.Core.Path.{refl}
use mathlib.Core.List.{List, [], ◌∷◌, ◌++◌, reverse, reverse-cons}
use Prim.Native.Nat.{ℕ, zero, suc, ◌+◌, ◌-◌, ◌/◌, ◌%◌, ◌<◌}
use native.Mathlib.Omega.{arith}
use lib.ListN.{length, set, replicate}
use lib.Seq.{sets, take_at, drop_at}
use Rattle.wire.specs.Numbers.{bytes, Order, little, big, number_bytes}
use Rattle.wire.proofs.NumberLaws.{Bytes, bytes_head, bytes_tail, bytes_take, bytes_drop}
use Rattle.wire.proofs.OrderLaws.{bytes_append}
use Rattle.fid.specs.Fid.{encode_fid, encode_fid_in}
use Rattle.fid.specs.declared.Fid.{Fid}
use Rattle.linkea.specs.Link.{Link, link_magic, name_at, encode_link, encode_link_header}
use Rattle.linkea.specs.declared.LinkHeader.{LinkHeader}
use Rattle.names.specs.Rows.{link_length_at, link_room_at, link_room}
use Rattle.names_links.specs.Room.{closed}

-- ## Lists

none : Bytes []
unfolding Bytes
none i = omega arith

one_more : (b : ℕ) (l : List ℕ) → b < 256 → Bytes l → Bytes (b ∷ l)
unfolding Bytes
one_more b l h k zero = h
one_more b l h k (suc i) = k i

pub bytes_first : (p q : List ℕ) → Bytes (p ++ q) → Bytes p
bytes_first p q h = rw (take_at p q (length p) refl) at (bytes_take (length p) (p ++ q) h)

pub bytes_second : (p q : List ℕ) → Bytes (p ++ q) → Bytes q
bytes_second p q h = rw (drop_at p q (length p) refl) at (bytes_drop (length p) (p ++ q) h)

-- ## Stores

bytes_set : (l : List ℕ) (i v : ℕ) → Bytes l → v < 256 → Bytes (set l i v)
bytes_set [] i v h k = h
bytes_set (x ∷ l) zero v h k = one_more v l k (bytes_tail x l h)
bytes_set (x ∷ l) (suc i) v h k = one_more x (set l i v) (bytes_head x l h) (bytes_set l i v (bytes_tail x l h) k)

pub bytes_sets : (vs l : List ℕ) (i : ℕ) → Bytes l → Bytes vs → Bytes (sets l i vs)
bytes_sets [] l i h k = h
bytes_sets (v ∷ vs) l i h k = bytes_sets vs (set l i v) (suc i) (bytes_set l i v h (bytes_head v vs k)) (bytes_tail v vs k)

-- ## What is stored

number_bytes_lem : (o : Order) (n v : ℕ) → Bytes (number_bytes o n v)
unfolding number_bytes bytes
number_bytes_lem little zero v = none
number_bytes_lem little (suc n) v = one_more (v % 256) (bytes n (v / 256)) (omega arith) (number_bytes_lem little n (v / 256))
number_bytes_lem big zero v = none
number_bytes_lem big (suc n) v =
    rw reverse-cons (bytes_append (reverse (bytes n (v / 256))) (v % 256 ∷ []) (number_bytes_lem big n (v / 256)) (one_more (v % 256) [] (omega arith) none))

little_bytes : (n v : ℕ) → Bytes (bytes n v)
unfolding number_bytes
little_bytes n v = number_bytes_lem little n v

zero_bytes : (n : ℕ) → Bytes (replicate n 0)
zero_bytes zero = none
zero_bytes (suc n) = one_more 0 (replicate n 0) (omega arith) (zero_bytes n)

fid_bytes_in : (o : Order) (f : Fid) → Bytes (encode_fid_in o f)
unfolding encode_fid_in
fid_bytes_in o f =
    bytes_append (number_bytes o 8 f.seq ++ number_bytes o 4 f.oid) (number_bytes o 4 f.ver)
    (bytes_append (number_bytes o 8 f.seq) (number_bytes o 4 f.oid) (number_bytes_lem o 8 f.seq) (number_bytes_lem o 4 f.oid)) (number_bytes_lem o 4 f.ver)

pub fid_bytes : (f : Fid) → Bytes (encode_fid f)
unfolding encode_fid encode_fid_in number_bytes
fid_bytes f = fid_bytes_in little f

pub link_bytes_lem : (x : Link) → Bytes x.name → Bytes (encode_link x)
unfolding encode_link
link_bytes_lem x h =
    let n : List ℕ = number_bytes big 2 (name_at + length x.name) in
    let f : List ℕ = encode_fid_in big x.parent.0 in
    bytes_append (n ++ f) x.name (bytes_append n f (number_bytes_lem big 2 (name_at + length x.name)) (fid_bytes_in big x.parent.0)) h

header_bytes : (h : LinkHeader) → Bytes (encode_link_header h)
unfolding encode_link_header
header_bytes h =
    let m : List ℕ = bytes 4 link_magic in
    let n : List ℕ = bytes 4 h.count in
    let t : List ℕ = bytes 8 h.total in
    let u : List ℕ = bytes 4 h.time in
    let p : List ℕ = bytes 4 h.padding in
    bytes_append (((m ++ n) ++ t) ++ u) p
    (bytes_append ((m ++ n) ++ t) u (bytes_append (m ++ n) t (bytes_append m n (little_bytes 4 link_magic) (little_bytes 4 h.count)) (little_bytes 8 h.total))
    (little_bytes 4 h.time))
    (little_bytes 4 h.padding)

-- a row whose header is written anew
pub closed_bytes : (row : List ℕ) (h : LinkHeader) → Bytes row → Bytes (closed row h)
unfolding closed
closed_bytes row h b =
    let s : List ℕ = bytes 2 h.total ++ encode_link_header h in
    bytes_sets (replicate (link_room - h.total) 0) (sets row link_length_at s) (link_room_at + h.total)
    (bytes_sets s row link_length_at b (bytes_append (bytes 2 h.total) (encode_link_header h) (little_bytes 2 h.total) (header_bytes h)))
    (zero_bytes (link_room - h.total))
