-- The machine: its memory, its seats, and one turn as a relation; the log of a run, and the plain map that the log is held to.
use Rattle.std.specs.Prelude.{◌≡◌, Bool, cond, List, [], ◌∷◌, ◌++◌, ◌⊎◌, ◌≢◌, ℕ, suc, ◌<◌, ◌≤◌, T, length, get_or, set}
use Rattle.std.proofs.Math.Option.{Option, none, some}
use Rattle.machine.specs.Tree.{Spot, stands, on, Tree, walk, find, nth, In, NoTwice}

-- What a branch node holds at a chunk: nothing, the place of a pair, or a cell.
pub data Branch : Type 0 where
  nothing : Branch
  pair cell : ℕ → Branch

-- There is a branch.
abbrev pub Taken : Branch → Type 0
Taken nothing = ⊥
Taken (pair p) = Unit {0}
Taken (cell c) = Unit {0}

-- A main is a branch node, a tomb of one pair, or a list of pairs. Pairs are named by their places.
pub data Main : Type 0 where
  node : List Branch → Main
  tomb : ℕ → Main
  many : List ℕ → Main

-- The main is a tomb.
abbrev pub IsTomb : Main → Type 0
IsTomb (node bs) = ⊥
IsTomb (tomb p) = Unit {0}
IsTomb (many ps) = ⊥

-- The main is a tomb or a list, so the same stands at every chunk.
abbrev pub IsFlat : Main → Type 0
IsFlat (node bs) = ⊥
IsFlat (tomb p) = Unit {0}
IsFlat (many ps) = Unit {0}

-- The main names the pair place p.
abbrev pub HasPair : Main → ℕ → Type 0
HasPair (node bs) p = (q : ℕ) × (get_or bs q nothing ≡ pair p)
HasPair (tomb r) p = r ≡ p
HasPair (many ps) p = In p ps

-- The main names the cell d at the chunk q.
abbrev pub HasCell : Main → ℕ → ℕ → Type 0
HasCell (node bs) q d = get_or bs q nothing ≡ cell d
HasCell (tomb r) q d = ⊥
HasCell (many ps) q d = ⊥

-- The memory: the word of each cell, which is the place of its main, the mains, and the pairs.
pub record Mem (K : Type 0) : Type 0 where
  pub words : List ℕ
  pub mains : List Main
  pub pairs : List (K × ℕ)

-- A pair alone, if it is there.
abbrev pub lone : {K : Type 0} → Option (K × ℕ) → Spot K
lone none = stands []
lone (some x) = stands (x ∷ [])

-- What a branch shows.
abbrev pub spot : {K : Type 0} → List (K × ℕ) → Branch → Spot K
spot pairs nothing = stands []
spot pairs (pair p) = lone (nth pairs p)
spot pairs (cell c) = on c

-- A list with one more in front, if there is one.
abbrev pub join : {A : Type 0} → Option A → List A → List A
join none xs = xs
join (some x) xs = x ∷ xs

-- The pairs at some places.
abbrev pub gather : {K : Type 0} → List (K × ℕ) → List ℕ → List (K × ℕ)
gather pairs [] = []
gather pairs (p ∷ ps) = join (nth pairs p) (gather pairs ps)

-- What a main shows at a chunk.
abbrev pub face : {K : Type 0} → List (K × ℕ) → Main → ℕ → Spot K
face pairs (node bs) q = spot pairs (get_or bs q nothing)
face pairs (tomb p) q = lone (nth pairs p)
face pairs (many ps) q = stands (gather pairs ps)

-- The word of a cell: the place of its main.
abbrev pub word : {K : Type 0} → Mem K → ℕ → ℕ
word m c = get_or m.words c 0

-- The main at a place.
abbrev pub main : {K : Type 0} → Mem K → ℕ → Main
main m n = get_or m.mains n (node [])

-- The tree that a memory holds.
unfoldable pub view : {K : Type 0} → Mem K → Tree K
view m c q = face m.pairs (main m (word m c)) q

-- What a seat is at: a call as it was opened, or a put or a cut of which it knows more.
pub data Op (K : Type 0) : Type 0 where
  get : K → Op K
  put : K → ℕ → Op K
  -- A put that replaces the pair of an equal key.
  renew : K → ℕ → Op K
  cut : K → Op K
  -- A cut that takes out this value.
  cutting : K → ℕ → Op K
  -- A cut that has settled, and climbs.
  climb : K → Op K

-- The key of a call.
abbrev pub key : {K : Type 0} → Op K → K
key (get k) = k
key (put k v) = k
key (renew k v) = k
key (cut k) = k
key (cutting k v) = k
key (climb k) = k

-- The call as it was opened.
abbrev pub plain : {K : Type 0} → Op K → Op K
plain (get k) = get k
plain (put k v) = put k v
plain (renew k v) = put k v
plain (cut k) = cut k
plain (cutting k v) = cut k
plain (climb k) = cut k

-- The record of a seat. A path has its last cell first and the root at its end.
pub data Seat (K : Type 0) : Type 0 where
  -- No call is open.
  idle : Seat K
  -- The call and its path: the last cell is to be read.
  read : Op K → List ℕ → Seat K
  -- The call, the last cell of its path and the cells above, the main expected in the last cell, the main made, the pair made,
  -- if any, and the new cells with their mains: the last cell is to be swapped.
  swap : Op K → ℕ → List ℕ → ℕ → ℕ → Option ℕ → List (ℕ × ℕ) → Seat K
  -- The call, the pair that is buried in the last cell, the last cell, and the cells above: the cell above the last is to be read.
  parent : Op K → ℕ → ℕ → List ℕ → Seat K
  -- The call, the buried pair, the last cell, the cell above it and the cells above that, the main expected in the cell above the last,
  -- and the main made: the cell above the last is to be swapped.
  clean : Op K → ℕ → ℕ → ℕ → List ℕ → ℕ → ℕ → Seat K

-- The path of a seat.
abbrev pub path : {K : Type 0} → Seat K → List ℕ
path idle = []
path (read o cs) = cs
path (swap o c cs e n mp new) = c ∷ cs
path (parent o b c cs) = c ∷ cs
path (clean o b d c cs e n) = d ∷ c ∷ cs

-- The whole state: the memory, the seats, and the number of turns so far.
pub record State (K : Type 0) : Type 0 where
  pub mem : Mem K
  pub seats : List (Seat K)
  pub ticks : ℕ

-- The record of the seat t.
abbrev pub seat : {K : Type 0} → State K → ℕ → Seat K
seat s t = get_or s.seats t idle

-- The seat expects the main x in the cell that it will swap.
abbrev pub Expects : {K : Type 0} → Seat K → ℕ → Type 0
Expects idle x = ⊥
Expects (read o cs) x = ⊥
Expects (swap o c cs e n mp new) x = x ≡ e
Expects (parent o b c cs) x = ⊥
Expects (clean o b d c cs e n) x = x ≡ e

-- The seat has made the main x.
abbrev pub MakesMain : {K : Type 0} → Seat K → ℕ → Type 0
MakesMain idle x = ⊥
MakesMain (read o cs) x = ⊥
MakesMain (swap o c cs e n mp new) x = (x ≡ n) ⊎ ((t d : ℕ) × (nth new t ≡ some (d, x)))
MakesMain (parent o b c cs) x = ⊥
MakesMain (clean o b d c cs e n) x = x ≡ n

-- The seat has made the pair x.
abbrev pub MakesPair : {K : Type 0} → Seat K → ℕ → Type 0
MakesPair idle x = ⊥
MakesPair (read o cs) x = ⊥
MakesPair (swap o c cs e n mp new) x = mp ≡ some x
MakesPair (parent o b c cs) x = ⊥
MakesPair (clean o b d c cs e n) x = ⊥

-- The seat has made the cell x.
abbrev pub MakesCell : {K : Type 0} → Seat K → ℕ → Type 0
MakesCell idle x = ⊥
MakesCell (read o cs) x = ⊥
MakesCell (swap o c cs e n mp new) x = (t n' : ℕ) × (nth new t ≡ some (x, n'))
MakesCell (parent o b c cs) x = ⊥
MakesCell (clean o b d c cs e n) x = ⊥

-- A cell is in use: it is reached, or on the path of an open call, or made by one.
pub data CellInUse {K : Type 0} (chunk : ℕ → ℕ → ℕ) (s : State K) (c : ℕ) : Type 0 where
  reached : (h i : ℕ) → walk chunk (view s.mem) h i ≡ some c → CellInUse chunk s c
  on_path : (t : ℕ) → In c (path (seat s t)) → CellInUse chunk s c
  made : (t : ℕ) → MakesCell (seat s t) c → CellInUse chunk s c

-- A main is in use: it is that of a reached cell, or expected or made by a seat, or the tomb in a cell of a path.
pub data MainInUse {K : Type 0} (chunk : ℕ → ℕ → ℕ) (s : State K) (x : ℕ) : Type 0 where
  reached : (h i c : ℕ) → walk chunk (view s.mem) h i ≡ some c → word s.mem c ≡ x → MainInUse chunk s x
  expected : (t : ℕ) → Expects (seat s t) x → MainInUse chunk s x
  made : (t : ℕ) → MakesMain (seat s t) x → MainInUse chunk s x
  tomb_of : (t c : ℕ) → In c (path (seat s t)) → word s.mem c ≡ x → IsTomb (main s.mem x) → MainInUse chunk s x

-- A pair is in use: a reached main names it, or a seat has made it.
pub data PairInUse {K : Type 0} (chunk : ℕ → ℕ → ℕ) (s : State K) (p : ℕ) : Type 0 where
  reached : (h i c : ℕ) → walk chunk (view s.mem) h i ≡ some c → HasPair (main s.mem (word s.mem c)) p → PairInUse chunk s p
  made : (t : ℕ) → MakesPair (seat s t) p → PairInUse chunk s p

-- A memory in which all that is in use is as it was. What is not in use may be anything.
pub record Alike {K : Type 0} (chunk : ℕ → ℕ → ℕ) (s : State K) (m : Mem K) : Type 0 where
  pub as_many : length m.words ≡ length s.mem.words
  pub words : (c : ℕ) → CellInUse chunk s c → word m c ≡ word s.mem c
  pub mains : (x : ℕ) → MainInUse chunk s x → main m x ≡ main s.mem x
  pub pairs : (p : ℕ) → PairInUse chunk s p → nth m.pairs p ≡ nth s.mem.pairs p

-- The state after a turn of the seat t: the memory m, the seat's new record x, and one turn more.
abbrev pub seated : {K : Type 0} → State K → Mem K → ℕ → Seat K → State K
seated s m t x = record { mem = m; seats = set s.seats t x; ticks = suc s.ticks }

-- The state after a call on the seat t that writes nothing: the seat's new record x, and the number n of turns.
abbrev pub moved : {K : Type 0} → State K → ℕ → Seat K → ℕ → State K
moved s t x n = record { mem = s.mem; seats = set s.seats t x; ticks = n }

-- The memory after a swap of the cell c for the main n.
abbrev pub swung : {K : Type 0} → Mem K → ℕ → ℕ → Mem K
swung m c n = record { words = set m.words c n; mains = m.mains; pairs = m.pairs }

-- The result of a call: a value or none, or that a value is stored.
pub data Result : Type 0 where
  value : Option ℕ → Result
  stored : Result

-- An entry of the log: the call, its result, and its stamp, which is the number of the turn that fixed the result.
pub record Entry (K : Type 0) : Type 0 where
  pub stamp : ℕ
  pub op : Op K
  pub result : Result

-- The result of a call whose swap says yes.
abbrev pub gives : {K : Type 0} → Op K → Result
gives (get k) = value none
gives (put k v) = stored
gives (renew k v) = stored
gives (cut k) = value none
gives (cutting k v) = value (some v)
gives (climb k) = value none

-- The plain map after a call. Only calls as they were opened stand in a log.
abbrev pub after : {K : Type 0} → (K → K → Bool) → Op K → (K → Option ℕ) → K → Option ℕ
after same (get l) f k = f k
after same (put l v) f k = cond (same l k) (some v) (f k)
after same (renew l v) f k = f k
after same (cut l) f k = cond (same l k) none (f k)
after same (cutting l v) f k = f k
after same (climb l) f k = f k

-- The plain map after all calls of a log, of which the newest stands first.
unfoldable pub replay : {K : Type 0} → (K → K → Bool) → List (Entry K) → K → Option ℕ
replay same [] k = none
replay same (e ∷ es) k = after same e.op (replay same es) k

-- The result that the plain map gives a call.
abbrev pub says : {K : Type 0} → Op K → (K → Option ℕ) → Result
says (get k) f = value (f k)
says (put k v) f = stored
says (renew k v) f = stored
says (cut k) f = value (f k)
says (cutting k v) f = stored
says (climb k) f = stored

-- Each result of the log is that of the plain map.
unfoldable pub Plain : {K : Type 0} → (K → K → Bool) → List (Entry K) → Type 0
Plain same [] = Unit {0}
Plain same (e ∷ es) = (e.result ≡ says e.op (replay same es)) × Plain same es

-- The stamps of the log rise, and none is above n.
unfoldable pub Rising : {K : Type 0} → ℕ → List (Entry K) → Type 0
Rising n [] = Unit {0}
Rising n (e ∷ es) = (e.stamp ≤ n) × ((m : ℕ) × (m < e.stamp) × Rising m es)

-- The log with one more entry, if there is one.
abbrev pub add : {K : Type 0} → Option (Entry K) → List (Entry K) → List (Entry K)
add none es = es
add (some e) es = e ∷ es

-- A formatted memory: the root is an empty branch node, and no call is open.
pub record Formatted {K : Type 0} (s : State K) : Type 0 where
  pub root : (bs : List Branch) × (main s.mem (word s.mem 0) ≡ node bs) × ((q : ℕ) → get_or bs q nothing ≡ nothing)
  pub has_root : 0 < length s.mem.words
  pub idles : (t : ℕ) → seat s t ≡ idle

module _ {K : Type 0} (same : K → K → Bool) (hash : K → ℕ) (chunk : ℕ → ℕ → ℕ) where
  -- A chain of new cells from index i on, for the pair x at the place r and the new pair of the key k at the place p.
  pub data Chain (m : Mem K) (k : K) (r p : ℕ) (x : K × ℕ) : ℕ → List (ℕ × ℕ) → Type 0 where
    -- The last cell holds both pairs, where their chunks differ.
    ends : (i d n : ℕ) (bs : List Branch) → i ≤ 6 → main m n ≡ node bs → chunk (hash x.0) i ≢ chunk (hash k) i
        → get_or bs (chunk (hash x.0) i) nothing ≡ pair r → get_or bs (chunk (hash k) i) nothing ≡ pair p
        → ((j : ℕ) → j ≢ chunk (hash x.0) i → j ≢ chunk (hash k) i → get_or bs j nothing ≡ nothing)
        → Chain m k r p x i ((d, n) ∷ [])
    -- At index 7 the last cell holds a list of both, the standing pair first.
    ends_list : (i d n : ℕ) → i ≡ 7 → main m n ≡ many (r ∷ p ∷ []) → Chain m k r p x i ((d, n) ∷ [])
    -- A cell before the last holds the next cell alone.
    links : (i d n d' n' : ℕ) (bs : List Branch) (new : List (ℕ × ℕ)) → main m n ≡ node bs → chunk (hash x.0) i ≡ chunk (hash k) i
        → get_or bs (chunk (hash k) i) nothing ≡ cell d' → ((j : ℕ) → j ≢ chunk (hash k) i → get_or bs j nothing ≡ nothing)
        → Chain m k r p x (suc i) ((d', n') ∷ new)
        → Chain m k r p x i ((d, n) ∷ (d', n') ∷ new)

  -- New cells hold their mains, none comes twice, and neither they nor their mains were in use.
  pub record Fresh (s : State K) (m : Mem K) (new : List (ℕ × ℕ)) : Type 0 where
    pub holds : (t d n : ℕ) → nth new t ≡ some (d, n) → word m d ≡ n
    pub inside : (t d n : ℕ) → nth new t ≡ some (d, n) → d < length m.words
    pub cells : (t d n : ℕ) → nth new t ≡ some (d, n) → CellInUse chunk s d → ⊥
    pub mains : (t d n : ℕ) → nth new t ≡ some (d, n) → MainInUse chunk s n → ⊥
    pub once : (t u d n n' : ℕ) → nth new t ≡ some (d, n) → nth new u ≡ some (d, n') → t ≡ u

  -- What a read of the main X at index a prepares, in the memory m: for a call the new main, the pair made, and the new cells.
  pub data Prepares (m : Mem K) (X : Main) (a : ℕ) : Op K → Main → Option ℕ → List (ℕ × ℕ) → Type 0 where
    -- A put fills an empty chunk.
    adds : (k : K) (v : ℕ) (bs : List Branch) (p : ℕ) → X ≡ node bs → chunk (hash k) a < length bs
        → get_or bs (chunk (hash k) a) nothing ≡ nothing → nth m.pairs p ≡ some (k, v)
        → Prepares m X a (put k v) (node (set bs (chunk (hash k) a) (pair p))) (some p) []
    -- A put replaces the pair of an equal key.
    replaces : (k : K) (v : ℕ) (bs : List Branch) (r p : ℕ) (x : K × ℕ) → X ≡ node bs → chunk (hash k) a < length bs
        → get_or bs (chunk (hash k) a) nothing ≡ pair r → nth m.pairs r ≡ some x → T (same x.0 k) → nth m.pairs p ≡ some (k, v)
        → Prepares m X a (renew k v) (node (set bs (chunk (hash k) a) (pair p))) (some p) []
    -- A put adds its pair at the end of a list that lacks the key.
    extends : (k : K) (v : ℕ) (ps : List ℕ) (p : ℕ) → X ≡ many ps → find same k (gather m.pairs ps) ≡ none → nth m.pairs p ≡ some (k, v) → length ps < 32
        → Prepares m X a (put k v) (many (ps ++ (p ∷ []))) (some p) []
    -- A put replaces the pair of an equal key in a list; the other members stay, in any order.
    alters : (k : K) (v : ℕ) (ps qs : List ℕ) (p : ℕ) → X ≡ many ps → nth m.pairs p ≡ some (k, v)
        → NoTwice same (gather m.pairs ps) → NoTwice same (gather m.pairs qs) → length qs ≡ length ps
        → In p qs → ((r : ℕ) → In r qs → In r ps ⊎ (p ≡ r))
        → ((y : K × ℕ) → In y (gather m.pairs qs) → ¬ T (same y.0 k) → In y (gather m.pairs ps))
        → ((y : K × ℕ) → In y (gather m.pairs ps) → ¬ T (same y.0 k) → In y (gather m.pairs qs))
        → Prepares m X a (renew k v) (many qs) (some p) []
    -- A cut takes the pair of an equal key out of a list; two or more stay, in any order.
    shrinks : (k : K) (ps qs : List ℕ) (x : K × ℕ) → X ≡ many ps → In x (gather m.pairs ps) → T (same x.0 k)
        → NoTwice same (gather m.pairs ps) → NoTwice same (gather m.pairs qs) → 2 ≤ length qs → length qs ≤ length ps
        → ((r : ℕ) → In r qs → In r ps)
        → ((y : K × ℕ) → In y (gather m.pairs qs) → In y (gather m.pairs ps)) → ((y : K × ℕ) → In y (gather m.pairs qs) → ¬ T (same y.0 k))
        → ((y : K × ℕ) → In y (gather m.pairs ps) → ¬ T (same y.0 k) → In y (gather m.pairs qs))
        → Prepares m X a (cutting k x.1) (many qs) none []
    -- A cut takes the pair of an equal key out of a list of two; the other one is buried in a tomb.
    buries : (k : K) (ps : List ℕ) (r : ℕ) (x z : K × ℕ) → X ≡ many ps → In x (gather m.pairs ps) → T (same x.0 k)
        → NoTwice same (gather m.pairs ps) → In r ps → nth m.pairs r ≡ some z → In z (gather m.pairs ps) → ¬ T (same z.0 k)
        → ((y : K × ℕ) → In y (gather m.pairs ps) → ¬ T (same y.0 k) → y ≡ z) → 0 < a
        → Prepares m X a (cutting k x.1) (tomb r) none []
    -- A cut takes a pair out of a branch node. Below the root no lone pair is left: a pair that stays has another branch beside it.
    drops : (k : K) (bs : List Branch) (p : ℕ) (x : K × ℕ) → X ≡ node bs → chunk (hash k) a < length bs
        → get_or bs (chunk (hash k) a) nothing ≡ pair p → nth m.pairs p ≡ some x → T (same x.0 k)
        → (0 < a → (r u : ℕ) → r ≢ chunk (hash k) a → get_or bs r nothing ≡ pair u → (w : ℕ) × (w ≢ chunk (hash k) a) × (w ≢ r) × Taken (get_or bs w nothing))
        → Prepares m X a (cutting k x.1) (node (set bs (chunk (hash k) a) nothing)) none []
    -- A cut takes one of two pairs out of a branch node below the root; the other one is buried in a tomb.
    entombs : (k : K) (bs : List Branch) (p : ℕ) (x : K × ℕ) (r q : ℕ) (y : K × ℕ) → X ≡ node bs
        → get_or bs (chunk (hash k) a) nothing ≡ pair p → nth m.pairs p ≡ some x → T (same x.0 k)
        → r ≢ chunk (hash k) a → get_or bs r nothing ≡ pair q → nth m.pairs q ≡ some y
        → ((j : ℕ) → j ≢ chunk (hash k) a → j ≢ r → get_or bs j nothing ≡ nothing) → 0 < a
        → Prepares m X a (cutting k x.1) (tomb q) none []
    -- A put finds a pair of another key: a chain of new cells leads down to the first index at which the chunks differ.
    splits : (k : K) (v : ℕ) (bs : List Branch) (r p : ℕ) (x : K × ℕ) (d n : ℕ) (new : List (ℕ × ℕ)) → X ≡ node bs → chunk (hash k) a < length bs
        → get_or bs (chunk (hash k) a) nothing ≡ pair r → nth m.pairs r ≡ some x → (T (same x.0 k) → ⊥) → nth m.pairs p ≡ some (k, v)
        → Chain m k r p x (suc a) ((d, n) ∷ new)
        → Prepares m X a (put k v) (node (set bs (chunk (hash k) a) (cell d))) (some p) ((d, n) ∷ new)

  -- What a read of the main X at index a prepares, if X names the cell d, which holds a tomb of p, at the chunk of k.
  pub data Cleans (X : Main) (a : ℕ) (k : K) (d p : ℕ) : Main → Type 0 where
    -- The buried pair takes the place of the cell. Below the root another branch stands beside it.
    contracts : (bs : List Branch) → X ≡ node bs → chunk (hash k) a < length bs → get_or bs (chunk (hash k) a) nothing ≡ cell d
        → (0 < a → (r : ℕ) × (r ≢ chunk (hash k) a) × Taken (get_or bs r nothing))
        → Cleans X a k d p (node (set bs (chunk (hash k) a) (pair p)))
    -- The cell is the only branch, below the root: the pair is buried here.
    entombs : (bs : List Branch) → X ≡ node bs → get_or bs (chunk (hash k) a) nothing ≡ cell d
        → ((j : ℕ) → j ≢ chunk (hash k) a → get_or bs j nothing ≡ nothing) → 0 < a
        → Cleans X a k d p (tomb p)

  -- What a seat may do without writing. More is allowed than the calls do: the log stands all the same.
  pub data Moves (m : Mem K) : Seat K → Seat K → Type 0 where
    -- A call starts at the root: one is opened, or one starts again, as after a swap that said no, at any time.
    root : (y : Seat K) (o : Op K) → Moves m y (read o (0 ∷ []))
    -- A call ends.
    rest : (y : Seat K) → Moves m y idle
    -- A read finds the next cell.
    down : (o : Op K) (c : ℕ) (cs : List ℕ) (d : ℕ) → view m c (chunk (hash (key o)) (length cs)) ≡ on d
        → Moves m (read o (c ∷ cs)) (read o (d ∷ c ∷ cs))
    -- The last cell of the path is dropped.
    up : (o : Op K) (c : ℕ) (cs : List ℕ) → Moves m (read o (c ∷ cs)) (read o cs)
    -- A read finds a tomb.
    meets : (o : Op K) (b c : ℕ) (cs : List ℕ) → main m (word m c) ≡ tomb b → Moves m (read o (c ∷ cs)) (parent o b c cs)
    -- The cell above the last does not name the last cell.
    turns : (o : Op K) (b d : ℕ) (cs : List ℕ) → Moves m (parent o b d cs) (read o cs)
    -- A cleaning swap said no, at any time.
    misses : (o : Op K) (b d c : ℕ) (cs : List ℕ) (e n : ℕ) → Moves m (clean o b d c cs e n) (parent o b d (c ∷ cs))

  -- One step from a state to the next, with the entry that it adds to the log, if any.
  pub data Step (s : State K) : Option (Entry K) → State K → Type 0 where
    -- A seat does something that writes nothing. It may count as a turn or not.
    moves : (t : ℕ) (x : Seat K) (n : ℕ) → t < length s.seats → s.ticks ≤ n → Moves s.mem (seat s t) x → Step s none (moved s t x n)
    -- A get ends at pairs.
    got : (t : ℕ) (k : K) (c : ℕ) (cs : List ℕ) (ps : List (K × ℕ)) → t < length s.seats → seat s t ≡ read (get k) (c ∷ cs)
        → (IsTomb (main s.mem (word s.mem c)) → ⊥) → view s.mem c (chunk (hash k) (length cs)) ≡ stands ps
        → Step s (some (record { stamp = suc s.ticks; op = get k; result = value (find same k ps) })) (seated s s.mem t idle)
    -- A cut ends where its key is not.
    lacks : (t : ℕ) (k : K) (c : ℕ) (cs : List ℕ) (ps : List (K × ℕ)) → t < length s.seats → seat s t ≡ read (cut k) (c ∷ cs)
        → (IsTomb (main s.mem (word s.mem c)) → ⊥) → view s.mem c (chunk (hash k) (length cs)) ≡ stands ps → find same k ps ≡ none
        → Step s (some (record { stamp = suc s.ticks; op = cut k; result = value none })) (seated s s.mem t idle)
    -- A read prepares a swap; what it takes was not in use.
    prepared : (t : ℕ) (o : Op K) (c : ℕ) (cs : List ℕ) (n : ℕ) (mp : Option ℕ) (new : List (ℕ × ℕ)) (m : Mem K) → t < length s.seats
        → seat s t ≡ read (plain o) (c ∷ cs) → Alike chunk s m → (MainInUse chunk s n → ⊥) → ((p : ℕ) → mp ≡ some p → PairInUse chunk s p → ⊥)
        → Fresh s m new → Prepares m (main s.mem (word s.mem c)) (length cs) o (main m n) mp new
        → Step s none (seated s m t (swap o c cs (word s.mem c) n mp new))
    -- A swap says yes: the call settles. It ends, or, as a cut, climbs.
    swapped : (t : ℕ) (o : Op K) (c : ℕ) (cs : List ℕ) (e n : ℕ) (mp : Option ℕ) (new : List (ℕ × ℕ)) (x : Seat K) → t < length s.seats
        → seat s t ≡ swap o c cs e n mp new → word s.mem c ≡ e → (x ≡ idle) ⊎ (x ≡ read (climb (key o)) (c ∷ cs))
        → Step s (some (record { stamp = suc s.ticks; op = plain o; result = gives o })) (seated s (swung s.mem c n) t x)
    -- A read of the cell above a tomb prepares the cleaning swap.
    cleaning : (t : ℕ) (o : Op K) (b d c : ℕ) (cs : List ℕ) (n : ℕ) (m : Mem K) → t < length s.seats
        → seat s t ≡ parent o b d (c ∷ cs) → Alike chunk s m → (MainInUse chunk s n → ⊥)
        → Cleans (main s.mem (word s.mem c)) (length cs) (key o) d b (main m n)
        → Step s none (seated s m t (clean o b d c cs (word s.mem c) n))
    -- A cleaning swap says yes. The call ends, starts again, or goes on above.
    cleaned : (t : ℕ) (o : Op K) (b d c : ℕ) (cs : List ℕ) (e n : ℕ) (x : Seat K) → t < length s.seats
        → seat s t ≡ clean o b d c cs e n → word s.mem c ≡ e → (x ≡ idle) ⊎ ((x ≡ read o (0 ∷ [])) ⊎ (x ≡ read o (c ∷ cs)))
        → Step s none (seated s (swung s.mem c n) t x)

  -- A run from a formatted memory, with its log.
  pub data Runs : List (Entry K) → State K → Type 0 where
    formatted : {s : State K} → Formatted s → Runs [] s
    then : {es : List (Entry K)} {s s' : State K} {e : Option (Entry K)} → Runs es s → Step s e s' → Runs (add e es) s'
