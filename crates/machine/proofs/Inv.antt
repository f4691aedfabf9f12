-- What holds after every step of a run.
use mathlib.Core.Path.{◌≡◌}
use mathlib.Core.Bool.{Bool, cond}
use mathlib.Core.List.{List, [], ◌∷◌}
use mathlib.Core.Option.{Option, none, some}
use mathlib.Core.Logic.{◌⊎◌, ◌≢◌}
use Prim.Native.Nat.{ℕ, ◌<◌, ◌≤◌}
use lib.Dec.{T}
use lib.ListN.{length, get_or}
use Rattle.machine.specs.Tree.{Spot, stands, on, walk, Prefixed, nth, Placed}
use Rattle.machine.specs.Machine.{tomb, IsTomb, IsFlat, HasPair, HasCell, Mem, face, word, main, view, Op, put, renew, cutting, key, Seat, idle, read, swap, parent, clean, State, Expects, MakesMain, MakesPair, MakesCell, Entry}
use Rattle.machine.specs.Pairs.{StandsPair}
use Rattle.machine.proofs.Ready.{Ready}

-- The new cells without their mains.
abbrev pub cells : List (ℕ × ℕ) → List ℕ
cells [] = []
cells (x ∷ xs) = x.0 ∷ cells xs

-- What the main of a new cell shows.
abbrev pub new_face : {K : Type 0} → Mem K → Option (ℕ × ℕ) → ℕ → Spot K
new_face m none q = stands []
new_face m (some x) q = face m.pairs (main m x.1) q

-- What the new cell at a place shows.
abbrev pub faces : {K : Type 0} → Mem K → List (ℕ × ℕ) → ℕ → ℕ → Spot K
faces m new t = new_face m (nth new t)

module _ {K : Type 0} (same : K → K → Bool) (hash : K → ℕ) (chunk : ℕ → ℕ → ℕ) where
  -- No reached cell holds the main n.
  abbrev pub MainFree : Mem K → ℕ → Type 0
  MainFree m n = (h i c : ℕ) → walk chunk (view m) h i ≡ some c → word m c ≢ n

  -- No reached main names the pair p.
  abbrev pub PairFree : Mem K → ℕ → Type 0
  PairFree m p = (h i c : ℕ) → walk chunk (view m) h i ≡ some c → HasPair (main m (word m c)) p → ⊥

  -- A cell of a path is reached along the key's hash, or it holds a tomb.
  abbrev pub At : Mem K → K → ℕ → ℕ → Type 0
  At m k i c = (walk chunk (view m) (hash k) i ≡ some c) ⊎ IsTomb (main m (word m c))

  -- So it is with all cells of a path.
  abbrev pub PathOK : Mem K → K → List ℕ → Type 0
  PathOK m k [] = Unit {0}
  PathOK m k (c ∷ cs) = At m k (length cs) c × PathOK m k cs

  -- What a swap of a call does to the lookup of a key l, from x to y.
  abbrev pub Does : Op K → K → Option (K × ℕ) → Option (K × ℕ) → Type 0
  Does (put k v) l x y = y ≡ cond (same k l) (some (k, v)) x
  Does (renew k v) l x y = y ≡ cond (same k l) (some (k, v)) x
  Does (cutting k v) l x y = (y ≡ cond (same k l) none x) × (T (same k l) → (z : K × ℕ) × (x ≡ some z) × (z.1 ≡ v))
  Does o l x y = ⊥

  -- What a cleaning swap does: nothing.
  abbrev pub Same : K → Option (K × ℕ) → Option (K × ℕ) → Type 0
  Same l x y = y ≡ x

  -- What the cell with the tomb shows, if there is one.
  abbrev pub tspot : Mem K → Option ℕ → Spot K
  tspot m none = on 0
  tspot m (some d) = view m d 0

  -- What a pending swap rests on. It expects the main e in the cell c and brings the main n, perhaps a pair and new cells;
  -- a cleaning swap cuts off the cell td. Only while c holds e is the swap ready: what e names is not kept for the seat.
  pub record Pend (R : K → Option (K × ℕ) → Option (K × ℕ) → Type 0) (m : Mem K) (k : K) (c : ℕ) (cs : List ℕ) (e n : ℕ) (mp td : Option ℕ) (new : List (ℕ × ℕ)) : Type 0 where
    pub path : PathOK m k (c ∷ cs)
    pub solid : IsTomb (main m e) → ⊥
    pub n_free : MainFree m n
    pub p_free : (p : ℕ) → mp ≡ some p → PairFree m p
    pub tomb_at_lem : (d : ℕ) → td ≡ some d → IsTomb (main m (word m d))
    pub links : (d : ℕ) → td ≡ some d → HasCell (main m e) (chunk (hash k) (length cs)) d
    pub names : (p : ℕ) → HasPair (main m n) p → HasPair (main m e) p ⊎ ((mp ≡ some p) ⊎ ((d : ℕ) × (td ≡ some d) × HasPair (main m (word m d)) p))
    pub holds : (t d x : ℕ) → nth new t ≡ some (d, x) → word m d ≡ x
    pub inside : (t d x : ℕ) → nth new t ≡ some (d, x) → d < length m.words
    pub cells_free : (t d x : ℕ) → nth new t ≡ some (d, x) → (h i : ℕ) → walk chunk (view m) h i ≡ some d → ⊥
    pub mains_free : (t d x : ℕ) → nth new t ≡ some (d, x) → MainFree m x
    pub once : (t u d x y : ℕ) → nth new t ≡ some (d, x) → nth new u ≡ some (d, y) → t ≡ u
    pub names_new : (t d x p : ℕ) → nth new t ≡ some (d, x) → HasPair (main m x) p → HasPair (main m e) p ⊎ (mp ≡ some p)
    pub ready : word m c ≡ e → Ready same hash chunk R (hash k) (length cs) (face m.pairs (main m e)) (face m.pairs (main m n)) (IsFlat (main m n)) td (tspot m td) (cells new) (faces m new)

  -- What the record of a seat rests on.
  abbrev pub SeatOK : Mem K → Seat K → Type 0
  SeatOK m idle = Unit {0}
  SeatOK m (read o cs) = PathOK m (key o) cs
  SeatOK m (swap o c cs e n mp new) = Pend (Does o) m (key o) c cs e n mp none new
  SeatOK m (parent o b d cs) = (main m (word m d) ≡ tomb b) × PathOK m (key o) cs
  SeatOK m (clean o b d c cs e n) = (main m (word m d) ≡ tomb b) × Pend Same m (key o) c cs e n none (some d) []

  -- The tree: each reached cell stands for one prefix, no index is above 7, and every pair is at home.
  pub record Shape (m : Mem K) : Type 0 where
    pub one : Prefixed chunk (view m)
    pub low : (h i c : ℕ) → walk chunk (view m) h i ≡ some c → i ≤ 7
    pub in_words : (h i c : ℕ) → walk chunk (view m) h i ≡ some c → c < length m.words
    pub placed : Placed hash chunk (view m) (λ c. IsFlat (main m (word m c)))

  -- All seats: each has what it rests on, and no two of them have made the same, or expect what another has made.
  pub record Seats (m : Mem K) (xs : List (Seat K)) : Type 0 where
    pub ok : (t : ℕ) → SeatOK m (get_or xs t idle)
    pub made_expected : (t u n : ℕ) → t ≢ u → MakesMain (get_or xs t idle) n → Expects (get_or xs u idle) n → ⊥
    pub made_made : (t u n : ℕ) → t ≢ u → MakesMain (get_or xs t idle) n → MakesMain (get_or xs u idle) n → ⊥
    pub cells_apart : (t u d : ℕ) → t ≢ u → MakesCell (get_or xs t idle) d → MakesCell (get_or xs u idle) d → ⊥
    pub pairs_apart : (t u p : ℕ) → t ≢ u → MakesPair (get_or xs t idle) p → MakesPair (get_or xs u idle) p → ⊥

  -- The tree, the seats and the log are as they should be.
  pub record Inv (es : List (Entry K)) (s : State K) : Type 0 where
    pub shape : Shape s.mem
    pub seats : Seats s.mem s.seats
    pub log : StandsPair same hash chunk es s
