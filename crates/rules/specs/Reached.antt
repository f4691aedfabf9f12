-- What is reached from the root, and how many places that are.
use Rattle.std.specs.Prelude.{◌≡◌, ℕ, zero, suc, ◌+◌, ◌*◌, ◌^◌, ◌<◌, Bool, true, false, cond, ◌||◌, List, [], ◌∷◌, ◌++◌, length, Some, None, Option, ◌==◌, nat_lt}
use mathlib.Core.List.{Memᴰ}
use Rattle.std.specs.Option.{option_to_list}
use Rattle.std.specs.List.{slice_get}
use Rattle.mains.specs.Lists.{listed}
use Rattle.mains.specs.Nodes.{branch_at}
use Rattle.mains.specs.declared.Branch.{Branch}
use Rattle.mains.specs.declared.Branch.TheVariants.{Pair as pair, Cell as cell}
use Rattle.mains.specs.declared.Main.{Main}
use Rattle.mains.specs.declared.Node.{Node}
use Rattle.mains.specs.declared.Main.TheVariants.{Node as node, Tomb as tomb, List as listing}
use Rattle.rules.specs.Memory.{Memory, main_at}
use Rattle.rules.specs.Sound.{sound_in}

-- The cells that branches name.
abbrev pub cells_in : List Branch → List ℕ
cells_in [] = []
cells_in (pair p ∷ bs) = cells_in bs
cells_in (cell c ∷ bs) = c ∷ cells_in bs

-- The pairs that branches name.
abbrev pub pairs_in : List Branch → List ℕ
pairs_in [] = []
pairs_in (pair p ∷ bs) = p ∷ pairs_in bs
pairs_in (cell c ∷ bs) = pairs_in bs

-- The branches of a node at the chunks below a number, in chunk order.
abbrev pub branches_to : Node → ℕ → List Branch
branches_to n zero = []
branches_to n (suc chunk) = branches_to n chunk ++ option_to_list (branch_at n chunk)

-- All branches of a node.
unfoldable pub branches_of : Node → List Branch
branches_of n = branches_to n 32

-- The cells that a main names.
abbrev pub cells_of : Main → List ℕ
cells_of (node n) = cells_in (branches_of n)
cells_of (tomb p) = []
cells_of (listing l) = []

-- The pairs that a main names.
abbrev pub pairs_of : Main → List ℕ
pairs_of (node n) = pairs_in (branches_of n)
pairs_of (tomb p) = p ∷ []
pairs_of (listing l) = listed l

-- Whether a main is a tomb.
abbrev pub is_tomb : Main → Bool
is_tomb (node n) = false
is_tomb (tomb p) = true
is_tomb (listing l) = false

module _ {K : Type 0} (same : K → K → Bool) (hash : K → ℕ) (m : Memory K) where
  -- A cell is reached at an index: the root, which is cell 0, at 0; and any cell that a sound main in a reached cell
  -- names, at the next. A number outside the memory reaches nothing.
  pub data Reached : ℕ → ℕ → Type 0 where
    root : 0 < length m.words → Reached 0 0
    next : {index c : ℕ} → Reached index c → (x : Main) → sound_in same hash m index c ≡ Some x → (d : ℕ) → Memᴰ d (cells_of x) → d < length m.words → Reached (suc index) d

  -- The same, with the prefix that the cell stands for: the chunks that lead to it.
  pub data StandsFor : ℕ → ℕ → ℕ → Type 0 where
    root : 0 < length m.words → StandsFor 0 0 0
    next : {index prefix c : ℕ} → StandsFor index prefix c → (n : Node) → sound_in same hash m index c ≡ Some (node n) → (chunk : ℕ) → chunk < 32 → (d : ℕ) → branch_at n chunk ≡ Some (cell d) → d < length m.words → StandsFor (suc index) (prefix + chunk * 2 ^ (5 * index)) d

  -- A cell is reached.
  pub record ReachedCell (c : ℕ) : Type 0 where
    pub index : ℕ
    pub at : Reached index c

  -- A main place is reached: a reached cell holds its number.
  pub record ReachedMain (n : ℕ) : Type 0 where
    pub index : ℕ
    pub cell : ℕ
    pub at : Reached index cell
    pub holds : slice_get m.words cell ≡ Some n
    pub main : Main
    pub there : main_at m.mains n ≡ Some main

  -- A pair place is reached: a sound main in a reached cell names it.
  pub record ReachedPair (p : ℕ) : Type 0 where
    pub index : ℕ
    pub cell : ℕ
    pub at : Reached index cell
    pub main : Main
    pub keeps : sound_in same hash m index cell ≡ Some main
    pub names : Memᴰ p (pairs_of main)
    pub inside : p < length m.pairs

  -- A main place holds a reached tomb.
  pub record ReachedTomb (n : ℕ) : Type 0 where
    pub index : ℕ
    pub cell : ℕ
    pub at : Reached index cell
    pub holds : slice_get m.words cell ≡ Some n
    pub main : Main
    pub keeps : sound_in same hash m index cell ≡ Some main
    pub dead : is_tomb main ≡ true

-- No number stands in the list twice.
abbrev pub Once : List ℕ → Type 0
Once [] = Unit {0}
Once (x ∷ xs) = (Memᴰ x xs → ⊥) × Once xs

-- n is the number of those of which P holds: there is a list of just them, none twice, of that length.
pub record HowMany (P : ℕ → Type 0) (n : ℕ) : Type 0 where
  pub them : List ℕ
  pub once : Once them
  pub only : (x : ℕ) → Memᴰ x them → P x
  pub all : (x : ℕ) → P x → Memᴰ x them
  pub many : n ≡ length them

-- THE SAME, COMPUTED

-- Whether a number stands in a list.
abbrev pub member : ℕ → List ℕ → Bool
member x [] = false
member x (y ∷ ys) = x == y || member x ys

-- The numbers below n that stand in a list, each once.
abbrev pub those : ℕ → List ℕ → List ℕ
those zero xs = []
those (suc n) xs = cond (member n xs) (n ∷ those n xs) (those n xs)

-- What a main names, if there is one.
abbrev pub of_main : (Main → List ℕ) → Option Main → List ℕ
of_main f None = []
of_main f (Some x) = f x

-- The main place that a cell holds the number of, if its main is a tomb.
abbrev pub tomb_at : Option ℕ → Option Main → List ℕ
tomb_at None x = []
tomb_at (Some n) None = []
tomb_at (Some n) (Some x) = cond (is_tomb x) (n ∷ []) []

module _ {K : Type 0} (same : K → K → Bool) (hash : K → ℕ) (m : Memory K) where
  -- Those of some cells that are in the memory.
  abbrev pub inside : List ℕ → List ℕ
  inside [] = []
  inside (c ∷ cs) = cond (nat_lt c (length m.words)) (c ∷ inside cs) (inside cs)

  -- What the sound mains in some cells at an index name.
  abbrev pub named : (Main → List ℕ) → ℕ → List ℕ → List ℕ
  named f index [] = []
  named f index (c ∷ cs) = of_main f (sound_in same hash m index c) ++ named f index cs

  -- The tombs in some cells at an index.
  abbrev pub tombs_in : ℕ → List ℕ → List ℕ
  tombs_in index [] = []
  tombs_in index (c ∷ cs) = tomb_at (slice_get m.words c) (sound_in same hash m index c) ++ tombs_in index cs

  -- The cells reached at an index.
  abbrev pub level : ℕ → List ℕ
  level zero = inside (0 ∷ [])
  level (suc index) = inside (named cells_of index (level index))

  -- What stands at the indices below n, gathered.
  abbrev pub gathered : (ℕ → List ℕ) → ℕ → List ℕ
  gathered f zero = []
  gathered f (suc n) = gathered f n ++ f n

  -- How many cells are reached.
  unfoldable pub cell_count : ℕ
  cell_count = length (those (length m.words) (gathered level 8))

  -- How many pair places are reached.
  unfoldable pub pair_count : ℕ
  pair_count = length (those (length m.pairs) (gathered (λ index. named pairs_of index (level index)) 8))

  -- How many main places hold a reached tomb.
  unfoldable pub tomb_count : ℕ
  tomb_count = length (those (length m.mains) (gathered (λ index. tombs_in index (level index)) 8))
