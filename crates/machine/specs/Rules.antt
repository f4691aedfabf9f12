-- The rules that a main keeps, by the index of its cell.
use Rattle.std.specs.Prelude.{◌≡◌, Bool, List, ◌≢◌, ℕ, ◌<◌, ◌≤◌, length, get_or}
use Rattle.std.proofs.Math.Option.{some}
use Rattle.machine.specs.Tree.{walk, nth, NoTwice}
use Rattle.machine.specs.Machine.{Taken, Branch, nothing, pair, Main, node, tomb, many, IsTomb, HasPair, Mem, gather, word, main, view}

-- A branch node stands at index 6 at most. Below the root it has a branch, and a pair there has another branch beside it.
pub record NodeRule (i : ℕ) (bs : List Branch) : Type 0 where
  pub high : i ≤ 6
  pub chunks : (q : ℕ) → Taken (get_or bs q nothing) → q < 32
  pub any : 0 < i → (q : ℕ) × Taken (get_or bs q nothing)
  pub beside : 0 < i → (q p : ℕ) → get_or bs q nothing ≡ pair p → (r : ℕ) × (r ≢ q) × Taken (get_or bs r nothing)

module _ {K : Type 0} (same : K → K → Bool) where
  -- The rule of a main at index i: no tomb is at the root, and a list stands at index 7, with 2 to 32 pairs and no key twice.
  abbrev pub Rule : List (K × ℕ) → ℕ → Main → Type 0
  Rule pairs i (node bs) = NodeRule i bs
  Rule pairs i (tomb p) = 1 ≤ i
  Rule pairs i (many ps) = (i ≡ 7) × (2 ≤ length ps) × (length ps ≤ 32) × NoTwice same (gather pairs ps)

  -- A main keeps its rule, and the pairs that it names are in the memory.
  pub record Kept (pairs : List (K × ℕ)) (i : ℕ) (X : Main) : Type 0 where
    pub rule : Rule pairs i X
    pub inside : (p : ℕ) → HasPair X p → (x : K × ℕ) × (nth pairs p ≡ some x)

  -- Every reached main keeps the rules at the index of its cell.
  abbrev pub Ruled : (ℕ → ℕ → ℕ) → Mem K → Type 0
  Ruled chunk m = (h i c : ℕ) → walk chunk (view m) h i ≡ some c → Kept m.pairs i (main m (word m c))

-- No tomb is reached.
abbrev pub NoTombs : {K : Type 0} → (ℕ → ℕ → ℕ) → Mem K → Type 0
NoTombs chunk m = (h i c : ℕ) → walk chunk (view m) h i ≡ some c → IsTomb (main m (word m c)) → ⊥
