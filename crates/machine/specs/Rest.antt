-- What compact means: a cell stands for a prefix exactly if two different pairs share that prefix.
use Rattle.std.specs.Prelude.{◌≡◌, Bool, List, ◌↔◌, ℕ, suc, ◌<◌, ◌≤◌, T}
use Rattle.std.proofs.Math.Option.{some}
use Rattle.machine.specs.Tree.{stands, on, Tree, Agree, walk, In}

-- A pair is reached: it stands somewhere in a reached cell.
pub record Held {K : Type 0} (chunk : ℕ → ℕ → ℕ) (M : Tree K) (x : K × ℕ) : Type 0 where
  pub along : ℕ
  pub index : ℕ
  pub cell : ℕ
  pub place : ℕ
  pub all : List (K × ℕ)
  pub reached : walk chunk M along index ≡ some cell
  pub shows : M cell place ≡ stands all
  pub among : In x all

-- Two different reached pairs share the prefix of index i of the hash h.
pub record Shared {K : Type 0} (same : K → K → Bool) (hash : K → ℕ) (chunk : ℕ → ℕ → ℕ) (M : Tree K) (h i : ℕ) : Type 0 where
  pub x : K × ℕ
  pub y : K × ℕ
  pub differ : T (same x.0 y.0) → ⊥
  pub x_held : Held chunk M x
  pub y_held : Held chunk M y
  pub x_agrees : Agree chunk (hash x.0) h i
  pub y_agrees : Agree chunk (hash y.0) h i

-- A reached cell stands for the prefix of index i of the hash h.
abbrev pub Stood : {K : Type 0} → (ℕ → ℕ → ℕ) → Tree K → ℕ → ℕ → Type 0
Stood chunk M h i = (c : ℕ) × (walk chunk M h i ≡ some c)

-- At each index from 1 to 7, a cell stands for a prefix exactly if two different reached pairs share it.
abbrev pub Compact : {K : Type 0} → (K → K → Bool) → (K → ℕ) → (ℕ → ℕ → ℕ) → Tree K → Type 0
Compact same hash chunk M = (h i : ℕ) → 1 ≤ i → i ≤ 7 → Stood chunk M h i ↔ Shared same hash chunk M h i

-- A cell is reached at an index from the root through some chunks, whether they are those of a hash or not.
pub data Reach {K : Type 0} (M : Tree K) : ℕ → ℕ → Type 0 where
  root : Reach M 0 0
  step : (i c q d : ℕ) → Reach M i c → q < 32 → M c q ≡ on d → Reach M (suc i) d
