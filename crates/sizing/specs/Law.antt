-- What the figures mean, in the words of tables and keys.
use Rattle.std.specs.Prelude.{◌≡◌, ℕ, ◌+◌, ◌≤◌, Bool, true, false, List, [], ◌∷◌, length}
use mathlib.Core.List.{Memᴰ}
use Rattle.keys.specs.Routes.{prefix_at}
use Rattle.sizing.specs.declared.Capacity.{Capacity}

-- No element stands in the list twice.
abbrev pub Once : {A : Type 0} → List A → Type 0
Once [] = Unit {0}
Once (x ∷ xs) = (Memᴰ x xs → ⊥) × Once xs

module _ {K : Type 0} (same : K → K → Bool) where
  -- No two keys of the list are equal.
  abbrev pub Apart : List K → Type 0
  Apart [] = Unit {0}
  Apart (k ∷ ks) = ((other : K) → Memᴰ other ks → same k other ≡ false) × Apart ks

  -- The pairs that keys need: one for each, of equal keys one.
  pub record Chosen (ks chosen : List K) : Type 0 where
    pub from : (k : K) → Memᴰ k chosen → Memᴰ k ks
    pub each : (k : K) → Memᴰ k ks → (one : K) × Memᴰ one chosen × (same one k ≡ true)
    pub apart : Apart chosen

module _ {K : Type 0} (same : K → K → Bool) (hash : K → ℕ) (ks : List K) where
  -- Two different keys share this prefix of this index.
  pub record Shared (index prefix : ℕ) : Type 0 where
    pub one : K
    pub other : K
    pub one_in : Memᴰ one ks
    pub other_in : Memᴰ other ks
    pub unequal : same one other ≡ false
    pub one_has : prefix_at (hash one) index ≡ prefix
    pub other_has : prefix_at (hash other) index ≡ prefix

  -- The cells below the root: for each index from 1 to 7 the prefixes that two different keys share.
  pub record Cells (below : List (ℕ × ℕ)) : Type 0 where
    pub once : Once below
    pub shared : (index prefix : ℕ) → Memᴰ (index, prefix) below → (1 ≤ index) × (index ≤ 7) × Shared index prefix
    pub all : (index prefix : ℕ) → 1 ≤ index → index ≤ 7 → Shared index prefix → Memᴰ (index, prefix) below

  -- The figures count such pairs, and the root with such cells.
  pub record Counts (figures : Capacity) : Type 0 where
    pub chosen : List K
    pub chooses : Chosen same ks chosen
    pub pairs : figures.pairs ≡ length chosen
    pub below : List (ℕ × ℕ)
    pub are : Cells below
    pub cells : figures.cells ≡ 1 + length below
