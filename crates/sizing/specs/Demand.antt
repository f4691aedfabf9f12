-- How many pairs and cells a table at rest with given keys needs.
use Rattle.std.specs.Prelude.{ℕ, zero, suc, ◌+◌, Bool, false, cond, ◌&&◌, ◌||◌, List, [], ◌∷◌, ◌++◌, map, length, Ok, Err, fold, codes, decimal, Result, ◌==◌, nat_le}
use Rattle.keys.specs.Routes.{prefix_at}
use Rattle.panel.specs.declared.Refusal.{Refusal}
use Rattle.panel.specs.declared.Refusal.TheVariants.{FigureOutOfLimits}
use Rattle.sizing.specs.declared.Capacity.{Capacity}

-- Whether a list holds a key equal to this one.
abbrev pub holds : {K : Type 0} → (K → K → Bool) → List K → K → Bool
holds same [] key = false
holds same (k ∷ ks) key = same k key || holds same ks key

-- One key more at the end, unless an equal one is there.
abbrev pub with_key : {K : Type 0} → (K → K → Bool) → List K → K → List K
with_key same ks key = cond (holds same ks key) ks (ks ++ (key ∷ []))

-- The different keys of a list, in the order in which they first come.
unfoldable pub different : {K : Type 0} → (K → K → Bool) → List K → List K
different same ks = fold (with_key same) [] ks

-- How often a number stands in a list.
abbrev pub occurrences : ℕ → List ℕ → ℕ
occurrences n [] = 0
occurrences n (x ∷ xs) = cond (x == n) 1 0 + occurrences n xs

-- The numbers that stand in a list more than once, each of them once: where just one more is to come.
abbrev pub repeats : List ℕ → List ℕ
repeats [] = []
repeats (x ∷ xs) = cond (occurrences x xs == 1) (x ∷ repeats xs) (repeats xs)

-- The prefixes of an index that two or more of some hashes have.
abbrev pub shared_prefixes : List ℕ → ℕ → List ℕ
shared_prefixes hashes index = repeats (map (λ h. prefix_at h index) hashes)

-- The sum over the indices 1 to n.
abbrev pub summed : (ℕ → ℕ) → ℕ → ℕ
summed f zero = 0
summed f (suc n) = summed f n + f (suc n)

-- The cells for different keys with these hashes: the root, and one for each shared prefix of index 1 to 7.
unfoldable pub cells_for : List ℕ → ℕ
cells_for hashes = 1 + summed (λ index. length (shared_prefixes hashes index)) 7

-- The figures for a list of keys.
abbrev pub capacity_of : {K : Type 0} → (K → K → Bool) → (K → ℕ) → List K → Capacity
capacity_of same hash ks = record { pairs = length (different same ks); cells = cells_for (map hash (different same ks)) }

-- The figures, if a table may be so large: at most 16,384 pairs and 4,096 cells.
abbrev pub within_limits_of : Capacity → Result Capacity Refusal
within_limits_of c = cond (nat_le c.pairs 16384 && nat_le c.cells 4096) (Ok c) (Err FigureOutOfLimits)

-- The figures as they are printed.
abbrev pub figures_text : Capacity → List ℕ
figures_text c = codes "pairs=" ++ (decimal c.pairs ++ (codes " cells=" ++ decimal c.cells))
