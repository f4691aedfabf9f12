-- The tree as a function: what stands in a cell at a chunk, the walk along a hash, and the lookup of a key.
use Rattle.std.specs.Prelude.{◌≡◌, Bool, cond, List, [], ◌∷◌, ◌⊎◌, ℕ, zero, suc, ◌<◌, T}
use Rattle.std.proofs.Math.Option.{Option, none, some}

-- What stands in a cell at a chunk: pairs (none, one, or those of a list), or the next cell.
pub data Spot (K : Type 0) : Type 0 where
  stands : List (K × ℕ) → Spot K
  on : ℕ → Spot K

-- A tree says what stands in each cell at each chunk.
abbrev pub Tree : Type 0 → Type 0
Tree K = ℕ → ℕ → Spot K

-- The next cell at a spot, if one is there.
abbrev pub kid : {K : Type 0} → Spot K → Option ℕ
kid (stands ps) = none
kid (on c) = some c

-- The next cell from a cell at the chunk q, if there is one.
abbrev pub into : {K : Type 0} → Tree K → Option ℕ → ℕ → Option ℕ
into M none q = none
into M (some c) q = kid (M c q)

-- Two hashes have the same chunks at each index before i.
abbrev pub Agree : (ℕ → ℕ → ℕ) → ℕ → ℕ → ℕ → Type 0
Agree chunk h g i = (j : ℕ) → j < i → chunk h j ≡ chunk g j

-- The cell reached at index i along the hash h, from the root, which is cell 0.
unfoldable pub walk : {K : Type 0} → (ℕ → ℕ → ℕ) → Tree K → ℕ → ℕ → Option ℕ
walk chunk M h zero = some 0
walk chunk M h (suc i) = into M (walk chunk M h i) (chunk h i)

-- The value of the first pair of an equal key.
unfoldable pub find : {K : Type 0} → (K → K → Bool) → K → List (K × ℕ) → Option ℕ
find same k [] = none
find same k (p ∷ ps) = cond (same p.0 k) (some p.1) (find same k ps)

-- The answer at a spot: what its pairs say, or what comes of the next cell.
abbrev pub answer : {K : Type 0} → (K → K → Bool) → K → Spot K → (ℕ → Option ℕ) → Option ℕ
answer same k (stands ps) f = find same k ps
answer same k (on c) f = f c

module _ {K : Type 0} (same : K → K → Bool) (hash : K → ℕ) (chunk : ℕ → ℕ → ℕ) where
  -- The value under the key k from the cell c at index i on, with n more indexes to go.
  unfoldable pub seek : Tree K → K → ℕ → ℕ → ℕ → Option ℕ
  seek M k zero i c = answer same k (M c (chunk (hash k) i)) (λ d. none)
  seek M k (suc n) i c = answer same k (M c (chunk (hash k) i)) (λ d. seek M k n (suc i) d)

  -- The value under a key, from the root on; index 7 is the last.
  unfoldable pub lookup : Tree K → K → Option ℕ
  lookup M k = seek M k 7 0 0

-- A reached cell stands for one prefix: it has one index, and all hashes that lead to it have the same chunks before that index.
pub record Prefixed {K : Type 0} (chunk : ℕ → ℕ → ℕ) (M : Tree K) : Type 0 where
  pub index : (h g i j c : ℕ) → walk chunk M h i ≡ some c → walk chunk M g j ≡ some c → i ≡ j
  pub chunks : (h g i j c : ℕ) → walk chunk M h i ≡ some c → walk chunk M g j ≡ some c → Agree chunk h g i

-- A list has a member.
pub data In {A : Type 0} (x : A) : List A → Type 0 where
  here : {xs : List A} → In x (x ∷ xs)
  later : {y : A} {xs : List A} → In x xs → In x (y ∷ xs)

-- The member of a list at a place, if the list is that long.
abbrev pub nth : {A : Type 0} → List A → ℕ → Option A
nth [] n = none
nth (x ∷ xs) zero = some x
nth (x ∷ xs) (suc n) = nth xs n

-- The same stands at every chunk.
abbrev pub Level : {K : Type 0} → (ℕ → Spot K) → Type 0
Level F = (q r : ℕ) → F q ≡ F r

-- No cell comes after the cell e.
abbrev pub Barren : {K : Type 0} → Tree K → ℕ → Type 0
Barren {K} M e = (q : ℕ) → (ps : List (K × ℕ)) × (M e q ≡ stands ps)

-- A pair has the prefix of its cell, and stands at its own chunk there, unless the cell is flat: the same at every chunk.
pub record Home {K : Type 0} (hash : K → ℕ) (chunk : ℕ → ℕ → ℕ) (Flat : Type 0) (h i q : ℕ) (x : K × ℕ) : Type 0 where
  pub agrees : Agree chunk (hash x.0) h i
  pub proper : (chunk (hash x.0) i ≡ q) ⊎ Flat

-- Every reached pair is at home in its cell.
abbrev pub Placed : {K : Type 0} → (K → ℕ) → (ℕ → ℕ → ℕ) → Tree K → (ℕ → Type 0) → Type 0
Placed {K} hash chunk M Flat =
    (h i c q : ℕ) (ps : List (K × ℕ)) (x : K × ℕ) → walk chunk M h i ≡ some c → M c q ≡ stands ps → In x ps → Home hash chunk (Flat c) h i q x

-- No two pairs have equal keys.
abbrev pub NoTwice : {K : Type 0} → (K → K → Bool) → List (K × ℕ) → Type 0
NoTwice same [] = Unit {0}
NoTwice {K} same (x ∷ xs) = ((y : K × ℕ) → In y xs → T (same x.0 y.0) → ⊥) × NoTwice same xs
