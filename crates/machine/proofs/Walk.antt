-- Walks and lookups: what they rest on, and that a swap of one cell leaves all others as they were.
use mathlib.Core.Path.{◌≡◌, refl, ◌∙◌}
use mathlib.Core.Bool.{Bool}
use mathlib.Core.List.{List}
use mathlib.Core.Option.{none, some}
use mathlib.Core.Logic.{◌≢◌}
use Prim.Native.Nat.{ℕ, zero, suc, ◌+◌, ◌-◌, ◌<◌, ◌≤◌}
use native.Mathlib.Omega.{arith}
use native.Mathlib.Decide.{ℕ_discrete}
use Rattle.machine.specs.Tree.{stands, on, Tree, Agree, walk, Prefixed}
use Rattle.machine.specs.Pairs.{find_pair, seek_pair, lookup_pair}

pub no_some : {A : Type 0} {x : A} → none ≡ some x → ⊥
no_some e = let w : ◌≡◌ {A = ℕ} 0 1 = cc in omega arith

pub some_is : {A : Type 0} {x y : A} → some x ≡ some y → x ≡ y
some_is e = cc

-- Hashes that agree before an index and at it agree before the next.
pub agree_suc : (chunk : ℕ → ℕ → ℕ) (h g i : ℕ) → Agree chunk h g i → chunk h i ≡ chunk g i → Agree chunk h g (suc i)
agree_suc chunk h g i ag e j l = elim (ℕ_discrete j i) [ yes p ↦ rw p e | no p ↦ ag j (omega arith) ]

-- The cell at index n is the same where the cells before it show the same along the hash.
pub walk_frame : {K : Type 0} (chunk : ℕ → ℕ → ℕ) (M N : Tree K) (h n : ℕ)
    → ((j c : ℕ) → j < n → walk chunk M h j ≡ some c → N c (chunk h j) ≡ M c (chunk h j))
    → walk chunk N h n ≡ walk chunk M h n
unfolding walk
walk_frame chunk M N h zero f = refl
walk_frame chunk M N h (suc n) f = rw (walk_frame chunk M N h n (λ j c l e. f j c (omega arith) e)) (let g = f n in grind arith)

-- One more step of a walk.
pub walk_on : {K : Type 0} (chunk : ℕ → ℕ → ℕ) (M : Tree K) (h i c d : ℕ)
    → walk chunk M h i ≡ some c → M c (chunk h i) ≡ on d → walk chunk M h (suc i) ≡ some d
unfolding walk
walk_on chunk M h i c d e f = rw (e, f)

-- A walk begins at the root.
pub root_is : {K : Type 0} (chunk : ℕ → ℕ → ℕ) (M : Tree K) (h c : ℕ) → walk chunk M h 0 ≡ some c → 0 ≡ c
unfolding walk
root_is chunk M h c w = cc

-- The step back: a cell at a later index has a cell before it that names it.
pub walk_back : {K : Type 0} (chunk : ℕ → ℕ → ℕ) (M : Tree K) (h i d : ℕ)
    → walk chunk M h (suc i) ≡ some d → (c : ℕ) × (walk chunk M h i ≡ some c) × (M c (chunk h i) ≡ on d)
unfolding walk
walk_back chunk M h i d e = grind arith

-- Hashes that agree walk alike.
pub walk_agree : {K : Type 0} (chunk : ℕ → ℕ → ℕ) (M : Tree K) (h g n : ℕ) → Agree chunk h g n → walk chunk M h n ≡ walk chunk M g n
unfolding walk
walk_agree chunk M h g zero a = refl
walk_agree chunk M h g (suc n) a = rw (walk_agree chunk M h g n (λ j l. a j (omega arith)), a n (omega arith))

-- Agreement is decided.
pub agree? : (chunk : ℕ → ℕ → ℕ) (h g n : ℕ) → Dec (Agree chunk h g n)
agree? chunk h g zero = yes (λ j l. absurd (omega arith))
agree? chunk h g (suc n) = elim (agree? chunk h g n) [
  | yes a ↦ elim (ℕ_discrete (chunk h n) (chunk g n)) [ yes e ↦ yes (agree_suc chunk h g n a e) | no e ↦ no (λ f. e (f n (omega arith))) ]
  | no a ↦ no (λ f. a (λ j l. f j (omega arith)))
]

module _ {K : Type 0} (same : K → K → Bool) (hash : K → ℕ) (chunk : ℕ → ℕ → ℕ) where
  -- The search from a cell is the same where the cells from it on show the same along the hash.
  pub seek_frame : (M N : Tree K) (k : K) (n i c : ℕ) → walk chunk M (hash k) i ≡ some c
      → ((j d : ℕ) → i ≤ j → walk chunk M (hash k) j ≡ some d → N d (chunk (hash k) j) ≡ M d (chunk (hash k) j))
      → seek_pair same hash chunk N k n i c ≡ seek_pair same hash chunk M k n i c
  unfolding seek_pair
  seek_frame M N k zero i c w f = rw (f i c (omega arith) w)
  seek_frame M N k (suc n) i c w f =
      rw (f i c (omega arith) w)
      (let h = λ (d : ℕ) (e : M c (chunk (hash k) i) ≡ on d). seek_frame M N k n (suc i) d (walk_on chunk M (hash k) i c d w e) (λ j d l. f j d (omega arith)) in grind arith)

  -- A search goes on in the cell that is named.
  pub seek_on : (M : Tree K) (k : K) (n i c d : ℕ) → M c (chunk (hash k) i) ≡ on d
      → seek_pair same hash chunk M k (suc n) i c ≡ seek_pair same hash chunk M k n (suc i) d
  unfolding seek_pair
  seek_on M k n i c d e = rw e

  -- A search ends where pairs stand.
  pub seek_at : (M : Tree K) (k : K) (n i c : ℕ) (ps : List (K × ℕ)) → M c (chunk (hash k) i) ≡ stands ps
      → seek_pair same hash chunk M k n i c ≡ find_pair same k ps
  unfolding seek_pair
  seek_at M k zero i c ps e = rw e
  seek_at M k (suc n) i c ps e = rw e

  -- A search from the root comes to each cell of the walk.
  seek_walk : (M : Tree K) (k : K) (n m i c : ℕ) → n ≡ i + m → walk chunk M (hash k) i ≡ some c
      → seek_pair same hash chunk M k n 0 0 ≡ seek_pair same hash chunk M k m i c
  seek_walk M k n m zero c e w = let p : 0 ≡ c = root_is chunk M (hash k) c w in let q : n ≡ m = omega arith in rw (← p, q)
  seek_walk M k n m (suc i) c e w =
      let b = walk_back chunk M (hash k) i c w in
      seek_walk M k n (suc m) i b.0 (omega arith) b.1 ∙ seek_on M k m i b.0 c b.2

  -- So does a lookup.
  pub lookup_walk : (M : Tree K) (k : K) (i c : ℕ) → i ≤ 7 → walk chunk M (hash k) i ≡ some c
      → lookup_pair same hash chunk M k ≡ seek_pair same hash chunk M k (7 - i) i c
  unfolding lookup_pair
  lookup_walk M k i c l w = seek_walk M k 7 (7 - i) i c (omega arith) w

  -- From here on N is M but for the cell c, which M reaches at index a along h₀.
  module _ (M N : Tree K) (one : Prefixed chunk M) (h₀ a c : ℕ) (reached : walk chunk M h₀ a ≡ some c)
      (but : (d : ℕ) → d ≢ c → (q : ℕ) → N d q ≡ M d q) where
    -- A hash that does not agree with h₀ before index a walks past c.
    apart : (h : ℕ) → ¬ Agree chunk h h₀ a → (j d : ℕ) → walk chunk M h j ≡ some d → d ≢ c
    apart h na j d w e =
        let w' : walk chunk M h j ≡ some c = rw e at w in
        let ij : j ≡ a = one.index h h₀ j a c w' reached in
        na (rw ij at (one.chunks h h₀ j a c w' reached))

    -- So does every hash at any other index.
    other_index : (h : ℕ) (j d : ℕ) → j ≢ a → walk chunk M h j ≡ some d → d ≢ c
    other_index h j d ne w e = ne (one.index h h₀ j a c (rw e at w) reached)

    -- Up to index a all walks are as before.
    pub swap_walk_before : (h n : ℕ) → n ≤ a → walk chunk N h n ≡ walk chunk M h n
    swap_walk_before h n l = walk_frame chunk M N h n (λ j d l' w. but d (other_index h j d (omega arith) w) (chunk h j))

    -- A hash that agrees still leads to c.
    pub swap_walk_here : (h : ℕ) → Agree chunk h h₀ a → walk chunk N h a ≡ some c
    swap_walk_here h ag = swap_walk_before h a (omega arith) ∙ walk_agree chunk M h h₀ a ag ∙ reached

    -- The lookup of a key whose hash does not agree is as before.
    pub swap_lookup_apart : (k : K) → ¬ Agree chunk (hash k) h₀ a → lookup_pair same hash chunk N k ≡ lookup_pair same hash chunk M k
    unfolding lookup_pair walk
    swap_lookup_apart k na = seek_frame M N k 7 0 0 refl (λ j d l w. but d (apart (hash k) na j d w) (chunk (hash k) j))

    -- So is that of a key at whose chunk c shows the same.
    pub swap_lookup_kept : (k : K) → N c (chunk (hash k) a) ≡ M c (chunk (hash k) a) → lookup_pair same hash chunk N k ≡ lookup_pair same hash chunk M k
    unfolding lookup_pair walk
    swap_lookup_kept k kept = seek_frame M N k 7 0 0 refl (λ j d l w. elim (ℕ_discrete d c) [
      | yes q ↦ elim (ℕ_discrete j a) [ yes p ↦ rw (p, q) kept | no p ↦ but d (other_index (hash k) j d p w) (chunk (hash k) j) ]
      | no q ↦ but d q (chunk (hash k) j)
    ])
