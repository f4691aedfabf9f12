-- What a swap of one cell does to the lookups of all keys.
use mathlib.Core.Path.{◌≡◌, ◌∙◌}
use mathlib.Core.Bool.{Bool}
use mathlib.Core.List.{List}
use mathlib.Core.Option.{Option, some}
use mathlib.Core.Logic.{◌≢◌}
use Prim.Native.Nat.{ℕ, zero, suc, ◌+◌, ◌-◌, ◌≤◌}
use native.Mathlib.Omega.{arith}
use Rattle.machine.specs.Tree.{stands, on, Tree, Agree, walk, Prefixed}
use Rattle.machine.specs.Pairs.{find_pair, seek_pair, lookup_pair}
use Rattle.machine.proofs.Walk.{walk_agree, agree?, seek_at, seek_on, lookup_walk, swap_walk_here, swap_lookup_apart, swap_lookup_kept}

-- Along the hash h from the cell c at index a stand in the end the pairs ps.
pub data Ends {K : Type 0} (chunk : ℕ → ℕ → ℕ) (M : Tree K) (h : ℕ) (ps : List (K × ℕ)) : ℕ → ℕ → Type 0 where
  stop : {c a : ℕ} → a ≤ 7 → M c (chunk h a) ≡ stands ps → Ends chunk M h ps c a
  more : {c a : ℕ} (d : ℕ) → M c (chunk h a) ≡ on d → Ends chunk M h ps d (suc a) → Ends chunk M h ps c a

-- What a swap at c does to one key: nothing, or it changes the pairs where its search ends.
pub data Local {K : Type 0} (same : K → K → Bool) (hash : K → ℕ) (chunk : ℕ → ℕ → ℕ) (M N : Tree K) (c a : ℕ) (k : K)
    (R : Option (K × ℕ) → Option (K × ℕ) → Type 0) : Type 0 where
  kept : N c (chunk (hash k) a) ≡ M c (chunk (hash k) a) → ((x : Option (K × ℕ)) → R x x) → Local same hash chunk M N c a k R
  changed : (ps qs : List (K × ℕ)) → Ends chunk M (hash k) ps c a → Ends chunk N (hash k) qs c a → R (find_pair same k ps) (find_pair same k qs)
      → Local same hash chunk M N c a k R

-- The search ends at index 7 at the latest.
pub ends_below : {K : Type 0} {chunk : ℕ → ℕ → ℕ} {M : Tree K} {h : ℕ} {ps : List (K × ℕ)} {c a : ℕ} → Ends chunk M h ps c a → a ≤ 7
ends_below (stop l e) = l
ends_below (more d e x) = let l = ends_below x in omega arith

module _ {K : Type 0} (same : K → K → Bool) (hash : K → ℕ) (chunk : ℕ → ℕ → ℕ) where
  -- A search says what the pairs say where it ends.
  seek_ends : (M : Tree K) (k : K) (ps : List (K × ℕ)) (c a n : ℕ) → Ends chunk M (hash k) ps c a → n + a ≡ 7
      → seek_pair same hash chunk M k n a c ≡ find_pair same k ps
  seek_ends M k ps c a n (stop l e) s = seek_at same hash chunk M k n a c ps e
  seek_ends M k ps c a zero (more d e x) s = let l = ends_below x in absurd (omega arith)
  seek_ends M k ps c a (suc n) (more d e x) s =
      seek_on same hash chunk M k n a c d e ∙ seek_ends M k ps d (suc a) n x (omega arith)

  -- So does a lookup.
  pub lookup_ends : (M : Tree K) (k : K) (ps : List (K × ℕ)) (c a : ℕ) → walk chunk M (hash k) a ≡ some c → Ends chunk M (hash k) ps c a
      → lookup_pair same hash chunk M k ≡ find_pair same k ps
  lookup_ends M k ps c a w x =
      let l = ends_below x in
      lookup_walk same hash chunk M k a c l w ∙ seek_ends M k ps c a (7 - a) x (omega arith)

  module _ (M N : Tree K) (one : Prefixed chunk M) (h₀ a c : ℕ) (reached : walk chunk M h₀ a ≡ some c)
      (but : (d : ℕ) → d ≢ c → (q : ℕ) → N d q ≡ M d q) where
    -- A relation between the lookups before and after holds of every key, if it holds where the swap can be felt.
    pub swap_effect : (R : K → Option (K × ℕ) → Option (K × ℕ) → Type 0)
        → ((k : K) → ¬ Agree chunk (hash k) h₀ a → (x : Option (K × ℕ)) → R k x x)
        → ((k : K) → Agree chunk (hash k) h₀ a → Local same hash chunk M N c a k (R k))
        → (k : K) → R k (lookup_pair same hash chunk M k) (lookup_pair same hash chunk N k)
    swap_effect R far near k = elim (agree? chunk (hash k) h₀ a) [
      | yes ag ↦ elim (near k ag) [
        | kept e r ↦ rw (swap_lookup_kept same hash chunk M N one h₀ a c reached but k e) (r (lookup_pair same hash chunk M k))
        | changed ps qs x y r ↦
            rw (
              lookup_ends M k ps c a (walk_agree chunk M (hash k) h₀ a ag ∙ reached) x,
              lookup_ends N k qs c a (swap_walk_here same hash chunk M N one h₀ a c reached but (hash k) ag) y,
            )
            r
      ]
      | no na ↦ rw (swap_lookup_apart same hash chunk M N one h₀ a c reached but k na) (far k na (lookup_pair same hash chunk M k))
    ]

-- Where every walk was a walk before, each cell still stands for one prefix.
pub prefixed_shrink : {K : Type 0} (chunk : ℕ → ℕ → ℕ) (M N : Tree K)
    → ((h i d : ℕ) → walk chunk N h i ≡ some d → walk chunk M h i ≡ some d) → Prefixed chunk M → Prefixed chunk N
prefixed_shrink chunk M N f one = record {
  index = λ h g i j c v w. one.index h g i j c (f h i c v) (f g j c w);
  chunks = λ h g i j c v w. one.chunks h g i j c (f h i c v) (f g j c w);
}
