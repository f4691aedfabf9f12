-- Reached through some chunks is reached along a hash.
use mathlib.Core.Path.{◌≡◌, refl, ◌∙◌, subst}
use mathlib.Core.Option.{some}
use Prim.Native.Nat.{ℕ, zero, suc}
use Rattle.machine.specs.Tree.{Tree, walk}
use Rattle.machine.proofs.Walk.{walk_on, walk_back, walk_agree, root_is}
use Rattle.machine.specs.Rest.{Reach}
use Rattle.machine.proofs.Chunk.{Chunks}

module _ {K : Type 0} (chunk : ℕ → ℕ → ℕ) (chunks : Chunks chunk) (M : Tree K) where
  pub reach_walk : {i c : ℕ} → Reach M i c → (h : ℕ) × (walk chunk M h i ≡ some c)
  unfolding walk
  reach_walk (Reach.root) = (0, refl)
  reach_walk (Reach.step i c q d r l e) =
      let w = reach_walk r in
      let g = chunks.turn w.0 i q l in
      (g.0, walk_on chunk M g.0 i c d (walk_agree chunk M g.0 w.0 i g.1 ∙ w.1) (rw g.2 e))

  pub walk_reach : (h i c : ℕ) → walk chunk M h i ≡ some c → Reach M i c
  walk_reach h zero c w = subst (λ (d : ℕ). Reach M 0 d) (root_is chunk M h c w) Reach.root
  walk_reach h (suc i) c w =
      let b = walk_back chunk M h i c w in
      Reach.step i b.0 (chunk h i) c (walk_reach h i b.0 b.1) (chunks.small h i) b.2
