-- What is reached is what following a hash leads to.
use Rattle.std.proofs.Common.{◌≡◌, ℕ, zero, suc, ◌+◌, ◌*◌, ◌^◌, ◌<◌, Bool, cond, ltb, length, Some, None, Option, sym, refl, ap, ◌∙◌, subst, mod-eq_of_lt, add_comm, arith}
use Rattle.keys.specs.Routes.{chunk_at, prefix_at, Together}
use Rattle.keys.proofs.Chunks.{prefix_by_chunks, prefix_next, chunk_below}
use Rattle.std.proofs.lemmas.Nat.{mul-add-lt, pow-add}
use Rattle.std.proofs.lemmas.Bool.{lt-ltb}
use Rattle.mains.specs.Nodes.{branch_at}
use Rattle.mains.specs.declared.Branch.TheVariants.{Cell as cell}
use Rattle.mains.specs.declared.Main.{Main}
use Rattle.mains.specs.declared.Main.TheVariants.{Node as node, Tomb as tomb, List as listing}
use Rattle.mains.specs.declared.Node.{Node}
use Rattle.rules.specs.Memory.{Memory, then}
use Rattle.rules.specs.Reached.{Reached, StandsFor}
use Rattle.rules.specs.Sanity.{cell_by, cell_below, walk, Followed}
use Rattle.rules.specs.Sound.{sound_in}
use Rattle.rules.proofs.Naming.{then_some, cell_at, at_cell}

-- A prefix with one chunk more.
module _ (prefix q index : ℕ) (small : prefix < 2 ^ (5 * index)) (low : q < 32) where
  pub chunk_there : chunk_at (prefix + q * 2 ^ (5 * index)) index ≡ q
  chunk_there = grind arith

  pub prefix_there : prefix_at (prefix + q * 2 ^ (5 * index)) index ≡ prefix
  prefix_there = grind arith

  pub below_there : prefix + q * 2 ^ (5 * index) < 2 ^ (5 * suc index)
  below_there =
      let w = 2 ^ (5 * index) in
      let e : 5 * suc index ≡ 5 * index + 5 = omega arith in
      let f = ap (λ n. 2 ^ n) e ∙ pow-add 2 (5 * index) 5 in
      let l = mul-add-lt q w prefix 32 low small in
      omega arith

module _ {K : Type 0} (same : K → K → Bool) (hash : K → ℕ) (m : Memory K) where
  -- Hashes with the same chunks lead to the same cell.
  walk_together : (h g index : ℕ) → Together h g 0 index → walk same hash m h index ≡ walk same hash m g index
  unfolding walk
  walk_together h g zero t = refl
  walk_together h g (suc index) t =
      ap (λ o. then o (λ c. cell_below same hash m (sound_in same hash m index c) (chunk_at h index))) (walk_together h g index (λ i l k. t i l (omega arith)))
      ∙ ap (λ q. then (walk same hash m g index) (λ c. cell_below same hash m (sound_in same hash m index c) q)) (t index (omega arith) (omega arith))

  node_above : (o : Option Main) (q d : ℕ) → cell_below same hash m o q ≡ Some d → (n : Node) × (o ≡ Some (node n)) × (branch_at n q ≡ Some (cell d)) × (d < length m.words)
  node_above o q d e = grind arith

  root_inside : (c : ℕ) → cond (ltb 0 (length m.words)) (Some 0) None ≡ Some c → (0 < length m.words) × (0 ≡ c)
  root_inside c e = grind arith

  leads : (index prefix c : ℕ) → StandsFor same hash m index prefix c → (prefix < 2 ^ (5 * index)) × (walk same hash m prefix index ≡ Some c)
  unfolding walk
  leads index prefix c (StandsFor.root l) = (omega arith, let t = lt-ltb 0 (length m.words) l in rw t)
  leads index prefix c (StandsFor.next {index = i} {prefix = p} {c = a} k n e q low d b inside) =
      let before = leads i p a k in
      let small = before.0 in
      let h = p + q * 2 ^ (5 * i) in
      let same_walk =
      walk_together h p i
      ((prefix_by_chunks h p i).chunks (prefix_there p q i small low ∙ sym (mod-eq_of_lt small))) in
      let t = lt-ltb d (length m.words) inside in
      let step : cell_below same hash m (sound_in same hash m i a) (chunk_at h i) ≡ Some d =
      ap (λ o. cell_below same hash m o (chunk_at h i)) e
      ∙ (ap (λ x. cell_by same hash m (branch_at n x)) (chunk_there p q i small low) ∙ (ap (cell_by same hash m) b ∙ ap (λ u. cond u (Some d) None) t)) in (
        below_there p q i small low,
        ap (λ o. then o (λ c. cell_below same hash m (sound_in same hash m i c) (chunk_at h i))) (same_walk ∙ before.1) ∙ step,
      )

  stands : (index h c : ℕ) → walk same hash m h index ≡ Some c → StandsFor same hash m index (prefix_at h index) c
  unfolding walk
  stands zero h c e =
      let k = root_inside c e in
      let p : 0 ≡ prefix_at h 0 = omega arith in
      subst (λ x. StandsFor same hash m 0 (prefix_at h 0) x) k.1 (subst (λ x. StandsFor same hash m 0 x 0) p (StandsFor.root k.0))
  stands (suc index) h d e =
      let found = then_some (walk same hash m h index) (λ c. cell_below same hash m (sound_in same hash m index c) (chunk_at h index)) d e in
      let k = node_above (sound_in same hash m index found.0) (chunk_at h index) d found.2 in
      let p : prefix_at h index + chunk_at h index * 2 ^ (5 * index) ≡ prefix_at h (suc index) =
      add_comm (prefix_at h index) (chunk_at h index * 2 ^ (5 * index)) ∙ sym (prefix_next h index) in
      subst (λ x. StandsFor same hash m (suc index) x d) p
      (StandsFor.next (stands index h found.0 found.1) k.0 k.1 (chunk_at h index) (chunk_below h index) d k.2 k.3)

  reached : (index prefix c : ℕ) → StandsFor same hash m index prefix c → Reached same hash m index c
  reached index prefix c (StandsFor.root l) = Reached.root l
  reached index prefix c (StandsFor.next {index = i} {prefix = p} {c = a} k n e q low d b inside) =
      Reached.next (reached i p a k) (node n) e d (at_cell n d q low b) inside

  prefixed : (index c : ℕ) → Reached same hash m index c → (prefix : ℕ) × StandsFor same hash m index prefix c
  prefixed index c (Reached.root l) = (0, StandsFor.root l)
  prefixed index c (Reached.next {index = i} {c = a} k (node n) e d named inside) =
      let before = prefixed i a k in
      let found = cell_at n d named in
      (before.0 + found.0 * 2 ^ (5 * i), StandsFor.next before.1 n e found.0 found.1 d found.2 inside)
  prefixed index c (Reached.next k (tomb p) e d named inside) = elim named [ ]
  prefixed index c (Reached.next k (listing l) e d named inside) = elim named [ ]

  pub followed : Followed same hash m
  followed = record { leads = leads; stands = stands; reached = reached; prefixed = prefixed }
