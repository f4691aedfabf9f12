-- A swap that may attach a chain of new cells and cut off barren ones: the walks, the prefixes and the homes after it.
use mathlib.Core.Path.{◌≡◌, sym, ◌∙◌}
use mathlib.Core.List.{List}
use mathlib.Core.Option.{some}
use mathlib.Core.Logic.{◌⊎◌, inl, inr, ◌≢◌}
use Prim.Native.Nat.{ℕ, zero, suc, ◌+◌, ◌≤◌}
use native.Mathlib.Omega.{arith}
use native.Mathlib.Decide.{ℕ_discrete}
use Rattle.machine.specs.Tree.{Spot, stands, on, Tree, Agree, walk, Prefixed, In, nth, Barren, Home, Placed}
use Rattle.machine.proofs.Walk.{agree_suc, walk_on, walk_back}

-- N is M after a swap of the cell c at index a along h₀, which attaches the new cells ns.
pub record Graft {K : Type 0} (hash : K → ℕ) (chunk : ℕ → ℕ → ℕ) (M N : Tree K) (h₀ a c : ℕ) (ns : List ℕ) (Dead FlatM FlatN : ℕ → Type 0) : Type 0 where
  pub reached : walk chunk M h₀ a ≡ some c
  pub but : (d : ℕ) → d ≢ c → (q : ℕ) → N d q ≡ M d q
  -- A cell that c names now it named before, or it is the first new one.
  pub named : (q d : ℕ) → N c q ≡ on d → (M c q ≡ on d) ⊎ ((q ≡ chunk h₀ a) × (nth ns 0 ≡ some d))
  -- A cell that c named it still names, or no cell comes after it.
  pub kept : (q d : ℕ) → M c q ≡ on d → (N c q ≡ on d) ⊎ Dead d
  pub barren : (d : ℕ) → Dead d → Barren M d
  pub chain : (t e q d : ℕ) → nth ns t ≡ some e → M e q ≡ on d → (q ≡ chunk h₀ (suc a + t)) × (nth ns (suc t) ≡ some d)
  pub new : (t e h i : ℕ) → nth ns t ≡ some e → walk chunk M h i ≡ some e → ⊥
  pub once : (t u e : ℕ) → nth ns t ≡ some e → nth ns u ≡ some e → t ≡ u
  pub short : (t e : ℕ) → nth ns t ≡ some e → suc a + t ≤ 7
  pub homes : (q : ℕ) (ps : List (K × ℕ)) (x : K × ℕ) → N c q ≡ stands ps → In x ps → Home hash chunk (FlatN c) h₀ a q x
  pub homes_new : (t e q : ℕ) (ps : List (K × ℕ)) (x : K × ℕ) → nth ns t ≡ some e → M e q ≡ stands ps → In x ps
      → Home hash chunk (FlatN e) h₀ (suc a + t) q x
  pub flat : (d : ℕ) → d ≢ c → FlatM d → FlatN d

-- A spot does not show both pairs and a cell.
pub clash : {K : Type 0} {ps : List (K × ℕ)} {d : ℕ} → ◌≡◌ {A = Spot K} (stands ps) (on d) → ⊥
clash e = let z : ◌≡◌ {A = ℕ} 0 1 = cc in omega arith

module _ {K : Type 0} (hash : K → ℕ) (chunk : ℕ → ℕ → ℕ) (M N : Tree K) (h₀ a c : ℕ) (ns : List ℕ) (one : Prefixed chunk M)
    (Dead FlatM FlatN : ℕ → Type 0) (g : Graft hash chunk M N h₀ a c ns Dead FlatM FlatN) where
  -- The cell d is a new one, and its index is told by its place in the chain.
  pub record New (h i d : ℕ) : Type 0 where
    pub place : ℕ
    pub is : nth ns place ≡ some d
    pub index : i ≡ suc a + place
    pub agrees : Agree chunk h h₀ i

  -- A walk of N is a walk of M, or it ends in a new cell.
  pub walked_back : (h i d : ℕ) → walk chunk N h i ≡ some d → (walk chunk M h i ≡ some d) ⊎ New h i d
  unfolding walk
  walked_back h zero d w = inl w
  walked_back h (suc i) d w =
      let b = walk_back chunk N h i d w in
      elim (walked_back h i b.0 b.1) [
        | inl v ↦ elim (ℕ_discrete b.0 c) [
          | no ne ↦ inl (walk_on chunk M h i b.0 d v (sym (g.but b.0 ne (chunk h i)) ∙ b.2))
          | yes e ↦
              let v' : walk chunk M h i ≡ some c = rw e at v in
              elim (g.named (chunk h i) d (rw e at b.2)) [
                | inl x ↦ inl (walk_on chunk M h i c d v' x)
                | inr x ↦
                    let p : i ≡ a = one.index h h₀ i a c v' g.reached in
                    inr (record {
                      place = 0;
                      is = x.1;
                      index = omega arith;
                      agrees = agree_suc chunk h h₀ i (one.chunks h h₀ i a c v' g.reached) (rw p (rw p at x.0));
                    })
              ]
        ]
        | inr v ↦ elim (ℕ_discrete b.0 c) [
          | yes e ↦ absurd (g.new v.place c h₀ a (rw e at v.is) g.reached)
          | no ne ↦
              let f = g.chain v.place b.0 (chunk h i) d v.is (sym (g.but b.0 ne (chunk h i)) ∙ b.2) in
              inr (record {
                place = suc v.place;
                is = f.1;
                index = omega (arith, v.index);
                agrees = agree_suc chunk h h₀ i v.agrees (rw v.index (rw v.index at f.0));
              })
        ]
      ]

  -- A walk of M is a walk of N, or it ends in a cell that was cut off.
  pub walked_on : (h i e : ℕ) → walk chunk M h i ≡ some e → (walk chunk N h i ≡ some e) ⊎ Dead e
  unfolding walk
  walked_on h zero e w = inl w
  walked_on h (suc i) e w =
      let b = walk_back chunk M h i e w in
      elim (walked_on h i b.0 b.1) [
        | inl v ↦ elim (ℕ_discrete b.0 c) [
          | no ne ↦ inl (walk_on chunk N h i b.0 e v (g.but b.0 ne (chunk h i) ∙ b.2))
          | yes p ↦ elim (g.kept (chunk h i) e (rw p at b.2)) [ inl x ↦ inl (walk_on chunk N h i c e (rw p at v) x) | inr x ↦ inr x ]
        ]
        | inr x ↦ absurd (clash (sym (g.barren b.0 x (chunk h i)).1 ∙ b.2))
      ]

  agree_trans : (h x y i : ℕ) → Agree chunk h y i → Agree chunk x y i → Agree chunk h x i
  agree_trans h x y i p q j l = p j l ∙ sym (q j l)

  -- Each cell of N stands for one prefix.
  pub prefixed_graft : Prefixed chunk N
  prefixed_graft = record {
    index = λ h k i j d v w. (both h k i j d (walked_back h i d v) (walked_back k j d w)).0;
    chunks = λ h k i j d v w. (both h k i j d (walked_back h i d v) (walked_back k j d w)).1;
  }
    where
      both : (h k i j d : ℕ) → (walk chunk M h i ≡ some d) ⊎ New h i d → (walk chunk M k j ≡ some d) ⊎ New k j d
          → (i ≡ j) × Agree chunk h k i
      both h k i j d (inl v) (inl w) = (one.index h k i j d v w, one.chunks h k i j d v w)
      both h k i j d (inl v) (inr w) = absurd (g.new w.place d h i w.is v)
      both h k i j d (inr v) (inl w) = absurd (g.new v.place d k j v.is w)
      both h k i j d (inr v) (inr w) =
          let p = g.once v.place w.place d v.is w.is in
          let e : i ≡ j = omega (arith, v.index, w.index) in
          (e, agree_trans h k h₀ i v.agrees (rw e w.agrees))

  -- Every pair of N is at home.
  pub placed_graft : Placed hash chunk M FlatM → Placed hash chunk N FlatN
  placed_graft f h i d q ps x w e m = go (walked_back h i d w) (ℕ_discrete d c)
    where
      go : (walk chunk M h i ≡ some d) ⊎ New h i d → Dec (d ≡ c) → Home hash chunk (FlatN d) h i q x
      go (inl v) (no ne) =
          let z = f h i d q ps x v (sym (g.but d ne q) ∙ e) m in
          record { agrees = z.agrees; proper = elim z.proper [ inl y ↦ inl y | inr y ↦ inr (g.flat d ne y) ] }
      go (inl v) (yes p) =
          let v' : walk chunk M h i ≡ some c = rw p at v in
          let ia : i ≡ a = one.index h h₀ i a c v' g.reached in
          let z = g.homes q ps x (rw p at e) m in
          record {
            agrees = agree_trans (hash x.0) h h₀ i (rw ia z.agrees) (one.chunks h h₀ i a c v' g.reached);
            proper = rw (p, ia) z.proper;
          }
      go (inr v) (yes p) = absurd (g.new v.place c h₀ a (rw p at v.is) g.reached)
      go (inr v) (no ne) =
          let z = g.homes_new v.place d q ps x v.is (sym (g.but d ne q) ∙ e) m in
          record { agrees = agree_trans (hash x.0) h h₀ i (rw v.index z.agrees) v.agrees; proper = rw v.index z.proper }
