-- Each thing that a turn may prepare does what it should, said of what the two mains show.
use mathlib.Core.Path.{◌≡◌, refl, sym, ap, ◌∙◌}
use mathlib.Core.Bool.{Bool}
use mathlib.Core.List.{List, [], ◌∷◌}
use mathlib.Core.Option.{Option, none, some}
use mathlib.Core.Logic.{inl, inr, ◌≢◌}
use Prim.Native.Nat.{ℕ, suc}
use native.Mathlib.Omega.{arith}
use native.Mathlib.Decide.{ℕ_discrete}
use lib.Dec.{T}
use Rattle.machine.specs.Tree.{Spot, stands, on, Agree, In, here, Home}
use Rattle.machine.specs.Machine.{put, renew, cutting}
use Rattle.machine.specs.Pairs.{find_pair}
use Rattle.machine.proofs.Walk.{no_some}
use Rattle.machine.proofs.Laws.{Laws}
use Rattle.machine.proofs.Members.{unlike, alike, in_one, find_none}
use Rattle.machine.proofs.Ready.{Spots, Near, Ready}
use Rattle.machine.proofs.Inv.{Does, Same}

module _ {K : Type 0} (same : K → K → Bool) (hash : K → ℕ) (chunk : ℕ → ℕ → ℕ) (laws : Laws same hash) where
  module _ (k : K) (a : ℕ) (F G : ℕ → Spot K) (E : ℕ → ℕ → Spot K)
      (home : (q : ℕ) (ps : List (K × ℕ)) (x : K × ℕ) → F q ≡ stands ps → In x ps → Home hash chunk ⊥ (hash k) a q x) where
    -- The chunk of the key.
    abbrev q₀ : ℕ
    q₀ = chunk (hash k) a

    -- Equal keys have the same chunks.
    like : (l : K) → T (same k l) → (i : ℕ) → chunk (hash l) i ≡ chunk (hash k) i
    like l t i = rw (laws.hashes k l t)

    -- A pair of a branch node stands at its own chunk.
    own_chunk : (q : ℕ) (ps : List (K × ℕ)) (x : K × ℕ) → F q ≡ stands ps → In x ps → chunk (hash x.0) a ≡ q
    own_chunk q ps x e i = elim (home q ps x e i).proper [ inl p ↦ p | inr z ↦ absurd z ]

    -- One spot is set.
    ready_set : (R : K → Option (K × ℕ) → Option (K × ℕ) → Type 0) (Flat : Type 0) (td : Option ℕ) (tomb : Spot K) (qs : List (K × ℕ))
        → G q₀ ≡ stands qs → ((q : ℕ) → q ≢ q₀ → G q ≡ F q) → Spots (F q₀) (G q₀) td tomb (q₀ ≡ q₀) []
        → ((x : K × ℕ) → In x qs → Home hash chunk Flat (hash k) a q₀ x)
        → ((l : K) → ¬ T (same k l) → (x : Option (K × ℕ)) → R l x x)
        → ((l : K) → Near same chunk l (hash l) a (R l) (F q₀) (G q₀) td tomb [] E)
        → Ready same hash chunk R (hash k) a F G Flat td tomb [] E
    ready_set R Flat td tomb qs e other s hs un nr = record {
      chain = λ t e q d x. absurd (no_some x);
      short = λ t e x. absurd (no_some x);
      homes_new = λ t e q ps x y. absurd (no_some y);
      spots = λ q. elim (ℕ_discrete q q₀) [ yes p ↦ rw p s | no p ↦ Spots.as_was (other q p) ];
      homes = λ q ps x p i. elim (ℕ_discrete q q₀) [
        | yes d ↦ let f : ps ≡ qs = cc in rw d (hs x (rw f at i))
        | no d ↦
            let z = home q ps x (sym (other q d) ∙ p) i in
            record { agrees = z.agrees; proper = inl (own_chunk q ps x (sym (other q d) ∙ p) i) }
      ];
      far = λ l na. un l (λ t. na (λ j lt. like l t j));
      near = λ l ag. elim (ℕ_discrete (chunk (hash l) a) q₀) [
        | yes p ↦ rw p (nr l)
        | no p ↦ Near.as_was (other (chunk (hash l) a) p) (un l (λ t. p (like l t a)))
      ];
    }

    -- A put fills an empty chunk.
    pub ready_adds : (v : ℕ) → F q₀ ≡ stands [] → G q₀ ≡ stands ((k, v) ∷ []) → ((q : ℕ) → q ≢ q₀ → G q ≡ F q)
        → Ready same hash chunk (Does same hash chunk (put k v)) (hash k) a F G ⊥ none (on 0) [] E
    unfolding find_pair
    ready_adds v f e other =
        ready_set (Does same hash chunk (put k v)) ⊥ none (on 0) ((k, v) ∷ []) e other (Spots.both [] ((k, v) ∷ []) f e)
        (λ x i. rw (in_one x (k, v) i) (record { agrees = λ j l. refl; proper = inl refl }))
        (λ l f x. unlike (same k l) (some (k, v)) x f)
        (λ l. Near.both [] ((k, v) ∷ []) f e refl)

    -- A put replaces the pair of an equal key.
    pub ready_replaces : (v : ℕ) (x : K × ℕ) → T (same x.0 k) → F q₀ ≡ stands (x ∷ []) → G q₀ ≡ stands ((k, v) ∷ []) → ((q : ℕ) → q ≢ q₀ → G q ≡ F q)
        → Ready same hash chunk (Does same hash chunk (renew k v)) (hash k) a F G ⊥ none (on 0) [] E
    unfolding find_pair
    ready_replaces v x t f e other =
        ready_set (Does same hash chunk (renew k v)) ⊥ none (on 0) ((k, v) ∷ []) e other (Spots.both (x ∷ []) ((k, v) ∷ []) f e)
        (λ y i. rw (in_one y (k, v) i) (record { agrees = λ j l. refl; proper = inl refl }))
        (λ l f x. unlike (same k l) (some (k, v)) x f)
        (λ l. Near.both (x ∷ []) ((k, v) ∷ []) f e (let forth : T (same x.0 l) → T (same k l) = λ s. laws.transitive k x.0 l (laws.symmetric x.0 k t) s in grind arith))

    -- What a cut does to the pair x of an equal key.
    gone : (x : K × ℕ) → T (same x.0 k) → (l : K) → Does same hash chunk (cutting k x.1) l (find_pair same l (x ∷ [])) none
    unfolding find_pair
    gone x t l =
        let forth : T (same x.0 l) → T (same k l) = λ s. laws.transitive k x.0 l (laws.symmetric x.0 k t) s in
        (grind arith, λ s. (x, alike (same x.0 l) (some x) none (laws.transitive x.0 k l t s), refl))

    -- A cut leaves every other key alone.
    far_cut : (v : ℕ) (l : K) → ¬ T (same k l) → (x : Option (K × ℕ)) → Does same hash chunk (cutting k v) l x x
    far_cut v l f x = (unlike (same k l) none x f, λ t. absurd (f t))

    -- A cut empties a chunk.
    pub ready_drops : (x : K × ℕ) → T (same x.0 k) → F q₀ ≡ stands (x ∷ []) → G q₀ ≡ stands [] → ((q : ℕ) → q ≢ q₀ → G q ≡ F q)
        → Ready same hash chunk (Does same hash chunk (cutting k x.1)) (hash k) a F G ⊥ none (on 0) [] E
    unfolding find_pair
    ready_drops x t f e other =
        ready_set (Does same hash chunk (cutting k x.1)) ⊥ none (on 0) [] e other (Spots.both (x ∷ []) [] f e)
        (λ y i. elim i [ ]) (far_cut x.1) (λ l. Near.both (x ∷ []) [] f e (gone x t l))

    -- Pairs at the chunk r say nothing of a key at another chunk.
    silent : (qs : List (K × ℕ)) (r : ℕ) → ((y : K × ℕ) → In y qs → chunk (hash y.0) a ≡ r) → (l : K) → chunk (hash l) a ≢ r → find_pair same l qs ≡ none
    silent qs r own l ne = find_none same l qs (λ y i s. ne (sym (ap (λ h. chunk h a) (laws.hashes y.0 l s)) ∙ own y i))

    -- A cut leaves one pair, which is buried.
    pub ready_entombs : (x y : K × ℕ) (r : ℕ) → T (same x.0 k) → r ≢ q₀ → F q₀ ≡ stands (x ∷ []) → F r ≡ stands (y ∷ [])
        → ((j : ℕ) → j ≢ q₀ → j ≢ r → F j ≡ stands []) → ((q : ℕ) → G q ≡ stands (y ∷ []))
        → Ready same hash chunk (Does same hash chunk (cutting k x.1)) (hash k) a F G (Unit {0}) none (on 0) [] E
    unfolding find_pair
    ready_entombs x y r t ne f fr others g = record {
      chain = λ t e q d x. absurd (no_some x);
      short = λ t e x. absurd (no_some x);
      homes_new = λ t e q ps x y. absurd (no_some y);
      spots = λ q. elim (ℕ_discrete q q₀) [
        | yes p ↦ Spots.both (x ∷ []) (y ∷ []) (rw p f) (g q)
        | no p ↦ elim (ℕ_discrete q r) [
          | yes d ↦ Spots.both (y ∷ []) (y ∷ []) (rw d fr) (g q)
          | no d ↦ Spots.both [] (y ∷ []) (others q p d) (g q)
        ]
      ];
      homes = λ q ps z p i.
          let e = g q in let s : ps ≡ y ∷ [] = cc in
          record { agrees = rw (in_one z y (rw s at i)) (home r (y ∷ []) y fr here).agrees; proper = inr tt };
      far = λ l na. far_cut x.1 l (λ s. na (λ j lt. like l s j));
      near = λ l ag. elim (ℕ_discrete (chunk (hash l) a) q₀) [
        | yes p ↦ Near.both (x ∷ []) (y ∷ []) (rw p f) (g (chunk (hash l) a)) (rw (silent (y ∷ []) r (λ z i. own_chunk r (y ∷ []) z fr i) l (λ z. ne (sym z ∙ p))) (gone x t l))
        | no p ↦ elim (ℕ_discrete (chunk (hash l) a) r) [
          | yes d ↦ Near.both (y ∷ []) (y ∷ []) (rw d fr) (g (chunk (hash l) a)) (far_cut x.1 l (λ s. p (like l s a)) (find_pair same l (y ∷ [])))
          | no d ↦
              Near.both [] (y ∷ []) (others (chunk (hash l) a) p d) (g (chunk (hash l) a))
              (rw (silent (y ∷ []) r (λ z i. own_chunk r (y ∷ []) z fr i) l d) (far_cut x.1 l (λ s. p (like l s a)) none))
        ]
      ];
    }

    -- The cell d gives way to the pairs of its tomb.
    pub ready_contracts : (d : ℕ) (tomb : Spot K) (qs : List (K × ℕ)) → tomb ≡ stands qs → F q₀ ≡ on d → G q₀ ≡ stands qs → ((q : ℕ) → q ≢ q₀ → G q ≡ F q)
        → ((x : K × ℕ) → In x qs → Agree chunk (hash x.0) (hash k) (suc a))
        → Ready same hash chunk (Same same hash chunk) (hash k) a F G ⊥ (some d) tomb [] E
    ready_contracts d tomb qs t f e other ag =
        ready_set (Same same hash chunk) ⊥ (some d) tomb qs e other (Spots.prune d qs refl f t e)
        (λ x i. record { agrees = λ j l. ag x i j (omega arith); proper = inl (ag x i a (omega arith)) })
        (λ l f x. refl) (λ l. Near.prune d qs refl f t e refl)

    -- The cell d is the only branch, and its tomb moves up.
    pub ready_buries : (d : ℕ) (tomb : Spot K) (qs : List (K × ℕ)) → tomb ≡ stands qs → F q₀ ≡ on d → ((j : ℕ) → j ≢ q₀ → F j ≡ stands [])
        → ((q : ℕ) → G q ≡ stands qs) → ((x : K × ℕ) → In x qs → Agree chunk (hash x.0) (hash k) (suc a))
        → Ready same hash chunk (Same same hash chunk) (hash k) a F G (Unit {0}) (some d) tomb [] E
    unfolding find_pair
    ready_buries d tomb qs t f others g ag = record {
      chain = λ t e q d x. absurd (no_some x);
      short = λ t e x. absurd (no_some x);
      homes_new = λ t e q ps x y. absurd (no_some y);
      spots = λ q. elim (ℕ_discrete q q₀) [ yes p ↦ Spots.prune d qs refl (rw p f) t (g q) | no p ↦ Spots.both [] qs (others q p) (g q) ];
      homes = λ q ps x p i. let e = g q in let s : ps ≡ qs = cc in record { agrees = λ j l. ag x (rw s at i) j (omega arith); proper = inr tt };
      far = λ l na x. refl;
      near = λ l _. elim (ℕ_discrete (chunk (hash l) a) q₀) [
        | yes p ↦ Near.prune d qs refl (rw p f) t (g (chunk (hash l) a)) refl
        | no p ↦ Near.both [] qs (others (chunk (hash l) a) p) (g (chunk (hash l) a)) (silent qs q₀ (λ x i. ag x i a (omega arith)) l p)
      ];
    }

  -- A flat main gives way to a flat main.
  pub ready_flat : (R : K → Option (K × ℕ) → Option (K × ℕ) → Type 0) (k : K) (a : ℕ) (F G : ℕ → Spot K) (E : ℕ → ℕ → Spot K) (ps qs : List (K × ℕ))
      → ((q : ℕ) → F q ≡ stands ps) → ((q : ℕ) → G q ≡ stands qs) → ((x : K × ℕ) → In x qs → Agree chunk (hash x.0) (hash k) a)
      → ((l : K) → ¬ T (same k l) → (x : Option (K × ℕ)) → R l x x) → ((l : K) → R l (find_pair same l ps) (find_pair same l qs))
      → Ready same hash chunk R (hash k) a F G (Unit {0}) none (on 0) [] E
  ready_flat R k a F G E ps qs f g ag un nr = record {
    chain = λ t e q d x. absurd (no_some x);
    short = λ t e x. absurd (no_some x);
    homes_new = λ t e q ps x y. absurd (no_some y);
    spots = λ q. Spots.both ps qs (f q) (g q);
    homes = λ q rs x e i. let z = g q in let s : rs ≡ qs = cc in record { agrees = ag x (rw s at i); proper = inr tt };
    far = λ l na. un l (λ t. na (λ j lt. rw (laws.hashes k l t)));
    near = λ l ag. Near.both ps qs (f (chunk (hash l) a)) (g (chunk (hash l) a)) (nr l);
  }
