-- What a prepared swap will do, said of what the two mains show; and that it then does it to the tree.
use mathlib.Core.Path.{◌≡◌, sym, ap, ◌∙◌}
use mathlib.Core.Bool.{Bool}
use mathlib.Core.List.{List}
use mathlib.Core.Option.{Option, some}
use mathlib.Core.Logic.{◌⊎◌, inl, inr, ◌≢◌}
use Prim.Native.Nat.{ℕ, suc, ◌+◌, ◌≤◌}
use native.Mathlib.Omega.{arith}
use Rattle.machine.specs.Tree.{Level, Spot, stands, on, Tree, Agree, walk, Prefixed, In, nth, Home, Placed}
use Rattle.machine.specs.Pairs.{find_pair, lookup_pair}
use Rattle.machine.proofs.Walk.{walk_on, walk_agree}
use Rattle.machine.proofs.Effect.{Ends, stop, more, kept, changed, swap_effect}
use Rattle.machine.proofs.Graft.{Graft, walked_back, walked_on, prefixed_graft, placed_graft}

-- One spot before and after: as it was; pairs for pairs; the pairs of a tomb for the cell d that held it; or a new cell for pairs.
pub data Spots {K : Type 0} (F G : Spot K) (td : Option ℕ) (tomb : Spot K) (At : Type 0) (cells : List ℕ) : Type 0 where
  as_was : G ≡ F → Spots F G td tomb At cells
  both : (ps qs : List (K × ℕ)) → F ≡ stands ps → G ≡ stands qs → Spots F G td tomb At cells
  prune : (d : ℕ) (ps : List (K × ℕ)) → td ≡ some d → F ≡ on d → tomb ≡ stands ps → G ≡ stands ps → Spots F G td tomb At cells
  graft : (d : ℕ) (ps : List (K × ℕ)) → At → nth cells 0 ≡ some d → F ≡ stands ps → G ≡ on d → Spots F G td tomb At cells

-- Along the hash h from the new cell at place t, at index i, stand in the end the pairs qs.
pub data Leads {K : Type 0} (chunk : ℕ → ℕ → ℕ) (h : ℕ) (cells : List ℕ) (E : ℕ → ℕ → Spot K) (qs : List (K × ℕ)) : ℕ → ℕ → Type 0 where
  stops : {t i : ℕ} → i ≤ 7 → E t (chunk h i) ≡ stands qs → Leads chunk h cells E qs t i
  leads : {t i : ℕ} (d : ℕ) → E t (chunk h i) ≡ on d → nth cells (suc t) ≡ some d → Leads chunk h cells E qs (suc t) (suc i) → Leads chunk h cells E qs t i

-- The same of a spot, and of what a key l finds there before and after.
pub data Near {K : Type 0} (same : K → K → Bool) (chunk : ℕ → ℕ → ℕ) (l : K) (h a : ℕ) (R : Option (K × ℕ) → Option (K × ℕ) → Type 0) (F G : Spot K) (td : Option ℕ) (tomb : Spot K) (cells : List ℕ) (E : ℕ → ℕ → Spot K) : Type 0 where
  as_was : G ≡ F → ((x : Option (K × ℕ)) → R x x) → Near same chunk l h a R F G td tomb cells E
  both : (ps qs : List (K × ℕ)) → F ≡ stands ps → G ≡ stands qs → R (find_pair same l ps) (find_pair same l qs) → Near same chunk l h a R F G td tomb cells E
  prune : (d : ℕ) (ps : List (K × ℕ)) → td ≡ some d → F ≡ on d → tomb ≡ stands ps → G ≡ stands ps → R (find_pair same l ps) (find_pair same l ps) → Near same chunk l h a R F G td tomb cells E
  graft : (d : ℕ) (ps qs : List (K × ℕ)) → F ≡ stands ps → G ≡ on d → nth cells 0 ≡ some d → Leads chunk h cells E qs 0 (suc a) → R (find_pair same l ps) (find_pair same l qs)
      → Near same chunk l h a R F G td tomb cells E

-- The chunk q is the chunk r.
abbrev pub Place : ℕ → ℕ → Type 0
Place q r = q ≡ r

-- A swap from F to G at index a along h will do R to every key's lookup. It may cut off the cell td, which holds a tomb,
-- and attach the new cells, which show E.
pub record Ready {K : Type 0} (same : K → K → Bool) (hash : K → ℕ) (chunk : ℕ → ℕ → ℕ) (R : K → Option (K × ℕ) → Option (K × ℕ) → Type 0) (h a : ℕ)
    (F G : ℕ → Spot K) (Flat : Type 0) (td : Option ℕ) (tomb : Spot K) (cells : List ℕ) (E : ℕ → ℕ → Spot K) : Type 0 where
  pub spots : (q : ℕ) → Spots (F q) (G q) td tomb (Place q (chunk h a)) cells
  pub chain : (t e q d : ℕ) → nth cells t ≡ some e → E t q ≡ on d → (q ≡ chunk h (suc a + t)) × (nth cells (suc t) ≡ some d)
  pub short : (t e : ℕ) → nth cells t ≡ some e → suc a + t ≤ 7
  pub homes_new : (t e q : ℕ) (ps : List (K × ℕ)) (x : K × ℕ) → nth cells t ≡ some e → E t q ≡ stands ps → In x ps → Home hash chunk (Level (E t)) h (suc a + t) q x
  pub homes : (q : ℕ) (ps : List (K × ℕ)) (x : K × ℕ) → G q ≡ stands ps → In x ps → Home hash chunk Flat h a q x
  pub far : (l : K) → ¬ Agree chunk (hash l) h a → (x : Option (K × ℕ)) → R l x x
  pub near : (l : K) → Agree chunk (hash l) h a → Near same chunk l (hash l) a (R l) (F (chunk (hash l) a)) (G (chunk (hash l) a)) td tomb cells E

-- The cell d is cut off.
abbrev pub Gone : Option ℕ → ℕ → Type 0
Gone td d = td ≡ some d

module _ {K : Type 0} (same : K → K → Bool) (hash : K → ℕ) (chunk : ℕ → ℕ → ℕ) (R : K → Option (K × ℕ) → Option (K × ℕ) → Type 0)
    (M N : Tree K) (h a c : ℕ) (td : Option ℕ) (tomb : Spot K) (cells : List ℕ) (E : ℕ → ℕ → Spot K)
    (one : Prefixed chunk M) (low : (g i d : ℕ) → walk chunk M g i ≡ some d → i ≤ 7)
    (reached : walk chunk M h a ≡ some c) (but : (d : ℕ) → d ≢ c → (q : ℕ) → N d q ≡ M d q)
    (FlatM FlatN : ℕ → Type 0) (flat : (d : ℕ) → d ≢ c → FlatM d → FlatN d)
    (dead : (d : ℕ) → td ≡ some d → (ps : List (K × ℕ)) × ((q : ℕ) → M d q ≡ stands ps) × (tomb ≡ stands ps))
    (new : (t e i g : ℕ) → nth cells t ≡ some e → walk chunk M g i ≡ some e → ⊥)
    (once : (t u e : ℕ) → nth cells t ≡ some e → nth cells u ≡ some e → t ≡ u)
    (new_face : (t e : ℕ) → nth cells t ≡ some e → (q : ℕ) → M e q ≡ E t q)
    (new_flat : (t e q : ℕ) (ps : List (K × ℕ)) (x : K × ℕ) → nth cells t ≡ some e → E t q ≡ stands ps → In x ps → Level (E t) → FlatN e)
    (r : Ready same hash chunk R h a (M c) (N c) (FlatN c) td tomb cells E) where
  -- Such a swap is a graft.
  grafting : Graft hash chunk M N h a c cells (Gone td) FlatM FlatN
  grafting = record {
    reached = reached;
    but = but;
    named = λ q d e. let s = r.spots q in grind arith;
    kept = λ q d e. let s = r.spots q in grind arith;
    barren = λ d e q. ((dead d e).0, (dead d e).1 q);
    chain = λ t e q d x y. r.chain t e q d x (sym (new_face t e x q) ∙ y);
    new = λ t e g i x. new t e i g x;
    once = once;
    short = r.short;
    homes = r.homes;
    flat = flat;
    homes_new = λ t e q ps x y z i. let z' = sym (new_face t e y q) ∙ z in let w = r.homes_new t e q ps x y z' i in record { agrees = w.agrees; proper = elim w.proper [ inl v ↦ inl v | inr v ↦ inr (new_flat t e q ps x y z' i v) ] };
  }

  -- A walk after the swap was a walk before it, or it ends in a new cell.
  pub ready_back : (g i d : ℕ) → walk chunk N g i ≡ some d → (walk chunk M g i ≡ some d) ⊎ ((t : ℕ) × (nth cells t ≡ some d) × (i ≤ 7))
  ready_back g i d w = elim (walked_back hash chunk M N h a c cells one (Gone td) FlatM FlatN grafting g i d w) [
    | inl v ↦ inl v
    | inr v ↦ let s = r.short v.place d v.is in inr (v.place, v.is, omega (arith, v.index))
  ]

  -- The index of a new cell is told by its place.
  pub ready_new : (g i d t : ℕ) → walk chunk N g i ≡ some d → nth cells t ≡ some d → i ≡ suc a + t
  ready_new g i d t w x = elim (walked_back hash chunk M N h a c cells one (Gone td) FlatM FlatN grafting g i d w) [
    | inl v ↦ absurd (new t d i g x v)
    | inr v ↦ let p = once v.place t d v.is x in rw (← p) v.index
  ]

  -- A walk before the swap is a walk after it, or it ends in the cell that is cut off.
  pub ready_on : (g i d : ℕ) → walk chunk M g i ≡ some d → (walk chunk N g i ≡ some d) ⊎ Gone td d
  ready_on = walked_on hash chunk M N h a c cells one (Gone td) FlatM FlatN grafting

  -- Each cell still stands for one prefix.
  pub ready_one : Prefixed chunk N
  ready_one = prefixed_graft hash chunk M N h a c cells one (Gone td) FlatM FlatN grafting

  -- Every pair is still at home.
  pub ready_placed : Placed hash chunk M FlatM → Placed hash chunk N FlatN
  ready_placed = placed_graft hash chunk M N h a c cells one (Gone td) FlatM FlatN grafting

  same_there : (t e : ℕ) → nth cells t ≡ some e → (q : ℕ) → N e q ≡ E t q
  same_there t e x q = but e (λ p. new t c a h (rw p at x) reached) q ∙ new_face t e x q

  -- A search that comes to a new cell ends where the chain says.
  leads_ends : (l : K) (qs : List (K × ℕ)) (t e i : ℕ) → nth cells t ≡ some e → Leads chunk (hash l) cells E qs t i → Ends chunk N (hash l) qs e i
  leads_ends l qs t e i x (stops le y) = stop le (same_there t e x (chunk (hash l) i) ∙ y)
  leads_ends l qs t e i x (leads d y z w) = more d (same_there t e x (chunk (hash l) i) ∙ y) (leads_ends l qs (suc t) d (suc i) z w)

  -- The swap does to every key's lookup what it should.
  pub ready_effect : (l : K) → R l (lookup_pair same hash chunk M l) (lookup_pair same hash chunk N l)
  ready_effect = swap_effect same hash chunk M N one h a c reached but R r.far (λ l ag.
      let la : a ≤ 7 = low h a c reached in
      elim (r.near l ag) [
        | as_was e x ↦ kept e x
        | both ps qs x y z ↦ changed ps qs (stop la x) (stop la y) z
        | graft d ps qs x y z w v ↦ changed ps qs (stop la x) (more d y (leads_ends l qs 0 d (suc a) z w)) v
        | prune d ps x y z w v ↦
            let u = dead d x in
            let s : tomb ≡ stands u.0 = u.2 in
            let e : u.0 ≡ ps = cc in
            let ls : suc a ≤ 7 = low (hash l) (suc a) d (walk_on chunk M (hash l) a c d (walk_agree chunk M (hash l) h a ag ∙ reached) y) in
            changed ps ps (more d y (stop ls (u.1 (chunk (hash l) (suc a)) ∙ ap stands e))) (stop la w) v
      ])
