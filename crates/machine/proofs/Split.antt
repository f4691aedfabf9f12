-- A chain of new cells: what it names, where its pairs stand, and where a search in it ends.
use mathlib.Core.Path.{◌≡◌, refl, sym, ap, ◌∙◌}
use mathlib.Core.Bool.{Bool, cond}
use mathlib.Core.List.{List, [], ◌∷◌}
use mathlib.Core.Option.{Option, none, some}
use mathlib.Core.Logic.{◌⊎◌, inl, inr, ◌≢◌}
use Prim.Native.Nat.{ℕ, zero, suc, ◌+◌, ◌≤◌}
use native.Mathlib.Omega.{arith}
use native.Mathlib.Decide.{ℕ_discrete}
use lib.Dec.{T}
use lib.ListN.{get_or}
use Rattle.machine.specs.Tree.{Level, Spot, stands, on, Agree, In, here, nth, Home}
use Rattle.machine.specs.Machine.{Branch, nothing, pair, cell, node, many, HasPair, Mem, face, main, put, Chain}
use Rattle.machine.specs.Pairs.{find_pair}
use Rattle.machine.proofs.Laws.{Laws}
use Rattle.machine.proofs.Walk.{no_some, agree_suc}
use Rattle.machine.proofs.Graft.{clash}
use Rattle.machine.proofs.Ready.{Spots, Near, Ready, Leads, stops, leads}
use Rattle.machine.proofs.Members.{unlike, in_one, in_split, find_none, find_last}
use Rattle.machine.proofs.Inv.{cells, faces, Does}

-- A branch is only one of nothing, a pair and a cell.
pub no_pair : {p : ℕ} → nothing ≡ pair p → ⊥
no_pair e = let z : ◌≡◌ {A = ℕ} 0 1 = cc in omega arith

pub cell_pair : {p d : ℕ} → cell d ≡ pair p → ⊥
cell_pair e = let z : ◌≡◌ {A = ℕ} 0 1 = cc in omega arith

-- The main of a new cell.
abbrev pub second : Option (ℕ × ℕ) → ℕ
second none = 0
second (some x) = x.1

-- A way through a chain is a way through the chain with one more cell in front.
shift : {K : Type 0} (chunk : ℕ → ℕ → ℕ) (m : Mem K) (h : ℕ) (qs : List (K × ℕ)) (y : ℕ × ℕ) (ys : List (ℕ × ℕ)) (t i : ℕ)
    → Leads chunk h (cells ys) (faces m ys) qs t i → Leads chunk h (cells (y ∷ ys)) (faces m (y ∷ ys)) qs (suc t) i
shift chunk m h qs y ys t i (stops l e) = stops l e
shift chunk m h qs y ys t i (leads d e n w) = leads d e n (shift chunk m h qs y ys (suc t) (suc i) w)

-- A chain begins at index 7 at the latest.
pub chain_low : {K : Type 0} (same : K → K → Bool) (hash : K → ℕ) (chunk : ℕ → ℕ → ℕ) {m : Mem K} {k : K} {r p : ℕ} {x : K × ℕ} {i : ℕ} {new : List (ℕ × ℕ)}
    → Chain same hash chunk m k r p x i new → i ≤ 7
chain_low same hash chunk (Chain.links i d n d' n' bs new e ag g1 g2 c) = let z = chain_low same hash chunk c in omega arith
chain_low same hash chunk (Chain.ends i d n bs l e ne g1 g2 g3) = omega arith
chain_low same hash chunk (Chain.ends_list i d n l e) = omega arith

module _ {K : Type 0} (same : K → K → Bool) (hash : K → ℕ) (chunk : ℕ → ℕ → ℕ) (laws : Laws same hash) (m : Mem K) (k : K) (v r p : ℕ) (x : K × ℕ)
    (slot_r : nth m.pairs r ≡ some x) (slot_p : nth m.pairs p ≡ some (k, v)) (apart : T (same x.0 k) → ⊥) where
  -- What stands at a chunk of the last new cell.
  data Last (i q : ℕ) (F : Spot K) : Type 0 where
    old_pair : q ≡ chunk (hash x.0) i → F ≡ stands (x ∷ []) → Last i q F
    new_pair : q ≡ chunk (hash k) i → F ≡ stands ((k, v) ∷ []) → Last i q F
    bare : q ≢ chunk (hash x.0) i → q ≢ chunk (hash k) i → F ≡ stands [] → Last i q F

  last : (i n : ℕ) (bs : List Branch) → main m n ≡ node bs
      → get_or bs (chunk (hash x.0) i) nothing ≡ pair r → get_or bs (chunk (hash k) i) nothing ≡ pair p
      → ((j : ℕ) → j ≢ chunk (hash x.0) i → j ≢ chunk (hash k) i → get_or bs j nothing ≡ nothing)
      → (q : ℕ) → Last i q (face m.pairs (main m n) q)
  last i n bs e a b o q = elim (ℕ_discrete q (chunk (hash x.0) i)) [
    | yes y ↦ old_pair y (rw (e, y, a, slot_r))
    | no y ↦ elim (ℕ_discrete q (chunk (hash k) i)) [ yes z ↦ new_pair z (rw (e, z, b, slot_p)) | no z ↦ bare y z (rw (e, o q y z)) ]
  ]

  -- What stands at a chunk of a new cell that leads on.
  data Link (i q d : ℕ) (F : Spot K) : Type 0 where
    onward : q ≡ chunk (hash k) i → F ≡ on d → Link i q d F
    bare : q ≢ chunk (hash k) i → F ≡ stands [] → Link i q d F

  link : (i n d : ℕ) (bs : List Branch) → main m n ≡ node bs → get_or bs (chunk (hash k) i) nothing ≡ cell d
      → ((j : ℕ) → j ≢ chunk (hash k) i → get_or bs j nothing ≡ nothing) → (q : ℕ) → Link i q d (face m.pairs (main m n) q)
  link i n d bs e b o q = elim (ℕ_discrete q (chunk (hash k) i)) [ yes z ↦ onward z (rw (e, z, b)) | no z ↦ bare z (rw (e, o q z)) ]

  -- The list at index 7.
  list_face : (n : ℕ) → main m n ≡ many (r ∷ p ∷ []) → (q : ℕ) → face m.pairs (main m n) q ≡ stands (x ∷ (k, v) ∷ [])
  list_face n e q = rw (e, slot_r, slot_p)

  -- A new cell names only the next one, at the key's chunk.
  pub chain_next : (i : ℕ) (new : List (ℕ × ℕ)) → Chain same hash chunk m k r p x i new → (t e q d : ℕ) → nth (cells new) t ≡ some e
      → faces m new t q ≡ on d → (q ≡ chunk (hash k) (i + t)) × (nth (cells new) (suc t) ≡ some d)
  chain_next i new (Chain.ends i' d n bs l e ne a b o) zero f q g y z =
      absurd (elim (last i n bs e a b o q) [ old_pair u w ↦ clash (sym w ∙ z) | new_pair u w ↦ clash (sym w ∙ z) | bare u s w ↦ clash (sym w ∙ z) ])
  chain_next i new (Chain.ends_list i' d n l e) zero f q g y z = absurd (clash (sym (list_face n e q) ∙ z))
  chain_next i new (Chain.links i' d n d' n' bs more e eq b o c) zero f q g y z = elim (link i n d' bs e b o q) [
    | onward u w ↦ let s : d' ≡ g = cc in let j : i + 0 ≡ i = omega arith in (rw j u, ap some s)
    | bare u w ↦ absurd (clash (sym w ∙ z))
  ]
  chain_next i new (Chain.links i' d n d' n' bs more e eq b o c) (suc t) f q g y z =
      let w = chain_next (suc i) ((d', n') ∷ more) c t f q g y z in
      let j : i + suc t ≡ suc i + t = omega arith in (rw j w.0, w.1)
  chain_next i new c t f q g y z = absurd (no_some y)

  -- The chain ends at index 7 at the latest.
  pub chain_short : (i : ℕ) (new : List (ℕ × ℕ)) → Chain same hash chunk m k r p x i new → (t e : ℕ) → nth (cells new) t ≡ some e → i + t ≤ 7
  chain_short i new (Chain.links i' d n d' n' bs more e eq b o c) (suc t) f y = let z = chain_short (suc i) ((d', n') ∷ more) c t f y in omega arith
  chain_short i new c zero f y = let z = chain_low same hash chunk c in omega arith
  chain_short i new c t f y = absurd (no_some y)

  -- The pairs of the chain are at home.
  pub chain_homes : (i : ℕ) (new : List (ℕ × ℕ)) → Chain same hash chunk m k r p x i new → Agree chunk (hash x.0) (hash k) i
      → (t e q : ℕ) (ps : List (K × ℕ)) (y : K × ℕ) → nth (cells new) t ≡ some e → faces m new t q ≡ stands ps → In y ps → Home hash chunk (Level (faces m new t)) (hash k) (i + t) q y
  chain_homes i new (Chain.ends i' d n bs l e ne a b o) ag zero f q ps y u z j =
      let s : i + 0 ≡ i = omega arith in
      rw s (elim (last i n bs e a b o q) [
        | old_pair h w ↦ let g : ps ≡ x ∷ [] = cc in rw (in_one y x (rw g at j)) (record { agrees = ag; proper = inl (sym h) })
        | new_pair h w ↦ let g : ps ≡ (k, v) ∷ [] = cc in rw (in_one y (k, v) (rw g at j)) (record { agrees = λ t l. refl; proper = inl (sym h) })
        | bare h t w ↦ let g : ps ≡ [] = cc in let j' : In y [] = rw g at j in elim j' [ ]
      ])
  chain_homes i new (Chain.ends_list i' d n l e) ag zero f q ps y u z j =
      let listed : ps ≡ x ∷ (k, v) ∷ [] = let w = list_face n e q in cc in
      let s : i + 0 ≡ i = omega arith in
      rw s (record {
        agrees = elim (in_split (rw listed at j)) [ inl g ↦ rw g ag | inr l ↦ rw (in_one y (k, v) l) (λ t l. refl) ];
        proper = inr (λ a b. list_face n e a ∙ sym (list_face n e b));
      })
  chain_homes i new (Chain.links i' d n d' n' bs more e eq b o c) ag zero f q ps y u z j = elim (link i n d' bs e b o q) [
    | onward h w ↦ absurd (clash (sym z ∙ w))
    | bare h w ↦ let s : ps ≡ [] = cc in let g : In y [] = rw s at j in elim g [ ]
  ]
  chain_homes i new (Chain.links i' d n d' n' bs more e eq b o c) ag (suc t) f q ps y u z j =
      let w = chain_homes (suc i) ((d', n') ∷ more) c (agree_suc chunk (hash x.0) (hash k) i ag eq) t f q ps y u z j in
      let s : i + suc t ≡ suc i + t = omega arith in rw s w
  chain_homes i new c ag t f q ps y u z j = absurd (no_some u)

  -- Where the search for a key l comes to, and what stands there.
  pub record Comes (l : K) (i : ℕ) (new : List (ℕ × ℕ)) : Type 0 where
    pub at : List (K × ℕ)
    pub way : Leads chunk (hash l) (cells new) (faces m new) at 0 i
    pub says : find_pair same l at ≡ cond (same k l) (some (k, v)) (find_pair same l (x ∷ []))

  -- A key with another chunk is not equal to k.
  unlike_k : (l : K) (i : ℕ) → chunk (hash l) i ≢ chunk (hash k) i → ¬ T (same k l)
  unlike_k l i ne t = ne (rw (laws.hashes k l t))

  silent : (l : K) → ¬ T (same x.0 l) → find_pair same l (x ∷ []) ≡ none
  silent l f = find_none same l (x ∷ []) (λ y j t. f (rw (in_one y x j) at t))

  -- Nor to the key of x.
  unlike_x : (l : K) (i : ℕ) → chunk (hash l) i ≢ chunk (hash x.0) i → ¬ T (same x.0 l)
  unlike_x l i ne t = ne (rw (laws.hashes x.0 l t))

  -- What is said of a key at an empty chunk, and at the new pair's chunk.
  nothing_says : (l : K) → ¬ T (same x.0 l) → ¬ T (same k l) → find_pair same l [] ≡ cond (same k l) (some (k, v)) (find_pair same l (x ∷ []))
  unfolding find_pair
  nothing_says l f g = sym (silent l f) ∙ unlike (same k l) (some (k, v)) (find_pair same l (x ∷ [])) g

  new_says : (l : K) → ¬ T (same x.0 l) → find_pair same l ((k, v) ∷ []) ≡ cond (same k l) (some (k, v)) (find_pair same l (x ∷ []))
  unfolding find_pair
  new_says l f = ap (cond (same k l) (some (k, v))) (sym (silent l f))

  -- A search in the chain finds what a put should leave.
  pub chain_comes : (i : ℕ) (new : List (ℕ × ℕ)) → Chain same hash chunk m k r p x i new → (l : K) → Comes l i new
  chain_comes i new (Chain.ends i' d n bs le e ne a b o) l = elim (last i n bs e a b o (chunk (hash l) i)) [
    | old_pair h w ↦ record { at = x ∷ []; way = stops (omega arith) w; says = unlike (same k l) (some (k, v)) (find_pair same l (x ∷ [])) (unlike_k l i (λ g. ne (sym h ∙ g))) }
    | new_pair h w ↦ record { at = (k, v) ∷ []; way = stops (omega arith) w; says = new_says l (unlike_x l i (λ g. ne (sym g ∙ h))) }
    | bare h s w ↦ record { at = []; way = stops (omega arith) w; says = nothing_says l (unlike_x l i h) (unlike_k l i s) }
  ]
  chain_comes i new (Chain.ends_list i' d n le e) l = record { at = x ∷ (k, v) ∷ []; way = stops (omega arith) (list_face n e (chunk (hash l) i)); says = find_last same hash laws k v l (x ∷ []) (λ y j t. apart (rw (in_one y x j) at t)) }
  chain_comes i new (Chain.links i' d n d' n' bs rest e eq b o c) l =
      let z = chain_comes (suc i) ((d', n') ∷ rest) c l in
      let s = chain_low same hash chunk c in
      elim (link i n d' bs e b o (chunk (hash l) i)) [
        | onward h w ↦ record { at = z.at; way = leads d' w refl (shift chunk m (hash l) z.at (d, n) ((d', n') ∷ rest) 0 (suc i) z.way); says = z.says }
        | bare h w ↦ record { at = []; way = stops (omega arith) w; says = nothing_says l (unlike_x l i (λ g. h (g ∙ eq))) (unlike_k l i h) }
      ]

  -- The chain names the two pairs and no other.
  pub chain_names : (i : ℕ) (new : List (ℕ × ℕ)) → Chain same hash chunk m k r p x i new → (t d y s : ℕ) → nth new t ≡ some (d, y) → HasPair (main m y) s
      → (r ≡ s) ⊎ (p ≡ s)
  chain_names i new (Chain.ends i' d n bs le e ne a b o) zero f y s z h =
      let q : n ≡ y = ap second z in
      let g : HasPair (node bs) s = rw (← q, e) at h in let u = o g.0 in grind arith
  chain_names i new (Chain.ends_list i' d n le e) zero f y s z h =
      let q : n ≡ y = ap second z in
      let j : In s (r ∷ p ∷ []) = rw (← q, e) at h in
      elim (in_split j) [ inl g ↦ inl (sym g) | inr l ↦ inr (sym (in_one s p l)) ]
  chain_names i new (Chain.links i' d n d' n' bs rest e eq b o c) zero f y s z h =
      let q : n ≡ y = ap second z in
      let g : HasPair (node bs) s = rw (← q, e) at h in
      let u = o g.0 in grind arith
  chain_names i new (Chain.links i' d n d' n' bs rest e eq b o c) (suc t) f y s z h = chain_names (suc i) ((d', n') ∷ rest) c t f y s z h
  chain_names i new c t f y s z h = absurd (no_some z)

  -- A put that attaches such a chain does what it should.
  pub ready_splits : (a : ℕ) (F G : ℕ → Spot K)
      → ((q : ℕ) (ps : List (K × ℕ)) (y : K × ℕ) → F q ≡ stands ps → In y ps → Home hash chunk ⊥ (hash k) a q y)
      → (d n : ℕ) (new : List (ℕ × ℕ)) → Chain same hash chunk m k r p x (suc a) ((d, n) ∷ new)
      → F (chunk (hash k) a) ≡ stands (x ∷ []) → G (chunk (hash k) a) ≡ on d → ((q : ℕ) → q ≢ chunk (hash k) a → G q ≡ F q)
      → Ready same hash chunk (Does same hash chunk (put k v)) (hash k) a F G ⊥ none (on 0) (cells ((d, n) ∷ new)) (faces m ((d, n) ∷ new))
  ready_splits a F G home d n new c f g other =
      let agx : Agree chunk (hash x.0) (hash k) (suc a) =
      agree_suc chunk (hash x.0) (hash k) a (home (chunk (hash k) a) (x ∷ []) x f here).agrees
      (elim (home (chunk (hash k) a) (x ∷ []) x f here).proper [ inl z ↦ z | inr z ↦ absurd z ]) in
      record {
        chain = chain_next (suc a) ((d, n) ∷ new) c;
        short = chain_short (suc a) ((d, n) ∷ new) c;
        homes_new = chain_homes (suc a) ((d, n) ∷ new) c agx;
        spots = λ q. elim (ℕ_discrete q (chunk (hash k) a)) [ yes e ↦ Spots.graft d (x ∷ []) e refl (rw e f) (rw e g) | no e ↦ Spots.as_was (other q e) ];
        homes = λ q ps y e i. elim (ℕ_discrete q (chunk (hash k) a)) [
          | yes z ↦ absurd (clash {d = d} (sym e ∙ (rw z g)))
          | no z ↦ home q ps y (sym (other q z) ∙ e) i
        ];
        far = λ l na z. unlike (same k l) (some (k, v)) z (λ t. na (λ j lt. rw (laws.hashes k l t)));
        near = λ l ag. elim (ℕ_discrete (chunk (hash l) a) (chunk (hash k) a)) [
          | yes e ↦
              let z = chain_comes (suc a) ((d, n) ∷ new) c l in
              Near.graft d (x ∷ []) z.at (rw e f) (rw e g) refl z.way z.says
          | no e ↦ Near.as_was (other (chunk (hash l) a) e) (λ z. unlike (same k l) (some (k, v)) z (λ t. e (rw (laws.hashes k l t))))
        ];
      }
