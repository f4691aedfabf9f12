-- The pairs that lie in the places of a list, in the memory shown, and what the rules say of them, said of the pairs shown.
use Rattle.std.proofs.Common.{◌≡◌, ℕ, zero, suc, Bool, true, false, cond, not, T, eqb, List, [], ◌∷◌, map, set, Some, None, Option, sym, refl, ap, ◌∙◌, subst, arith}
use mathlib.Core.List.{Memᴰ}
use mathlib.Core.Option.{none, some}
use Rattle.std.specs.List.{slice_get, remove}
use Rattle.std.proofs.lemmas.Bool.{and_parts, or_parts, both_ways, not-true}
use Rattle.std.proofs.lemmas.Option.{none-some, some_pair_parts}
use Rattle.machine.proofs.Laws.{Laws, holds, is_true}
use Rattle.machine.proofs.Walk.{no_some}
use Rattle.machine.specs.Machine.{gather}
use Rattle.machine.specs.Tree.{In, nth as placed, NoTwice}
use Rattle.machine.specs.Pairs.{find_pair}
use Rattle.rules.specs.Memory.{Memory}
use Rattle.rules.specs.Sound.{with_pair, pairs_at, among, alike}
use Rattle.rules.specs.Turns.{place_of, later as further}
use Rattle.rules.specs.declared.Pair.{Pair}
use Rattle.theory.proofs.ListEdits.{at_in}
use Rattle.theory.proofs.ShownMemory.{shows_memory}
use Rattle.theory.specs.Shown.{shown_pair, shown_mem}

-- Some places hold these pairs, in order.
pub data Gathers {K : Type 0} (pairs : List (K × ℕ)) : List ℕ → List (K × ℕ) → Type 0 where
  ends : Gathers pairs [] []
  goes : (p : ℕ) (x : K × ℕ) (ps : List ℕ) (vs : List (K × ℕ)) → placed pairs p ≡ some x → Gathers pairs ps vs → Gathers pairs (p ∷ ps) (x ∷ vs)

module _ {K : Type 0} (pairs : List (K × ℕ)) where
  -- Then these are the pairs gathered there, also after one place is set or taken out.
  pub gathered : (ps : List ℕ) (vs : List (K × ℕ)) → Gathers pairs ps vs → gather pairs ps ≡ vs
  gathered ps vs Gathers.ends = refl
  gathered ps vs (Gathers.goes p x qs us e g) = rw e (ap (λ (r : List (K × ℕ)). x ∷ r) (gathered qs us g))

  pub gathers_set : (ps : List ℕ) (vs : List (K × ℕ)) (i p : ℕ) (x : K × ℕ) → placed pairs p ≡ some x → Gathers pairs ps vs → Gathers pairs (set ps i p) (set vs i x)
  gathers_set ps vs i p x e Gathers.ends = Gathers.ends
  gathers_set ps vs zero p x e (Gathers.goes q y qs us f g) = Gathers.goes p x qs us e g
  gathers_set ps vs (suc i) p x e (Gathers.goes q y qs us f g) = Gathers.goes q y (set qs i p) (set us i x) f (gathers_set qs us i p x e g)

  pub gathers_out : (ps : List ℕ) (vs : List (K × ℕ)) (i : ℕ) → Gathers pairs ps vs → Gathers pairs (remove ps i) (remove vs i)
  gathers_out ps vs zero Gathers.ends = Gathers.ends
  gathers_out ps vs (suc i) Gathers.ends = Gathers.ends
  gathers_out ps vs zero (Gathers.goes q y qs us f g) = g
  gathers_out ps vs (suc i) (Gathers.goes q y qs us f g) = Gathers.goes q y (remove qs i) (remove us i) f (gathers_out qs us i g)

  -- A pair among them is gathered, and comes from the place of the same number.
  pub gathers_in : (ps : List ℕ) (vs : List (K × ℕ)) (i : ℕ) (x : K × ℕ) → placed vs i ≡ some x → Gathers pairs ps vs → In x (gather pairs ps)
  gathers_in ps vs i x e g = subst (λ us. In x us) (sym (gathered ps vs g)) (at_in vs i x e)

  pub gathers_at : (ps : List ℕ) (vs : List (K × ℕ)) (i : ℕ) (x : K × ℕ) → placed vs i ≡ some x → Gathers pairs ps vs → (r : ℕ) × (placed ps i ≡ some r)
  gathers_at ps vs i x e Gathers.ends = absurd (no_some e)
  gathers_at ps vs zero x e (Gathers.goes q y qs us f g) = (q, refl)
  gathers_at ps vs (suc i) x e (Gathers.goes q y qs us f g) = gathers_at qs us i x e g

  -- One place holds one pair.
  pub gathers_one : (r : ℕ) (vs : List (K × ℕ)) → Gathers pairs (r ∷ []) vs → (x : K × ℕ) × (placed pairs r ≡ some x) × (vs ≡ x ∷ [])
  gathers_one r vs (Gathers.goes q y qs us f Gathers.ends) = (y, f, refl)

-- WHAT THE RULES SAY OF A LIST'S PAIRS, OF THE PAIRS SHOWN

-- Pairs that may be missing are all there.
all_there : {K : Type 0} (o : Option (Pair K)) (os : Option (List (Pair K))) (ys : List (Pair K)) → with_pair o os ≡ Some ys → (x : Pair K) × (xs : List (Pair K)) × (o ≡ Some x) × (os ≡ Some xs) × (ys ≡ x ∷ xs)
all_there (Some x) (Some xs) ys e = (x, xs, refl, refl, cc)
all_there _ _ ys e = absurd (none-some _ e)

-- The places of a list hold its pairs in the memory shown, if they are as they were.
pub shown_gathers : {K : Type 0} (m z : Memory K) (ps : List ℕ) (ys : List (Pair K)) → pairs_at m.pairs ps ≡ Some ys
    → ((i : ℕ) → Memᴰ i ps → slice_get z.pairs i ≡ slice_get m.pairs i) → Gathers (shown_mem z).pairs ps (map shown_pair ys)
shown_gathers m z [] ys e kept = let s : ys ≡ [] = cc in subst (λ us. Gathers (shown_mem z).pairs [] (map shown_pair us)) (sym s) Gathers.ends
shown_gathers {K} m z (p ∷ ps) ys e kept =
    let t = all_there (slice_get m.pairs p) (pairs_at m.pairs ps) ys e in
    subst (λ us. Gathers (shown_mem z).pairs (p ∷ ps) (map shown_pair us)) (sym t.4)
    (Gathers.goes p (shown_pair t.0) ps (map shown_pair t.1)
    ((shows_memory K).pair_at z p t.0 (kept p (Memᴰ.head refl) ∙ t.2))
    (shown_gathers m z ps t.1 t.3 (λ i j. kept i (Memᴰ.tail j))))

module _ {K : Type 0} (same : K → K → Bool) (hash : K → ℕ) where
  -- A key that is not among some pairs.
  among_none : (k : K) (ys : List (Pair K)) → among same hash k ys ≡ false → (x : K × ℕ) → In x (map shown_pair ys) → ¬ T (same x.0 k)
  among_none k [] e x j = elim j [ ]
  among_none k (y ∷ ys) e x (In.here) = λ t. both_ways (same y.key k) (or_parts (same y.key k) (among same hash k ys) e).0 (is_true (same y.key k) t)
  among_none k (y ∷ ys) e x (In.later j) = among_none k ys (or_parts (same y.key k) (among same hash k ys) e).1 x j

  -- Pairs that are alike have no key twice.
  pub alike_no_twice : Laws same hash → (ys : List (Pair K)) → alike same hash ys ≡ true → NoTwice same (map shown_pair ys)
  alike_no_twice laws [] e = tt
  alike_no_twice laws (y ∷ []) e = ((λ x j. elim j [ ]), tt)
  alike_no_twice laws (y ∷ (u ∷ ys)) e =
      let t = and_parts (not (among same hash y.key (u ∷ ys))) (alike same hash (u ∷ ys)) (and_parts (eqb (hash y.key) (hash u.key)) _ e).1 in (
        (λ x j s. among_none y.key (u ∷ ys) (not-true (among same hash y.key (u ∷ ys)) t.0) x j (laws.symmetric y.key x.0 s)),
        alike_no_twice laws (u ∷ ys) t.1,
      )

module _ {K : Type 0} (same : K → K → Bool) (k : K) where
  -- A key without a place is not found.
  pub place_none : (ys : List (Pair K)) → place_of same k ys ≡ None → find_pair same k (map shown_pair ys) ≡ none
  unfolding find_pair
  place_none [] e = refl
  place_none (y ∷ ys) e = by (same y.key k) (place_of same k ys) e (place_none ys)
    where
      by : (b : Bool) (o : Option (ℕ × ℕ)) → cond b (Some (0, y.value)) (further o) ≡ None → (o ≡ None → find_pair same k (map shown_pair ys) ≡ none)
          → cond b (some (shown_pair y)) (find_pair same k (map shown_pair ys)) ≡ none
      by b o f below = grind arith

  -- A key that has a place is that of the pair there.
  pub place_some : (ys : List (Pair K)) (i w : ℕ) → place_of same k ys ≡ Some (i, w) → (x : K × ℕ) × (placed (map shown_pair ys) i ≡ some x) × T (same x.0 k) × (x.1 ≡ w)
  place_some [] i w e = absurd (none-some _ e)
  place_some (y ∷ ys) i w e = by (same y.key k) refl (place_of same k ys) e (place_some ys)
    where
      by : (b : Bool) → same y.key k ≡ b → (o : Option (ℕ × ℕ)) → cond b (Some (0, y.value)) (further o) ≡ Some (i, w)
          → ((j u : ℕ) → o ≡ Some (j, u) → (x : K × ℕ) × (placed (map shown_pair ys) j ≡ some x) × T (same x.0 k) × (x.1 ≡ u))
          → (x : K × ℕ) × (placed (map shown_pair (y ∷ ys)) i ≡ some x) × T (same x.0 k) × (x.1 ≡ w)
      by true q o f below =
          let s = some_pair_parts _ _ _ _ f in
          (shown_pair y, ap (λ (n : ℕ). placed (map shown_pair (y ∷ ys)) n) (sym s.0), holds (same y.key k) q, s.1)
      by false q None f below = absurd (none-some _ f)
      by false q (Some j) f below =
          let s = some_pair_parts _ _ _ _ f in
          let a : suc j.0 ≡ i = omega (arith, s.0) in
          let x = below j.0 j.1 refl in
          (x.0, ap (λ (n : ℕ). placed (map shown_pair (y ∷ ys)) n) (sym a) ∙ x.1, x.2, x.3 ∙ s.1)

  -- A key that is found in a list is that of one of its members, which has the value found.
  pub shown_member : (m z : Memory K) (ps : List ℕ) (ys : List (Pair K)) → pairs_at m.pairs ps ≡ Some ys → ((i : ℕ) → Memᴰ i ps → slice_get z.pairs i ≡ slice_get m.pairs i)
      → (i w : ℕ) → place_of same k ys ≡ Some (i, w) → (x : K × ℕ) × In x (gather (shown_mem z).pairs ps) × T (same x.0 k) × (x.1 ≡ w)
  shown_member m z ps ys there kept i w e =
      let x = place_some ys i w e in
      (x.0, gathers_in (shown_mem z).pairs ps (map shown_pair ys) i x.0 x.1 (shown_gathers m z ps ys there kept), x.2, x.3)
