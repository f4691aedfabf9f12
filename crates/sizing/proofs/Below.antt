-- The cells below the root: listed by index, they are the shared prefixes, and few enough to be counted.
use Rattle.std.proofs.Common.{◌≡◌, ℕ, zero, suc, ◌+◌, ◌*◌, ◌^◌, ◌<◌, ◌≤◌, Bool, true, List, [], ◌∷◌, ◌++◌, map, length, sym, refl, ap, ◌∙◌, subst, inl, inr, suc-mul, arith, length-append}
use mathlib.Core.List.Memᴰ
use mathlib.Core.List.{Memᴰ}
use native.Mathlib.Nat.{mod-le}
use lib.ListN.{length-map}
use Rattle.std.proofs.lemmas.Bool.{cases_eq, both_ways}
use Rattle.std.proofs.lemmas.Bool.Decides.{nat_tests}
use Rattle.keys.specs.Laws.{KeyLaws}
use Rattle.keys.specs.Routes.{prefix_at}
use Rattle.sizing.specs.Demand.{occurrences, shared_prefixes, summed, cells_for}
use Rattle.sizing.specs.Law.{Once, Apart, Chosen, Shared, Cells}
use Rattle.sizing.proofs.Repeats.{occurs_in, in_occurs, repeated_twice, twice_repeated, repeated_in, once_repeats}
use Rattle.sizing.proofs.Pigeons.{once_below}

once_map : {A B : Type 0} (f : A → B) → ((x y : A) → f x ≡ f y → x ≡ y) → (xs : List A) → Once xs → Once (map f xs)
once_map f one [] o = tt
once_map f one (x ∷ xs) o =
    ((λ m. let found = Memᴰ.of_map f xs m in o.0 (Memᴰ.cast (sym (one found.0 x found.2)) found.1)), once_map f one xs o.1)

once_append : {A : Type 0} (xs ys : List A) → Once xs → Once ys → ((x : A) → Memᴰ x xs → Memᴰ x ys → ⊥) → Once (xs ++ ys)
once_append [] ys o p apart = p
once_append (x ∷ xs) ys o p apart = (
  (λ m. elim (Memᴰ.append_cases xs m) [ inl i ↦ o.0 i | inr i ↦ apart x (Memᴰ.head refl) i ]),
  once_append xs ys o.1 p (λ y i j. apart y (Memᴰ.tail i) j),
)

module _ (hashes : List ℕ) where
  -- The shared prefixes of the indices 1 to n, each with its index.
  abbrev pub below_to : ℕ → List (ℕ × ℕ)
  below_to zero = []
  below_to (suc n) = below_to n ++ map (λ prefix. (suc n, prefix)) (shared_prefixes hashes (suc n))

  length_below : (n : ℕ) → length (below_to n) ≡ summed (λ index. length (shared_prefixes hashes index)) n
  length_below zero = refl
  length_below (suc n) = simp (length-append, length-map) (omega (arith, length_below n))

  pub cells_below : cells_for hashes ≡ 1 + length (below_to 7)
  unfolding cells_for
  cells_below = omega (arith, length_below 7)

  below_in : (n : ℕ) (at : ℕ × ℕ) → Memᴰ at (below_to n) → (1 ≤ at.0) × (at.0 ≤ n) × Memᴰ at.1 (shared_prefixes hashes at.0)
  below_in zero at m = elim m [ ]
  below_in (suc n) at m =
      elim (Memᴰ.append_cases (below_to n) m) [
        | inl i ↦ let h = below_in n at i in (h.0, omega (arith, h.1), h.2)
        | inr i ↦
            let found = Memᴰ.of_map (λ p. (suc n, p)) (shared_prefixes hashes (suc n)) i in
            subst (λ (x : ℕ × ℕ). (1 ≤ x.0) × (x.0 ≤ suc n) × Memᴰ x.1 (shared_prefixes hashes x.0)) found.2 (omega arith, omega arith, found.1)
      ]

  in_below : (n index prefix : ℕ) → 1 ≤ index → index ≤ n → Memᴰ prefix (shared_prefixes hashes index) → Memᴰ (index, prefix) (below_to n)
  in_below zero index prefix low high m = absurd (omega arith)
  in_below (suc n) index prefix low high m =
      elim (cases_eq index (suc n)) [
        | inl e ↦ rw e (Memᴰ.append_right (below_to n) (Memᴰ.map (λ p. (suc n, p)) (rw e at m)))
        | inr d ↦ Memᴰ.append_left _ (in_below n index prefix low (omega arith) m)
      ]

  once_to : (n : ℕ) → Once (below_to n)
  once_to zero = tt
  once_to (suc n) =
      once_append (below_to n) _ (once_to n)
      (once_map (λ p. (suc n, p)) (λ x y e. ap (λ q. q.1) e) (shared_prefixes hashes (suc n)) (once_repeats (map (λ h. prefix_at h (suc n)) hashes)))
      (λ x i j.
      let found = Memᴰ.of_map (λ p. (suc n, p)) (shared_prefixes hashes (suc n)) j in
      let at : suc n ≡ x.0 = ap (λ q. q.0) found.2 in
      omega (arith, (below_in n x i).1))

module _ {K : Type 0} (same : K → K → Bool) (hash : K → ℕ) (index prefix : ℕ) where
  -- How many keys of a list have the prefix.
  abbrev having : List K → ℕ
  having ks = occurrences prefix (map (λ h. prefix_at h index) (map hash ks))

  one_having : (ks : List K) → 1 ≤ having ks → (k : K) × Memᴰ k ks × (prefix_at (hash k) index ≡ prefix)
  one_having ks l =
      let a = Memᴰ.of_map (λ h. prefix_at h index) (map hash ks) (occurs_in prefix _ l) in
      let b = Memᴰ.of_map hash ks a.1 in
      (b.0, b.1, ap (λ h. prefix_at h index) b.2 ∙ a.2)

  having_one : (ks : List K) (k : K) → Memᴰ k ks → prefix_at (hash k) index ≡ prefix → 1 ≤ having ks
  having_one ks k m e = in_occurs prefix _ (Memᴰ.cast (sym e) (Memᴰ.map (λ h. prefix_at h index) (Memᴰ.map hash m)))

  having_two : (ks : List K) (one other : K) → Memᴰ one ks → Memᴰ other ks → (one ≡ other → ⊥) → prefix_at (hash one) index ≡ prefix → prefix_at (hash other) index ≡ prefix → 2 ≤ having ks
  having_two [] one other m k d e f = elim m [ ]
  having_two (x ∷ ks) one other (Memᴰ.head s) (Memᴰ.head t) d e f = absurd (d (s ∙ sym t))
  having_two (x ∷ ks) one other (Memᴰ.head s) (Memᴰ.tail k) d e f = grind (arith, nat_tests, having_one ks other k f)
  having_two (x ∷ ks) one other (Memᴰ.tail m) (Memᴰ.head t) d e f = grind (arith, nat_tests, having_one ks one m e)
  having_two (x ∷ ks) one other (Memᴰ.tail m) (Memᴰ.tail k) d e f = omega (arith, having_two ks one other m k d e f)

  -- Two of the keys that are apart and have the prefix.
  two_having : (ks chosen : List K) → ((k : K) → Memᴰ k chosen → Memᴰ k ks) → Apart same chosen → 2 ≤ having chosen → Shared same hash ks index prefix
  two_having ks [] from apart l = absurd (omega arith)
  two_having ks (k ∷ chosen) from apart l =
      elim (cases_eq (prefix_at (hash k) index) prefix) [
        | inl e ↦
            let found = one_having chosen (grind (arith, nat_tests)) in
            record {
              one = k;
              other = found.0;
              one_in = from k (Memᴰ.head refl);
              other_in = from found.0 (Memᴰ.tail found.1);
              unequal = apart.0 found.0 found.1;
              one_has = e;
              other_has = found.2;
            }
        | inr d ↦ two_having ks chosen (λ x m. from x (Memᴰ.tail m)) apart.1 (grind (arith, nat_tests))
      ]

module _ {K : Type 0} (same : K → K → Bool) (hash : K → ℕ) (laws : KeyLaws same hash) (ks chosen : List K) (so : Chosen same ks chosen) where
  shared_two : (index prefix : ℕ) → Shared same hash ks index prefix → 2 ≤ having same hash index prefix chosen
  shared_two index prefix s =
      let a = so.each s.one s.one_in in
      let b = so.each s.other s.other_in in
      having_two same hash index prefix chosen a.0 b.0 a.1 b.1
      (λ e. both_ways (same s.one s.other) s.unequal
      (laws.transitive s.one a.0 s.other (laws.symmetric a.0 s.one a.2) (subst (λ k. same k s.other ≡ true) (sym e) b.2)))
      (ap (λ h. prefix_at h index) (laws.hashed a.0 s.one a.2) ∙ s.one_has)
      (ap (λ h. prefix_at h index) (laws.hashed b.0 s.other b.2) ∙ s.other_has)

  -- The list by index has exactly the cells below the root.
  pub cells_are : Cells same hash ks (below_to (map hash chosen) 7)
  cells_are =
      record {
        once = once_to (map hash chosen) 7;
        shared =
            λ index prefix m.
            let h = below_in (map hash chosen) 7 (index, prefix) m in
            (h.0, h.1, two_having same hash index prefix ks chosen so.from so.apart (repeated_twice prefix (map (λ h. prefix_at h index) (map hash chosen)) h.2));
        all =
            λ index prefix low high s.
            in_below (map hash chosen) 7 index prefix low high
            (twice_repeated prefix (map (λ h. prefix_at h index) (map hash chosen)) (shared_two index prefix s));
      }

summed_le : (f : ℕ → ℕ) (most n : ℕ) → ((index : ℕ) → f index ≤ most) → summed f n ≤ n * most
summed_le f most zero small = omega arith
summed_le f most (suc n) small = omega (arith, suc-mul n most, summed_le f most n small, small (suc n))

-- Hashes of 32 bits share few prefixes, so the cells can be counted.
pub cells_few : (hashes : List ℕ) → ((h : ℕ) → Memᴰ h hashes → h < 2 ^ 32) → cells_for hashes ≤ 1 + 7 * 2 ^ 32
unfolding cells_for
cells_few hashes small =
    let each : (index : ℕ) → length (shared_prefixes hashes index) ≤ 2 ^ 32 =
    λ index.
    once_below (2 ^ 32) (shared_prefixes hashes index) (once_repeats (map (λ h. prefix_at h index) hashes))
    (λ prefix m.
    let found = Memᴰ.of_map (λ h. prefix_at h index) hashes (repeated_in prefix (map (λ h. prefix_at h index) hashes) m) in
    let l = small found.0 found.1 in
    let k = mod-le found.0 (2 ^ (5 * index)) in
    let e = found.2 in
    omega arith) in
    let all = summed_le (λ index. length (shared_prefixes hashes index)) (2 ^ 32) 7 each in
    omega arith
