-- What one hash more adds: the indices at which just one other hash has gone along with it.
use Rattle.std.proofs.Common.{◌≡◌, ℕ, zero, suc, ◌+◌, ◌-◌, ◌≤◌, min, eqb, leb, List, [], ◌∷◌, ◌++◌, map, length, fold, sym, ap, ◌∙◌, inl, inr, ⊎_elim, arith}
use Rattle.std.proofs.lemmas.Bool.Decides.{nat_tests}
use Rattle.std.proofs.lemmas.Bool.{cases_lt}
use Rattle.std.proofs.lemmas.List.{map_push}
use Rattle.keys.specs.Routes.{prefix_at, parting_at, Parts}
use Rattle.keys.proofs.Chunks.{prefix_by_chunks, parting_parts}
use Rattle.sizing.specs.Demand.{occurrences, repeats, shared_prefixes, summed, cells_for}
use Rattle.sizing.specs.Depths.{larger_two, deepest_two_of}
use Rattle.sizing.proofs.Repeats.{one_if, repeats_push}

-- How many of some hashes go along with another to an index: the two deepest tell it, up to two.
abbrev Told : ℕ × ℕ → ℕ → ℕ → Type 0
Told two index n = min n 2 ≡ one_if (leb index two.0) + one_if (leb index two.1)

abbrev pub Ordered : ℕ × ℕ → Type 0
Ordered two = (two.1 ≤ two.0) × (two.0 ≤ 7)

told_more : (two : ℕ × ℕ) (depth index n : ℕ) → Ordered two → Told two index n → Told (larger_two two depth) index (n + one_if (leb index depth))
told_more two depth index n o t = grind (arith, nat_tests, o.0, t)

ordered_more : (two : ℕ × ℕ) (depth : ℕ) → depth ≤ 7 → Ordered two → Ordered (larger_two two depth)
ordered_more two depth d o = (grind (arith, nat_tests, o.0), grind (arith, nat_tests, o.1))

module _ (h : ℕ) where
  -- Two hashes share the prefix of an index exactly if they part at it or deeper.
  along : (g index : ℕ) → index ≤ 7 → eqb (prefix_at g index) (prefix_at h index) ≡ leb index (parting_at h g 0)
  along g index l =
      let at : Parts h g 0 (parting_at h g 0) = parting_parts h g 0 in
      elim (cases_lt (parting_at h g 0) index) [
        | inl k ↦
            let apart : (prefix_at g index ≡ prefix_at h index) → ⊥ =
            λ e.
            ⊎_elim (λ differ. differ ((prefix_by_chunks h g index).chunks (sym e) (parting_at h g 0) (omega arith) k))
            (λ (s : parting_at h g 0 ≡ 7). omega arith)
            at.apart in
            grind (arith, nat_tests)
        | inr k ↦ grind (arith, nat_tests, (prefix_by_chunks h g index).shared (λ i low high. at.together i low (omega arith)))
      ]

  abbrev deeper : ℕ × ℕ → ℕ → ℕ × ℕ
  deeper two g = larger_two two (parting_at h g 0)

  ordered_fold : (others : List ℕ) (two : ℕ × ℕ) → Ordered two → Ordered (fold deeper two others)
  ordered_fold [] two o = o
  ordered_fold (g ∷ others) two o = ordered_fold others (deeper two g) (ordered_more two (parting_at h g 0) (parting_parts h g 0).inside o)

  told_fold : (index : ℕ) → index ≤ 7 → (others : List ℕ) (two : ℕ × ℕ) (n : ℕ) → Ordered two → Told two index n → Told (fold deeper two others) index (n + occurrences (prefix_at h index) (map (λ g. prefix_at g index) others))
  told_fold index l [] two n o t = omega arith
  told_fold index l (g ∷ others) two n o t =
      let depth = parting_at h g 0 in
      let more = told_more two depth index n o t in
      let all = told_fold index l others (deeper two g) (n + one_if (leb index depth)) (ordered_more two depth (parting_parts h g 0).inside o) more in
      omega (arith, all, ap one_if (along g index l))

  pub deepest_ordered : (others : List ℕ) → Ordered (deepest_two_of h others)
  unfolding deepest_two_of
  deepest_ordered others = ordered_fold others (0, 0) (omega arith, omega arith)

  -- Just one other hash goes along to the indices past the second depth, up to the first.
  alone : (others : List ℕ) (index : ℕ) → 1 ≤ index → index ≤ 7 → one_if (eqb (occurrences (prefix_at h index) (map (λ g. prefix_at g index) others)) 1) ≡ one_if (leb index (deepest_two_of h others).0) - one_if (leb index (deepest_two_of h others).1)
  unfolding deepest_two_of
  alone others index low high =
      let o : Ordered (0, 0) = (omega arith, omega arith) in
      grind (arith, nat_tests, (ordered_fold others (0, 0) o).0, told_fold index high others (0, 0) 0 o (grind (arith, nat_tests)))

summed_more : (f g : ℕ → ℕ) (a b n : ℕ) → b ≤ a → ((index : ℕ) → 1 ≤ index → index ≤ n → f index ≡ g index + (one_if (leb index a) - one_if (leb index b))) → summed f n ≡ summed g n + (min a n - min b n)
summed_more f g a b zero o e = omega arith
summed_more f g a b (suc n) o e =
    let below = summed_more f g a b n o (λ index low high. e index low (omega arith)) in
    let here = e (suc n) (omega arith) (omega arith) in
    grind (arith, nat_tests)

-- The cells for one hash more.
pub cells_more : (hashes : List ℕ) (h : ℕ) → cells_for (hashes ++ (h ∷ [])) ≡ cells_for hashes + ((deepest_two_of h hashes).0 - (deepest_two_of h hashes).1)
unfolding cells_for
cells_more hashes h =
    let a = (deepest_two_of h hashes).0 in
    let b = (deepest_two_of h hashes).1 in
    let o = deepest_ordered h hashes in
    let sum =
    summed_more (λ index. length (shared_prefixes (hashes ++ (h ∷ [])) index)) (λ index. length (shared_prefixes hashes index)) a b 7 o.0
    (λ index low high.
    ap (λ xs. length (repeats xs)) (map_push (λ g. prefix_at g index) hashes h)
    ∙ (repeats_push (map (λ g. prefix_at g index) hashes) (prefix_at h index) ∙ ap (λ n. length (shared_prefixes hashes index) + n) (alone h hashes index low high))) in
    omega (arith, sum, o.0, o.1)
