-- A list without repeats of numbers below n has at most n of them.
use Rattle.std.proofs.Common.{◌≡◌, ℕ, zero, suc, ◌+◌, ◌<◌, ◌≤◌, Bool, true, false, cond, eqb, List, [], ◌∷◌, length, sym, refl, ◌∙◌, arith}
use mathlib.Core.List.{Memᴰ}
use Rattle.std.proofs.lemmas.Bool.{eqb-true, eqb-false}
use Rattle.sizing.specs.Law.{Once}

-- The list without a number.
abbrev without : ℕ → List ℕ → List ℕ
without n [] = []
without n (x ∷ xs) = cond (eqb x n) (without n xs) (x ∷ without n xs)

module _ (n : ℕ) where
  without_in : (y : ℕ) (xs : List ℕ) → Memᴰ y (without n xs) → Memᴰ y xs × (y ≡ n → ⊥)
  without_in y [] m = elim m [ ]
  without_in y (x ∷ xs) m = by (eqb x n) refl (λ k. without_in y xs k) m
    where
      by : (b : Bool) → eqb x n ≡ b → (Memᴰ y (without n xs) → Memᴰ y xs × (y ≡ n → ⊥)) → Memᴰ y (cond b (without n xs) (x ∷ without n xs)) → Memᴰ y (x ∷ xs) × (y ≡ n → ⊥)
      by true e below m = (Memᴰ.tail (below m).0, (below m).1)
      by false e below (Memᴰ.head s) = (Memᴰ.head s, λ t. eqb-false x n e (sym s ∙ t))
      by false e below (Memᴰ.tail k) = (Memᴰ.tail (below k).0, (below k).1)

  -- Where the number is not there, nothing is taken out.
  without_none : (xs : List ℕ) → (Memᴰ n xs → ⊥) → length xs ≤ length (without n xs)
  without_none [] none = omega arith
  without_none (x ∷ xs) none = by (eqb x n) refl (without_none xs (λ m. none (Memᴰ.tail m)))
    where
      by : (b : Bool) → eqb x n ≡ b → length xs ≤ length (without n xs) → length (x ∷ xs) ≤ length (cond b (without n xs) (x ∷ without n xs))
      by true e l = absurd (none (Memᴰ.head (sym (eqb-true x n e))))
      by false e l = omega arith

  -- At most one is taken out.
  without_one : (xs : List ℕ) → Once xs → length xs ≤ length (without n xs) + 1
  without_one [] o = omega arith
  without_one (x ∷ xs) o = by (eqb x n) refl (without_one xs o.1)
    where
      by : (b : Bool) → eqb x n ≡ b → length xs ≤ length (without n xs) + 1 → length (x ∷ xs) ≤ length (cond b (without n xs) (x ∷ without n xs)) + 1
      by true e l = let k = without_none xs (λ m. o.0 (moved m)) in omega arith
        where
          moved : Memᴰ n xs → Memᴰ x xs
          moved m = rw (eqb-true x n e) m
      by false e l = omega arith

  once_without : (xs : List ℕ) → Once xs → Once (without n xs)
  once_without [] o = tt
  once_without (x ∷ xs) o = by (eqb x n) (once_without xs o.1)
    where
      by : (b : Bool) → Once (without n xs) → Once (cond b (without n xs) (x ∷ without n xs))
      by true k = k
      by false k = ((λ m. o.0 (without_in x xs m).0), k)

pub once_below : (n : ℕ) (xs : List ℕ) → Once xs → ((x : ℕ) → Memᴰ x xs → x < n) → length xs ≤ n
once_below zero [] o small = omega arith
once_below zero (x ∷ xs) o small = absurd (let h = small x (Memᴰ.head refl) in omega arith)
once_below (suc n) xs o small =
    let shorter =
    once_below n (without n xs) (once_without n xs o)
    (λ x m.
    let k = without_in n x xs m in
    let l = small x k.0 in
    let d = k.1 in
    omega arith) in
    let one = without_one n xs o in
    omega arith
