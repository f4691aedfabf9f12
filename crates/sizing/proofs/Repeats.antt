-- The numbers that stand in a list more than once: which they are, that each comes once, and what one number more adds.
use Rattle.std.proofs.Common.{◌≡◌, ℕ, ◌+◌, ◌≤◌, Bool, cond, eqb, leb, List, [], ◌∷◌, ◌++◌, length, refl, inl, inr, arith}
use mathlib.Core.List.{Memᴰ}
use Rattle.std.proofs.lemmas.Bool.{cases_eq}
use Rattle.std.proofs.lemmas.Bool.Decides.{nat_tests}
use Rattle.sizing.specs.Demand.{occurrences, repeats}
use Rattle.sizing.specs.Law.{Once}

-- 1 where a test holds, else 0.
abbrev pub one_if : Bool → ℕ
one_if b = cond b 1 0

occurrences_push : (n : ℕ) (xs : List ℕ) (y : ℕ) → occurrences n (xs ++ (y ∷ [])) ≡ occurrences n xs + one_if (eqb y n)
occurrences_push n [] y = omega arith
occurrences_push n (x ∷ xs) y = omega (arith, occurrences_push n xs y)

pub repeats_push : (xs : List ℕ) (y : ℕ) → length (repeats (xs ++ (y ∷ []))) ≡ length (repeats xs) + one_if (eqb (occurrences y xs) 1)
repeats_push [] y = refl
repeats_push (x ∷ xs) y = grind (arith, nat_tests, occurrences_push x xs y, repeats_push xs y)

module _ (n : ℕ) where
  pub occurs_in : (xs : List ℕ) → 1 ≤ occurrences n xs → Memᴰ n xs
  occurs_in [] h = absurd (omega arith)
  occurs_in (x ∷ xs) h =
      elim (cases_eq n x) [
        | inl e ↦ Memᴰ.head e
        | inr d ↦ Memᴰ.tail (occurs_in xs (grind (arith, nat_tests)))
      ]

  pub in_occurs : (xs : List ℕ) → Memᴰ n xs → 1 ≤ occurrences n xs
  in_occurs [] m = elim m [ ]
  in_occurs (x ∷ xs) (Memᴰ.head e) = grind (arith, nat_tests)
  in_occurs (x ∷ xs) (Memᴰ.tail m) = omega (arith, in_occurs xs m)

  -- What stands there twice or more is repeated, and once.
  repeated : (xs : List ℕ) → occurrences n (repeats xs) ≡ one_if (leb 2 (occurrences n xs))
  repeated [] = refl
  repeated (x ∷ xs) = grind (arith, nat_tests, repeated xs)

  pub repeated_twice : (xs : List ℕ) → Memᴰ n (repeats xs) → 2 ≤ occurrences n xs
  repeated_twice xs m = grind (arith, nat_tests, repeated xs, in_occurs (repeats xs) m)

  pub twice_repeated : (xs : List ℕ) → 2 ≤ occurrences n xs → Memᴰ n (repeats xs)
  twice_repeated xs h = occurs_in (repeats xs) (grind (arith, nat_tests, repeated xs))

once_from : (xs : List ℕ) → ((n : ℕ) → occurrences n xs ≤ 1) → Once xs
once_from [] few = tt
once_from (x ∷ xs) few = (λ m. grind (arith, nat_tests, in_occurs x xs m, few x), once_from xs (λ n. omega (arith, few n)))

pub once_repeats : (xs : List ℕ) → Once (repeats xs)
once_repeats xs = once_from (repeats xs) (λ n. grind (arith, nat_tests, repeated n xs))

-- What is repeated stands in the list.
pub repeated_in : (n : ℕ) (xs : List ℕ) → Memᴰ n (repeats xs) → Memᴰ n xs
repeated_in n xs m = occurs_in n xs (omega (arith, repeated_twice n xs m))
