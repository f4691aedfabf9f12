-- What stands in the places of a list, after one is set, and among the first of it.
use Rattle.std.proofs.Common.{◌≡◌, ℕ, zero, suc, ◌<◌, ◌⊎◌, List, [], ◌∷◌, length, get_or, take, drop, set, Some, refl, inl, inr, arith}
use mathlib.Core.List.{Memᴰ}
use Rattle.std.specs.List.{slice_get}

module _ {A : Type 0} where
  -- A property of what is set and of all that is read before holds of all that is read after.
  pub each_set : (d : A) (P : A → Type 0) (xs : List A) (i : ℕ) (a : A) → P a → ((j : ℕ) → P (get_or xs j d)) → (j : ℕ) → P (get_or (set xs i a) j d)
  each_set d P [] i a p f j = f j
  each_set d P (x ∷ xs) zero a p f zero = p
  each_set d P (x ∷ xs) zero a p f (suc j) = f (suc j)
  each_set d P (x ∷ xs) (suc i) a p f zero = f zero
  each_set d P (x ∷ xs) (suc i) a p f (suc j) = each_set d P xs i a p (λ k. f (suc k)) j

  -- What is read where one place is set is what was set, or what stands in for a place that is missing.
  pub set_here : (xs : List A) (i : ℕ) (a d : A) → (get_or (set xs i a) i d ≡ a) ⊎ (get_or (set xs i a) i d ≡ d)
  set_here [] i a d = inr refl
  set_here (x ∷ xs) zero a d = inl refl
  set_here (x ∷ xs) (suc i) a d = set_here xs i a d

  -- The members are what was set, and those before.
  pub in_set : (xs : List A) (i : ℕ) (a y : A) → Memᴰ y (set xs i a) → (y ≡ a) ⊎ Memᴰ y xs
  in_set [] i a y m = elim m [ ]
  in_set (x ∷ xs) zero a y (Memᴰ.head e) = inl e
  in_set (x ∷ xs) zero a y (Memᴰ.tail m) = inr (Memᴰ.tail m)
  in_set (x ∷ xs) (suc i) a y (Memᴰ.head e) = inr (Memᴰ.head e)
  in_set (x ∷ xs) (suc i) a y (Memᴰ.tail m) = later (in_set xs i a y m)
    where
      later : (y ≡ a) ⊎ Memᴰ y xs → (y ≡ a) ⊎ Memᴰ y (x ∷ xs)
      later (inl e) = inl e
      later (inr k) = inr (Memᴰ.tail k)

  -- The first n of a list are members of it.
  pub in_take : (n : ℕ) (xs : List A) (y : A) → Memᴰ y (take n xs) → Memᴰ y xs
  in_take (suc n) (x ∷ xs) y (Memᴰ.head e) = Memᴰ.head e
  in_take (suc n) (x ∷ xs) y (Memᴰ.tail m) = Memᴰ.tail (in_take n xs y m)
  in_take _ _ y m = elim m [ ]

  pub in_drop : (n : ℕ) (xs : List A) (y : A) → Memᴰ y (drop n xs) → Memᴰ y xs
  in_drop zero xs y m = m
  in_drop (suc n) [] y m = elim m [ ]
  in_drop (suc n) (x ∷ xs) y m = Memᴰ.tail (in_drop n xs y m)

  -- A place is one of a list, and what stands there has a property.
  abbrev pub Standing : (A → Type 0) → List A → ℕ → Type 0
  Standing P xs i = (x : A) × (slice_get xs i ≡ Some x) × P x

  -- Something that has the property is set somewhere: then the place has still something of the property.
  pub set_stands : (P : A → Type 0) (xs : List A) (i : ℕ) (a : A) → P a → (j : ℕ) → Standing P xs j → Standing P (set xs i a) j
  set_stands P (x ∷ xs) zero a p zero s = (a, refl, p)
  set_stands P (x ∷ xs) (suc i) a p (suc j) s = set_stands P xs i a p j s
  set_stands _ _ _ a p _ s = s

  -- It is set at a place of the list: then the place has something of the property.
  pub stands_set : (P : A → Type 0) (xs : List A) (i : ℕ) (a : A) → P a → i < length xs → Standing P (set xs i a) i
  stands_set P [] i a p l = absurd (omega arith)
  stands_set P (x ∷ xs) zero a p l = (a, refl, p)
  stands_set P (x ∷ xs) (suc i) a p l = stands_set P xs i a p (omega arith)
