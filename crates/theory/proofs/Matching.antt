-- Pairs and their places, listed side by side.
use Rattle.std.proofs.Common.{◌≡◌, ℕ, suc, Bool, true, List, [], ◌∷◌, length, sym, refl, ap, ◌∙◌, subst, arith}
use mathlib.Core.List.{Memᴰ}
use Rattle.keys.specs.Laws.{KeyLaws}
use Rattle.rules.specs.PlainMap.{Unlike}
use Rattle.rules.specs.Reached.{Once}
use Rattle.rules.specs.declared.Pair.{Pair}

-- Places, and what they hold, one for one.
abbrev pub Beside : {A : Type 0} → (ℕ → A → Type 0) → List ℕ → List A → Type 0
Beside P [] [] = Unit {0}
Beside P (p ∷ ps) (y ∷ ys) = P p y × Beside P ps ys
Beside _ _ _ = ⊥

module _ {A : Type 0} (P : ℕ → A → Type 0) where
  -- Where each has a place, they have a list of places.
  pub placed : (ys : List A) → ((y : A) → Memᴰ y ys → (p : ℕ) × P p y) → (ps : List ℕ) × Beside P ps ys
  placed [] f = ([], tt)
  placed (y ∷ ys) f =
      let a = f y (Memᴰ.head refl) in
      let b = placed ys (λ z m. f z (Memᴰ.tail m)) in
      (a.0 ∷ b.0, (a.1, b.1))

  pub as_many : (ps : List ℕ) (ys : List A) → Beside P ps ys → length ys ≡ length ps
  as_many [] [] b = refl
  as_many (p ∷ ps) (y ∷ ys) b = ap suc (as_many ps ys b.1)
  as_many _ _ b = absurd b

  pub of_place : (ps : List ℕ) (ys : List A) → Beside P ps ys → (p : ℕ) → Memᴰ p ps → (y : A) × Memᴰ y ys × P p y
  of_place [] ys b p m = elim m [ ]
  of_place (q ∷ ps) [] b p m = absurd b
  of_place (q ∷ ps) (y ∷ ys) b p (Memᴰ.head e) = (y, Memᴰ.head refl, subst (λ (r : ℕ). P r y) (sym e) b.0)
  of_place (q ∷ ps) (y ∷ ys) b p (Memᴰ.tail m) = let r = of_place ps ys b.1 p m in (r.0, Memᴰ.tail r.1, r.2)

  pub of_held : (ps : List ℕ) (ys : List A) → Beside P ps ys → (y : A) → Memᴰ y ys → (p : ℕ) × Memᴰ p ps × P p y
  of_held ps [] b y m = elim m [ ]
  of_held [] (z ∷ ys) b y m = absurd b
  of_held (p ∷ ps) (z ∷ ys) b y (Memᴰ.head e) = (p, Memᴰ.head refl, subst (P p) (sym e) b.0)
  of_held (p ∷ ps) (z ∷ ys) b y (Memᴰ.tail m) = let r = of_held ps ys b.1 y m in (r.0, Memᴰ.tail r.1, r.2)

module _ {K : Type 0} (same : K → K → Bool) (hash : K → ℕ) (laws : KeyLaws same hash) where
  -- Where keys stay apart, a key has one pair.
  pub one_pair : (ys : List (Pair K)) → Unlike same ys → (y z : Pair K) → Memᴰ y ys → Memᴰ z ys → same y.key z.key ≡ true → y ≡ z
  unfolding Unlike
  one_pair [] u y z m n t = elim m [ ]
  one_pair (x ∷ ys) u y z (Memᴰ.head e) (Memᴰ.head d) t = e ∙ sym d
  one_pair (x ∷ ys) u y z (Memᴰ.head e) (Memᴰ.tail n) t = let a = u.0 z n in grind arith
  one_pair (x ∷ ys) u y z (Memᴰ.tail m) (Memᴰ.head d) t = let a = u.0 y m in let s = laws.symmetric y.key z.key t in grind arith
  one_pair (x ∷ ys) u y z (Memᴰ.tail m) (Memᴰ.tail n) t = one_pair ys u.1 y z m n t

  -- Then no place comes twice, if a place holds one pair.
  pub once_placed : (P : ℕ → Pair K → Type 0) → ((p : ℕ) (y z : Pair K) → P p y → P p z → y ≡ z) → (ps : List ℕ) (ys : List (Pair K)) → Beside P ps ys → Unlike same ys → Once ps
  unfolding Unlike
  once_placed P one [] ys b u = tt
  once_placed P one (p ∷ ps) [] b u = absurd b
  once_placed P one (p ∷ ps) (y ∷ ys) b u = (twice, once_placed P one ps ys b.1 u.1)
    where
      twice : Memᴰ p ps → ⊥
      twice m = grind (arith, of_place)
