-- What a list of pairs says of a key, and that its members tell it, in any order, where no key comes twice.
use native.Mathlib.Omega.{arith}
use mathlib.Core.Path.{◌≡◌, refl, sym, ◌∙◌}
use mathlib.Core.Bool.{Bool, cond}
use mathlib.Core.List.{List, [], ◌∷◌, ◌++◌}
use mathlib.Core.Option.{none, some}
use mathlib.Core.Logic.{◌⊎◌, inl, inr}
use Prim.Native.Nat.{ℕ}
use lib.Dec.{T}
use Rattle.machine.specs.Tree.{NoTwice, In, here, later}
use Rattle.machine.specs.Pairs.{find_pair}
use Rattle.machine.proofs.Laws.{Laws}

-- A test that says no leaves the second choice.
pub unlike : {A : Type 0} (b : Bool) (v x : A) → ¬ T b → x ≡ cond b v x
unlike b v x f = grind arith

-- The only member of a list.
pub in_one : {A : Type 0} (x y : A) → In x (y ∷ []) → x ≡ y
in_one x y here = refl
in_one x y (later i) = elim i [ ]

-- A member stands first or among the rest.
pub in_split : {A : Type 0} {x y : A} {ys : List A} → In x (y ∷ ys) → (x ≡ y) ⊎ In x ys
in_split (In.here) = inl refl
in_split (In.later i) = inr i

-- A test that says yes gives the first choice.
pub alike : {A : Type 0} (b : Bool) (v x : A) → T b → cond b v x ≡ v
alike b v x t = grind arith

-- A test says yes or no.
pub T? : (b : Bool) → T b ⊎ (T b → ⊥)
T? b = grind arith

-- Pairs of other keys say nothing.
pub find_none : {K : Type 0} (same : K → K → Bool) (l : K) (ps : List (K × ℕ)) → ((x : K × ℕ) → In x ps → ¬ T (same x.0 l)) → find_pair same l ps ≡ none
unfolding find_pair
find_none same l [] f = refl
find_none same l (p ∷ ps) f = sym (unlike (same p.0 l) (some p) (find_pair same l ps) (f p here)) ∙ find_none same l ps (λ x i. f x (later i))

-- A member of a list with one more at its end.
pub in_last : {A : Type 0} (xs : List A) (y x : A) → In x (xs ++ (y ∷ [])) → In x xs ⊎ (y ≡ x)
in_last [] y x (In.here) = inr refl
in_last [] y x (In.later j) = elim j [ ]
in_last (z ∷ xs) y x (In.here) = inl here
in_last (z ∷ xs) y x (In.later j) = elim (in_last xs y x j) [ inl i ↦ inl (later i) | inr e ↦ inr e ]

module _ {K : Type 0} (same : K → K → Bool) (hash : K → ℕ) (laws : Laws same hash) where
  -- A member is found, where no key comes twice.
  pub find_in : (k : K) (ps : List (K × ℕ)) (x : K × ℕ) → NoTwice same ps → In x ps → T (same x.0 k) → find_pair same k ps ≡ some x
  unfolding find_pair
  find_in k [] x n j t = elim j [ ]
  find_in k (p ∷ ps) x n (In.here) t = alike (same p.0 k) (some p) (find_pair same k ps) t
  find_in k (p ∷ ps) x n (In.later j) t =
      let h = find_in k ps x n.1 j t in
      let g = λ (u : T (same p.0 k)). n.0 x j (laws.transitive p.0 k x.0 u (laws.symmetric x.0 k t)) in grind arith

  -- A key that a list lacks, put at its end.
  pub find_last : (k : K) (v : ℕ) (l : K) (ps : List (K × ℕ)) → ((x : K × ℕ) → In x ps → ¬ T (same x.0 k))
      → find_pair same l (ps ++ ((k, v) ∷ [])) ≡ cond (same k l) (some (k, v)) (find_pair same l ps)
  unfolding find_pair
  find_last k v l [] f = refl
  find_last k v l (p ∷ ps) f =
      let h = find_last k v l ps (λ x i. f x (later i)) in
      let g = λ (t : T (same p.0 l)) (u : T (same k l)). f p here (laws.transitive p.0 l k t (laws.symmetric k l u)) in grind arith

  -- A key of which a list says nothing is that of none of its members.
  pub find_lacks : (k : K) (ps : List (K × ℕ)) → find_pair same k ps ≡ none → (x : K × ℕ) → In x ps → ¬ T (same x.0 k)
  unfolding find_pair
  find_lacks k [] e x j t = elim j [ ]
  find_lacks k (p ∷ ps) e x (In.here) t = grind arith
  find_lacks k (p ∷ ps) e x (In.later j) t = let r = λ (u : find_pair same k ps ≡ none). find_lacks k ps u x j t in grind arith

  -- A list has a pair of an equal key or none.
  pub find_cases : (k : K) (ps : List (K × ℕ)) → ((x : K × ℕ) × In x ps × T (same x.0 k)) ⊎ ((x : K × ℕ) → In x ps → ¬ T (same x.0 k))
  find_cases k [] = inr (λ x j. elim j [ ])
  find_cases k (p ∷ ps) = elim (T? (same p.0 k)) [
    | inl t ↦ inl (p, here, t)
    | inr f ↦ elim (find_cases k ps) [
      | inl r ↦ inl (r.0, later r.1, r.2)
      | inr g ↦ inr (λ x j t. elim (in_split j) [ inl e ↦ f (rw e at t) | inr i ↦ g x i t ])
    ]
  ]

  -- Two lists with the same members of an equal key say the same.
  pub members_find : (k : K) (ps qs : List (K × ℕ)) → NoTwice same ps → NoTwice same qs
      → ((x : K × ℕ) → T (same x.0 k) → In x ps → In x qs) → ((x : K × ℕ) → T (same x.0 k) → In x qs → In x ps) → find_pair same k qs ≡ find_pair same k ps
  members_find k ps qs np nq f g = elim (find_cases k ps) [
    | inl x ↦ find_in k qs x.0 nq (f x.0 x.2 x.1) x.2 ∙ sym (find_in k ps x.0 np x.1 x.2)
    | inr n ↦ find_none same k qs (λ x j t. n x (g x t j) t) ∙ sym (find_none same k ps n)
  ]

  -- A cut in a list leaves the members but the one of an equal key.
  pub cut_members : (k : K) (ps qs : List (K × ℕ)) (x : K × ℕ) → NoTwice same ps → NoTwice same qs → In x ps → T (same x.0 k)
      → ((y : K × ℕ) → In y qs → In y ps) → ((y : K × ℕ) → In y qs → ¬ T (same y.0 k)) → ((y : K × ℕ) → In y ps → ¬ T (same y.0 k) → In y qs)
      → (l : K) → (find_pair same l qs ≡ cond (same k l) none (find_pair same l ps)) × (T (same k l) → find_pair same l ps ≡ some x)
  cut_members k ps qs x np nq j t old off kept l = (
    elim (T? (same k l)) [
      | inl u ↦ find_none same l qs (λ y i z. off y i (laws.transitive y.0 l k z (laws.symmetric k l u))) ∙ sym (alike (same k l) none (find_pair same l ps) u)
      | inr f ↦
          members_find l ps qs np nq (λ y u i. kept y i (λ z. f (laws.transitive k y.0 l (laws.symmetric y.0 k z) u))) (λ y u i. old y i)
          ∙ unlike (same k l) none (find_pair same l ps) f
    ],
    λ u. find_in l ps x np j (laws.transitive x.0 k l t u),
  )

  -- A put in a list brings its pair, new or in place of that of an equal key.
  pub put_members : (k : K) (v : ℕ) (ps qs : List (K × ℕ)) → NoTwice same ps → NoTwice same qs → In (k, v) qs
      → ((y : K × ℕ) → In y qs → ¬ T (same y.0 k) → In y ps) → ((y : K × ℕ) → In y ps → ¬ T (same y.0 k) → In y qs)
      → (l : K) → find_pair same l qs ≡ cond (same k l) (some (k, v)) (find_pair same l ps)
  put_members k v ps qs np nq j old kept l = elim (T? (same k l)) [
    | inl u ↦ find_in l qs (k, v) nq j u ∙ sym (alike (same k l) (some (k, v)) (find_pair same l ps) u)
    | inr f ↦
        let other = λ (y : K × ℕ) (u : T (same y.0 l)) (z : T (same y.0 k)). f (laws.transitive k y.0 l (laws.symmetric y.0 k z) u) in
        members_find l ps qs np nq (λ y u i. kept y i (other y u)) (λ y u i. old y i (other y u))
        ∙ unlike (same k l) (some (k, v)) (find_pair same l ps) f
  ]
