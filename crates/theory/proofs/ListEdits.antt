-- The members of a list after one of them is set or taken out, and that no key comes twice then, if none did.
use Rattle.std.proofs.Common.{◌≡◌, ℕ, zero, suc, ◌<◌, Bool, T, ◌⊎◌, List, [], ◌∷◌, length, set, sym, refl, subst, inl, inr, arith}
use mathlib.Core.Option.{some}
use Rattle.std.specs.List.{remove}
use Rattle.machine.proofs.Laws.{Laws}
use Rattle.machine.proofs.Walk.{no_some, some_is}
use Rattle.machine.specs.Tree.{In, here, later, nth, NoTwice}

module _ {A : Type 0} where
  -- A member that is in another list or is excused is so too behind one more element.
  further : {B : Type 0} (y r : A) (ys : List A) → In r ys ⊎ B → In r (y ∷ ys) ⊎ B
  further y r ys (inl i) = inl (later i)
  further y r ys (inr b) = inr b

  -- What is at a place is a member, and the place is one of the list's.
  pub at_in : (xs : List A) (i : ℕ) (x : A) → nth xs i ≡ some x → In x xs
  at_in [] i x e = absurd (no_some e)
  at_in (y ∷ xs) zero x e = subst (λ u. In u (y ∷ xs)) (some_is e) here
  at_in (y ∷ xs) (suc i) x e = later (at_in xs i x e)

  pub at_low : (xs : List A) (i : ℕ) (x : A) → nth xs i ≡ some x → i < length xs
  at_low [] i x e = absurd (no_some e)
  at_low (y ∷ xs) zero x e = omega arith
  at_low (y ∷ xs) (suc i) x e = let l = at_low xs i x e in omega (arith, l)

  -- The members after one is set: old ones and the new one, and all old ones but the one that was there.
  pub set_in : (xs : List A) (i : ℕ) (y r : A) → In r (set xs i y) → In r xs ⊎ (y ≡ r)
  set_in [] i y r j = elim j [ ]
  set_in (x ∷ xs) zero y r (In.here) = inr refl
  set_in (x ∷ xs) zero y r (In.later j) = inl (later j)
  set_in (x ∷ xs) (suc i) y r (In.here) = inl here
  set_in (x ∷ xs) (suc i) y r (In.later j) = further x r xs (set_in xs i y r j)

  pub set_new : (xs : List A) (i : ℕ) (x y : A) → nth xs i ≡ some x → In y (set xs i y)
  set_new [] i x y e = absurd (no_some e)
  set_new (z ∷ xs) zero x y e = here
  set_new (z ∷ xs) (suc i) x y e = later (set_new xs i x y e)

  pub set_kept : (xs : List A) (i : ℕ) (x y r : A) → nth xs i ≡ some x → In r xs → In r (set xs i y) ⊎ (x ≡ r)
  set_kept [] i x y r e j = elim j [ ]
  set_kept (z ∷ xs) zero x y r e (In.here) = inr (sym (some_is e))
  set_kept (z ∷ xs) zero x y r e (In.later j) = inl (later j)
  set_kept (z ∷ xs) (suc i) x y r e (In.here) = inl here
  set_kept (z ∷ xs) (suc i) x y r e (In.later j) = further z r (set xs i y) (set_kept xs i x y r e j)

  -- The members after one is taken out: all old ones but that one.
  pub out_in : (xs : List A) (i : ℕ) (r : A) → In r (remove xs i) → In r xs
  out_in [] zero r j = elim j [ ]
  out_in [] (suc i) r j = elim j [ ]
  out_in (x ∷ xs) zero r j = later j
  out_in (x ∷ xs) (suc i) r (In.here) = here
  out_in (x ∷ xs) (suc i) r (In.later j) = later (out_in xs i r j)

  pub out_kept : (xs : List A) (i : ℕ) (x r : A) → nth xs i ≡ some x → In r xs → In r (remove xs i) ⊎ (x ≡ r)
  out_kept [] i x r e j = elim j [ ]
  out_kept (z ∷ xs) zero x r e (In.here) = inr (sym (some_is e))
  out_kept (z ∷ xs) zero x r e (In.later j) = inl j
  out_kept (z ∷ xs) (suc i) x r e (In.here) = inl here
  out_kept (z ∷ xs) (suc i) x r e (In.later j) = further z r (remove xs i) (out_kept xs i x r e j)

-- A list with one pair taken out has no key twice.
pub out_no_twice : {K : Type 0} (same : K → K → Bool) (xs : List (K × ℕ)) (i : ℕ) → NoTwice same xs → NoTwice same (remove xs i)
out_no_twice same [] zero n = tt
out_no_twice same [] (suc i) n = tt
out_no_twice same (z ∷ xs) zero n = n.1
out_no_twice same (z ∷ xs) (suc i) n = ((λ y j u. n.0 y (out_in xs i y j) u), out_no_twice same xs i n.1)

module _ {K : Type 0} (same : K → K → Bool) (hash : K → ℕ) (laws : Laws same hash) (k : K) where
  -- Two keys equal to k are equal.
  both : (a b : K) → T (same a k) → T (same b k) → T (same a b)
  both a b t u = laws.transitive a k b t (laws.symmetric b k u)

  -- What is at the head of a list has a key equal to k.
  at_head : (z x : K × ℕ) → some z ≡ some x → T (same x.0 k) → T (same z.0 k)
  at_head z x e t = subst (λ (w : K × ℕ). T (same w.0 k)) (sym (some_is e)) t

  -- A pair in place of one of an equal key leaves no key twice.
  pub set_no_twice : (xs : List (K × ℕ)) (i v : ℕ) (x : K × ℕ) → NoTwice same xs → nth xs i ≡ some x → T (same x.0 k) → NoTwice same (set xs i (k, v))
  set_no_twice [] i v x n e t = tt
  set_no_twice (z ∷ xs) zero v x n e t = ((λ y j u. n.0 y j (laws.transitive z.0 k y.0 (at_head z x e t) u)), n.1)
  set_no_twice (z ∷ xs) (suc i) v x n e t = ((λ y j u. apart y (set_in xs i (k, v) y j) u), set_no_twice xs i v x n.1 e t)
    where
      apart : (y : K × ℕ) → In y xs ⊎ ((k, v) ≡ y) → T (same z.0 y.0) → ⊥
      apart y (inl j) u = n.0 y j u
      apart y (inr s) u = n.0 x (at_in xs i x e) (both z.0 x.0 (subst (λ (w : K × ℕ). T (same z.0 w.0)) (sym s) u) t)

  -- Where a pair of an equal key is taken out, no other pair has one.
  pub out_other : (xs : List (K × ℕ)) (i : ℕ) (x : K × ℕ) → NoTwice same xs → nth xs i ≡ some x → T (same x.0 k) → (y : K × ℕ) → In y (remove xs i) → ¬ T (same y.0 k)
  out_other [] i x n e t y j = absurd (no_some e)
  out_other (z ∷ xs) zero x n e t y j = λ u. n.0 y j (both z.0 y.0 (at_head z x e t) u)
  out_other (z ∷ xs) (suc i) x n e t y (In.here) = λ u. n.0 x (at_in xs i x e) (both z.0 x.0 u t)
  out_other (z ∷ xs) (suc i) x n e t y (In.later j) = out_other xs i x n.1 e t y j
