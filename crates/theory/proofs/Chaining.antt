-- The chain of new cells that an edit makes, in the places taken.
use Rattle.std.proofs.Common.{◌≡◌, ℕ, zero, suc, ◌+◌, ◌-◌, ◌<◌, ◌≤◌, ◌⊎◌, List, [], ◌∷◌, ◌++◌, length, get_or, take, replicate, sym, refl, ap, subst, arith, length-append, length-take}
use mathlib.Core.List.{Memᴰ}
use Rattle.rules.specs.Edits.{Link, linked, chain_for, links_of, places, first, rest}
use Rattle.rules.specs.Seats.{no_cell, chain_of}
use Rattle.rules.specs.declared.Edit.{Edit}
use Rattle.rules.specs.declared.Edit.TheVariants.{Split}
use Rattle.rules.specs.declared.Fork.{Fork}
use Rattle.rules.specs.declared.NewCell.{NewCell}
use Rattle.theory.proofs.Fineness.{fine_link}
use Rattle.theory.proofs.Writing.{Fine}

-- The first of some numbers and the others.
pub first_in : (xs : List ℕ) → 1 ≤ length xs → Memᴰ (first xs) xs
first_in [] l = absurd (omega arith)
first_in (x ∷ xs) l = Memᴰ.head refl

pub rest_in : (xs : List ℕ) (y : ℕ) → Memᴰ y (rest xs) → Memᴰ y xs
rest_in [] y m = m
rest_in (x ∷ xs) y m = Memᴰ.tail m

pub first_or_rest : (xs : List ℕ) (y : ℕ) → Memᴰ y xs → (y ≡ first xs) ⊎ Memᴰ y (rest xs)
first_or_rest xs y m = grind arith

-- The others are one fewer, or none where there is no first.
pub length_rest : (xs : List ℕ) → length (rest xs) ≡ length xs - 1
length_rest xs = grind arith

-- What stands in a list stands at some place of it.
pub member_at : (xs : List ℕ) (x : ℕ) → Memᴰ x xs → (i : ℕ) × (i < length xs) × (get_or xs i 0 ≡ x)
member_at [] x m = elim m [ ]
member_at (y ∷ xs) x (Memᴰ.head e) = (0, omega arith, sym e)
member_at (y ∷ xs) x (Memᴰ.tail m) = let i = member_at xs x m in (suc i.0, omega (arith, i.1), i.2)

-- THE CHAIN OF A FORK

module _ (f : Fork) (p : ℕ) where
  -- Each link lies in a cell and a main place that were given.
  linked_in : (index : ℕ) (cells mains : List ℕ) (k : Link) → Memᴰ k (linked f p index cells mains) → Memᴰ k.place.cell cells × Memᴰ k.place.main mains
  linked_in index (c ∷ cells) (n ∷ mains) k (Memᴰ.head e) = (Memᴰ.head (ap (λ (i : Link). i.place.cell) e), Memᴰ.head (ap (λ (i : Link). i.place.main) e))
  linked_in index (c ∷ cells) (n ∷ mains) k (Memᴰ.tail m) = let i = linked_in (index + 1) cells mains k m in (Memᴰ.tail i.0, Memᴰ.tail i.1)
  linked_in index _ _ k m = elim m [ ]

  -- Where a cell and a main place were given, a link lies in both.
  linked_at : (index : ℕ) (cells mains : List ℕ) (i : ℕ) → i < length cells → i < length mains → (k : Link) × Memᴰ k (linked f p index cells mains) × (k.place.cell ≡ get_or cells i 0) × (k.place.main ≡ get_or mains i 0)
  linked_at index [] mains i l m = absurd (omega arith)
  linked_at index (c ∷ cells) [] i l m = absurd (omega arith)
  linked_at index (c ∷ cells) (n ∷ mains) zero l m = (_, Memᴰ.head refl, refl, refl)
  linked_at index (c ∷ cells) (n ∷ mains) (suc i) l m = let k = linked_at (index + 1) cells mains i (omega arith) (omega arith) in (k.0, Memᴰ.tail k.1, k.2, k.3)

  linked_short : (index : ℕ) (cells mains : List ℕ) → length (places (linked f p index cells mains)) ≤ length cells
  linked_short index (c ∷ cells) (n ∷ mains) = let l = linked_short (index + 1) cells mains in omega (arith, l)
  linked_short index _ _ = omega arith

  -- Each link holds a fine main: it names both pairs, or the next of the cells, which lie among those that may be named.
  pub linked_fine : {all : List ℕ} {pairs : ℕ} (index : ℕ) (cells mains : List ℕ) → Memᴰ 0 all → ((c : ℕ) → Memᴰ c cells → Memᴰ c all) → f.pair < pairs → p < pairs
      → (k : Link) → Memᴰ k (linked f p index cells mains) → Fine all pairs k.holds
  linked_fine index [] mains o g a b k m = elim m [ ]
  linked_fine index (c ∷ cells) [] o g a b k m = elim m [ ]
  linked_fine {all} {pairs} index (c ∷ cells) (n ∷ mains) o g a b k (Memᴰ.head e) = subst (λ (i : Link). Fine all pairs i.holds) (sym e) (fine_link f p index (first cells) a b (below cells (λ d m. g d (Memᴰ.tail m))))
    where
      below : (cells : List ℕ) → ((d : ℕ) → Memᴰ d cells → Memᴰ d all) → Memᴰ (first cells) all
      below [] g = o
      below (d ∷ cells) g = g d (Memᴰ.head refl)
  linked_fine index (c ∷ cells) (n ∷ mains) o g a b k (Memᴰ.tail m) = linked_fine (index + 1) cells mains o (λ d i. g d (Memᴰ.tail i)) a b k m

-- THE CHAIN OF AN EDIT

-- Only a fork makes new cells.
data Kind : Edit → Type 0 where
  plain : {e : Edit} → links_of e ≡ 0 → ((p : ℕ) (cells mains : List ℕ) → chain_for e p cells mains ≡ []) → Kind e
  fork : (f : Fork) → Kind (Split f)

kind : (e : Edit) → Kind e
kind (Split f) = Kind.fork f
kind _ = Kind.plain refl (λ p c m. refl)

module _ (p : ℕ) (cells mains : List ℕ) where
  pub chain_in_lem : (e : Edit) (k : Link) → Memᴰ k (chain_for e p cells mains) → Memᴰ k.place.cell cells × Memᴰ k.place.main mains
  chain_in_lem e k m = grind (arith, linked_in)

  pub chain_at : (e : Edit) (i : ℕ) → i < links_of e → i < length cells → i < length mains → (k : Link) × Memᴰ k (chain_for e p cells mains) × (k.place.cell ≡ get_or cells i 0) × (k.place.main ≡ get_or mains i 0)
  chain_at e i few l m = by e (kind e) few
    where
      by : (e : Edit) → Kind e → i < links_of e → (k : Link) × Memᴰ k (chain_for e p cells mains) × (k.place.cell ≡ get_or cells i 0) × (k.place.main ≡ get_or mains i 0)
      by e (Kind.plain o q) few = absurd (omega (arith, o))
      by e (Kind.fork f) few = linked_at f p (f.index + 1) cells mains i l m

  pub chain_short : (e : Edit) → length (places (chain_for e p cells mains)) ≤ length cells
  chain_short e = grind (arith, linked_short)

-- THE CHAIN IN THE RECORD OF A SEAT

pub in_places : (ks : List Link) (x : NewCell) → Memᴰ x (places ks) → (k : Link) × Memᴰ k ks × (x ≡ k.place)
in_places [] x m = elim m [ ]
in_places (k ∷ ks) x (Memᴰ.head e) = (k, Memᴰ.head refl, e)
in_places (k ∷ ks) x (Memᴰ.tail m) = let i = in_places ks x m in (i.0, Memᴰ.tail i.1, i.2)

-- As many of the recorded cells as there are new ones are new ones.
front_in : (n : ℕ) (xs ys : List NewCell) (x : NewCell) → Memᴰ x (take (length xs) (take n (xs ++ ys))) → Memᴰ x xs
front_in n [] ys x m = elim m [ ]
front_in zero (y ∷ xs) ys x m = elim m [ ]
front_in (suc n) (y ∷ xs) ys x (Memᴰ.head e) = Memᴰ.head e
front_in (suc n) (y ∷ xs) ys x (Memᴰ.tail m) = Memᴰ.tail (front_in n xs ys x m)

pub recorded_in : (xs : List NewCell) (x : NewCell) → Memᴰ x (take (length xs) (chain_of xs)) → Memᴰ x xs
recorded_in xs x m = front_in 7 xs (replicate 7 no_cell) x m

-- Seven at the most are recorded whole.
pub recorded_whole : (xs : List NewCell) → length xs ≤ 7 → length (take (length xs) (chain_of xs)) ≡ length xs
recorded_whole xs l = grind (arith, length-take, length-append)
