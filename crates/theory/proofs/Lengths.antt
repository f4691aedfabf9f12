-- How long lists without repeats are; that places suffice and counts agree follows.
use Rattle.std.proofs.Common.{◌≡◌, ℕ, zero, suc, ◌<◌, ◌≤◌, Bool, leb, ◌⊎◌, List, [], ◌∷◌, ◌++◌, length, sym, refl, ap, ◌∙◌, inl, inr, arith, length-append}
use mathlib.Core.List.Memᴰ
use mathlib.Core.List.{Memᴰ}
use Rattle.std.proofs.lemmas.Bool.{cases_lt, le-leb, and_from}
use Rattle.rules.specs.Edits.{links_of}
use Rattle.rules.specs.Memory.{Memory}
use Rattle.rules.specs.Perform.{Unused, pairs_for}
use Rattle.rules.specs.Reached.{Once, HowMany}
use Rattle.rules.specs.Sanity.{Counted}
use Rattle.theory.specs.Places.{Leaves, RoomSuffices, Tells}

-- A list without one of its members: one shorter, and no other is lost.
record Without (y : ℕ) (xs : List ℕ) : Type 0 where
  others : List ℕ
  shorter : suc (length others) ≡ length xs
  stays : (x : ℕ) → Memᴰ x xs → (x ≡ y) ⊎ Memᴰ x others

taken : (y : ℕ) (xs : List ℕ) → Memᴰ y xs → Without y xs
taken y [] m = elim m [ ]
taken y (x ∷ xs) (Memᴰ.head e) = record { others = xs; shorter = refl; stays = keep }
  where
    keep : (z : ℕ) → Memᴰ z (x ∷ xs) → (z ≡ y) ⊎ Memᴰ z xs
    keep z (Memᴰ.head q) = inl (q ∙ sym e)
    keep z (Memᴰ.tail k) = inr k
taken y (x ∷ xs) (Memᴰ.tail m) = on (taken y xs m)
  where
    on : Without y xs → Without y (x ∷ xs)
    on r = record { others = x ∷ r.others; shorter = ap suc r.shorter; stays = keep }
      where
        later : (z : ℕ) → (z ≡ y) ⊎ Memᴰ z r.others → (z ≡ y) ⊎ Memᴰ z (x ∷ r.others)
        later z (inl e) = inl e
        later z (inr k) = inr (Memᴰ.tail k)

        keep : (z : ℕ) → Memᴰ z (x ∷ xs) → (z ≡ y) ⊎ Memᴰ z (x ∷ r.others)
        keep z (Memᴰ.head q) = inr (Memᴰ.head q)
        keep z (Memᴰ.tail k) = later z (r.stays z k)

-- A list without repeats is not longer than one that has all its members.
pub within : (ys xs : List ℕ) → Once ys → ((y : ℕ) → Memᴰ y ys → Memᴰ y xs) → length ys ≤ length xs
within [] xs o f = omega arith
within (y ∷ ys) xs o f =
    let r = taken y xs (f y (Memᴰ.head refl)) in
    let l = within ys r.others o.1 (λ z m. other z m (r.stays z (f z (Memᴰ.tail m)))) in
    let k = r.shorter in
    omega (arith, l, k)
  where
    other : (z : ℕ) → Memᴰ z ys → {zs : List ℕ} → (z ≡ y) ⊎ Memᴰ z zs → Memᴰ z zs
    other z m e = grind arith

-- The numbers below n.
abbrev below : ℕ → List ℕ
below zero = []
below (suc n) = n ∷ below n

in_below : (n x : ℕ) → Memᴰ x (below n) → x < n
in_below zero x m = elim m [ ]
in_below (suc n) x (Memᴰ.head e) = omega (arith, e)
in_below (suc n) x (Memᴰ.tail m) = omega (arith, in_below n x m)

once_below : (n : ℕ) → Once (below n)
once_below zero = tt
once_below (suc n) = (λ m. omega (arith, in_below n n m), once_below n)

length_below : (n : ℕ) → length (below n) ≡ n
length_below zero = refl
length_below (suc n) = ap suc (length_below n)

-- A list that has every number below n has n members or more.
covering : (n : ℕ) (xs : List ℕ) → ((x : ℕ) → x < n → Memᴰ x xs) → n ≤ length xs
covering n xs f =
    let l = within (below n) xs (once_below n) (λ x m. f x (in_below n x m)) in
    let k = length_below n in
    omega (arith, l, k)

-- Fewer than wanted are taken only where the places in use leave fewer.
finds : (InUse : ℕ → Type 0) (n wanted : ℕ) (picks : List ℕ) → Unused InUse n wanted picks → Leaves InUse n wanted → wanted ≤ length picks
finds InUse n wanted picks u r = by (cases_lt (length picks) wanted)
  where
    all : length picks < wanted → (x : ℕ) → x < n → Memᴰ x (r.used ++ picks)
    all l x k = side (u.all l x k)
      where
        side : InUse x ⊎ Memᴰ x picks → Memᴰ x (r.used ++ picks)
        side (inl i) = Memᴰ.append_left picks (r.all x i)
        side (inr m) = Memᴰ.append_right r.used m

    by : (length picks < wanted) ⊎ (wanted ≤ length picks) → wanted ≤ length picks
    by (inl l) =
        let c = covering n (r.used ++ picks) (all l) in
        let a = length-append r.used picks in
        let s = r.short in
        absurd (omega (arith, c, a, s, l))
    by (inr l) = l

-- Two numbers of the same things are one.
same_number : (P : ℕ → Type 0) (n m : ℕ) → HowMany P n → HowMany P m → n ≡ m
same_number P n m a b = grind (arith, within)

module _ {K : Type 0} (same : K → K → Bool) (hash : K → ℕ) where
  pub room_suffices_lem : RoomSuffices same hash
  room_suffices_lem s edit picks p r =
      let cells = finds _ _ _ _ p.cells r.cells in
      let mains = finds _ _ _ _ p.mains r.mains in
      let pairs = finds _ _ _ _ p.pairs r.pairs in
      and_from (leb (links_of edit) (length picks.cells)) _ (le-leb _ _ cells)
      (and_from (leb (suc (links_of edit)) (length picks.mains)) _ (le-leb _ _ mains) (le-leb (pairs_for edit) (length picks.pairs) pairs))

  pub tells : (m : Memory K) → Counted same hash m → Tells same hash m
  tells m c =
      record {
        cells = λ n k. same_number _ _ n c.cells k;
        pairs = λ n k. same_number _ _ n c.pairs k;
        tombs = λ n k. same_number _ _ n c.tombs k;
      }
