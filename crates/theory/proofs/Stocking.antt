-- A swap, and what an edit prepares, keep the stock of written cells and mains.
use Rattle.std.proofs.Common.{◌≡◌, ℕ, suc, ◌<◌, ◌≤◌, Bool, true, ltb, ◌⊎◌, List, [], ◌∷◌, ◌++◌, length, set, Some, None, sym, refl, ap, ◌∙◌, subst, inl, inr, arith, length-set}
use mathlib.Core.List.Memᴰ
use mathlib.Core.List.{Memᴰ}
use Rattle.std.specs.List.{slice_get}
use Rattle.std.proofs.lemmas.Bool.{cond-true, lt-ltb}
use Rattle.mains.specs.declared.Main.{Main}
use Rattle.rules.specs.Edits.{Link, with_cells, with_mains, links_of, makes_pair, edited, first, rest}
use Rattle.rules.specs.Memory.{Memory, State, main_limit, main_at}
use Rattle.rules.specs.Perform.{Picks, Picked, pairs_for, enough, worded, value_of, chain_in, made_memory}
use Rattle.rules.specs.Seats.{seat_of}
use Rattle.rules.specs.declared.Edit.{Edit}
use Rattle.theory.proofs.Chained.{filled, cells_filled, mains_filled}
use Rattle.theory.proofs.Chaining.{first_in, rest_in, first_or_rest, member_at, chain_in_lem, chain_at}
use Rattle.theory.proofs.Fineness.{fine_more}
use Rattle.theory.proofs.ListPlaces.{Standing, set_stands, stands_set}
use Rattle.theory.proofs.ShownMemory.{inside}
use Rattle.theory.proofs.Steady.{new_size}
use Rattle.theory.proofs.Writing.{Fine}

-- Written cells hold the numbers of written mains, and those are fine.
pub record Stock {K : Type 0} (cells mains : List ℕ) (m : Memory K) : Type 0 where
  pub root : Memᴰ 0 cells
  pub held : (c : ℕ) → Memᴰ c cells → (n : ℕ) × (slice_get m.words c ≡ Some n) × Memᴰ n mains
  pub there : (n : ℕ) → Memᴰ n mains → (x : Main) × (main_at m.mains n ≡ Some x) × Fine cells (length m.pairs) x

-- A main below the limit is inside the memory.
pub main_from : (xs : List Main) (n : ℕ) (x : Main) → n < main_limit → slice_get xs n ≡ Some x → main_at xs n ≡ Some x
main_from xs n x l e = cond-true (ltb n main_limit) (slice_get xs n) None (lt-ltb n main_limit l) ∙ e

-- A SWAP

pub stock_swap : {K : Type 0} {cells mains : List ℕ} {m : Memory K} (c n : ℕ) → Memᴰ c cells → Memᴰ n mains → Stock cells mains m → Stock cells mains (worded m (set m.words c n))
stock_swap {mains = mains} {m = m} c n i j k = record { root = k.root; held = λ d h. set_stands (λ u. Memᴰ u mains) m.words c n j d (k.held d h); there = k.there }

-- A CHAIN

module _ {A : Type 0} (at : Link → ℕ) (what : Link → A) where
  module _ (P : A → Type 0) where
    -- If all that is filled in has a property, each place that had something of the property has.
    sets_stand : (ks : List Link) (xs : List A) → ((k : Link) → Memᴰ k ks → P (what k)) → (j : ℕ) → Standing P xs j → Standing P (filled at what xs ks) j
    sets_stand [] xs f j s = s
    sets_stand (k ∷ ks) xs f j s = sets_stand ks _ (λ i m. f i (Memᴰ.tail m)) j (set_stands P xs (at k) (what k) (f k (Memᴰ.head refl)) j s)

    -- And so has each place at which something was set.
    stand_sets : (ks : List Link) (xs : List A) → ((k : Link) → Memᴰ k ks → P (what k)) → (k : Link) → Memᴰ k ks → at k < length xs → Standing P (filled at what xs ks) (at k)
    stand_sets [] xs f k m l = elim m [ ]
    stand_sets (i ∷ ks) xs f k (Memᴰ.head e) l =
        sets_stand ks _ (λ i m. f i (Memᴰ.tail m)) (at k)
        (subst (λ j. Standing P (set xs (at i) (what i)) j) (ap at (sym e)) (stands_set P xs (at i) (what i) (f i (Memᴰ.head refl)) (subst (λ (j : Link). at j < length xs) e l)))
    stand_sets (i ∷ ks) xs f k (Memᴰ.tail m) l =
        let e = length-set xs (at i) (what i) in
        stand_sets ks _ (λ i m. f i (Memᴰ.tail m)) k m (omega (arith, l, e))

  -- The same of what a chain was written into.
  module _ (P : A → Type 0) (ks : List Link) (xs ys : List A) (written : ys ≡ filled at what xs ks) (f : (k : Link) → Memᴰ k ks → P (what k)) where
    stays : (j : ℕ) → Standing P xs j → Standing P ys j
    stays j s = subst (λ zs. Standing P zs j) (sym written) (sets_stand P ks xs f j s)

    new_at : (k : Link) → Memᴰ k ks → (j : ℕ) → at k ≡ j → j < length xs → Standing P ys j
    new_at k m j e l = subst (λ zs. Standing P zs j) (sym written) (subst (Standing P _) e (stand_sets P ks xs f k m (subst (λ i. i < length xs) (sym e) l)))

-- WHAT AN EDIT PREPARES

module _ {K : Type 0} (same : K → K → Bool) (hash : K → ℕ) {s : State K} {edit : Edit} {picks : Picks} (picked : Picked same hash s edit picks) (suffice : enough edit picks ≡ true) where
  -- As many places are taken as the edit needs.
  enough_parts : (links_of edit ≤ length picks.cells) × (suc (links_of edit) ≤ length picks.mains) × (pairs_for edit ≤ length picks.pairs)
  enough_parts = grind arith

  -- The new main has its place, and so has the new pair.
  pub made_picked : Memᴰ (first picks.mains) picks.mains
  made_picked = let l = enough_parts.1 in first_in picks.mains (omega (arith, l))

  pub pair_picked : makes_pair edit ≡ true → first picks.pairs < length s.memory.pairs
  pair_picked e =
      let l = enough_parts.2 in
      let one : pairs_for edit ≡ 1 = cond-true (makes_pair edit) 1 0 e in
      let low = (picked.pairs.free (first picks.pairs) (first_in picks.pairs (omega (arith, l, one)))).0 in omega (arith, low)

  module _ {cells mains : List ℕ} (k : Stock cells mains s.memory) (t : ℕ)
      (made : Fine (picks.cells ++ cells) (length s.memory.pairs) (edited edit (first picks.pairs) (first picks.cells)))
      (linked : (i : Link) → Memᴰ i (chain_in edit picks) → Fine (picks.cells ++ cells) (length s.memory.pairs) i.holds) where
    abbrev links : List Link
    links = chain_in edit picks

    abbrev Held : ℕ → Type 0
    Held n = Memᴰ n (picks.mains ++ mains)

    abbrev Sound : Main → Type 0
    Sound x = Fine (picks.cells ++ cells) (length s.memory.pairs) x

    main_held : (i : Link) → Memᴰ i links → Held i.place.main
    main_held i m = Memᴰ.append_left mains (rest_in picks.mains _ (chain_in_lem (first picks.pairs) picks.cells (rest picks.mains) edit i m).1)

    -- There are as many cells for the chain as main places.
    as_many : (length picks.cells ≤ length (rest picks.mains)) × (length (rest picks.mains) ≤ links_of edit) × (length (rest picks.mains) ≤ length picks.cells)
    as_many = grind arith

    words_held : (c : ℕ) → Memᴰ c (picks.cells ++ cells) → Standing Held (with_cells s.memory.words links) c
    words_held c m = by (Memᴰ.append_cases picks.cells m)
      where
        by : Memᴰ c picks.cells ⊎ Memᴰ c cells → Standing Held (with_cells s.memory.words links) c
        by (inl m) =
            let at = member_at picks.cells c m in
            let i = chain_at (first picks.pairs) picks.cells (rest picks.mains) edit at.0 (omega (arith, at.1, picked.cells.few)) at.1 (omega (arith, at.1, as_many.0)) in
            new_at _ _ Held links s.memory.words _ (cells_filled s.memory.words links) main_held i.0 i.1 c (i.2 ∙ at.2) (picked.cells.free c m).0
        by (inr m) = let h = k.held c m in stays _ _ Held links s.memory.words _ (cells_filled s.memory.words links) main_held c (h.0, h.1, Memᴰ.append_right picks.mains h.2)

    -- The mains with the new one, but without the chain.
    abbrev bare : List Main
    bare = set s.memory.mains (first picks.mains) (edited edit (first picks.pairs) (first picks.cells))

    mains_there : (n : ℕ) → Memᴰ n (picks.mains ++ mains) → (n < main_limit) × Standing Sound (with_mains bare links) n
    mains_there n m = by (Memᴰ.append_cases picks.mains m)
      where
        below : (i : ℕ) → Memᴰ i picks.mains → (i < main_limit) × (i < length s.memory.mains)
        below i m = let l = (picked.mains.free i m).0 in (omega (arith, l), omega (arith, l))

        new : (n ≡ first picks.mains) ⊎ Memᴰ n (rest picks.mains) → Memᴰ n picks.mains → Standing Sound (with_mains bare links) n
        new (inl e) m = stays _ _ Sound links bare _ (mains_filled bare links) linked n (subst (Standing Sound bare) (sym e) (stands_set Sound s.memory.mains _ _ made (below (first picks.mains) made_picked).1))
        new (inr r) m =
            let at = member_at (rest picks.mains) n r in
            let i = chain_at (first picks.pairs) picks.cells (rest picks.mains) edit at.0 (omega (arith, at.1, as_many.1)) (omega (arith, at.1, as_many.2)) at.1 in
            new_at _ _ Sound links bare _ (mains_filled bare links) linked i.0 i.1 n (i.3 ∙ at.2) (subst (λ j. n < j) (sym (length-set s.memory.mains _ _)) (below n m).1)

        by : Memᴰ n picks.mains ⊎ Memᴰ n mains → (n < main_limit) × Standing Sound (with_mains bare links) n
        by (inl m) = ((below n m).0, new (first_or_rest picks.mains n m) m)
        by (inr m) =
            let h = k.there n m in
            let i = inside s.memory.mains n h.0 h.1 in
            (i.0, stays _ _ Sound links bare _ (mains_filled bare links) linked n (set_stands Sound s.memory.mains _ _ made n (h.0, i.1, fine_more (λ c m. Memᴰ.append_right picks.cells m) h.2)))

    -- The places taken join the stock.
    pub stock_made : Stock (picks.cells ++ cells) (picks.mains ++ mains) (made_memory s t edit picks)
    stock_made =
        record {
          root = Memᴰ.append_right picks.cells k.root;
          held = words_held;
          there = λ n m. subst (λ i. (x : Main) × (main_at (made_memory s t edit picks).mains n ≡ Some x) × Fine (picks.cells ++ cells) i x) (sym (new_size s.memory.pairs (makes_pair edit) (slice_get s.memory.keys t) (value_of (seat_of s t).ask) (first picks.pairs))) (let h = mains_there n m in (h.1.0, main_from _ n h.1.0 h.0 h.1.1, h.1.2));
        }
