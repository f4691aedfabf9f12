-- What the memory holds after a preparation: what is made stands in the places taken, and all else is as before.
use Rattle.std.proofs.Common.{◌≡◌, ℕ, suc, ◌<◌, Bool, true, cond, List, map, length, set, Some, Option, sym, ap, ◌∙◌, subst, arith, length-set}
use mathlib.Core.List.Memᴰ
use mathlib.Core.List.{Memᴰ}
use Rattle.std.specs.List.{slice_get}
use Rattle.mains.specs.declared.Main.{Main}
use Rattle.rules.specs.Edits.{edited, makes_pair, links_of, Link, first, rest}
use Rattle.rules.specs.Memory.{State, main_limit, main_at}
use Rattle.rules.specs.Perform.{Picks, Picked, pairs_for, enough, with_new, chain_in, made_memory, value_of}
use Rattle.rules.specs.Reached.{Once}
use Rattle.rules.specs.Seats.{seat_of}
use Rattle.rules.specs.declared.Edit.{Edit}
use Rattle.rules.specs.declared.Pair.{Pair}
use Rattle.theory.proofs.Chained.{cell_of, number_of, filled_else, filled_at, cells_filled, mains_filled, chain_places}
use Rattle.theory.proofs.Chaining.{first_in, rest_in}
use Rattle.theory.proofs.Entries.{set_here, set_there}
use Rattle.theory.proofs.Stocking.{main_from}

-- PLACES TAKEN

-- Where none of some places comes twice, the first is not among the others, and none of those comes twice.
first_once : (xs : List ℕ) → Once xs → Memᴰ (first xs) (rest xs) → ⊥
first_once xs o m = grind arith

-- ONE MORE PAIR

module _ {K : Type 0} (pairs : List (Pair K)) where
  -- Only the place of the new pair alters, and only if the edit makes one.
  new_else : (b : Bool) (key : Option K) (v p q : ℕ) → (b ≡ true → q ≡ p → ⊥) → slice_get (with_new pairs b key v p) q ≡ slice_get pairs q
  new_else b key v p q f = grind (arith, set_there)

  new_at : (b : Bool) (o : Option K) (key : K) (v p : ℕ) → b ≡ true → o ≡ Some key → p < length pairs → slice_get (with_new pairs b o v p) p ≡ Some (record { key = key; value = v })
  new_at b o key v p e f l = grind (arith, set_here)

-- THE MEMORY MADE

module _ {K : Type 0} (same : K → K → Bool) (hash : K → ℕ) {s : State K} (t : ℕ) {edit : Edit} {picks : Picks} (picked : Picked same hash s edit picks) (room : enough edit picks ≡ true) where
  -- As many places are taken as wanted.
  pub cells_taken : length picks.cells ≡ links_of edit
  cells_taken = grind arith

  pub mains_taken : length picks.mains ≡ suc (links_of edit)
  mains_taken = grind arith

  pub pairs_taken : length picks.pairs ≡ pairs_for edit
  pairs_taken = grind arith

  pub rest_taken : length (rest picks.mains) ≡ links_of edit
  rest_taken = grind arith

  pub main_taken : Memᴰ (first picks.mains) picks.mains
  main_taken = let l = mains_taken in first_in picks.mains (omega (arith, l))

  pub pair_taken : makes_pair edit ≡ true → Memᴰ (first picks.pairs) picks.pairs
  pair_taken e = let l = pairs_taken ∙ ap (λ (b : Bool). cond b 1 0) e in first_in picks.pairs (omega (arith, l))

  -- The chain's cells and mains are the places taken.
  pub cells_of_chain : map cell_of (chain_in edit picks) ≡ picks.cells
  cells_of_chain = (chain_places edit (first picks.pairs) picks.cells (rest picks.mains) cells_taken rest_taken).0

  pub mains_of_chain : map number_of (chain_in edit picks) ≡ rest picks.mains
  mains_of_chain = (chain_places edit (first picks.pairs) picks.cells (rest picks.mains) cells_taken rest_taken).1

  pub link_cell : (i : Link) → Memᴰ i (chain_in edit picks) → Memᴰ (cell_of i) picks.cells
  link_cell i m = subst (λ (xs : List ℕ). Memᴰ (cell_of i) xs) cells_of_chain (Memᴰ.map cell_of m)

  number_in : (n : ℕ) → Memᴰ n (map number_of (chain_in edit picks)) → Memᴰ n (rest picks.mains)
  number_in n m = subst (λ (xs : List ℕ). Memᴰ n xs) mains_of_chain m

  pub link_number : (i : Link) → Memᴰ i (chain_in edit picks) → Memᴰ (number_of i) picks.mains
  link_number i m = rest_in picks.mains (number_of i) (number_in (number_of i) (Memᴰ.map number_of m))

  pub cells_once : Once (map cell_of (chain_in edit picks))
  cells_once = subst Once (sym cells_of_chain) picked.cells.once

  numbers_once : Once (map number_of (chain_in edit picks))
  numbers_once = subst Once (sym mains_of_chain) (grind arith)

  -- A main place that is taken lies in the memory, below the limit.
  number_low : (n : ℕ) → Memᴰ n picks.mains → (n < main_limit) × (n < length s.memory.mains)
  number_low n m = let l = (picked.mains.free n m).0 in (omega (arith, l), omega (arith, l))

  abbrev made_main : Main
  made_main = edited edit (first picks.pairs) (first picks.cells)

  abbrev with_main : List Main
  with_main = set s.memory.mains (first picks.mains) made_main

  -- What is not taken is as before.
  pub word_else : (c : ℕ) → (Memᴰ c picks.cells → ⊥) → slice_get (made_memory s t edit picks).words c ≡ slice_get s.memory.words c
  word_else c f = grind (arith, cells_filled, filled_else, cell_of, number_of, cells_of_chain)

  chain_else : (n : ℕ) → (Memᴰ n (rest picks.mains) → ⊥) → slice_get (made_memory s t edit picks).mains n ≡ slice_get with_main n
  chain_else n f = grind (arith, mains_filled, filled_else, number_of, number_in)

  pub main_else : (n : ℕ) → (Memᴰ n picks.mains → ⊥) → main_at (made_memory s t edit picks).mains n ≡ main_at s.memory.mains n
  main_else n f = grind (arith, chain_else, rest_in, set_there, main_taken)

  pub pair_else : (p : ℕ) → (Memᴰ p picks.pairs → ⊥) → slice_get (made_memory s t edit picks).pairs p ≡ slice_get s.memory.pairs p
  pair_else p f = grind (arith, new_else, pair_taken)

  -- What is made is in the places taken: the new main, the new pair, and each link's word and main.
  pub main_made : main_at (made_memory s t edit picks).mains (first picks.mains) ≡ Some made_main
  main_made =
      let l = number_low (first picks.mains) main_taken in
      main_from (made_memory s t edit picks).mains (first picks.mains) made_main l.0
      (chain_else (first picks.mains) (first_once picks.mains picked.mains.once)
      ∙ set_here s.memory.mains (first picks.mains) made_main l.1)

  pub pair_made : (key : K) → makes_pair edit ≡ true → slice_get s.memory.keys t ≡ Some key
      → slice_get (made_memory s t edit picks).pairs (first picks.pairs) ≡ Some (record { key = key; value = value_of (seat_of s t).ask })
  pair_made key e k = grind (arith, new_at, pair_taken)

  pub link_word : (i : Link) → Memᴰ i (chain_in edit picks) → slice_get (made_memory s t edit picks).words (cell_of i) ≡ Some (number_of i)
  link_word i m =
      ap (λ (xs : List ℕ). slice_get xs (cell_of i)) (cells_filled s.memory.words (chain_in edit picks))
      ∙ filled_at cell_of number_of s.memory.words (chain_in edit picks) i m cells_once
      (λ c k. (picked.cells.free c (subst (λ (xs : List ℕ). Memᴰ c xs) cells_of_chain k)).0)

  pub link_main_lem : (i : Link) → Memᴰ i (chain_in edit picks) → main_at (made_memory s t edit picks).mains (number_of i) ≡ Some i.holds
  link_main_lem i m =
      main_from (made_memory s t edit picks).mains (number_of i) i.holds (number_low (number_of i) (link_number i m)).0
      (ap (λ (xs : List Main). slice_get xs (number_of i)) (mains_filled with_main (chain_in edit picks))
      ∙ filled_at number_of (λ i. i.holds) with_main (chain_in edit picks) i m numbers_once
      (λ n k. rw length-set (number_low n (rest_in picks.mains n (number_in n k))).1))
