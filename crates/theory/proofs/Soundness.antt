-- A main that keeps the machine's rules where it shows keeps the rules of the table.
use Rattle.std.proofs.Common.{◌≡◌, ℕ, zero, suc, ◌^◌, ◌<◌, ◌≤◌, Bool, true, false, not, ◌&&◌, ◌||◌, T, eqb, leb, List, [], ◌∷◌, map, length, get_or, is_some, Some, Option, sym, refl, ap, ◌∙◌, subst, arith}
use mathlib.Core.List.{Memᴰ}
use native.Mathlib.Decide.{ℕ_discrete}
use Rattle.keys.proofs.Chunks.{prefix_by_chunks, prefix_whole}
use Rattle.keys.specs.Laws.{KeyLaws}
use Rattle.keys.specs.Routes.{chunk_at}
use Rattle.std.specs.List.{slice_get}
use Rattle.std.proofs.lemmas.Bool.{and_from, or_from, or_left, or_right, not_from_false, le-leb, eq-eqb, ne_eqb, false_from_ne_true}
use Rattle.std.proofs.lemmas.Float.{T_from_true}
use Rattle.machine.specs.Machine.{nothing, Taken, gather, join}
use Rattle.machine.specs.Rules.{NodeRule}
use Rattle.machine.specs.Tree.{Agree, In, here, later, NoTwice}
use Rattle.mains.proofs.Listings.{length_listed}
use Rattle.mains.proofs.Sizes.{size_place}
use Rattle.mains.proofs.Standing.{has_some}
use Rattle.mains.specs.Laws.{WellFormed, WellListed}
use Rattle.mains.specs.Lists.{listed}
use Rattle.mains.specs.Nodes.{size, lone}
use Rattle.mains.specs.declared.Branch.{Branch}
use Rattle.mains.specs.declared.Node.{Node}
use Rattle.mains.specs.declared.PairList.{PairList}
use Rattle.rules.specs.Memory.{Memory}
use Rattle.rules.specs.Sound.{is_lone_pair, sound_node, sound_list, among, alike, all_alike, pairs_at, with_pair}
use Rattle.rules.specs.declared.Pair.{Pair}
use Rattle.theory.proofs.Shown.{shows_edits}
use Rattle.theory.proofs.ShownMemory.{shows_memory}
use Rattle.theory.specs.Shown.{slot, slots, shown_pair, shown_mem}

-- What is below the length of a list is there.
pub nth_there : {A : Type 0} (xs : List A) (i : ℕ) → i < length xs → (x : A) × (slice_get xs i ≡ Some x)
nth_there [] i l = absurd (omega arith)
nth_there (x ∷ xs) zero l = (x, refl)
nth_there (x ∷ xs) (suc i) l = nth_there xs i (omega arith)

-- NODES

-- A slot that is taken shows a branch.
taken_some : (o : Option Branch) → Taken (slot o) → (b : Branch) × (o ≡ Some b)
taken_some o t = grind arith

module _ (n : Node) (w : WellFormed n) where
  -- A node that shows a branch has a size.
  sized : (q : ℕ) → Taken (get_or (slots n) q nothing) → size n ≡ 0 → ⊥
  sized q t e = grind (arith, taken_some, shows_edits, size_place, has_some)

  pub sound_node_lem : (i : ℕ) → NodeRule i (slots n) → sound_node i n ≡ true
  sound_node_lem i r = and_from (leb i 6) _ (le-leb i 6 r.high) (by (ℕ_discrete i 0))
    where
      by : Dec (i ≡ 0) → (eqb i 0 || (not (eqb (size n) 0) && not (is_lone_pair (lone n)))) ≡ true
      by (yes e) = or_left (eqb i 0) _ (eq-eqb i 0 e)
      by (no ne) =
          let l : 0 < i = omega arith in
          let a = r.any l in
          or_right (eqb i 0) _
          (and_from (not (eqb (size n) 0)) _ (not_from_false (eqb (size n) 0) (ne_eqb (size n) 0 (sized a.0 a.1)))
          (not_from_false (is_lone_pair (lone n)) (grind (arith, shows_edits))))

-- LISTS

-- Pairs that are there are found, and show as they are gathered.
pub gathered : {K : Type 0} (pairs : List (Pair K)) (ps : List ℕ) → ((p : ℕ) → Memᴰ p ps → p < length pairs)
    → (ys : List (Pair K)) × (pairs_at pairs ps ≡ Some ys) × (gather (map shown_pair pairs) ps ≡ map shown_pair ys)
gathered pairs [] f = ([], refl, refl)
gathered {K} pairs (p ∷ ps) f =
    let y = nth_there pairs p (f p (Memᴰ.head refl)) in
    let r = gathered pairs ps (λ q i. f q (Memᴰ.tail i)) in
    let m : Memory K = record { words = []; mains = []; pairs = pairs; keys = [] } in (
      y.0 ∷ r.0,
      ap (λ o. with_pair o (pairs_at pairs ps)) y.1 ∙ ap (with_pair (Some y.0)) r.1,
      ap (λ o. join o (gather (map shown_pair pairs) ps)) ((shows_memory K).pair_at m p y.0 y.1) ∙ ap (λ (zs : List (K × ℕ)). shown_pair y.0 ∷ zs) r.2,
    )

-- Hashes of 32 bits with the same seven chunks are the same.
whole : (h g i : ℕ) → h < 2 ^ 32 → g < 2 ^ 32 → Agree chunk_at h i 7 → Agree chunk_at g i 7 → h ≡ g
whole h g i hl gl a b = prefix_whole h g hl gl ((prefix_by_chunks h g 7).shared (λ j _ l. a j l ∙ sym (b j l)))

module _ {K : Type 0} (same : K → K → Bool) (hash : K → ℕ) (laws : KeyLaws same hash) where
  -- A key that is none of some keys is not among them.
  lacking : (k : K) (ys : List (Pair K)) → ((y : K × ℕ) → In y (map shown_pair ys) → T (same k y.0) → ⊥) → among same hash k ys ≡ false
  lacking k [] f = refl
  lacking k (y ∷ ys) f =
      or_from (same y.key k) _ (false_from_ne_true (same y.key k) (λ e. f (shown_pair y) here (T_from_true _ (laws.symmetric y.key k e))))
      (lacking k ys (λ z i. f z (later i)))

  -- Pairs of which no key comes twice, and whose hashes agree in all chunks.
  alikes : (h : ℕ) (ys : List (Pair K)) → NoTwice same (map shown_pair ys) → ((y : K × ℕ) → In y (map shown_pair ys) → Agree chunk_at (hash y.0) h 7) → alike same hash ys ≡ true
  alikes h (y ∷ (z ∷ ys)) t f =
      and_from (eqb (hash y.key) (hash z.key)) _
      (eq-eqb (hash y.key) (hash z.key) (whole (hash y.key) (hash z.key) h (laws.short y.key) (laws.short z.key) (f (shown_pair y) here) (f (shown_pair z) (later here))))
      (and_from (not (among same hash y.key (z ∷ ys))) _ (not_from_false _ (lacking y.key (z ∷ ys) t.0)) (alikes h (z ∷ ys) t.1 (λ x i. f x (later i))))
  alikes h _ t f = refl

  pub sound_list_lem : (m : Memory K) (h i : ℕ) (l : PairList) → WellListed l → ((p : ℕ) → Memᴰ p (listed l) → p < length m.pairs)
      → (i ≡ 7) × (2 ≤ length (listed l)) × (length (listed l) ≤ 32) × NoTwice same (gather (shown_mem m).pairs (listed l))
      → ((y : K × ℕ) → In y (gather (shown_mem m).pairs (listed l)) → Agree chunk_at (hash y.0) h 7)
      → sound_list same hash m.pairs i l ≡ true
  sound_list_lem m h i l w inside r f =
      let e = length_listed l in
      let two = r.1 in
      let row = w.row in
      let g = gathered m.pairs (listed l) inside in
      and_from (eqb i 7) _ (eq-eqb i 7 r.0)
      (and_from (leb 2 l.count) _ (le-leb 2 l.count (omega (arith, e, two)))
      (and_from (leb l.count 32) _ (le-leb l.count 32 w.counted)
      (ap (all_alike same hash) g.1
      ∙ alikes h g.0 (subst (NoTwice same) g.2 r.3) (λ y j. f y (subst (In y) (sym g.2) j)))))

  pub sound_tomb : (m : Memory K) (i p : ℕ) → 1 ≤ i → i ≤ 7 → p < length m.pairs → (leb 1 i && (leb i 7 && is_some (slice_get m.pairs p))) ≡ true
  sound_tomb m i p l k j =
      and_from (leb 1 i) _ (le-leb 1 i l) (and_from (leb i 7) _ (le-leb i 7 k) (ap is_some (nth_there m.pairs p j).1))
