-- A formatted memory reaches its root, a node without branches, and nothing else.
use Rattle.std.proofs.Common.{◌≡◌, ℕ, ◌<◌, Bool, true, leb, List, [], ◌∷◌, length, set, Some, None, sym, refl, ap, ◌∙◌, subst, arith, length-set}
use mathlib.Core.List.{Memᴰ}
use Rattle.std.proofs.lemmas.Bool.{and_parts, leb-true}
use Rattle.std.proofs.lemmas.Option.{same_Some}
use Rattle.mains.specs.Nodes.{empty_node}
use Rattle.mains.specs.declared.Main.{Main}
use Rattle.mains.specs.declared.Main.TheVariants.{Node as node}
use Rattle.rules.specs.Calls.{between, in_limits, suffices, words_needed, mains_needed, format_refusal, formatted}
use Rattle.rules.specs.Memory.{Memory}
use Rattle.rules.specs.Reached.{Reached, branches_of, cells_of, pairs_of, is_tomb}
use Rattle.rules.specs.Sanity.{Fresh, FormatsFresh}
use Rattle.rules.specs.Sound.{sound_in}
use Rattle.rules.specs.declared.Figures.{Figures}
use Rattle.rules.specs.declared.Pair.{Pair}

-- Figures that are accepted lie within the limits, and the memory suffices.
pub accepted : {K : Type 0} (f : Figures) (m : Memory K) → format_refusal f m ≡ None → (in_limits f ≡ true) × (suffices f m ≡ true)
accepted f m e = grind arith

module _ {K : Type 0} (same : K → K → Bool) (hash : K → ℕ) where
  root_holds : (words : List ℕ) (mains : List Main) (pairs : List (Pair K)) (keys : List K) → 0 < length words → 0 < length mains → sound_in same hash (record { words = set words 0 0; mains = set mains 0 (node empty_node); pairs = pairs; keys = keys }) 0 0 ≡ Some (node empty_node)
  root_holds (w ∷ words) (x ∷ mains) pairs keys l k = refl
  root_holds _ _ pairs keys l k = absurd (omega arith)

  no_cells : cells_of (node empty_node) ≡ []
  unfolding branches_of
  no_cells = refl

  no_pairs : pairs_of (node empty_node) ≡ []
  unfolding branches_of
  no_pairs = refl

  not_in : {x : ℕ} (xs : List ℕ) → xs ≡ [] → Memᴰ x xs → ⊥
  not_in xs e m = grind arith

  module _ (m : Memory K) (inside : 0 < length m.words) (empty : sound_in same hash m 0 0 ≡ Some (node empty_node)) where
    -- Nothing is below the root.
    cells : (index c : ℕ) → Reached same hash m index c → (index ≡ 0) × (c ≡ 0)
    cells index c (Reached.root l) = (refl, refl)
    cells index c (Reached.next {index = i} {c = a} k x e d named within) =
        let before = cells i a k in
        let is : x ≡ node empty_node =
        same_Some x (node empty_node) (sym e ∙ (ap (λ j. sound_in same hash m j a) before.0 ∙ (ap (sound_in same hash m 0) before.1 ∙ empty))) in
        absurd (not_in (cells_of (node empty_node)) no_cells (subst (λ y. Memᴰ d (cells_of y)) is named))

    at_root : (index c : ℕ) (x : Main) → Reached same hash m index c → sound_in same hash m index c ≡ Some x → x ≡ node empty_node
    at_root index c x k e = grind (arith, cells, same_Some)

    fresh : Fresh same hash m
    fresh =
        record {
          root = Reached.root inside;
          empty = empty;
          cells = cells;
          pairs =
              λ p r.
              not_in (pairs_of (node empty_node)) no_pairs
              (subst (λ y. Memᴰ p (pairs_of y)) (at_root r.index r.cell r.main r.at r.keeps) r.names);
          tombs =
              λ n r.
              let t : is_tomb (node empty_node) ≡ true = subst (λ y. is_tomb y ≡ true) (at_root r.index r.cell r.main r.at r.keeps) r.dead in
              let z : ◌≡◌ {A = ℕ} 0 1 = cc in
              omega arith;
        }

  pub formats_fresh : FormatsFresh same hash
  formats_fresh f m e =
      let ok = accepted f m e in
      let seats = (and_parts (between 1 f.seats 8) _ ok.0).0 in
      let some = leb-true 1 f.seats (and_parts (leb 1 f.seats) (leb f.seats 8) seats).0 in
      let enough = and_parts (leb (words_needed f) (length m.words)) _ ok.1 in
      let words = leb-true (words_needed f) (length m.words) enough.0 in
      let mains = leb-true (mains_needed f) (length m.mains) (and_parts (leb (mains_needed f) (length m.mains)) _ enough.1).0 in
      let n = length-set m.words 0 0 in
      fresh (formatted f m).memory (omega arith) (root_holds m.words m.mains m.pairs m.keys (omega arith) (omega arith))
