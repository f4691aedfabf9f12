-- What a draft says of itself, and what it prepares, whether it makes new cells or none.
use Rattle.std.proofs.Common.{◌≡◌, ℕ, ◌≤◌, Bool, true, false, leb, List, [], length, Some, refl, ◌∙◌, arith}
use mathlib.Core.List.{Memᴰ}
use Rattle.keys.specs.Laws.{KeyLaws}
use Rattle.keys.specs.Routes.{chunk_at}
use Rattle.std.specs.List.{slice_get}
use Rattle.std.proofs.lemmas.Bool.{and_parts, leb-true}
use Rattle.machine.specs.Machine.{plain, Prepares}
use Rattle.mains.specs.declared.Main.{Main}
use Rattle.mains.specs.declared.Main.TheVariants.{Node as node}
use Rattle.mains.specs.declared.Node.{Node}
use Rattle.rules.specs.Edits.{edited, makes_pair, adds_pair, links_of, Link, places, first, rest}
use Rattle.rules.specs.Memory.{Memory, main_at}
use Rattle.rules.specs.Perform.{Picks, chain_in}
use Rattle.rules.specs.Reached.{is_tomb}
use Rattle.rules.specs.Sound.{sound}
use Rattle.rules.specs.declared.Ask.{Ask}
use Rattle.rules.specs.declared.Ask.TheVariants.{Put, Cut}
use Rattle.rules.specs.declared.Edit.{Edit}
use Rattle.rules.specs.declared.Outcome.{Outcome}
use Rattle.rules.specs.declared.Pair.{Pair}
use Rattle.theory.proofs.Drafting.{drafted}
use Rattle.theory.proofs.Seating.{swapping, made_pair, news}
use Rattle.theory.proofs.Sights.{Drafts}
use Rattle.theory.proofs.Splitting.{fork_links, splitted}
use Rattle.theory.proofs.Writing.{NamesPair, Fine}
use Rattle.theory.specs.Fed.{asked}
use Rattle.theory.specs.Shown.{shown_mem, shown_main}

no_put : (v : ℕ) → Cut ≡ Put v → ⊥
no_put v e = let z : ◌≡◌ {A = ℕ} 0 1 = cc in omega arith

module _ {K : Type 0} (same : K → K → Bool) (hash : K → ℕ) (laws : KeyLaws same hash) where
  -- The call that has prepared its swap is the one that was opened, a put makes a pair, nothing is drafted from a tomb, and at most
  -- seven new cells are made.
  pub record Says (k : K) (ask : Ask) (y : Main) (edit : Edit) (r : Outcome) : Type 0 where
    pub plainly : plain (swapping ask (adds_pair edit) r k) ≡ asked ask k
    pub makes : (v : ℕ) → ask ≡ Put v → makes_pair edit ≡ true
    pub alive : is_tomb y ≡ false
    pub short : links_of edit ≤ 7

  -- A node stands at index 6 at most.
  pub node_low : (pairs : List (Pair K)) (index : ℕ) (y : Node) → sound same hash pairs index (node y) ≡ true → index ≤ 6
  node_low pairs index y s = leb-true index 6 (and_parts (leb index 6) _ s).0

  module _ {m : Memory K} {k : K} {index : ℕ} where
    pub says : {ask : Ask} {y : Main} {edit : Edit} {r : Outcome} → Drafts same hash m k index ask y edit r → sound same hash m.pairs index y ≡ true → Says k ask y edit r
    says (Drafts.inserts v y b) s = record { plainly = refl; makes = λ w e. refl; alive = refl; short = omega arith }
    says (Drafts.replaces v y p x b h t) s = record { plainly = refl; makes = λ w e. refl; alive = refl; short = omega arith }
    says (Drafts.removes y p x b h t) s = record { plainly = refl; makes = λ w e. absurd (no_put w e); alive = refl; short = omega arith }
    says (Drafts.splits v y p x b h t) s =
        let l = (fork_links same hash laws y index k p x (node_low m.pairs index y s)).1 in
        record { plainly = refl; makes = λ w e. refl; alive = refl; short = omega (arith, l) }
    says (Drafts.appends v l ys a b c) s = record { plainly = refl; makes = λ w e. refl; alive = refl; short = omega arith }
    says (Drafts.relists v l ys i w a b) s = record { plainly = refl; makes = λ w e. refl; alive = refl; short = omega arith }
    says (Drafts.unlists l ys i w a b) s = record { plainly = refl; makes = λ w e. absurd (no_put w e); alive = refl; short = omega arith }

    -- The memory z has the pairs that the main y names as the memory m has them, the put's own pair, and the mains of the chain.
    module _ (z : Memory K) (cells : List ℕ) (picks : Picks) where
      bare : {ask : Ask} {y : Main} {edit : Edit} {r : Outcome} → Drafts same hash m k index ask y edit r
          → Fine cells (length m.pairs) y → sound same hash m.pairs index y ≡ true
          → ((i : ℕ) → NamesPair y i → slice_get z.pairs i ≡ slice_get m.pairs i)
          → ((v : ℕ) → ask ≡ Put v → slice_get z.pairs (first picks.pairs) ≡ Some (record { key = k; value = v }))
          → links_of edit ≡ 0
          → Prepares same hash chunk_at (shown_mem z) (shown_main y) index (swapping ask (adds_pair edit) r k)
          (shown_main (edited edit (first picks.pairs) (first picks.cells))) (made_pair ask (first picks.pairs)) []
      bare d f s kept new e = drafted same hash laws m z k index (first picks.pairs) (first picks.cells) cells _ _ _ _ f s kept new d e

      pub prepares : {ask : Ask} {y : Main} {edit : Edit} {r : Outcome} → Drafts same hash m k index ask y edit r
          → Fine cells (length m.pairs) y → sound same hash m.pairs index y ≡ true
          → ((i : ℕ) → NamesPair y i → slice_get z.pairs i ≡ slice_get m.pairs i)
          → ((v : ℕ) → ask ≡ Put v → slice_get z.pairs (first picks.pairs) ≡ Some (record { key = k; value = v }))
          → length picks.cells ≡ links_of edit → length (rest picks.mains) ≡ links_of edit
          → ((i : Link) → Memᴰ i (chain_in edit picks) → main_at z.mains i.place.main ≡ Some i.holds)
          → Prepares same hash chunk_at (shown_mem z) (shown_main y) index (swapping ask (adds_pair edit) r k)
          (shown_main (edited edit (first picks.pairs) (first picks.cells))) (made_pair ask (first picks.pairs)) (news (places (chain_in edit picks)))
      prepares (Drafts.inserts v y b) f s kept new c n held = bare (Drafts.inserts v y b) f s kept new refl
      prepares (Drafts.replaces v y p x b h t) f s kept new c n held = bare (Drafts.replaces v y p x b h t) f s kept new refl
      prepares (Drafts.removes y p x b h t) f s kept new c n held = bare (Drafts.removes y p x b h t) f s kept new refl
      prepares (Drafts.splits v y p x b h t) f s kept new c n held =
          splitted same hash laws z k v index (first picks.pairs) p y x picks.cells (rest picks.mains) f.formed (node_low m.pairs index y s) b
          (kept p (chunk_at (hash k) index, b) ∙ h) t (new v refl) c n held
      prepares (Drafts.appends v l ys a b e) f s kept new c n held = bare (Drafts.appends v l ys a b e) f s kept new refl
      prepares (Drafts.relists v l ys i w a b) f s kept new c n held = bare (Drafts.relists v l ys i w a b) f s kept new refl
      prepares (Drafts.unlists l ys i w a b) f s kept new c n held = bare (Drafts.unlists l ys i w a b) f s kept new refl
