-- A hash leads to the same cells by the rules and in the memory shown.
use Rattle.std.proofs.Common.{◌≡◌, ℕ, zero, suc, Bool, length, Some, Option, sym, refl, ap, ◌∙◌, arith}
use mathlib.Core.Option.{Option as Maybe}
use Rattle.keys.proofs.Chunks.{chunk_below}
use Rattle.keys.specs.Routes.{chunk_at}
use Rattle.std.specs.List.{slice_get}
use Rattle.std.proofs.lemmas.Bool.{lt-ltb}
use Rattle.machine.proofs.Walk.{walk_back}
use Rattle.machine.specs.Machine.{Main as Shape, main, view, face, spot, lone}
use Rattle.machine.specs.Tree.{on, kid, into, walk as tree_walk}
use Rattle.mains.specs.Nodes.{branch_at}
use Rattle.mains.specs.declared.Branch.TheVariants.{Cell as cell}
use Rattle.mains.specs.declared.Main.{Main}
use Rattle.mains.specs.declared.Main.TheVariants.{Node as node}
use Rattle.mains.specs.declared.Node.{Node}
use Rattle.rules.proofs.Naming.{then_some, sound_in_lem}
use Rattle.rules.specs.Memory.{Memory, main_in, main_at}
use Rattle.rules.specs.Sanity.{walk, cell_below}
use Rattle.rules.specs.Sound.{sound_in}
use Rattle.theory.proofs.Shown.{shows_edits}
use Rattle.theory.proofs.ShownMemory.{shows_memory}
use Rattle.theory.specs.Reaching.{Leads, Intact, ShowsReach}
use Rattle.theory.specs.Shown.{slot, shown_main, shown_mem}

-- A pair is no cell.
no_cell_lem : {K : Type 0} (c : ℕ) (o : Maybe (K × ℕ)) → lone o ≡ on c → ⊥
no_cell_lem c o e = grind arith

module _ {K : Type 0} (same : K → K → Bool) (hash : K → ℕ) (m : Memory K) where
  -- What a cell shows at a chunk is what its main shows there.
  pub shows : (c q : ℕ) (x : Main) → main_in m c ≡ Some x → view (shown_mem m) c q ≡ face (shown_mem m).pairs (shown_main x) q
  unfolding view
  shows c q x e =
      let w = then_some (slice_get m.words c) (main_at m.mains) x e in
      ap (λ (n : ℕ). face (shown_mem m).pairs (main (shown_mem m) n) q) ((shows_memory K).word_at m c w.0 w.1)
      ∙ ap (λ (y : Shape). face (shown_mem m).pairs y q) ((shows_memory K).main_at_lem m w.0 x w.2)

  -- A cell below a main is named by a node at the chunk.
  below : (o : Option Main) (q c : ℕ) → cell_below same hash m o q ≡ Some c → (n : Node) × (o ≡ Some (node n)) × (branch_at n q ≡ Some (cell c))
  below o q c e = grind arith

  leads : (h index c : ℕ) → walk same hash m h index ≡ Some c → Leads m h index c
  unfolding walk tree_walk
  leads h zero c e = grind arith
  leads h (suc index) c e =
      let a = then_some (walk same hash m h index) (λ d. cell_below same hash m (sound_in same hash m index d) (chunk_at h index)) c e in
      let n = below (sound_in same hash m index a.0) (chunk_at h index) c a.2 in
      let k = sound_in_lem same hash m index a.0 (node n.0) n.1 in
      ap (λ o. into (view (shown_mem m)) o (chunk_at h index)) (leads h index a.0 a.1)
      ∙ ap kid (shows a.0 (chunk_at h index) (node n.0) k.0)
      ∙ ap (λ b. kid (spot (shown_mem m).pairs b)) (shows_edits.slot_at n.0 (chunk_at h index) (chunk_below h index))
      ∙ ap (λ o. kid (spot (shown_mem m).pairs (slot o))) n.2

  -- A main that shows a cell at a chunk is a node that names it there.
  pub named : (x : Main) (q c : ℕ) → face (shown_mem m).pairs (shown_main x) q ≡ on c → (n : Node) × (x ≡ node n) × (branch_at n q ≡ Some (cell c))
  named x q c e = grind (arith, no_cell_lem, shows_edits)

  back : Intact same hash m → (h index c : ℕ) → Leads m h index c → walk same hash m h index ≡ Some c
  unfolding walk tree_walk
  back i h zero c e = let z : 0 ≡ c = cc in rw (lt-ltb 0 (length m.words) (i.inside h zero 0 refl)) (ap Some z)
  back i h (suc index) c e =
      let a = walk_back chunk_at (view (shown_mem m)) h index c e in
      let s = i.keeps h index a.0 a.1 in
      let k = sound_in_lem same hash m index a.0 _ s in
      let n = named _ (chunk_at h index) c (sym (shows a.0 (chunk_at h index) _ k.0) ∙ a.2) in
      rw (back i h index a.0 a.1, s ∙ ap Some n.1, n.2, lt-ltb c (length m.words) (i.inside h (suc index) c e)) refl

  pub shows_reach : ShowsReach same hash m
  shows_reach = record { leads = leads; back = back }
