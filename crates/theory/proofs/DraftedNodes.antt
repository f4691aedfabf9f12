-- What a put, a cut or a cleaning drafts from a node without new cells, in the words of the machine.
use Rattle.std.proofs.Common.{◌≡◌, ℕ, ◌<◌, Bool, true, false, eqb, ◌≢◌, List, [], length, get_or, set, Some, None, Option, sym, refl, ap, ◌∙◌, subst, arith, get_or-set_other, get_or-set_same}
use mathlib.Core.Option.{none, some}
use Rattle.std.specs.List.{slice_get}
use Rattle.std.proofs.lemmas.Bool.{cond_both, eqb-true, eqb-false}
use Rattle.std.proofs.lemmas.Option.{none-some}
use Rattle.keys.proofs.Chunks.{chunk_below}
use Rattle.keys.specs.Routes.{chunk_at}
use Rattle.machine.proofs.Laws.{holds}
use Rattle.machine.specs.Machine.{Branch as Slot, nothing, pair as paired, Taken, node as noded, tomb as tombed, put, renew, cutting, Prepares, Cleans}
use Rattle.mains.proofs.Edits.{replaced_formed, removed_formed}
use Rattle.mains.specs.Laws.{WellFormed}
use Rattle.mains.specs.Nodes.{branch_at, inserted, replaced, removed, lone}
use Rattle.mains.specs.declared.Branch.{Branch}
use Rattle.mains.specs.declared.Branch.TheVariants.{Pair as pair, Cell as cell}
use Rattle.mains.specs.declared.Main.{Main}
use Rattle.mains.specs.declared.Main.TheVariants.{Node as node, Tomb as tomb}
use Rattle.mains.specs.declared.Node.{Node}
use Rattle.rules.specs.Edits.{entombed, kept_node}
use Rattle.rules.specs.Memory.{Memory}
use Rattle.rules.specs.declared.Pair.{Pair}
use Rattle.theory.proofs.Shown.{shows_edits}
use Rattle.theory.proofs.ShownMemory.{shows_memory}
use Rattle.theory.specs.Shown.{slot, slots, shown_mem, shown_main, OnlyAt, Beside}

-- Branches told apart.
pair_cell : {p c : ℕ} → ◌≡◌ {A = Option Branch} (Some (pair p)) (Some (cell c)) → ⊥
pair_cell e = let z : ◌≡◌ {A = ℕ} 0 1 = cc in omega arith

-- A branch of a node that has only one is that one.
only_is : (n : Node) (q r : ℕ) (x w : Branch) → OnlyAt n q x → branch_at n r ≡ Some w → (r ≡ q) × (Some w ≡ Some x)
only_is n q r x w o e = grind arith

-- What a node becomes: itself, and below the root each of its pairs has a branch beside it; or, below the root, the tomb of its only branch.
pub kept_node_lem : (P : Main → Type 0) (index : ℕ) (n : Node) → WellFormed n
    → ((0 < index → (q u : ℕ) → branch_at n q ≡ Some (pair u) → Beside n q) → P (node n))
    → (0 < index → (q u : ℕ) → OnlyAt n q (pair u) → P (tomb u))
    → P (kept_node index n)
kept_node_lem P index n w stays buried =
    cond_both (eqb index 0) (node n) (entombed (lone n) n) P (λ t. let root = eqb-true index 0 t in stays (λ l. absurd (omega (arith, root, l)))) (λ f. by f (lone n) refl)
  where
    by : eqb index 0 ≡ false → (o : Option Branch) → lone n ≡ o → P (entombed o n)
    by f None e = stays (λ l q u b. shows_edits.lone_none n q (pair u) w e b)
    by f (Some (pair u)) e = let below = eqb-false index 0 f in let o = shows_edits.lone_only n (pair u) w e in buried (omega (arith, below)) o.0 u o.1
    by f (Some (cell c)) e = let o = shows_edits.lone_only n (cell c) w e in stays (λ l q u b. absurd (pair_cell (only_is n o.0 q (cell c) (pair u) o.1 b).1))

-- A slot that is set leaves the others.
elsewhere : (n y : Node) (q : ℕ) (b : Slot) → slots n ≡ set (slots y) q b → (r : ℕ) → r ≢ q → get_or (slots n) r nothing ≡ get_or (slots y) r nothing
elsewhere n y q b e r ne = ap (λ (bs : List Slot). get_or bs r nothing) e ∙ get_or-set_other (slots y) q r b nothing ne

-- The node y, at a key's chunk of an index.
module _ {K : Type 0} (same : K → K → Bool) (hash : K → ℕ) (k : K) (index : ℕ) (y : Node) (formed : WellFormed y) where
  abbrev chunk : ℕ
  chunk = chunk_at (hash k) index

  -- The chunk is one of the slots, and shows what stands there.
  inside : chunk < length (slots y)
  inside = subst (λ (n : ℕ). chunk < n) (sym (shows_edits.length_slots y)) (chunk_below (hash k) index)

  shown_at : (o : Option Branch) → branch_at y chunk ≡ o → get_or (slots y) chunk nothing ≡ slot o
  shown_at o e = shows_edits.slot_at y chunk (chunk_below (hash k) index) ∙ ap slot e

  -- A put, with its pair in the place p of the memory z.
  module _ (z : Memory K) (v p : ℕ) (new : slice_get z.pairs p ≡ Some (record { key = k; value = v })) where
    pub insert_drafted : branch_at y chunk ≡ None → Prepares same hash chunk_at (shown_mem z) (noded (slots y)) index (put k v) (noded (slots (inserted y chunk (pair p)))) (some p) []
    insert_drafted e =
        subst (λ (bs : List Slot). Prepares same hash chunk_at (shown_mem z) (noded (slots y)) index (put k v) (noded bs) (some p) [])
        (sym (shows_edits.inserts y chunk (pair p) formed (chunk_below (hash k) index) e))
        (Prepares.adds k v (slots y) p refl inside (shown_at None e) ((shows_memory K).pair_at z p (record { key = k; value = v }) new))

    pub replace_drafted : (r : ℕ) (x : Pair K) → branch_at y chunk ≡ Some (pair r) → slice_get z.pairs r ≡ Some x → same x.key k ≡ true
        → Prepares same hash chunk_at (shown_mem z) (noded (slots y)) index (renew k v) (noded (slots (replaced y chunk (pair p)))) (some p) []
    replace_drafted r x e there t =
        subst (λ (bs : List Slot). Prepares same hash chunk_at (shown_mem z) (noded (slots y)) index (renew k v) (noded bs) (some p) [])
        (sym (shows_edits.replaces y chunk (pair p) (pair r) formed e))
        (Prepares.replaces k v (slots y) r p (x.key, x.value) refl inside (shown_at (Some (pair r)) e) ((shows_memory K).pair_at z r x there) (holds (same x.key k) t)
        ((shows_memory K).pair_at z p (record { key = k; value = v }) new))

  -- A cut takes the pair at the chunk out; the memory z has all pairs that the node names.
  pub remove_drafted : (z : Memory K) (r : ℕ) (x : Pair K) → branch_at y chunk ≡ Some (pair r) → slice_get z.pairs r ≡ Some x → same x.key k ≡ true
      → ((q u : ℕ) → branch_at y q ≡ Some (pair u) → (o : Pair K) × (slice_get z.pairs u ≡ Some o))
      → Prepares same hash chunk_at (shown_mem z) (noded (slots y)) index (cutting k x.value) (shown_main (kept_node index (removed y chunk))) none []
  remove_drafted z r x e there t all =
      kept_node_lem (λ (Y : Main). Prepares same hash chunk_at (shown_mem z) (noded (slots y)) index (cutting k x.value) (shown_main Y) none []) index (removed y chunk) (removed_formed y chunk formed)
      (λ beside.
      subst (λ (bs : List Slot). Prepares same hash chunk_at (shown_mem z) (noded (slots y)) index (cutting k x.value) (noded bs) none []) (sym less)
      (Prepares.drops k (slots y) r (x.key, x.value) refl inside (shown_at (Some (pair r)) e) ((shows_memory K).pair_at z r x there) (holds (same x.key k) t)
      (λ l q u ne h. another q ne (beside l q u (shows_edits.pair_from (removed y chunk) q u (elsewhere (removed y chunk) y chunk nothing less q ne ∙ h))))))
      (λ l q u o.
      let ne = kept_at q (pair u) o.here in
      let h = sym (elsewhere (removed y chunk) y chunk nothing less q ne) ∙ o.shows in
      let other = all q u (shows_edits.pair_from y q u h) in
      Prepares.entombs k (slots y) r (x.key, x.value) q u (other.0.key, other.0.value) refl (shown_at (Some (pair r)) e) ((shows_memory K).pair_at z r x there) (holds (same x.key k) t)
      ne h ((shows_memory K).pair_at z u other.0 other.1)
      (λ j a b. sym (elsewhere (removed y chunk) y chunk nothing less j a) ∙ o.empty j b) l)
    where
      less : slots (removed y chunk) ≡ set (slots y) chunk nothing
      less = shows_edits.removes y chunk formed

      gone : branch_at (removed y chunk) chunk ≡ None
      gone = shows_edits.nothing_from (removed y chunk) chunk (removed_formed y chunk formed) (ap (λ (bs : List Slot). get_or bs chunk nothing) less ∙ get_or-set_same (slots y) chunk nothing nothing inside)

      kept_at : (q : ℕ) (b : Branch) → branch_at (removed y chunk) q ≡ Some b → q ≢ chunk
      kept_at q b h s = none-some _ (sym gone ∙ (ap (branch_at (removed y chunk)) (sym s) ∙ h))

      another : (q : ℕ) → q ≢ chunk → Beside (removed y chunk) q → (w : ℕ) × (w ≢ chunk) × (w ≢ q) × Taken (get_or (slots y) w nothing)
      another q ne b = grind (arith, kept_at, elsewhere, less)

  -- The pair b takes the place of the cell d, or is buried if the cell was alone.
  pub contract_drafted : (d b : ℕ) → branch_at y chunk ≡ Some (cell d) → Cleans same hash chunk_at (noded (slots y)) index k d b (shown_main (kept_node index (replaced y chunk (pair b))))
  contract_drafted d b e =
      kept_node_lem (λ (Y : Main). Cleans same hash chunk_at (noded (slots y)) index k d b (shown_main Y)) index (replaced y chunk (pair b)) (replaced_formed y chunk (pair b) formed)
      (λ beside.
      subst (λ (bs : List Slot). Cleans same hash chunk_at (noded (slots y)) index k d b (noded bs)) (sym changed)
      (Cleans.contracts (slots y) refl inside (shown_at (Some (cell d)) e)
      (λ l.
      let r = beside l chunk b now in
      (r.chunk, r.other, subst Taken (elsewhere (replaced y chunk (pair b)) y chunk (paired b) changed r.chunk r.other) r.taken))))
      (λ l q u o.
      let it = only_is (replaced y chunk (pair b)) q chunk (pair u) (pair b) o now in
      subst (λ (v : ℕ). Cleans same hash chunk_at (noded (slots y)) index k d b (tombed v)) (cc)
      (Cleans.entombs (slots y) refl (shown_at (Some (cell d)) e)
      (λ j ne. sym (elsewhere (replaced y chunk (pair b)) y chunk (paired b) changed j ne) ∙ o.empty j (λ t. ne (t ∙ sym it.0))) l))
    where
      changed : slots (replaced y chunk (pair b)) ≡ set (slots y) chunk (paired b)
      changed = shows_edits.replaces y chunk (pair b) (cell d) formed e

      now : branch_at (replaced y chunk (pair b)) chunk ≡ Some (pair b)
      now = shows_edits.pair_from (replaced y chunk (pair b)) chunk b (ap (λ (bs : List Slot). get_or bs chunk nothing) changed ∙ get_or-set_same (slots y) chunk (paired b) nothing inside)
