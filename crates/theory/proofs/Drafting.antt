-- What a put, a cut or a cleaning drafts without new cells, in the words of the machine.
use Rattle.std.proofs.Common.{◌≡◌, ℕ, ◌≤◌, Bool, true, leb, List, [], length, get_or, Some, refl, ◌∙◌, arith}
use Rattle.keys.specs.Laws.{KeyLaws}
use Rattle.keys.specs.Routes.{chunk_at}
use Rattle.std.specs.List.{slice_get}
use Rattle.std.proofs.lemmas.Option.{slice_get-get_or}
use Rattle.std.proofs.lemmas.Bool.{and_parts, leb-true}
use Rattle.machine.specs.Machine.{Prepares, Cleans}
use Rattle.mains.specs.Laws.{WellFormed}
use Rattle.mains.specs.Nodes.{branch_at, replaced}
use Rattle.mains.specs.declared.Branch.TheVariants.{Pair as pair, Cell as cell}
use Rattle.mains.specs.declared.Main.{Main}
use Rattle.mains.specs.declared.Main.TheVariants.{Node as node}
use Rattle.mains.specs.declared.Node.{Node}
use Rattle.rules.specs.Edits.{edited, kept_node, adds_pair, links_of}
use Rattle.rules.specs.Memory.{Memory}
use Rattle.rules.specs.Sound.{sound}
use Rattle.rules.specs.declared.Ask.{Ask}
use Rattle.rules.specs.declared.Ask.TheVariants.{Put}
use Rattle.rules.specs.declared.Edit.{Edit}
use Rattle.rules.specs.declared.Outcome.{Outcome}
use Rattle.theory.proofs.DraftedLists.{append_drafted, relist_drafted, unlist_drafted}
use Rattle.theory.proofs.DraftedNodes.{insert_drafted, replace_drafted, remove_drafted, contract_drafted}
use Rattle.theory.proofs.Seating.{swapping, made_pair}
use Rattle.theory.proofs.Sights.{Drafts}
use Rattle.theory.proofs.Splitting.{fork_links}
use Rattle.theory.proofs.Writing.{NamesPair, Fine}
use Rattle.theory.specs.Shown.{shown_mem, shown_main}

module _ {K : Type 0} (same : K → K → Bool) (hash : K → ℕ) (laws : KeyLaws same hash) where
  -- The memory z has the pairs that the main y names as the memory m has them, and the put's own pair at the place p.
  pub drafted : (m z : Memory K) (k : K) (index p d : ℕ) (cells : List ℕ) (ask : Ask) (y : Main) (edit : Edit) (r : Outcome)
      → Fine cells (length m.pairs) y → sound same hash m.pairs index y ≡ true
      → ((i : ℕ) → NamesPair y i → slice_get z.pairs i ≡ slice_get m.pairs i)
      → ((v : ℕ) → ask ≡ Put v → slice_get z.pairs p ≡ Some (record { key = k; value = v }))
      → Drafts same hash m k index ask y edit r → links_of edit ≡ 0
      → Prepares same hash chunk_at (shown_mem z) (shown_main y) index (swapping ask (adds_pair edit) r k) (shown_main (edited edit p d)) (made_pair ask p) []
  drafted m z k index p d cells ask y edit r fine s kept new (Drafts.inserts v n e) none = insert_drafted same hash k index n fine.formed z v p (new v refl) e
  drafted m z k index p d cells ask y edit r fine s kept new (Drafts.replaces v n q x e there t) none =
      replace_drafted same hash k index n fine.formed z v p (new v refl) q x e (kept q (chunk_at (hash k) index, e) ∙ there) t
  drafted m z k index p d cells ask y edit r fine s kept new (Drafts.removes n q x e there t) none =
      remove_drafted same hash k index n fine.formed z q x e (kept q (chunk_at (hash k) index, e) ∙ there) t
      (λ c u b. (get_or m.pairs u x, kept u (c, b) ∙ slice_get-get_or m.pairs u x (fine.paired u (c, b))))
  drafted m z k index p d cells ask y edit r fine s kept new (Drafts.splits v n q x e there t) none =
      let low = leb-true index 6 (and_parts (leb index 6) _ s).0 in
      let links = (fork_links same hash laws n index k q x low).0 in
      absurd (omega (arith, links, none))
  drafted m z k index p d cells ask y edit r fine s kept new (Drafts.appends v l ys there lacks room) none =
      append_drafted same hash laws m z k index l ys fine.formed s there kept v p (new v refl) lacks room
  drafted m z k index p d cells ask y edit r fine s kept new (Drafts.relists v l ys i w there found) none =
      relist_drafted same hash laws m z k index l ys fine.formed s there kept v p i w (new v refl) found
  drafted m z k index p d cells ask y edit r fine s kept new (Drafts.unlists l ys i w there found) none =
      unlist_drafted same hash laws m z k index l ys fine.formed s there kept i w found

  -- The node above a tomb's cell takes the tomb's pair in.
  pub contracted : (pairs : ℕ) (cells : List ℕ) (k : K) (index d b : ℕ) (y : Node) → WellFormed y → index ≤ 6 → branch_at y (chunk_at (hash k) index) ≡ Some (cell d)
      → Cleans same hash chunk_at (shown_main (node y)) index k d b (shown_main (kept_node index (replaced y (chunk_at (hash k) index) (pair b))))
  contracted pairs cells k index d b y w l e = contract_drafted same hash k index y w d b e
