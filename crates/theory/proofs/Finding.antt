-- What a read finds of a key by the rules, the machine finds.
use Rattle.std.proofs.Common.{◌≡◌, ℕ, Bool, cond, List, [], ◌∷◌, map, Some, None, Option, refl, ap, ◌∙◌, arith}
use mathlib.Core.Option.{none, some}
use Rattle.keys.proofs.Chunks.{chunk_below}
use Rattle.keys.specs.Routes.{chunk_at}
use Rattle.std.specs.List.{slice_get}
use Rattle.std.proofs.lemmas.Option.{none-some}
use Rattle.machine.specs.Machine.{IsTomb, face, spot, lone, gather}
use Rattle.machine.specs.Tree.{stands, on, find}
use Rattle.machine.proofs.Worth.{find_worth}
use Rattle.machine.specs.Pairs.{worth, find_pair}
use Rattle.mains.specs.Lists.{listed}
use Rattle.mains.specs.Nodes.{branch_at}
use Rattle.mains.specs.declared.Branch.TheVariants.{Pair as pair, Cell as cell}
use Rattle.mains.specs.declared.Main.{Main}
use Rattle.mains.specs.declared.Main.TheVariants.{Node as node}
use Rattle.mains.specs.declared.Node.{Node}
use Rattle.rules.specs.Memory.{Memory}
use Rattle.rules.specs.Sound.{pairs_at}
use Rattle.rules.specs.Turns.{place_of, later}
use Rattle.rules.specs.declared.Pair.{Pair}
use Rattle.theory.proofs.Gathering.{gathered, shown_gathers, place_none}
use Rattle.theory.proofs.Shown.{shows_edits}
use Rattle.theory.proofs.ShownMemory.{shows_memory}
use Rattle.theory.proofs.Sights.{Lacks, Has}
use Rattle.theory.specs.Shown.{slot, shown_main, shown_mem, shown_pair}

module _ {K : Type 0} (same : K → K → Bool) (hash : K → ℕ) where
  -- The pairs of a list are gathered as they are.
  gather_shown : (m : Memory K) (ps : List ℕ) (ys : List (Pair K)) → pairs_at m.pairs ps ≡ Some ys → gather (shown_mem m).pairs ps ≡ map shown_pair ys
  gather_shown m ps ys e = gathered (shown_mem m).pairs ps (map shown_pair ys) (shown_gathers m m ps ys e (λ i j. refl))

  -- A key that has a place among pairs is found, with its value.
  place_worth : (k : K) (ys : List (Pair K)) (i v : ℕ) → place_of same k ys ≡ Some (i, v) → worth (find_pair same k (map shown_pair ys)) ≡ some v
  unfolding find_pair
  place_worth k [] i v e = absurd (none-some _ e)
  place_worth k (y ∷ ys) i v e = by (same y.key k) e (place_of same k ys) refl (place_worth k ys)
    where
      by : (b : Bool) → cond b (Some (0, y.value)) (later (place_of same k ys)) ≡ Some (i, v) → (o : Option (ℕ × ℕ)) → place_of same k ys ≡ o → ((i v : ℕ) → place_of same k ys ≡ Some (i, v) → worth (find_pair same k (map shown_pair ys)) ≡ some v)
          → worth (cond b (some (shown_pair y)) (find_pair same k (map shown_pair ys))) ≡ some v
      by b e o q f = grind arith

  -- What a node shows at a key's chunk where nothing stands.
  stand_none : (m : Memory K) (k : K) (index : ℕ) (y : Node) → branch_at y (chunk_at (hash k) index) ≡ None → face (shown_mem m).pairs (shown_main (node y)) (chunk_at (hash k) index) ≡ stands []
  stand_none m k index y b = ap (spot (shown_mem m).pairs) (shows_edits.slot_at y (chunk_at (hash k) index) (chunk_below (hash k) index) ∙ ap slot b)

  abbrev shown_one : Pair K → List (K × ℕ)
  shown_one z = (z.key, z.value) ∷ []

  shown_pair_lem : (m : Memory K) (k : K) (index : ℕ) (y : Node) (p : ℕ) (z : Pair K) → branch_at y (chunk_at (hash k) index) ≡ Some (pair p) → slice_get m.pairs p ≡ Some z
      → face (shown_mem m).pairs (shown_main (node y)) (chunk_at (hash k) index) ≡ stands (shown_one z)
  shown_pair_lem m k index y p z b h =
      ap (spot (shown_mem m).pairs) (shows_edits.slot_at y (chunk_at (hash k) index) (chunk_below (hash k) index) ∙ ap slot b) ∙ ap lone ((shows_memory K).pair_at m p z h)

  -- A key that is not there is not found.
  pub lacks_find : (m : Memory K) (k : K) (index : ℕ) (y : Main) → Lacks same hash m k index y → (ps : List (K × ℕ)) × (face (shown_mem m).pairs (shown_main y) (chunk_at (hash k) index) ≡ stands ps) × (find same k ps ≡ none) × (IsTomb (shown_main y) → ⊥)
  unfolding find
  lacks_find m k index y (Lacks.bare n b) = ([], stand_none m k index n b, refl, λ t. t)
  lacks_find m k index y (Lacks.other n p z b h e) = (shown_one z, shown_pair_lem m k index n p z b h, ap (λ c. cond c (some z.value) none) e, λ t. t)
  lacks_find m k index y (Lacks.absent l ys h e) = (map shown_pair ys, ap stands (gather_shown m (listed l) ys h), find_worth same k (map shown_pair ys) ∙ ap worth (place_none same k ys e), λ t. t)

  -- One that is there is found, with its value.
  pub has_find : (m : Memory K) (k : K) (index v : ℕ) (y : Main) → Has same hash m k index y v → (ps : List (K × ℕ)) × (face (shown_mem m).pairs (shown_main y) (chunk_at (hash k) index) ≡ stands ps) × (find same k ps ≡ some v) × (IsTomb (shown_main y) → ⊥)
  unfolding find
  has_find m k index v y (Has.branch n p z b h e) = (shown_one z, shown_pair_lem m k index n p z b h, ap (λ c. cond c (some z.value) none) e, λ t. t)
  has_find m k index v y (Has.inside l ys i w h e) = (map shown_pair ys, ap stands (gather_shown m (listed l) ys h), find_worth same k (map shown_pair ys) ∙ place_worth k ys i w e, λ t. t)

  -- A node shows the cell that it names.
  pub cell_shown : (m : Memory K) (k : K) (index : ℕ) (y : Node) (d : ℕ) → branch_at y (chunk_at (hash k) index) ≡ Some (cell d) → face (shown_mem m).pairs (shown_main (node y)) (chunk_at (hash k) index) ≡ on d
  cell_shown m k index y d b = ap (spot (shown_mem m).pairs) (shows_edits.slot_at y (chunk_at (hash k) index) (chunk_below (hash k) index) ∙ ap slot b)
