-- When a main keeps the rules at its index.
use Rattle.std.specs.Prelude.{ℕ, Bool, true, false, cond, not, ◌&&◌, ◌||◌, List, [], ◌∷◌, is_some, Some, None, Option, ◌==◌, nat_le}
use Rattle.std.specs.List.{slice_get}
use Rattle.mains.specs.Lists.{listed}
use Rattle.mains.specs.Nodes.{size, lone}
use Rattle.mains.specs.declared.Branch.{Branch}
use Rattle.mains.specs.declared.Branch.TheVariants.{Pair as pair, Cell as cell}
use Rattle.mains.specs.declared.Main.{Main}
use Rattle.mains.specs.declared.Main.TheVariants.{Node as node, Tomb as tomb, List as listing}
use Rattle.mains.specs.declared.Node.{Node}
use Rattle.mains.specs.declared.PairList.{PairList}
use Rattle.rules.specs.Memory.{Memory, main_in, then}
use Rattle.rules.specs.declared.Pair.{Pair}

-- One more pair before others that may be missing.
abbrev pub with_pair : {K : Type 0} → Option (Pair K) → Option (List (Pair K)) → Option (List (Pair K))
with_pair None ys = None
with_pair (Some y) None = None
with_pair (Some y) (Some ys) = Some (y ∷ ys)

-- The pairs in some places; none if one of them is outside the memory.
abbrev pub pairs_at : {K : Type 0} → List (Pair K) → List ℕ → Option (List (Pair K))
pairs_at pairs [] = Some []
pairs_at pairs (p ∷ ps) = with_pair (slice_get pairs p) (pairs_at pairs ps)

-- Whether a node's only branch is a pair.
abbrev pub is_lone_pair : Option Branch → Bool
is_lone_pair None = false
is_lone_pair (Some (pair p)) = true
is_lone_pair (Some (cell c)) = false

-- A node stands at index 0 to 6. Below the root it has a branch, and a lone branch there is a cell.
abbrev pub sound_node : ℕ → Node → Bool
sound_node index n = nat_le index 6 && (index == 0 || (not (size n == 0) && not (is_lone_pair (lone n))))

module _ {K : Type 0} (same : K → K → Bool) (hash : K → ℕ) where
  -- Whether a pair of an equal key is among some.
  abbrev pub among : K → List (Pair K) → Bool
  among key [] = false
  among key (y ∷ ys) = same y.key key || among key ys

  -- Pairs of one hash, no key twice.
  abbrev pub alike : List (Pair K) → Bool
  alike [] = true
  alike (y ∷ []) = true
  alike (y ∷ (z ∷ ys)) = hash y.key == hash z.key && (not (among y.key (z ∷ ys)) && alike (z ∷ ys))

  -- The same of pairs that may be missing.
  abbrev pub all_alike : Option (List (Pair K)) → Bool
  all_alike None = false
  all_alike (Some ys) = alike ys

  -- A list stands at index 7 and holds 2 to 32 pairs of one hash, no key twice.
  abbrev pub sound_list : List (Pair K) → ℕ → PairList → Bool
  sound_list pairs index l = index == 7 && (nat_le 2 l.count && (nat_le l.count 32 && all_alike (pairs_at pairs (listed l))))

  -- The rules of a main at an index. A tomb stands at 1 to 7.
  abbrev pub sound : List (Pair K) → ℕ → Main → Bool
  sound pairs index (node n) = sound_node index n
  sound pairs index (tomb p) = nat_le 1 index && (nat_le index 7 && is_some (slice_get pairs p))
  sound pairs index (listing l) = sound_list pairs index l

  -- A main, if it keeps the rules.
  abbrev pub if_sound : List (Pair K) → ℕ → Main → Option Main
  if_sound pairs index x = cond (sound pairs index x) (Some x) None

  -- The main that a cell holds, if it keeps the rules at the cell's index.
  abbrev pub sound_in : Memory K → ℕ → ℕ → Option Main
  sound_in m index c = then (main_in m c) (if_sound m.pairs index)
