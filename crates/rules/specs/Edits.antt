-- How a main is replaced: each edit once.
use Rattle.std.specs.Prelude.{ℕ, ◌+◌, ◌-◌, Bool, true, false, cond, List, [], ◌∷◌, Some, None, Option, ◌==◌, nat_lt, slice_index, slice_set}
use Rattle.keys.specs.Routes.{chunk_at, parting_at}
use Rattle.mains.specs.Lists.{appended, relisted, of_pairs}
use Rattle.mains.specs.Nodes.{inserted, replaced, of_one, of_two, lone}
use Rattle.mains.specs.declared.Branch.{Branch}
use Rattle.mains.specs.declared.Branch.TheVariants.{Pair as pair, Cell as cell}
use Rattle.mains.specs.declared.Main.{Main}
use Rattle.mains.specs.declared.Main.TheVariants.{Node as node, Tomb as tomb, List as listing}
use Rattle.mains.specs.declared.Node.{Node}
use Rattle.mains.specs.declared.PairList.{PairList}
use Rattle.rules.specs.declared.Edit.{Edit}
use Rattle.rules.specs.declared.Edit.TheVariants.{Fixed, Insert, Replace, Append, Relist, Split}
use Rattle.rules.specs.declared.Fork.{Fork}
use Rattle.rules.specs.declared.NewCell.{NewCell}

-- A node, or the tomb of its only branch if that is a pair.
abbrev pub entombed : Option Branch → Node → Main
entombed None n = node n
entombed (Some (pair p)) n = tomb p
entombed (Some (cell c)) n = node n

-- What a node with fewer branches, or with a pair in place of a cell, becomes: below the root one lone pair becomes a tomb.
abbrev pub kept_node : ℕ → Node → Main
kept_node index n = cond (index == 0) (node n) (entombed (lone n) n)

-- What a list with a pair less becomes: one lone pair becomes a tomb.
abbrev pub kept_list : PairList → Main
kept_list l = cond (l.count == 1) (tomb (slice_index l.pairs 0)) (listing l)

-- The main that an edit makes, with the place of the new pair and the first new cell.
abbrev pub edited : Edit → ℕ → ℕ → Main
edited (Fixed x) p d = x
edited (Insert n chunk) p d = node (inserted n chunk (pair p))
edited (Replace n chunk) p d = node (replaced n chunk (pair p))
edited (Append l) p d = listing (appended l p)
edited (Relist l place) p d = listing (relisted l place p)
edited (Split f) p d = node (replaced f.node f.chunk (cell d))

-- Whether an edit makes a pair.
abbrev pub makes_pair : Edit → Bool
makes_pair (Fixed x) = false
makes_pair (Insert n chunk) = true
makes_pair (Replace n chunk) = true
makes_pair (Append l) = true
makes_pair (Relist l place) = true
makes_pair (Split f) = true

-- Whether an edit adds a pair, and replaces none.
abbrev pub adds_pair : Edit → Bool
adds_pair (Fixed x) = false
adds_pair (Insert n chunk) = true
adds_pair (Replace n chunk) = false
adds_pair (Append l) = true
adds_pair (Relist l place) = false
adds_pair (Split f) = true

-- The index of the last cell of a fork: the first past the node's at which the hashes part, or else 7.
abbrev pub end_of : Fork → ℕ
end_of f = parting_at f.standing f.coming (f.index + 1)

-- How many new cells an edit makes.
abbrev pub links_of : Edit → ℕ
links_of (Fixed x) = 0
links_of (Insert n chunk) = 0
links_of (Replace n chunk) = 0
links_of (Append l) = 0
links_of (Relist l place) = 0
links_of (Split f) = end_of f - f.index

-- A new cell and the main that it will hold.
pub record Link : Type 0 where
  pub place : NewCell
  pub holds : Main

-- What the new cell of an index holds: the next cell alone; both pairs, where the hashes part; a list of both, at 7.
abbrev pub link_main : Fork → ℕ → ℕ → ℕ → Main
link_main f p index below =
    cond (nat_lt index (end_of f)) (node (of_one (chunk_at f.coming index) (cell below)))
    (cond (nat_lt index 7) (node (of_two (chunk_at f.standing index) (pair f.pair) (chunk_at f.coming index) (pair p)))
    (listing (of_pairs f.pair p)))

-- The first of some numbers.
abbrev pub first : List ℕ → ℕ
first xs = slice_index xs 0

-- All but the first.
abbrev pub rest : List ℕ → List ℕ
rest [] = []
rest (x ∷ xs) = xs

-- The chain of new cells from an index on, in the places given.
abbrev pub linked : Fork → ℕ → ℕ → List ℕ → List ℕ → List Link
linked f p index [] mains = []
linked f p index (c ∷ cells) [] = []
linked f p index (c ∷ cells) (n ∷ mains) =
    record { place = record { cell = c; main = n }; holds = link_main f p index (first cells) } ∷ linked f p (index + 1) cells mains

-- The new cells that an edit makes.
abbrev pub chain_for : Edit → ℕ → List ℕ → List ℕ → List Link
chain_for (Fixed x) p cells mains = []
chain_for (Insert n chunk) p cells mains = []
chain_for (Replace n chunk) p cells mains = []
chain_for (Append l) p cells mains = []
chain_for (Relist l place) p cells mains = []
chain_for (Split f) p cells mains = linked f p (f.index + 1) cells mains

-- The new cells of a chain, with their main places.
abbrev pub places : List Link → List NewCell
places [] = []
places (k ∷ ks) = k.place ∷ places ks

-- The words with a chain written into them.
abbrev pub with_cells : List ℕ → List Link → List ℕ
with_cells words [] = words
with_cells words (k ∷ ks) = with_cells (slice_set words k.place.cell k.place.main) ks

-- The mains with a chain written into them.
abbrev pub with_mains : List Main → List Link → List Main
with_mains mains [] = mains
with_mains mains (k ∷ ks) = with_mains (slice_set mains k.place.main k.holds) ks
