-- Branch nodes: what stands at a chunk, and the node after an edit.
use Rattle.std.specs.Prelude.{ℕ, Bool, cond, not, ◌&&◌, replicate, Some, None, Option, ◌==◌, bit_or, bit_xor, nat_lt, slice_index_or, slice_set}
use Rattle.mains.specs.Bits.{has, position, flag}
use Rattle.mains.specs.Rows.{put_in, take_out}
use Rattle.mains.specs.declared.Branch.{Branch}
use Rattle.mains.specs.declared.Branch.TheVariants.{Pair}
use Rattle.mains.specs.declared.Node.{Node}

-- What lies in the places of a row that no chunk uses.
abbrev pub filler : Branch
filler = Pair 0

-- The branch at a chunk, if it has one: it stands behind the branches of the lower chunks.
abbrev pub branch_at : Node → ℕ → Option Branch
branch_at n q = cond (has n.bitmap q) (Some (slice_index_or n.branches (position n.bitmap q) filler)) None

-- Whether a branch can be inserted: the chunk is one of the 32, and has none.
abbrev pub is_free : Node → ℕ → Bool
is_free n q = nat_lt q 32 && not (has n.bitmap q)

-- The node with one bit more, and a branch put in at its position.
abbrev pub grown : Node → ℕ → Branch → Node
grown n q x = record { bitmap = bit_or n.bitmap (flag q); branches = put_in n.branches (position n.bitmap q) x }

-- The node with the same bits, and another branch at the position of one.
abbrev pub changed : Node → ℕ → Branch → Node
changed n q x = record { bitmap = n.bitmap; branches = slice_set n.branches (position n.bitmap q) x }

-- The node with one bit less, and the branch at its position taken out.
abbrev pub shrunk : Node → ℕ → Node
shrunk n q = record { bitmap = bit_xor n.bitmap (flag q); branches = take_out n.branches (position n.bitmap q) filler }

-- The node with a branch at a chunk that has none; any other chunk changes nothing.
abbrev pub inserted : Node → ℕ → Branch → Node
inserted n q x = cond (is_free n q) (grown n q x) n

-- The node with another branch at a chunk that has one; any other chunk changes nothing.
abbrev pub replaced : Node → ℕ → Branch → Node
replaced n q x = cond (has n.bitmap q) (changed n q x) n

-- The node without the branch at a chunk; a chunk that has none changes nothing.
abbrev pub removed : Node → ℕ → Node
removed n q = cond (has n.bitmap q) (shrunk n q) n

-- The node without branches.
abbrev pub empty_node : Node
empty_node = record { bitmap = 0; branches = replicate 32 filler }

-- The node with one branch.
abbrev pub of_one : ℕ → Branch → Node
of_one q x = inserted empty_node q x

-- The node with two branches, if their chunks differ.
abbrev pub of_two : ℕ → Branch → ℕ → Branch → Node
of_two q x r y = inserted (of_one q x) r y

-- How many branches a node has.
abbrev pub size : Node → ℕ
size n = position n.bitmap 32

-- The only branch, if there is exactly one.
abbrev pub lone : Node → Option Branch
lone n = cond (size n == 1) (Some (slice_index_or n.branches 0 filler)) None
