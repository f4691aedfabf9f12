-- What stands at every chunk of a node, and what a list lists, after an edit.
use Rattle.std.specs.Prelude.{◌≡◌, ℕ, ◌+◌, ◌^◌, ◌<◌, ◌≤◌, true, cond, List, length, Some, None, Option, ◌==◌}
use Rattle.mains.specs.Bits.{has}
use Rattle.mains.specs.Nodes.{branch_at, size}
use Rattle.mains.specs.Lists.{listed}
use Rattle.mains.specs.declared.Branch.{Branch}
use Rattle.mains.specs.declared.Node.{Node}
use Rattle.mains.specs.declared.PairList.{PairList}

-- A node as the code has it: a bitmap of 32 bits and a row of 32 places.
pub record WellFormed (n : Node) : Type 0 where
  pub fits : n.bitmap < 2 ^ 32
  pub row : length n.branches ≡ 32

-- No branch at any chunk.
abbrev pub nothing : ℕ → Option Branch
nothing p = None

-- What is told of each chunk, but for one, which has this branch or none.
abbrev pub edited : (ℕ → Option Branch) → ℕ → Option Branch → ℕ → Option Branch
edited f q o p = cond (p == q) o (f p)

-- A node has at every chunk what is told of it.
abbrev pub Stands : Node → (ℕ → Option Branch) → Type 0
Stands n f = (p : ℕ) → branch_at n p ≡ f p

-- A node has this branch at a chunk, and none at any other.
abbrev pub Alone : Node → ℕ → Branch → Type 0
Alone n q x = Stands n (edited nothing q (Some x))

-- A node has these two branches at two chunks, and none at any other.
abbrev pub Both : Node → ℕ → Branch → ℕ → Branch → Type 0
Both n q x r y = Stands n (edited (edited nothing q (Some x)) r (Some y))

-- What an insertion does: at a chunk without a branch it adds one, and it keeps the node well formed at any.
pub record Inserts (n : Node) (q : ℕ) (x : Branch) (m : Node) : Type 0 where
  pub stands : q < 32 → branch_at n q ≡ None → Stands m (edited (branch_at n) q (Some x))
  pub sized : q < 32 → branch_at n q ≡ None → size m ≡ size n + 1
  pub formed : WellFormed m

-- What a replacement does: at a chunk that has a branch it puts another there, and it keeps the node well formed at any.
pub record Replaces (n : Node) (q : ℕ) (x : Branch) (m : Node) : Type 0 where
  pub stands : has n.bitmap q ≡ true → Stands m (edited (branch_at n) q (Some x))
  pub sized : size m ≡ size n
  pub formed : WellFormed m

-- What a removal does: it leaves no branch at the chunk, and keeps the node well formed.
pub record Removes (n : Node) (q : ℕ) (m : Node) : Type 0 where
  pub stands : Stands m (edited (branch_at n) q None)
  pub sized : has n.bitmap q ≡ true → size m + 1 ≡ size n
  pub formed : WellFormed m

-- An answer is a branch exactly if some chunk has it and no other has any.
pub record Lone (n : Node) (o : Option Branch) : Type 0 where
  pub found : (x : Branch) → o ≡ Some x → (q : ℕ) × Alone n q x
  pub sole : (q : ℕ) (x : Branch) → Alone n q x → o ≡ Some x

-- A list that counts no more pairs than its row of 32 has.
pub record WellListed (l : PairList) : Type 0 where
  pub counted : l.count ≤ 32
  pub row : length l.pairs ≡ 32

-- What an edit of a list does: the new list has these pairs, and is well formed if the old one was.
pub record Relists (l : PairList) (pairs : List ℕ) (m : PairList) : Type 0 where
  pub lists : listed m ≡ pairs
  pub formed : WellListed l → WellListed m
