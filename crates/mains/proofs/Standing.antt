-- What stands at a chunk, and when two nodes have the same there.
use Rattle.std.proofs.Common.{◌≡◌, ℕ, ◌≤◌, Bool, true, false, cond, ◌≢◌, get_or, Some, None, Option, arith}
use Rattle.std.proofs.lemmas.Bool.Decides.{nat_tests}
use Rattle.std.proofs.lemmas.Nat.Bits.{bit_at-lt, bit_at_above}
use Rattle.std.proofs.lemmas.Option.{cond_some}
use Rattle.mains.specs.Bits.{bit, has, position}
use Rattle.mains.specs.Nodes.{branch_at, filler}
use Rattle.mains.specs.Laws.{WellFormed, Stands, edited}
use Rattle.mains.specs.declared.Branch.{Branch}
use Rattle.mains.specs.declared.Node.{Node}

-- A chunk whose bit is set has the branch at its position; one whose bit is clear has none.
pub at_set : (n : Node) (q : ℕ) → bit n.bitmap q ≡ 1 → branch_at n q ≡ Some (get_or n.branches (position n.bitmap q) filler)
at_set n q e = grind (arith, nat_tests)

pub at_clear : (n : Node) (q : ℕ) → bit n.bitmap q ≡ 0 → branch_at n q ≡ None
at_clear n q e = grind (arith, nat_tests)

pub at_past : (n : Node) (q : ℕ) → WellFormed n → 32 ≤ q → branch_at n q ≡ None
at_past n q w past = at_clear n q (bit_at_above n.bitmap 32 q w.fits past)

-- And the other way round.
pub some_not_none : {x : Branch} → Some x ≡ None → ⊥
some_not_none e = cc

-- Where nothing is shown under a test, the test is false.
pub hidden : (t : Bool) (x : Branch) → cond t (Some x) None ≡ None → t ≡ false
hidden t x e = grind (arith, nat_tests)

pub has_some : (n : Node) (q : ℕ) (x : Branch) → branch_at n q ≡ Some x → has n.bitmap q ≡ true
has_some n q x e = (cond_some (has n.bitmap q) (get_or n.branches (position n.bitmap q) filler) x e).0

-- The branch that a chunk has stands at its position.
pub at_some : (n : Node) (q : ℕ) (x : Branch) → branch_at n q ≡ Some x → get_or n.branches (position n.bitmap q) filler ≡ x
at_some n q x e = (cond_some (has n.bitmap q) (get_or n.branches (position n.bitmap q) filler) x e).1

-- The bit of a chunk without a branch is not set, so it is 0.
pub has_none : (n : Node) (q : ℕ) → branch_at n q ≡ None → has n.bitmap q ≡ false
has_none n q e = hidden (has n.bitmap q) (get_or n.branches (position n.bitmap q) filler) e

pub none_clear : (n : Node) (q : ℕ) → branch_at n q ≡ None → bit n.bitmap q ≡ 0
none_clear n q e = grind (arith, nat_tests, bit_at-lt n.bitmap q)

pub none_has : (n : Node) (q : ℕ) → has n.bitmap q ≡ false → branch_at n q ≡ None
none_has n q e = grind (arith, nat_tests)

-- Two nodes have the same at a chunk that has the same bit in both and, if it is set, the same element at its position.
pub at_same : (n m : Node) (p : ℕ) → bit m.bitmap p ≡ bit n.bitmap p
    → (bit n.bitmap p ≡ 1 → get_or m.branches (position m.bitmap p) filler ≡ get_or n.branches (position n.bitmap p) filler)
    → branch_at m p ≡ branch_at n p
at_same n m p e f = grind (arith, nat_tests)

-- What is told otherwise of one chunk, read there and elsewhere.
pub edited_here : (f : ℕ → Option Branch) (q : ℕ) (o : Option Branch) → edited f q o q ≡ o
edited_here f q o = grind (arith, nat_tests)

pub edited_other : (f : ℕ → Option Branch) (q : ℕ) (o : Option Branch) (p : ℕ) → p ≢ q → edited f q o p ≡ f p
edited_other f q o p ne = grind (arith, nat_tests)

-- A node that has this at one chunk, and at each other what is told.
pub stands_from : (m : Node) (f : ℕ → Option Branch) (q : ℕ) (o : Option Branch) → branch_at m q ≡ o
    → ((p : ℕ) → p ≢ q → branch_at m p ≡ f p) → Stands m (edited f q o)
stands_from m f q o here others p = grind (arith, nat_tests, here, others p)
