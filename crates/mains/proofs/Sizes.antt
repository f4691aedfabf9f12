-- How many branches a node has, and how an edit changes that.
use Rattle.std.proofs.Common.{◌≡◌, ℕ, ◌+◌, ◌<◌, ◌≤◌, true, None, sym, arith}
use Rattle.std.proofs.lemmas.Bool.{cond-true}
use Rattle.std.proofs.lemmas.Bool.Decides.{nat_tests}
use Rattle.mains.specs.Bits.{has, position}
use Rattle.mains.specs.Nodes.{branch_at, filler, shrunk, inserted, replaced, removed, size}
use Rattle.mains.specs.Laws.{WellFormed}
use Rattle.mains.specs.declared.Branch.{Branch}
use Rattle.mains.specs.declared.Node.{Node}
use Rattle.mains.proofs.Bits.{set_bit}
use Rattle.mains.proofs.Positions.{position_within, position_before}
use Rattle.mains.proofs.Gains.{position_beyond, gains_or_flag, gains_xor_flag}
use Rattle.mains.proofs.Standing.{none_clear}
use Rattle.mains.proofs.Edits.{grows, has_low}

-- A node has 32 branches at most.
pub size_most : (n : Node) → size n ≤ 32
size_most n = position_within n.bitmap 32

-- A chunk that has a branch has its place below the size.
pub size_place : (n : Node) (q : ℕ) → WellFormed n → has n.bitmap q ≡ true → position n.bitmap q < size n
size_place n q w t = position_before n.bitmap q 32 (set_bit n.bitmap q t) (has_low n q w t)

pub size_inserted : (n : Node) (q : ℕ) (x : Branch) → q < 32 → branch_at n q ≡ None → size (inserted n q x) ≡ size n + 1
size_inserted n q x low none = rw (grows n q x low none) (position_beyond n.bitmap q _ 32 (gains_or_flag n.bitmap q low (none_clear n q none)) low)

-- So a chunk without a branch leaves room for one.
pub size_room : (n : Node) (q : ℕ) → q < 32 → branch_at n q ≡ None → size n < 32
size_room n q low none = omega (arith, size_inserted n q filler low none, size_most (inserted n q filler))

pub size_replaced : (n : Node) (q : ℕ) (x : Branch) → size (replaced n q x) ≡ size n
size_replaced n q x = grind (arith, nat_tests)

pub size_removed : (n : Node) (q : ℕ) → WellFormed n → has n.bitmap q ≡ true → size (removed n q) + 1 ≡ size n
size_removed n q w t =
    let low = has_low n q w t in
    let g = gains_xor_flag n.bitmap q low (set_bit n.bitmap q t) in
    rw (cond-true (has n.bitmap q) (shrunk n q) n t) (sym (position_beyond _ q n.bitmap 32 g low))
