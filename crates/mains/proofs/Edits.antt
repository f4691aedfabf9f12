-- The edits of a node: what stands at every chunk after each, and that the node stays well formed.
use Rattle.std.proofs.Common.{◌≡◌, ℕ, ◌^◌, ◌<◌, true, ◌≢◌, length, Some, None, refl, sym, arith, length-set, get_or-set_other, get_or-set_same}
use lib.Bits.{or_lt, xor_lt}
use Rattle.std.proofs.lemmas.Nat.{pow_below}
use Rattle.std.proofs.lemmas.Bool.{cases_eq, cases_order, cond_both}
use Rattle.std.proofs.lemmas.Bool.Decides.{nat_tests}
use Rattle.mains.specs.Bits.{bit, has, position, flag}
use Rattle.mains.specs.Nodes.{branch_at, filler, is_free, grown, shrunk, inserted, replaced, removed}
use Rattle.mains.specs.Laws.{WellFormed, Stands, edited}
use Rattle.mains.specs.declared.Branch.{Branch}
use Rattle.mains.specs.declared.Node.{Node}
use Rattle.mains.proofs.Bits.{bit_low, set_bit}
use Rattle.mains.proofs.Positions.{position_within, position_before, position_grows, position_apart}
use Rattle.mains.proofs.Gains.{Gains, position_upto, position_beyond, gains_or_flag, gains_xor_flag}
use Rattle.mains.proofs.Shifts.{Opens, length_in, length_out, in_at, in_opens, out_opens}
use Rattle.mains.proofs.Standing.{at_set, at_clear, none_has, none_clear, stands_from}

-- The branch of a chunk has its place in the row.
pub placed : (n : Node) (q : ℕ) → WellFormed n → q < 32 → position n.bitmap q < length n.branches
placed n q w low = omega (arith, w.row, position_within n.bitmap q)

-- One of the 32 chunks can take a branch if it has none; no other can.
pub free_from : (n : Node) (q : ℕ) → q < 32 → branch_at n q ≡ None → is_free n q ≡ true
free_from n q low none = grind (arith, nat_tests)

pub free_low : (n : Node) (q : ℕ) → is_free n q ≡ true → q < 32
free_low n q t = grind (arith, nat_tests)

-- At a chunk that can take one an insertion makes the grown node.
pub grows : (n : Node) (q : ℕ) (x : Branch) → q < 32 → branch_at n q ≡ None → inserted n q x ≡ grown n q x
grows n q x low none = grind (arith, nat_tests)

-- A chunk that has a branch is one of the 32.
pub has_low : (n : Node) (q : ℕ) → WellFormed n → has n.bitmap q ≡ true → q < 32
has_low n q w t = bit_low n.bitmap q w.fits (set_bit n.bitmap q t)

-- The edits keep a node well formed, whatever the chunk.
flag_fits : (q : ℕ) → flag q < 2 ^ 32
flag_fits q = grind (arith, nat_tests, pow_below q 32)

pub inserted_formed : (n : Node) (q : ℕ) (x : Branch) → WellFormed n → WellFormed (inserted n q x)
inserted_formed n q x w =
    record {
      fits = grind (arith, nat_tests, w.fits, or_lt 32 n.bitmap (flag q) w.fits (flag_fits q));
      row = grind (arith, nat_tests, w.row, placed n q w, length_in n.branches (position n.bitmap q) x);
    }

pub replaced_formed : (n : Node) (q : ℕ) (x : Branch) → WellFormed n → WellFormed (replaced n q x)
replaced_formed n q x w = record { fits = grind (arith, nat_tests, w.fits); row = grind (arith, nat_tests, w.row, length-set) }

pub removed_formed : (n : Node) (q : ℕ) → WellFormed n → WellFormed (removed n q)
removed_formed n q w =
    record {
      fits = grind (arith, nat_tests, w.fits, xor_lt 32 n.bitmap (flag q) w.fits (flag_fits q));
      row = grind (arith, nat_tests, w.row, has_low n q w, placed n q w, length_out n.branches (position n.bitmap q) filler);
    }

-- Of two nodes one has one chunk more, and in its row one branch more at that chunk's position: all other chunks have the same.
beside : (n m : Node) (q i : ℕ) → WellFormed m → Gains n.bitmap q m.bitmap → i ≡ position n.bitmap q → Opens filler n.branches m.branches i
    → (p : ℕ) → p ≢ q → branch_at m p ≡ branch_at n p
beside n m q i w g e o p ne =
    let b = n.bitmap in
    let c = m.bitmap in
    let there = λ (s : bit c p ≡ 1). placed m p w (bit_low c p w.fits s) in
    grind (arith, nat_tests, cases_order p q, g.others p ne, position_upto b q c p g, position_beyond b q c p g, position_before b p q, position_grows b q p, there, o.below (position b p), o.above (position b p))

-- What stands after each edit.
pub inserted_stands : (n : Node) (q : ℕ) (x : Branch) → WellFormed n → q < 32 → branch_at n q ≡ None → Stands (inserted n q x) (edited (branch_at n) q (Some x))
inserted_stands n q x w low none =
    let b = n.bitmap in
    let i = position b q in
    let m = grown n q x in
    let within = placed n q w low in
    let g = gains_or_flag b q low (none_clear n q none) in
    let here : branch_at m q ≡ Some x = grind (arith, at_set m q g.raised, position_upto b q m.bitmap q g, in_at n.branches i x within filler) in
    rw (grows n q x low none)
    (stands_from m (branch_at n) q (Some x) here (beside n m q i (rw (grows n q x low none) at (inserted_formed n q x w)) g refl (in_opens n.branches i x within filler)))

pub replaced_stands : (n : Node) (q : ℕ) (x : Branch) → WellFormed n → has n.bitmap q ≡ true → Stands (replaced n q x) (edited (branch_at n) q (Some x))
replaced_stands n q x w t p =
    let within = placed n q w (has_low n q w t) in
    grind (arith, nat_tests, cases_eq p q, within, position_apart n.bitmap p q, get_or-set_same, get_or-set_other)

pub removed_stands : (n : Node) (q : ℕ) → WellFormed n → Stands (removed n q) (edited (branch_at n) q None)
removed_stands n q w =
    let b = n.bitmap in
    let m = shrunk n q in
    cond_both (has b q) m n (λ k. Stands k (edited (branch_at n) q None))
    (λ t.
    let low = has_low n q w t in
    let g = gains_xor_flag b q low (set_bit b q t) in
    let opens = out_opens n.branches (position b q) filler (placed n q w low) filler in
    let same = position_upto m.bitmap q b q g (omega arith) in
    stands_from m (branch_at n) q None (at_clear m q g.clear) (λ p ne. sym (beside m n q (position b q) w g same opens p ne)))
    (λ f. stands_from n (branch_at n) q None (none_has n q f) (λ p _. refl))
