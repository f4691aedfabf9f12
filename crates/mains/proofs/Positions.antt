-- Positions of one bitmap: how many lower chunks have their bit set.
use Rattle.std.proofs.Common.{◌≡◌, ℕ, zero, suc, ◌+◌, ◌-◌, ◌%◌, ◌^◌, ◌<◌, ◌≤◌, ◌≢◌, sym, refl, ap, ◌∙◌, inl, inr, mod-eq_of_lt, one-add, arith, pow_pos}
use lib.Bits.{bit_and, and_mask}
use lib.Count.{ones, ones_cat}
use lib.Pow.{mod-pow-add}
use Rattle.std.proofs.lemmas.Nat.{mod_below, ones-le, ones_le_self, zero_from_ones}
use Rattle.std.proofs.lemmas.Nat.Bits.{bit_at-lt, bit_at_above}
use Rattle.std.proofs.lemmas.Bool.{cases_eq, cases_lt, cases_order}
use Rattle.std.proofs.lemmas.Bool.Decides.{nat_tests}
use Rattle.mains.specs.Bits.{bit, position, flag}
use Rattle.mains.proofs.Bits.{flag_low}

pub position_zero : (b : ℕ) → position b 0 ≡ 0
unfolding position
position_zero b = refl

pub position_suc : (b q : ℕ) → position b (suc q) ≡ position b q + bit b q
unfolding position
position_suc b q = grind (arith, nat_tests, bit_at-lt b q)

pub position_within : (b q : ℕ) → position b q ≤ q
position_within b zero = omega (arith, position_zero b)
position_within b (suc q) = omega (arith, position_suc b q, bit_at-lt b q, position_within b q)

pub position_grows : (b p q : ℕ) → p ≤ q → position b p ≤ position b q
position_grows b p zero h = grind arith
position_grows b p (suc q) h = grind (arith, position_suc b q, position_grows b p q, cases_eq p (suc q))

-- A chunk whose bit is set stands before every later one.
pub position_before : (b p q : ℕ) → bit b p ≡ 1 → p < q → position b p < position b q
position_before b p q e l = omega (arith, position_suc b p, position_grows b (suc p) q l)

-- No two chunks whose bits are set have one position.
pub position_apart : (b p q : ℕ) → bit b p ≡ 1 → bit b q ≡ 1 → p ≢ q → position b p ≢ position b q
position_apart b p q e f ne s = grind (arith, position_before, cases_order p q)

-- Every position that is reached is that of a chunk whose bit is set.
pub chunk_there : (b n i : ℕ) → i < position b n → (q : ℕ) × (q < n) × (bit b q ≡ 1) × (position b q ≡ i)
chunk_there b zero i h = absurd (omega (arith, position_zero b))
chunk_there b (suc n) i h =
    elim (cases_lt i (position b n)) [
      | inl l ↦ (let r = chunk_there b n i l in (r.0, omega (arith, r.1), r.2, r.3))
      | inr m ↦ (let s = position_suc b n in let d = bit_at-lt b n in (n, omega arith, omega arith, omega arith))
    ]

-- Past the last bit positions no longer grow.
pub position_past : (b k q : ℕ) → b < 2 ^ k → k ≤ q → position b q ≡ position b k
position_past b k zero fits past = ap (position b) (omega arith)
position_past b k (suc q) fits past = grind (arith, position_suc b q, bit_at_above b k q, position_past b k q, cases_eq k (suc q))

pub position_none : (q : ℕ) → position 0 q ≡ 0
position_none q = position_past 0 0 q (omega arith) (omega arith) ∙ position_zero 0

-- A position is the number of one bits below it.
ones_digit : (n : ℕ) → n < 2 → ones n ≡ n
ones_digit n h = grind (arith, ones-le 1 n, ones_le_self n, zero_from_ones n)

position_ones : (b q : ℕ) → ones (b % 2 ^ q) ≡ position b q
position_ones b zero = omega (arith, ones_le_self (b % 2 ^ 0), position_zero b)
position_ones b (suc q) =
    rw (position_suc, ← one-add q, mod-pow-add b 1 q, ones_cat q (bit b q) (b % 2 ^ q) (mod_below b (2 ^ q) (pow_pos q)), ones_digit (bit b q) (bit_at-lt b q))
    (omega (arith, position_ones b q))

-- A position is also the number of one bits that the mask of the lower chunks leaves.
pub position_masked : (b q : ℕ) → ones (bit_and b (2 ^ q - 1)) ≡ position b q
position_masked b q = rw and_mask (position_ones b q)

-- All of the one bits of a bitmap of k bits.
pub position_all : (b k : ℕ) → b < 2 ^ k → ones b ≡ position b k
position_all b k fits = ap ones (sym (mod-eq_of_lt fits)) ∙ position_ones b k

-- The bits that a chunk's flag, less one, leaves are those below it; past the last chunk they are all.
pub position_flagged : (b q f : ℕ) → q < 32 → f ≡ flag q → ones (bit_and b (f - 1)) ≡ position b q
position_flagged b q f low e = rw (e, flag_low q low) (position_masked b q)

pub flagged_low : (b q f : ℕ) → q < 32 → f ≡ flag q → ones (bit_and b (f - 1)) ≤ q
flagged_low b q f low e = omega (arith, position_flagged b q f low e, position_within b q)

pub position_last : (b q : ℕ) → b < 2 ^ 32 → 32 ≤ q → (position b 32 ≡ position b q) × (position b 32 ≤ q)
position_last b q fits past = (sym (position_past b 32 q fits past), omega (arith, position_within b 32))
