-- Two bitmaps of which one has one chunk more: an insertion goes from the first to the second, a removal back.
use Rattle.std.proofs.Common.{◌≡◌, ℕ, zero, suc, ◌+◌, ◌^◌, ◌<◌, ◌≤◌, ◌≢◌, sym, ◌∙◌, arith}
use lib.Bits.{bit_or, bit_xor}
use Rattle.std.proofs.lemmas.Bool.{cases_eq}
use Rattle.std.proofs.lemmas.Nat.Bits.{bit_at-lt, bit_at_or, bit_at_xor, bit_at-pow_same, bit_at-pow_other}
use Rattle.mains.specs.Bits.{bit, position, flag}
use Rattle.mains.proofs.Bits.{flag_low}
use Rattle.mains.proofs.Positions.{position_zero, position_suc}

-- The bit of a chunk is clear in the first bitmap and set in the second; all others are the same.
pub record Gains (b q c : ℕ) : Type 0 where
  pub clear : bit b q ≡ 0
  pub raised : bit c q ≡ 1
  pub others : (p : ℕ) → p ≢ q → bit c p ≡ bit b p

pub position_upto : (b q c p : ℕ) → Gains b q c → p ≤ q → position c p ≡ position b p
position_upto b q c zero g l = position_zero c ∙ sym (position_zero b)
position_upto b q c (suc p) g l =
    omega (arith, position_suc c p, position_suc b p, g.others p (λ e. omega arith), position_upto b q c p g (omega arith))

pub position_beyond : (b q c p : ℕ) → Gains b q c → q < p → position c p ≡ position b p + 1
position_beyond b q c zero g l = absurd (omega arith)
position_beyond b q c (suc p) g l =
    grind (arith, position_suc, g.others p, g.clear, g.raised, position_upto b q c p g, position_beyond b q c p g, cases_eq p q)

-- A bitmap with a clear bit raised has that bit more.
pub gains_or : (b q : ℕ) → bit b q ≡ 0 → Gains b q (bit_or b (2 ^ q))
gains_or b q e =
    record {
      clear = e;
      raised = omega (arith, bit_at_or b (2 ^ q) q, bit_at-pow_same q);
      others = λ p ne. omega (arith, bit_at_or b (2 ^ q) p, bit_at-pow_other q p ne);
    }

-- A bitmap has a set bit more than the one with that bit cleared.
pub gains_xor : (c q : ℕ) → bit c q ≡ 1 → Gains (bit_xor c (2 ^ q)) q c
gains_xor c q e =
    record {
      clear = omega (arith, bit_at_xor c (2 ^ q) q, bit_at-pow_same q);
      raised = e;
      others = λ p ne. omega (arith, bit_at_xor c (2 ^ q) p, bit_at-pow_other q p ne, bit_at-lt c p);
    }

-- Both by the flag of one of the 32 chunks.
pub gains_or_flag : (b q : ℕ) → q < 32 → bit b q ≡ 0 → Gains b q (bit_or b (flag q))
gains_or_flag b q low e = rw (flag_low q low) (gains_or b q e)

pub gains_xor_flag : (c q : ℕ) → q < 32 → bit c q ≡ 1 → Gains (bit_xor c (flag q)) q c
gains_xor_flag c q low e = rw (flag_low q low) (gains_xor c q e)
