-- One bit of a bitmap: what a chunk's test and flag say of it. A `bit` is std's `bit_at`, whose lemmas say the rest.
use Rattle.std.proofs.Common.{◌≡◌, ℕ, ◌^◌, ◌<◌, ◌≤◌, true, false, not, eqb, arith, pow_pos}
use lib.Bits.{bit_and, and_zero_r}
use Rattle.std.proofs.lemmas.Nat.Bits.{bit_at-lt, bit_at_above, and_pow}
use Rattle.std.proofs.lemmas.Bool.Decides.{nat_tests}
use Rattle.mains.specs.Bits.{bit, has, flag}

pub set_bit : (b q : ℕ) → has b q ≡ true → bit b q ≡ 1
set_bit b q e = grind (arith, nat_tests)

-- A bit that is not set is 0.
pub clear_bit : (b q : ℕ) → has b q ≡ false → bit b q ≡ 0
clear_bit b q e = grind (arith, nat_tests, bit_at-lt b q)

-- A bit that is set in a bitmap of 32 bits is that of one of the 32 chunks.
pub bit_low : (b q : ℕ) → b < 2 ^ 32 → bit b q ≡ 1 → q < 32
bit_low b q fits e = grind (arith, bit_at_above b 32 q)

pub flag_low : (q : ℕ) → q < 32 → flag q ≡ 2 ^ q
flag_low q low = grind (arith, nat_tests)

-- Past the last chunk a flag is empty.
pub flag_past : (q : ℕ) → 32 ≤ q → flag q ≡ 0
flag_past q past = grind (arith, nat_tests)

-- A chunk's bit is set exactly if its flag leaves something of the bitmap.
pub has_flagged : (b q f : ℕ) → b < 2 ^ 32 → f ≡ flag q → not (eqb (bit_and b f) 0) ≡ has b q
has_flagged b q f fits e = grind (arith, nat_tests, and_zero_r b, and_pow b q, bit_at-lt b q, bit_at_above b 32 q, pow_pos q)
