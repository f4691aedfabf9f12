-- The bits of a bitmap, one for each chunk.
use Rattle.std.specs.Prelude.{ℕ, zero, suc, ◌/◌, ◌%◌, ◌^◌, Bool, cond, ◌==◌, nat_lt}

-- The bit of a chunk: 0 or 1.
abbrev pub bit : ℕ → ℕ → ℕ
bit b q = b / 2 ^ q % 2

-- Whether the bit of a chunk is set.
abbrev pub has : ℕ → ℕ → Bool
has b q = bit b q == 1

-- How many chunks below this one have their bit set.
unfoldable pub position : ℕ → ℕ → ℕ
position b zero = 0
position b (suc q) = cond (has b q) (suc (position b q)) (position b q)

-- The bitmap of one chunk alone; past chunk 31 it is empty.
abbrev pub flag : ℕ → ℕ
flag q = cond (nat_lt q 32) (2 ^ q) 0
