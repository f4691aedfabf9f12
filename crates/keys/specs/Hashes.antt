-- The hash functions of the key kinds.
use Rattle.std.specs.Prelude.{ℕ, ◌*◌, ◌/◌, ◌%◌, ◌^◌, List, fold, bit_xor}

-- The hash of a card: its low 32 bits xor its high 32 bits.
abbrev pub card_hash : ℕ → ℕ
card_hash n = bit_xor (n % 2 ^ 32) (n / 2 ^ 32 % 2 ^ 32)

-- One byte of FNV-1a at 32 bits: xor it in, then multiply by the prime.
abbrev pub fnv_step : ℕ → ℕ → ℕ
fnv_step h byte = (bit_xor h byte * 0x01000193) % 2 ^ 32

-- FNV-1a at 32 bits, from its offset basis on.
abbrev pub fnv1a : List ℕ → ℕ
fnv1a bytes = fold fnv_step 0x811C9DC5 bytes
