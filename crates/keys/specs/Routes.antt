-- Chunks and prefixes of a hash, and where two hashes part.
use Rattle.std.specs.Prelude.{◌≡◌, ℕ, zero, suc, ◌+◌, ◌-◌, ◌*◌, ◌/◌, ◌%◌, ◌^◌, ◌<◌, ◌≤◌, min, cond, ◌⊎◌, ◌==◌, ◌≢◌}

-- The chunk of a hash at an index: five bits, from the low end on.
abbrev pub chunk_at : ℕ → ℕ → ℕ
chunk_at h index = h / 2 ^ (5 * index) % 32

-- The prefix of an index: the chunks below it. At index 7 it is all of a 32-bit hash.
abbrev pub prefix_at : ℕ → ℕ → ℕ
prefix_at h index = h % 2 ^ (5 * index)

-- The first of some indices, from this one on, at which the chunks of two hashes differ; past the last where none does.
abbrev pub first_apart : ℕ → ℕ → ℕ → ℕ → ℕ
first_apart h g zero index = index
first_apart h g (suc more) index = cond (chunk_at h index == chunk_at g index) (first_apart h g more (index + 1)) index

-- The first index from this one on, at most 6, at which two hashes part; 7 where there is none.
unfoldable pub parting_at : ℕ → ℕ → ℕ → ℕ
parting_at h g from = first_apart h g (7 - from) (min from 7)

-- Two hashes have the same chunk at each index from one up to another.
abbrev pub Together : ℕ → ℕ → ℕ → ℕ → Type 0
Together h g from to = (i : ℕ) → from ≤ i → i < to → chunk_at h i ≡ chunk_at g i

-- From an index on, two hashes have the same chunks up to another, where they part; or they part nowhere below 7.
pub record Parts (h g from at : ℕ) : Type 0 where
  pub inside : at ≤ 7
  pub onward : (from ≤ at) ⊎ (at ≡ 7)
  pub together : Together h g from at
  pub apart : (chunk_at h at ≢ chunk_at g at) ⊎ (at ≡ 7)

-- Two hashes share the prefix of an index exactly if they have the same chunks below it.
pub record PrefixByChunks (h g index : ℕ) : Type 0 where
  pub chunks : prefix_at h index ≡ prefix_at g index → Together h g 0 index
  pub shared : Together h g 0 index → prefix_at h index ≡ prefix_at g index
