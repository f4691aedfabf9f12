-- The chunks of a hash: they are below 32, and a hash can be turned to any chunk.
use mathlib.Core.Path.{◌≡◌, sym, ap, ◌∙◌}
use Prim.Native.Nat.{ℕ, ◌+◌, ◌-◌, ◌*◌, ◌/◌, ◌%◌, ◌^◌, ◌<◌}
use native.Mathlib.Nat.{mod-lt, mod-eq_of_lt}
use native.Mathlib.Omega.{arith}
use lib.Pow.{pow_pos, high, low, field, mod-mod-pow}
use Rattle.machine.specs.Tree.{Agree}
use Rattle.keys.specs.Routes.{chunk_at}

-- Chunks are below 32, and a hash can be turned to any chunk at an index without a change before it.
pub record Chunks (chunk : ℕ → ℕ → ℕ) : Type 0 where
  pub small : (h i : ℕ) → chunk h i < 32
  pub turn : (h i q : ℕ) → q < 32 → (g : ℕ) × Agree chunk g h i × (chunk g i ≡ q)

-- A chunk before index i is told by the low 5 × i bits.
chunk_low : (n j i : ℕ) → j < i → chunk_at n j ≡ chunk_at (n % 2 ^ (5 * i)) j
chunk_low n j i l =
    let e : (5 * i - (5 + 5 * j)) + (5 + 5 * j) ≡ 5 * i = omega arith in
    sym (field n 5 (5 * j))
    ∙ ap (λ (x : ℕ). x / 2 ^ (5 * j)) (sym (mod-mod-pow n (5 * i - (5 + 5 * j)) (5 + 5 * j)))
    ∙ ap (λ (x : ℕ). n % 2 ^ x % 2 ^ (5 + 5 * j) / 2 ^ (5 * j)) e
    ∙ field (n % 2 ^ (5 * i)) 5 (5 * j)

-- So it is with the chunks of five bits.
pub chunks : Chunks chunk_at
chunks = record {
  small = λ h i. mod-lt (h / 2 ^ (5 * i)) (omega arith);
  turn = λ h i q l. (q * 2 ^ (5 * i) + h % 2 ^ (5 * i), agree h i q, ap (λ (x : ℕ). x % 32) (high q (5 * i) (mod-lt h (pow_pos (5 * i)))) ∙ mod-eq_of_lt l);
}
  where
    agree : (h i q : ℕ) → Agree chunk_at (q * 2 ^ (5 * i) + h % 2 ^ (5 * i)) h i
    agree h i q j l =
        chunk_low (q * 2 ^ (5 * i) + h % 2 ^ (5 * i)) j i l
        ∙ ap (λ (x : ℕ). chunk_at x j) (low q (5 * i) (mod-lt h (pow_pos (5 * i))))
        ∙ sym (chunk_low h j i l)
