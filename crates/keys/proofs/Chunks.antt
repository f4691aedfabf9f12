-- Chunks and prefixes: a prefix is its chunks, and where two hashes part.
use Rattle.std.proofs.Common.{◌≡◌, ℕ, zero, suc, ◌+◌, ◌-◌, ◌*◌, ◌/◌, ◌%◌, ◌^◌, ◌<◌, ◌≤◌, min, eqb, refl, ap, ◌∙◌, inl, inr, ⊎_elim, mod-eq_of_lt, arith, lit<}
use native.Mathlib.Nat.{div-eq_of_lt}
use lib.Bits.{bit_and}
use Rattle.std.proofs.lemmas.Nat.{and_mask, one_shl, mod-pow-add, mod_below, pow_pos, pow_below, div-mul-add, mod-mul-add}
use Rattle.std.proofs.lemmas.Bool.{cases_eq, cases_lt, cond_both, eqb-true, eqb-false}
use Rattle.std.specs.Prelude.{Option, Some, None, MatchOption, ◌≢◌}
use Rattle.std.specs.Option.{unwrap_or}
use Rattle.keys.specs.Routes.{chunk_at, prefix_at, first_apart, parting_at, Together, Parts, PrefixByChunks}

-- A chunk has five bits.
pub chunk_below : (h index : ℕ) → chunk_at h index < 32
chunk_below h index = mod_below (h / 2 ^ (5 * index)) 32 (lit< tt)

-- A hash is shorter than the chunks below index 7 or beyond.
long : (h index : ℕ) → h < 2 ^ 32 → 7 ≤ index → h < 2 ^ (5 * index)
long h index l k = let m : 2 ^ 32 < 2 ^ (5 * index) = pow_below 32 (5 * index) (omega arith) in omega arith

-- So past the end of a hash the chunks are 0, and a prefix is all of it.
pub chunk_past : (h index : ℕ) → h < 2 ^ 32 → 7 ≤ index → chunk_at h index ≡ 0
chunk_past h index l k = let e : h / 2 ^ (5 * index) ≡ 0 = div-eq_of_lt (long h index l k) in rw e

pub prefix_past : (h index : ℕ) → h < 2 ^ 32 → 7 ≤ index → prefix_at h index ≡ h
prefix_past h index l k = mod-eq_of_lt (long h index l k)

-- The low bits that a mask leaves.
pub masked : (h index : ℕ) → index < 7 → bit_and h (1 * 2 ^ (5 * index) % 2 ^ 32 - 1) ≡ prefix_at h index
masked h index l = ap (λ flag. bit_and h (flag - 1)) (one_shl (5 * index) 32 (omega arith)) ∙ and_mask h (5 * index)

-- The next prefix is the chunk here above the prefix so far.
pub prefix_next : (h index : ℕ) → prefix_at h (suc index) ≡ chunk_at h index * 2 ^ (5 * index) + prefix_at h index
prefix_next h index =
    let e : 5 * suc index ≡ 5 + 5 * index = omega arith in
    ap (λ n. h % 2 ^ n) e ∙ mod-pow-add h 5 (5 * index)

module _ (h g : ℕ) where
  -- Two hashes share the next prefix exactly if they share this one and have the same chunk here.
  narrower : (index : ℕ) → prefix_at h (suc index) ≡ prefix_at g (suc index) → (prefix_at h index ≡ prefix_at g index) × (chunk_at h index ≡ chunk_at g index)
  narrower index e =
      let w = 2 ^ (5 * index) in
      let hm = prefix_next h index in
      let gm = prefix_next g index in
      let hl : prefix_at h index < w = mod_below h w (pow_pos (5 * index)) in
      let gl : prefix_at g index < w = mod_below g w (pow_pos (5 * index)) in (
        cc (mod-mul-add (chunk_at h index) w (prefix_at h index) hl, mod-mul-add (chunk_at g index) w (prefix_at g index) gl),
        cc (div-mul-add (chunk_at h index) w (prefix_at h index) hl, div-mul-add (chunk_at g index) w (prefix_at g index) gl),
      )

  wider : (index : ℕ) → prefix_at h index ≡ prefix_at g index → chunk_at h index ≡ chunk_at g index → prefix_at h (suc index) ≡ prefix_at g (suc index)
  wider index e f = cc (prefix_next h index, prefix_next g index)

  chunks : (index : ℕ) → prefix_at h index ≡ prefix_at g index → Together h g 0 index
  chunks zero e i _ l = absurd (omega arith)
  chunks (suc index) e i _ l =
      ⊎_elim (λ (k : i < index). chunks index (narrower index e).0 i (omega arith) k)
      (λ (k : index ≤ i). let same : i ≡ index = omega arith in rw same (narrower index e).1)
      (cases_lt i index)

  shared : (index : ℕ) → Together h g 0 index → prefix_at h index ≡ prefix_at g index
  shared zero t = omega arith
  shared (suc index) t = wider index (shared index (λ i l k. t i l (omega arith))) (t index (omega arith) (omega arith))

  pub prefix_by_chunks : (index : ℕ) → PrefixByChunks h g index
  prefix_by_chunks index = record { chunks = chunks index; shared = shared index }

  -- The prefix of index 7 is the whole hash.
  pub prefix_whole : h < 2 ^ 32 → g < 2 ^ 32 → prefix_at h 7 ≡ prefix_at g 7 → h ≡ g
  prefix_whole hl gl e = omega arith

  first_parts : (more index : ℕ) → index + more ≡ 7 → Parts h g index (first_apart h g more index)
  first_parts zero index e =
      record { inside = omega arith; onward = inl (omega arith); together = λ i l k. absurd (omega arith); apart = inr (omega arith) }
  first_parts (suc more) index e =
      let p = first_parts more (index + 1) (omega arith) in
      cond_both (eqb (chunk_at h index) (chunk_at g index)) (first_apart h g more (index + 1)) index (Parts h g index)
      (λ t. record {
        inside = p.inside;
        onward = elim p.onward [ inl k ↦ inl (omega arith) | inr s ↦ inr s ];
        together = λ i k m. elim (cases_eq i index) [ inl s ↦ rw s (eqb-true _ _ t) | inr n ↦ p.together i (omega arith) m ];
        apart = p.apart;
      })
      (λ t. record {
        inside = omega arith;
        onward = inl (omega arith);
        together = λ i k m. absurd (omega arith);
        apart = inl (eqb-false _ _ t);
      })

  pub parting_parts : (from : ℕ) → Parts h g from (parting_at h g from)
  unfolding parting_at
  parting_parts from =
      elim (cases_lt from 7) [
        | inl l ↦ let e : min from 7 ≡ from = omega arith in rw e (first_parts (7 - from) from (omega arith))
        | inr l ↦
            let e : min from 7 ≡ 7 = omega arith in
            let f : 7 - from ≡ 0 = omega arith in
            rw (e, f) (record { inside = omega arith; onward = inr refl; together = λ i k m. absurd (omega arith); apart = inr refl })
      ]

  not_before : (from a b : ℕ) → Parts h g from a → Parts h g from b → a < b → ⊥
  not_before from a b p q l =
      let early : a ≡ 7 → ⊥ = λ e. let i = q.inside in omega arith in
      ⊎_elim (λ differ. ⊎_elim (λ low. differ (q.together a low l)) early p.onward) early p.apart

  -- There is one place where the hashes part.
  pub parting_once : (from at : ℕ) → Parts h g from at → at ≡ parting_at h g from
  parting_once from at p =
      let q = parting_parts from in
      omega (arith, not_before from at (parting_at h g from) p q, not_before from (parting_at h g from) at q p)

  -- It is found first among the indices from one on at which the chunks differ, or else it is 7.
  pub parts_found : (from : ℕ) (o : Option ℕ) → MatchOption o (Together h g from 7) (λ i. (from ≤ i) × (i < 7) × (chunk_at h i ≢ chunk_at g i) × Together h g from i) → Parts h g from (unwrap_or o 7)
  parts_found from None t = record { inside = omega arith; onward = inr refl; together = t; apart = inr refl }
  parts_found from (Some i) (low, below, differ, t) = record { inside = omega arith; onward = inl low; together = t; apart = inl differ }

-- What the checks of the functions on routes are given.
pub ruleset of_routes = (chunk_below, chunk_past, prefix_past, and_mask, masked, prefix_by_chunks)
