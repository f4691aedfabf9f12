-- Words in bytes, two bytes a word.
use Rattle.std.proofs.Common.{◌≡◌, ℕ, zero, suc, ◌+◌, ◌*◌, ◌/◌, ◌<◌, List, [], ◌∷◌, length, get_or, take, set, refl, arith, length-take}
use native.Mathlib.Numerals.{unary_clauses}
use Rattle.banks.specs.Layout.{paired}

pub length_paired : (bytes : List ℕ) → length (paired bytes) ≡ length bytes / 2
length_paired [] = refl
length_paired (high ∷ []) = refl
length_paired (high ∷ (low ∷ bytes)) = let e = length_paired bytes in omega arith

-- Both bytes of each of the first n words are there.
pub pair_in_lem : (n : ℕ) (bytes : List ℕ) (cell : ℕ) → cell < length (take n (paired bytes)) → 2 * cell + 1 < length bytes
pair_in_lem n bytes cell h = omega (arith, length_paired, length-take n (paired bytes))

pub get_paired : (bytes : List ℕ) (cell : ℕ) → cell < length (paired bytes) → get_or bytes (2 * cell) 0 * 256 + get_or bytes (2 * cell + 1) 0 ≡ get_or (paired bytes) cell 0
get_paired [] cell h = absurd (omega arith)
get_paired (high ∷ []) cell h = absurd (omega arith)
get_paired (high ∷ (low ∷ bytes)) zero h = refl
get_paired (high ∷ (low ∷ bytes)) (suc cell) h = simp unary_clauses (simp unary_clauses at (get_paired bytes cell (omega arith)))

pub set_paired : (bytes : List ℕ) (cell high low : ℕ) → paired (set (set bytes (2 * cell) high) (2 * cell + 1) low) ≡ set (paired bytes) cell (high * 256 + low)
set_paired [] cell high low = refl
set_paired (other ∷ []) zero high low = refl
set_paired (other ∷ []) (suc cell) high low = simp unary_clauses
set_paired (other ∷ (next ∷ bytes)) zero high low = refl
set_paired (other ∷ (next ∷ bytes)) (suc cell) high low = let e = simp unary_clauses at (set_paired bytes cell high low) in simp (unary_clauses, e)
