-- The text of a route, chunk by chunk.
use Rattle.std.proofs.Common.{◌≡◌, ℕ, zero, suc, ◌+◌, ◌-◌, ◌≤◌, List, ◌++◌, append_assoc, refl, codes, decimal, arith}
use native.Mathlib.Numerals.{unary_clauses}
use Rattle.keys.specs.Routes.{chunk_at}
use Rattle.sizing.specs.Lines.{route_text}

-- The first chunk and some more, with a point before each.
abbrev pub route_to : ℕ → ℕ → List ℕ
route_to h zero = decimal (chunk_at h 0)
route_to h (suc more) = route_to h more ++ (codes "." ++ decimal (chunk_at h (suc more)))

pub route_more : (h index : ℕ) → 1 ≤ index → route_to h (index - 1) ++ (codes "." ++ decimal (chunk_at h index)) ≡ route_to h (index + 1 - 1)
route_more h zero l = absurd (omega arith)
route_more h (suc more) l = simp unary_clauses

-- The number written is the chunk at the index.
pub route_next : (h index at n : ℕ) → 1 ≤ index → n ≡ chunk_at h at → at ≡ index → route_to h (index - 1) ++ (codes "." ++ decimal n) ≡ route_to h (index + 1 - 1)
route_next h index at n l e is = rw (e, is) (route_more h index l)

pub route_whole : (h : ℕ) → route_to h 6 ≡ route_text h
route_whole h = simp append_assoc refl
