-- The laws of a key kind, said of the truth of the test, as the proofs use them.
use native.Mathlib.Omega.{arith}
use mathlib.Core.Path.{◌≡◌}
use mathlib.Core.Bool.{Bool, true}
use Prim.Native.Nat.{ℕ}
use lib.Dec.{T}
use Rattle.keys.specs.Laws.{KeyLaws}

-- Equality is an equivalence, and equal keys have the same hash.
pub record Laws {K : Type 0} (same : K → K → Bool) (hash : K → ℕ) : Type 0 where
  pub reflexive : (k : K) → T (same k k)
  pub symmetric : (k l : K) → T (same k l) → T (same l k)
  pub transitive : (k l m : K) → T (same k l) → T (same l m) → T (same k m)
  pub hashes : (k l : K) → T (same k l) → hash k ≡ hash l

-- Truth and equality with true are the same.
pub is_true : (b : Bool) → T b → b ≡ true
is_true b t = grind arith

pub holds : (b : Bool) → b ≡ true → T b
holds b e = rw e tt

-- The laws that a key kind owes give these.
pub laws_of : {K : Type 0} (same : K → K → Bool) (hash : K → ℕ) → KeyLaws same hash → Laws same hash
laws_of same hash laws = record {
  reflexive = λ k. holds (same k k) (laws.reflexive k);
  symmetric = λ k l t. holds (same l k) (laws.symmetric k l (is_true (same k l) t));
  transitive = λ k l m t u. holds (same k m) (laws.transitive k l m (is_true (same k l) t) (is_true (same l m) u));
  hashes = λ k l t. laws.hashed k l (is_true (same k l) t);
}
