-- What the equality and the hash of a key kind owe.
use Rattle.std.specs.Prelude.{◌≡◌, ℕ, ◌^◌, ◌<◌, Bool, true, Decides, refl}
use Rattle.std.proofs.Common.{sym, ap, ◌∙◌}

-- Equality is an equivalence, equal keys have the same hash, and a hash has 32 bits.
pub record KeyLaws {K : Type 0} (same : K → K → Bool) (hash : K → ℕ) : Type 0 where
  pub reflexive : (a : K) → same a a ≡ true
  pub symmetric : (a b : K) → same a b ≡ true → same b a ≡ true
  pub transitive : (a b c : K) → same a b ≡ true → same b c ≡ true → same a c ≡ true
  pub hashed : (a b : K) → same a b ≡ true → hash a ≡ hash b
  pub short : (a : K) → hash a < 2 ^ 32

-- Keys that are equal if what is told of them is the same, and hashed by that, keep the laws.
pub laws_by : {K V : Type 0} (told : K → V) (same : K → K → Bool) (hash : V → ℕ) → ((a b : K) → Decides (same a b) (told a ≡ told b)) → ((a : K) → hash (told a) < 2 ^ 32) → KeyLaws same (λ a. hash (told a))
laws_by told same hash decides short =
    record {
      reflexive = λ a. (decides a a).1 refl;
      symmetric = λ a b h. (decides b a).1 (sym ((decides a b).0 h));
      transitive = λ a b c h k. (decides a c).1 ((decides a b).0 h ∙ (decides b c).0 k);
      hashed = λ a b h. ap hash ((decides a b).0 h);
      short = short;
    }
