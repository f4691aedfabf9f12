-- FNV-1a gives 32 bits, and keys that are told apart and hashed by their bytes keep the laws of a key kind.
use Rattle.std.specs.Prelude.{◌≡◌, ℕ, ◌*◌, ◌^◌, ◌<◌, Bool, List, [], ◌∷◌, Decides, fold, bit_xor}
use Rattle.std.proofs.Common.{ap, ◌∙◌, rules, lit<}
use Rattle.std.specs.Str.{bytes_eq}
use Rattle.std.proofs.lemmas.Nat.{mod_below}
use Rattle.std.proofs.lemmas.Slice.Eq.{bytes_eq-Decides}
use Rattle.keys.specs.Hashes.{fnv_step, fnv1a}
use Rattle.keys.specs.Laws.{KeyLaws, laws_by}

fold_below : (bytes : List ℕ) (h : ℕ) → h < 2 ^ 32 → fold fnv_step h bytes < 2 ^ 32
fold_below [] h k = k
fold_below (b ∷ bytes) h k = fold_below bytes (fnv_step h b) (mod_below (bit_xor h b * 0x01000193) (2 ^ 32) (lit< tt))

pub fnv_below : (bytes : List ℕ) → fnv1a bytes < 2 ^ 32
fnv_below bytes = fold_below bytes 0x811C9DC5 (lit< tt)

-- A test that decides whether two lists are the same is `bytes_eq` of what the lists are.
pub same_by : (xs ys us vs : List ℕ) (r : Bool) → Decides r (xs ≡ ys) → xs ≡ us → ys ≡ vs → r ≡ bytes_eq us vs
same_by xs ys us vs r d p q =
    let e : r ≡ bytes_eq xs ys = search (rules, bytes_eq-Decides) in
    e ∙ (ap (λ v. bytes_eq v ys) p ∙ ap (λ v. bytes_eq us v) q)

-- Keys that are told the same by their bytes, and hashed by FNV-1a of them, keep the laws.
pub bytes_lawful : {K : Type 0} (bytes : K → List ℕ) → KeyLaws (λ a b. bytes_eq (bytes a) (bytes b)) (λ a. fnv1a (bytes a))
bytes_lawful bytes =
    laws_by bytes (λ a b. bytes_eq (bytes a) (bytes b)) fnv1a (λ a b. bytes_eq-Decides (bytes a) (bytes b))
    (λ a. fnv_below (bytes a))
