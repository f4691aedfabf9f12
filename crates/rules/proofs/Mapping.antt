-- The laws of the plain map.
use Rattle.std.proofs.Common.{◌≡◌, ℕ, Bool, true, false, cond, List, [], ◌∷◌, Some, None, refl, ap, ◌∙◌, arith}
use mathlib.Core.List.{Memᴰ}
use Rattle.std.proofs.lemmas.Bool.{both_ways}
use Rattle.keys.specs.Laws.{KeyLaws}
use Rattle.rules.specs.PlainMap.{find, without, map_after, Unlike, MapLaws}
use Rattle.rules.specs.declared.Ask.{Ask}
use Rattle.rules.specs.declared.Ask.TheVariants.{Get, Put, Cut}
use Rattle.rules.specs.declared.Pair.{Pair}

module _ {K : Type 0} (same : K → K → Bool) (hash : K → ℕ) (laws : KeyLaws same hash) where
  find_without : (key : K) (ys : List (Pair K)) → find same key (without same key ys) ≡ None
  unfolding find without
  find_without key [] = refl
  find_without key (y ∷ ys) = by (same y.key key) refl (find_without key ys)
    where
      by : (t : Bool) → same y.key key ≡ t → find same key (without same key ys) ≡ None → find same key (cond t (without same key ys) (y ∷ without same key ys)) ≡ None
      by t e n = grind arith

  find_others : (key other : K) → same key other ≡ false → (ys : List (Pair K)) → find same other (without same key ys) ≡ find same other ys
  unfolding find without
  find_others key other d [] = refl
  find_others key other d (y ∷ ys) = by (same y.key key) refl (find_others key other d ys)
    where
      by : (t : Bool) → same y.key key ≡ t → find same other (without same key ys) ≡ find same other ys → find same other (cond t (without same key ys) (y ∷ without same key ys)) ≡ cond (same y.key other) (Some y.value) (find same other ys)
      by t e n = grind arith

  -- What is left after taking a key out was there, and has another key.
  left_in : (key : K) (z : Pair K) (ys : List (Pair K)) → Memᴰ z (without same key ys) → Memᴰ z ys × (same z.key key ≡ false)
  unfolding without
  left_in key z [] m = elim m [ ]
  left_in key z (y ∷ ys) m = by (same y.key key) refl (λ k. left_in key z ys k) m
    where
      by : (t : Bool) → same y.key key ≡ t → (Memᴰ z (without same key ys) → Memᴰ z ys × (same z.key key ≡ false)) → Memᴰ z (cond t (without same key ys) (y ∷ without same key ys)) → Memᴰ z (y ∷ ys) × (same z.key key ≡ false)
      by true e below k = let b = below k in (Memᴰ.tail b.0, b.1)
      by false e below (Memᴰ.head s) = (Memᴰ.head s, ap (λ x. same x.key key) s ∙ e)
      by false e below (Memᴰ.tail k) = let b = below k in (Memᴰ.tail b.0, b.1)

  unlike_without : (key : K) (ys : List (Pair K)) → Unlike same ys → Unlike same (without same key ys)
  unfolding without Unlike
  unlike_without key [] u = tt
  unlike_without key (y ∷ ys) u = by (same y.key key) (unlike_without key ys u.1)
    where
      by : (t : Bool) → Unlike same (without same key ys) → Unlike same (cond t (without same key ys) (y ∷ without same key ys))
      by t v = grind (arith, left_in)

  unlike_put : (v : ℕ) (key : K) (ys : List (Pair K)) → Unlike same ys → Unlike same (map_after same (Put v) key ys)
  unfolding Unlike
  unlike_put v key ys u =
      ((λ z m e. both_ways (same z.key key) (left_in key z ys m).1 (laws.symmetric key z.key e)), unlike_without key ys u)

  put_found : (v : ℕ) (key : K) (ys : List (Pair K)) → find same key (map_after same (Put v) key ys) ≡ Some v
  unfolding find
  put_found v key ys = let e = laws.reflexive key in rw e

  others : (ask : Ask) (key other : K) (ys : List (Pair K)) → same key other ≡ false → find same other (map_after same ask key ys) ≡ find same other ys
  unfolding find
  others ask key other ys d = grind (arith, find_others)

  apart : (ask : Ask) (key : K) (ys : List (Pair K)) → Unlike same ys → Unlike same (map_after same ask key ys)
  apart Get key ys u = u
  apart (Put v) key ys u = unlike_put v key ys u
  apart Cut key ys u = unlike_without key ys u

  pub map_laws : MapLaws same
  map_laws = record { put_found = put_found; cut_absent = find_without; others = others; apart = apart }
