-- The plain map that results are measured by: pairs, no two of equal keys, started empty.
use Rattle.std.specs.Prelude.{◌≡◌, ℕ, Bool, true, false, cond, List, [], ◌∷◌, Some, None, Option, ◌≢◌}
use mathlib.Core.List.{Memᴰ}
use Rattle.rules.specs.declared.Ask.{Ask}
use Rattle.rules.specs.declared.Ask.TheVariants.{Get, Put, Cut}
use Rattle.rules.specs.declared.Outcome.{Outcome}
use Rattle.rules.specs.declared.Outcome.TheVariants.{Found, Absent, Stored, Removed}
use Rattle.rules.specs.declared.Pair.{Pair}

-- What a get answers, by the value held.
abbrev pub found_by : Option ℕ → Outcome
found_by None = Absent
found_by (Some v) = Found v

-- What a cut answers, by the value held.
abbrev pub removed_by : Option ℕ → Outcome
removed_by None = Absent
removed_by (Some v) = Removed v

module _ {K : Type 0} (same : K → K → Bool) where
  -- The value held under a key.
  unfoldable pub find : K → List (Pair K) → Option ℕ
  find key [] = None
  find key (y ∷ ys) = cond (same y.key key) (Some y.value) (find key ys)

  -- The map without the pair of an equal key.
  unfoldable pub without : K → List (Pair K) → List (Pair K)
  without key [] = []
  without key (y ∷ ys) = cond (same y.key key) (without key ys) (y ∷ without key ys)

  -- The map after a call: a put takes an equal key's pair out and puts in its own, a cut takes it out.
  abbrev pub map_after : Ask → K → List (Pair K) → List (Pair K)
  map_after Get key ys = ys
  map_after (Put v) key ys = record { key = key; value = v } ∷ without key ys
  map_after Cut key ys = without key ys

  -- What a call answers.
  abbrev pub map_answer : Ask → K → List (Pair K) → Outcome
  map_answer Get key ys = found_by (find key ys)
  map_answer (Put v) key ys = Stored
  map_answer Cut key ys = removed_by (find key ys)

  -- No two pairs have equal keys.
  unfoldable pub Unlike : List (Pair K) → Type 0
  Unlike [] = Unit {0}
  Unlike (y ∷ ys) = ((z : Pair K) → Memᴰ z ys → same y.key z.key ≢ true) × Unlike ys

  -- The map's own laws: after a put a get finds the value, after a cut nothing; other keys see no change; keys stay apart.
  pub record MapLaws : Type 0 where
    pub put_found : (v : ℕ) (key : K) (ys : List (Pair K)) → find key (map_after (Put v) key ys) ≡ Some v
    pub cut_absent : (key : K) (ys : List (Pair K)) → find key (map_after Cut key ys) ≡ None
    pub others : (ask : Ask) (key other : K) (ys : List (Pair K)) → same key other ≡ false → find other (map_after ask key ys) ≡ find other ys
    pub apart : (ask : Ask) (key : K) (ys : List (Pair K)) → Unlike ys → Unlike (map_after ask key ys)
