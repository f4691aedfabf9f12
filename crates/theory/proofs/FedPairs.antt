-- What it means that the plain map of the rules says the same as the machine's log, pair by pair.
use Rattle.std.proofs.Common.{◌≡◌, ℕ, Bool, true, cond, List, [], ◌∷◌}
use mathlib.Core.List.{Memᴰ}
use mathlib.Core.Option.{Option as Maybe, none, some}
use Rattle.machine.specs.Pairs.{worth, replay_pair, PlainPair}
use Rattle.rules.specs.PlainMap.{find, Unlike}
use Rattle.rules.specs.Theorem.{StampedCall, fed, Plain}
use Rattle.rules.specs.declared.Pair.{Pair}
use Rattle.theory.specs.Fed.{entries_of, Fitting, maybe}

module _ {K : Type 0} (same : K → K → Bool) where
  -- The pair that the plain map of the rules holds under a key, in the words of the machine.
  unfoldable pub pair_in : K → List (Pair K) → Maybe (K × ℕ)
  pair_in k [] = none
  pair_in k (y ∷ ys) = cond (same y.key k) (some (y.key, y.value)) (pair_in k ys)

  -- A pair of the map with a key equal to the one given, as the machine shows it.
  pub record PairUnder (ys : List (Pair K)) (k : K) (x : K × ℕ) : Type 0 where
    pub pair : Pair K
    pub inside : Memᴰ pair ys
    pub equal : same pair.key k ≡ true
    pub shown : (pair.key, pair.value) ≡ x

  -- The plain map of the rules, fed any calls, says the same as the machine's log of these calls.
  pub record PairFeeds : Type 0 where
    -- Under each key the map holds the pair that the log says.
    pub held : (calls : List (StampedCall K)) (k : K) → pair_in k (fed same calls) ≡ replay_pair same (entries_of calls) k
    pub worthy : (k : K) (ys : List (Pair K)) → worth (pair_in k ys) ≡ maybe (find same k ys)
    -- Outcomes that fit their asks and are right by the log are those of the map.
    pub plain : (calls : List (StampedCall K)) → Fitting calls → PlainPair same (entries_of calls) → Plain same calls
    -- The map holds no two pairs of equal keys.
    pub unlike : (calls : List (StampedCall K)) → Unlike same (fed same calls)
    -- The log says each pair of the map under the pair's key.
    pub pairs_said : (calls : List (StampedCall K)) (y : Pair K) → Memᴰ y (fed same calls) → replay_pair same (entries_of calls) y.key ≡ some (y.key, y.value)
    -- What the log says under a key is a pair of the map.
    pub said_pairs : (calls : List (StampedCall K)) (k : K) (x : K × ℕ) → replay_pair same (entries_of calls) k ≡ some x → PairUnder (fed same calls) k x
