-- Stamped calls as entries of the machine's log, and what it means that the plain map of the rules says the same as that log.
use Rattle.std.specs.Prelude.{◌≡◌, ℕ, Bool, true, false, List, [], ◌∷◌, Some, None, Option}
use mathlib.Core.List.{Memᴰ}
use Rattle.std.proofs.Math.Option.{Option as Maybe, none, some}
use Rattle.keys.specs.Laws.{KeyLaws}
use Rattle.machine.specs.Machine.{Op, get, put, cut, Result, value, stored, Entry, replay, Plain as LogPlain}
use Rattle.rules.specs.PlainMap.{find, Unlike}
use Rattle.rules.specs.Theorem.{StampedCall, fed, Plain}
use Rattle.rules.specs.declared.Ask.{Ask}
use Rattle.rules.specs.declared.Ask.TheVariants.{Get, Put, Cut}
use Rattle.rules.specs.declared.Outcome.{Outcome}
use Rattle.rules.specs.declared.Outcome.TheVariants.{Found, Absent, Stored, Removed}
use Rattle.rules.specs.declared.Pair.{Pair}

-- What is asked of a key, as a call of the machine.
abbrev pub asked : {K : Type 0} → Ask → K → Op K
asked Get k = get k
asked (Put v) k = put k v
asked Cut k = cut k

-- An outcome as a result of the machine, which does not tell a value found from one removed.
abbrev pub result_of : Outcome → Result
result_of (Found v) = value (some v)
result_of Absent = value none
result_of Stored = stored
result_of (Removed v) = value (some v)

-- A stamped call as an entry of the machine's log.
abbrev pub entry_of : {K : Type 0} → StampedCall K → Entry K
entry_of c = record { stamp = c.stamp; op = asked c.ask c.key; result = result_of c.result }

-- Stamped calls as a log of the machine, in the same order.
abbrev pub entries_of : {K : Type 0} → List (StampedCall K) → List (Entry K)
entries_of [] = []
entries_of (c ∷ cs) = entry_of c ∷ entries_of cs

-- Whether an outcome is one that the ask may have.
abbrev pub fits : Ask → Outcome → Bool
fits Get (Found v) = true
fits Get Absent = true
fits Get Stored = false
fits Get (Removed v) = false
fits (Put u) (Found v) = false
fits (Put u) Absent = false
fits (Put u) Stored = true
fits (Put u) (Removed v) = false
fits Cut (Found v) = false
fits Cut Absent = true
fits Cut Stored = false
fits Cut (Removed v) = true

-- Each call has an outcome that its ask may have.
abbrev pub Fitting : {K : Type 0} → List (StampedCall K) → Type 0
Fitting {K} calls = (c : StampedCall K) → Memᴰ c calls → fits c.ask c.result ≡ true

-- A value that may be there, in the words of the machine.
abbrev pub maybe : Option ℕ → Maybe ℕ
maybe None = none
maybe (Some v) = some v

module _ {K : Type 0} (same : K → K → Bool) where
  -- The value that the plain map of the rules holds under a key, in the words of the machine.
  abbrev pub value_in : K → List (Pair K) → Maybe ℕ
  value_in k ys = maybe (find same k ys)

  -- A pair of the map with a key equal to the one given, and with the value given.
  pub record PairFor (ys : List (Pair K)) (k : K) (v : ℕ) : Type 0 where
    pub pair : Pair K
    pub inside : Memᴰ pair ys
    pub equal : same pair.key k ≡ true
    pub valued : pair.value ≡ v

  -- The plain map of the rules, fed any calls, says the same as the machine's log of these calls.
  pub record Feeds : Type 0 where
    -- Under each key the map holds what the log says.
    pub held : (calls : List (StampedCall K)) (k : K) → value_in k (fed same calls) ≡ replay same (entries_of calls) k
    -- Outcomes that fit their asks and are right by the log are those of the map.
    pub plain : (calls : List (StampedCall K)) → Fitting calls → LogPlain same (entries_of calls) → Plain same calls
    -- The map holds no two pairs of equal keys.
    pub unlike : (calls : List (StampedCall K)) → Unlike same (fed same calls)
    -- The log says the value of each pair of the map under the pair's key.
    pub pairs_said : (calls : List (StampedCall K)) (y : Pair K) → Memᴰ y (fed same calls) → replay same (entries_of calls) y.key ≡ some y.value
    -- What the log says under a key is the value of a pair of the map.
    pub said_pairs : (calls : List (StampedCall K)) (k : K) (v : ℕ) → replay same (entries_of calls) k ≡ some v → PairFor (fed same calls) k v

  -- The theorem, of a key kind that keeps its laws.
  abbrev pub FeedTheorem : (K → ℕ) → Type 0
  FeedTheorem hash = KeyLaws same hash → Feeds
