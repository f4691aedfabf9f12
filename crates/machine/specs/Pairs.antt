-- Lookups and the plain map with the pair in place of its value. Keys that are equal need not be one value, so this says more.
use Rattle.std.specs.Prelude.{◌≡◌, Bool, cond, List, [], ◌∷◌, ℕ, zero, suc}
use Rattle.std.proofs.Math.Option.{Option, none, some}
use Rattle.keys.specs.Laws.{KeyLaws}
use Rattle.machine.specs.Tree.{Spot, stands, on, Tree}
use Rattle.machine.specs.Machine.{State, Op, get, put, renew, cut, cutting, climb, Result, value, stored, Entry, view, Runs, Rising}

-- The value of a pair, if there is one.
abbrev pub worth : {K : Type 0} → Option (K × ℕ) → Option ℕ
worth none = none
worth (some x) = some x.1

-- The first pair of an equal key.
unfoldable pub find_pair : {K : Type 0} → (K → K → Bool) → K → List (K × ℕ) → Option (K × ℕ)
find_pair same k [] = none
find_pair same k (p ∷ ps) = cond (same p.0 k) (some p) (find_pair same k ps)

-- The answer at a spot: what its pairs say, or what comes of the next cell.
abbrev pub answer_pair : {K : Type 0} → (K → K → Bool) → K → Spot K → (ℕ → Option (K × ℕ)) → Option (K × ℕ)
answer_pair same k (stands ps) f = find_pair same k ps
answer_pair same k (on c) f = f c

module _ {K : Type 0} (same : K → K → Bool) (hash : K → ℕ) (chunk : ℕ → ℕ → ℕ) where
  -- The pair under the key k from the cell c at index i on, with n more indexes to go.
  unfoldable pub seek_pair : Tree K → K → ℕ → ℕ → ℕ → Option (K × ℕ)
  seek_pair M k zero i c = answer_pair same k (M c (chunk (hash k) i)) (λ d. none)
  seek_pair M k (suc n) i c = answer_pair same k (M c (chunk (hash k) i)) (λ d. seek_pair M k n (suc i) d)

  -- The pair under a key, from the root on; index 7 is the last.
  unfoldable pub lookup_pair : Tree K → K → Option (K × ℕ)
  lookup_pair M k = seek_pair M k 7 0 0

-- The plain map, as the pair under each key, after a call. Only calls as they were opened stand in a log.
abbrev pub after_pair : {K : Type 0} → (K → K → Bool) → Op K → (K → Option (K × ℕ)) → K → Option (K × ℕ)
after_pair same (get l) f k = f k
after_pair same (put l v) f k = cond (same l k) (some (l, v)) (f k)
after_pair same (renew l v) f k = f k
after_pair same (cut l) f k = cond (same l k) none (f k)
after_pair same (cutting l v) f k = f k
after_pair same (climb l) f k = f k

-- The plain map after all calls of a log, of which the newest stands first.
unfoldable pub replay_pair : {K : Type 0} → (K → K → Bool) → List (Entry K) → K → Option (K × ℕ)
replay_pair same [] k = none
replay_pair same (e ∷ es) k = after_pair same e.op (replay_pair same es) k

-- The result that the plain map gives a call.
abbrev pub says_pair : {K : Type 0} → Op K → (K → Option (K × ℕ)) → Result
says_pair (get k) f = value (worth (f k))
says_pair (put k v) f = stored
says_pair (renew k v) f = stored
says_pair (cut k) f = value (worth (f k))
says_pair (cutting k v) f = stored
says_pair (climb k) f = stored

-- Each result of the log is that of the plain map.
unfoldable pub PlainPair : {K : Type 0} → (K → K → Bool) → List (Entry K) → Type 0
PlainPair same [] = Unit {0}
PlainPair same (e ∷ es) = (e.result ≡ says_pair e.op (replay_pair same es)) × PlainPair same es

-- The results are those of a plain map, the stamps rise, and a lookup finds the very pair that the map holds.
pub record StandsPair {K : Type 0} (same : K → K → Bool) (hash : K → ℕ) (chunk : ℕ → ℕ → ℕ) (es : List (Entry K)) (s : State K) : Type 0 where
  pub results : PlainPair same es
  pub rising : Rising s.ticks es
  pub held : (k : K) → replay_pair same es k ≡ lookup_pair same hash chunk (view s.mem) k

-- Of a key kind that keeps its laws, and whatever the chunks of a hash are, the log of every run stands, pair by pair.
abbrev pub PairClaim : {K : Type 0} → (K → K → Bool) → (K → ℕ) → Type 0
PairClaim {K} same hash = KeyLaws same hash → (chunk : ℕ → ℕ → ℕ)
    → (es : List (Entry K)) (s : State K) → Runs same hash chunk es s → StandsPair same hash chunk es s
