-- The plain map of the rules, fed stamped calls, says the same as the machine's log of these calls.
use Rattle.std.proofs.Common.{◌≡◌, ℕ, Bool, true, false, cond, List, [], ◌∷◌, Some, sym, refl, ap, ◌∙◌, arith}
use mathlib.Core.List.{Memᴰ}
use mathlib.Core.Option.{Option as Maybe, none, some}
use Rattle.keys.specs.Laws.{KeyLaws}
use Rattle.machine.proofs.Walk.{no_some, some_is}
use Rattle.machine.proofs.Worth.{replay_worth, plain_pair}
use Rattle.machine.specs.Machine.{replay}
use Rattle.machine.specs.Pairs.{worth, after_pair, replay_pair, says_pair, PlainPair}
use Rattle.rules.proofs.Mapping.{map_laws}
use Rattle.rules.specs.PlainMap.{find, without, map_after, map_answer, Unlike, MapLaws}
use Rattle.rules.specs.Theorem.{StampedCall, fed, Plain}
use Rattle.rules.specs.declared.Ask.{Ask}
use Rattle.rules.specs.declared.Outcome.{Outcome}
use Rattle.rules.specs.declared.Pair.{Pair}
use Rattle.theory.specs.Fed.{PairFor, Feeds, asked, result_of, entries_of, fits, Fitting, maybe}
use Rattle.theory.proofs.FedPairs.{pair_in, PairUnder, PairFeeds}

module _ {K : Type 0} (same : K → K → Bool) (hash : K → ℕ) (laws : KeyLaws same hash) where
  -- The laws of the plain map, of this key kind.
  abbrev map : MapLaws same
  map = map_laws same hash laws

  -- The value of the pair under a key is what a find tells.
  worthy : (k : K) (ys : List (Pair K)) → worth (pair_in same k ys) ≡ maybe (find same k ys)
  unfolding find pair_in
  worthy k [] = refl
  worthy k (y ∷ ys) = by (same y.key k) (worthy k ys)
    where
      by : (b : Bool) → worth (pair_in same k ys) ≡ maybe (find same k ys) → worth (cond b (some (y.key, y.value)) (pair_in same k ys)) ≡ maybe (cond b (Some y.value) (find same k ys))
      by b e = grind arith

  -- Without a key's pair, nothing is under an equal key, and what is under any other stays.
  pair_without : (l k : K) (ys : List (Pair K)) → pair_in same k (without same l ys) ≡ cond (same l k) none (pair_in same k ys)
  unfolding pair_in without
  pair_without l k [] = by (same l k)
    where
      by : (b : Bool) → none ≡ cond {A = Maybe (K × ℕ)} b none none
      by b = grind arith
  pair_without l k (y ∷ ys) = by (same y.key l) refl (same y.key k) refl (same l k) refl (pair_without l k ys)
    where
      by : (a : Bool) → same y.key l ≡ a → (c : Bool) → same y.key k ≡ c → (d : Bool) → same l k ≡ d → pair_in same k (without same l ys) ≡ cond (same l k) none (pair_in same k ys)
          → pair_in same k (cond a (without same l ys) (y ∷ without same l ys)) ≡ cond d none (cond c (some (y.key, y.value)) (pair_in same k ys))
      by a p c q d r n = grind arith

  -- One call changes the map of the rules as it changes the machine's.
  held_after : (ask : Ask) (l k : K) (ys : List (Pair K)) (f : K → Maybe (K × ℕ)) → ((j : K) → pair_in same j ys ≡ f j)
      → pair_in same k (map_after same ask l ys) ≡ after_pair same (asked ask l) f k
  unfolding pair_in
  held_after ask l k ys f e = grind (arith, pair_without, pair_in, none, some)

  held : (calls : List (StampedCall K)) (k : K) → pair_in same k (fed same calls) ≡ replay_pair same (entries_of calls) k
  unfolding pair_in fed replay_pair
  held [] k = refl
  held (c ∷ cs) k = held_after c.ask c.key k (fed same cs) (replay_pair same (entries_of cs)) (λ j. held cs j)

  -- An outcome that fits and is right by the machine's map is that of the map of the rules.
  answer_is : (ask : Ask) (r : Outcome) (k : K) (ys : List (Pair K)) (f : K → Maybe (K × ℕ)) → maybe (find same k ys) ≡ worth (f k) → fits ask r ≡ true
      → result_of r ≡ says_pair (asked ask k) f → r ≡ map_answer same ask k ys
  answer_is ask r k ys f e t q = grind arith

  plain : (calls : List (StampedCall K)) → Fitting calls → PlainPair same (entries_of calls) → Plain same calls
  unfolding PlainPair Plain
  plain [] f p = tt
  plain (c ∷ cs) f p = (
    answer_is c.ask c.result c.key (fed same cs) (replay_pair same (entries_of cs)) (sym (worthy c.key (fed same cs)) ∙ ap worth (held cs c.key)) (f c (Memᴰ.head refl)) p.0,
    plain cs (λ d m. f d (Memᴰ.tail m)) p.1,
  )

  unlike : (calls : List (StampedCall K)) → Unlike same (fed same calls)
  unfolding fed Unlike
  unlike [] = tt
  unlike (c ∷ cs) = map.apart c.ask c.key (fed same cs) (unlike cs)

  -- Where keys stay apart, a pair of the map is the one that its key finds.
  found : (y : Pair K) (ys : List (Pair K)) → Unlike same ys → Memᴰ y ys → pair_in same y.key ys ≡ some (y.key, y.value)
  unfolding pair_in Unlike
  found y [] u m = elim m [ ]
  found y (z ∷ zs) u (Memᴰ.head e) = let q = ap (λ x. same x.key y.key) (sym e) ∙ laws.reflexive y.key in rw q (ap (λ x. some (x.key, x.value)) (sym e))
  found y (z ∷ zs) u (Memᴰ.tail m) = by (same z.key y.key) refl (found y zs u.1 m)
    where
      by : (t : Bool) → same z.key y.key ≡ t → pair_in same y.key zs ≡ some (y.key, y.value) → cond t (some (z.key, z.value)) (pair_in same y.key zs) ≡ some (y.key, y.value)
      by t q n = grind arith

  -- What is under a key is a pair of the map.
  finds : (k : K) (v : K × ℕ) (ys : List (Pair K)) → pair_in same k ys ≡ some v → PairUnder same ys k v
  unfolding pair_in
  finds k v [] e = absurd (no_some e)
  finds k v (y ∷ ys) e = by (same y.key k) refl e (λ d. finds k v ys d)
    where
      on : PairUnder same ys k v → PairUnder same (y ∷ ys) k v
      on r = record { pair = r.pair; inside = Memᴰ.tail r.inside; equal = r.equal; shown = r.shown }

      by : (t : Bool) → same y.key k ≡ t → cond t (some (y.key, y.value)) (pair_in same k ys) ≡ some v → (pair_in same k ys ≡ some v → PairUnder same ys k v) → PairUnder same (y ∷ ys) k v
      by true q d below = record { pair = y; inside = Memᴰ.head refl; equal = q; shown = some_is d }
      by false q d below = on (below d)

  pairs_said : (calls : List (StampedCall K)) (y : Pair K) → Memᴰ y (fed same calls) → replay_pair same (entries_of calls) y.key ≡ some (y.key, y.value)
  pairs_said calls y m = sym (held calls y.key) ∙ (found y (fed same calls) (unlike calls) m)

  said_pairs : (calls : List (StampedCall K)) (k : K) (v : K × ℕ) → replay_pair same (entries_of calls) k ≡ some v → PairUnder same (fed same calls) k v
  said_pairs calls k v e = finds k v (fed same calls) (held calls k ∙ e)

  pub feeds_pair : PairFeeds same
  feeds_pair = record { held = held; worthy = worthy; plain = plain; unlike = unlike; pairs_said = pairs_said; said_pairs = said_pairs }

  -- The value under a key is that of the pair under it.
  value_held : (calls : List (StampedCall K)) (k : K) → maybe (find same k (fed same calls)) ≡ replay same (entries_of calls) k
  value_held calls k = sym (worthy k (fed same calls)) ∙ (ap worth (held calls k) ∙ sym (replay_worth same (entries_of calls) k))

  -- What the log says under a key is the value of a pair of the map.
  value_said : (calls : List (StampedCall K)) (k : K) (v : ℕ) → replay same (entries_of calls) k ≡ some v → PairFor same (fed same calls) k v
  value_said calls k v e = by (replay_pair same (entries_of calls) k) refl (sym (replay_worth same (entries_of calls) k) ∙ e)
    where
      by : (o : Maybe (K × ℕ)) → replay_pair same (entries_of calls) k ≡ o → worth o ≡ some v → PairFor same (fed same calls) k v
      by none q d = absurd (no_some d)
      by (some x) q d =
          let y = said_pairs calls k x q in
          record { pair = y.pair; inside = y.inside; equal = y.equal; valued = ap (λ (u : K × ℕ). u.1) y.shown ∙ some_is d }

  -- So the same holds of values.
  pub feeds : Feeds same
  feeds =
      record {
        held = value_held;
        plain = λ calls f p. plain calls f (plain_pair same (entries_of calls) p);
        unlike = unlike;
        pairs_said = λ calls y m. replay_worth same (entries_of calls) y.key ∙ ap worth (pairs_said calls y m);
        said_pairs = value_said;
      }
