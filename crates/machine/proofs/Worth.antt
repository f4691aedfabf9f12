-- The value of the pair that is found is the value that is found: what is proved of pairs holds of values.
use native.Mathlib.Omega.{arith}
use mathlib.Core.Path.{◌≡◌, refl, sym, ap, ◌∙◌}
use mathlib.Core.Bool.{Bool, cond}
use mathlib.Core.List.{List, [], ◌∷◌}
use mathlib.Core.Option.{Option, none}
use Prim.Native.Nat.{ℕ, zero, suc}
use Rattle.machine.specs.Tree.{Tree, find, seek, lookup}
use Rattle.machine.specs.Machine.{State, Op, Entry, view, replay, says, Plain}
use Rattle.machine.specs.Claim.{Stands}
use Rattle.machine.specs.Pairs.{worth, find_pair, seek_pair, lookup_pair, replay_pair, says_pair, PlainPair, StandsPair}

worth_cond : {K : Type 0} (b : Bool) (x y : Option (K × ℕ)) → cond b (worth x) (worth y) ≡ worth (cond b x y)
worth_cond b x y = grind arith

-- Where there is no value, there is no pair.
pub worth_none : {K : Type 0} (o : Option (K × ℕ)) → worth o ≡ none → o ≡ none
worth_none o e = grind arith

pub find_worth : {K : Type 0} (same : K → K → Bool) (k : K) (ps : List (K × ℕ)) → find same k ps ≡ worth (find_pair same k ps)
unfolding find find_pair
find_worth same k [] = refl
find_worth same k (p ∷ ps) = rw (find_worth same k ps) (grind arith)

-- Where no value is found, no pair is.
pub none_pair : {K : Type 0} (same : K → K → Bool) (k : K) (ps : List (K × ℕ)) → find same k ps ≡ none → find_pair same k ps ≡ none
none_pair same k ps e = worth_none (find_pair same k ps) (sym (find_worth same k ps) ∙ e)

module _ {K : Type 0} (same : K → K → Bool) (hash : K → ℕ) (chunk : ℕ → ℕ → ℕ) where
  seek_worth : (M : Tree K) (k : K) (n i c : ℕ) → seek same hash chunk M k n i c ≡ worth (seek_pair same hash chunk M k n i c)
  unfolding seek seek_pair
  seek_worth M k zero i c = grind (arith, find_worth)
  seek_worth M k (suc n) i c = let h = seek_worth M k n (suc i) in grind (arith, find_worth)

  pub lookup_worth : (M : Tree K) (k : K) → lookup same hash chunk M k ≡ worth (lookup_pair same hash chunk M k)
  unfolding lookup lookup_pair
  lookup_worth M k = seek_worth M k 7 0 0

module _ {K : Type 0} (same : K → K → Bool) where
  pub replay_worth : (es : List (Entry K)) (k : K) → replay same es k ≡ worth (replay_pair same es k)
  unfolding replay replay_pair
  replay_worth [] k = refl
  replay_worth (e ∷ es) k = let h = replay_worth es in grind (arith, worth_cond)

  says_worth : (o : Op K) (f : K → Option ℕ) (g : K → Option (K × ℕ)) → ((l : K) → f l ≡ worth (g l)) → says_pair o g ≡ says o f
  says_worth o f g e = grind arith

  pub plain_worth : (es : List (Entry K)) → PlainPair same es → Plain same es
  unfolding Plain PlainPair
  plain_worth [] p = tt
  plain_worth (e ∷ es) p = (p.0 ∙ says_worth e.op (replay same es) (replay_pair same es) (replay_worth es), plain_worth es p.1)

  pub plain_pair : (es : List (Entry K)) → Plain same es → PlainPair same es
  unfolding Plain PlainPair
  plain_pair [] p = tt
  plain_pair (e ∷ es) p = (p.0 ∙ sym (says_worth e.op (replay same es) (replay_pair same es) (replay_worth es)), plain_pair es p.1)

-- A log that stands pair by pair stands.
pub stands_worth : {K : Type 0} (same : K → K → Bool) (hash : K → ℕ) (chunk : ℕ → ℕ → ℕ) (es : List (Entry K)) (s : State K) → StandsPair same hash chunk es s → Stands same hash chunk es s
stands_worth same hash chunk es s z =
    record {
      results = plain_worth same es z.results;
      rising = z.rising;
      held = λ k. replay_worth same es k ∙ (ap worth (z.held k) ∙ sym (lookup_worth same hash chunk (view s.mem) k));
    }
