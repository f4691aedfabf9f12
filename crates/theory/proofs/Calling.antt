-- What a call can do to a state: nothing, an opening, a seat freed, or what is done with the plan that a turn's sight leads to.
use Rattle.std.proofs.Common.{◌≡◌, ℕ, Bool, false, cond, leb, List, Some, None, Option, sym, refl, ap, ◌∙◌, subst, arith}
use Rattle.std.specs.List.{slice_get}
use Rattle.panel.specs.declared.Refusal.TheVariants.{NoSuchSeat, SeatIdle, CountersSpent}
use Rattle.rules.specs.Calls.{with_call}
use Rattle.rules.specs.History.{Does}
use Rattle.rules.specs.Memory.{State, last_count}
use Rattle.rules.specs.Perform.{Out, Picks, Takes, seated, performed, turned}
use Rattle.rules.specs.Seats.{seat_of, no_seat, idle_seat, is_idle}
use Rattle.rules.specs.Turns.{refusing, keyed, planned}
use Rattle.rules.specs.declared.Ask.{Ask}
use Rattle.rules.specs.declared.Call.{Call}
use Rattle.rules.specs.declared.Call.TheVariants.{Open, Turn, Withdraw, Count}
use Rattle.rules.specs.declared.Plan.{Plan}
use Rattle.rules.specs.declared.Reply.{Reply}
use Rattle.rules.specs.declared.Reply.TheVariants.{Opened, Turned, Withdrew, Counted}
use Rattle.theory.proofs.Sights.{Sees, sees}

module _ {K : Type 0} (same : K → K → Bool) (hash : K → ℕ) (P : State K → Type 0) (s : State K) where
  -- What holds of the state and of each that a call can make of it.
  pub record Preserves : Type 0 where
    pub stays : P s
    pub opens : (t : ℕ) (ask : Ask) (key : K) → P (with_call s t ask key)
    pub frees : (t : ℕ) → P (seated s s.memory t idle_seat s.table.ticks)
    pub turns : (t : ℕ) (k : K) (picks : Picks) → is_idle (seat_of s t).phase ≡ false → (p : Plan) (words : List ℕ) → Sees same hash s.memory (seat_of s t) k p words → Takes same hash s p picks
        → P (performed same hash s t words p picks).state

  module _ (kept : Preserves) where
    turn_by : (t : ℕ) (picks : Picks) → Takes same hash s (planned same hash s t).plan picks → P (turned same hash s t picks).state
    turn_by t picks takes = by (no_seat s t) (is_idle (seat_of s t).phase) refl (leb last_count s.table.ticks) takes
      where
        key : (o : Option K) → is_idle (seat_of s t).phase ≡ false → Takes same hash s (keyed same hash o (seat_of s t) s.memory).plan picks
            → (let p = keyed same hash o (seat_of s t) s.memory in P (performed same hash s t p.words p.plan picks).state)
        key None i u = kept.stays
        key (Some k) i u = kept.turns t k picks i _ _ (sees same hash s.memory (seat_of s t) k i) u

        by : (b c : Bool) → is_idle (seat_of s t).phase ≡ c → (d : Bool)
            → (let p = cond b (refusing s NoSuchSeat) (cond c (refusing s SeatIdle) (cond d (refusing s CountersSpent) (keyed same hash (slice_get s.memory.keys t) (seat_of s t) s.memory))) in Takes same hash s p.plan picks → P (performed same hash s t p.words p.plan picks).state)
        by false false i false u = key (slice_get s.memory.keys t) i u
        by _ _ i _ u = kept.stays

    -- It holds of the state after any call.
    pub does_by : (c : Call K) (r : Reply) (z : State K) → Does same hash s c r z → P z
    does_by (Open t ask key) (Opened r) z (p, q) = subst P (sym q) (grind arith)
    does_by (Turn t) (Turned r) z (out, (picks, takes, e), p, q) = subst P (sym (q ∙ ap (λ (o : Out K). o.state) e)) (turn_by t picks takes)
    does_by (Withdraw t) (Withdrew r) z (p, q) = subst P (sym q) (grind arith)
    does_by Count (Counted r) z (p, q) = subst P (sym q) kept.stays
    does_by _ _ z d = absurd d
