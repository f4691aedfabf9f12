-- Openings and withdrawals: on the state shown they are steps of the machine, and they promise nothing.
use Rattle.std.proofs.Common.{◌≡◌, ℕ, suc, ◌<◌, Bool, true, false, cond, not, leb, List, [], ◌∷◌, length, set, Ok, Err, Option, sym, refl, subst, arith}
use Rattle.keys.specs.Routes.{chunk_at}
use Rattle.std.proofs.lemmas.Bool.{or_parts, leb-false, false≢true}
use Rattle.panel.specs.declared.Refusal.TheVariants.{NoSuchSeat, SeatTaken, SeatIdle, CountersSpent, MemoryUnfit}
use Rattle.machine.specs.Machine.{Seat as Place, read}
use Rattle.machine.specs.Turn.{Turn, Turns, Goes}
use Rattle.rules.specs.Calls.{Left, refused_as, opened, with_call, withdrawn, withdrawal}
use Rattle.rules.specs.Memory.{Memory, State, last_count}
use Rattle.rules.specs.Perform.{seated}
use Rattle.rules.specs.Reached.{cell_count, pair_count}
use Rattle.rules.specs.Seats.{seat_of, no_seat, idle_seat, opened_seat, is_idle}
use Rattle.rules.specs.Theorem.{StampedCall}
use Rattle.rules.specs.declared.Ask.{Ask}
use Rattle.rules.specs.declared.Figures.{Figures}
use Rattle.rules.specs.declared.Seat.{Seat}
use Rattle.theory.proofs.Entries.{set_here, set_there}
use Rattle.theory.proofs.Ground.{Within}
use Rattle.theory.proofs.Promises.{cells_by, pairs_by, cells_set, pairs_set}
use Rattle.theory.proofs.Seating.{Shows}
use Rattle.theory.proofs.Turning.{Moved, stays, reshown, asked_plain}
use Rattle.theory.specs.Fed.{asked}
use Rattle.theory.specs.Records.{Steady}
use Rattle.theory.specs.Shown.{shown_mem}
use Rattle.rules.specs.declared.Stamped.{Stamped}

module _ {K : Type 0} (same : K → K → Bool) (hash : K → ℕ) where
  -- The keys count for nothing.
  cells_keyless : (m : Memory K) (keys : List K) → cell_count same hash (record { words = m.words; mains = m.mains; pairs = m.pairs; keys = keys }) ≡ cell_count same hash m
  unfolding cell_count
  cells_keyless m keys = refl

  pairs_keyless : (m : Memory K) (keys : List K) → pair_count same hash (record { words = m.words; mains = m.mains; pairs = m.pairs; keys = keys }) ≡ pair_count same hash m
  unfolding pair_count
  pairs_keyless m keys = refl

  -- A seat's record anew that promises nothing, in a memory that reaches as much.
  reseated_within : {s : State K} → Within same hash s → (z : State K) (t : ℕ) (y : Seat) → t < length s.table.seats → z.table.seats ≡ set s.table.seats t y → z.table.limits ≡ s.table.limits
      → cell_count same hash z.memory ≡ cell_count same hash s.memory → pair_count same hash z.memory ≡ pair_count same hash s.memory → cells_by y ≡ 0 → pairs_by y ≡ 0 → Within same hash z
  reseated_within v z t y l e q a b c d = grind (arith, cells_set, pairs_set)

  module _ {f : Figures} where
    -- A seat that the table has is one of those shown.
    pub seat_in_lem : {s : State K} → Steady f s → (t : ℕ) → no_seat s t ≡ false → t < length s.table.seats
    seat_in_lem {s} w t u = leb-false (length s.table.seats) t (or_parts (leb s.table.limits.seats t) _ u).1

    pub shown_in : {s : State K} {xs : List (Place K)} → Steady f s → Shows s xs → (t : ℕ) → no_seat s t ≡ false → t < length xs
    shown_in w v t u = let l = seat_in_lem w t u in let e = w.seats in let n = v.eight in omega (arith, l, e, n)

    pub open_moves : {s : State K} {xs : List (Place K)} {calls : List (StampedCall K)} → Steady f s → Shows s xs → (t : ℕ) (ask : Ask) (key : K) → Moved same hash s (opened s t ask key).state xs calls calls
    open_moves {s} {xs} {calls} w v t ask key = by (no_seat s t) refl (is_idle (seat_of s t).phase) refl (leb last_count s.table.openings) (leb (length s.memory.keys) t) refl
      where
        by : (u : Bool) → no_seat s t ≡ u → (i : Bool) → is_idle (seat_of s t).phase ≡ i → (n k : Bool) → leb (length s.memory.keys) t ≡ k
            → (let left : Left K ℕ = cond u (refused_as s NoSuchSeat) (cond (not i) (refused_as s SeatTaken) (cond n (refused_as s CountersSpent) (cond k (refused_as s MemoryUnfit) (record { state = with_call s t ask key; answer = Ok (suc s.table.openings) })))) in Moved same hash s left.state xs calls calls)
        by false u true o false false l =
            record {
              seats = set xs t (read (asked ask key) (0 ∷ []));
              shows =
                  reshown same hash v t key (seat_in_lem w t u) (shown_in w v t u) (with_call s t ask key) (opened_seat ask (suc s.table.openings)) (read (asked ask key) (0 ∷ [])) refl
                  (λ p ne. set_there s.memory.keys t p key ne) (set_here s.memory.keys t key (leb-false (length s.memory.keys) t l)) (λ i. absurd (false≢true i)) (λ i. refl);
              run =
                  λ b r. Turns.then r
                  (Turn.goes t (read (asked ask key) (0 ∷ [])) s.table.ticks (shown_in w v t u) (omega arith)
                  (subst (λ (y : Place K). Goes same hash chunk_at (shown_mem s.memory) y (read (asked ask key) (0 ∷ []))) (sym (v.idles t o)) (Goes.opens (asked ask key) (asked_plain ask key))));
              fitting = λ fit. fit;
            }
        by _ u _ o _ _ l = stays same hash v

    pub open_within : {s : State K} → Steady f s → Within same hash s → (t : ℕ) (ask : Ask) (key : K) → Within same hash (opened s t ask key).state
    open_within {s} w v t ask key = by (no_seat s t) refl (not (is_idle (seat_of s t).phase)) (leb last_count s.table.openings) (leb (length s.memory.keys) t)
      where
        by : (u : Bool) → no_seat s t ≡ u → (i n k : Bool) → (let left : Left K ℕ = cond u (refused_as s NoSuchSeat) (cond i (refused_as s SeatTaken) (cond n (refused_as s CountersSpent) (cond k (refused_as s MemoryUnfit) (record { state = with_call s t ask key; answer = Ok (suc s.table.openings) })))) in Within same hash left.state)
        by false u false false false =
            reseated_within v (with_call s t ask key) t (opened_seat ask (suc s.table.openings)) (seat_in_lem w t u) refl refl
            (cells_keyless s.memory (set s.memory.keys t key)) (pairs_keyless s.memory (set s.memory.keys t key)) refl refl
        by _ u _ _ _ = v

    -- An opening finds its key place.
    pub open_fit : {s : State K} → Steady f s → (t : ℕ) (ask : Ask) (key : K) → (opened s t ask key).answer ≡ Err MemoryUnfit → ⊥
    open_fit w t ask key = grind arith

    -- A seat that is freed promises nothing any more.
    pub withdraw_within : {s : State K} → Steady f s → Within same hash s → (t : ℕ) → Within same hash (withdrawn s t).state
    withdraw_within {s} w v t = by (no_seat s t) refl (is_idle (seat_of s t).phase)
      where
        by : (u : Bool) → no_seat s t ≡ u → (i : Bool) → (let left : Left K (Option Stamped) = cond u (refused_as s NoSuchSeat) (cond i (refused_as s SeatIdle) (record { state = seated s s.memory t idle_seat s.table.ticks; answer = Ok (withdrawal (seat_of s t)) })) in Within same hash left.state)
        by false u false = reseated_within v (seated s s.memory t idle_seat s.table.ticks) t idle_seat (seat_in_lem w t u) refl refl refl refl refl refl
        by _ u _ = v
