-- A turn that prepares nothing is, on the state shown, a turn of the machine.
use Rattle.std.proofs.Common.{◌≡◌, ℕ, zero, suc, ◌+◌, ◌<◌, ◌≤◌, Bool, true, false, List, [], ◌∷◌, length, get_or, set, Some, refl, ap, ◌∙◌, arith, length-set, get_or-set_other, get_or-set_same}
use mathlib.Core.Option.{none, some}
use Rattle.keys.specs.Routes.{chunk_at}
use Rattle.std.specs.List.{slice_get}
use Rattle.std.proofs.lemmas.Bool.{cases_eq}
use Rattle.std.proofs.lemmas.Option.{same_Some}
use Rattle.machine.specs.Machine.{Seat as Place, plain, gives, idle, read}
use Rattle.machine.specs.Turn.{Turn, Turns, IsPlain, returns, again, dropped as dropped_to}
use Rattle.rules.specs.Memory.{Memory, State}
use Rattle.rules.specs.Perform.{seated}
use Rattle.rules.specs.Seats.{seat_of, is_idle, dropped}
use Rattle.rules.specs.Theorem.{StampedCall}
use Rattle.rules.specs.declared.Ask.{Ask}
use Rattle.rules.specs.declared.Outcome.{Outcome}
use Rattle.rules.specs.declared.Seat.{Seat}
use Rattle.theory.proofs.Seating.{above, above_of, swapping, shown_seat, shown_state, Shows}
use Rattle.theory.proofs.Writing.{Hopes}
use Rattle.theory.specs.Fed.{asked, result_of, entries_of, fits, Fitting}
use Rattle.theory.specs.Shown.{shown_mem}

-- THE CALLS OF SEATS

pub asked_plain : {K : Type 0} (ask : Ask) (k : K) → IsPlain (asked ask k)
asked_plain ask k = grind arith

-- What has prepared its swap is the call that was asked.
pub plain_swapping : {K : Type 0} (ask : Ask) (adds : Bool) (r : Outcome) (k : K) → plain (swapping ask adds r k) ≡ asked ask k
plain_swapping ask adds r k = grind arith

-- And gives the result that it hopes for.
pub gives_hoped : {K : Type 0} (ask : Ask) (adds : Bool) (r : Outcome) (k : K) → Hopes ask r → gives (swapping ask adds r k) ≡ result_of r
gives_hoped ask adds r k h = grind arith

-- SEATS SHOWN AFTER A TURN

-- The call of a seat with the result that a turn fixes.
abbrev pub fixed_as : {K : Type 0} → State K → ℕ → K → ℕ → Outcome → StampedCall K
fixed_as s t k at r = record { number = (seat_of s t).number; ask = (seat_of s t).ask; key = k; at = at; stamp = suc s.table.ticks; result = r }

module _ {K : Type 0} (same : K → K → Bool) (hash : K → ℕ) where
  -- A state that the machine comes to, with the calls that are stamped then.
  pub record Moved (s z : State K) (xs : List (Place K)) (calls more : List (StampedCall K)) : Type 0 where
    pub seats : List (Place K)
    pub shows : Shows z seats
    pub run : (b : Bool) → Turns same hash chunk_at b (entries_of calls) (shown_state s xs) → Turns same hash chunk_at b (entries_of more) (shown_state z seats)
    pub fitting : Fitting calls → Fitting more

  -- Nothing alters.
  pub stays : {s : State K} {xs : List (Place K)} {calls : List (StampedCall K)} → Shows s xs → Moved s s xs calls calls
  stays {xs = xs} w = record { seats = xs; shows = w; run = λ b r. r; fitting = λ f. f }

  module _ {s : State K} {xs : List (Place K)} (w : Shows s xs) (t : ℕ) (k : K) (in_seats : t < length s.table.seats) (in_shown : t < length xs) where
    -- One seat's record anew, with its key, shown by one seat anew.
    pub reshown : (z : State K) (y : Seat) (x : Place K) → z.table.seats ≡ set s.table.seats t y
        → ((p : ℕ) → (p ≡ t → ⊥) → slice_get z.memory.keys p ≡ slice_get s.memory.keys p) → slice_get z.memory.keys t ≡ Some k
        → (is_idle y.phase ≡ true → x ≡ idle) → (is_idle y.phase ≡ false → x ≡ shown_seat y k) → Shows z (set xs t x)
    reshown z y x seats others own free busy = grind (arith, length-set, cases_eq, get_or-set_same, get_or-set_other, shown_seat, same_Some)

  module _ {s : State K} {xs : List (Place K)} (w : Shows s xs) (t : ℕ) (k : K) (keyed : slice_get s.memory.keys t ≡ Some k) (in_seats : t < length s.table.seats) (in_shown : t < length xs) where
    -- The seats shown after a turn that leaves another memory and another record.
    reseated : (m : Memory K) → m.keys ≡ s.memory.keys → (y : Seat) (n : ℕ) (x : Place K)
        → (is_idle y.phase ≡ true → x ≡ idle) → (is_idle y.phase ≡ false → x ≡ shown_seat y k) → Shows (seated s m t y n) (set xs t x)
    reseated m keys y n x =
        reshown w t k in_seats in_shown (seated s m t y n) y x refl (λ p ne. ap (λ (ks : List K). slice_get ks p) keys) (ap (λ (ks : List K). slice_get ks t) keys ∙ keyed)

    -- The seat goes on, and nothing is fixed.
    pub going_on : {calls : List (StampedCall K)} (m : Memory K) → m.keys ≡ s.memory.keys → (y : Seat) (x : Place K)
        → (is_idle y.phase ≡ true → x ≡ idle) → (is_idle y.phase ≡ false → x ≡ shown_seat y k)
        → Turn same hash chunk_at (shown_state s xs) none (record { mem = shown_mem m; seats = set xs t x; ticks = suc s.table.ticks })
        → Moved s (seated s m t y (suc s.table.ticks)) xs calls calls
    going_on m keys y x free busy turn =
        record { seats = set xs t x; shows = reseated m keys y (suc s.table.ticks) x free busy; run = λ b r. Turns.then r turn; fitting = λ f. f }

    -- A result is fixed.
    pub fixing : {calls : List (StampedCall K)} (at : ℕ) (r : Outcome) (m : Memory K) → m.keys ≡ s.memory.keys → (y : Seat) (x : Place K)
        → (is_idle y.phase ≡ true → x ≡ idle) → (is_idle y.phase ≡ false → x ≡ shown_seat y k) → fits (seat_of s t).ask r ≡ true
        → Turn same hash chunk_at (shown_state s xs) (some (record { stamp = suc s.table.ticks; op = asked (seat_of s t).ask k; result = result_of r })) (record { mem = shown_mem m; seats = set xs t x; ticks = suc s.table.ticks })
        → Moved s (seated s m t y (suc s.table.ticks)) xs calls (fixed_as s t k at r ∷ calls)
    fixing at r m keys y x free busy fit turn =
        record {
          seats = set xs t x;
          shows = reseated m keys y (suc s.table.ticks) x free busy;
          run = λ b r. Turns.then r turn;
          fitting = λ f c i. (grind arith);
        }

  -- LEAVING THE LAST CELL

  -- A settled cut that drops its last cell climbs on, or ends where only the root remains.
  pub dropped_on : (x : Seat) (k : K) → 2 ≤ x.path.depth → dropped_to k (above_of x) ≡ shown_seat (dropped x) k
  dropped_on x k l = grind arith

  pub dropped_out : (x : Seat) (k : K) → x.path.depth ≤ 1 → dropped_to k (above_of x) ≡ idle
  dropped_out x k l = grind arith

  -- A call that is not settled starts again.
  pub returns_asked : (ask : Ask) (k : K) (cs : List ℕ) → returns (asked ask k) cs ≡ read (asked ask k) (0 ∷ [])
  returns_asked ask k cs = grind arith

  pub again_asked : (ask : Ask) (k : K) (b d : ℕ) (cs : List ℕ) → again (asked ask k) b d cs ≡ read (asked ask k) (0 ∷ [])
  again_asked ask k b d cs = grind arith

-- A cell more at the end of a path.
above_set : (cells : List ℕ) (j d i : ℕ) → i ≤ j → above (set cells j d) i ≡ above cells i
above_set cells j d zero l = refl
above_set cells j d (suc i) l =
    ap (λ (n : ℕ). n ∷ above (set cells j d) i) (get_or-set_other cells j i d 0 (λ e. omega (arith, e)))
    ∙ ap (λ (ns : List ℕ). get_or cells i 0 ∷ ns) (above_set cells j d i (omega arith))

pub path_more : (cells : List ℕ) (depth d : ℕ) → suc depth < length cells
    → get_or (set cells (depth + 1) d) (depth + 1) 0 ∷ above (set cells (depth + 1) d) (depth + 1) ≡ d ∷ get_or cells depth 0 ∷ above cells depth
path_more cells depth d l = grind (arith, above, get_or-set_same, above_set)

-- What is hoped for fits what is asked.
pub hopes_fit : (ask : Ask) (r : Outcome) → Hopes ask r → fits ask r ≡ true
hopes_fit ask r h = grind arith
