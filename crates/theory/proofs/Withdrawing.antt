-- A withdrawal frees the seat of the machine and puts its flag up.
use Rattle.std.proofs.Common.{◌≡◌, ℕ, Bool, true, false, cond, List, ◌∷◌, set, Some, Ok, Option, refl}
use mathlib.Core.List.Memᴰ
use Rattle.keys.specs.Laws.{KeyLaws}
use Rattle.std.specs.List.{slice_get}
use Rattle.std.proofs.lemmas.Bool.{true≢false}
use Rattle.panel.specs.declared.Refusal.TheVariants.{NoSuchSeat, SeatIdle}
use Rattle.machine.specs.Machine.{idle}
use Rattle.machine.specs.Turn.{Turns}
use Rattle.rules.specs.Calls.{Left, refused_as, withdrawn, withdrawal}
use Rattle.rules.specs.History.{Event, History}
use Rattle.rules.specs.Memory.{State}
use Rattle.rules.specs.Perform.{seated}
use Rattle.rules.specs.Seats.{seat_of, no_seat, idle_seat, is_idle}
use Rattle.rules.specs.Theorem.{StampedCall}
use Rattle.rules.specs.declared.Call.TheVariants.{Withdraw}
use Rattle.rules.specs.declared.Figures.{Figures}
use Rattle.rules.specs.declared.Reply.TheVariants.{Withdrew}
use Rattle.theory.proofs.Turning.{reshown}
use Rattle.theory.proofs.Using.{key_of}
use Rattle.theory.proofs.Writing.{Written, Poised}
use Rattle.theory.specs.Records.{Steady}
use Rattle.theory.proofs.Imaging.{Image, ground}
use Rattle.theory.proofs.Opening.{seat_in_lem, shown_in}
use Rattle.rules.specs.declared.Stamped.{Stamped}

module _ {K : Type 0} (same : K → K → Bool) (hash : K → ℕ) where
  -- An event that alters nothing and withdraws nothing.
  pub still : {h : History K} {s : State K} {calls : List (StampedCall K)} {v : Event K} → Image same hash h calls s → Written s → ((p : ℕ) → is_idle (seat_of s p).phase ≡ false → Poised (seat_of s p)) → Image same hash (v ∷ h) calls s
  still m a b =
      record {
        seats = m.seats;
        flag = m.flag;
        shows = m.shows;
        run = m.run;
        calm = λ n. m.calm (λ e i. n e (Memᴰ.tail i));
        fitting = m.fitting;
        written = a;
        poised = b;
      }

  module _ (laws : KeyLaws same hash) {f : Figures} where
    pub withdraw_image : {h : History K} {s : State K} {calls : List (StampedCall K)} → Steady f s → Image same hash h calls s → (t : ℕ)
        → (written : Written (withdrawn s t).state) → ((p : ℕ) → is_idle (seat_of (withdrawn s t).state p).phase ≡ false → Poised (seat_of (withdrawn s t).state p))
        → Image same hash (record { call = Withdraw t; reply = Withdrew (withdrawn s t).answer; number = (seat_of s t).number; ticks = (withdrawn s t).state.table.ticks } ∷ h) calls (withdrawn s t).state
    withdraw_image {h} {s} {calls} w m t = by (no_seat s t) refl (is_idle (seat_of s t).phase) refl
      where
        by : (u : Bool) → no_seat s t ≡ u → (i : Bool) → is_idle (seat_of s t).phase ≡ i
            → (let left : Left K (Option Stamped) = cond u (refused_as s NoSuchSeat) (cond i (refused_as s SeatIdle) (record { state = seated s s.memory t idle_seat s.table.ticks; answer = Ok (withdrawal (seat_of s t)) })) in
            Written left.state → ((p : ℕ) → is_idle (seat_of left.state p).phase ≡ false → Poised (seat_of left.state p))
            → Image same hash (record { call = Withdraw t; reply = Withdrew left.answer; number = (seat_of s t).number; ticks = left.state.table.ticks } ∷ h) calls left.state)
        by false u false o a b =
            record {
              seats = set m.seats t idle;
              flag = true;
              shows = reshown same hash m.shows t key.0 (seat_in_lem same hash w t u) (shown_in same hash w m.shows t u) (seated s s.memory t idle_seat s.table.ticks) idle_seat idle refl (λ p ne. refl) key.1 (λ i. refl) (λ i. absurd (true≢false i));
              run = Turns.withdrawn t (shown_in same hash w m.shows t u) m.run;
              calm = λ n. absurd (n _ (Memᴰ.head refl) (withdrawal (seat_of s t)) refl);
              fitting = m.fitting;
              written = a;
              poised = b;
            }
          where
            key : (k : K) × (slice_get s.memory.keys t ≡ Some k)
            key = key_of same hash laws (ground same hash laws w m) t o
        by _ u _ o a b = still m a b
