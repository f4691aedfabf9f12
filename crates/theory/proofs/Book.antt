-- The book of a history: which calls are stamped, whose they are, and how each stands or ended. One event more keeps it.
use Rattle.std.proofs.Common.{◌≡◌, ℕ, ◌<◌, ◌≤◌, true, false, ◌⊎◌, List, ◌∷◌, Some, None, Ok, Option, sym, refl, ap, ◌∙◌, subst, inl, inr, arith}
use mathlib.Core.List.{Memᴰ}
use Rattle.std.specs.List.{slice_get}
use Rattle.std.proofs.lemmas.Bool.{cases_eq}
use Rattle.rules.specs.History.{Event, History}
use Rattle.rules.specs.Memory.{State}
use Rattle.rules.specs.Reached.{Once}
use Rattle.rules.specs.Seats.{seat_of, no_seat, is_idle, is_settled, stamped_by}
use Rattle.rules.specs.Theorem.{StampedCall, Asked, TurnOf, WithdrawalOf, OwnTurn, numbers, Rising}
use Rattle.rules.specs.declared.Call.{Call}
use Rattle.rules.specs.declared.Call.TheVariants.{Open, Turn, Withdraw, Count}
use Rattle.rules.specs.declared.Reply.{Reply}
use Rattle.rules.specs.declared.Reply.TheVariants.{Opened, Turned, Withdrew}
use Rattle.rules.specs.declared.Seat.{Seat}
use Rattle.rules.specs.declared.Stamped.{Stamped}
use Rattle.theory.specs.Records.{Phased}

-- The number that a reply gives to an opening.
abbrev pub opened_by : Reply → Option ℕ
opened_by (Opened (Ok n)) = Some n
opened_by _ = None

-- The result and stamp with which a reply ends a call.
abbrev pub ended_by : Reply → Option Stamped
ended_by (Turned (Ok (Some z))) = Some z
ended_by (Withdrew (Ok (Some z))) = Some z
ended_by _ = None

-- The seat of a call.
abbrev pub seat_in : {K : Type 0} → Call K → ℕ
seat_in (Open t ask key) = t
seat_in (Turn t) = t
seat_in (Withdraw t) = t
seat_in Count = 0

module _ {K : Type 0} where
  -- A stamped call with this seat, number, result and stamp is in the book.
  pub record Recorded (h : History K) (calls : List (StampedCall K)) (t number : ℕ) (z : Stamped) : Type 0 where
    pub call : StampedCall K
    pub listed : Memᴰ call calls
    pub its_number : call.number ≡ number
    pub its_result : call.result ≡ z.outcome
    pub its_stamp : call.stamp ≡ z.stamp
    pub asked : Asked h t call

  -- The open call of a seat: its opening, its key, and whether the book has it.
  pub record Sitting (h : History K) (calls : List (StampedCall K)) (keys : List K) (ticks t : ℕ) (x : Seat) : Type 0 where
    pub key : K
    pub at : ℕ
    pub asked : Memᴰ (record { call = Open t x.ask key; reply = Opened (Ok x.number); number = 0; ticks = at }) h
    pub stored : slice_get keys t ≡ Some key
    pub since : at ≤ ticks
    pub fresh : is_settled x ≡ false → (c : StampedCall K) → Memᴰ c calls → c.number ≡ x.number → ⊥
    pub settled : is_settled x ≡ true → Recorded h calls t x.number (stamped_by x)
    pub phased : Phased x.phase (is_settled x)

  -- How a stamped call ended, or that it stands open in its seat's record.
  pub data Ending (h : History K) (t : ℕ) (x : Seat) (c : StampedCall K) : Type 0 where
    finished : (e : ℕ) → TurnOf h t c.number e (Turned (Ok (Some (record { outcome = c.result; stamp = c.stamp })))) → Ending h t x c
    withdrew : (e : ℕ) → WithdrawalOf h t c.number e (Withdrew (Ok (Some (record { outcome = c.result; stamp = c.stamp })))) → Ending h t x c
    standing : is_idle x.phase ≡ false → x.number ≡ c.number → is_settled x ≡ true → stamped_by x ≡ record { outcome = c.result; stamp = c.stamp } → Ending h t x c

  -- The life of a stamped call.
  pub record Life (h : History K) (s : State K) (c : StampedCall K) : Type 0 where
    pub own : OwnTurn h c
    pub now : c.stamp ≤ s.table.ticks
    pub ends : Ending h own.seat (seat_of s own.seat) c

  pub record Book (h : History K) (s : State K) (calls : List (StampedCall K)) : Type 0 where
    pub seats : (t : ℕ) → is_idle (seat_of s t).phase ≡ false → Sitting h calls s.memory.keys s.table.ticks t (seat_of s t)
    pub inside : (t : ℕ) → is_idle (seat_of s t).phase ≡ false → no_seat s t ≡ false
    pub opened : (e : Event K) (n : ℕ) → Memᴰ e h → opened_by e.reply ≡ Some n → n ≤ s.table.openings
    pub one : (e d : Event K) (n : ℕ) → Memᴰ e h → Memᴰ d h → opened_by e.reply ≡ Some n → opened_by d.reply ≡ Some n → e ≡ d
    pub each : (c : StampedCall K) → Memᴰ c calls → Life h s c
    pub ended : (e : Event K) (z : Stamped) → Memᴰ e h → ended_by e.reply ≡ Some z → Recorded h calls (seat_in e.call) e.number z × (z.stamp ≤ e.ticks)
    pub once : Once (numbers calls)
    pub rising : Rising calls

  -- ONE EVENT MORE

  pub recorded_on : {h : History K} {calls more : List (StampedCall K)} {t n : ℕ} {z : Stamped} (v : Event K) → ((c : StampedCall K) → Memᴰ c calls → Memᴰ c more) → Recorded h calls t n z → Recorded (v ∷ h) more t n z
  recorded_on v keeps r =
      record {
        call = r.call;
        listed = keeps r.call r.listed;
        its_number = r.its_number;
        its_result = r.its_result;
        its_stamp = r.its_stamp;
        asked = Memᴰ.tail r.asked;
      }

  pub ending_on : {h : History K} {t : ℕ} {x : Seat} {c : StampedCall K} (v : Event K) → Ending h t x c → Ending (v ∷ h) t x c
  ending_on v (Ending.finished e m) = Ending.finished e (Memᴰ.tail m)
  ending_on v (Ending.withdrew e m) = Ending.withdrew e (Memᴰ.tail m)
  ending_on v (Ending.standing o n u z) = Ending.standing o n u z

  own_on : {h : History K} {c : StampedCall K} (v : Event K) → OwnTurn h c → OwnTurn (v ∷ h) c
  own_on v o =
      record {
        seat = o.seat;
        asked = Memᴰ.tail o.asked;
        reply = o.reply;
        turned = Memᴰ.tail o.turned;
        counted = o.counted;
        later = o.later;
      }

  -- Two open seats bear different numbers.
  apart : {h : History K} {s : State K} {calls : List (StampedCall K)} → Book h s calls → (p t : ℕ) → is_idle (seat_of s p).phase ≡ false → is_idle (seat_of s t).phase ≡ false → (seat_of s p).number ≡ (seat_of s t).number → p ≡ t
  apart {s = s} b p t i j e =
      ap (λ (d : Event K). seat_in d.call) (b.one _ _ (seat_of s p).number (b.seats p i).asked (b.seats t j).asked refl (ap Some (sym e)))

  -- What one event alters: the record of one seat, perhaps the seat's key place, the counters.
  pub record Shift (s z : State K) (t : ℕ) : Type 0 where
    pub others : (p : ℕ) → (p ≡ t → ⊥) → seat_of z p ≡ seat_of s p
    pub rooms : (p : ℕ) → no_seat z p ≡ no_seat s p
    pub keys : (p : ℕ) → (p ≡ t → ⊥) → slice_get z.memory.keys p ≡ slice_get s.memory.keys p
    pub ticks : s.table.ticks ≤ z.table.ticks
    pub openings : s.table.openings ≤ z.table.openings

  -- What has to be known of the event and of that seat.
  pub record Entered (h : History K) (s : State K) (calls : List (StampedCall K)) (v : Event K) (z : State K) (t : ℕ) (more : List (StampedCall K)) : Type 0 where
    pub opens : (n : ℕ) → opened_by v.reply ≡ Some n → (s.table.openings < n) × (n ≤ z.table.openings)
    pub ends : (y : Stamped) → ended_by v.reply ≡ Some y → Recorded (v ∷ h) more (seat_in v.call) v.number y × (y.stamp ≤ v.ticks)
    pub keeps : (c : StampedCall K) → Memᴰ c calls → Memᴰ c more
    pub adds : (c : StampedCall K) → Memᴰ c more → Memᴰ c calls ⊎ (Life (v ∷ h) z c × (is_idle (seat_of s t).phase ≡ false) × (c.number ≡ (seat_of s t).number))
    pub once : Once (numbers more)
    pub rising : Rising more
    pub sits : is_idle (seat_of z t).phase ≡ false → Sitting (v ∷ h) more z.memory.keys z.table.ticks t (seat_of z t)
    pub inside : is_idle (seat_of z t).phase ≡ false → no_seat s t ≡ false
    pub hands : (c : StampedCall K) → Ending h t (seat_of s t) c → Ending (v ∷ h) t (seat_of z t) c

  module _ {h : History K} {s z : State K} {calls more : List (StampedCall K)} (b : Book h s calls) (v : Event K) (t : ℕ) (w : Shift s z t) (k : Entered h s calls v z t more) where
    -- The other seats sit as before.
    sitting_on : (p : ℕ) → (p ≡ t → ⊥) → is_idle (seat_of s p).phase ≡ false → Sitting (v ∷ h) more z.memory.keys z.table.ticks p (seat_of s p)
    sitting_on p ne i =
        let o = b.seats p i in
        record {
          key = o.key;
          at = o.at;
          asked = Memᴰ.tail o.asked;
          stored = w.keys p ne ∙ o.stored;
          since = omega (arith, o.since, w.ticks);
          fresh = λ u c m q. new u c q (k.adds c m);
          settled = λ u. recorded_on v k.keeps (o.settled u);
          phased = o.phased;
        }
      where
        new : is_settled (seat_of s p) ≡ false → (c : StampedCall K) → c.number ≡ (seat_of s p).number → Memᴰ c calls ⊎ (Life (v ∷ h) z c × (is_idle (seat_of s t).phase ≡ false) × (c.number ≡ (seat_of s t).number)) → ⊥
        new u c q (inl m) = (b.seats p i).fresh u c m q
        new u c q (inr a) = ne (apart b p t i a.1 (sym q ∙ a.2))

    seat_on : (p : ℕ) → (p ≡ t) ⊎ (p ≡ t → ⊥) → is_idle (seat_of z p).phase ≡ false → Sitting (v ∷ h) more z.memory.keys z.table.ticks p (seat_of z p)
    seat_on p (inl e) i =
        subst (λ q. Sitting (v ∷ h) more z.memory.keys z.table.ticks q (seat_of z q)) (sym e) (k.sits (subst (λ q. is_idle (seat_of z q).phase ≡ false) e i))
    seat_on p (inr ne) i =
        subst (Sitting (v ∷ h) more z.memory.keys z.table.ticks p) (sym (w.others p ne)) (sitting_on p ne (subst (λ (x : Seat). is_idle x.phase ≡ false) (w.others p ne) i))

    inside_on : (p : ℕ) → (p ≡ t) ⊎ (p ≡ t → ⊥) → is_idle (seat_of z p).phase ≡ false → no_seat z p ≡ false
    inside_on p (inl e) i = w.rooms p ∙ (ap (no_seat s) e ∙ k.inside (subst (λ q. is_idle (seat_of z q).phase ≡ false) e i))
    inside_on p (inr ne) i = w.rooms p ∙ b.inside p (subst (λ (x : Seat). is_idle x.phase ≡ false) (w.others p ne) i)

    opened_on : (e : Event K) (n : ℕ) → Memᴰ e (v ∷ h) → opened_by e.reply ≡ Some n → n ≤ z.table.openings
    opened_on e n (Memᴰ.head q) r = (k.opens n (ap (λ (d : Event K). opened_by d.reply) (sym q) ∙ r)).1
    opened_on e n (Memᴰ.tail m) r = omega (arith, b.opened e n m r, w.openings)

    -- The new number is past all others.
    later_one : (e d : Event K) (n : ℕ) → e ≡ v → Memᴰ d h → opened_by e.reply ≡ Some n → opened_by d.reply ≡ Some n → ⊥
    later_one e d n q m r f = omega (arith, (k.opens n (ap (λ (d : Event K). opened_by d.reply) (sym q) ∙ r)).0, b.opened d n m f)

    one_on : (e d : Event K) (n : ℕ) → Memᴰ e (v ∷ h) → Memᴰ d (v ∷ h) → opened_by e.reply ≡ Some n → opened_by d.reply ≡ Some n → e ≡ d
    one_on e d n (Memᴰ.head q) (Memᴰ.head r) f g = q ∙ sym r
    one_on e d n (Memᴰ.head q) (Memᴰ.tail m) f g = absurd (later_one e d n q m f g)
    one_on e d n (Memᴰ.tail m) (Memᴰ.head q) f g = absurd (later_one d e n q m g f)
    one_on e d n (Memᴰ.tail l) (Memᴰ.tail m) f g = b.one e d n l m f g

    ending_next : (c : StampedCall K) (p : ℕ) → (p ≡ t) ⊎ (p ≡ t → ⊥) → Ending h p (seat_of s p) c → Ending (v ∷ h) p (seat_of z p) c
    ending_next c p (inl e) f =
        subst (λ q. Ending (v ∷ h) q (seat_of z q) c) (sym e) (k.hands c (subst (λ q. Ending h q (seat_of s q) c) e f))
    ending_next c p (inr ne) f = subst (λ x. Ending (v ∷ h) p x c) (sym (w.others p ne)) (ending_on v f)

    each_on : (c : StampedCall K) → Memᴰ c calls ⊎ (Life (v ∷ h) z c × (is_idle (seat_of s t).phase ≡ false) × (c.number ≡ (seat_of s t).number)) → Life (v ∷ h) z c
    unfolding own_on
    each_on c (inr a) = a.0
    each_on c (inl m) =
        let l = b.each c m in
        record {
          own = own_on v l.own;
          now = omega (arith, l.now, w.ticks);
          ends = ending_next c l.own.seat (cases_eq l.own.seat t) l.ends;
        }

    ended_on : (e : Event K) (y : Stamped) → Memᴰ e (v ∷ h) → ended_by e.reply ≡ Some y → Recorded (v ∷ h) more (seat_in e.call) e.number y × (y.stamp ≤ e.ticks)
    ended_on e y (Memᴰ.head q) r =
        subst (λ (d : Event K). Recorded (v ∷ h) more (seat_in d.call) d.number y × (y.stamp ≤ d.ticks)) (sym q) (k.ends y (ap (λ (d : Event K). ended_by d.reply) (sym q) ∙ r))
    ended_on e y (Memᴰ.tail m) r = let o = b.ended e y m r in (recorded_on v k.keeps o.0, o.1)

    pub entered : Book (v ∷ h) z more
    entered =
        record {
          seats = λ p. seat_on p (cases_eq p t);
          inside = λ p. inside_on p (cases_eq p t);
          opened = opened_on;
          one = one_on;
          each = λ c m. each_on c (k.adds c m);
          ended = ended_on;
          once = k.once;
          rising = k.rising;
        }
