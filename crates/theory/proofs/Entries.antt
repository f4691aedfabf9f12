-- Each call enters its event in the book, whatever it answered.
use Rattle.std.proofs.Common.{◌≡◌, ℕ, zero, suc, ◌<◌, ◌≤◌, Bool, true, false, cond, ◌||◌, leb, ◌⊎◌, List, [], ◌∷◌, length, get_or, set, Some, None, Ok, Err, Option, Result, sym, refl, ap, ◌∙◌, subst, inl, inr, arith, length-set, get_or-set_other, get_or-set_same}
use mathlib.Core.List.{Memᴰ}
use Rattle.std.specs.List.{slice_get}
use Rattle.std.proofs.lemmas.Bool.{true≢false, false≢true, leb-false, or_parts}
use Rattle.std.proofs.lemmas.Option.{none-some}
use Rattle.panel.specs.declared.Refusal.{Refusal}
use Rattle.rules.specs.Calls.{with_call, withdrawal}
use Rattle.rules.specs.History.{Event, History}
use Rattle.rules.specs.Memory.{Memory, State}
use Rattle.rules.specs.Perform.{seated}
use Rattle.rules.specs.Seats.{seat_of, no_seat, idle_seat, opened_seat, settled_seat, is_idle, is_settled, stamped_by}
use Rattle.rules.specs.Theorem.{StampedCall, numbers, Rising}
use Rattle.rules.specs.declared.Ask.{Ask}
use Rattle.rules.specs.declared.Call.TheVariants.{Open, Turn, Withdraw}
use Rattle.rules.specs.declared.Outcome.{Outcome}
use Rattle.rules.specs.declared.Reply.TheVariants.{Opened, Turned, Withdrew}
use Rattle.rules.specs.declared.Seat.{Seat}
use Rattle.rules.specs.declared.Stamped.{Stamped}
use Rattle.theory.proofs.Book.{Book, Recorded, Sitting, Ending, Life, Shift, Entered, opened_by, ended_by, seat_in, recorded_on, ending_on, entered}
use Rattle.theory.proofs.Deeds.{phased_open, Onward, Act}
use Rattle.theory.specs.Records.{Phased}

-- An open seat is one of the table's.
pub busy_in : (xs : List Seat) (t : ℕ) → is_idle (get_or xs t idle_seat).phase ≡ false → t < length xs
busy_in [] t o = absurd (true≢false o)
busy_in (x ∷ xs) zero o = omega arith
busy_in (x ∷ xs) (suc t) o = omega (arith, busy_in xs t o)

same_call : (x : Seat) → Phased x.phase (is_settled x) → Onward x x
same_call x p = record { number = refl; ask = refl; settled = refl; same_verdict = λ e. refl; phased = p }

module _ {K : Type 0} where
  -- The call of a seat goes on, with one event more.
  carried : {h : History K} {calls : List (StampedCall K)} {keys after : List K} {n m t : ℕ} {x y : Seat} (v : Event K) → Onward x y → slice_get after t ≡ slice_get keys t → n ≤ m → Sitting h calls keys n t x → Sitting (v ∷ h) calls after m t y
  carried {h} {calls} {t = t} {x = x} {y = y} v k e l o =
      record {
        key = o.key;
        at = o.at;
        asked = Memᴰ.tail (rw (k.number, k.ask) o.asked);
        stored = e ∙ o.stored;
        since = omega (arith, o.since, l);
        fresh = λ u c m q. o.fresh (sym k.settled ∙ u) c m (q ∙ k.number);
        settled = λ u. kept (sym k.settled ∙ u);
        phased = k.phased;
      }
    where
      kept : is_settled x ≡ true → Recorded (v ∷ h) calls t y.number (stamped_by y)
      kept u = rw (k.number, k.same_verdict u) (recorded_on v (λ c m. m) (o.settled u))

  -- The calls that were fixed stay those, where an event fixes none.
  unfixed : {h : History K} {s z : State K} {calls : List (StampedCall K)} → Book h s calls → (v : Event K) (t : ℕ) → opened_by v.reply ≡ None
      → ((y : Stamped) → ended_by v.reply ≡ Some y → Recorded (v ∷ h) calls (seat_in v.call) v.number y × (y.stamp ≤ v.ticks))
      → (is_idle (seat_of z t).phase ≡ false → Sitting (v ∷ h) calls z.memory.keys z.table.ticks t (seat_of z t))
      → (is_idle (seat_of z t).phase ≡ false → no_seat s t ≡ false)
      → ((c : StampedCall K) → Ending h t (seat_of s t) c → Ending (v ∷ h) t (seat_of z t) c) → Entered h s calls v z t calls
  unfixed b v t none ends sits inside hands = grind arith

  -- An event that alters nothing, opens nothing and ends nothing.
  pub heard : {h : History K} {s : State K} {calls : List (StampedCall K)} → Book h s calls → (v : Event K) → opened_by v.reply ≡ None → ended_by v.reply ≡ None → Book (v ∷ h) s calls
  heard {s = s} b v p q =
      entered b v 0
      (record { others = λ p ne. refl; rooms = λ p. refl; keys = λ p ne. refl; ticks = omega arith; openings = omega arith })
      (unfixed b v 0 p (λ y e. absurd (none-some _ (sym q ∙ e)))
      (λ o. let x = b.seats 0 o in carried v (same_call (seat_of s 0) x.phased) refl (omega arith) x)
      (λ o. b.inside 0 o) (λ c e. ending_on v e))

  -- The list with the call of a seat whose result a turn fixed, if it fixed one.
  pub data Grown (s : State K) (t : ℕ) (calls : List (StampedCall K)) : Option Outcome → List (StampedCall K) → Type 0 where
    as_was : Grown s t calls None calls
    longer : (key : K) (at : ℕ) (r : Outcome) → slice_get s.memory.keys t ≡ Some key
        → Grown s t calls (Some r) (record { number = (seat_of s t).number; ask = (seat_of s t).ask; key = key; at = at; stamp = suc s.table.ticks; result = r } ∷ calls)

  -- Where none was fixed, it is the list as it was.
  pub as_before : {s : State K} {t : ℕ} {calls more : List (StampedCall K)} → Grown s t calls None more → more ≡ calls
  as_before Grown.as_was = refl

  -- The book after one event more, by which a seat's call may have been fixed: no call leaves it.
  pub record Next (h : History K) (calls : List (StampedCall K)) (v : Event K) (s z : State K) (t : ℕ) (fixed : Option Outcome) : Type 0 where
    pub more : List (StampedCall K)
    pub book : Book (v ∷ h) z more
    pub keeps : (c : StampedCall K) → Memᴰ c calls → Memᴰ c more
    pub grown : Grown s t calls fixed more

  -- Where nothing is fixed, the list stays.
  pub not_fixed : {h : History K} {calls : List (StampedCall K)} {v : Event K} {s z : State K} {t : ℕ} → Book (v ∷ h) z calls → Next h calls v s z t None
  not_fixed {calls = calls} b = record { more = calls; book = b; keeps = λ c i. i; grown = Grown.as_was }

  -- A LIST OF CALLS WITH ONE MORE

  not_numbered : (n : ℕ) (calls : List (StampedCall K)) → ((c : StampedCall K) → Memᴰ c calls → c.number ≡ n → ⊥) → Memᴰ n (numbers calls) → ⊥
  not_numbered n [] f m = elim m [ ]
  not_numbered n (c ∷ cs) f (Memᴰ.head e) = f c (Memᴰ.head refl) (sym e)
  not_numbered n (c ∷ cs) f (Memᴰ.tail m) = not_numbered n cs (λ d i. f d (Memᴰ.tail i)) m

  -- THE TURN OF AN OPEN SEAT

  module _ {h : History K} {s : State K} {calls : List (StampedCall K)} (b : Book h s calls) (t : ℕ) (o : is_idle (seat_of s t).phase ≡ false) (m : Memory K) (same_keys : m.keys ≡ s.memory.keys) where
    seat_after : (y : Seat) (n : ℕ) → seat_of (seated s m t y n) t ≡ y
    seat_after y n = get_or-set_same s.table.seats t y idle_seat (busy_in s.table.seats t o)

    shift : (y : Seat) (n : ℕ) → s.table.ticks ≤ n → Shift s (seated s m t y n) t
    shift y n l = grind (arith, get_or-set_other, length-set)

    module _ (v : Event K) (y : Seat) (n : ℕ) (l : s.table.ticks ≤ n) where
      -- Nothing is fixed.
      pub passed : opened_by v.reply ≡ None
          → ((z : Stamped) → ended_by v.reply ≡ Some z → Recorded (v ∷ h) calls (seat_in v.call) v.number z × (z.stamp ≤ v.ticks))
          → (is_idle y.phase ≡ false → Sitting (v ∷ h) calls m.keys n t y)
          → ((c : StampedCall K) → Ending h t (seat_of s t) c → Ending (v ∷ h) t y c) → Book (v ∷ h) (seated s m t y n) calls
      passed none ends sits hands =
          entered b v t (shift y n l)
          (unfixed b v t none ends
          (subst (λ (q : Seat). is_idle q.phase ≡ false → Sitting (v ∷ h) calls m.keys n t q) (sym (seat_after y n)) sits)
          (λ i. b.inside t o)
          (λ c e. subst (λ q. Ending (v ∷ h) t q c) (sym (seat_after y n)) (hands c e)))

    -- An unsettled call does not stand.
    not_standing : is_settled (seat_of s t) ≡ false → (v : Event K) (y : Seat) (c : StampedCall K) → Ending h t (seat_of s t) c → Ending (v ∷ h) t y c
    not_standing u v y c (Ending.finished e i) = Ending.finished e (Memᴰ.tail i)
    not_standing u v y c (Ending.withdrew e i) = Ending.withdrew e (Memᴰ.tail i)
    not_standing u v y c (Ending.standing a k w q) = absurd (false≢true (sym u ∙ w))

    -- The call with the result that a turn fixes.
    abbrev fixed_call : Outcome → StampedCall K
    fixed_call r =
        record {
          number = (seat_of s t).number;
          ask = (seat_of s t).ask;
          key = (b.seats t o).key;
          at = (b.seats t o).at;
          stamp = suc s.table.ticks;
          result = r;
        }

    module _ (r : Outcome) (u : is_settled (seat_of s t) ≡ false) (a : Result (Option Stamped) Refusal) (y : Seat) where
      abbrev event : Event K
      event = record { call = Turn t; reply = Turned a; number = (seat_of s t).number; ticks = suc s.table.ticks }

      abbrev verdict : Stamped
      verdict = record { outcome = r; stamp = suc s.table.ticks }

      fixed_recorded : Recorded (event ∷ h) (fixed_call r ∷ calls) t (seat_of s t).number verdict
      fixed_recorded =
          record {
            call = fixed_call r;
            listed = Memᴰ.head refl;
            its_number = refl;
            its_result = refl;
            its_stamp = refl;
            asked = Memᴰ.tail (b.seats t o).asked;
          }

      -- One result is fixed.
      fixes : (Turned a ≡ Turned (Ok None)) ⊎ (Turned a ≡ Turned (Ok (Some verdict)))
          → ((z : Stamped) → ended_by (Turned a) ≡ Some z → z ≡ verdict)
          → (is_idle y.phase ≡ false → Sitting (event ∷ h) (fixed_call r ∷ calls) m.keys (suc s.table.ticks) t y)
          → Ending (event ∷ h) t y (fixed_call r) → Book (event ∷ h) (seated s m t y (suc s.table.ticks)) (fixed_call r ∷ calls)
      unfolding Rising
      fixes counted ends sits ending =
          entered b event t (shift y (suc s.table.ticks) (omega arith))
          (record {
            opens = λ n e. absurd (none-some _ e);
            ends = λ z e. (subst (Recorded (event ∷ h) (fixed_call r ∷ calls) t (seat_of s t).number) (sym (ends z e)) fixed_recorded, let q = ap (λ (w : Stamped). w.stamp) (ends z e) in omega (arith, q));
            keeps = λ c i. Memᴰ.tail i;
            adds = new;
            once = (not_numbered (seat_of s t).number calls ((b.seats t o).fresh u), b.once);
            rising = (λ d i. let l = (b.each d i).now in omega (arith, l), b.rising);
            sits = subst (λ (q : Seat). is_idle q.phase ≡ false → Sitting (event ∷ h) (fixed_call r ∷ calls) m.keys (suc s.table.ticks) t q) (sym (seat_after y (suc s.table.ticks))) sits;
            inside = λ i. b.inside t o;
            hands = λ c e. not_standing u event (seat_of (seated s m t y (suc s.table.ticks)) t) c e;
          })
        where
          life : Life (event ∷ h) (seated s m t y (suc s.table.ticks)) (fixed_call r)
          life =
              record {
                own =
                    record {
                      seat = t;
                      asked = Memᴰ.tail (b.seats t o).asked;
                      reply = Turned a;
                      turned = Memᴰ.head refl;
                      counted = counted;
                      later = let l = (b.seats t o).since in omega (arith, l);
                    };
                now = omega arith;
                ends = subst (λ q. Ending (event ∷ h) t q (fixed_call r)) (sym (seat_after y (suc s.table.ticks))) ending;
              }

          new : (c : StampedCall K) → Memᴰ c (fixed_call r ∷ calls) → Memᴰ c calls ⊎ (Life (event ∷ h) (seated s m t y (suc s.table.ticks)) c × (is_idle (seat_of s t).phase ≡ false) × (c.number ≡ (seat_of s t).number))
          new c (Memᴰ.head e) = inr (subst (Life (event ∷ h) (seated s m t y (suc s.table.ticks))) (sym e) life, o, ap (λ (d : StampedCall K). d.number) e)
          new c (Memᴰ.tail i) = inl i

    -- The same event, for a call that stands, as its finish.
    abbrev turn_event : Result (Option Stamped) Refusal → Event K
    turn_event a = record { call = Turn t; reply = Turned a; number = (seat_of s t).number; ticks = suc s.table.ticks }

    close_hands : (c : StampedCall K) → Ending h t (seat_of s t) c → Ending (turn_event (Ok (Some (stamped_by (seat_of s t)))) ∷ h) t idle_seat c
    close_hands c (Ending.finished e i) = Ending.finished e (Memᴰ.tail i)
    close_hands c (Ending.withdrew e i) = Ending.withdrew e (Memᴰ.tail i)
    close_hands c (Ending.standing i k w q) = Ending.finished (suc s.table.ticks) (Memᴰ.head (rw (sym k, sym q) refl))

    go_hands : (v : Event K) (y : Seat) → Onward (seat_of s t) y → (c : StampedCall K) → Ending h t (seat_of s t) c → Ending (v ∷ h) t y c
    go_hands v y k c (Ending.finished e i) = Ending.finished e (Memᴰ.tail i)
    go_hands v y k c (Ending.withdrew e i) = Ending.withdrew e (Memᴰ.tail i)
    go_hands v y k c (Ending.standing i n w q) =
        Ending.standing (phased_open y.phase (is_settled y) k.phased) (k.number ∙ n) (k.settled ∙ w) (k.same_verdict w ∙ q)

    -- What the book has of a settled call is not from the future.
    settled_recorded : (v : Event K) (u : is_settled (seat_of s t) ≡ true) (z : Stamped) → stamped_by (seat_of s t) ≡ z → Recorded (v ∷ h) calls t (seat_of s t).number z × (z.stamp ≤ s.table.ticks)
    settled_recorded v u z e =
        let kept = (b.seats t o).settled u in
        let l = (b.each kept.call kept.listed).now in
        let q = kept.its_stamp ∙ ap (λ (w : Stamped). w.stamp) e in
        (subst (Recorded (v ∷ h) calls t (seat_of s t).number) e (recorded_on v (λ c i. i) kept), omega (arith, l, q))

    abbrev same_place : slice_get m.keys t ≡ slice_get s.memory.keys t
    same_place = ap (λ k. slice_get k t) same_keys

    pub act_entered : (a : Result (Option Stamped) Refusal) (f : Option Outcome) (y : Seat) → Act (seat_of s t) (suc s.table.ticks) a f y → Next h calls (turn_event a) s (seated s m t y (suc s.table.ticks)) t f
    act_entered a f y (Act.quits e u) =
        not_fixed (passed (turn_event (Err e)) idle_seat (suc s.table.ticks) (omega arith) refl (λ z e. absurd (none-some _ e)) (λ i. absurd (true≢false i)) (not_standing u (turn_event (Err e)) idle_seat))
    act_entered a f y (Act.finishes r u) =
        record {
          more = fixed_call r ∷ calls;
          book = fixes r u a idle_seat (inr refl) (λ z e. cc) (λ i. absurd (true≢false i)) (Ending.finished (suc s.table.ticks) (Memᴰ.head refl));
          keeps = λ c i. Memᴰ.tail i;
          grown = Grown.longer (b.seats t o).key (b.seats t o).at r (b.seats t o).stored;
        }
    act_entered a f y (Act.settles r u) =
        record {
          more = fixed_call r ∷ calls;
          book = fixes r u a y (inl refl) (λ z e. absurd (none-some _ e)) (λ i. sits) (Ending.standing refl refl refl refl);
          keeps = λ c i. Memᴰ.tail i;
          grown = Grown.longer (b.seats t o).key (b.seats t o).at r (b.seats t o).stored;
        }
      where
        sits : Sitting (turn_event (Ok None) ∷ h) (fixed_call r ∷ calls) m.keys (suc s.table.ticks) t (settled_seat (seat_of s t) r (suc s.table.ticks))
        sits =
            let x = b.seats t o in
            record {
              key = x.key;
              at = x.at;
              asked = Memᴰ.tail x.asked;
              stored = same_place ∙ x.stored;
              since = let l = x.since in omega (arith, l);
              fresh = λ w. absurd (true≢false w);
              settled = λ w. fixed_recorded r u (Ok None) (seat_of s t);
              phased = refl;
            }
    act_entered a f y (Act.closes u) =
        not_fixed
        (passed (turn_event a) idle_seat (suc s.table.ticks) (omega arith) refl
        (λ z e. let k = settled_recorded (turn_event a) u z cc in (k.0, let l = k.1 in omega (arith, l)))
        (λ i. absurd (true≢false i)) close_hands)
    act_entered a f y (Act.goes x k) =
        not_fixed
        (passed (turn_event a) x (suc s.table.ticks) (omega arith) refl (λ z e. absurd (none-some _ e))
        (λ i. carried (turn_event a) k same_place (omega arith) (b.seats t o)) (go_hands (turn_event a) x k))

  -- THE WITHDRAWAL OF AN OPEN CALL

  module _ {h : History K} {s : State K} {calls : List (StampedCall K)} (b : Book h s calls) (t : ℕ) (o : is_idle (seat_of s t).phase ≡ false) where
    abbrev withdrawal_of : Option Stamped → Event K
    withdrawal_of w = record { call = Withdraw t; reply = Withdrew (Ok w); number = (seat_of s t).number; ticks = s.table.ticks }

    withdraw_hands : (c : StampedCall K) → Ending h t (seat_of s t) c → Ending (withdrawal_of (Some (stamped_by (seat_of s t))) ∷ h) t idle_seat c
    withdraw_hands c (Ending.finished e i) = Ending.finished e (Memᴰ.tail i)
    withdraw_hands c (Ending.withdrew e i) = Ending.withdrew e (Memᴰ.tail i)
    withdraw_hands c (Ending.standing i k w q) = Ending.withdrew s.table.ticks (Memᴰ.head (rw (sym k, sym q) refl))

    pub withdrawal_entered : Book (withdrawal_of (withdrawal (seat_of s t)) ∷ h) (seated s s.memory t idle_seat s.table.ticks) calls
    withdrawal_entered = by (is_settled (seat_of s t)) refl
      where
        by : (u : Bool) → is_settled (seat_of s t) ≡ u → Book (withdrawal_of (cond u (Some (stamped_by (seat_of s t))) None) ∷ h) (seated s s.memory t idle_seat s.table.ticks) calls
        by true u =
            passed b t o s.memory refl _ idle_seat s.table.ticks (omega arith) refl
            (λ z e. settled_recorded b t o s.memory refl _ u z cc) (λ i. absurd (true≢false i)) withdraw_hands
        by false u =
            passed b t o s.memory refl _ idle_seat s.table.ticks (omega arith) refl
            (λ z e. absurd (none-some _ e)) (λ i. absurd (true≢false i)) (not_standing b t o s.memory refl u _ idle_seat)

  -- AN OPENING

  -- Only the place that is set alters.
  pub set_here : (xs : List K) (i : ℕ) (x : K) → i < length xs → slice_get (set xs i x) i ≡ Some x
  set_here [] i x l = absurd (omega arith)
  set_here (y ∷ xs) zero x l = refl
  set_here (y ∷ xs) (suc i) x l = set_here xs i x (omega arith)

  pub set_there : (xs : List K) (i j : ℕ) (x : K) → (j ≡ i → ⊥) → slice_get (set xs i x) j ≡ slice_get xs j
  set_there (y ∷ xs) zero zero x ne = absurd (ne refl)
  set_there (y ∷ xs) (suc i) (suc j) x ne = set_there xs i j x (λ e. ne (ap suc e))
  set_there _ _ _ x ne = refl

  module _ {h : History K} {s : State K} {calls : List (StampedCall K)} (b : Book h s calls) (t : ℕ) (ask : Ask) (key : K) (seat : no_seat s t ≡ false) (idle : is_idle (seat_of s t).phase ≡ true) (place : t < length s.memory.keys) where
    abbrev opening : Event K
    opening = record { call = Open t ask key; reply = Opened (Ok (suc s.table.openings)); number = 0; ticks = s.table.ticks }

    abbrev seated_as : Seat
    seated_as = opened_seat ask (suc s.table.openings)

    -- The number is new: no call of the book has it.
    sits : Sitting (opening ∷ h) calls (set s.memory.keys t key) s.table.ticks t seated_as
    sits =
        record {
          key = key;
          at = s.table.ticks;
          asked = Memᴰ.head refl;
          stored = set_here s.memory.keys t key place;
          since = omega arith;
          fresh = λ u c i q. let l = b.opened _ c.number (b.each c i).own.asked refl in omega (arith, l, q);
          settled = λ u. absurd (false≢true u);
          phased = refl;
        }

    open_hands : (x : Seat) (c : StampedCall K) → Ending h t (seat_of s t) c → Ending (opening ∷ h) t x c
    open_hands x c (Ending.finished e i) = Ending.finished e (Memᴰ.tail i)
    open_hands x c (Ending.withdrew e i) = Ending.withdrew e (Memᴰ.tail i)
    open_hands x c (Ending.standing i k w q) = absurd (true≢false (sym idle ∙ i))

    pub opening_entered : Book (opening ∷ h) (with_call s t ask key) calls
    opening_entered =
        entered b opening t
        (record {
          others = λ p ne. get_or-set_other s.table.seats t p seated_as idle_seat ne;
          rooms = λ p. ap (λ k. leb s.table.limits.seats p || leb k p) (length-set s.table.seats t seated_as);
          keys = λ p ne. set_there s.memory.keys t p key ne;
          ticks = omega arith;
          openings = omega arith;
        })
        (record {
          opens = λ n e. let q : suc s.table.openings ≡ n = cc in (omega (arith, q), omega (arith, q));
          ends = λ y e. absurd (none-some _ e);
          keeps = λ c i. i;
          adds = λ c i. inl i;
          once = b.once;
          rising = b.rising;
          sits = λ i. subst (Sitting (opening ∷ h) calls (set s.memory.keys t key) s.table.ticks t) (sym (grind (arith, get_or-set_same, leb-false, or_parts))) sits;
          inside = λ i. seat;
          hands = open_hands (seat_of (with_call s t ask key) t);
        })
