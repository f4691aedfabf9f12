-- The stamped calls of every history have an order: the book of a history says so.
use Rattle.std.proofs.Common.{◌≡◌, ℕ, suc, ◌≤◌, Bool, true, false, cond, not, leb, ◌⊎◌, List, [], ◌∷◌, length, get_or, replicate, Some, None, Ok, Option, sym, refl, ap, ◌∙◌, subst, inl, inr, arith}
use mathlib.Core.List.{Memᴰ}
use Rattle.std.proofs.lemmas.Bool.{leb-false}
use Rattle.panel.specs.declared.Refusal.TheVariants.{NoSuchSeat, SeatTaken, SeatIdle, CountersSpent, MemoryUnfit}
use Rattle.rules.specs.Calls.{Left, refused_as, formatted, opened, with_call, withdrawn, withdrawal}
use Rattle.rules.specs.History.{Event, History, bears, Does, Runs}
use Rattle.rules.specs.Memory.{Memory, State, last_count}
use Rattle.rules.specs.Perform.{Out, seated}
use Rattle.rules.specs.Reached.{Once}
use Rattle.rules.specs.Seats.{seat_of, no_seat, idle_seat, is_idle, is_settled, stamped_by}
use Rattle.rules.specs.Theorem.{StampedCall, Asked, TurnOf, WithdrawalOf, Ends, IsStamped, Ordered, Stays, numbers, Rising}
use Rattle.rules.specs.declared.Ask.{Ask}
use Rattle.rules.specs.declared.Call.{Call}
use Rattle.rules.specs.declared.Call.TheVariants.{Open, Turn, Withdraw, Count}
use Rattle.rules.specs.declared.Figures.{Figures}
use Rattle.rules.specs.declared.Outcome.{Outcome}
use Rattle.rules.specs.declared.Reply.{Reply}
use Rattle.rules.specs.declared.Reply.TheVariants.{Opened, Turned, Withdrew, Counted}
use Rattle.rules.specs.declared.Stamped.{Stamped}
use Rattle.theory.proofs.Book.{Book, Recorded, Ending, opened_by, ended_by, seat_in}
use Rattle.theory.proofs.Deeds.{Deed, turn_deed}
use Rattle.theory.proofs.Entries.{Next, not_fixed, heard, act_entered, withdrawal_entered, opening_entered}
use Rattle.theory.specs.Orders.{OrderTheorem}

-- THE BOOK OF A HISTORY

-- All seats of a fresh table are idle.
pub all_idle : (n t : ℕ) → get_or (replicate n idle_seat) t idle_seat ≡ idle_seat
all_idle (suc n) (suc t) = all_idle n t
all_idle _ _ = refl

-- The result that a call fixed, if it is a turn that did.
abbrev pub fixed_by : {K : Type 0} (same : K → K → Bool) (hash : K → ℕ) (s : State K) (c : Call K) (r : Reply) (z : State K) → Does same hash s c r z → Option Outcome
fixed_by same hash s (Turn t) (Turned r) z d = d.0.fixed
fixed_by same hash s _ _ z d = None

module _ {K : Type 0} where
  pub fresh_book : (f : Figures) (m : Memory K) → Book [] (formatted f m) []
  unfolding Rising
  fresh_book f m = grind arith

  module _ {h : History K} {s : State K} {calls : List (StampedCall K)} (b : Book h s calls) where
    -- What alters nothing.
    unaltered : (v : Event K) (t : ℕ) → opened_by v.reply ≡ None → ended_by v.reply ≡ None → Next h calls v s s t None
    unaltered v t p q = not_fixed (heard b v p q)

    open_next : (t : ℕ) (ask : Ask) (key : K) → Next h calls (record { call = Open t ask key; reply = Opened (opened s t ask key).answer; number = 0; ticks = (opened s t ask key).state.table.ticks }) s (opened s t ask key).state t None
    open_next t ask key = by (no_seat s t) refl (is_idle (seat_of s t).phase) refl (leb last_count s.table.openings) (leb (length s.memory.keys) t) refl
      where
        by : (u : Bool) → no_seat s t ≡ u → (i : Bool) → is_idle (seat_of s t).phase ≡ i → (n k : Bool) → leb (length s.memory.keys) t ≡ k → (let left : Left K ℕ = cond u (refused_as s NoSuchSeat) (cond (not i) (refused_as s SeatTaken) (cond n (refused_as s CountersSpent) (cond k (refused_as s MemoryUnfit) (record { state = with_call s t ask key; answer = Ok (suc s.table.openings) })))) in Next h calls (record { call = Open t ask key; reply = Opened left.answer; number = 0; ticks = left.state.table.ticks }) s left.state t None)
        by false u true o false false l = not_fixed (opening_entered b t ask key u o (leb-false (length s.memory.keys) t l))
        by _ u _ o _ _ l = unaltered _ t refl refl

    withdraw_next : (t : ℕ) → Next h calls (record { call = Withdraw t; reply = Withdrew (withdrawn s t).answer; number = (seat_of s t).number; ticks = (withdrawn s t).state.table.ticks }) s (withdrawn s t).state t None
    withdraw_next t = by (no_seat s t) (is_idle (seat_of s t).phase) refl
      where
        by : (u i : Bool) → is_idle (seat_of s t).phase ≡ i → (let left : Left K (Option Stamped) = cond u (refused_as s NoSuchSeat) (cond i (refused_as s SeatIdle) (record { state = seated s s.memory t idle_seat s.table.ticks; answer = Ok (withdrawal (seat_of s t)) })) in Next h calls (record { call = Withdraw t; reply = Withdrew left.answer; number = (seat_of s t).number; ticks = left.state.table.ticks }) s left.state t None)
        by false false o = not_fixed (withdrawal_entered b t o)
        by _ _ o = unaltered _ t refl refl

    turn_next : (t : ℕ) (out : Out K) → Deed s t out → Next h calls (record { call = Turn t; reply = Turned out.answer; number = (seat_of s t).number; ticks = out.state.table.ticks }) s out.state t out.fixed
    turn_next t out (Deed.refused e p q f) = rw (p, q, f) (unaltered _ t refl refl)
    turn_next t out (Deed.acted m y o k p act) = rw p (act_entered b t o m k out.answer out.fixed y act)

    module _ (same : K → K → Bool) (hash : K → ℕ) where
      -- Whatever a call does, its event is entered.
      pub does_next : (c : Call K) (r : Reply) (z : State K) (d : Does same hash s c r z) → Next h calls (record { call = c; reply = r; number = bears s c; ticks = z.table.ticks }) s z (seat_in c) (fixed_by same hash s c r z d)
      does_next (Open t ask key) (Opened r) z (p, q) = rw (p, q) (open_next t ask key)
      does_next (Turn t) (Turned r) z (out, (picks, takes, e), p, q) =
          rw (p, q) (turn_next t out (subst (Deed s t) (sym e) (turn_deed same hash s t picks (λ o. (b.seats t o).phased))))
      does_next (Withdraw t) (Withdrew r) z (p, q) = rw (p, q) (withdraw_next t)
      does_next Count (Counted r) z (p, q) = rw q (unaltered _ 0 refl refl)
      does_next _ _ z d = absurd d

  -- Every history has its book.
  pub book_of : (same : K → K → Bool) (hash : K → ℕ) (f : Figures) {h : History K} {s : State K} → Runs same hash f h s → (calls : List (StampedCall K)) × Book h s calls
  book_of same hash f (Runs.fresh m k) = ([], fresh_book f m)
  book_of same hash f (Runs.then run c r z d) =
      let before = book_of same hash f run in
      let after = does_next before.1 same hash c r z d in
      (after.more, after.book)

  -- WHAT THE BOOK TELLS

  numbered : (calls : List (StampedCall K)) (n : ℕ) (c : StampedCall K) → n ≡ c.number → Memᴰ c calls → Memᴰ n (numbers calls)
  numbered [] n c e i = elim i [ ]
  numbered (a ∷ calls) n c e (Memᴰ.head p) = Memᴰ.head (e ∙ ap (λ (d : StampedCall K). d.number) p)
  numbered (a ∷ calls) n c e (Memᴰ.tail i) = Memᴰ.tail (numbered calls n c e i)

  -- A call is known by its number.
  by_number : (calls : List (StampedCall K)) (c d : StampedCall K) → Once (numbers calls) → Memᴰ c calls → Memᴰ d calls → c.number ≡ d.number → c ≡ d
  by_number [] c d o i j e = elim i [ ]
  by_number (a ∷ calls) c d o (Memᴰ.head p) (Memᴰ.head q) e = p ∙ sym q
  by_number (a ∷ calls) c d o (Memᴰ.head p) (Memᴰ.tail j) e = absurd (o.0 (numbered calls a.number d (ap (λ (x : StampedCall K). x.number) (sym p) ∙ e) j))
  by_number (a ∷ calls) c d o (Memᴰ.tail i) (Memᴰ.head q) e = absurd (o.0 (numbered calls a.number c (ap (λ (x : StampedCall K). x.number) (sym q) ∙ sym e) i))
  by_number (a ∷ calls) c d o (Memᴰ.tail i) (Memᴰ.tail j) e = by_number calls c d o.1 i j e

  -- What a withdrawal would tell of a settled call, and only of one.
  tells_settled : (s : State K) (t : ℕ) (z : Stamped) → (withdrawn s t).answer ≡ Ok (Some z) → (is_idle (seat_of s t).phase ≡ false) × (is_settled (seat_of s t) ≡ true) × (stamped_by (seat_of s t) ≡ z)
  tells_settled s t z e = grind arith

  settled_tells : (s : State K) (t : ℕ) → no_seat s t ≡ false → is_idle (seat_of s t).phase ≡ false → is_settled (seat_of s t) ≡ true → (withdrawn s t).answer ≡ Ok (Some (stamped_by (seat_of s t)))
  settled_tells s t u i k = rw (u, i, k) refl

  module _ {h : History K} {s : State K} {calls : List (StampedCall K)} (b : Book h s calls) where
    -- Openings that gave the same number are one.
    one_opening : (c d : StampedCall K) (t u : ℕ) → Asked h t c → Asked h u d → c.number ≡ d.number → (t ≡ u) × (c.ask ≡ d.ask) × (c.key ≡ d.key) × (c.at ≡ d.at)
    one_opening c d t u i j e =
        let same = b.one _ _ c.number i j refl (ap Some (sym e)) in
        let call : Open t c.ask c.key ≡ Open u d.ask d.key = ap (λ (v : Event K). v.call) same in
        (cc, cc, cc, ap (λ (v : Event K). v.ticks) same)

    -- A call that ended like one of the book, and was asked, is that one.
    is_recorded : (c : StampedCall K) (t u n : ℕ) (z : Stamped) → Recorded h calls t n z → Asked h u c → c.number ≡ n → c.result ≡ z.outcome → c.stamp ≡ z.stamp → Memᴰ c calls
    is_recorded c t u n z r i p q w = grind (arith, one_opening)

    stamped_in : (c : StampedCall K) (t : ℕ) → Asked h t c → Ends h s t c → Memᴰ c calls
    stamped_in c t i (Ends.finished e j) = is_recorded c t t c.number _ (b.ended _ _ j refl).0 i refl refl refl
    stamped_in c t i (Ends.withdrew e j) = is_recorded c t t c.number _ (b.ended _ _ j refl).0 i refl refl refl
    stamped_in c t i (Ends.standing n w) =
        let k = tells_settled s t _ w in
        is_recorded c t t (seat_of s t).number _ ((b.seats t k.0).settled k.1) i (sym n) (ap (λ (z : Stamped). z.outcome) (sym k.2)) (ap (λ (z : Stamped). z.stamp) (sym k.2))

    in_stamped : (c : StampedCall K) → Memᴰ c calls → IsStamped h s c
    in_stamped c i = let life = b.each c i in record { seat = life.own.seat; asked = life.own.asked; ends = ending life.own.seat life.ends }
      where
        ending : (t : ℕ) → Ending h t (seat_of s t) c → Ends h s t c
        ending t (Ending.finished e j) = Ends.finished e j
        ending t (Ending.withdrew e j) = Ends.withdrew e j
        ending t (Ending.standing o n k q) = Ends.standing n (settled_tells s t (b.inside t o) o k ∙ ap (λ z. Ok (Some z)) q)

    -- The end of a call tells what the book has of it.
    told : (c : StampedCall K) → Memᴰ c calls → (t : ℕ) (z : Stamped) (e : ℕ) → Recorded h calls t c.number z × (z.stamp ≤ e) → (z.outcome ≡ c.result) × (z.stamp ≡ c.stamp) × (c.stamp ≤ e)
    told c i t z e r = grind (arith, by_number)

    pub ordered : Ordered h s calls
    ordered =
        record {
          all = λ c k. stamped_in c k.seat k.asked k.ends;
          only = in_stamped;
          once = b.once;
          rising = b.rising;
          opened_once = one_opening;
          own = λ c i. (b.each c i).own;
          before_end = ends_told;
          before_now = λ c i. (b.each c i).now;
        }
      where
        ends_told : (c : StampedCall K) → Memᴰ c calls → (t e : ℕ) (r : Outcome) (n : ℕ) → TurnOf h t c.number e (Turned (Ok (Some (record { outcome = r; stamp = n })))) ⊎ WithdrawalOf h t c.number e (Withdrew (Ok (Some (record { outcome = r; stamp = n })))) → (r ≡ c.result) × (n ≡ c.stamp) × (c.stamp ≤ e)
        ends_told c i t e r n (inl j) = told c i t _ e (b.ended _ _ j refl)
        ends_told c i t e r n (inr j) = told c i t _ e (b.ended _ _ j refl)

  -- What is stamped stays so, whatever call comes next.
  pub stay : {h : History K} {s : State K} {calls : List (StampedCall K)} → Book h s calls → (same : K → K → Bool) (hash : K → ℕ) → Stays same hash h s
  stay b same hash c k e r z d = let next = does_next b same hash e r z d in in_stamped next.book c (next.keeps c (stamped_in b c k.seat k.asked k.ends))

  pub orders : (same : K → K → Bool) (hash : K → ℕ) → OrderTheorem same hash
  orders same hash f h s run =
      let book = book_of same hash f run in
      record {
        calls = book.0;
        ordered = ordered book.1;
        stays = stay book.1 same hash;
      }
