-- After every history the table keeps its figures and its memory's size, and open seats keep the rules of their records.
use Rattle.std.proofs.Common.{◌≡◌, ℕ, suc, ◌+◌, ◌<◌, ◌≤◌, Bool, true, false, cond, not, ◌&&◌, leb, ◌⊎◌, List, [], ◌∷◌, length, get_or, set, None, Ok, Option, sym, refl, ap, ◌∙◌, subst, inl, inr, arith, length-set, get_or-set_other, get_or-set_same}
use Rattle.std.specs.List.{slice_get}
use Rattle.std.proofs.lemmas.Bool.{cases_eq, true≢false, false≢true, leb-true, leb-false, or_parts, and_parts}
use Rattle.panel.specs.declared.Refusal.TheVariants.{NoSuchSeat, SeatTaken, SeatIdle, CountersSpent, MemoryUnfit, TableFull}
use Rattle.mains.specs.declared.Main.{Main}
use Rattle.rules.specs.Calls.{Left, refused_as, in_limits, suffices, between, format_refusal, formatted, opened, with_call, withdrawn, withdrawal}
use Rattle.rules.specs.Edits.{Link, adds_pair, links_of, with_cells, with_mains}
use Rattle.rules.specs.History.{Does, Runs}
use Rattle.rules.specs.Memory.{Memory, State, last_count}
use Rattle.rules.specs.Perform.{Out, Picks, seated, worded, quitted, going, enough, full, made_memory, with_new, chain_in, pending_for, performed, turned, value_of}
use Rattle.rules.specs.Seats.{seat_of, no_seat, idle_seat, opened_seat, is_idle, is_settled, hoping, prepared, settled_seat}
use Rattle.rules.specs.Turns.{look, reads, swaps, refusing, keyed}
use Rattle.rules.specs.declared.Ask.{Ask}
use Rattle.rules.specs.declared.Call.{Call}
use Rattle.rules.specs.declared.Call.TheVariants.{Open, Turn, Withdraw, Count}
use Rattle.rules.specs.declared.Edit.{Edit}
use Rattle.rules.specs.declared.Figures.{Figures}
use Rattle.rules.specs.declared.Limits.{Limits}
use Rattle.rules.specs.declared.Outcome.{Outcome}
use Rattle.rules.specs.declared.Pair.{Pair}
use Rattle.rules.specs.declared.Pending.{Pending}
use Rattle.rules.specs.declared.Phase.{Phase}
use Rattle.rules.specs.declared.Plan.{Plan}
use Rattle.rules.specs.declared.Plan.TheVariants.{Refuse, Quit, Settle, Go, Make}
use Rattle.rules.specs.declared.Reply.{Reply}
use Rattle.rules.specs.declared.Reply.TheVariants.{Opened, Turned, Withdrew, Counted}
use Rattle.rules.specs.declared.Seat.{Seat}
use Rattle.rules.proofs.Freshness.{accepted}
use Rattle.theory.proofs.Order.{all_idle}
use Rattle.theory.proofs.Plans.{Follows, plan_follows}
use Rattle.theory.specs.Records.{Phased, is_up, Kept, Steady, SteadyTheorem}
use Rattle.rules.specs.declared.Stamped.{Stamped}

-- RECORDS

-- The first cell stays where a later one is written.
first_stays : (cells : List ℕ) (i c : ℕ) → slice_get (set cells (suc i) c) 0 ≡ slice_get cells 0
first_stays [] i c = refl
first_stays (x ∷ cells) i c = refl

-- A test that failed has not passed.
pub never : {A : Type 0} → false ≡ true → A
never e = absurd (false≢true e)

-- A seat that goes on keeps the rules.
go_kept : (x : Seat) (phase : Phase) (y : Seat) → Kept x → (is_up phase ≡ true → 1 ≤ x.path.depth) → Phased phase (is_settled x) → Follows x phase (Go y) → (is_idle y.phase ≡ false) × Kept y
go_kept x phase y k up p (Follows.descends d l) =
    (refl, record { slots = length-set x.path.cells (x.path.depth + 1) d ∙ k.slots; root = rw (plus_one x.path.depth) (first_stays x.path.cells x.path.depth d ∙ k.root); short = omega (arith, l); above = never; phased = p; cut = k.cut })
  where
    plus_one : (n : ℕ) → n + 1 ≡ suc n
    plus_one n = omega arith
go_kept x phase y k up p (Follows.meets_tomb q l) =
    (refl, record { slots = k.slots; root = k.root; short = k.short; above = λ e. l; phased = tt; cut = k.cut })
go_kept x phase y k up p (Follows.restarts u) =
    (refl, record { slots = refl; root = refl; short = omega arith; above = never; phased = u p; cut = k.cut })
go_kept x phase y k up p (Follows.drops u l) =
    (refl, record { slots = k.slots; root = k.root; short = let s = k.short in omega (arith, s); above = λ e. omega (arith, l); phased = u p; cut = k.cut })
go_kept x phase y k up p (Follows.misses u) =
    (refl, record { slots = k.slots; root = k.root; short = k.short; above = λ e. up refl; phased = tt; cut = k.cut })

settle_kept : (x : Seat) (phase : Phase) (r : Outcome) (n : ℕ) → Kept x → Follows x phase (Settle r) → Kept (settled_seat x r n)
settle_kept x phase r n k e = grind arith

make_kept : (x : Seat) (phase after : Phase) (edit : Edit) (n : ℕ) (r : Outcome) (pending : Pending) → Kept x → (is_up phase ≡ true → 1 ≤ x.path.depth) → Phased phase (is_settled x) → Follows x phase (Make edit after n r) → (is_idle after ≡ false) × Kept (prepared (hoping x r) after pending)
make_kept x phase after edit n r pending k up p Follows.prepares =
    (refl, record { slots = k.slots; root = k.root; short = k.short; above = never; phased = p; cut = k.cut })
make_kept x phase after edit n r pending k up p Follows.cleans =
    (refl, record { slots = k.slots; root = k.root; short = k.short; above = λ e. up refl; phased = tt; cut = k.cut })

-- MEMORY KEEPS ITS SIZE

pub cells_size : (words : List ℕ) (links : List Link) → length (with_cells words links) ≡ length words
cells_size words [] = refl
cells_size words (l ∷ links) = cells_size _ links ∙ length-set words _ _

mains_size : (mains : List Main) (links : List Link) → length (with_mains mains links) ≡ length mains
mains_size mains [] = refl
mains_size mains (l ∷ links) = mains_size _ links ∙ length-set mains _ _

-- A record that a seat may have after a turn: of no call, or of one that keeps the rules.
data LeftAs : Seat → Type 0 where
  freed : LeftAs idle_seat
  kept : {y : Seat} → is_idle y.phase ≡ false → Kept y → LeftAs y

idle_left : (z : Seat) → LeftAs z → is_idle z.phase ≡ true → z ≡ idle_seat
idle_left z e i = grind arith

kept_left : (z : Seat) → LeftAs z → is_idle z.phase ≡ false → Kept z
kept_left z e o = grind arith

-- A table has eight seats at most.
pub in_limits_seats : (f : Figures) → in_limits f ≡ true → f.seats ≤ 8
in_limits_seats f e = leb-true f.seats 8 (and_parts (leb 1 f.seats) _ (and_parts (between 1 f.seats 8) _ e).0).1

module _ {K : Type 0} where
  -- Two memories have as many places of each kind.
  record SameSize (m n : Memory K) : Type 0 where
    words : length n.words ≡ length m.words
    mains : length n.mains ≡ length m.mains
    pairs : length n.pairs ≡ length m.pairs
    keys : length n.keys ≡ length m.keys

  same_size : (m : Memory K) → SameSize m m
  same_size m = record { words = refl; mains = refl; pairs = refl; keys = refl }

  still_suffices : (f : Figures) (m n : Memory K) → SameSize m n → suffices f m ≡ true → suffices f n ≡ true
  still_suffices f m n e s = rw (e.words, e.mains, e.pairs, e.keys) s

  pub new_size : (pairs : List (Pair K)) (b : Bool) (key : Option K) (v p : ℕ) → length (with_new pairs b key v p) ≡ length pairs
  new_size pairs b key v p = grind (arith, length-set)

  reads_size : (m : Memory K) (c : Option ℕ) → length (reads m c).words ≡ length m.words
  reads_size m c = grind arith

  swaps_size : (m : Memory K) (c : Option ℕ) (old new : ℕ) → length (swaps m c old new).words ≡ length m.words
  swaps_size m c old new = grind (arith, length-set)

  look_size : (phase : Phase) (x : Seat) (m : Memory K) → length (look phase x m).words ≡ length m.words
  look_size phase x m = grind (arith, reads_size, swaps_size)

  worded_size : (m : Memory K) (words : List ℕ) → length words ≡ length m.words → SameSize m (worded m words)
  worded_size m words e = record { words = e; mains = refl; pairs = refl; keys = refl }

  -- ONE SEAT'S RECORD ANEW

  module _ {f : Figures} {s : State K} (w : Steady f s) (t : ℕ) (room : t < f.seats) (m : Memory K) (size : SameSize s.memory m) (y : Seat) (left : LeftAs y) where
    in_seats : t < length s.table.seats
    in_seats = let l = in_limits_seats f w.figures in let e = w.seats in omega (arith, l, e, room)

    -- The table with the new record and another tick count.
    reseated : (n : ℕ) → n ≤ last_count → Steady f (seated s m t y n)
    reseated n l =
        record {
          seats = length-set s.table.seats t y ∙ w.seats;
          limits = w.limits;
          figures = w.figures;
          memory = still_suffices f s.memory m size w.memory;
          ticks = l;
          openings = w.openings;
          idle = λ p. at_idle p (cases_eq p t);
          calls = λ p. at_call p (cases_eq p t);
        }
      where
        here : (p : ℕ) → p ≡ t → get_or (set s.table.seats t y) p idle_seat ≡ y
        here p e = rw e (get_or-set_same s.table.seats t y idle_seat in_seats)

        there : (p : ℕ) → (p ≡ t → ⊥) → get_or (set s.table.seats t y) p idle_seat ≡ seat_of s p
        there p ne = get_or-set_other s.table.seats t p y idle_seat ne

        at_idle : (p : ℕ) → (p ≡ t) ⊎ (p ≡ t → ⊥) → is_idle (get_or (set s.table.seats t y) p idle_seat).phase ≡ true → get_or (set s.table.seats t y) p idle_seat ≡ idle_seat
        at_idle p e i = grind (arith, here, idle_left, there)

        at_call : (p : ℕ) → (p ≡ t) ⊎ (p ≡ t → ⊥) → is_idle (get_or (set s.table.seats t y) p idle_seat).phase ≡ false → (p < f.seats) × Kept (get_or (set s.table.seats t y) p idle_seat)
        at_call p (inl e) i =
            (rw e room, subst Kept (sym (here p e)) (kept_left y left (ap (λ (x : Seat). is_idle x.phase) (sym (here p e)) ∙ i)))
        at_call p (inr ne) i =
            let k = w.calls p (ap (λ (x : Seat). is_idle x.phase) (sym (there p ne)) ∙ i) in (k.0, subst Kept (sym (there p ne)) k.1)

  -- TURNS

  module _ (same : K → K → Bool) (hash : K → ℕ) {f : Figures} where
    performed_steady : (s : State K) (t : ℕ) (words : List ℕ) (p : Plan) (picks : Picks) → Steady f s → is_idle (seat_of s t).phase ≡ false → s.table.ticks < last_count → length words ≡ length s.memory.words → Follows (seat_of s t) (seat_of s t).phase p → Steady f (performed same hash s t words p picks).state
    performed_steady s t words (Refuse e) picks w o l q k = w
    performed_steady s t words (Quit e) picks w o l q k = reseated w t (w.calls t o).0 s.memory (same_size s.memory) idle_seat LeftAs.freed (suc s.table.ticks) l
    performed_steady s t words (Settle r) picks w o l q k =
        reseated w t (w.calls t o).0 (worded s.memory words) (worded_size s.memory words q) _ (LeftAs.kept refl (settle_kept (seat_of s t) (seat_of s t).phase r (suc s.table.ticks) (w.calls t o).1 k)) (suc s.table.ticks) l
    performed_steady s t words (Go y) picks w o l q k =
        let x = (w.calls t o).1 in
        let z = go_kept (seat_of s t) (seat_of s t).phase y x x.above x.phased k in
        reseated w t (w.calls t o).0 (worded s.memory words) (worded_size s.memory words q) y (LeftAs.kept z.0 z.1) (suc s.table.ticks) l
    performed_steady s t words (Make edit phase n r) picks w o l q k = by (enough edit picks) (adds_pair edit && full same hash s t (links_of edit))
      where
        y : Seat
        y = prepared (hoping (seat_of s t) r) phase (pending_for edit n picks)

        by : (b c : Bool) → Steady f (cond b (cond c (quitted s t TableFull) (going s t (made_memory s t edit picks) y None)) (Rattle.rules.specs.Perform.refused s t MemoryUnfit)).state
        by false c = w
        by true true = reseated w t (w.calls t o).0 s.memory (same_size s.memory) idle_seat LeftAs.freed (suc s.table.ticks) l
        by true false =
            let x = (w.calls t o).1 in
            let z = make_kept (seat_of s t) (seat_of s t).phase phase edit n r (pending_for edit n picks) x x.above x.phased k in
            reseated w t (w.calls t o).0 (made_memory s t edit picks) (grind (arith, cells_size, mains_size, length-set, new_size)) y (LeftAs.kept z.0 z.1) (suc s.table.ticks) l
    performed_steady s t words _ picks w o l q k = reseated w t (w.calls t o).0 (worded s.memory words) (worded_size s.memory words q) idle_seat LeftAs.freed (suc s.table.ticks) l

    turn_steady : (s : State K) (t : ℕ) (picks : Picks) → Steady f s → Steady f (turned same hash s t picks).state
    turn_steady s t picks w = by (no_seat s t) (is_idle (seat_of s t).phase) refl (leb last_count s.table.ticks) refl
      where
        by : (b c : Bool) → is_idle (seat_of s t).phase ≡ c → (d : Bool) → leb last_count s.table.ticks ≡ d → (let p = cond b (refusing s NoSuchSeat) (cond c (refusing s SeatIdle) (cond d (refusing s CountersSpent) (keyed same hash (slice_get s.memory.keys t) (seat_of s t) s.memory))) in Steady f (performed same hash s t p.words p.plan picks).state)
        by false false o false l =
            performed_steady s t _ _ picks w o (leb-false last_count s.table.ticks l) (grind (arith, look_size)) (plan_follows (seat_of s t) same hash (slice_get s.memory.keys t) s.memory o)
        by _ _ o _ l = w

  -- THE OTHER CALLS

  module _ {f : Figures} {s : State K} (w : Steady f s) (t : ℕ) where
    withdraw_steady : Steady f (withdrawn s t).state
    withdraw_steady = by (no_seat s t) (is_idle (seat_of s t).phase) refl
      where
        by : (u i : Bool) → is_idle (seat_of s t).phase ≡ i → (let left : Left K (Option Stamped) = cond u (refused_as s NoSuchSeat) (cond i (refused_as s SeatIdle) (record { state = seated s s.memory t idle_seat s.table.ticks; answer = Ok (withdrawal (seat_of s t)) })) in Steady f left.state)
        by false false o = reseated w t (w.calls t o).0 s.memory (same_size s.memory) idle_seat LeftAs.freed s.table.ticks w.ticks
        by _ _ o = w

    open_steady : (ask : Ask) (key : K) → Steady f (opened s t ask key).state
    open_steady ask key = by (no_seat s t) refl (not (is_idle (seat_of s t).phase)) (leb last_count s.table.openings) refl (leb (length s.memory.keys) t)
      where
        y : Seat
        y = opened_seat ask (suc s.table.openings)

        m : Memory K
        m = (with_call s t ask key).memory

        size : SameSize s.memory m
        size = record { words = refl; mains = refl; pairs = refl; keys = length-set s.memory.keys t key }

        fresh : Kept y
        fresh = record { slots = refl; root = refl; short = omega arith; above = never; phased = refl; cut = never }

        by : (u : Bool) → no_seat s t ≡ u → (i n : Bool) → leb last_count s.table.openings ≡ n → (k : Bool) → (let left : Left K ℕ = cond u (refused_as s NoSuchSeat) (cond i (refused_as s SeatTaken) (cond n (refused_as s CountersSpent) (cond k (refused_as s MemoryUnfit) (record { state = with_call s t ask key; answer = Ok (suc s.table.openings) })))) in Steady f left.state)
        by false u false false l false =
            let room = leb-false s.table.limits.seats t (or_parts (leb s.table.limits.seats t) _ u).0 in
            let r = reseated w t (subst (λ (q : Limits). t < q.seats) w.limits room) m size y (LeftAs.kept refl fresh) s.table.ticks w.ticks in
            record {
              seats = r.seats;
              limits = r.limits;
              figures = r.figures;
              memory = r.memory;
              ticks = r.ticks;
              openings = leb-false last_count s.table.openings l;
              idle = r.idle;
              calls = r.calls;
            }
        by _ u _ _ l _ = w

  module _ (same : K → K → Bool) (hash : K → ℕ) {f : Figures} where
    does_steady : (s : State K) (c : Call K) (r : Reply) (z : State K) → Does same hash s c r z → Steady f s → Steady f z
    does_steady s (Open t ask key) (Opened r) z (p, q) w = rw q (open_steady w t ask key)
    does_steady s (Turn t) (Turned r) z (out, (picks, takes, e), p, q) w =
        subst (Steady f) (sym (q ∙ ap (λ (o : Out K). o.state) e)) (turn_steady same hash s t picks w)
    does_steady s (Withdraw t) (Withdrew r) z (p, q) w = rw q (withdraw_steady w t)
    does_steady s Count (Counted r) z (p, q) w = rw q w
    does_steady s _ _ z d w = absurd d

  fresh_steady : (f : Figures) (m : Memory K) → format_refusal f m ≡ None → Steady f (formatted f m)
  fresh_steady f m e = grind (arith, accepted, leb-true, and_parts, still_suffices, length-set, all_idle, true≢false)

  pub steady : (same : K → K → Bool) (hash : K → ℕ) → SteadyTheorem same hash
  steady same hash f h s (Runs.fresh m k) = fresh_steady f m k
  steady same hash f h s (Runs.then {h = g} {s = r} run c a z d) = does_steady same hash r c a z d (steady same hash f g r run)
