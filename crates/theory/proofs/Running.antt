-- Every history of a table runs the machine, stays within its limits and never lacks memory.
use Rattle.std.proofs.Common.{◌≡◌, ℕ, Bool, false, List, [], ◌∷◌, Err, Option, Result, sym, ap, ◌∙◌, subst, arith}
use mathlib.Core.List.{Memᴰ}
use Rattle.keys.specs.Laws.{KeyLaws}
use Rattle.panel.specs.declared.Refusal.{Refusal}
use Rattle.panel.specs.declared.Refusal.TheVariants.{MemoryUnfit}
use Rattle.rules.specs.Calls.{opened, withdrawn}
use Rattle.rules.specs.History.{Event, History, bears, Does, Runs}
use Rattle.rules.specs.Memory.{State}
use Rattle.rules.specs.Perform.{Out, Picks, Takes, turned}
use Rattle.rules.specs.Reached.{pair_count}
use Rattle.rules.specs.Turns.{planned}
use Rattle.rules.specs.Seats.{seat_of, is_idle}
use Rattle.rules.specs.Theorem.{StampedCall, NeverUnfit}
use Rattle.rules.specs.declared.Ask.{Ask}
use Rattle.rules.specs.declared.Call.{Call}
use Rattle.rules.specs.declared.Call.TheVariants.{Open, Turn, Withdraw, Count}
use Rattle.rules.specs.declared.Figures.{Figures}
use Rattle.rules.specs.declared.Reply.{Reply}
use Rattle.rules.specs.declared.Reply.TheVariants.{Opened, Turned, Withdrew, Counted}
use Rattle.rules.specs.declared.Stamped.{Stamped}
use Rattle.rules.specs.declared.Tally.{Tally}
use Rattle.theory.proofs.Book.{Book, seat_in}
use Rattle.theory.proofs.Entries.{Grown, as_before}
use Rattle.theory.proofs.Ground.{Ground, Within}
use Rattle.theory.proofs.Imaging.{Image, ground}
use Rattle.theory.proofs.Keeping.{does_written, does_poised}
use Rattle.theory.proofs.Mirror.{turn_moves}
use Rattle.theory.proofs.Opening.{open_moves, open_within, open_fit, withdraw_within}
use Rattle.theory.proofs.Order.{fresh_book, fixed_by, does_next}
use Rattle.theory.proofs.Rooming.{never_unfit}
use Rattle.theory.proofs.Starting.{fresh_image, fresh_within}
use Rattle.theory.proofs.Steady.{steady}
use Rattle.theory.proofs.Telling.{told}
use Rattle.theory.proofs.Turning.{Moved}
use Rattle.theory.proofs.Weighing.{within_turn}
use Rattle.theory.proofs.Withdrawing.{still, withdraw_image}
use Rattle.theory.proofs.Writing.{Written, Poised}
use Rattle.theory.specs.Fed.{entries_of}
use Rattle.theory.specs.Records.{Steady}

opened_turned : {a : Result ℕ Refusal} {b : Result (Option Stamped) Refusal} → Opened a ≡ Turned b → ⊥
opened_turned e = let z : ◌≡◌ {A = ℕ} 0 1 = cc in omega arith

withdrew_opened : {a : Result (Option Stamped) Refusal} {b : Result ℕ Refusal} → Withdrew a ≡ Opened b → ⊥
withdrew_opened e = let z : ◌≡◌ {A = ℕ} 0 1 = cc in omega arith

withdrew_turned : {a b : Result (Option Stamped) Refusal} → Withdrew a ≡ Turned b → ⊥
withdrew_turned e = let z : ◌≡◌ {A = ℕ} 0 1 = cc in omega arith

counted_opened : {a : Tally} {b : Result ℕ Refusal} → Counted a ≡ Opened b → ⊥
counted_opened e = let z : ◌≡◌ {A = ℕ} 0 1 = cc in omega arith

counted_turned : {a : Tally} {b : Result (Option Stamped) Refusal} → Counted a ≡ Turned b → ⊥
counted_turned e = let z : ◌≡◌ {A = ℕ} 0 1 = cc in omega arith

module _ {K : Type 0} (same : K → K → Bool) (hash : K → ℕ) where
  -- What is known after a history: the stamped calls with their book, the state's image with the calls as its log, the limits.
  pub record Known (f : Figures) (h : History K) (s : State K) : Type 0 where
    pub calls : List (StampedCall K)
    pub book : Book h s calls
    pub steady : Steady f s
    pub image : Image same hash h calls s
    pub within : Within same hash s
    pub unfit : NeverUnfit h

  -- The image moves with a call.
  moves : {h : History K} {s z : State K} {calls more : List (StampedCall K)} {v : Event K} (m : Image same hash h calls s) → Moved same hash s z m.seats calls more
      → Written z → ((t : ℕ) → is_idle (seat_of z t).phase ≡ false → Poised (seat_of z t)) → Image same hash (v ∷ h) more z
  moves m w a b =
      record {
        seats = w.seats;
        flag = m.flag;
        shows = w.shows;
        run = w.run m.flag m.run;
        calm = λ n. m.calm (λ e i. n e (Memᴰ.tail i));
        fitting = w.fitting m.fitting;
        written = a;
        poised = b;
      }

  module _ (laws : KeyLaws same hash) {f : Figures} where
    -- One call more.
    module _ {h : History K} {s : State K} (w : Known f h s) where
      abbrev g : Ground same hash f (entries_of w.calls) s w.image.seats
      g = ground same hash laws w.steady w.image

      module _ (v : Event K) (more : List (StampedCall K)) (z : State K) (steady_z : Steady f z) (written : Written z) (poised : (t : ℕ) → is_idle (seat_of z t).phase ≡ false → Poised (seat_of z t)) where
        -- A turn.
        turn_on : (t : ℕ) (picks : Picks) → Takes same hash s (planned same hash s t).plan picks → Grown s t w.calls (turned same hash s t picks).fixed more → z ≡ (turned same hash s t picks).state
            → Image same hash (v ∷ h) more z × Within same hash z
        turn_on t picks takes grown e =
            let moved = turn_moves same hash laws g w.calls t picks takes more grown in
            let image : Image same hash (v ∷ h) more z = moves w.image (subst (λ (u : State K). Moved same hash s u w.image.seats w.calls more) (sym e) moved) written poised in
            let before = (told same hash laws w.calls g).counted in
            let after = (told same hash laws more (ground same hash laws steady_z image)).counted in
            (image, subst (Within same hash) (sym e) (within_turn same hash laws w.calls g w.within t picks more takes grown before (ap (λ (u : State K). pair_count same hash u.memory) (sym e) ∙ after)))

      -- The event of a call.
      abbrev event : Call K → Reply → State K → Event K
      event c r z = record { call = c; reply = r; number = bears s c; ticks = z.table.ticks }

      -- The image and the limits after a call that fixes nothing.
      abbrev Onward : Event K → State K → Type 0
      Onward v z = Image same hash (v ∷ h) w.calls z × Within same hash z

      open_on : (t : ℕ) (ask : Ask) (key : K) (v : Event K) (z : State K) → z ≡ (opened s t ask key).state → Written z → ((p : ℕ) → is_idle (seat_of z p).phase ≡ false → Poised (seat_of z p)) → Onward v z
      open_on t ask key v z e a b = (
        moves w.image (subst (λ (u : State K). Moved same hash s u w.image.seats w.calls w.calls) (sym e) (open_moves same hash w.steady w.image.shows t ask key)) a b,
        subst (Within same hash) (sym e) (open_within same hash w.steady w.within t ask key),
      )

      withdraw_on : (t : ℕ) (r : Result (Option Stamped) Refusal) (z : State K) → r ≡ (withdrawn s t).answer → z ≡ (withdrawn s t).state → Written z → ((p : ℕ) → is_idle (seat_of z p).phase ≡ false → Poised (seat_of z p)) → Onward (event (Withdraw t) (Withdrew r) z) z
      withdraw_on t r z p e a b = (
        subst (λ (u : Result (Option Stamped) Refusal). Image same hash (event (Withdraw t) (Withdrew u) z ∷ h) w.calls z) (sym p)
            (subst (λ (u : State K). Image same hash (event (Withdraw t) (Withdrew (withdrawn s t).answer) u ∷ h) w.calls u) (sym e)
            (withdraw_image same hash laws w.steady w.image t (subst Written e a) (subst (λ (u : State K). (p : ℕ) → is_idle (seat_of u p).phase ≡ false → Poised (seat_of u p)) e b))),
        subst (Within same hash) (sym e) (withdraw_within same hash w.steady w.within t),
      )

      count_on : (v : Event K) (z : State K) → z ≡ s → Onward v z
      count_on v z e = subst (Onward v) (sym e) (still same hash w.image w.image.written w.image.poised, w.within)

      -- Whatever the call.
      image_on : (c : Call K) (r : Reply) (z : State K) (d : Does same hash s c r z) (more : List (StampedCall K)) → Steady f z
          → Grown s (seat_in c) w.calls (fixed_by same hash s c r z d) more → Image same hash (event c r z ∷ h) more z × Within same hash z
      image_on c r z d more k grown = by c r d grown (does_written same hash s c r z d w.steady w.image.written) (does_poised same hash s c r z d w.steady w.image.poised)
        where
          longer : (v : Event K) → more ≡ w.calls → Onward v z → Image same hash (v ∷ h) more z × Within same hash z
          longer v e o = subst (λ (l : List (StampedCall K)). Image same hash (v ∷ h) l z × Within same hash z) (sym e) o

          by : (c : Call K) (r : Reply) (d : Does same hash s c r z) → Grown s (seat_in c) w.calls (fixed_by same hash s c r z d) more → Written z → ((t : ℕ) → is_idle (seat_of z t).phase ≡ false → Poised (seat_of z t))
              → Image same hash (event c r z ∷ h) more z × Within same hash z
          by (Open t ask key) (Opened r) (p, q) l a b = longer _ (as_before l) (open_on t ask key _ z q a b)
          by (Turn t) (Turned r) (out, (picks, takes, e), p, q) l a b =
              turn_on _ more z k a b t picks takes (subst (λ (o : Out K). Grown s t w.calls o.fixed more) e l) (q ∙ ap (λ (o : Out K). o.state) e)
          by (Withdraw t) (Withdrew r) (p, q) l a b = longer _ (as_before l) (withdraw_on t r z p q a b)
          by Count (Counted r) (p, q) l a b = longer _ (as_before l) (count_on _ z q)
          by _ _ d l a b = absurd d

      -- No call is refused for its memory.
      fit_on : (c : Call K) (r : Reply) (z : State K) → Does same hash s c r z → (r ≡ Opened (Err MemoryUnfit) → ⊥) × (r ≡ Turned (Err MemoryUnfit) → ⊥)
      fit_on (Open t ask key) (Opened r) z (p, q) = (λ e. open_fit same hash w.steady t ask key (sym p ∙ (cc)), λ e. opened_turned e)
      fit_on (Turn t) (Turned r) z (out, u, p, q) = (λ e. opened_turned (sym e), λ e. never_unfit same hash laws g w.within t out u (sym p ∙ (cc)))
      fit_on (Withdraw t) (Withdrew r) z d = (λ e. withdrew_opened e, λ e. withdrew_turned e)
      fit_on Count (Counted r) z d = (λ e. counted_opened e, λ e. counted_turned e)
      fit_on _ _ z d = absurd d

      known_on : (c : Call K) (r : Reply) (z : State K) → Does same hash s c r z → Steady f z → Known f (event c r z ∷ h) z
      known_on c r z d k =
          let next = does_next w.book same hash c r z d in
          let image = image_on c r z d next.more k next.grown in
          record {
            calls = next.more;
            book = next.book;
            steady = k;
            image = image.0;
            within = image.1;
            unfit = record { openings = first_opening; turns = first_turn };
          }
        where
          first_opening : (e : Event K) → Memᴰ e (event c r z ∷ h) → e.reply ≡ Opened (Err MemoryUnfit) → ⊥
          first_opening e (Memᴰ.head q) u = (fit_on c r z d).0 (ap (λ (i : Event K). i.reply) (sym q) ∙ u)
          first_opening e (Memᴰ.tail i) u = w.unfit.openings e i u

          first_turn : (e : Event K) → Memᴰ e (event c r z ∷ h) → e.reply ≡ Turned (Err MemoryUnfit) → ⊥
          first_turn e (Memᴰ.head q) u = (fit_on c r z d).1 (ap (λ (i : Event K). i.reply) (sym q) ∙ u)
          first_turn e (Memᴰ.tail i) u = w.unfit.turns e i u

    -- After every history.
    pub known : {h : History K} {s : State K} → Runs same hash f h s → Known f h s
    known (Runs.fresh m e) =
        record {
          calls = [];
          book = fresh_book f m;
          steady = steady same hash f [] _ (Runs.fresh m e);
          image = fresh_image same hash m e;
          within = fresh_within same hash m e;
          unfit = record { openings = λ e i. elim i [ ]; turns = λ e i. elim i [ ] };
        }
    known (Runs.then {h = h} {s = s} run c r z d) = known_on (known run) c r z d (steady same hash f _ z (Runs.then run c r z d))
