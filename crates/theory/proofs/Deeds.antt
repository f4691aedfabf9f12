-- What a turn does to the call of its seat: it fixes one result at most, once, and keeps it until the call ends.
use Rattle.std.proofs.Common.{◌≡◌, ℕ, suc, Bool, true, false, cond, ◌&&◌, leb, List, Some, None, Ok, Err, Option, Result, is_some, unwrap_or, sym, refl, ap, ◌∙◌, arith}
use Rattle.std.specs.List.{slice_get}
use Rattle.std.proofs.lemmas.Bool.{and_parts, false≢true}
use Rattle.panel.specs.declared.Refusal.{Refusal}
use Rattle.panel.specs.declared.Refusal.TheVariants.{NoSuchSeat, SeatIdle, CountersSpent, MemoryUnfit, TableFull}
use Rattle.rules.specs.Edits.{adds_pair, links_of}
use Rattle.rules.specs.Memory.{Memory, State, last_count}
use Rattle.rules.specs.Perform.{Out, Picks, seated, worded, quitted, going, enough, full, made_memory, pending_for, performed, turned}
use Rattle.rules.specs.Seats.{seat_of, no_seat, idle_seat, is_idle, is_settled, hoping, prepared, settled_seat, stamped_by}
use Rattle.rules.specs.Turns.{refusing, keyed}
use Rattle.rules.specs.declared.Edit.{Edit}
use Rattle.rules.specs.declared.Outcome.{Outcome}
use Rattle.rules.specs.declared.Phase.{Phase}
use Rattle.rules.specs.declared.Plan.{Plan}
use Rattle.rules.specs.declared.Plan.TheVariants.{Refuse, Quit, Finish, Settle, Close, Go, Make}
use Rattle.rules.specs.declared.Seat.{Seat}
use Rattle.rules.specs.declared.Stamped.{Stamped}
use Rattle.rules.specs.declared.Verdict.{Verdict}
use Rattle.theory.proofs.Plans.{Follows, plan_follows}
use Rattle.theory.specs.Records.{Phased}

pub phased_open : (phase : Phase) (b : Bool) → Phased phase b → is_idle phase ≡ false
phased_open phase b p = grind arith

-- The call of a seat goes on in another record: what has settled stays.
pub record Onward (x y : Seat) : Type 0 where
  pub number : y.number ≡ x.number
  pub ask : y.ask ≡ x.ask
  pub settled : is_settled y ≡ is_settled x
  pub same_verdict : is_settled x ≡ true → stamped_by y ≡ stamped_by x
  pub phased : Phased y.phase (is_settled y)

-- Which plans a seat may follow.
data Fitting (x : Seat) : Plan → Type 0 where
  refuses : {e : Refusal} → Fitting x (Refuse e)
  quits : {e : Refusal} → is_settled x ≡ false → Fitting x (Quit e)
  finishes : {r : Outcome} → is_settled x ≡ false → Fitting x (Finish r)
  settles : {r : Outcome} → is_settled x ≡ false → Fitting x (Settle r)
  closes : is_settled x ≡ true → Fitting x Close
  goes : {y : Seat} → Onward x y → Fitting x (Go y)
  makes : {edit : Edit} {phase : Phase} {n : ℕ} {r : Outcome} → Phased phase (is_settled x) → (is_settled x ≡ true → r ≡ x.verdict.outcome) → (adds_pair edit ≡ true → is_settled x ≡ false) → Fitting x (Make edit phase n r)

same_verdict : (x y : Seat) → y.number ≡ x.number → y.ask ≡ x.ask → y.verdict ≡ x.verdict → Phased y.phase (is_settled y) → Fitting x (Go y)
same_verdict x y n a v p =
    Fitting.goes (record { number = n; ask = a; settled = ap (λ (u : Verdict). is_some u.stamp) v; same_verdict = λ e. ap (λ (u : Verdict). record { outcome = u.outcome; stamp = unwrap_or u.stamp 0 }) v; phased = p })

fits : (x : Seat) (phase : Phase) (p : Plan) → Phased phase (is_settled x) → Follows x phase p → Fitting x p
fits x phase p k Follows.refuses = Fitting.refuses
fits x phase p k Follows.meets_full = Fitting.quits k
fits x phase p k Follows.answers = Fitting.finishes k
fits x phase p k Follows.prepares = Fitting.makes k (λ e. absurd (false≢true (sym k ∙ e))) (λ a. k)
fits x phase p k (Follows.descends d l) = same_verdict x _ refl refl refl k
fits x phase p k (Follows.meets_tomb q l) = same_verdict x _ refl refl refl tt
fits x phase p k (Follows.settles c l) = Fitting.settles k
fits x phase p k Follows.finishes = Fitting.finishes k
fits x phase p k (Follows.restarts u) = same_verdict x _ refl refl refl (u k)
fits x phase p k (Follows.closes u) = Fitting.closes (u k)
fits x phase p k (Follows.drops u l) = same_verdict x _ refl refl refl (u k)
fits x phase p k Follows.cleans = Fitting.makes tt (λ e. refl) (λ e. absurd (false≢true e))
fits x phase p k (Follows.misses u) = same_verdict x _ refl refl refl tt

-- WHAT IS DONE

-- What becomes of the call in a seat's record x at the tick n, with an answer and the result that is fixed: given up, fixed
-- and ended, fixed and kept, ended with what was kept, or continued.
pub data Act (x : Seat) (n : ℕ) : Result (Option Stamped) Refusal → Option Outcome → Seat → Type 0 where
  quits : (e : Refusal) → is_settled x ≡ false → Act x n (Err e) None idle_seat
  finishes : (r : Outcome) → is_settled x ≡ false → Act x n (Ok (Some (record { outcome = r; stamp = n }))) (Some r) idle_seat
  settles : (r : Outcome) → is_settled x ≡ false → Act x n (Ok None) (Some r) (settled_seat x r n)
  closes : is_settled x ≡ true → Act x n (Ok (Some (stamped_by x))) None idle_seat
  goes : (y : Seat) → Onward x y → Act x n (Ok None) None y

-- What a turn did: it was refused and nothing altered, or it counted a tick and left the seat in another record.
pub data Deed {K : Type 0} (s : State K) (t : ℕ) (out : Out K) : Type 0 where
  refused : (e : Refusal) → out.state ≡ s → out.answer ≡ Err e → out.fixed ≡ None → Deed s t out
  acted : (m : Memory K) (y : Seat) → is_idle (seat_of s t).phase ≡ false → m.keys ≡ s.memory.keys → out.state ≡ seated s m t y (suc s.table.ticks) → Act (seat_of s t) (suc s.table.ticks) out.answer out.fixed y → Deed s t out

module _ {K : Type 0} (same : K → K → Bool) (hash : K → ℕ) where
  deed : (s : State K) (t : ℕ) (words : List ℕ) (p : Plan) (picks : Picks) → is_idle (seat_of s t).phase ≡ false → Fitting (seat_of s t) p → Deed s t (performed same hash s t words p picks)
  deed s t words (Refuse e) picks o f = Deed.refused e refl refl refl
  deed s t words (Quit e) picks o (Fitting.quits u) = Deed.acted s.memory idle_seat o refl refl (Act.quits e u)
  deed s t words (Finish r) picks o (Fitting.finishes u) = Deed.acted (worded s.memory words) idle_seat o refl refl (Act.finishes r u)
  deed s t words (Settle r) picks o (Fitting.settles u) = Deed.acted (worded s.memory words) (settled_seat (seat_of s t) r (suc s.table.ticks)) o refl refl (Act.settles r u)
  deed s t words Close picks o (Fitting.closes u) = Deed.acted (worded s.memory words) idle_seat o refl refl (Act.closes u)
  deed s t words (Go y) picks o (Fitting.goes k) = Deed.acted (worded s.memory words) y o refl refl (Act.goes y k)
  deed s t words (Make edit phase n r) picks o (Fitting.makes q w a) =
      by (enough edit picks) (adds_pair edit && full same hash s t (links_of edit)) refl
    where
      y : Seat
      y = prepared (hoping (seat_of s t) r) phase (pending_for edit n picks)

      by : (b c : Bool) → (adds_pair edit && full same hash s t (links_of edit)) ≡ c → Deed s t (cond b (cond c (quitted s t TableFull) (going s t (made_memory s t edit picks) y None)) (Rattle.rules.specs.Perform.refused s t MemoryUnfit))
      by false c e = Deed.refused MemoryUnfit refl refl refl
      by true true e = Deed.acted s.memory idle_seat o refl refl (Act.quits TableFull (a (and_parts (adds_pair edit) _ e).0))
      by true false e =
          Deed.acted (made_memory s t edit picks) y o refl refl
          (Act.goes y (record { number = refl; ask = refl; settled = refl; same_verdict = λ i. ap (λ u. record { outcome = u; stamp = (stamped_by (seat_of s t)).stamp }) (w i); phased = q }))

  -- What a turn does, in whatever places.
  pub turn_deed : (s : State K) (t : ℕ) (picks : Picks) → (is_idle (seat_of s t).phase ≡ false → Phased (seat_of s t).phase (is_settled (seat_of s t))) → Deed s t (turned same hash s t picks)
  turn_deed s t picks k = by (no_seat s t) (is_idle (seat_of s t).phase) refl (leb last_count s.table.ticks)
    where
      by : (b c : Bool) → is_idle (seat_of s t).phase ≡ c → (d : Bool) → (let p = cond b (refusing s NoSuchSeat) (cond c (refusing s SeatIdle) (cond d (refusing s CountersSpent) (keyed same hash (slice_get s.memory.keys t) (seat_of s t) s.memory))) in Deed s t (performed same hash s t p.words p.plan picks))
      by true c o d = Deed.refused NoSuchSeat refl refl refl
      by false true o d = Deed.refused SeatIdle refl refl refl
      by false false o true = Deed.refused CountersSpent refl refl refl
      by false false o false = deed s t _ _ picks o (fits (seat_of s t) (seat_of s t).phase _ (k o) (plan_follows (seat_of s t) same hash (slice_get s.memory.keys t) s.memory o))
