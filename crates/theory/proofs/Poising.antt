-- Every call keeps what pending calls say of themselves.
use Rattle.std.proofs.Common.{◌≡◌, ℕ, ◌-◌, ◌≤◌, Bool, true, false, cond, ◌&&◌, List, get_or, set, None, sym, refl, ap, ◌∙◌, arith}
use Rattle.keys.specs.Routes.{chunk_at}
use Rattle.std.proofs.lemmas.Bool.{true≢false, false≢true}
use Rattle.panel.specs.declared.Refusal.TheVariants.{MemoryUnfit, TableFull}
use Rattle.mains.specs.Nodes.{replaced}
use Rattle.mains.specs.declared.Branch.TheVariants.{Pair as pair}
use Rattle.mains.specs.declared.Main.{Main}
use Rattle.rules.specs.Edits.{kept_node, adds_pair, links_of}
use Rattle.rules.specs.History.{Does}
use Rattle.rules.specs.InUse.{is_pending}
use Rattle.rules.specs.Memory.{State}
use Rattle.rules.specs.Perform.{Picks, Picked, Takes, enough, full, quitted, going, chain_in, made_memory, pending_for, performed}
use Rattle.rules.specs.Seats.{seat_of, idle_seat, is_idle, hoping, prepared}
use Rattle.rules.specs.declared.Call.{Call}
use Rattle.rules.specs.declared.Edit.{Edit}
use Rattle.rules.specs.declared.Edit.TheVariants.{Fixed}
use Rattle.rules.specs.declared.Figures.{Figures}
use Rattle.rules.specs.declared.Outcome.{Outcome}
use Rattle.rules.specs.declared.Phase.{Phase}
use Rattle.rules.specs.declared.Phase.TheVariants.{Swap, Clean}
use Rattle.rules.specs.declared.Plan.{Plan}
use Rattle.rules.specs.declared.Plan.TheVariants.{Make}
use Rattle.rules.specs.declared.Reply.{Reply}
use Rattle.rules.specs.declared.Seat.{Seat}
use Rattle.theory.proofs.Calling.{Preserves, does_by}
use Rattle.theory.proofs.Chaining.{chain_short, recorded_whole}
use Rattle.theory.proofs.Drafted.{drafts_adds, drafts_hopes, drafts_room}
use Rattle.theory.proofs.ListPlaces.{each_set}
use Rattle.theory.proofs.Sights.{Reads, Leaves, Sees}
use Rattle.theory.proofs.Writing.{Poised, is_burying}
use Rattle.theory.specs.Records.{Steady}

-- A record that is not in SWAP says nothing.
silent : (y : Seat) → (y.phase ≡ Swap → ⊥) → Poised y
silent y f = record { hopes = λ e. absurd (f e); short = λ e. absurd (f e); links = λ e. absurd (f e); adds = λ e. absurd (f e) }

-- Each open call says of itself what holds.
abbrev AllPoised : List Seat → Type 0
AllPoised xs = (t : ℕ) → is_idle (get_or xs t idle_seat).phase ≡ false → Poised (get_or xs t idle_seat)

-- One seat's record anew.
poised_set : (xs : List Seat) (t : ℕ) (y : Seat) → AllPoised xs → Poised y → AllPoised (set xs t y)
poised_set xs t y all k = each_set idle_seat (λ (x : Seat). is_idle x.phase ≡ false → Poised x) xs t y (λ _. k) all

module _ {K : Type 0} (same : K → K → Bool) (hash : K → ℕ) (s : State K) (all : AllPoised s.table.seats) (t : ℕ) where
  -- The seats after a plan.
  abbrev seats_after : List ℕ → Plan → Picks → List Seat
  seats_after words p picks = (performed same hash s t words p picks).state.table.seats

  -- The seat goes on with nothing prepared, or is freed.
  walks : (y : Seat) → is_pending y.phase ≡ false → AllPoised (set s.table.seats t y)
  walks y f = poised_set s.table.seats t y all (silent y (λ e. false≢true (sym f ∙ ap is_pending e)))

  makes : (edit : Edit) (phase : Phase) (n : ℕ) (r : Outcome) (picks : Picks) (words : List ℕ) → Poised (prepared (hoping (seat_of s t) r) phase (pending_for edit n picks)) → AllPoised (seats_after words (Make edit phase n r) picks)
  makes edit phase n r picks words k = by (enough edit picks) (adds_pair edit && full same hash s t (links_of edit))
    where
      y : Seat
      y = prepared (hoping (seat_of s t) r) phase (pending_for edit n picks)

      by : (b c : Bool) → AllPoised (cond b (cond c (quitted s t TableFull) (going s t (made_memory s t edit picks) y None)) (Rattle.rules.specs.Perform.refused s t MemoryUnfit)).state.table.seats
      by false c = all
      by true true = walks idle_seat refl
      by true false = poised_set s.table.seats t y all k

  leaves : (words : List ℕ) (picks : Picks) (p : Plan) → Leaves same hash (seat_of s t) p → AllPoised (seats_after words p picks)
  leaves words picks p (Leaves.closes u l) = walks _ refl
  leaves words picks p _ = walks _ refl

  reads : (key : K) (n : ℕ) (picks : Picks) → (seat_of s t).path.depth ≤ 7 → (y : Main) (p : Plan) → Reads same hash s.memory (seat_of s t) key n y p → Takes same hash s p picks → AllPoised (seats_after s.memory.words p picks)
  reads key n picks l y p (Reads.missing i j b h) u = all
  reads key n picks l y p (Reads.drafts {edit = edit} {r = r} d) u = makes edit Swap n r picks s.memory.words (grind (arith, drafts_hopes, recorded_whole, drafts_adds, chain_short, drafts_room))
  reads key n picks l y p _ u = walks _ refl

  sees : (key : K) (picks : Picks) → (seat_of s t).path.depth ≤ 7 → (p : Plan) (words : List ℕ) → Sees same hash s.memory (seat_of s t) key p words → Takes same hash s p picks → AllPoised (seats_after words p picks)
  sees key picks k p words (Sees.unfit e) u = all
  sees key picks k p words (Sees.reads e c n y l h g d) u = reads key n picks k y p d u
  sees key picks k p words (Sees.contracts e c n y l h g b) u =
      let i = (seat_of s t).path.depth - 1 in
      makes (Fixed (kept_node i (replaced y (chunk_at (hash key) i) (pair (seat_of s t).buried)))) Clean n (seat_of s t).verdict.outcome picks words (silent _ (λ q. true≢false (ap is_burying q)))
  sees key picks k p words (Sees.parts e c n y l h b d) u = leaves words picks p d
  sees key picks k p words (Sees.cleans e c l h d) u = leaves words picks p d
  sees key picks k p words _ u = walks _ refl

module _ {K : Type 0} (same : K → K → Bool) (hash : K → ℕ) {f : Figures} (s : State K) (w : Steady f s) (all : AllPoised s.table.seats) where
  kept : Preserves same hash (λ z. AllPoised z.table.seats) s
  kept =
      record {
        stays = all;
        opens = λ t ask key. walks same hash s all t _ refl;
        frees = λ t. walks same hash s all t idle_seat refl;
        turns = λ t key picks i p words. sees same hash s all t key picks (w.calls t i).1.short p words;
      }

  pub keeps_poised : (c : Call K) (r : Reply) (z : State K) → Does same hash s c r z → (t : ℕ) → is_idle (seat_of z t).phase ≡ false → Poised (seat_of z t)
  keeps_poised c r z d = does_by same hash (λ z. AllPoised z.table.seats) s kept c r z d
