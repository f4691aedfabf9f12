-- The pairs reached are those of the plain map, and at rest the trie is compact.
use Rattle.std.proofs.Common.{◌≡◌, ℕ, ◌≤◌, Bool, true, false, List, length, Some, sym, refl, ap, ◌∙◌, subst, mod-eq_of_lt, arith}
use mathlib.Core.List.{Memᴰ}
use Rattle.keys.specs.Laws.{KeyLaws}
use Rattle.keys.proofs.Chunks.{prefix_by_chunks}
use Rattle.keys.specs.Routes.{chunk_at, prefix_at}
use Rattle.std.specs.List.{slice_get}
use Rattle.std.proofs.lemmas.Bool.{both_ways}
use Rattle.std.proofs.lemmas.Option.{same_Some}
use Rattle.machine.proofs.AtRest.{at_rest}
use Rattle.machine.proofs.Chunk.{chunks}
use Rattle.machine.proofs.Laws.{laws_of, is_true, holds}
use Rattle.machine.specs.AtRest.{Rested}
use Rattle.machine.specs.Machine.{Entry, Seat as Place, IsTomb, word, main, view}
use Rattle.machine.specs.Rest.{Held, Shared}
use Rattle.machine.specs.Tree.{Agree}
use Rattle.machine.specs.Turn.{Turns}
use Rattle.rules.proofs.Counting.{counted}
use Rattle.rules.proofs.Following.{followed}
use Rattle.rules.proofs.Naming.{sound_in_lem}
use Rattle.rules.specs.Memory.{State}
use Rattle.rules.specs.Reached.{ReachedPair, ReachedTomb, StandsFor, HowMany}
use Rattle.rules.specs.Theorem.{StampedCall, fed, Holds, SharedBy, Compact, AtRest}
use Rattle.rules.specs.declared.Figures.{Figures}
use Rattle.rules.specs.declared.Pair.{Pair}
use Rattle.theory.proofs.Feeding.{feeds_pair}
use Rattle.theory.proofs.Faces.{at_named, names_shown, shown_names}
use Rattle.theory.proofs.Ground.{Ground}
use Rattle.theory.proofs.Homes.{shows_at, answered, found, one_home}
use Rattle.theory.proofs.Lengths.{tells}
use Rattle.theory.proofs.Matching.{Beside, placed, as_many, of_place, of_held, once_placed}
use Rattle.theory.proofs.Placing.{main_shown, reaches, reached, pair_there, home}
use Rattle.theory.proofs.Reaching.{shows_reach}
use Rattle.theory.proofs.Seating.{shown_state}
use Rattle.theory.proofs.ShownMemory.{shows_memory}
use Rattle.theory.proofs.Using.{intact, reached_leads}
use Rattle.theory.specs.Fed.{entries_of}
use Rattle.theory.specs.Shown.{shown_mem}

module _ {K : Type 0} (same : K → K → Bool) (hash : K → ℕ) (laws : KeyLaws same hash) where
  module _ {f : Figures} {s : State K} {xs : List (Place K)} where
    -- The pairs reached are the map's.
    pub told : (calls : List (StampedCall K)) → Ground same hash f (entries_of calls) s xs → Holds same hash s.memory (fed same calls)
    told calls g = record { only = only; all = all; once = once; many = many; counted = (tells same hash s.memory (counted same hash s.memory)).pairs (length (fed same calls)) many }
      where
        -- The pair y lies at the reached place p.
        Lies : ℕ → Pair K → Type 0
        Lies p y = ReachedPair same hash s.memory p × (slice_get s.memory.pairs p ≡ Some y)

        -- A pair is known by what shows of it.
        shown_is : {y z : Pair K} → ◌≡◌ {A = K × ℕ} (z.key, z.value) (y.key, y.value) → y ≡ z
        shown_is e = sym (ap (λ (x : K × ℕ). record { key = x.0; value = x.1 }) e)

        only : (p : ℕ) (y : Pair K) → ReachedPair same hash s.memory p → slice_get s.memory.pairs p ≡ Some y → Memᴰ y (fed same calls)
        only p y r e =
            let l = answered same hash chunk_at (laws_of same hash laws) (shown_mem s.memory) g.inv.shape g.lawful.ruled p (y.key, y.value) (home same hash laws g p y r e) in
            let z = (feeds_pair same hash laws).said_pairs calls y.key (y.key, y.value) (g.inv.log.held y.key ∙ l) in
            subst (λ (u : Pair K). Memᴰ u (fed same calls)) (sym (shown_is {y = y} {z = z.pair} z.shown)) z.inside

        all : (y : Pair K) → Memᴰ y (fed same calls) → (p : ℕ) × ReachedPair same hash s.memory p × (slice_get s.memory.pairs p ≡ Some y)
        all y m =
            let z = found same hash chunk_at (laws_of same hash laws) (shown_mem s.memory) g.inv.shape g.lawful.ruled y.key (y.key, y.value)
            (sym (g.inv.log.held y.key) ∙ (feeds_pair same hash laws).pairs_said calls y m) in
            let w = (shows_memory K).pair_from s.memory z.0 (y.key, y.value) z.1.holds in
            (z.0, reached same hash laws g z.0 (hash y.key, z.1.index, z.1.cell, z.1.led, at_named _ _ z.0 z.1.named), w.1 ∙ ap Some (shown_is {y = w.0} {z = y} w.2))

        once : (p q : ℕ) (y z : Pair K) → ReachedPair same hash s.memory p → ReachedPair same hash s.memory q → slice_get s.memory.pairs p ≡ Some y → slice_get s.memory.pairs q ≡ Some z
            → same y.key z.key ≡ true → p ≡ q
        once p q y z r u d e t =
            one_home same hash chunk_at (laws_of same hash laws) (shown_mem s.memory) g.inv.shape g.lawful.ruled p q (y.key, y.value) (z.key, z.value)
            (home same hash laws g p y r d) (home same hash laws g q z u e) (holds (same y.key z.key) t)

        list : (ps : List ℕ) × Beside Lies ps (fed same calls)
        list = placed Lies (fed same calls) (λ y m. let a = all y m in (a.0, (a.1, a.2)))

        -- What lies at a reached place is the map's, and its place in the list is that place.
        listed_at_lem : (p : ℕ) → ReachedPair same hash s.memory p → Memᴰ p list.0
        listed_at_lem p r =
            let y = pair_there same hash laws g p (reaches same hash laws g p r) in
            let q = of_held Lies list.0 (fed same calls) list.1 y.0 (only p y.0 r y.1) in
            subst (λ (n : ℕ). Memᴰ n list.0) (once q.0 p y.0 y.0 q.2.0 r q.2.1 y.1 (laws.reflexive y.0.key)) q.1

        many : HowMany (ReachedPair same hash s.memory) (length (fed same calls))
        many =
            record {
              them = list.0;
              once = once_placed same hash laws Lies (λ p y z a b. same_Some y z (sym a.1 ∙ b.1)) list.0 (fed same calls) list.1 ((feeds_pair same hash laws).unlike calls);
              only = λ p m. (of_place Lies list.0 (fed same calls) list.1 p m).2.0;
              all = listed_at_lem;
              many = as_many Lies list.0 (fed same calls) list.1;
            }

    -- A pair that the machine holds is one that is reached.
    held_pair : {es : List (Entry K)} → Ground same hash f es s xs → (x : K × ℕ) → Held chunk_at (view (shown_mem s.memory)) x
        → (p : ℕ) × (y : Pair K) × ReachedPair same hash s.memory p × (slice_get s.memory.pairs p ≡ Some y) × (x ≡ (y.key, y.value))
    held_pair g x h =
        let m = shown_mem s.memory in
        let n = shown_names m.pairs (main m (word m h.cell)) h.place h.all x (sym (shows_at m h.cell h.place) ∙ h.shows) h.among in
        let w = (shows_memory K).pair_from s.memory n.0 x n.2 in
        (n.0, w.0, reached same hash laws g n.0 (h.along, h.index, h.cell, h.reached, at_named (main m (word m h.cell)) h.place n.0 n.1), w.1, w.2)

    pair_held : {es : List (Entry K)} → Ground same hash f es s xs → (p : ℕ) (y : Pair K) → ReachedPair same hash s.memory p → slice_get s.memory.pairs p ≡ Some y
        → Held chunk_at (view (shown_mem s.memory)) (y.key, y.value)
    pair_held g p y r e =
        let m = shown_mem s.memory in
        let a = home same hash laws g p y r e in
        let n = names_shown m.pairs (main m (word m a.cell)) (chunk_at (hash y.key) a.index) p (y.key, y.value) a.named a.holds in
        record {
          along = hash y.key;
          index = a.index;
          cell = a.cell;
          place = chunk_at (hash y.key) a.index;
          all = n.0;
          reached = a.led;
          shows = shows_at m a.cell (chunk_at (hash y.key) a.index) ∙ n.1;
          among = n.2;
        }

    -- Two different pairs of the machine share a prefix as two of the rules do.
    shared_by : {es : List (Entry K)} → Ground same hash f es s xs → (h index prefix : ℕ) → prefix_at h index ≡ prefix → Shared same hash chunk_at (view (shown_mem s.memory)) h index → SharedBy same hash s.memory index prefix
    shared_by g h index prefix e z =
        let a = held_pair g z.x z.x_held in
        let b = held_pair g z.y z.y_held in
        record {
          p = a.0;
          q = b.0;
          one = a.1;
          other = b.1;
          p_reached = a.2;
          q_reached = b.2;
          p_holds = a.3;
          q_holds = b.3;
          different = ap (λ (x : K × ℕ). same x.0 b.1.key) (sym a.4) ∙ ap (λ (x : K × ℕ). same z.x.0 x.0) (sym b.4) ∙ (grind arith);
          p_has = has z.x a.1 a.4 z.x_agrees;
          q_has = has z.y b.1 b.4 z.y_agrees;
        }
      where
        has : (x : K × ℕ) (y : Pair K) → x ≡ (y.key, y.value) → Agree chunk_at (hash x.0) h index → prefix_at (hash y.key) index ≡ prefix
        has x y d c = ap (λ (x : K × ℕ). prefix_at (hash x.0) index) (sym d) ∙ (prefix_by_chunks (hash x.0) h index).shared (λ i _ l. c i l) ∙ e

    by_shared : {es : List (Entry K)} → Ground same hash f es s xs → (index prefix : ℕ) (z : SharedBy same hash s.memory index prefix) → Shared same hash chunk_at (view (shown_mem s.memory)) (hash z.one.key) index
    by_shared g index prefix z =
        record {
          x = (z.one.key, z.one.value);
          y = (z.other.key, z.other.value);
          differ = λ t. both_ways (same z.one.key z.other.key) z.different (is_true (same z.one.key z.other.key) t);
          x_held = pair_held g z.p z.one z.p_reached z.p_holds;
          y_held = pair_held g z.q z.other z.q_reached z.q_holds;
          x_agrees = λ j l. refl;
          y_agrees = λ j l. (prefix_by_chunks (hash z.other.key) (hash z.one.key) index).chunks (z.q_has ∙ sym z.p_has) j (omega arith) l;
        }

    -- With no call open and none withdrawn the trie is compact.
    pub rested : (es : List (Entry K)) → Ground same hash f es s xs → Turns same hash chunk_at false es (shown_state s xs) → AtRest s → Compact same hash s.memory
    rested es g run rest = record { no_tomb = no_tomb; shared = shared; stands = stands }
      where
        done : Rested same hash chunk_at (shown_state s xs)
        done = at_rest same hash chunk_at (laws_of same hash laws) chunks es (shown_state s xs) run (λ t. g.shows.idles t (rest t))

        no_tomb : (n : ℕ) → ReachedTomb same hash s.memory n → ⊥
        no_tomb n r =
            let l = reached_leads same hash laws g r.index r.cell r.at in
            let e = main_shown s.memory r.cell r.main (sound_in_lem same hash s.memory r.index r.cell r.main r.keeps).0 in
            done.no_tombs l.0 r.index r.cell l.1 (subst IsTomb (sym e) (grind arith))

        shared : (index prefix c : ℕ) → 1 ≤ index → index ≤ 7 → StandsFor same hash s.memory index prefix c → SharedBy same hash s.memory index prefix
        shared index prefix c l u z =
            let w = (followed same hash s.memory).leads index prefix c z in
            shared_by g prefix index prefix (mod-eq_of_lt w.0) ((done.compact prefix index l u).0 (c, (shows_reach same hash s.memory).leads prefix index c w.1))

        stands : (index prefix : ℕ) → 1 ≤ index → index ≤ 7 → SharedBy same hash s.memory index prefix → (c : ℕ) × StandsFor same hash s.memory index prefix c
        stands index prefix l u z =
            let h = hash z.one.key in
            let w = (done.compact h index l u).1 (by_shared g index prefix z) in
            let v = (shows_reach same hash s.memory).back (intact same hash laws g) h index w.0 w.1 in
            (w.0, subst (λ (n : ℕ). StandsFor same hash s.memory index n w.0) z.p_has ((followed same hash s.memory).stands index h w.0 v))
