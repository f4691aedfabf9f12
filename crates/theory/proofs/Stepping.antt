-- Every turn of an open seat is, on the state shown, a turn of the machine.
use Rattle.std.proofs.Common.{◌≡◌, ℕ, zero, suc, ◌-◌, ◌<◌, ◌≤◌, Bool, true, false, ◌⊎◌, List, [], ◌∷◌, length, get_or, set, Some, None, sym, refl, ap, ◌∙◌, subst, inl, inr, arith}
use mathlib.Core.Option.{none, some}
use Rattle.keys.specs.Laws.{KeyLaws}
use Rattle.keys.specs.Routes.{chunk_at}
use Rattle.std.specs.List.{slice_get}
use Rattle.std.proofs.lemmas.Bool.{true≢false, false≢true}
use Rattle.machine.specs.Machine.{Seat as Place, Op, get, climb, plain, Entry, idle, read, parent, word, main, view, face, IsTomb, value}
use Rattle.machine.specs.Tree.{stands, on, find}
use Rattle.machine.specs.Turn.{Turn, Goes, returns, again, swept, dropped as dropped_to}
use Rattle.mains.specs.Nodes.{branch_at}
use Rattle.mains.specs.declared.Branch.TheVariants.{Pair as pair, Cell as cell}
use Rattle.mains.specs.declared.Main.{Main}
use Rattle.mains.specs.declared.Main.TheVariants.{Node as node, Tomb as tomb, List as listing}
use Rattle.mains.specs.declared.Node.{Node}
use Rattle.mains.specs.declared.PairList.{PairList}
use Rattle.rules.specs.Edits.{first, rest}
use Rattle.rules.specs.Memory.{Memory, State, main_at, then}
use Rattle.rules.specs.Perform.{seated, worded}
use Rattle.rules.specs.Reached.{is_tomb}
use Rattle.rules.specs.Seats.{seat_of, idle_seat, is_idle, is_settled, is_put, is_cut, settled_seat, restarted, grown, dropped, at_tomb, moved}
use Rattle.rules.specs.Theorem.{StampedCall}
use Rattle.rules.specs.declared.Ask.{Ask}
use Rattle.rules.specs.declared.Ask.TheVariants.{Get, Put, Cut}
use Rattle.rules.specs.declared.Figures.{Figures}
use Rattle.rules.specs.declared.Outcome.{Outcome}
use Rattle.rules.specs.declared.Outcome.TheVariants.{Found, Absent}
use Rattle.rules.specs.declared.Phase.{Phase}
use Rattle.rules.specs.declared.Phase.TheVariants.{Read, Swap, Climb, Parent, Clean}
use Rattle.rules.specs.declared.Seat.{Seat}
use Rattle.theory.proofs.Finding.{lacks_find, has_find, cell_shown}
use Rattle.theory.proofs.Ground.{Ground}
use Rattle.theory.proofs.Holding.{in_seats as shown_in, seat_shown}
use Rattle.theory.proofs.Passing.{key_asked, key_calling, length_above, nearest, above_two}
use Rattle.theory.proofs.Reaching.{shows, named}
use Rattle.theory.proofs.Seating.{above, last_of, above_of, swapping, calling, shown_as, shown_seat, shown_state}
use Rattle.theory.proofs.ShownMemory.{shows_memory}
use Rattle.theory.proofs.Sights.{Holds, Lacks, Has, Unnamed}
use Rattle.theory.proofs.Steady.{in_limits_seats}
use Rattle.theory.proofs.Turning.{Moved, going_on, fixed_as, fixing, asked_plain, plain_swapping, gives_hoped, hopes_fit, path_more, dropped_on, dropped_out, returns_asked, again_asked}
use Rattle.theory.specs.Fed.{asked, result_of, fits}
use Rattle.theory.specs.Records.{Kept, is_up}
use Rattle.theory.specs.Shown.{shown_mem, shown_main}

-- Kinds of mains and branches are apart.
same_node : {a b : Node} → node a ≡ node b → a ≡ b
same_node e = cc

same_cell : {c d : ℕ} → Some (cell c) ≡ Some (cell d) → c ≡ d
same_cell e = cc

clash : {d : ℕ} → None ≡ Some (cell d) → ⊥
clash e = let z : ◌≡◌ {A = ℕ} 0 1 = cc in omega arith

other : {p d : ℕ} → Some (pair p) ≡ Some (cell d) → ⊥
other e = let z : ◌≡◌ {A = ℕ} 0 1 = cc in omega arith

not_tomb : {p : ℕ} {b : Node} → tomb p ≡ node b → ⊥
not_tomb e = let z : ◌≡◌ {A = ℕ} 0 1 = cc in omega arith

not_list : {l : PairList} {b : Node} → listing l ≡ node b → ⊥
not_list e = let z : ◌≡◌ {A = ℕ} 0 1 = cc in omega arith

module _ {K : Type 0} (same : K → K → Bool) (hash : K → ℕ) (laws : KeyLaws same hash) {f : Figures} {es : List (Entry K)} {s : State K} {xs : List (Place K)} (g : Ground same hash f es s xs)
    (t : ℕ) (k : K) (o : is_idle (seat_of s t).phase ≡ false) (keyed : slice_get s.memory.keys t ≡ Some k) (calls : List (StampedCall K)) where
  abbrev pub x : Seat
  x = seat_of s t

  abbrev pub kept : Kept (seat_of s t)
  kept = (g.steady.calls t o).1

  -- The state after a turn of the seat, with a memory and a record, and the calls that are stamped then.
  abbrev pub After : Memory K → Seat → List (StampedCall K) → Type 0
  After m y more = Moved same hash s (seated s m t y (suc s.table.ticks)) xs calls more

  -- The turn of the machine that leads to a memory and a seat, with the result that it fixes.
  abbrev pub Fixes : Ask → Outcome → Memory K → Place K → Type 0
  Fixes a r m z =
      Turn same hash chunk_at (shown_state s xs) (some (record { stamp = suc s.table.ticks; op = asked a k; result = result_of r }))
      (record { mem = shown_mem m; seats = set xs t z; ticks = suc s.table.ticks })

  -- The seat is one of the table's, and one of those shown.
  pub in_seats : t < length s.table.seats
  in_seats = let l = (g.steady.calls t o).0 in let n = in_limits_seats f g.steady.figures in let e = g.steady.seats in omega (arith, l, n, e)

  pub in_shown : t < length xs
  in_shown = shown_in same hash laws g t k o keyed

  -- The seat of the machine, by the phase.
  seat_is : (phase : Phase) → x.phase ≡ phase → get_or xs t idle ≡ shown_as phase x k
  seat_is = seat_shown same hash laws g t k o keyed

  -- What a cell holds shows in it.
  main_shown : (c n : ℕ) (y : Main) → Holds same hash s.memory c n y → main (shown_mem s.memory) (word (shown_mem s.memory) c) ≡ shown_main y
  main_shown c n y h = ap (main (shown_mem s.memory)) ((shows_memory K).word_at s.memory c n h.word) ∙ (shows_memory K).main_at_lem s.memory n y h.main

  view_shown : (c n : ℕ) (y : Main) → Holds same hash s.memory c n y → (q : ℕ) → view (shown_mem s.memory) c q ≡ face (shown_mem s.memory).pairs (shown_main y) q
  view_shown c n y h q = shows same hash s.memory c q y (ap (λ u. then u (main_at s.memory.mains)) h.word ∙ h.main)

  -- A record that goes on, with the memory as it was.
  goes : (y : Seat) (z : Place K) → is_idle y.phase ≡ false → z ≡ shown_seat y k → Goes same hash chunk_at (shown_mem s.memory) (get_or xs t idle) z → After s.memory y calls
  goes y z b e go =
      going_on same hash g.shows t k keyed in_seats in_shown s.memory refl y z (λ i. absurd (true≢false (sym i ∙ b))) (λ _. e)
      (Turn.goes t z (suc s.table.ticks) in_shown (omega arith) go)

  -- A seat that is freed, with the memory as it was.
  frees : (z : Place K) → z ≡ idle → Goes same hash chunk_at (shown_mem s.memory) (get_or xs t idle) z → After s.memory idle_seat calls
  frees z e go =
      going_on same hash g.shows t k keyed in_seats in_shown s.memory refl idle_seat z (λ _. e) (λ i. absurd (true≢false i))
      (Turn.goes t z (suc s.table.ticks) in_shown (omega arith) go)

  -- What a seat of the machine does, it does as the seat that shows the record.
  as_shown : (phase : Phase) → x.phase ≡ phase → (z : Place K) → Goes same hash chunk_at (shown_mem s.memory) (shown_as phase x k) z → Goes same hash chunk_at (shown_mem s.memory) (get_or xs t idle) z
  as_shown phase e z go = subst (λ (y : Place K). Goes same hash chunk_at (shown_mem s.memory) y z) (sym (seat_is phase e)) go

  -- READ

  -- The call is refused its places, or a list is full.
  pub quits : x.phase ≡ Read → After s.memory idle_seat calls
  quits e = frees idle refl (as_shown Read e idle (Goes.refused (asked x.ask k) (last_of x ∷ above_of x) (asked_plain x.ask k)))

  -- The chunk that the machine looks at is the key's at the last cell's index.
  last_chunk : chunk_at (hash k) (length (above_of x)) ≡ chunk_at (hash k) x.path.depth
  last_chunk = ap (chunk_at (hash k)) (length_above x.path.cells x.path.depth)

  read_is : (a : Ask) → x.phase ≡ Read → x.ask ≡ a → get_or xs t idle ≡ read (asked a k) (last_of x ∷ above_of x)
  read_is a e q = seat_is Read e ∙ ap (λ (b : Ask). read (asked b k) (last_of x ∷ above_of x)) q

  -- A read that finishes.
  ends : (a : Ask) → x.ask ≡ a → (at : ℕ) (r : Outcome) → fits a r ≡ true → Fixes a r s.memory idle → After s.memory idle_seat (fixed_as s t k at r ∷ calls)
  ends a q at r fit turn =
      fixing same hash g.shows t k keyed in_seats in_shown at r s.memory refl idle_seat idle (λ _. refl) (λ i. absurd (true≢false i))
      (ap (λ (b : Ask). fits b r) q ∙ fit) (subst (λ (b : Ask). Fixes b r s.memory idle) (sym q) turn)

  -- A get or a cut of a key that is not there.
  pub lacks : x.phase ≡ Read → (n : ℕ) (y : Main) → Holds same hash s.memory (last_of x) n y → is_put x.ask ≡ false → Lacks same hash s.memory k x.path.depth y → (at : ℕ)
      → After s.memory idle_seat (fixed_as s t k at Absent ∷ calls)
  lacks e n y h np lk at = by x.ask refl np
    where
      ps : (ps : List (K × ℕ)) × (face (shown_mem s.memory).pairs (shown_main y) (chunk_at (hash k) x.path.depth) ≡ stands ps) × (find same k ps ≡ none) × (IsTomb (shown_main y) → ⊥)
      ps = lacks_find same hash s.memory k x.path.depth y lk

      solid : IsTomb (main (shown_mem s.memory) (word (shown_mem s.memory) (last_of x))) → ⊥
      solid d = ps.3 (subst IsTomb (main_shown (last_of x) n y h) d)

      sees : view (shown_mem s.memory) (last_of x) (chunk_at (hash k) (length (above_of x))) ≡ stands ps.0
      sees = ap (view (shown_mem s.memory) (last_of x)) last_chunk ∙ (view_shown (last_of x) n y h (chunk_at (hash k) x.path.depth) ∙ ps.1)

      by : (a : Ask) → x.ask ≡ a → is_put a ≡ false → After s.memory idle_seat (fixed_as s t k at Absent ∷ calls)
      by Get q np =
          ends Get q at Absent refl
          (subst (λ u. Turn same hash chunk_at (shown_state s xs) (some (record { stamp = suc s.table.ticks; op = get k; result = value u })) (record { mem = shown_mem s.memory; seats = set xs t idle; ticks = suc s.table.ticks })) ps.2
          (Turn.got t k (last_of x) (above_of x) ps.0 in_shown (read_is Get e q) solid sees))
      by (Put v) q np = absurd (true≢false np)
      by Cut q np = ends Cut q at Absent refl (Turn.lacks t k (last_of x) (above_of x) ps.0 in_shown (read_is Cut e q) solid sees ps.2)

  -- A get of a key that is there.
  pub finds : x.phase ≡ Read → (n : ℕ) (y : Main) → Holds same hash s.memory (last_of x) n y → x.ask ≡ Get → (v : ℕ) → Has same hash s.memory k x.path.depth y v → (at : ℕ) → After s.memory idle_seat (fixed_as s t k at (Found v) ∷ calls)
  finds e n y h q v has at =
      let ps = has_find same hash s.memory k x.path.depth v y has in
      ends Get q at (Found v) refl
      (subst (λ u. Turn same hash chunk_at (shown_state s xs) (some (record { stamp = suc s.table.ticks; op = get k; result = value u })) (record { mem = shown_mem s.memory; seats = set xs t idle; ticks = suc s.table.ticks })) ps.2
      (Turn.got t k (last_of x) (above_of x) ps.0 in_shown (read_is Get e q) (λ d. ps.3 (subst IsTomb (main_shown (last_of x) n y h) d))
      (ap (view (shown_mem s.memory) (last_of x)) last_chunk ∙ (view_shown (last_of x) n y h (chunk_at (hash k) x.path.depth) ∙ ps.1))))

  -- The path grows by a cell.
  pub grows : x.phase ≡ Read → x.path.depth ≤ 6 → (n : ℕ) (y : Node) → Holds same hash s.memory (last_of x) n (node y) → (d : ℕ) → branch_at y (chunk_at (hash k) x.path.depth) ≡ Some (cell d) → After s.memory (grown x d) calls
  grows e low n y h d b =
      goes (grown x d) (read (asked x.ask k) (d ∷ last_of x ∷ above_of x)) refl
      (let eight = kept.slots in ap (read (asked x.ask k)) (sym (path_more x.path.cells x.path.depth d (omega (arith, low, eight)))))
      (as_shown Read e _
      (Goes.down (asked x.ask k) (last_of x) (above_of x) d (asked_plain x.ask k)
      (ap (λ (j : K). view (shown_mem s.memory) (last_of x) (chunk_at (hash j) (length (above_of x)))) (key_asked x.ask k)
      ∙ (ap (view (shown_mem s.memory) (last_of x)) last_chunk
      ∙ (view_shown (last_of x) n (node y) h (chunk_at (hash k) x.path.depth) ∙ cell_shown same hash s.memory k x.path.depth y d b)))))

  -- READ and CLIMB meet a tomb.
  pub entombs : (phase : Phase) → x.phase ≡ phase → (b : Bool) → is_settled x ≡ b → shown_as phase x k ≡ read (calling b x.ask k) (last_of x ∷ above_of x) → (n p : ℕ) → Holds same hash s.memory (last_of x) n (tomb p) → After s.memory (at_tomb x p) calls
  entombs phase e b u q n p h =
      goes (at_tomb x p) (parent (calling b x.ask k) p (last_of x) (above_of x)) refl (ap (λ (c : Bool). parent (calling c x.ask k) p (last_of x) (above_of x)) (sym u))
      (as_shown phase e _
      (subst (λ (z : Place K). Goes same hash chunk_at (shown_mem s.memory) z (parent (calling b x.ask k) p (last_of x) (above_of x))) (sym q)
      (Goes.meets (calling b x.ask k) p (last_of x) (above_of x) (main_shown (last_of x) n (tomb p) h))))

  -- SWAP

  -- A swap says no.
  pub loses : x.phase ≡ Swap → After s.memory (restarted x) calls
  loses e =
      goes (restarted x) (read (plain (swapping x.ask x.pending.adds x.verdict.outcome k)) (0 ∷ [])) refl
      (ap (λ (a : Op K). read a (0 ∷ [])) (plain_swapping x.ask x.pending.adds x.verdict.outcome k))
      (as_shown Swap e _ (Goes.loses _ (last_of x) (above_of x) x.pending.expected x.pending.made _ _))

  -- The memory after the swap of a cell for what is prepared.
  abbrev pub swapped : ℕ → Memory K
  swapped c = worded s.memory (set s.memory.words c x.pending.made)

  -- A swap says yes.
  swings : x.phase ≡ Swap → slice_get s.memory.words (last_of x) ≡ Some x.pending.expected → (at : ℕ) (y : Seat)
      → (is_idle y.phase ≡ true → swept (swapping x.ask x.pending.adds x.verdict.outcome k) (last_of x ∷ above_of x) ≡ idle)
      → (is_idle y.phase ≡ false → swept (swapping x.ask x.pending.adds x.verdict.outcome k) (last_of x ∷ above_of x) ≡ shown_seat y k)
      → After (swapped (last_of x)) y (fixed_as s t k at x.verdict.outcome ∷ calls)
  swings e h at y free busy =
      let hopes = (g.poised t o).hopes e in
      let op = swapping x.ask x.pending.adds x.verdict.outcome k in
      fixing same hash g.shows t k keyed in_seats in_shown at x.verdict.outcome (swapped (last_of x)) refl y (swept op (last_of x ∷ above_of x)) free busy (hopes_fit x.ask x.verdict.outcome hopes)
      (subst (λ (a : Op K). Turn same hash chunk_at (shown_state s xs) (some (record { stamp = suc s.table.ticks; op = a; result = result_of x.verdict.outcome })) (record { mem = shown_mem (swapped (last_of x)); seats = set xs t (swept op (last_of x ∷ above_of x)); ticks = suc s.table.ticks })) (plain_swapping x.ask x.pending.adds x.verdict.outcome k)
      (subst (λ r. Turn same hash chunk_at (shown_state s xs) (some (record { stamp = suc s.table.ticks; op = plain op; result = r })) (record { mem = shown_mem (swapped (last_of x)); seats = set xs t (swept op (last_of x ∷ above_of x)); ticks = suc s.table.ticks })) (gives_hoped x.ask x.pending.adds x.verdict.outcome k hopes)
      (Turn.swapped t op (last_of x) (above_of x) x.pending.expected x.pending.made _ _ in_shown (seat_is Swap e) ((shows_memory K).word_at s.memory (last_of x) x.pending.expected h))))

  -- A cut below the root climbs.
  pub settles : x.phase ≡ Swap → slice_get s.memory.words (last_of x) ≡ Some x.pending.expected → is_cut x.ask ≡ true → 1 ≤ x.path.depth → (at : ℕ)
      → After (swapped (last_of x)) (settled_seat x x.verdict.outcome (suc s.table.ticks)) (fixed_as s t k at x.verdict.outcome ∷ calls)
  settles e h c l at = swings e h at (settled_seat x x.verdict.outcome (suc s.table.ticks)) (λ i. absurd (false≢true i)) (λ _. by x.ask c x.path.depth l)
    where
      by : (a : Ask) → is_cut a ≡ true → (d : ℕ) → 1 ≤ d → swept (swapping a x.pending.adds x.verdict.outcome k) (last_of x ∷ above x.path.cells d) ≡ read (climb k) (last_of x ∷ above x.path.cells d)
      by Get c d l = absurd (false≢true c)
      by (Put v) c d l = absurd (false≢true c)
      by Cut c zero l = absurd (omega arith)
      by Cut c (suc d) l = refl

  -- Any other call finishes.
  pub finishes : x.phase ≡ Swap → slice_get s.memory.words (last_of x) ≡ Some x.pending.expected → (is_cut x.ask ≡ false) ⊎ (x.path.depth ≡ 0) → (at : ℕ)
      → After (swapped (last_of x)) idle_seat (fixed_as s t k at x.verdict.outcome ∷ calls)
  finishes e h c at = swings e h at idle_seat (λ _. by x.ask x.pending.adds x.path.depth c) (λ i. absurd (true≢false i))
    where
      by : (a : Ask) (b : Bool) (d : ℕ) → (is_cut a ≡ false) ⊎ (d ≡ 0) → swept (swapping a b x.verdict.outcome k) (last_of x ∷ above x.path.cells d) ≡ idle
      by Get b d c = refl
      by (Put v) true d c = refl
      by (Put v) false d c = refl
      by Cut b d (inl c) = absurd (true≢false c)
      by Cut b zero (inr c) = refl
      by Cut b (suc d) (inr c) = absurd (omega arith)

  -- CLIMB

  -- The last cell holds no tomb.
  climbs : x.phase ≡ Climb → (n : ℕ) (y : Main) → Holds same hash s.memory (last_of x) n y → is_tomb y ≡ false → Goes same hash chunk_at (shown_mem s.memory) (get_or xs t idle) (dropped_to k (above_of x))
  climbs e n y h u = as_shown Climb e _ (Goes.leaves k (last_of x) (above_of x) (λ d. by y u (subst IsTomb (main_shown (last_of x) n y h) d)))
    where
      by : (y : Main) → is_tomb y ≡ false → IsTomb (shown_main y) → ⊥
      by (node n) u d = d
      by (tomb p) u d = true≢false u
      by (listing l) u d = d

  pub climbs_out : x.phase ≡ Climb → (n : ℕ) (y : Main) → Holds same hash s.memory (last_of x) n y → is_tomb y ≡ false → x.path.depth ≤ 1 → After s.memory idle_seat calls
  climbs_out e n y h u l = frees (dropped_to k (above_of x)) (dropped_out same hash x k l) (climbs e n y h u)

  pub climbs_on : x.phase ≡ Climb → (n : ℕ) (y : Main) → Holds same hash s.memory (last_of x) n y → is_tomb y ≡ false → 2 ≤ x.path.depth → After s.memory (dropped x) calls
  climbs_on e n y h u l = goes (dropped x) (dropped_to k (above_of x)) refl (dropped_on same hash x k l) (climbs e n y h u)

  -- PARENT AND CLEAN

  -- A seat that looks at the cell above its last one has one.
  up : is_up x.phase ≡ true → 1 ≤ x.path.depth
  up = kept.above

  -- That cell, and its index.
  pub first_above : 1 ≤ x.path.depth → get_or x.path.cells (x.path.depth - 1) 0 ≡ first (above_of x)
  first_above l = sym (ap first (above_two x.path.cells x.path.depth l))

  rest_long : 1 ≤ x.path.depth → length (rest (above_of x)) ≡ x.path.depth - 1
  rest_long l = ap (λ (cs : List ℕ). length (rest cs)) (above_two x.path.cells x.path.depth l) ∙ length_above x.path.cells (x.path.depth - 1)

  -- The seat with its cell above told apart.
  parent_is : x.phase ≡ Parent → 1 ≤ x.path.depth → get_or xs t idle ≡ parent (calling (is_settled x) x.ask k) x.buried (last_of x) (first (above_of x) ∷ rest (above_of x))
  parent_is e l = seat_is Parent e ∙ ap (parent (calling (is_settled x) x.ask k) x.buried (last_of x)) (nearest x.path.cells x.path.depth l)

  -- The cell above does not name the last one, so it does not show it.
  unnamed : (c n : ℕ) (y : Main) → Holds same hash s.memory c n y → Unnamed same hash k (x.path.depth - 1) (last_of x) y → view (shown_mem s.memory) c (chunk_at (hash k) (x.path.depth - 1)) ≡ on (last_of x) → ⊥
  unnamed c n y h u v = let z = named same hash s.memory y (chunk_at (hash k) (x.path.depth - 1)) (last_of x) (sym (view_shown c n y h (chunk_at (hash k) (x.path.depth - 1))) ∙ v) in by y u z.0 z.1 z.2
    where
      by : (y : Main) → Unnamed same hash k (x.path.depth - 1) (last_of x) y → (b : Node) → y ≡ node b → branch_at b (chunk_at (hash k) (x.path.depth - 1)) ≡ Some (cell (last_of x)) → ⊥
      by y (Unnamed.bare m q) b e r = clash (sym q ∙ (ap (λ (a : Node). branch_at a (chunk_at (hash k) (x.path.depth - 1))) (same_node e) ∙ r))
      by y (Unnamed.paired m p q) b e r = other (sym q ∙ (ap (λ (a : Node). branch_at a (chunk_at (hash k) (x.path.depth - 1))) (same_node e) ∙ r))
      by y (Unnamed.other m d q ne) b e r = ne (same_cell (sym q ∙ (ap (λ (a : Node). branch_at a (chunk_at (hash k) (x.path.depth - 1))) (same_node e) ∙ r)))
      by y (Unnamed.tombed p) b e r = not_tomb e
      by y (Unnamed.lists l) b e r = not_list e

  -- The seat of the machine after the last cell is left.
  abbrev pub leaving : Place K
  leaving = returns (calling (is_settled x) x.ask k) (first (above_of x) ∷ rest (above_of x))

  abbrev pub Left : Memory K → Type 0
  Left m = Turn same hash chunk_at (shown_state s xs) none (record { mem = shown_mem m; seats = set xs t leaving; ticks = suc s.table.ticks })

  pub parted : x.phase ≡ Parent → (c n : ℕ) (y : Main) → c ≡ first (above_of x) → Holds same hash s.memory c n y → Unnamed same hash k (x.path.depth - 1) (last_of x) y → Left s.memory
  parted e c n y q h u =
      let l = up (ap is_up e) in
      Turn.goes t leaving (suc s.table.ticks) in_shown (omega arith)
      (subst (λ (z : Place K). Goes same hash chunk_at (shown_mem s.memory) z leaving) (sym (parent_is e l))
      (Goes.parted (calling (is_settled x) x.ask k) x.buried (last_of x) (first (above_of x)) (rest (above_of x))
      (λ v. unnamed c n y h u
      (ap (λ (d : ℕ). view (shown_mem s.memory) d (chunk_at (hash k) (x.path.depth - 1))) q
      ∙ (ap (λ (i : ℕ). view (shown_mem s.memory) (first (above_of x)) (chunk_at (hash k) i)) (sym (rest_long l))
      ∙ (ap (λ (j : K). view (shown_mem s.memory) (first (above_of x)) (chunk_at (hash j) (length (rest (above_of x))))) (sym (key_calling (is_settled x) x.ask k)) ∙ v))))))

  -- A cleaning swap says yes.
  pub cleaned : x.phase ≡ Clean → (c : ℕ) → c ≡ first (above_of x) → slice_get s.memory.words c ≡ Some x.pending.expected → Left (swapped c)
  cleaned e c q h =
      subst (λ (d : ℕ). Left (swapped d)) (sym q)
      (Turn.cleaned t (calling (is_settled x) x.ask k) x.buried (last_of x) (first (above_of x)) (rest (above_of x)) x.pending.expected x.pending.made in_shown (seat_is Clean e)
      ((shows_memory K).word_at s.memory (first (above_of x)) x.pending.expected (ap (slice_get s.memory.words) (sym q) ∙ h)))

  -- What the call does then.
  module _ (m : Memory K) (keys : m.keys ≡ s.memory.keys) (l : 1 ≤ x.path.depth) (turn : Left m) where
    settled_leaves : is_settled x ≡ true → leaving ≡ dropped_to k (above_of x)
    settled_leaves u =
        ap (λ (b : Bool). returns (calling b x.ask k) (first (above_of x) ∷ rest (above_of x))) u ∙ ap (dropped_to k) (sym (nearest x.path.cells x.path.depth l))

    pub leaves_out : is_settled x ≡ true → x.path.depth ≤ 1 → After m idle_seat calls
    leaves_out u d =
        going_on same hash g.shows t k keyed in_seats in_shown m keys idle_seat leaving (λ _. settled_leaves u ∙ dropped_out same hash x k d) (λ i. absurd (true≢false i)) turn

    pub leaves_on : is_settled x ≡ true → 2 ≤ x.path.depth → After m (dropped x) calls
    leaves_on u d =
        going_on same hash g.shows t k keyed in_seats in_shown m keys (dropped x) leaving (λ i. absurd (false≢true i)) (λ _. settled_leaves u ∙ dropped_on same hash x k d) turn

    pub leaves_back : is_settled x ≡ false → After m (restarted x) calls
    leaves_back u =
        going_on same hash g.shows t k keyed in_seats in_shown m keys (restarted x) leaving (λ i. absurd (false≢true i))
        (λ _. ap (λ (b : Bool). returns (calling b x.ask k) (first (above_of x) ∷ rest (above_of x))) u ∙ returns_asked same hash x.ask k (first (above_of x) ∷ rest (above_of x))) turn

  -- A cleaning swap says no.
  failing : x.phase ≡ Clean → Goes same hash chunk_at (shown_mem s.memory) (get_or xs t idle) (again (calling (is_settled x) x.ask k) x.buried (last_of x) (first (above_of x) ∷ rest (above_of x)))
  failing e = as_shown Clean e _ (Goes.fails (calling (is_settled x) x.ask k) x.buried (last_of x) (first (above_of x)) (rest (above_of x)) x.pending.expected x.pending.made)

  pub misses : x.phase ≡ Clean → is_settled x ≡ true → After s.memory (moved x Parent x.path) calls
  misses e u =
      let l = up (ap is_up e) in
      goes (moved x Parent x.path) _ refl
      (ap (λ (b : Bool). again (calling b x.ask k) x.buried (last_of x) (first (above_of x) ∷ rest (above_of x))) u
      ∙ (ap (parent (climb k) x.buried (last_of x)) (sym (nearest x.path.cells x.path.depth l))
      ∙ ap (λ (b : Bool). parent (calling b x.ask k) x.buried (last_of x) (above_of x)) (sym u))) (failing e)

  pub gives_up_lem : x.phase ≡ Clean → is_settled x ≡ false → After s.memory (restarted x) calls
  gives_up_lem e u =
      goes (restarted x) _ refl
      (ap (λ (b : Bool). again (calling b x.ask k) x.buried (last_of x) (first (above_of x) ∷ rest (above_of x))) u
      ∙ again_asked same hash x.ask k x.buried (last_of x) (first (above_of x) ∷ rest (above_of x))) (failing e)
