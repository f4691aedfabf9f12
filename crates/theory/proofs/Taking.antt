-- A preparation in places that are not in use leaves what is in use as it was, and is a turn of the machine.
use Rattle.std.proofs.Common.{◌≡◌, ℕ, suc, ◌-◌, ◌≤◌, Bool, true, false, List, ◌∷◌, length, get_or, take, set, Some, sym, ap, ◌∙◌, subst, arith}
use mathlib.Core.List.{Memᴰ}
use mathlib.Core.Option.{Option as Maybe, none, some}
use Rattle.keys.specs.Laws.{KeyLaws}
use Rattle.keys.specs.Routes.{chunk_at}
use Rattle.std.specs.List.{slice_get}
use Rattle.machine.specs.Machine.{Entry, Main as Shape, Op, Seat as Place, State as Machine, word, main as main_of, key, read, swap, parent, clean, Alike, Fresh, Prepares, Cleans}
use Rattle.machine.specs.Machine.{MainInUse as UsedMain, PairInUse as UsedPair}
use Rattle.machine.specs.Tree.{nth as placed}
use Rattle.machine.specs.Turn.{Turn}
use Rattle.mains.specs.Nodes.{branch_at, replaced}
use Rattle.mains.specs.declared.Branch.TheVariants.{Pair as pair, Cell as cell}
use Rattle.mains.specs.declared.Main.{Main}
use Rattle.mains.specs.declared.Main.TheVariants.{Node as node}
use Rattle.mains.specs.declared.Node.{Node}
use Rattle.rules.specs.Edits.{Link, edited, kept_node, adds_pair, places, first, rest}
use Rattle.rules.specs.Memory.{Memory, State}
use Rattle.rules.specs.Perform.{Picks, Picked, enough, chain_in, made_memory, pending_for, value_of}
use Rattle.rules.specs.Seats.{seat_of, is_idle, is_settled, hoping, prepared, chain_of}
use Rattle.rules.specs.Sound.{sound}
use Rattle.rules.specs.declared.Ask.{Ask}
use Rattle.rules.specs.declared.Ask.TheVariants.{Put}
use Rattle.rules.specs.declared.Edit.{Edit}
use Rattle.rules.specs.declared.Edit.TheVariants.{Fixed}
use Rattle.rules.specs.declared.Figures.{Figures}
use Rattle.rules.specs.declared.NewCell.{NewCell}
use Rattle.rules.specs.declared.Outcome.{Outcome}
use Rattle.rules.specs.declared.Phase.TheVariants.{Read, Swap, Parent, Clean}
use Rattle.rules.specs.declared.Seat.{Seat}
use Rattle.theory.proofs.Chained.{cell_of, number_of, news_link, news_once, length_places, chain_held}
use Rattle.theory.proofs.Drafting.{contracted}
use Rattle.theory.proofs.Ground.{Ground}
use Rattle.theory.proofs.Holding.{in_seats, seat_shown, held_fine, word_shown, main_shown, names_used}
use Rattle.theory.proofs.Passing.{length_above, above_two, key_calling}
use Rattle.theory.proofs.Likeness.{word_alike, main_alike, pair_alike}
use Rattle.theory.proofs.Made.{cells_taken, rest_taken, main_taken, pair_taken, cells_of_chain, link_cell, link_number, cells_once, word_else, main_else, pair_else, main_made, pair_made, link_word, link_main_lem}
use Rattle.theory.proofs.Preparing.{Says, says, node_low, prepares}
use Rattle.theory.proofs.Seating.{shown_state, shown_seat, last_of, above, above_of, calling, swapping, made_pair, news}
use Rattle.theory.proofs.ShownMemory.{shows_memory}
use Rattle.theory.proofs.Sights.{Drafts, Holds}
use Rattle.theory.proofs.Steady.{cells_size}
use Rattle.theory.proofs.Using.{cell_used, main_used, pair_used}
use Rattle.theory.specs.Records.{is_up}
use Rattle.theory.specs.Shown.{shown_main, shown_mem}

-- A claim is carried along three equations.
carried : {A B C : Type 0} (P : A → B → C → Type 0) {a d : A} {b e : B} {c f : C} → a ≡ d → b ≡ e → c ≡ f → P a b c → P d e f
carried P {a} {d} {b} {e} {c} {f} x y z u = subst (λ (v : _). P v e f) x (subst (λ (v : _). P a v f) y (subst (λ (v : _). P a b v) z u))

-- Only a put has made a pair.
made_pair_lem : (ask : Ask) (p q : ℕ) → made_pair ask p ≡ some q → (v : ℕ) × (ask ≡ Put v) × (p ≡ q)
made_pair_lem ask p q e = grind arith

module _ {K : Type 0} (same : K → K → Bool) (hash : K → ℕ) (laws : KeyLaws same hash) {f : Figures} {es : List (Entry K)} {s : State K} {xs : List (Place K)} (g : Ground same hash f es s xs)
    (t : ℕ) (k : K) (o : is_idle (seat_of s t).phase ≡ false) (keyed : slice_get s.memory.keys t ≡ Some k) (edit : Edit) (picks : Picks) (picked : Picked same hash s edit picks) (room : enough edit picks ≡ true) where
  -- The seat, its depth and last cell, the memory made, the number of the main made, that main, and the chain of new cells.
  abbrev x₀ : Seat
  x₀ = seat_of s t

  abbrev a₀ : ℕ
  a₀ = (seat_of s t).path.depth

  abbrev d₀ : ℕ
  d₀ = last_of (seat_of s t)

  abbrev m₀ : Memory K
  m₀ = made_memory s t edit picks

  abbrev n₀ : ℕ
  n₀ = first picks.mains

  abbrev y₀ : Main
  y₀ = edited edit (first picks.pairs) (first picks.cells)

  abbrev ks₀ : List NewCell
  ks₀ = places (chain_in edit picks)

  -- WHAT IS TAKEN WAS NOT IN USE

  -- What is in use is as it was.
  pub taken_alike : Alike chunk_at (shown_state s xs) (shown_mem (made_memory s t edit picks))
  taken_alike =
      record {
        as_many = cells_size s.memory.words (chain_in edit picks);
        words = λ c u. word_alike s.memory m₀ c (word_else same hash t picked room c (λ m. (picked.cells.free c m).1 (cell_used same hash laws g c u)));
        mains = λ n u. main_alike s.memory m₀ n (main_else same hash t picked room n (λ m. (picked.mains.free n m).1 (main_used same hash laws g n u)));
        pairs = λ p u. pair_alike s.memory m₀ p (pair_else same hash t picked room p (λ m. (picked.pairs.free p m).1 (pair_used same hash laws g p u)));
      }

  -- The new cells hold their mains, and were not in use.
  fresh : Fresh same hash chunk_at (shown_state s xs) (shown_mem m₀) (news ks₀)
  fresh =
      record {
        holds = λ u d n e. let r = link u d n e in
            ap (λ (c : ℕ). word (shown_mem m₀) c) (sym r.2) ∙ (shows_memory K).word_at m₀ (cell_of r.0) (number_of r.0) (link_word same hash t picked room r.0 r.1) ∙ r.3;
        inside = λ u d n e. let l = (picked.cells.free d (in_cells u d n e)).0 in let m = cells_size s.memory.words (chain_in edit picks) in omega (arith, l, m);
        cells = λ u d n e i. (picked.cells.free d (in_cells u d n e)).1 (cell_used same hash laws g d i);
        mains = λ u d n e i. (picked.mains.free n (in_mains u d n e)).1 (main_used same hash laws g n i);
        once = λ u v d n x e h. news_once (chain_in edit picks) u v d n x (cells_once same hash t picked room) e h;
      }
    where
      link : (u d n : ℕ) → placed (news ks₀) u ≡ some (d, n) → (i : Link) × Memᴰ i (chain_in edit picks) × (cell_of i ≡ d) × (number_of i ≡ n)
      link u d n e = news_link (chain_in edit picks) u d n e

      in_cells : (u d n : ℕ) → placed (news ks₀) u ≡ some (d, n) → Memᴰ d picks.cells
      in_cells u d n e = let r = link u d n e in subst (λ (c : ℕ). Memᴰ c picks.cells) r.2 (link_cell same hash t picked room r.0 r.1)

      in_mains : (u d n : ℕ) → placed (news ks₀) u ≡ some (d, n) → Memᴰ n picks.mains
      in_mains u d n e = let r = link u d n e in subst (λ (c : ℕ). Memᴰ c picks.mains) r.3 (link_number same hash t picked room r.0 r.1)

  main_free : UsedMain chunk_at (shown_state s xs) n₀ → ⊥
  main_free u = (picked.mains.free n₀ (main_taken same hash t picked room)).1 (main_used same hash laws g n₀ u)

  made_shown : main_of (shown_mem m₀) n₀ ≡ shown_main y₀
  made_shown = (shows_memory K).main_at_lem m₀ n₀ y₀ (main_made same hash t picked room)

  -- A TURN OF READ

  module _ (n : ℕ) (y : Main) (r : Outcome) (h : Holds same hash s.memory d₀ n y) (sd : sound same hash s.memory.pairs a₀ y ≡ true) (d : Drafts same hash s.memory k a₀ x₀.ask y edit r) where
    -- The call, and the pair that it has made.
    abbrev call : Op K
    call = swapping x₀.ask (adds_pair edit) r k

    abbrev own : Maybe ℕ
    own = made_pair x₀.ask (first picks.pairs)

    here : a₀ ≤ a₀
    here = omega arith

    said : Says same hash laws k x₀.ask y edit r
    said = says same hash laws d sd

    pair_free : (p : ℕ) → own ≡ some p → UsedPair chunk_at (shown_state s xs) p → ⊥
    pair_free p q u =
        let a = made_pair_lem x₀.ask (first picks.pairs) p q in
        (picked.pairs.free p (subst (λ (v : ℕ). Memᴰ v picks.pairs) a.2 (pair_taken same hash t picked room (said.makes a.0 a.1)))).1 (pair_used same hash laws g p u)

    -- The record keeps all new cells: there are at most seven.
    chain_kept : take (length ks₀) (chain_of ks₀) ≡ ks₀
    chain_kept =
        let e = length_places (chain_in edit picks) ∙ ap length (cells_of_chain same hash t picked room) ∙ cells_taken same hash t picked room in
        let l = said.short in
        chain_held ks₀ (omega (arith, e, l))

    -- The pairs that the main names are in use and stay, so what was drafted is what the machine prepares.
    drafts : Prepares same hash chunk_at (shown_mem m₀) (shown_main y) a₀ call (shown_main y₀) own (news ks₀)
    drafts =
        prepares same hash laws m₀ g.written.cells picks d (held_fine same hash laws g t k o keyed a₀ here n y h) sd
        (λ p b. pair_else same hash t picked room p (λ m. (picked.pairs.free p m).1 (names_used same hash laws g t k o keyed a₀ here n y h said.alive p b)))
        (λ v q. pair_made same hash t picked room k (said.makes v q) keyed ∙ ap (λ (a : Ask). Some (record { key = k; value = value_of a })) q)
        (cells_taken same hash t picked room) (rest_taken same hash t picked room) (link_main_lem same hash t picked room)

    -- The state after it, with the main expected and the new cells.
    abbrev swaps : ℕ → List (ℕ × ℕ) → Machine K
    swaps w new = record { mem = shown_mem m₀; seats = set xs t (swap call d₀ (above_of x₀) w n₀ own new); ticks = suc s.table.ticks }

    turn_drafts : x₀.phase ≡ Read → Turn same hash chunk_at (shown_state s xs) none (swaps n (news (take (length ks₀) (chain_of ks₀))))
    turn_drafts e =
        subst (λ (ks : List NewCell). Turn same hash chunk_at (shown_state s xs) none (swaps n (news ks))) (sym chain_kept)
        (subst (λ (w : ℕ). Turn same hash chunk_at (shown_state s xs) none (swaps w (news ks₀))) (word_shown same hash laws g t k o keyed a₀ here n y h)
        (Turn.prepared t call d₀ (above_of x₀) n₀ own (news ks₀) (shown_mem m₀) (in_seats same hash laws g t k o keyed)
        (seat_shown same hash laws g t k o keyed Read e ∙ ap (λ (u : Op K). read u (d₀ ∷ above_of x₀)) (sym said.plainly))
        taken_alike main_free pair_free fresh
        (carried (λ (u : Shape) (i : ℕ) (v : Shape). Prepares same hash chunk_at (shown_mem m₀) u i call v own (news ks₀))
        (sym (main_shown same hash laws g t k o keyed a₀ here n y h)) (sym (length_above x₀.path.cells a₀)) (sym made_shown) drafts)))

  -- READ prepares a put or a cut.
  pub drafts_turn : (seat_of s t).phase ≡ Read → (n : ℕ) (y : Main) (r : Outcome) → Holds same hash s.memory (last_of (seat_of s t)) n y → sound same hash s.memory.pairs (seat_of s t).path.depth y ≡ true
      → Drafts same hash s.memory k (seat_of s t).path.depth (seat_of s t).ask y edit r
      → Turn same hash chunk_at (shown_state s xs) none
      (record { mem = shown_mem (made_memory s t edit picks); seats = set xs t (shown_seat (prepared (hoping (seat_of s t) r) Swap (pending_for edit n picks)) k); ticks = suc s.table.ticks })
  drafts_turn e n y r h sd d = turn_drafts n y r h sd d e

  -- A TURN OF PARENT

  -- The index of the cell above the last, and that cell.
  abbrev a₁ : ℕ
  a₁ = a₀ - 1

  abbrev c₁ : ℕ
  c₁ = get_or x₀.path.cells a₁ 0

  -- The call, settled or not.
  abbrev caller : Op K
  caller = calling (is_settled x₀) x₀.ask k

  module _ (n : ℕ) (y : Node) (h : Holds same hash s.memory c₁ n (node y)) (sd : sound same hash s.memory.pairs a₁ (node y) ≡ true)
      (b : branch_at y (chunk_at (hash k) a₁) ≡ Some (cell d₀)) (ed : edit ≡ Fixed (kept_node a₁ (replaced y (chunk_at (hash k) a₁) (pair x₀.buried)))) where
    over : a₁ ≤ a₀
    over = omega arith

    -- The state after it, with the main expected and the cells above the last.
    abbrev sweeps : ℕ → List ℕ → Machine K
    sweeps w cs = record { mem = shown_mem m₀; seats = set xs t (clean caller x₀.buried d₀ (first cs) (rest cs) w n₀); ticks = suc s.table.ticks }

    turn_cleans : x₀.phase ≡ Parent → Turn same hash chunk_at (shown_state s xs) none (sweeps n (above_of x₀))
    turn_cleans e =
        let two = above_two x₀.path.cells a₀ ((g.steady.calls t o).1.above (ap is_up e)) in
        subst (λ (cs : List ℕ). Turn same hash chunk_at (shown_state s xs) none (sweeps n cs)) (sym two)
        (subst (λ (w : ℕ). Turn same hash chunk_at (shown_state s xs) none (sweeps w (c₁ ∷ above x₀.path.cells a₁))) (word_shown same hash laws g t k o keyed a₁ over n (node y) h)
        (Turn.cleaning t caller x₀.buried d₀ c₁ (above x₀.path.cells a₁) n₀ (shown_mem m₀) (in_seats same hash laws g t k o keyed)
        (seat_shown same hash laws g t k o keyed Parent e ∙ ap (λ (cs : List ℕ). parent caller x₀.buried d₀ cs) two)
        taken_alike main_free
        (carried (λ (u : Shape) (i : ℕ) (v : Shape). Cleans same hash chunk_at u i (key caller) d₀ x₀.buried v)
        (sym (main_shown same hash laws g t k o keyed a₁ over n (node y) h)) (sym (length_above x₀.path.cells a₁)) (sym made_shown) (grind (arith, key_calling, contracted, held_fine, over, node_low)))))

  -- PARENT prepares a cleaning.
  pub cleans_turn : (seat_of s t).phase ≡ Parent → (n : ℕ) (y : Node) → Holds same hash s.memory (get_or (seat_of s t).path.cells ((seat_of s t).path.depth - 1) 0) n (node y)
      → sound same hash s.memory.pairs ((seat_of s t).path.depth - 1) (node y) ≡ true
      → branch_at y (chunk_at (hash k) ((seat_of s t).path.depth - 1)) ≡ Some (cell (last_of (seat_of s t)))
      → edit ≡ Fixed (kept_node ((seat_of s t).path.depth - 1) (replaced y (chunk_at (hash k) ((seat_of s t).path.depth - 1)) (pair (seat_of s t).buried)))
      → Turn same hash chunk_at (shown_state s xs) none
      (record { mem = shown_mem (made_memory s t edit picks); seats = set xs t (shown_seat (prepared (hoping (seat_of s t) (seat_of s t).verdict.outcome) Clean (pending_for edit n picks)) k); ticks = suc s.table.ticks })
  cleans_turn e n y h sd b ed = turn_cleans n y h sd b ed e
