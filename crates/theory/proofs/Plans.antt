-- Which plans can follow in a phase, whatever is seen: each kind with what is known of the seat then.
use Rattle.std.proofs.Common.{◌≡◌, ℕ, ◌-◌, ◌≤◌, Bool, true, false, ◌&&◌, eqb, ltb, leb, List, get_or, Some, None, Ok, Err, Option, Result}
use Rattle.keys.specs.Routes.{chunk_at}
use Rattle.std.specs.List.{slice_get}
use Rattle.std.proofs.lemmas.Bool.{and_parts, leb-true, leb-false, ltb-true, true≢false, cond_both}
use Rattle.panel.specs.declared.Refusal.{Refusal}
use Rattle.panel.specs.declared.Refusal.TheVariants.{ListFull}
use Rattle.mains.specs.Lists.{listed}
use Rattle.mains.specs.Nodes.{branch_at}
use Rattle.mains.specs.declared.Branch.{Branch}
use Rattle.mains.specs.declared.Branch.TheVariants.{Pair as pair, Cell as cell}
use Rattle.mains.specs.declared.Main.{Main}
use Rattle.mains.specs.declared.Main.TheVariants.{Node as node, Tomb as tomb, List as listing}
use Rattle.mains.specs.declared.Node.{Node}
use Rattle.mains.specs.declared.PairList.{PairList}
use Rattle.rules.specs.Memory.{Memory}
use Rattle.rules.specs.Seats.{is_idle, is_settled, is_cut, restarted, grown, dropped, at_tomb, moved}
use Rattle.rules.specs.Sound.{sound, pairs_at}
use Rattle.rules.specs.Turns.{look, at_nothing, at_equal, at_other, not_listed, listed_at, place_of, at_place, climbed, gives_up, climbs, at_parent, after_swap, after_clean, at_pair, at_branch, at_list, read_plan, parent_plan, decide, decided, keyed}
use Rattle.rules.specs.declared.Ask.{Ask}
use Rattle.rules.specs.declared.Ask.TheVariants.{Get, Put}
use Rattle.rules.specs.declared.Edit.{Edit}
use Rattle.rules.specs.declared.Edit.TheVariants.{Fixed}
use Rattle.rules.specs.declared.Fork.{Fork}
use Rattle.rules.specs.declared.Outcome.{Outcome}
use Rattle.rules.specs.declared.Pair.{Pair}
use Rattle.rules.specs.declared.Phase.{Phase}
use Rattle.rules.specs.declared.Phase.TheVariants.{Idle, Read, Swap, Climb, Parent, Clean}
use Rattle.rules.specs.declared.Plan.{Plan}
use Rattle.rules.specs.declared.Plan.TheVariants.{Refuse, Quit, Finish, Settle, Close, Go, Make}
use Rattle.rules.specs.declared.Seat.{Seat}
use Rattle.rules.specs.declared.Seen.{Seen}
use Rattle.rules.specs.declared.Seen.TheVariants.{Saw, Swapped}
use Rattle.theory.specs.Records.{Phased}

-- The plans that follow in a phase.
pub data Follows (x : Seat) : Phase → Plan → Type 0 where
  refuses : {phase : Phase} {e : Refusal} → Follows x phase (Refuse e)
  meets_full : Follows x Read (Quit ListFull)
  answers : {r : Outcome} → Follows x Read (Finish r)
  prepares : {edit : Edit} {n : ℕ} {r : Outcome} → Follows x Read (Make edit Swap n r)
  descends : (d : ℕ) → x.path.depth ≤ 6 → Follows x Read (Go (grown x d))
  meets_tomb : {phase : Phase} (p : ℕ) → 1 ≤ x.path.depth → Follows x phase (Go (at_tomb x p))
  settles : is_cut x.ask ≡ true → 1 ≤ x.path.depth → Follows x Swap (Settle x.verdict.outcome)
  finishes : Follows x Swap (Finish x.verdict.outcome)
  restarts : {phase : Phase} → (Phased phase (is_settled x) → is_settled x ≡ false) → Follows x phase (Go (restarted x))
  closes : {phase : Phase} → (Phased phase (is_settled x) → is_settled x ≡ true) → Follows x phase Close
  drops : {phase : Phase} → (Phased phase (is_settled x) → is_settled x ≡ true) → 2 ≤ x.path.depth → Follows x phase (Go (dropped x))
  cleans : {y : Main} {n : ℕ} → Follows x Parent (Make (Fixed y) Clean n x.verdict.outcome)
  misses : is_settled x ≡ true → Follows x Clean (Go (moved x Parent x.path))

-- READ

module _ (x : Seat) where
  at_nothing_lem : (ask : Ask) (n : ℕ) (y : Node) (q : ℕ) → Follows x Read (at_nothing ask n y q)
  at_nothing_lem (Put v) n y q = Follows.prepares
  at_nothing_lem _ n y q = Follows.answers

  at_equal_lem : (ask : Ask) (n : ℕ) (y : Node) (q i v : ℕ) → Follows x Read (at_equal ask n y q i v)
  at_equal_lem Get n y q i v = Follows.answers
  at_equal_lem _ n y q i v = Follows.prepares

  at_other_lem : (ask : Ask) (n : ℕ) (f : Fork) → Follows x Read (at_other ask n f)
  at_other_lem (Put v) n f = Follows.prepares
  at_other_lem _ n f = Follows.answers

  not_listed_lem : (ask : Ask) (n : ℕ) (l : PairList) → Follows x Read (not_listed ask n l)
  not_listed_lem (Put v) n l = cond_both (leb 32 l.count) _ _ (Follows x _) (λ e. Follows.meets_full) (λ e. Follows.prepares)
  not_listed_lem _ n l = Follows.answers

  listed_at_lem : (ask : Ask) (n : ℕ) (l : PairList) (i v : ℕ) → Follows x Read (listed_at ask n l i v)
  listed_at_lem Get n l i v = Follows.answers
  listed_at_lem _ n l i v = Follows.prepares

  at_place_lem : (o : Option (ℕ × ℕ)) (ask : Ask) (n : ℕ) (l : PairList) → Follows x Read (at_place o ask n l)
  at_place_lem None ask n l = not_listed_lem ask n l
  at_place_lem (Some z) ask n l = listed_at_lem ask n l z.0 z.1

  -- CLIMB, PARENT, CLEAN AND SWAP

  climbs_up : {phase : Phase} → (Phased phase (is_settled x) → is_settled x ≡ true) → Follows x phase (climbed x)
  climbs_up k =
      cond_both (leb x.path.depth 1) _ _ (Follows x _) (λ e. Follows.closes k)
      (λ e. Follows.drops k (leb-false x.path.depth 1 e))

  gives_up_lem : {phase : Phase} → Follows x phase (gives_up x)
  gives_up_lem = cond_both (is_settled x) _ _ (Follows x _) (λ e. climbs_up (λ p. e)) (λ e. Follows.restarts (λ p. e))

  at_parent_lem : (o : Option Branch) (n : ℕ) (y : Node) (q i c : ℕ) → Follows x Parent (at_parent o x n y q i c)
  at_parent_lem (Some (cell d)) n y q i c = cond_both (eqb d c) _ _ (Follows x _) (λ e. Follows.cleans) (λ e. gives_up_lem)
  at_parent_lem _ n y q i c = gives_up_lem

  after_swap_lem : (b : Bool) → Follows x Swap (after_swap b x)
  after_swap_lem true =
      cond_both (is_cut x.ask && ltb 0 x.path.depth) _ _ (Follows x _)
      (λ e. let k = and_parts (is_cut x.ask) _ e in Follows.settles k.0 (ltb-true 0 x.path.depth k.1))
      (λ e. Follows.finishes)
  after_swap_lem false = Follows.restarts (λ p. p)

  after_clean_lem : (b : Bool) → Follows x Clean (after_clean b x)
  after_clean_lem true = gives_up_lem
  after_clean_lem false = cond_both (is_settled x) _ _ (Follows x _) (λ e. Follows.misses e) (λ e. Follows.restarts (λ p. e))

  module _ {K : Type 0} (same : K → K → Bool) (hash : K → ℕ) where
    at_pair_lem : (o : Option (Pair K)) (key : K) (n : ℕ) (y : Node) (q i p : ℕ) → Follows x Read (at_pair same hash o x key n y q i p)
    at_pair_lem None key n y q i p = Follows.refuses
    at_pair_lem (Some z) key n y q i p =
        cond_both (same z.key key) _ _ (Follows x _) (λ e. at_equal_lem x.ask n y q i z.value) (λ e. at_other_lem x.ask n _)

    at_branch_lem : (o : Option Branch) (key : K) (m : Memory K) (n : ℕ) (y : Node) (q i : ℕ) → x.path.depth ≤ 6 → Follows x Read (at_branch same hash o x key m n y q i)
    at_branch_lem None key m n y q i l = at_nothing_lem x.ask n y q
    at_branch_lem (Some (cell d)) key m n y q i l = Follows.descends d l
    at_branch_lem (Some (pair p)) key m n y q i l = at_pair_lem (slice_get m.pairs p) key n y q i p

    at_list_lem : (o : Option (List (Pair K))) (key : K) (n : ℕ) (l : PairList) → Follows x Read (at_list same hash o x key n l)
    at_list_lem None key n l = Follows.refuses
    at_list_lem (Some ys) key n l = at_place_lem (place_of same key ys) x.ask n l

    -- A sound node stands above index 7, and a sound tomb below the root.
    node_high : (pairs : List (Pair K)) (i : ℕ) (y : Node) → sound same hash pairs i (node y) ≡ true → i ≤ 6
    node_high pairs i y s = leb-true i 6 (and_parts (leb i 6) _ s).0

    tomb_low : (pairs : List (Pair K)) (i p : ℕ) → sound same hash pairs i (tomb p) ≡ true → 1 ≤ i
    tomb_low pairs i p s = leb-true 1 i (and_parts (leb 1 i) _ s).0

    at_read : (y : Main) (key : K) (m : Memory K) (n : ℕ) → sound same hash m.pairs x.path.depth y ≡ true → Follows x Read (read_plan same hash y x key m n x.path.depth)
    at_read (node y) key m n s =
        at_branch_lem (branch_at y (chunk_at (hash key) x.path.depth)) key m n y (chunk_at (hash key) x.path.depth) x.path.depth (node_high m.pairs x.path.depth y s)
    at_read (tomb p) key m n s = Follows.meets_tomb p (tomb_low m.pairs x.path.depth p s)
    at_read (listing l) key m n s = at_list_lem (pairs_at m.pairs (listed l)) key n l

    at_climb : (y : Main) (pairs : List (Pair K)) → sound same hash pairs x.path.depth y ≡ true → Follows x Climb (climbs y x)
    at_climb (tomb p) pairs s = Follows.meets_tomb p (tomb_low pairs x.path.depth p s)
    at_climb _ pairs s = climbs_up (λ p. p)

    above : (y : Main) (key : K) (n i c : ℕ) → Follows x Parent (parent_plan same hash y x key n i c)
    above (node y) key n i c = at_parent_lem (branch_at y (chunk_at (hash key) i)) n y (chunk_at (hash key) i) i c
    above _ key n i c = gives_up_lem

    decides : (phase : Phase) (seen : Seen) (key : K) (m : Memory K) → is_idle phase ≡ false → Follows x phase (decide same hash phase seen x key m)
    decides Idle seen key m o = absurd (true≢false o)
    decides Read (Saw n y) key m o = cond_both (sound same hash m.pairs x.path.depth y) _ _ (Follows x _) (at_read y key m n) (λ e. Follows.refuses)
    decides Swap (Swapped b) key m o = after_swap_lem b
    decides Climb (Saw n y) key m o = cond_both (sound same hash m.pairs x.path.depth y) _ _ (Follows x _) (at_climb y m.pairs) (λ e. Follows.refuses)
    decides Parent (Saw n y) key m o =
        cond_both (sound same hash m.pairs (x.path.depth - 1) y) _ _ (Follows x _)
        (λ e. above y key n (x.path.depth - 1) (get_or x.path.cells x.path.depth 0)) (λ e. Follows.refuses)
    decides Clean (Swapped b) key m o = after_clean_lem b
    decides _ _ key m o = Follows.refuses

    -- The plan of an open seat, with or without a key place, whatever is seen.
    pub plan_follows : (o : Option K) (m : Memory K) → is_idle x.phase ≡ false → Follows x x.phase (keyed same hash o x m).plan
    plan_follows None m i = Follows.refuses
    plan_follows (Some key) m i = by (look x.phase x m).seen
      where
        by : (o : Result Seen Refusal) → Follows x x.phase (decided same hash o x key m)
        by (Err e) = Follows.refuses
        by (Ok seen) = decides x.phase seen key m i
