-- Every step keeps what holds, so every run does, and its log stands.
use mathlib.Core.Path.{◌≡◌, refl, sym, ap, ◌∙◌, subst}
use mathlib.Core.Bool.{Bool, cond}
use mathlib.Core.List.{List, [], ◌∷◌}
use mathlib.Core.Option.{Option, none, some}
use mathlib.Core.Logic.{◌⊎◌, inl, inr, ◌≢◌}
use Prim.Native.Nat.{ℕ, zero, suc, ◌<◌, ◌≤◌}
use native.Mathlib.Omega.{arith}
use native.Mathlib.Decide.{ℕ_discrete}
use lib.Dec.{T}
use lib.ListN.{length, get_or, set}
use lib.Seq.{get_or-set_same, get_or-set_other}
use Rattle.machine.specs.Tree.{stands, on, walk, find, In, here, later, nth}
use Rattle.machine.specs.Machine.{Main, tomb, IsTomb, Mem, word, main, view, Op, get, put, renew, cut, cutting, climb, key, plain, Seat, idle, read, swap, parent, clean, State, seat, Expects, MakesMain, MakesPair, MakesCell, CellInUse, Fresh, MainInUse, PairInUse, Alike, seated, moved, swung, Prepares, Cleans, Moves, value, Entry, gives, Step, Rising, add, Formatted, Runs}
use Rattle.machine.specs.Pairs.{seek_pair, find_pair, lookup_pair, worth, after_pair, says_pair, replay_pair, PlainPair, StandsPair}
use Rattle.machine.proofs.Laws.{Laws}
use Rattle.machine.proofs.Walk.{no_some, walk_on, walk_back, root_is}
use Rattle.machine.proofs.Worth.{find_worth, none_pair}
use Rattle.machine.proofs.Effect.{stop, lookup_ends}
use Rattle.machine.proofs.Graft.{clash}
use Rattle.machine.proofs.Inv.{MainFree, PathOK, Does, Same, Pend, SeatOK, Seats, Inv}
use Rattle.machine.proofs.Keep.{is_reached, tomb_face, walk_alike, lookup_alike, shape_alike, main_free_alike, pair_free_alike, path_alike, seat_alike, word_alike, tomb_alike}
use Rattle.machine.proofs.Swing.{path_swung, seat_swung, shape_swung, effect}
use Rattle.machine.proofs.Prepare.{NewOK, prepares_pend, cleans_pend}

-- What holds of the new record of a seat and of all others holds of the seats with that record set.
pub by_seat : {K : Type 0} (xs : List (Seat K)) (t u : ℕ) (x : Seat K) (P : Seat K → Type 0) → t < length xs
    → (u ≡ t → P x) → (u ≢ t → P (get_or xs u idle)) → P (get_or (set xs t x) u idle)
by_seat xs t u x P l f g = elim (ℕ_discrete u t) [
  | yes e ↦ rw (e, get_or-set_same xs t x idle l) (f e)
  | no n ↦ rw (get_or-set_other xs t u x idle n) (g n)
]

-- Two seats keep apart when one is set.
pub apart_set : {K : Type 0} (P Q : Seat K → ℕ → Type 0) (xs : List (Seat K)) (t : ℕ) (x : Seat K) → t < length xs
    → ((t u n : ℕ) → t ≢ u → P (get_or xs t idle) n → Q (get_or xs u idle) n → ⊥)
    → ((u n : ℕ) → u ≢ t → P x n → Q (get_or xs u idle) n → ⊥) → ((u n : ℕ) → u ≢ t → P (get_or xs u idle) n → Q x n → ⊥)
    → (u w n : ℕ) → u ≢ w → P (get_or (set xs t x) u idle) n → Q (get_or (set xs t x) w idle) n → ⊥
apart_set P Q xs t x l old mine theirs u w n =
    by_seat xs t u x (λ y. u ≢ w → P y n → Q (get_or (set xs t x) w idle) n → ⊥) l
    (λ e. by_seat xs t w x (λ z. u ≢ w → P x n → Q z n → ⊥) l (λ f ne. absurd (ne (e ∙ sym f))) (λ f ne. mine w n f))
    (λ e. by_seat xs t w x (λ z. u ≢ w → P (get_or xs u idle) n → Q z n → ⊥) l (λ f ne. theirs u n e) (λ f ne. old u w n ne))

pub key_plain : {K : Type 0} (o : Op K) → key (plain o) ≡ key o
key_plain o = grind arith

-- A seat that has made nothing and expects nothing.
pub record Quiet {K : Type 0} (x : Seat K) : Type 0 where
  no_main : (n : ℕ) → MakesMain x n → ⊥
  no_expect : (n : ℕ) → Expects x n → ⊥
  no_pair : (p : ℕ) → MakesPair x p → ⊥
  no_cell_lem : (d : ℕ) → MakesCell x d → ⊥

-- An idle seat is one.
pub quiet_idle : {K : Type 0} → Quiet {K = K} idle
quiet_idle = assumption

module _ {K : Type 0} (same : K → K → Bool) (hash : K → ℕ) (chunk : ℕ → ℕ → ℕ) where
  -- One seat is set.
  seats_set : (m m' : Mem K) (xs : List (Seat K)) (t : ℕ) (x : Seat K) → t < length xs → Seats same hash chunk m xs
      → ((u : ℕ) → u ≢ t → SeatOK same hash chunk m' (get_or xs u idle)) → SeatOK same hash chunk m' x
      → ((u n : ℕ) → u ≢ t → MakesMain x n → Expects (get_or xs u idle) n → ⊥)
      → ((u n : ℕ) → u ≢ t → MakesMain (get_or xs u idle) n → Expects x n → ⊥)
      → ((u n : ℕ) → u ≢ t → MakesMain x n → MakesMain (get_or xs u idle) n → ⊥)
      → ((u p : ℕ) → u ≢ t → MakesPair x p → MakesPair (get_or xs u idle) p → ⊥)
      → ((u d : ℕ) → u ≢ t → MakesCell x d → MakesCell (get_or xs u idle) d → ⊥)
      → Seats same hash chunk m' (set xs t x)
  seats_set m m' xs t x l i others own e1 e2 e3 e4 e5 = record {
    cells_apart = apart_set MakesCell MakesCell xs t x l i.cells_apart e5 (λ u n ne a b. e5 u n ne b a);
    ok = λ u. by_seat xs t u x (SeatOK same hash chunk m') l (λ e. own) (others u);
    made_expected = apart_set MakesMain Expects xs t x l i.made_expected e1 e2;
    made_made = apart_set MakesMain MakesMain xs t x l i.made_made e3 (λ u n ne a b. e3 u n ne b a);
    pairs_apart = apart_set MakesPair MakesPair xs t x l i.pairs_apart e4 (λ u n ne a b. e4 u n ne b a);
  }

  -- One seat is set to a record that has made nothing.
  pub seats_quiet : (m m' : Mem K) (xs : List (Seat K)) (t : ℕ) (x : Seat K) → Quiet x → t < length xs → Seats same hash chunk m xs
      → ((u : ℕ) → u ≢ t → SeatOK same hash chunk m' (get_or xs u idle)) → SeatOK same hash chunk m' x → Seats same hash chunk m' (set xs t x)
  seats_quiet m m' xs t x q l i others own =
      seats_set m m' xs t x l i others own (λ u n ne a. absurd (q.no_main n a)) (λ u n ne a b. q.no_expect n b)
      (λ u n ne a. absurd (q.no_main n a)) (λ u p ne a. absurd (q.no_pair p a)) (λ u d ne a. absurd (q.no_cell_lem d a))

  rising_later : (n m : ℕ) (es : List (Entry K)) → n ≤ m → Rising n es → Rising m es
  unfolding Rising
  rising_later n m [] l r = tt
  rising_later n m (e ∷ es) l r = (omega arith, r.1)

  -- A log stands on where no lookup changes.
  same_log : (es : List (Entry K)) (s s' : State K) → s.ticks ≤ s'.ticks
      → ((k : K) → lookup_pair same hash chunk (view s'.mem) k ≡ lookup_pair same hash chunk (view s.mem) k)
      → StandsPair same hash chunk es s → StandsPair same hash chunk es s'
  same_log es s s' l f z =
      record { results = z.results; rising = rising_later s.ticks s'.ticks es l z.rising; held = λ k. z.held k ∙ sym (f k) }

  pub ok_at : {m : Mem K} {xs : List (Seat K)} → Seats same hash chunk m xs → (t : ℕ) (x : Seat K) → get_or xs t idle ≡ x → SeatOK same hash chunk m x
  ok_at i t x e = rw e at (i.ok t)

  -- A tomb shows no cell.
  pub tomb_pairs : (m : Mem K) (c q d : ℕ) → IsTomb (main m (word m c)) → view m c q ≡ on d → ⊥
  unfolding view
  tomb_pairs m c q d t e = let f = tomb_face m.pairs (main m (word m c)) t in clash (sym (f.1 q) ∙ e)

  root_ok : (m : Mem K) (k : K) → PathOK same hash chunk m k (0 ∷ [])
  unfolding walk
  root_ok m k = (inl refl, tt)

  -- A seat that writes nothing has what its new record rests on.
  moves_ok : (m : Mem K) (y x : Seat K) → Moves same hash chunk m y x → SeatOK same hash chunk m y → SeatOK same hash chunk m x × Quiet x
  moves_ok m y x (Moves.root y' o) z = (root_ok m (key o), assumption)
  moves_ok m y x (Moves.rest y') z = (tt, quiet_idle)
  moves_ok m y x (Moves.down o c cs d e) z = (
    (
      inl (walk_on chunk (view m) (hash (key o)) (length cs) c d
          (is_reached same hash chunk m (key o) (length cs) c z.0 (λ t. tomb_pairs m c (chunk (hash (key o)) (length cs)) d t e)) e),
      z,
    ),
    assumption,
  )
  moves_ok m y x (Moves.up o c cs) z = (z.1, assumption)
  moves_ok m y x (Moves.meets o b c cs t) z = ((t, z.1), assumption)
  moves_ok m y x (Moves.turns o b d cs) z = (z.1, assumption)
  moves_ok m y x (Moves.misses o b d c cs e n) z = ((z.0, z.1.path), assumption)

  -- A step that writes nothing.
  keeps_moves : (es : List (Entry K)) (s : State K) (t : ℕ) (x : Seat K) (n : ℕ) → t < length s.seats → s.ticks ≤ n
      → Moves same hash chunk s.mem (seat s t) x → Inv same hash chunk es s → Inv same hash chunk es (moved s t x n)
  keeps_moves es s t x n l le mv i =
      let z = moves_ok s.mem (seat s t) x mv (i.seats.ok t) in
      record {
        shape = i.shape;
        seats = seats_quiet s.mem s.mem s.seats t x z.1 l i.seats (λ u ne. i.seats.ok u) z.0;
        log = same_log es s (moved s t x n) le (λ k. refl) i.log;
      }

  -- A read that ends at pairs finds what the plain map holds.
  found : (es : List (Entry K)) (s : State K) (k : K) (c : ℕ) (cs : List ℕ) (ps : List (K × ℕ)) → Inv same hash chunk es s
      → PathOK same hash chunk s.mem k (c ∷ cs) → (IsTomb (main s.mem (word s.mem c)) → ⊥) → view s.mem c (chunk (hash k) (length cs)) ≡ stands ps
      → find_pair same k ps ≡ replay_pair same es k
  found es s k c cs ps i p nt v =
      let w = is_reached same hash chunk s.mem k (length cs) c p.0 nt in
      sym (i.log.held k ∙ lookup_ends same hash chunk (view s.mem) k ps c (length cs) w (stop (i.shape.low (hash k) (length cs) c w) v))

  -- A get, and a cut that finds nothing.
  keeps_settled : (es : List (Entry K)) (s : State K) (t : ℕ) (e : Entry K) → t < length s.seats → e.stamp ≡ suc s.ticks
      → e.result ≡ says_pair e.op (replay_pair same es)
      → ((k : K) → after_pair same e.op (replay_pair same es) k ≡ lookup_pair same hash chunk (view s.mem) k)
      → Inv same hash chunk es s → Inv same hash chunk (e ∷ es) (seated s s.mem t idle)
  unfolding PlainPair Rising replay_pair
  keeps_settled es s t e l st r h i = record {
    shape = i.shape;
    seats = seats_quiet s.mem s.mem s.seats t idle quiet_idle l i.seats (λ u ne. i.seats.ok u) tt;
    log = record { results = (r, i.log.results); rising = (omega arith, (s.ticks, omega arith, i.log.rising)); held = h };
  }

  -- What a seat has made is not reached.
  makes_free : (m : Mem K) (y : Seat K) (n : ℕ) → SeatOK same hash chunk m y → MakesMain y n → MainFree same hash chunk m n
  makes_free m y n z e = grind arith

  -- A swap is prepared only where no tomb was read.
  pub solid_prepares : {m : Mem K} {X : Main} {a : ℕ} {o : Op K} {Y : Main} {mp : Option ℕ} {new : List (ℕ × ℕ)} → Prepares same hash chunk m X a o Y mp new → IsTomb X → ⊥
  solid_prepares pr t = grind arith

  pub solid_cleans : {X : Main} {a : ℕ} {k : K} {d p : ℕ} {Y : Main} → Cleans same hash chunk X a k d p Y → IsTomb X → ⊥
  solid_cleans cl t = grind arith

  module _ (laws : Laws same hash) (es : List (Entry K)) (s : State K) (i : Inv same hash chunk es s) (m : Mem K) (al : Alike chunk s m)
      (n : ℕ) (un : MainInUse chunk s n → ⊥) where
    free : MainFree same hash chunk m n
    free = main_free_alike same hash chunk s m al n (λ h j c w x. un (MainInUse.reached h j c w x))

    expected_kept : (k : K) (j c : ℕ) → walk chunk (view s.mem) (hash k) j ≡ some c → main m (word s.mem c) ≡ main s.mem (word s.mem c)
    expected_kept k j c w = al.mains (word s.mem c) (MainInUse.reached (hash k) j c w refl)

    -- A seat prepares: what it takes was not in use, so no other seat has it.
    keeps_made : (t : ℕ) (x : Seat K) (c j : ℕ) (k : K) → t < length s.seats → walk chunk (view s.mem) (hash k) j ≡ some c
        → SeatOK same hash chunk m x
        → ((r : ℕ) → MakesMain x r → MainInUse chunk s r → ⊥) → ((r : ℕ) → Expects x r → r ≡ word s.mem c) → ((p : ℕ) → MakesPair x p → PairInUse chunk s p → ⊥)
        → ((d : ℕ) → MakesCell x d → CellInUse chunk s d → ⊥)
        → Inv same hash chunk es (seated s m t x)
    keeps_made t x c j k l w own mk ex up uc = record {
      shape = shape_alike same hash chunk s m al i.shape;
      seats = seats_set s.mem m s.seats t x l i.seats
          (λ u ne. seat_alike same hash chunk s m al u (i.seats.ok u)) own
          (λ u r ne a b. mk r a (MainInUse.expected u b))
          (λ u r ne a b. makes_free s.mem (seat s u) r (i.seats.ok u) a (hash k) j c w (sym (ex r b)))
          (λ u r ne a b. mk r a (MainInUse.made u b))
          (λ u p ne a b. up p a (PairInUse.made u b))
          (λ u d ne a b. uc d a (CellInUse.made u b));
      log = same_log es s (seated s m t x) (omega arith) (lookup_alike same hash chunk s m al) i.log;
    }

    -- A read prepares a swap.
    keeps_prepared : (t : ℕ) (o : Op K) (c : ℕ) (cs : List ℕ) (mp : Option ℕ) (new : List (ℕ × ℕ)) → t < length s.seats → seat s t ≡ read (plain o) (c ∷ cs)
        → ((p : ℕ) → mp ≡ some p → PairInUse chunk s p → ⊥) → Fresh same hash chunk s m new
        → Prepares same hash chunk m (main s.mem (word s.mem c)) (length cs) o (main m n) mp new
        → Inv same hash chunk es (seated s m t (swap o c cs (word s.mem c) n mp new))
    keeps_prepared t o c cs mp new l e up fr pr =
        let p₀ : PathOK same hash chunk s.mem (key o) (c ∷ cs) =
        subst (λ (j : K). PathOK same hash chunk s.mem j (c ∷ cs)) (key_plain o) (ok_at i.seats t (read (plain o) (c ∷ cs)) e) in
        let w : walk chunk (view s.mem) (hash (key o)) (length cs) ≡ some c = is_reached same hash chunk s.mem (key o) (length cs) c p₀.0 (solid_prepares pr) in
        let nw : NewOK same hash chunk laws m (shape_alike same hash chunk s m al i.shape) new =
        record {
          holds = fr.holds;
          inside = fr.inside;
          cells_free = λ t d x y h j v. fr.cells t d x y (CellInUse.reached h j (sym (walk_alike same hash chunk s m al h j) ∙ v));
          mains_free = λ t d x y. main_free_alike same hash chunk s m al x (λ h j c v z. fr.mains t d x y (MainInUse.reached h j c v z));
          once = fr.once;
        } in
        let own : SeatOK same hash chunk m (swap o c cs (word s.mem c) n mp new) =
        prepares_pend same hash chunk laws m (shape_alike same hash chunk s m al i.shape) c cs (word s.mem c) n (main s.mem (word s.mem c))
        (word_alike same hash chunk s m al (hash (key o)) (length cs) c w) (expected_kept (key o) (length cs) c w) free (main m n) refl o mp new nw
        (path_alike same hash chunk s m al t (key o) (c ∷ cs) (λ d x. rw e x) p₀)
        (λ p x. pair_free_alike same hash chunk s m al p (λ h j d v y. up p x (PairInUse.reached h j d v y))) pr in
        keeps_made t (swap o c cs (word s.mem c) n mp new) c (length cs) (key o) l w own
        (λ r y u. elim y [ inl x ↦ un (rw x at u) | inr x ↦ fr.mains x.0 x.1 r x.2 u ]) (λ r x. x) (λ p x. up p x) (λ d x. fr.cells x.0 d x.1 x.2)

    -- A read prepares a cleaning. The tomb is the one that was read, since a tomb on a path never changes.
    keeps_cleaning : (t : ℕ) (o : Op K) (b d c : ℕ) (cs : List ℕ) → t < length s.seats → seat s t ≡ parent o b d (c ∷ cs)
        → Cleans same hash chunk (main s.mem (word s.mem c)) (length cs) (key o) d b (main m n)
        → Inv same hash chunk es (seated s m t (clean o b d c cs (word s.mem c) n))
    keeps_cleaning t o b d c cs l e cl =
        let p₀ : (main s.mem (word s.mem d) ≡ tomb b) × PathOK same hash chunk s.mem (key o) (c ∷ cs) = ok_at i.seats t (parent o b d (c ∷ cs)) e in
        let td : main m (word m d) ≡ tomb b = tomb_alike same hash chunk s m al t d (rw e here) (rw p₀.0 tt) ∙ p₀.0 in
        let w : walk chunk (view s.mem) (hash (key o)) (length cs) ≡ some c = is_reached same hash chunk s.mem (key o) (length cs) c p₀.1.0 (solid_cleans cl) in
        let own : SeatOK same hash chunk m (clean o b d c cs (word s.mem c) n) = (
          td,
          cleans_pend same hash chunk laws m (shape_alike same hash chunk s m al i.shape) c cs (word s.mem c) n (main s.mem (word s.mem c))
              (word_alike same hash chunk s m al (hash (key o)) (length cs) c w) (expected_kept (key o) (length cs) c w) free (key o) d b td
              (path_alike same hash chunk s m al t (key o) (c ∷ cs) (λ f x. rw e (later x)) p₀.1) (main m n) refl cl,
        ) in
        keeps_made t (clean o b d c cs (word s.mem c) n) c (length cs) (key o) l w own (λ r x u. un (rw x at u)) (λ r x. x) (λ p x. absurd x) (λ d x. absurd x)

  -- A swap says yes.
  module _ (es : List (Entry K)) (s : State K) (i : Inv same hash chunk es s) (t : ℕ) (l : t < length s.seats)
      (R : K → Option (K × ℕ) → Option (K × ℕ) → Type 0) (k : K) (c : ℕ) (cs : List ℕ) (e n : ℕ) (mp td : Option ℕ) (new : List (ℕ × ℕ))
      (pend : Pend same hash chunk R s.mem k c cs e n mp td new) (holds : word s.mem c ≡ e)
      (makes : (x : ℕ) → (x ≡ n) ⊎ ((t d : ℕ) × (nth new t ≡ some (d, x))) → MakesMain (seat s t) x)
      (makes_cell : (d : ℕ) → (t x : ℕ) × (nth new t ≡ some (d, x)) → MakesCell (seat s t) d) (pairs_made : (p : ℕ) → mp ≡ some p → MakesPair (seat s t) p) where
    -- All seats after a swap that says yes.
    swung_seats : (x : Seat K) → Quiet x → SeatOK same hash chunk (swung s.mem c n) x → Seats same hash chunk (swung s.mem c n) (set s.seats t x)
    swung_seats x q own =
        seats_quiet s.mem (swung s.mem c n) s.seats t x q l i.seats
        (λ u ne. seat_swung same hash chunk s.mem i.shape R k c cs e n mp td new pend holds (seat s u)
        (i.seats.made_expected t u n (λ z. ne (sym z)) (makes n (inl refl))) (λ x a b. i.seats.made_made t u x (λ z. ne (sym z)) (makes x b) a)
        (λ d a b. i.seats.cells_apart t u d (λ z. ne (sym z)) (makes_cell d b) a)
        (λ p a b. i.seats.pairs_apart t u p (λ z. ne (sym z)) (pairs_made p b) a) (i.seats.ok u))
        own

  -- What the effect on the lookups says of the log.
  settles : (laws : Laws same hash) (o : Op K) (f g : K → Option (K × ℕ)) → ((l : K) → Does same hash chunk o l (f l) (g l))
      → (gives o ≡ says_pair (plain o) f) × ((l : K) → after_pair same (plain o) f l ≡ g l)
  settles laws (put k v) f g d = (refl, λ l. sym (d l))
  settles laws (renew k v) f g d = (refl, λ l. sym (d l))
  settles laws (cutting k v) f g d = let z = (d k).1 (laws.reflexive k) in (ap value (sym (ap worth z.1 ∙ ap some z.2)), λ l. sym (d l).0)
  settles laws o f g d = absurd (d (key o))

  -- A swap says yes.
  keeps_swapped : Laws same hash → (es : List (Entry K)) (s : State K) (t : ℕ) (o : Op K) (c : ℕ) (cs : List ℕ) (e n : ℕ) (mp : Option ℕ) (new : List (ℕ × ℕ)) (x : Seat K)
      → t < length s.seats → seat s t ≡ swap o c cs e n mp new → word s.mem c ≡ e → (x ≡ idle) ⊎ (x ≡ read (climb (key o)) (c ∷ cs))
      → Inv same hash chunk es s
      → Inv same hash chunk (record { stamp = suc s.ticks; op = plain o; result = gives o } ∷ es) (seated s (swung s.mem c n) t x)
  unfolding PlainPair Rising replay_pair
  keeps_swapped laws es s t o c cs e n mp new x l q holds nx i =
      let pend : Pend same hash chunk (Does same hash chunk o) s.mem (key o) c cs e n mp none new = ok_at i.seats t (swap o c cs e n mp new) q in
      let p = path_swung same hash chunk s.mem i.shape (Does same hash chunk o) (key o) c cs e n mp none new pend holds (key o) (c ∷ cs) pend.path in
      let z : SeatOK same hash chunk (swung s.mem c n) x × Quiet x = elim nx [ inl e ↦ rw e (tt, quiet_idle) | inr e ↦ rw e (p, assumption) ] in
      let logged : (gives o ≡ says_pair (plain o) (replay_pair same es)) × ((j : K) → after_pair same (plain o) (replay_pair same es) j ≡ lookup_pair same hash chunk (view (swung s.mem c n)) j) =
      settles laws o (replay_pair same es) (λ j. lookup_pair same hash chunk (view (swung s.mem c n)) j)
      (λ j. rw (i.log.held j) (effect same hash chunk s.mem i.shape (Does same hash chunk o) (key o) c cs e n mp none new pend holds j)) in
      record {
        shape = shape_swung same hash chunk s.mem i.shape (Does same hash chunk o) (key o) c cs e n mp none new pend holds;
        seats = swung_seats es s i t l (Does same hash chunk o) (key o) c cs e n mp none new pend holds (λ y v. rw q v) (λ d v. rw q v) (λ p y. rw q y) x z.1 z.0;
        log = record { results = (logged.0, i.log.results); rising = (omega arith, (s.ticks, omega arith, i.log.rising)); held = logged.1 };
      }

  -- A cleaning swap says yes.
  keeps_cleaned : (es : List (Entry K)) (s : State K) (t : ℕ) (o : Op K) (b d c : ℕ) (cs : List ℕ) (e n : ℕ) (x : Seat K)
      → t < length s.seats → seat s t ≡ clean o b d c cs e n → word s.mem c ≡ e → (x ≡ idle) ⊎ ((x ≡ read o (0 ∷ [])) ⊎ (x ≡ read o (c ∷ cs)))
      → Inv same hash chunk es s → Inv same hash chunk es (seated s (swung s.mem c n) t x)
  keeps_cleaned es s t o b d c cs e n x l q holds nx i =
      let pend : Pend same hash chunk (Same same hash chunk) s.mem (key o) c cs e n none (some d) [] = (ok_at i.seats t (clean o b d c cs e n) q).1 in
      let p = path_swung same hash chunk s.mem i.shape (Same same hash chunk) (key o) c cs e n none (some d) [] pend holds (key o) (c ∷ cs) pend.path in
      let z : SeatOK same hash chunk (swung s.mem c n) x × Quiet x = elim nx [
        | inl e ↦ rw e (tt, quiet_idle)
        | inr (inl e) ↦ rw e (root_ok (swung s.mem c n) (key o), assumption)
        | inr (inr e) ↦ rw e (p, assumption)
      ] in
      record {
        shape = shape_swung same hash chunk s.mem i.shape (Same same hash chunk) (key o) c cs e n none (some d) [] pend holds;
        seats = swung_seats es s i t l (Same same hash chunk) (key o) c cs e n none (some d) [] pend holds
            (λ y v. elim v [ inl u ↦ rw q u | inr u ↦ absurd (no_some u.2) ]) (λ f v. absurd (no_some v.2)) (λ p v. absurd (no_some v)) x z.1 z.0;
        log = same_log es s (seated s (swung s.mem c n) t x) (omega arith)
            (effect same hash chunk s.mem i.shape (Same same hash chunk) (key o) c cs e n none (some d) [] pend holds) i.log;
      }

  same_cong : Laws same hash → (l k j : K) → T (same k j) → same l k ≡ same l j
  same_cong laws l k j t =
      let f = λ (x : T (same l k)). laws.transitive l k j x t in
      let g = λ (x : T (same l j)). laws.transitive l j k x (laws.symmetric k j t) in grind arith

  -- The plain map does not tell equal keys apart.
  replay_same : Laws same hash → (es : List (Entry K)) (k j : K) → T (same k j) → replay_pair same es k ≡ replay_pair same es j
  unfolding replay_pair
  replay_same laws [] k j t = refl
  replay_same laws (e ∷ es) k j t = let h = replay_same laws es k j t in grind (arith, same_cong laws)

  -- A cut of an absent key changes nothing.
  absent : Laws same hash → (es : List (Entry K)) (k : K) → replay_pair same es k ≡ none → (j : K)
      → cond (same k j) none (replay_pair same es j) ≡ replay_pair same es j
  absent laws es k a j = let e = replay_same laws es k j in grind arith

  -- Every step keeps what holds.
  pub keeps : Laws same hash → (es : List (Entry K)) (s s' : State K) (e : Option (Entry K)) → Step same hash chunk s e s'
      → Inv same hash chunk es s → Inv same hash chunk (add e es) s'
  keeps laws es s s' e (Step.moves t x n l le mv) i = keeps_moves es s t x n l le mv i
  keeps laws es s s' e (Step.got t k c cs ps l q nt v) i =
      keeps_settled es s t (record { stamp = suc s.ticks; op = get k; result = value (find same k ps) }) l refl
      (ap value (find_worth same k ps ∙ ap worth (found es s k c cs ps i (ok_at i.seats t (read (get k) (c ∷ cs)) q) nt v))) i.log.held i
  keeps laws es s s' e (Step.lacks t k c cs ps l q nt v f) i =
      let a : replay_pair same es k ≡ none = sym (found es s k c cs ps i (ok_at i.seats t (read (cut k) (c ∷ cs)) q) nt v) ∙ none_pair same k ps f in
      keeps_settled es s t (record { stamp = suc s.ticks; op = cut k; result = value none }) l refl (ap (λ o. value (worth o)) (sym a))
      (λ j. absent laws es k a j ∙ i.log.held j) i
  keeps laws es s s' e (Step.prepared t o c cs n mp new m l q al un up fr pr) i = keeps_prepared laws es s i m al n un t o c cs mp new l q up fr pr
  keeps laws es s s' e (Step.swapped t o c cs x n mp new y l q h nx) i = keeps_swapped laws es s t o c cs x n mp new y l q h nx i
  keeps laws es s s' e (Step.cleaning t o b d c cs n m l q al un cl) i = keeps_cleaning laws es s i m al n un t o b d c cs l q cl
  keeps laws es s s' e (Step.cleaned t o b d c cs x n y l q h nx) i = keeps_cleaned es s t o b d c cs x n y l q h nx i

  -- At the start only the root is reached, an empty branch node.
  pub only_root : (s : State K) → Formatted s → (h i c : ℕ) → walk chunk (view s.mem) h i ≡ some c → (i ≡ 0) × (c ≡ 0)
  unfolding view
  only_root s f h zero c w = (refl, sym (root_is chunk (view s.mem) h c w))
  only_root s f h (suc i) c w =
      let b = walk_back chunk (view s.mem) h i c w in
      let y : view s.mem 0 (chunk h i) ≡ on c = rw (only_root s f h i b.0 b.1).1 at b.2 in
      let e : view s.mem 0 (chunk h i) ≡ stands [] = rw (f.root.1, f.root.2 (chunk h i)) in
      absurd (clash (sym e ∙ y))

  -- It holds at the start.
  pub begins : (s : State K) → Formatted s → Inv same hash chunk [] s
  unfolding PlainPair Rising replay_pair lookup_pair seek_pair view find_pair walk
  begins s f = record {
    shape = record {
      one = record { index = λ h g i j c v w. (only_root s f h i c v).0 ∙ sym (only_root s f g j c w).0; chunks = λ h g i j c v w q l. absurd (let z = (only_root s f h i c v).0 in omega arith) };
      low = λ h i c w. let z = (only_root s f h i c w).0 in omega arith;
      in_words = λ h i c w. rw (only_root s f h i c w).1 f.has_root;
      placed = λ h i c q ps x w e j.
          let z : view s.mem 0 q ≡ stands [] = rw (f.root.1, f.root.2 q) in
          let e' : view s.mem 0 q ≡ stands ps = rw (only_root s f h i c w).1 at e in
          let y : ps ≡ [] = cc in let j' : In x [] = rw y at j in elim j' [ ];
    };
    seats = record {
      ok = λ t. rw (f.idles t) tt;
      made_expected = λ t u n ne mk nm. rw (f.idles t) at mk;
      made_made = λ t u n ne mk nm. rw (f.idles t) at mk;
      cells_apart = λ t u n ne mk nm. rw (f.idles t) at mk;
      pairs_apart = λ t u n ne mk nm. rw (f.idles t) at mk;
    };
    log = record { results = tt; rising = tt; held = λ k. rw (f.root.1, f.root.2 (chunk (hash k) 0)) };
  }

  -- So it holds after every run.
  pub always : Laws same hash → (es : List (Entry K)) (s : State K) → Runs same hash chunk es s → Inv same hash chunk es s
  always laws es s (Runs.formatted f) = begins s f
  always laws es s (Runs.then {es = fs} {s = r} {e = e} run st) = keeps laws fs r s e st (always laws fs r run)

  -- The log of every run stands.
  pub main_theorem : Laws same hash → (es : List (Entry K)) (s : State K) → Runs same hash chunk es s → StandsPair same hash chunk es s
  main_theorem laws es s run = (always laws es s run).log
