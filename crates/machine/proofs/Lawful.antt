-- Every turn keeps the rules of every reached main.
use native.Mathlib.Omega.{arith}
use mathlib.Core.Path.{◌≡◌, refl, sym, ◌∙◌}
use mathlib.Core.Bool.{Bool}
use mathlib.Core.List.{List, [], ◌∷◌}
use mathlib.Core.Option.{Option, none, some}
use mathlib.Core.Logic.{◌⊎◌, inl, inr, ◌≢◌}
use Prim.Native.Nat.{ℕ, suc, ◌+◌, ◌<◌, ◌≤◌}
use native.Mathlib.Decide.{ℕ_discrete}
use lib.ListN.{length, get_or, set}
use lib.Seq.{get_or-set_same}
use Rattle.machine.specs.Tree.{walk, here, later, nth}
use Rattle.machine.specs.Machine.{Main, many, HasPair, Mem, word, main, view, Op, key, plain, Seat, idle, read, swap, parent, clean, State, seat, Expects, MainInUse, CellInUse, PairInUse, Alike, swung, Prepares, Cleans, Entry}
use Rattle.machine.proofs.Walk.{no_some}
use Rattle.machine.proofs.Inv.{cells, Does, Same, SeatOK, Pend, Shape, Inv}
use Rattle.machine.proofs.Keep.{gather_alike, is_reached, named, walk_alike, word_alike}
use Rattle.machine.proofs.Swing.{nth_cells, reached, word_here, word_there, word_was, free, back, index_new}
use Rattle.machine.proofs.Turns.{by_seat, ok_at, solid_prepares, solid_cleans}
use Rattle.machine.specs.Rules.{Rule, Kept, Ruled}
use Rattle.machine.proofs.Chunk.{Chunks}
use Rattle.machine.specs.Turn.{returns, swept, Goes, Turn}
use Rattle.machine.proofs.Laws.{Laws}
use Rattle.machine.proofs.Bearing.{Bears, bears_alike, prepares_bears}
use Rattle.machine.proofs.Rules.{prepares_rule, prepares_new_rule, prepares_slot, cleans_rule}

module _ {K : Type 0} (same : K → K → Bool) where
  -- A main keeps the rules where its pairs are as they were.
  pub kept_same : (xs ys : List (K × ℕ)) (i : ℕ) (X : Main) → ((p : ℕ) → HasPair X p → nth ys p ≡ nth xs p) → Kept same xs i X → Kept same ys i X
  kept_same xs ys i X f z = record { rule = go X f z.rule; inside = λ p h. let y = z.inside p h in (y.0, f p h ∙ y.1) }
    where
      go : (X : Main) → ((p : ℕ) → HasPair X p → nth ys p ≡ nth xs p) → Rule same xs i X → Rule same ys i X
      go (many ps) f r = (r.0, r.1, r.2, rw (gather_alike xs ys ps f) r.3)
      go X f r = r

module _ {K : Type 0} (same : K → K → Bool) (hash : K → ℕ) (chunk : ℕ → ℕ → ℕ) where
  -- What a pending swap would bring into reach keeps the rules; and a put that replaces has read a pair of an equal key.
  abbrev pub PendRule : Mem K → Seat K → Type 0
  PendRule m (swap o c cs e n mp new) = word m c ≡ e → Kept same m.pairs (length cs) (main m n)
      × ((t d x : ℕ) → nth new t ≡ some (d, x) → Kept same m.pairs (suc (length cs) + t) (main m x))
      × Bears same m.pairs (main m e) (chunk (hash (key o)) (length cs)) o
  PendRule m (clean o b d c cs e n) = word m c ≡ e → Kept same m.pairs (length cs) (main m n)
  PendRule m y = Unit {0}

  -- Every reached main keeps the rules, and so does what pending swaps would bring.
  pub record Lawful (m : Mem K) (xs : List (Seat K)) : Type 0 where
    pub ruled : Ruled same chunk m
    pub pends : (t : ℕ) → PendRule m (get_or xs t idle)

  lawful_set : (m m' : Mem K) (xs : List (Seat K)) (t : ℕ) (x : Seat K) → t < length xs → Ruled same chunk m'
      → ((u : ℕ) → u ≢ t → PendRule m' (get_or xs u idle)) → PendRule m' x → Lawful m' (set xs t x)
  lawful_set m m' xs t x l r ps px = record { ruled = r; pends = λ u. by_seat xs t u x (PendRule m') l (λ e. px) (ps u) }

  -- A seat prepares.
  module _ (s : State K) (m : Mem K) (al : Alike chunk s m) where
    ruled_alike : Ruled same chunk s.mem → Ruled same chunk m
    ruled_alike r h i c w =
        let v : walk chunk (view s.mem) h i ≡ some c = sym (walk_alike same hash chunk s m al h i) ∙ w in
        rw (word_alike same hash chunk s m al h i c v, al.mains (word s.mem c) (MainInUse.reached h i c v refl))
        (kept_same same s.mem.pairs m.pairs i (main s.mem (word s.mem c)) (λ p x. al.pairs p (PairInUse.reached h i c v x)) (r h i c v))

    pend_rule_alike : (u : ℕ) (y : Seat K) → seat s u ≡ y → SeatOK same hash chunk s.mem y → PendRule s.mem y → PendRule m y
    pend_rule_alike u (swap o c cs x n mp new) e ok z = λ w.
        let wo : word s.mem c ≡ x = sym (al.words c (CellInUse.on_path u (rw e here))) ∙ w in
        let at = named same hash chunk s.mem (Does same hash chunk o) (key o) c cs x n mp none new ok wo (λ p. nth m.pairs p ≡ nth s.mem.pairs p)
        (λ h i d p v y. al.pairs p (PairInUse.reached h i d v y)) (λ p y. al.pairs p (PairInUse.made u (rw e y))) in (
          rw (al.mains n (MainInUse.made u (rw e (inl refl)))) (kept_same same s.mem.pairs m.pairs (length cs) (main s.mem n) at.1 (z wo).0),
          λ t d y q. rw (al.mains y (MainInUse.made u (rw e (inr (t, d, q))))) (kept_same same s.mem.pairs m.pairs (suc (length cs) + t) (main s.mem y) (λ p h. at.2 t d y p q h) ((z wo).1 t d y q)),
          rw (al.mains x (MainInUse.expected u (rw e refl))) (bears_alike same s.mem.pairs m.pairs (main s.mem x) at.0 (chunk (hash (key o)) (length cs)) o (z wo).2),
        )
    pend_rule_alike u (clean o b d c cs x n) e ok z = λ w.
        let wo : word s.mem c ≡ x = sym (al.words c (CellInUse.on_path u (rw e (later here)))) ∙ w in
        let at = named same hash chunk s.mem (Same same hash chunk) (key o) c cs x n none (some d) [] ok.1 wo (λ p. nth m.pairs p ≡ nth s.mem.pairs p)
        (λ h i d p v y. al.pairs p (PairInUse.reached h i d v y)) (λ p y. absurd (no_some y)) in
        rw (al.mains n (MainInUse.made u (rw e refl))) (kept_same same s.mem.pairs m.pairs (length cs) (main s.mem n) at.1 (z wo))
    pend_rule_alike u y e ok z = tt

  -- A swap says yes.
  module _ (m : Mem K) (shape : Shape same hash chunk m) (R : K → Option (K × ℕ) → Option (K × ℕ) → Type 0) (k : K) (c : ℕ) (cs : List ℕ) (e n : ℕ) (mp td : Option ℕ) (new : List (ℕ × ℕ))
      (pend : Pend same hash chunk R m k c cs e n mp td new) (holds : word m c ≡ e) where
    -- A swap says yes: what it brings into reach keeps the rules.
    ruled_swung : Ruled same chunk m → Kept same m.pairs (length cs) (main m n)
        → ((t d x : ℕ) → nth new t ≡ some (d, x) → Kept same m.pairs (suc (length cs) + t) (main m x)) → Ruled same chunk (swung m c n)
    ruled_swung r kn kw h i d w = go (ℕ_discrete d c) (back same hash chunk m shape R k c cs e n mp td new pend holds h i d w)
      where
        go : Dec (d ≡ c) → (walk chunk (view m) h i ≡ some d) ⊎ ((t : ℕ) × (nth (cells new) t ≡ some d) × (i ≤ 7)) → Kept same m.pairs i (main m (word (swung m c n) d))
        go (yes p) (inl v) =
            let j : i ≡ length cs = shape.one.index h (hash k) i (length cs) c (rw p at v) (reached same hash chunk m shape R k c cs e n mp td new pend holds) in
            rw (p, word_here same hash chunk m shape R k c cs e n mp td new pend holds, j) kn
        go (yes p) (inr v) = absurd (free same hash chunk m shape R k c cs e n mp td new pend holds v.0 c (length cs) (hash k) (rw p at v.1)
            (reached same hash chunk m shape R k c cs e n mp td new pend holds))
        go (no ne) (inl v) = rw (word_there same hash chunk m shape R k c cs e n mp td new pend holds d ne) (r h i d v)
        go (no ne) (inr v) =
            let y = nth_cells new v.0 d v.1 in
            let j : i ≡ suc (length cs) + v.0 = index_new same hash chunk m shape R k c cs e n mp td new pend holds h i d v.0 w v.1 in
            rw (word_there same hash chunk m shape R k c cs e n mp td new pend holds d ne, pend.holds v.0 d y.0 y.1, j) (kw v.0 d y.0 y.1)

    -- Other pending swaps stay lawful.
    pend_rule_swung : (y : Seat K) → (Expects y n → ⊥) → PendRule m y → PendRule (swung m c n) y
    pend_rule_swung (swap o d ds e₂ n₂ mp₂ new₂) ne z = λ w. z (word_was same hash chunk m shape R k c cs e n mp td new pend holds d e₂ ne w)
    pend_rule_swung (clean o b d f ds e₂ n₂) ne z = λ w. z (word_was same hash chunk m shape R k c cs e n mp td new pend holds f e₂ ne w)
    pend_rule_swung y ne z = tt

  -- Turns that do not write leave nothing pending.
  goes_rule : (m : Mem K) (y x : Seat K) → Goes same hash chunk m y x → PendRule m x
  goes_rule m y x (Goes.leaves k d cs nt) = grind arith
  goes_rule m y x g = grind arith

  module _ (laws : Laws same hash) (chunks : Chunks chunk) (es fs : List (Entry K)) where
    -- The seat's own preparation of a swap.
    own_prepared : (s : State K) (m : Mem K) (al : Alike chunk s m) → Inv same hash chunk es s → Lawful s.mem s.seats
        → (t : ℕ) (o : Op K) (c : ℕ) (cs : List ℕ) (n : ℕ) (mp : Option ℕ) (new : List (ℕ × ℕ)) → seat s t ≡ read (plain o) (c ∷ cs)
        → Prepares same hash chunk m (main s.mem (word s.mem c)) (length cs) o (main m n) mp new
        → Pend same hash chunk (Does same hash chunk o) m (key o) c cs (word s.mem c) n mp none new
        → PendRule m (swap o c cs (word s.mem c) n mp new)
    own_prepared s m al v i t o c cs n mp new q pr pend =
        let p₀ : SeatOK same hash chunk s.mem (read (plain o) (c ∷ cs)) = rw q at (v.seats.ok t) in
        let reach : walk chunk (view s.mem) (hash (key (plain o))) (length cs) ≡ some c =
        is_reached same hash chunk s.mem (key (plain o)) (length cs) c p₀.0 (solid_prepares same hash chunk pr) in
        let kept_was : Kept same m.pairs (length cs) (main s.mem (word s.mem c)) =
        kept_same same s.mem.pairs m.pairs (length cs) (main s.mem (word s.mem c))
        (λ p x. al.pairs p (PairInUse.reached (hash (key (plain o))) (length cs) c reach x)) (i.ruled (hash (key (plain o))) (length cs) c reach) in
        λ w.
        let at = named same hash chunk m (Does same hash chunk o) (key o) c cs (word s.mem c) n mp none new pend w (λ p. (x : K × ℕ) × (nth m.pairs p ≡ some x))
        (λ h j d p u y. (ruled_alike s m al i.ruled h j d u).inside p y) (prepares_slot same hash chunk laws chunks pr) in (
          record { rule = prepares_rule same hash chunk laws chunks pr kept_was.rule; inside = at.1 },
          λ u d y z. record { rule = prepares_new_rule same hash chunk laws chunks pr u d y z; inside = λ p h. at.2 u d y p z h },
          rw (al.mains (word s.mem c) (MainInUse.reached (hash (key (plain o))) (length cs) c reach refl)) (prepares_bears same hash chunk laws pr kept_was.inside),
        )

    -- The seat's own preparation of a cleaning.
    own_cleaning : (s : State K) (m : Mem K) (al : Alike chunk s m) → Inv same hash chunk es s → Lawful s.mem s.seats
        → (t : ℕ) (o : Op K) (b d c : ℕ) (cs : List ℕ) (n : ℕ) → seat s t ≡ parent o b d (c ∷ cs)
        → Cleans same hash chunk (main s.mem (word s.mem c)) (length cs) (key o) d b (main m n)
        → Pend same hash chunk (Same same hash chunk) m (key o) c cs (word s.mem c) n none (some d) []
        → PendRule m (clean o b d c cs (word s.mem c) n)
    own_cleaning s m al v i t o b d c cs n q cl pend =
        let p₀ : SeatOK same hash chunk s.mem (parent o b d (c ∷ cs)) = rw q at (v.seats.ok t) in
        let reach : walk chunk (view s.mem) (hash (key o)) (length cs) ≡ some c = is_reached same hash chunk s.mem (key o) (length cs) c p₀.1.0 (solid_cleans same hash chunk cl) in
        let rule_was : Rule same m.pairs (length cs) (main s.mem (word s.mem c)) =
        (kept_same same s.mem.pairs m.pairs (length cs) (main s.mem (word s.mem c))
        (λ p x. al.pairs p (PairInUse.reached (hash (key o)) (length cs) c reach x)) (i.ruled (hash (key o)) (length cs) c reach)).rule in
        λ w.
        let at = named same hash chunk m (Same same hash chunk) (key o) c cs (word s.mem c) n none (some d) [] pend w (λ p. (x : K × ℕ) × (nth m.pairs p ≡ some x))
        (λ h j d p u y. (ruled_alike s m al i.ruled h j d u).inside p y) (λ p y. absurd (no_some y)) in
        record { rule = cleans_rule same hash chunk laws chunks m.pairs cl rule_was; inside = at.1 }

    -- Every turn keeps the rules; v and v' are what holds besides, before and after.
    pub lawful_keeps : (s s' : State K) (e : Option (Entry K)) → Turn same hash chunk s e s'
        → Inv same hash chunk es s → Inv same hash chunk fs s' → Lawful s.mem s.seats → Lawful s'.mem s'.seats
    lawful_keeps s s' e (Turn.goes t x n l le g) v v' i = lawful_set s.mem s.mem s.seats t x l i.ruled (λ u ne. i.pends u) (goes_rule s.mem (seat s t) x g)
    lawful_keeps s s' e (Turn.got t k c cs ps l q nt y) v v' i = lawful_set s.mem s.mem s.seats t idle l i.ruled (λ u ne. i.pends u) tt
    lawful_keeps s s' e (Turn.lacks t k c cs ps l q nt y f) v v' i = lawful_set s.mem s.mem s.seats t idle l i.ruled (λ u ne. i.pends u) tt
    lawful_keeps s s' e (Turn.prepared t o c cs n mp new m l q al un up fr pr) v v' i =
        let x : Seat K = swap o c cs (word s.mem c) n mp new in
        lawful_set s.mem m s.seats t x l (ruled_alike s m al i.ruled)
        (λ u ne. pend_rule_alike s m al u (seat s u) refl (v.seats.ok u) (i.pends u))
        (own_prepared s m al v i t o c cs n mp new q pr (rw (get_or-set_same s.seats t x idle l) at (v'.seats.ok t)))
    lawful_keeps s s' e (Turn.swapped t o c cs x n mp new l q h) v v' i =
        let pend : Pend same hash chunk (Does same hash chunk o) s.mem (key o) c cs x n mp none new = rw q at (v.seats.ok t) in
        let z : PendRule s.mem (swap o c cs x n mp new) = rw q at (i.pends t) in
        lawful_set s.mem (swung s.mem c n) s.seats t (swept o (c ∷ cs)) l
        (ruled_swung s.mem v.shape (Does same hash chunk o) (key o) c cs x n mp none new pend h i.ruled (z h).0 (z h).1)
        (λ u ne. pend_rule_swung s.mem v.shape (Does same hash chunk o) (key o) c cs x n mp none new pend h (seat s u)
        (v.seats.made_expected t u n (λ f. ne (sym f)) (rw q (inl refl))) (i.pends u))
        (grind arith)
    lawful_keeps s s' e (Turn.cleaning t o b d c cs n m l q al un cl) v v' i =
        let x : Seat K = clean o b d c cs (word s.mem c) n in
        let made : SeatOK same hash chunk m x = rw (get_or-set_same s.seats t x idle l) at (v'.seats.ok t) in
        lawful_set s.mem m s.seats t x l (ruled_alike s m al i.ruled)
        (λ u ne. pend_rule_alike s m al u (seat s u) refl (v.seats.ok u) (i.pends u))
        (own_cleaning s m al v i t o b d c cs n q cl made.1)
    lawful_keeps s s' e (Turn.cleaned t o b d c cs x n l q h) v v' i =
        let pend : Pend same hash chunk (Same same hash chunk) s.mem (key o) c cs x n none (some d) [] = (ok_at same hash chunk v.seats t (clean o b d c cs x n) q).1 in
        let z : PendRule s.mem (clean o b d c cs x n) = rw q at (i.pends t) in
        lawful_set s.mem (swung s.mem c n) s.seats t (returns o (c ∷ cs)) l
        (ruled_swung s.mem v.shape (Same same hash chunk) (key o) c cs x n none (some d) [] pend h i.ruled (z h) (λ u f y w. absurd (no_some w)))
        (λ u ne. pend_rule_swung s.mem v.shape (Same same hash chunk) (key o) c cs x n none (some d) [] pend h (seat s u)
        (v.seats.made_expected t u n (λ f. ne (sym f)) (rw q refl)) (i.pends u))
        (grind arith)
