-- Every turn keeps the owners, so every run without a withdrawal does; and every turn is a step.
use mathlib.Core.Path.{◌≡◌, refl, sym, ap, ◌∙◌, subst}
use mathlib.Core.Bool.{Bool}
use mathlib.Core.List.{List, [], ◌∷◌}
use mathlib.Core.Option.{Option, none, some}
use mathlib.Core.Logic.{◌⊎◌, inl, inr, ◌≢◌}
use Prim.Native.Nat.{ℕ, suc, ◌<◌}
use native.Mathlib.Omega.{arith}
use native.Mathlib.Decide.{ℕ_discrete}
use lib.ListN.{length, set}
use lib.Seq.{get_or-set_same}
use Rattle.machine.specs.Tree.{walk, In, later, nth}
use Rattle.machine.specs.Machine.{nothing, pair, Main, IsTomb, HasCell, Mem, word, main, view, Op, climb, key, plain, Seat, idle, read, swap, parent, clean, path, State, seat, MakesCell, MainInUse, CellInUse, Alike, Prepares, Cleans, Chain, swung, Moves, Step, Entry, Formatted}
use Rattle.machine.proofs.Walk.{no_some}
use Rattle.machine.proofs.Members.{in_one, in_split}
use Rattle.machine.proofs.Inv.{Does, Same, SeatOK, Pend, Shape, Inv}
use Rattle.machine.proofs.Keep.{walk_alike, word_alike}
use Rattle.machine.proofs.Split.{cell_pair}
use Rattle.machine.proofs.Swing.{nth_cells, reached, word_here, word_there, reached_d, back}
use Rattle.machine.proofs.Turns.{key_plain, only_root}
use Rattle.machine.specs.Turn.{IsClimb, IsCutting, Settled, dropped, returns, swept, Goes, Turn, Owner}
use Rattle.machine.proofs.Trail.{Trail, TrailOK, trailok_same, seat_parent, gone, trailok_swung}
use Rattle.machine.proofs.Own.{climb_plain, dropped_in, Extra, Owning, owning_set, dropped_trail, dropped_keeps, rests_ok, goes_ok, cell_free, owning_goes}

module _ {K : Type 0} (same : K → K → Bool) (hash : K → ℕ) (chunk : ℕ → ℕ → ℕ) where
  -- Only a cut prepares a tomb, and below the root.
  prepares_cuts : {m : Mem K} {X : Main} {a : ℕ} {o : Op K} {Y : Main} {mp : Option ℕ} {new : List (ℕ × ℕ)} → Prepares same hash chunk m X a o Y mp new → IsTomb Y → IsCutting o × (0 < a)
  prepares_cuts pr t = grind arith

  -- New cells hold no tomb.
  chain_solid : {m : Mem K} {k : K} {r p : ℕ} {x : K × ℕ} {i : ℕ} {new : List (ℕ × ℕ)} → Chain same hash chunk m k r p x i new
      → (t d y : ℕ) → nth new t ≡ some (d, y) → IsTomb (main m y) → ⊥
  chain_solid (Chain.links i d n d' n' bs new e ag g1 g2 c) t f y q b = let h = λ (u : ℕ). chain_solid c u f y in grind arith
  chain_solid (Chain.ends i d n bs l e ne g1 g2 g3) t f y q b = grind arith
  chain_solid (Chain.ends_list i d n l e) t f y q b = grind arith

  prepares_new : {m : Mem K} {X : Main} {a : ℕ} {o : Op K} {Y : Main} {mp : Option ℕ} {new : List (ℕ × ℕ)} → Prepares same hash chunk m X a o Y mp new
      → (t d y : ℕ) → nth new t ≡ some (d, y) → IsTomb (main m y) → ⊥
  prepares_new (Prepares.splits k v bs r p x dd n rest xe l z slot apart slot_p chain) t d y q i = chain_solid chain t d y q i
  prepares_new pr t d y q i = no_some q

  -- A cleaning prepares a tomb only below the root, and leaves no cell at the chunk.
  cleans_below : {X : Main} {a : ℕ} {k : K} {d p : ℕ} {Y : Main} → Cleans same hash chunk X a k d p Y → IsTomb Y → 0 < a
  cleans_below cl t = grind arith

  pub cleans_unlinks : {X : Main} {a : ℕ} {k : K} {d p : ℕ} {Y : Main} → Cleans same hash chunk X a k d p Y → (f : ℕ) → HasCell Y (chunk (hash k) a) f → ⊥
  cleans_unlinks {a = a} {k = k} {p = p} (Cleans.contracts bs x l z more) f h = cell_pair (sym h ∙ get_or-set_same bs (chunk (hash k) a) (pair p) nothing l)
  cleans_unlinks (Cleans.entombs bs x z others pos) f h = h

  -- A seat prepares.
  module _ (s : State K) (m : Mem K) (al : Alike chunk s m) where
    extra_alike : (u : ℕ) (y : Seat K) → seat s u ≡ y → Extra same hash chunk s.mem y → Extra same hash chunk m y
    extra_alike u (swap o c cs x n mp new) e z = (
      λ t. z.0 (rw (al.mains n (MainInUse.made u (rw e (inl refl)))) at t),
      λ t d y q i. z.1 t d y q (rw (al.mains y (MainInUse.made u (rw e (inr (t, d, q))))) at i),
    )
    extra_alike u (clean o b d c cs x n) e z = (
      λ t. z.0 (rw (al.mains n (MainInUse.made u (rw e refl))) at t),
      λ f h. z.1 f (rw (al.mains n (MainInUse.made u (rw e refl))) at h),
    )
    extra_alike u y e z = tt

    -- A reached tomb was one before.
    tomb_was : (h i c : ℕ) → walk chunk (view m) h i ≡ some c → IsTomb (main m (word m c)) → (walk chunk (view s.mem) h i ≡ some c) × IsTomb (main s.mem (word s.mem c))
    tomb_was h i c w t =
        let v : walk chunk (view s.mem) h i ≡ some c = sym (walk_alike same hash chunk s m al h i) ∙ w in
        (v, rw (word_alike same hash chunk s m al h i c v, al.mains (word s.mem c) (MainInUse.reached h i c v refl)) at t)

    owning_alike : (t : ℕ) (x : Seat K) → t < length s.seats → Owning same hash chunk s.mem s.seats
        → path x ≡ path (seat s t) → TrailOK same hash chunk m x → Extra same hash chunk m x
        → ((d : ℕ) → MakesCell x d → CellInUse chunk s d → ⊥)
        → (Settled (seat s t) → Settled x)
        → Owning same hash chunk m (set s.seats t x)
    unfolding walk
    owning_alike t x l i p tx ex fr st =
        owning_set same hash chunk s.mem m s.seats t x l i
        (λ z. i.root_solid (tomb_was 0 0 0 refl z).1)
        (λ u ne. trailok_same same hash chunk s.mem m (walk_alike same hash chunk s m al) (seat s u) (i.trails u)) tx
        (λ u ne. extra_alike u (seat s u) refl (i.extras u)) ex
        (λ d a b. fr d a (CellInUse.on_path t (rw p at b)))
        (λ u d ne a b. fr d a (CellInUse.on_path u b))
        (λ u d ne a b. i.off u t d a (rw p at b))
        (λ h j c w z. let q = tomb_was h j c w z in inl (i.owned h j c q.0 q.1))
        (λ h j c w z a b. (st a, rw p b))

  -- A swap says yes.
  module _ (s : State K) (shape : Shape same hash chunk s.mem) (ok : (u : ℕ) → SeatOK same hash chunk s.mem (seat s u)) (i : Owning same hash chunk s.mem s.seats) (t : ℕ) (l : t < length s.seats)
      (R : K → Option (K × ℕ) → Option (K × ℕ) → Type 0) (k : K) (c : ℕ) (cs : List ℕ) (e n : ℕ) (mp td : Option ℕ) (new : List (ℕ × ℕ))
      (pend : Pend same hash chunk R s.mem k c cs e n mp td new) (holds : word s.mem c ≡ e)
      (unlinked : (d f : ℕ) → td ≡ some d → HasCell (main s.mem n) (chunk (hash k) (length cs)) f → ⊥)
      (below_root : IsTomb (main s.mem n) → 0 < length cs)
      (new_solid : (u d x : ℕ) → nth new u ≡ some (d, x) → IsTomb (main s.mem x) → ⊥)
      (makes_cell : (d : ℕ) → (u x : ℕ) × (nth new u ≡ some (d, x)) → MakesCell (seat s t) d) where
    abbrev m' : Mem K
    m' = swung s.mem c n

    tomb_here : (d : ℕ) → d ≡ c → IsTomb (main m' (word m' d)) → IsTomb (main s.mem n)
    tomb_here d p z =
        rw (word_here same hash chunk s.mem shape R k c cs e n mp td new pend holds) at (subst (λ (f : ℕ). IsTomb (main m' (word m' f))) p z)

    tomb_there : (d : ℕ) → d ≢ c → IsTomb (main m' (word m' d)) → IsTomb (main s.mem (word s.mem d))
    tomb_there d ne z = rw (word_there same hash chunk s.mem shape R k c cs e n mp td new pend holds d ne) at z

    -- The root holds no tomb.
    root_swung : IsTomb (main m' (word m' 0)) → ⊥
    unfolding walk
    root_swung z = elim (ℕ_discrete 0 c) [
      | yes p ↦
          let w = reached same hash chunk s.mem shape R k c cs e n mp td new pend holds in
          let a : length cs ≡ 0 = shape.one.index (hash k) (hash k) (length cs) 0 c w (ap some p) in
          let b = below_root (tomb_here 0 p z) in
          omega arith
      | no ne ↦ i.root_solid (tomb_there 0 ne z)
    ]

    trail_there : (u : ℕ) → TrailOK same hash chunk m' (seat s u)
    trail_there u = trailok_swung same hash chunk s.mem shape R k c cs e n mp td new pend holds unlinked (seat s u)
        (λ d j x. i.off t u d (makes_cell d x) j) (i.trails u)

    -- The owners after a swap.
    owning_swung : (x : Seat K) → TrailOK same hash chunk m' x → Extra same hash chunk m' x → ((d : ℕ) → MakesCell x d → ⊥)
        → ((d : ℕ) → In d (path x) → In d (path (seat s t)) ⊎ ((h j : ℕ) × (walk chunk (view s.mem) h j ≡ some d)))
        → (IsTomb (main s.mem n) → Owner s.seats c ⊎ (Settled x × In c (path x)))
        → ((h j d : ℕ) → walk chunk (view m') h j ≡ some d → IsTomb (main m' (word m' d)) → Settled (seat s t) → In d (path (seat s t)) → Settled x × In d (path x))
        → Owning same hash chunk m' (set s.seats t x)
    owning_swung x tx ex mk ps has keep =
        owning_set same hash chunk s.mem m' s.seats t x l i root_swung (λ u ne. trail_there u) tx
        (λ u ne. let z = i.extras u in grind arith) ex
        (λ d a b. mk d a) (λ u d ne a b. mk d a)
        (λ u d ne a b. elim (ps d b) [ inl j ↦ i.off u t d a j | inr w ↦ cell_free same hash chunk s.mem (seat s u) d w.0 w.1 (ok u) a w.2 ])
        (λ h j d w z. elim (ℕ_discrete d c) [
          | yes p ↦ rw p (has (tomb_here d p z))
          | no ne ↦ elim (back same hash chunk s.mem shape R k c cs e n mp td new pend holds h j d w) [
            | inl v ↦ inl (i.owned h j d v (tomb_there d ne z))
            | inr v ↦
                let y = nth_cells new v.0 d v.1 in
                absurd (new_solid v.0 d y.0 y.1 (rw (pend.holds v.0 d y.0 y.1) at (tomb_there d ne z)))
          ]
        ])
        keep

    -- Whoever cleans: who owned the tomb owns the cell above it, if that becomes a tomb.
    helped : (d : ℕ) → td ≡ some d → Owner s.seats c
    helped d x =
        let v = reached_d same hash chunk s.mem shape R k c cs e n mp td new pend holds d x in
        let o = i.owned (hash k) (suc (length cs)) d v (pend.tomb_at_lem d x) in (
          o.0,
          o.1,
          seat_parent same hash chunk s.mem shape.one k (length cs) c d
              (reached same hash chunk s.mem shape R k c cs e n mp td new pend holds) v (seat s o.0) (i.trails o.0) o.2,
        )

  -- A swap says yes: a cut that made a tomb owns it.
  owning_swapped : (s : State K) → Shape same hash chunk s.mem → ((u : ℕ) → SeatOK same hash chunk s.mem (seat s u)) → Owning same hash chunk s.mem s.seats
      → (t : ℕ) (o : Op K) (c : ℕ) (cs : List ℕ) (e n : ℕ) (mp : Option ℕ) (new : List (ℕ × ℕ)) → t < length s.seats
      → seat s t ≡ swap o c cs e n mp new → word s.mem c ≡ e → Owning same hash chunk (swung s.mem c n) (set s.seats t (swept o (c ∷ cs)))
  owning_swapped s shape ok i t o c cs e n mp new l q holds =
      let makes : (d : ℕ) → (u x : ℕ) × (nth new u ≡ some (d, x)) → MakesCell (seat s t) d = λ d z. rw q z in
      let unlinked : (d f : ℕ) → none ≡ some d → HasCell (main s.mem n) (chunk (hash (key o)) (length cs)) f → ⊥ = λ d f x h. no_some x in
      let pend : Pend same hash chunk (Does same hash chunk o) s.mem (key o) c cs e n mp none new = rw q at (ok t) in
      let ex : Extra same hash chunk s.mem (swap o c cs e n mp new) = rw q at (i.extras t) in
      let tr : Trail same hash chunk (swung s.mem c n) (key o) (c ∷ cs) =
      rw q at (trail_there s shape ok i t l (Does same hash chunk o) (key o) c cs e n mp none new pend holds unlinked (λ z. (ex.0 z).1) ex.1 makes t) in
      owning_swung s shape ok i t l (Does same hash chunk o) (key o) c cs e n mp none new pend holds unlinked (λ z. (ex.0 z).1) ex.1 makes
      (swept o (c ∷ cs)) (grind arith) (grind arith) (grind arith)
      (λ d j. inl (rw q (grind arith)))
      (λ z. let w = ex.0 z in inr (grind (arith, In.here)))
      (λ h j d w z a b. absurd (rw q at a))

  root_trail : (m : Mem K) (k : K) → Trail same hash chunk m k (0 ∷ [])
  unfolding walk
  root_trail m k = (λ h i w. (refl, tt), tt)

  -- The seat after its cleaning swap said yes.
  returns_trail : (m : Mem K) (o : Op K) (cs : List ℕ) → Trail same hash chunk m (key o) cs → TrailOK same hash chunk m (returns o cs)
  returns_trail m (climb k) cs z = dropped_trail same hash chunk m k cs z
  returns_trail m o cs z = root_trail m (key o)

  returns_in : (m : Mem K) (o : Op K) (cs : List ℕ) (d : ℕ) → In d (path (returns o cs)) → In d cs ⊎ ((h j : ℕ) × (walk chunk (view m) h j ≡ some d))
  unfolding walk
  returns_in m (climb k) cs d j = inl (dropped_in k cs d j)
  returns_in m o cs d j = inr (0, 0, ap some (sym (in_one d 0 j)))

  -- A cleaning swap says yes.
  owning_cleaned : (s : State K) → Shape same hash chunk s.mem → ((u : ℕ) → SeatOK same hash chunk s.mem (seat s u)) → Owning same hash chunk s.mem s.seats
      → (t : ℕ) (o : Op K) (b d c : ℕ) (cs : List ℕ) (e n : ℕ) → t < length s.seats
      → seat s t ≡ clean o b d c cs e n → word s.mem c ≡ e → Owning same hash chunk (swung s.mem c n) (set s.seats t (returns o (c ∷ cs)))
  owning_cleaned s shape ok i t o b d c cs e n l q holds =
      let ex : Extra same hash chunk s.mem (clean o b d c cs e n) = rw q at (i.extras t) in
      let makes : (f : ℕ) → (u x : ℕ) × (◌≡◌ {A = Option (ℕ × ℕ)} none (some (f, x))) → MakesCell (seat s t) f = λ f z. absurd (no_some z.2) in
      let unlinked : (g f : ℕ) → some d ≡ some g → HasCell (main s.mem n) (chunk (hash (key o)) (length cs)) f → ⊥ = λ g f x h. ex.1 f h in
      let pend : Pend same hash chunk (Same same hash chunk) s.mem (key o) c cs e n none (some d) [] =
      let both : SeatOK same hash chunk s.mem (clean o b d c cs e n) = rw q at (ok t) in both.1 in
      let tr : Trail same hash chunk (swung s.mem c n) (key o) (d ∷ c ∷ cs) =
      rw q at (trail_there s shape ok i t l (Same same hash chunk) (key o) c cs e n none (some d) [] pend holds unlinked ex.0 (λ u f x y z. no_some y) makes t) in
      owning_swung s shape ok i t l (Same same hash chunk) (key o) c cs e n none (some d) [] pend holds unlinked ex.0 (λ u f x y z. no_some y) makes
      (returns o (c ∷ cs)) (returns_trail (swung s.mem c n) o (c ∷ cs) tr.1) (grind arith) (grind arith)
      (λ f j. elim (returns_in s.mem o (c ∷ cs) f j) [ inl j ↦ inl (rw q (later j)) | inr w ↦ inr w ])
      (λ z. inl (helped s shape ok i t l (Same same hash chunk) (key o) c cs e n none (some d) [] pend holds unlinked ex.0 (λ u f x y z. no_some y) makes d refl))
      (λ h j f w z a b. elim (in_split (rw q at b)) [
        | inl g ↦ absurd (gone same hash chunk s.mem shape (Same same hash chunk) (key o) c cs e n none (some d) [] pend holds unlinked d h j refl (rw g at w))
        | inr r ↦
            let root = root_swung s shape ok i t l (Same same hash chunk) (key o) c cs e n none (some d) [] pend holds unlinked ex.0 (λ u f x y z. no_some y) makes in
            let keeps = λ (k : K) (y : Trail same hash chunk (swung s.mem c n) k (c ∷ cs)). dropped_keeps same hash chunk (swung s.mem c n) root k (c ∷ cs) y h j f w z r in
            let climbs : IsClimb o = rw q at a in let trail = tr.1 in grind arith
      ])

  -- What a seat does without writing is one of the machine's moves.
  leaves_moves : (m : Mem K) (k : K) (d : ℕ) (cs : List ℕ) → Moves same hash chunk m (read (climb k) (d ∷ cs)) (dropped k cs)
  leaves_moves m k d (c ∷ f ∷ cs) = Moves.up (climb k) d (c ∷ f ∷ cs)
  leaves_moves m k d cs = Moves.rest (read (climb k) (d ∷ cs))

  parted_moves : (m : Mem K) (k : K) (b d : ℕ) (cs : List ℕ) → Moves same hash chunk m (parent (climb k) b d cs) (dropped k cs)
  parted_moves m k b d (c ∷ f ∷ cs) = Moves.turns (climb k) b d (c ∷ f ∷ cs)
  parted_moves m k b d cs = Moves.rest (parent (climb k) b d cs)

  pub goes_moves : (m : Mem K) (y x : Seat K) → Goes same hash chunk m y x → Moves same hash chunk m y x
  goes_moves m y x (Goes.opens o p) = Moves.root idle o
  goes_moves m y x (Goes.down o c cs d p e) = Moves.down o c cs d e
  goes_moves m y x (Goes.refused o cs p) = Moves.rest (read o cs)
  goes_moves m y x (Goes.meets o b c cs t) = Moves.meets o b c cs t
  goes_moves m y x (Goes.loses o c cs e n mp new) = Moves.root (swap o c cs e n mp new) (plain o)
  goes_moves m y x (Goes.leaves k d cs nt) = leaves_moves m k d cs
  goes_moves m y x (Goes.parted (climb k) b d c cs f) = parted_moves m k b d (c ∷ cs)
  goes_moves m y x (Goes.parted o b d c cs f) = Moves.root (parent o b d (c ∷ cs)) o
  goes_moves m y x (Goes.fails (climb k) b d c cs e n) = Moves.misses (climb k) b d c cs e n
  goes_moves m y x (Goes.fails o b d c cs e n) = Moves.root (clean o b d c cs e n) o

  -- After a swap that said yes, a call has ended, or climbs.
  pub swept_next : (o : Op K) (c : ℕ) (cs : List ℕ) → (swept o (c ∷ cs) ≡ idle) ⊎ (swept o (c ∷ cs) ≡ read (climb (key o)) (c ∷ cs))
  swept_next o c cs = grind arith

  -- After a cleaning swap that said yes, a call has ended, starts again, or goes on above.
  pub returns_next : (o : Op K) (c : ℕ) (cs : List ℕ) → (returns o (c ∷ cs) ≡ idle) ⊎ ((returns o (c ∷ cs) ≡ read o (0 ∷ [])) ⊎ (returns o (c ∷ cs) ≡ read o (c ∷ cs)))
  returns_next o c cs = grind arith

  -- So every exact turn is a step of the machine, and the log of a run by exact turns stands.
  pub turn_step : (s s' : State K) (e : Option (Entry K)) → Turn same hash chunk s e s' → Step same hash chunk s e s'
  turn_step s s' e (Turn.goes t x n l le g) = Step.moves t x n l le (goes_moves s.mem (seat s t) x g)
  turn_step s s' e (Turn.got t k c cs ps l q nt v) = Step.got t k c cs ps l q nt v
  turn_step s s' e (Turn.lacks t k c cs ps l q nt v f) = Step.lacks t k c cs ps l q nt v f
  turn_step s s' e (Turn.prepared t o c cs n mp new m l q al un up fr pr) = Step.prepared t o c cs n mp new m l q al un up fr pr
  turn_step s s' e (Turn.swapped t o c cs x n mp new l q h) = Step.swapped t o c cs x n mp new (swept o (c ∷ cs)) l q h (swept_next o c cs)
  turn_step s s' e (Turn.cleaning t o b d c cs n m l q al un cl) = Step.cleaning t o b d c cs n m l q al un cl
  turn_step s s' e (Turn.cleaned t o b d c cs x n l q h) = Step.cleaned t o b d c cs x n (returns o (c ∷ cs)) l q h (returns_next o c cs)

  -- Every turn keeps the owners.
  pub owning_keeps : (es : List (Entry K)) (s s' : State K) (e : Option (Entry K)) → Turn same hash chunk s e s'
      → Inv same hash chunk es s → Owning same hash chunk s.mem s.seats → Owning same hash chunk s'.mem s'.seats
  owning_keeps es s s' e (Turn.goes t x n l le g) v i =
      owning_goes same hash chunk s.mem s.seats t x l v.seats.ok i
      (goes_ok same hash chunk s.mem i.root_solid (seat s t) x g (v.seats.ok t) (i.trails t))
  owning_keeps es s s' e (Turn.got t k c cs ps l q nt y) v i =
      owning_goes same hash chunk s.mem s.seats t idle l v.seats.ok i (rests_ok same hash chunk s.mem (seat s t) (λ z. rw q at z))
  owning_keeps es s s' e (Turn.lacks t k c cs ps l q nt y f) v i =
      owning_goes same hash chunk s.mem s.seats t idle l v.seats.ok i (rests_ok same hash chunk s.mem (seat s t) (λ z. rw q at z))
  owning_keeps es s s' e (Turn.prepared t o c cs n mp new m l q al un up fr pr) v i =
      owning_alike s m al t (swap o c cs (word s.mem c) n mp new) l i (rw q)
      (subst (λ (j : K). Trail same hash chunk m j (c ∷ cs)) (key_plain o) (rw q at (trailok_same same hash chunk s.mem m (walk_alike same hash chunk s m al) (seat s t) (i.trails t))))
      (prepares_cuts pr, prepares_new pr)
      (λ d x. fr.cells x.0 d x.1 x.2) (λ z. climb_plain o (rw q at z))
  owning_keeps es s s' e (Turn.swapped t o c cs x n mp new l q h) v i = owning_swapped s v.shape v.seats.ok i t o c cs x n mp new l q h
  owning_keeps es s s' e (Turn.cleaning t o b d c cs n m l q al un cl) v i =
      owning_alike s m al t (clean o b d c cs (word s.mem c) n) l i (rw q)
      (rw q at (trailok_same same hash chunk s.mem m (walk_alike same hash chunk s m al) (seat s t) (i.trails t)))
      (cleans_below cl, cleans_unlinks cl) (λ f x. absurd x) (λ z. rw q at z)
  owning_keeps es s s' e (Turn.cleaned t o b d c cs x n l q h) v i = owning_cleaned s v.shape v.seats.ok i t o b d c cs x n l q h

  -- At the start there is no tomb.
  pub owning_begins : (s : State K) → Formatted s → Owning same hash chunk s.mem s.seats
  owning_begins s f =
      let root : IsTomb (main s.mem (word s.mem 0)) → ⊥ = λ z. rw f.root.1 at z in
      record {
        root_solid = root;
        trails = λ t. rw (f.idles t) tt;
        extras = λ t. rw (f.idles t) tt;
        off = λ t u d a b. rw (f.idles t) at a;
        owned = λ h i c w z. absurd (root (subst (λ (d : ℕ). IsTomb (main s.mem (word s.mem d))) (only_root same hash chunk s f h i c w).1 z));
      }
