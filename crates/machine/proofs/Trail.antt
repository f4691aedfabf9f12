-- A cell of a path that is reached is reached along the path, and stays so.
use mathlib.Core.Path.{◌≡◌, sym, ◌∙◌}
use mathlib.Core.Bool.{Bool}
use mathlib.Core.List.{List, [], ◌∷◌}
use mathlib.Core.Option.{Option, some}
use mathlib.Core.Logic.{inl, inr}
use Prim.Native.Nat.{ℕ, suc}
use native.Mathlib.Omega.{arith}
use lib.ListN.{length}
use Rattle.machine.specs.Tree.{on, Agree, walk, Prefixed, In, here, later, nth}
use Rattle.machine.specs.Machine.{HasCell, Mem, word, main, view, key, Seat, idle, read, swap, parent, clean, path, swung}
use Rattle.machine.proofs.Walk.{some_is, walk_back, walk_agree}
use Rattle.machine.proofs.Inv.{Pend, Shape}
use Rattle.machine.proofs.Keep.{face_cell}
use Rattle.machine.proofs.Swing.{nth_cells, solid_c, reached, view_new, reached_d, free, back, onward}
use Rattle.machine.proofs.Turns.{tomb_pairs}

module _ {K : Type 0} (same : K → K → Bool) (hash : K → ℕ) (chunk : ℕ → ℕ → ℕ) where
  -- All of the path is reached along the key's hash.
  abbrev pub Whole : Mem K → K → List ℕ → Type 0
  Whole m k [] = Unit {0}
  Whole m k (c ∷ cs) = (walk chunk (view m) (hash k) (length cs) ≡ some c) × Whole m k cs

  -- A cell of the path that is reached at all has all of the path above it reached.
  abbrev pub Trail : Mem K → K → List ℕ → Type 0
  Trail m k [] = Unit {0}
  Trail m k (c ∷ cs) = ((h i : ℕ) → walk chunk (view m) h i ≡ some c → Whole m k (c ∷ cs)) × Trail m k cs

  -- So it is with the path of a seat.
  abbrev pub TrailOK : Mem K → Seat K → Type 0
  TrailOK m idle = Unit {0}
  TrailOK m (read o cs) = Trail m (key o) cs
  TrailOK m (swap o c cs e n mp new) = Trail m (key o) (c ∷ cs)
  TrailOK m (parent o b d cs) = Trail m (key o) (d ∷ cs)
  TrailOK m (clean o b d c cs e n) = Trail m (key o) (d ∷ c ∷ cs)

  -- Where the walks are as before.
  module _ (m n : Mem K) (f : (h i : ℕ) → walk chunk (view n) h i ≡ walk chunk (view m) h i) where
    pub whole_same : (k : K) (cs : List ℕ) → Whole m k cs → Whole n k cs
    whole_same k [] z = tt
    whole_same k (c ∷ cs) z = (f (hash k) (length cs) ∙ z.0, whole_same k cs z.1)

    pub trail_same : (k : K) (cs : List ℕ) → Trail m k cs → Trail n k cs
    trail_same k [] z = tt
    trail_same k (c ∷ cs) z = (λ h i w. whole_same k (c ∷ cs) (z.0 h i (sym (f h i) ∙ w)), trail_same k cs z.1)

    pub trailok_same : (y : Seat K) → TrailOK m y → TrailOK n y
    trailok_same idle z = tt
    trailok_same y z = trail_same _ (path y) z

  -- A path that has a reached cell d has the cell c that names d too.
  module _ (m : Mem K) (one : Prefixed chunk (view m)) (k : K) (a c d : ℕ)
      (w : walk chunk (view m) (hash k) a ≡ some c) (v : walk chunk (view m) (hash k) (suc a) ≡ some d) where
    trail_parent : (l : K) (ds : List ℕ) → Trail m l ds → In d ds → In c ds
    trail_parent l [] z j = elim j [ ]
    trail_parent l (d ∷ ds) z (In.here) = go ds (z.0 (hash k) (suc a) v)
      where
        go : (fs : List ℕ) → Whole m l (d ∷ fs) → In c (d ∷ fs)
        go [] x = absurd (let p = one.index (hash l) (hash k) 0 (suc a) d x.0 v in omega arith)
        go (f ∷ fs) x =
            let p : suc (length fs) ≡ suc a = one.index (hash l) (hash k) (suc (length fs)) (suc a) d x.0 v in
            let q : length fs ≡ a = omega arith in
            let g : Agree chunk (hash l) (hash k) (suc (length fs)) = one.chunks (hash l) (hash k) (suc (length fs)) (suc a) d x.0 v in
            let u = walk_agree chunk (view m) (hash l) (hash k) (length fs) (λ j le. g j (omega arith)) in
            let e : c ≡ f = some_is (sym w ∙ (rw q at (sym u ∙ x.1.0))) in
            rw e (In.later In.here)
    trail_parent l (f ∷ ds) z (In.later j) = later (trail_parent l ds z.1 j)

    pub seat_parent : (y : Seat K) → TrailOK m y → In d (path y) → In c (path y)
    seat_parent idle z j = elim j [ ]
    seat_parent y z j = trail_parent _ (path y) z j

  -- A swap says yes.
  module _ (m : Mem K) (shape : Shape same hash chunk m)
      (R : K → Option (K × ℕ) → Option (K × ℕ) → Type 0) (k : K) (c : ℕ) (cs : List ℕ) (e n : ℕ) (mp td : Option ℕ) (new : List (ℕ × ℕ))
      (pend : Pend same hash chunk R m k c cs e n mp td new) (holds : word m c ≡ e)
      (unlinked : (d f : ℕ) → td ≡ some d → HasCell (main m n) (chunk (hash k) (length cs)) f → ⊥) where
    -- The cell that a swap cuts off is not reached after it.
    pub gone : (d h i : ℕ) → td ≡ some d → walk chunk (view (swung m c n)) h i ≡ some d → ⊥
    gone d h i x w =
        let v : walk chunk (view m) (hash k) (suc (length cs)) ≡ some d = reached_d same hash chunk m shape R k c cs e n mp td new pend holds d x in
        elim (back same hash chunk m shape R k c cs e n mp td new pend holds h i d w) [
          | inr y ↦ free same hash chunk m shape R k c cs e n mp td new pend holds y.0 d (suc (length cs)) (hash k) y.1 v
          | inl y ↦
              let p : i ≡ suc (length cs) = shape.one.index h (hash k) i (suc (length cs)) d y v in
              let g : Agree chunk h (hash k) (suc (length cs)) = rw p at (shape.one.chunks h (hash k) i (suc (length cs)) d y v) in
              let r : walk chunk (view m) h (length cs) ≡ some c =
              walk_agree chunk (view m) h (hash k) (length cs) (λ j l. g j (omega arith)) ∙ reached same hash chunk m shape R k c cs e n mp td new pend holds in
              elim (onward same hash chunk m shape R k c cs e n mp td new pend holds h (length cs) c r) [
                | inl u ↦
                    let b = walk_back chunk (view (swung m c n)) h (length cs) d (rw p at w) in
                    let q : b.0 ≡ c = some_is (sym b.1 ∙ u) in
                    let z : view (swung m c n) c (chunk (hash k) (length cs)) ≡ on d = rw (q, g (length cs) (omega arith)) at b.2 in
                    unlinked d d x (face_cell m.pairs (main m n) (chunk (hash k) (length cs)) d
                    (rw (view_new same hash chunk m shape R k c cs e n mp td new pend holds) at z))
                | inr u ↦ solid_c same hash chunk m shape R k c cs e n mp td new pend holds (pend.tomb_at_lem c u)
              ]
        ]

    -- Any other cell that was reached still is.
    keep : (l : K) (d i : ℕ) → walk chunk (view m) (hash l) i ≡ some d → (td ≡ some d → ⊥) → walk chunk (view (swung m c n)) (hash l) i ≡ some d
    keep l d i w f = elim (onward same hash chunk m shape R k c cs e n mp td new pend holds (hash l) i d w) [ inl v ↦ v | inr x ↦ absurd (f x) ]

    -- What was wholly reached still is, up to a cell that is not cut off.
    whole_on : (l : K) (d : ℕ) (ds : List ℕ) → Whole m l (d ∷ ds) → (td ≡ some d → ⊥) → Whole (swung m c n) l (d ∷ ds)
    whole_on l d [] z f = (keep l d 0 z.0 f, tt)
    whole_on l d (g ∷ ds) z f =
        let b = walk_back chunk (view m) (hash l) (length ds) d z.0 in
        let p : b.0 ≡ g = some_is (sym b.1 ∙ z.1.0) in (
          keep l d (suc (length ds)) z.0 f,
          whole_on l g ds z.1 (λ x. tomb_pairs same hash chunk m g (chunk (hash l) (length ds)) d (pend.tomb_at_lem g x) (rw p at b.2)),
        )

    -- Paths keep their trail.
    pub trail_swung : (l : K) (ds : List ℕ) → ((d : ℕ) → In d ds → (t x : ℕ) × (nth new t ≡ some (d, x)) → ⊥) → Trail m l ds → Trail (swung m c n) l ds
    trail_swung l [] f z = tt
    trail_swung l (d ∷ ds) f z = (
      λ h i w. elim (back same hash chunk m shape R k c cs e n mp td new pend holds h i d w) [
        | inl v ↦ whole_on l d ds (z.0 h i v) (λ x. gone d h i x w)
        | inr y ↦ let u = nth_cells new y.0 d y.1 in absurd (f d here (y.0, u.0, u.1))
      ],
      trail_swung l ds (λ g j. f g (later j)) z.1,
    )

    pub trailok_swung : (y : Seat K) → ((d : ℕ) → In d (path y) → (t x : ℕ) × (nth new t ≡ some (d, x)) → ⊥) → TrailOK m y → TrailOK (swung m c n) y
    trailok_swung idle f z = tt
    trailok_swung y f z = trail_swung _ (path y) f z
