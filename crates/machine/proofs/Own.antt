-- Each reached tomb has an owner: what holds besides, and the turns that do not write.
use native.Mathlib.Omega.{arith}
use mathlib.Core.Path.{◌≡◌, refl, sym, ap, ◌∙◌, subst}
use mathlib.Core.Bool.{Bool}
use mathlib.Core.List.{List, [], ◌∷◌}
use mathlib.Core.Option.{some}
use mathlib.Core.Logic.{◌⊎◌, inl, inr, ◌≢◌}
use Prim.Native.Nat.{ℕ, suc, ◌<◌}
use native.Mathlib.Decide.{ℕ_discrete}
use lib.ListN.{length, get_or, set}
use lib.Seq.{get_or-set_same, get_or-set_other}
use Rattle.machine.specs.Tree.{on, walk, In, later, nth}
use Rattle.machine.specs.Machine.{IsTomb, HasCell, Mem, word, main, view, Op, climb, key, plain, Seat, idle, read, swap, parent, clean, path, MakesCell}
use Rattle.machine.proofs.Walk.{some_is, walk_on, walk_back, root_is}
use Rattle.machine.proofs.Inv.{SeatOK}
use Rattle.machine.proofs.Keep.{is_reached}
use Rattle.machine.proofs.Turns.{by_seat, tomb_pairs}
use Rattle.machine.specs.Turn.{IsPlain, IsClimb, IsCutting, Settled, dropped, Goes, Owner, Owned}
use Rattle.machine.proofs.Trail.{Trail, TrailOK}
use Rattle.machine.proofs.Members.{in_one, in_split}

-- A call as it was opened has not settled.
plain_climb : {K : Type 0} (o : Op K) → IsPlain o → IsClimb o → ⊥
plain_climb o p c = grind arith

pub climb_plain : {K : Type 0} (o : Op K) → IsClimb (plain o) → ⊥
climb_plain o c = grind arith

pub dropped_in : {K : Type 0} (k : K) (cs : List ℕ) (d : ℕ) → In d (path (dropped k cs)) → In d cs
dropped_in k cs d j = grind arith

pub dropped_makes : {K : Type 0} (k : K) (cs : List ℕ) (d : ℕ) → MakesCell (dropped k cs) d → ⊥
dropped_makes k cs d j = grind arith

module _ {K : Type 0} (same : K → K → Bool) (hash : K → ℕ) (chunk : ℕ → ℕ → ℕ) where
  -- What a pending swap brings besides: a tomb comes of a cut below the root, no new cell holds a tomb, and a cleaning leaves no cell at the chunk.
  abbrev pub Extra : Mem K → Seat K → Type 0
  Extra m (swap o c cs e n mp new) = (IsTomb (main m n) → IsCutting o × (0 < length cs)) × ((t d x : ℕ) → nth new t ≡ some (d, x) → IsTomb (main m x) → ⊥)
  Extra m (clean o b d c cs e n) = (IsTomb (main m n) → 0 < length cs) × ((f : ℕ) → HasCell (main m n) (chunk (hash (key o)) (length cs)) f → ⊥)
  Extra m y = Unit {0}

  -- Each reached tomb lies on the path of an open settled cut, and what this rests on.
  pub record Owning (m : Mem K) (xs : List (Seat K)) : Type 0 where
    pub root_solid : IsTomb (main m (word m 0)) → ⊥
    pub trails : (t : ℕ) → TrailOK same hash chunk m (get_or xs t idle)
    pub extras : (t : ℕ) → Extra m (get_or xs t idle)
    -- New cells are on nobody's path.
    pub off : (t u d : ℕ) → MakesCell (get_or xs t idle) d → In d (path (get_or xs u idle)) → ⊥
    pub owned : Owned chunk m xs

  -- One seat is set.
  module _ (m m' : Mem K) (xs : List (Seat K)) (t : ℕ) (x : Seat K) (l : t < length xs) (i : Owning m xs) where
    -- An owner stays, or the seat that turns becomes one.
    owner_new : (c : ℕ) → Settled x × In c (path x) → Owner (set xs t x) c
    owner_new c z = (t, rw (get_or-set_same xs t x idle l) z.0, rw (get_or-set_same xs t x idle l) z.1)

    owner_set : (c : ℕ) → (Settled (get_or xs t idle) → In c (path (get_or xs t idle)) → Settled x × In c (path x)) → Owner xs c → Owner (set xs t x) c
    owner_set c f o = elim (ℕ_discrete o.0 t) [
      | yes e ↦ owner_new c (f (rw e at o.1) (rw e at o.2))
      | no e ↦ (o.0, rw (get_or-set_other xs t o.0 x idle e) o.1, rw (get_or-set_other xs t o.0 x idle e) o.2)
    ]

    -- The owners after it.
    pub owning_set : (IsTomb (main m' (word m' 0)) → ⊥)
        → ((u : ℕ) → u ≢ t → TrailOK same hash chunk m' (get_or xs u idle)) → TrailOK same hash chunk m' x
        → ((u : ℕ) → u ≢ t → Extra m' (get_or xs u idle)) → Extra m' x
        → ((d : ℕ) → MakesCell x d → In d (path x) → ⊥)
        → ((u d : ℕ) → u ≢ t → MakesCell x d → In d (path (get_or xs u idle)) → ⊥)
        → ((u d : ℕ) → u ≢ t → MakesCell (get_or xs u idle) d → In d (path x) → ⊥)
        → ((h j c : ℕ) → walk chunk (view m') h j ≡ some c → IsTomb (main m' (word m' c)) → Owner xs c ⊎ (Settled x × In c (path x)))
        → ((h j c : ℕ) → walk chunk (view m') h j ≡ some c → IsTomb (main m' (word m' c)) → Settled (get_or xs t idle) → In c (path (get_or xs t idle)) → Settled x × In c (path x))
        → Owning m' (set xs t x)
    owning_set r ts tx es ex o1 o2 o3 has keep = record {
      root_solid = r;
      trails = λ u. by_seat xs t u x (TrailOK same hash chunk m') l (λ e. tx) (ts u);
      extras = λ u. by_seat xs t u x (Extra m') l (λ e. ex) (es u);
      off = λ u w d. by_seat xs t u x (λ y. MakesCell y d → In d (path (get_or (set xs t x) w idle)) → ⊥) l
          (λ e. by_seat xs t w x (λ z. MakesCell x d → In d (path z) → ⊥) l (λ f. o1 d) (λ f. o2 w d f))
          (λ e. by_seat xs t w x (λ z. MakesCell (get_or xs u idle) d → In d (path z) → ⊥) l (λ f. o3 u d e) (λ f. i.off u w d));
      owned = λ h j c w z. elim (has h j c w z) [ inl o ↦ owner_set c (keep h j c w z) o | inr y ↦ owner_new c y ];
    }

  -- A settled cut that drops the last cell still has every reached tomb of the rest.
  pub dropped_trail : (m : Mem K) (k : K) (cs : List ℕ) → Trail same hash chunk m k cs → TrailOK same hash chunk m (dropped k cs)
  dropped_trail m k cs z = grind arith

  pub dropped_extra : (m : Mem K) (k : K) (cs : List ℕ) → Extra m (dropped k cs)
  dropped_extra m k cs = grind arith

  pub dropped_keeps : (m : Mem K) → (IsTomb (main m (word m 0)) → ⊥) → (k : K) (cs : List ℕ) → Trail same hash chunk m k cs
      → (h i x : ℕ) → walk chunk (view m) h i ≡ some x → IsTomb (main m (word m x)) → In x cs → Settled (dropped k cs) × In x (path (dropped k cs))
  dropped_keeps m r k [] z h i x w t j = elim j [ ]
  dropped_keeps m r k (c ∷ []) z h i x w t j =
      let p : x ≡ c = in_one x c j in
      let u = (z.0 h i (rw p at w)).0 in
      absurd (r (subst (λ (f : ℕ). IsTomb (main m (word m f))) (p ∙ sym (root_is chunk (view m) (hash k) c u)) t))
  dropped_keeps m r k (c ∷ d ∷ cs) z h i x w t j = (tt, j)

  -- What a turn that does not write owes.
  pub record GoesOK (m : Mem K) (y x : Seat K) : Type 0 where
    pub trail : TrailOK same hash chunk m x
    pub extra : Extra m x
    pub makes : (d : ℕ) → MakesCell x d → ⊥
    pub paths : (d : ℕ) → In d (path x) → In d (path y) ⊎ ((h i : ℕ) × (walk chunk (view m) h i ≡ some d))
    pub keeps : (h i c : ℕ) → walk chunk (view m) h i ≡ some c → IsTomb (main m (word m c)) → Settled y → In c (path y) → Settled x × In c (path x)

  -- A call that has not settled ends.
  pub rests_ok : (m : Mem K) (y : Seat K) → (Settled y → ⊥) → GoesOK m y idle
  rests_ok m y f = record { trail = tt; extra = tt; makes = λ d z. z; paths = λ d j. elim j [ ]; keeps = λ h i c w t z. absurd (f z) }

  -- It starts again.
  root_ok : (m : Mem K) (y : Seat K) (o : Op K) → (Settled y → ⊥) → GoesOK m y (read o (0 ∷ []))
  unfolding walk
  root_ok m y o f = record {
    trail = (λ h i w. (refl, tt), tt);
    extra = tt;
    makes = λ d z. z;
    paths = λ d j. inr (0, 0, ap some (sym (in_one d 0 j)));
    keeps = λ h i c w t z. absurd (f z);
  }

  -- A settled cut drops its last cell, where no tomb is reached.
  dropped_ok : (m : Mem K) → (IsTomb (main m (word m 0)) → ⊥) → (y : Seat K) (k : K) (d : ℕ) (cs : List ℕ) → path y ≡ d ∷ cs
      → Trail same hash chunk m k cs
      → ((h i : ℕ) → walk chunk (view m) h i ≡ some d → IsTomb (main m (word m d)) → ⊥) → GoesOK m y (dropped k cs)
  dropped_ok m r y k d cs p z no_d = record {
    trail = dropped_trail m k cs z;
    extra = dropped_extra m k cs;
    makes = dropped_makes k cs;
    paths = λ f j. inl (rw p (later (dropped_in k cs f j)));
    keeps = λ h i c w t s j. elim (in_split (rw p at j)) [
      | inl e ↦ absurd (no_d h i (rw e at w) (rw e at t))
      | inr l ↦ dropped_keeps m r k cs z h i c w t l
    ];
  }

  -- The last cell of a settled cut is named no more, so it is not reached.
  parted_ok : (m : Mem K) → (IsTomb (main m (word m 0)) → ⊥) → (k : K) (b d c : ℕ) (cs : List ℕ) → Trail same hash chunk m k (d ∷ c ∷ cs)
      → (view m c (chunk (hash k) (length cs)) ≡ on d → ⊥) → GoesOK m (parent (climb k) b d (c ∷ cs)) (dropped k (c ∷ cs))
  parted_ok m r k b d c cs z f =
      dropped_ok m r (parent (climb k) b d (c ∷ cs)) k d (c ∷ cs) refl z.1 (λ h i w t.
      let u = z.0 h i w in
      let v = walk_back chunk (view m) (hash k) (length cs) d u.0 in
      let p : v.0 ≡ c = some_is (sym v.1 ∙ u.1.0) in f (rw p at v.2))

  -- Every turn that does not write does what it owes.
  pub goes_ok : (m : Mem K) → (IsTomb (main m (word m 0)) → ⊥) → (y x : Seat K) → Goes same hash chunk m y x → SeatOK same hash chunk m y → TrailOK same hash chunk m y → GoesOK m y x
  goes_ok m r y x (Goes.opens o p) ok z = root_ok m idle o (λ e. e)
  goes_ok m r y x (Goes.down o c cs d p e) ok z =
      let w = is_reached same hash chunk m (key o) (length cs) c ok.0 (λ t. tomb_pairs same hash chunk m c (chunk (hash (key o)) (length cs)) d t e) in
      let v = walk_on chunk (view m) (hash (key o)) (length cs) c d w e in
      record {
        trail = (λ h i u. (v, z.0 (hash (key o)) (length cs) w), z);
        extra = tt;
        makes = λ f j. j;
        paths = λ f j. elim (in_split j) [ inl u ↦ inr (hash (key o), suc (length cs), rw u v) | inr l ↦ inl l ];
        keeps = λ h i f u t s. absurd (plain_climb o p s);
      }
  goes_ok m r y x (Goes.refused o cs p) ok z = rests_ok m (read o cs) (plain_climb o p)
  goes_ok m r y x (Goes.meets o b c cs t) ok z =
      record { trail = z; extra = tt; makes = λ f j. j; paths = λ f j. inl j; keeps = λ h i f u t s j. (s, j) }
  goes_ok m r y x (Goes.loses o c cs e n mp new) ok z = root_ok m (swap o c cs e n mp new) (plain o) (λ s. s)
  goes_ok m r y x (Goes.leaves k d cs nt) ok z = dropped_ok m r (read (climb k) (d ∷ cs)) k d cs refl z.1 (λ h i w t. nt t)
  goes_ok m r y x (Goes.parted (climb k) b d c cs f) ok z = parted_ok m r k b d c cs z f
  goes_ok m r y x (Goes.parted o b d c cs f) ok z = root_ok m (parent o b d (c ∷ cs)) o (λ s. s)
  goes_ok m r y x (Goes.fails (climb k) b d c cs e n) ok z =
      record { trail = z; extra = tt; makes = λ f j. j; paths = λ f j. inl j; keeps = λ h i f u t s j. (s, j) }
  goes_ok m r y x (Goes.fails o b d c cs e n) ok z = root_ok m (clean o b d c cs e n) o (λ s. s)

  -- A cell that a seat has made is not reached.
  pub cell_free : (m : Mem K) (y : Seat K) (d h i : ℕ) → SeatOK same hash chunk m y → MakesCell y d → walk chunk (view m) h i ≡ some d → ⊥
  cell_free m y d h i z e w = grind arith

  -- So it keeps the owners.
  pub owning_goes : (m : Mem K) (xs : List (Seat K)) (t : ℕ) (x : Seat K) → t < length xs → ((u : ℕ) → SeatOK same hash chunk m (get_or xs u idle)) → Owning m xs
      → GoesOK m (get_or xs t idle) x → Owning m (set xs t x)
  owning_goes m xs t x l ok i g =
      owning_set m m xs t x l i i.root_solid (λ u ne. i.trails u) g.trail (λ u ne. i.extras u) g.extra
      (λ d a b. g.makes d a) (λ u d ne a b. g.makes d a)
      (λ u d ne a b. elim (g.paths d b) [ inl j ↦ i.off u t d a j | inr w ↦ cell_free m (get_or xs u idle) d w.0 w.1 (ok u) a w.2 ])
      (λ h j c w z. inl (i.owned h j c w z)) g.keeps
