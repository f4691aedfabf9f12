-- A sound tree is compact.
use mathlib.Core.Path.{◌≡◌, refl, sym, ◌∙◌}
use mathlib.Core.Bool.{Bool}
use mathlib.Core.List.{List}
use mathlib.Core.Option.{some}
use mathlib.Core.Logic.{◌⊎◌, inl, inr}
use Prim.Native.Nat.{ℕ, zero, suc, ◌+◌, ◌-◌, ◌<◌, ◌≤◌}
use native.Mathlib.Omega.{arith}
use native.Mathlib.Decide.{ℕ_discrete}
use lib.Dec.{T}
use Rattle.machine.specs.Tree.{Spot, stands, on, Tree, Agree, walk, In, Home, Placed}
use Rattle.machine.proofs.Walk.{some_is, walk_on, walk_back, walk_agree}
use Rattle.machine.proofs.Graft.{clash}
use Rattle.machine.specs.Rest.{Held, Shared, Stood, Compact}

-- The same stands at every chunk: a tomb or a list.
abbrev pub Even : {K : Type 0} → Tree K → ℕ → Type 0
Even M c = (q r : ℕ) → M c q ≡ M c r

-- A cell has a cell after it, or two different pairs.
pub data Rich {K : Type 0} (same : K → K → Bool) (M : Tree K) (c : ℕ) : Type 0 where
  deep : (q d : ℕ) → M c q ≡ on d → Rich same M c
  wide : (q r : ℕ) (ps qs : List (K × ℕ)) (x y : K × ℕ) → M c q ≡ stands ps → In x ps → M c r ≡ stands qs → In y qs
      → (T (same x.0 y.0) → ⊥) → Rich same M c

-- What makes a tree compact.
pub record Sound {K : Type 0} (same : K → K → Bool) (hash : K → ℕ) (chunk : ℕ → ℕ → ℕ) (M : Tree K) : Type 0 where
  pub low : (h i c : ℕ) → walk chunk M h i ≡ some c → i ≤ 7
  pub placed : Placed hash chunk M (Even M)
  pub rich : (h i c : ℕ) → walk chunk M h i ≡ some c → 1 ≤ i → Rich same M c
  pub single : (h i c q : ℕ) (ps : List (K × ℕ)) (x y : K × ℕ) → walk chunk M h i ≡ some c → i < 7 → M c q ≡ stands ps → In x ps → In y ps
      → T (same x.0 y.0)
  -- Each named cell has a hash that leads to it.
  pub led : (h i c q d : ℕ) → walk chunk M h i ≡ some c → M c q ≡ on d → (g : ℕ) × Agree chunk g h i × (chunk g i ≡ q)

pub below : (a b : ℕ) → (a < b) ⊎ (b ≤ a)
below a b = grind arith

pub pairs_are : {K : Type 0} {ps qs : List (K × ℕ)} → ◌≡◌ {A = Spot K} (stands ps) (stands qs) → ps ≡ qs
pairs_are e = cc

-- A walk has a cell at each index before.
pub walk_earlier : {K : Type 0} (chunk : ℕ → ℕ → ℕ) (M : Tree K) (h j i c : ℕ) → j ≤ i → walk chunk M h i ≡ some c → Stood chunk M h j
walk_earlier chunk M h j zero c l w = let e : j ≡ 0 = omega arith in (c, rw e w)
walk_earlier chunk M h j (suc i) c l w =
    let b = walk_back chunk M h i c w in
    elim (ℕ_discrete j (suc i)) [ yes e ↦ (c, rw e w) | no ne ↦ walk_earlier chunk M h j i b.0 (omega arith) b.1 ]

agree_via : (chunk : ℕ → ℕ → ℕ) (x g h i : ℕ) → Agree chunk x g (suc i) → Agree chunk g h i → Agree chunk x h i
agree_via chunk x g h i a b j l = a j (omega arith) ∙ b j l

-- A pair, in the cell to which its own hash leads.
record Own {K : Type 0} (hash : K → ℕ) (chunk : ℕ → ℕ → ℕ) (M : Tree K) (x : K × ℕ) : Type 0 where
  index : ℕ
  cell : ℕ
  all : List (K × ℕ)
  reached : walk chunk M (hash x.0) index ≡ some cell
  shows : M cell (chunk (hash x.0) index) ≡ stands all
  among : In x all

module _ {K : Type 0} (same : K → K → Bool) (hash : K → ℕ) (chunk : ℕ → ℕ → ℕ) (M : Tree K) (s : Sound same hash chunk M) where
  -- Every reached pair is so.
  own : (x : K × ℕ) → Held chunk M x → Own hash chunk M x
  own x h =
      let home : Home hash chunk (Even M h.cell) h.along h.index h.place x = s.placed h.along h.index h.cell h.place h.all x h.reached h.shows h.among in
      record {
        index = h.index;
        cell = h.cell;
        all = h.all;
        among = h.among;
        reached = walk_agree chunk M (hash x.0) h.along h.index home.agrees ∙ h.reached;
        shows = elim home.proper [ inl e ↦ rw e h.shows | inr f ↦ f (chunk (hash x.0) h.index) h.place ∙ h.shows ];
      }

  held : (h i c q : ℕ) (ps : List (K × ℕ)) (x : K × ℕ) → walk chunk M h i ≡ some c → M c q ≡ stands ps → In x ps → Held chunk M x
  held h i c q ps x w e j = record { along = h; index = i; cell = c; place = q; all = ps; reached = w; shows = e; among = j }

  -- A reached cell below the root has two different pairs under it, if each cell after it has.
  both : (i h c : ℕ) → walk chunk M h i ≡ some c → Rich same M c
      → ((q d : ℕ) → M c q ≡ on d → Shared same hash chunk M h i) → Shared same hash chunk M h i
  both i h c w (Rich.deep q d x) f = f q d x
  both i h c w (Rich.wide q r ps qs x y mx ix my iy ne) f = record {
    x = x;
    y = y;
    differ = ne;
    x_held = held h i c q ps x w mx ix;
    y_held = held h i c r qs y w my iy;
    x_agrees = (s.placed h i c q ps x w mx ix).agrees;
    y_agrees = (s.placed h i c r qs y w my iy).agrees;
  }

  -- A hash that leads on to a named cell.
  onto : (i h c q d : ℕ) → walk chunk M h i ≡ some c → M c q ≡ on d → (g : ℕ) × Agree chunk g h i × (walk chunk M g (suc i) ≡ some d)
  onto i h c q d w e =
      let z = s.led h i c q d w e in
      (z.0, z.1, walk_on chunk M z.0 i c d (walk_agree chunk M z.0 h i z.1 ∙ w) (rw z.2 e))

  -- What shares a prefix shares each shorter one.
  less : (i h g : ℕ) → Agree chunk g h i → Shared same hash chunk M g (suc i) → Shared same hash chunk M h i
  less i h g a z = record {
    x = z.x;
    y = z.y;
    differ = z.differ;
    x_held = z.x_held;
    y_held = z.y_held;
    x_agrees = agree_via chunk (hash z.x.0) g h i z.x_agrees a;
    y_agrees = agree_via chunk (hash z.y.0) g h i z.y_agrees a;
  }

  -- Every reached cell below the root has two different pairs under it.
  crowd : (n i h c : ℕ) → n + i ≡ 7 → 1 ≤ i → walk chunk M h i ≡ some c → Shared same hash chunk M h i
  crowd zero i h c e l w = both i h c w (s.rich h i c w l)
      (λ q d x. let z = onto i h c q d w x in let b = s.low z.0 (suc i) d z.2 in absurd (omega arith))
  crowd (suc n) i h c e l w = both i h c w (s.rich h i c w l)
      (λ q d x. let z = onto i h c q d w x in less i h z.0 z.1 (crowd n (suc i) z.0 d (omega arith) (omega arith) z.2))

  -- A pair whose hash leads to c stands in c at its chunk, or a cell comes after c.
  here_or_on : (x : K × ℕ) (h i c : ℕ) → Own hash chunk M x → Agree chunk (hash x.0) h (suc i) → walk chunk M h i ≡ some c
      → Stood chunk M h (suc i) ⊎ ((ps : List (K × ℕ)) × (M c (chunk h i) ≡ stands ps) × In x ps)
  here_or_on x h i c o a w =
      let w' : walk chunk M (hash x.0) i ≡ some c = walk_agree chunk M (hash x.0) h i (λ j l. a j (omega arith)) ∙ w in
      elim (below o.index i) [
        | inl l ↦
            let b = walk_earlier chunk M (hash x.0) (suc o.index) i c (omega arith) w' in
            let f = walk_back chunk M (hash x.0) o.index b.0 b.1 in
            let p : f.0 ≡ o.cell = some_is (sym f.1 ∙ o.reached) in
            absurd (clash (sym o.shows ∙ (rw p at f.2)))
        | inr l ↦ elim (below i o.index) [
          | inl l' ↦
              let b = walk_earlier chunk M (hash x.0) (suc i) o.index o.cell (omega arith) o.reached in
              inl (b.0, sym (walk_agree chunk M (hash x.0) h (suc i) a) ∙ b.1)
          | inr l' ↦
              let e : o.index ≡ i = omega arith in
              let p : o.cell ≡ c = some_is (sym (rw e at o.reached) ∙ w') in
              inr (o.all, rw (← a i (omega arith)) (rw (e, p) at o.shows), o.among)
        ]
      ]

  -- Where two different pairs share a prefix a cell stands for it.
  stood : (i h : ℕ) → i ≤ 7 → Shared same hash chunk M h i → Stood chunk M h i
  unfolding walk
  stood zero h l z = (0, refl)
  stood (suc i) h l z =
      let c = stood i h (omega arith) (less i h h (λ j l'. refl) z) in
      elim (here_or_on z.x h i c.0 (own z.x z.x_held) z.x_agrees c.1) [
        | inl a ↦ a
        | inr a ↦ elim (here_or_on z.y h i c.0 (own z.y z.y_held) z.y_agrees c.1) [
          | inl b ↦ b
          | inr b ↦
              let e : b.0 ≡ a.0 = pairs_are (sym b.1 ∙ a.1) in
              absurd (z.differ (s.single h i c.0 (chunk h i) a.0 z.x z.y c.1 (omega arith) a.1 a.2 (rw e at b.2)))
        ]
      ]

  -- So the tree is compact.
  pub compact : Compact same hash chunk M
  compact h i l u = (λ b. crowd (7 - i) i h b.0 (omega arith) l b.1, λ z. stood i h u z)
