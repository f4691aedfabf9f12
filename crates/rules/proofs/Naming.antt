-- What a main names, chunk by chunk.
use Rattle.std.proofs.Common.{◌≡◌, ℕ, zero, suc, ◌<◌, ◌≤◌, Bool, true, List, [], ◌∷◌, Some, Option, sym, refl, ap, ◌∙◌, ⊎_elim, arith}
use mathlib.Core.List.{Memᴰ}
use Rattle.std.specs.Option.{option_to_list}
use Rattle.std.proofs.lemmas.Bool.{cases_eq, and_parts, leb-true}
use Rattle.mains.specs.Nodes.{branch_at}
use Rattle.mains.specs.declared.Branch.{Branch}
use Rattle.mains.specs.declared.Branch.TheVariants.{Pair as pair, Cell as cell}
use Rattle.mains.specs.declared.Main.{Main}
use Rattle.mains.specs.declared.Main.TheVariants.{Node as node}
use Rattle.mains.specs.declared.Node.{Node}
use Rattle.rules.specs.Memory.{Memory, main_in, then}
use Rattle.rules.specs.Reached.{cells_in, branches_to, branches_of, cells_of}
use Rattle.rules.specs.Sound.{sound, sound_in}

-- A value that may be missing and leads to something is there.
pub then_some : {A B : Type 0} (o : Option A) (f : A → Option B) (b : B) → then o f ≡ Some b → (a : A) × (o ≡ Some a) × (f a ≡ Some b)
then_some o f b e = grind arith

cell_listed : (d : ℕ) (bs : List Branch) → Memᴰ (cell d) bs → Memᴰ d (cells_in bs)
cell_listed d [] m = elim m [ ]
cell_listed d (pair p ∷ bs) (mathlib.Core.List.Memᴰ.head e) = let z : ◌≡◌ {A = ℕ} 0 1 = cc in absurd (omega arith)
cell_listed d (pair p ∷ bs) (mathlib.Core.List.Memᴰ.tail m) = cell_listed d bs m
cell_listed d (cell c ∷ bs) (mathlib.Core.List.Memᴰ.head e) = mathlib.Core.List.Memᴰ.head (cc)
cell_listed d (cell c ∷ bs) (mathlib.Core.List.Memᴰ.tail m) = mathlib.Core.List.Memᴰ.tail (cell_listed d bs m)

listed_cell : (d : ℕ) (bs : List Branch) → Memᴰ d (cells_in bs) → Memᴰ (cell d) bs
listed_cell d [] m = elim m [ ]
listed_cell d (pair p ∷ bs) m = mathlib.Core.List.Memᴰ.tail (listed_cell d bs m)
listed_cell d (cell c ∷ bs) (mathlib.Core.List.Memᴰ.head e) = mathlib.Core.List.Memᴰ.head (ap cell e)
listed_cell d (cell c ∷ bs) (mathlib.Core.List.Memᴰ.tail m) = mathlib.Core.List.Memᴰ.tail (listed_cell d bs m)

in_option : {A : Type 0} (a : A) (o : Option A) → Memᴰ a (option_to_list o) → o ≡ Some a
in_option a o m = grind arith

option_in : {A : Type 0} (a : A) (o : Option A) → o ≡ Some a → Memᴰ a (option_to_list o)
option_in a o e = rw e (mathlib.Core.List.Memᴰ.head refl)

module _ (n : Node) (b : Branch) where
  pub at_chunk : (k : ℕ) → Memᴰ b (branches_to n k) → (q : ℕ) × (q < k) × (branch_at n q ≡ Some b)
  at_chunk zero m = elim m [ ]
  at_chunk (suc k) m =
      ⊎_elim (λ (i : Memᴰ b (branches_to n k)). let found = at_chunk k i in (found.0, omega (arith, found.1), found.2))
      (λ (i : Memᴰ b (option_to_list (branch_at n k))). (k, omega arith, in_option b (branch_at n k) i))
      (mathlib.Core.List.Memᴰ.append_cases (branches_to n k) m)

  pub chunk_in : (k q : ℕ) → q < k → branch_at n q ≡ Some b → Memᴰ b (branches_to n k)
  chunk_in zero q l e = absurd (omega arith)
  chunk_in (suc k) q l e =
      ⊎_elim (λ (s : q ≡ k). mathlib.Core.List.Memᴰ.append_right (branches_to n k) (option_in b (branch_at n k) (ap (branch_at n) (sym s) ∙ e)))
      (λ (d : q ≡ k → ⊥). mathlib.Core.List.Memᴰ.append_left (option_to_list (branch_at n k)) (chunk_in k q (omega arith) e))
      (cases_eq q k)

-- A node names a cell exactly if it stands at a chunk.
pub cell_at : (n : Node) (d : ℕ) → Memᴰ d (cells_of (node n)) → (q : ℕ) × (q < 32) × (branch_at n q ≡ Some (cell d))
unfolding branches_of
cell_at n d m = at_chunk n (cell d) 32 (listed_cell d (branches_to n 32) m)

pub at_cell : (n : Node) (d q : ℕ) → q < 32 → branch_at n q ≡ Some (cell d) → Memᴰ d (cells_of (node n))
unfolding branches_of
at_cell n d q l e = cell_listed d (branches_to n 32) (chunk_in n (cell d) 32 q l e)

module _ {K : Type 0} (same : K → K → Bool) (hash : K → ℕ) (m : Memory K) where
  -- A main that is found sound keeps the rules.
  pub sound_in_lem : (index c : ℕ) (x : Main) → sound_in same hash m index c ≡ Some x → (main_in m c ≡ Some x) × (sound same hash m.pairs index x ≡ true)
  sound_in_lem index c x e = grind arith

  -- A node stands at index 6 at the most.
  pub node_high : (index c : ℕ) (n : Node) → sound_in same hash m index c ≡ Some (node n) → index ≤ 6
  node_high index c n e = leb-true index 6 (and_parts _ _ (sound_in_lem index c (node n) e).1).0
