-- What a main names, by the machine that shows it and by the rules.
use Rattle.std.proofs.Common.{◌≡◌, ℕ, true, List, [], ◌∷◌, sym, refl, subst, arith}
use mathlib.Core.List.{Memᴰ}
use Rattle.machine.specs.Machine.{IsTomb, HasPair}
use Rattle.machine.specs.Tree.{In, here, later}
use Rattle.mains.proofs.Edits.{has_low}
use Rattle.mains.proofs.Standing.{has_some}
use Rattle.mains.specs.declared.Branch.{Branch}
use Rattle.mains.specs.declared.Branch.TheVariants.{Pair as pair, Cell as cell}
use Rattle.mains.specs.declared.Main.{Main}
use Rattle.mains.specs.declared.Main.TheVariants.{Node as node, Tomb as tomb, List as listing}
use Rattle.rules.proofs.Naming.{chunk_in}
use Rattle.rules.specs.Reached.{is_tomb, branches_of, branches_to, pairs_in, pairs_of}
use Rattle.theory.proofs.Shown.{shows_edits}
use Rattle.theory.proofs.Writing.{Formed, NamesPair}
use Rattle.theory.specs.Shown.{shown_main}

-- A pair among the branches of a node is among the pairs that it names.
pair_listed : (p : ℕ) (bs : List Branch) → Memᴰ (pair p) bs → Memᴰ p (pairs_in bs)
pair_listed p [] m = elim m [ ]
pair_listed p (pair r ∷ bs) (Memᴰ.head e) = Memᴰ.head cc
pair_listed p (pair r ∷ bs) (Memᴰ.tail m) = Memᴰ.tail (pair_listed p bs m)
pair_listed p (cell c ∷ bs) (Memᴰ.head e) = let z : ◌≡◌ {A = ℕ} 0 1 = cc in absurd (omega arith)
pair_listed p (cell c ∷ bs) (Memᴰ.tail m) = pair_listed p bs m

pub pair_in_lem : (x : Main) (p : ℕ) → Formed x → NamesPair x p → Memᴰ p (pairs_of x)
unfolding branches_of
pair_in_lem (node n) p w m = pair_listed p (branches_to n 32) (chunk_in n (pair p) 32 m.0 (has_low n m.0 w (has_some n m.0 (pair p) m.1)) m.1)
pair_in_lem (tomb r) p w m = Memᴰ.head (sym m)
pair_in_lem (listing l) p w m = m

-- What is in a list by the machine is in it, and the other way round.
in_mem : {A : Type 0} (x : A) (xs : List A) → In x xs → Memᴰ x xs
in_mem x [] m = elim m [ ]
in_mem x (y ∷ xs) (In.here) = Memᴰ.head refl
in_mem x (y ∷ xs) (In.later m) = Memᴰ.tail (in_mem x xs m)

pub mem_in : {A : Type 0} (x : A) (xs : List A) → Memᴰ x xs → In x xs
mem_in x [] m = elim m [ ]
mem_in x (y ∷ xs) (Memᴰ.head e) = subst (λ z. In x (z ∷ xs)) e here
mem_in x (y ∷ xs) (Memᴰ.tail m) = later (mem_in x xs m)

-- A pair that the main shown names, it names.
pub names_pair : (x : Main) (p : ℕ) → HasPair (shown_main x) p → NamesPair x p
names_pair x p m = grind (arith, shows_edits, in_mem)

pub is_tomb_lem : (x : Main) → IsTomb (shown_main x) → is_tomb x ≡ true
is_tomb_lem x t = grind arith
