-- The chain of new cells that an edit makes: its links in a list, their places, and the cells as the machine has them.
use Rattle.std.proofs.Common.{◌≡◌, ℕ, zero, suc, ◌+◌, ◌<◌, ◌≤◌, List, [], ◌∷◌, ◌++◌, map, length, take, set, replicate, Some, sym, refl, ap, ◌∙◌, subst, arith, length-set, take-take}
use mathlib.Core.List.Memᴰ
use mathlib.Core.List.{Memᴰ}
use mathlib.Core.Option.{some}
use lib.Seq.{take-append_seam}
use Rattle.std.specs.List.{slice_get}
use Rattle.machine.proofs.Walk.{no_some}
use Rattle.machine.specs.Tree.{nth as placed}
use Rattle.mains.specs.declared.Main.{Main}
use Rattle.rules.specs.Edits.{links_of, Link, linked, chain_for, places, with_cells, with_mains}
use Rattle.rules.specs.Reached.{Once}
use Rattle.rules.specs.Seats.{chain_of, no_cell}
use Rattle.rules.specs.declared.Edit.{Edit}
use Rattle.rules.specs.declared.Edit.TheVariants.{Split}
use Rattle.rules.specs.declared.Fork.{Fork}
use Rattle.rules.specs.declared.NewCell.{NewCell}
use Rattle.theory.proofs.Entries.{set_here, set_there}
use Rattle.theory.proofs.Seating.{news}

-- LINKS WRITTEN INTO A LIST

module _ {A : Type 0} (at : Link → ℕ) (what : Link → A) where
  -- The list with what each link brings, at its place.
  abbrev pub filled : List A → List Link → List A
  filled xs [] = xs
  filled xs (i ∷ is) = filled (set xs (at i) (what i)) is

  pub filled_else : (xs : List A) (is : List Link) (c : ℕ) → (Memᴰ c (map at is) → ⊥) → slice_get (filled xs is) c ≡ slice_get xs c
  filled_else xs [] c f = refl
  filled_else xs (i ∷ is) c f =
      filled_else (set xs (at i) (what i)) is c (λ m. f (Memᴰ.tail m)) ∙ set_there xs (at i) c (what i) (λ e. f (Memᴰ.head e))

  pub filled_at : (xs : List A) (is : List Link) (i : Link) → Memᴰ i is → Once (map at is) → ((c : ℕ) → Memᴰ c (map at is) → c < length xs)
      → slice_get (filled xs is) (at i) ≡ Some (what i)
  filled_at xs [] i m o l = elim m [ ]
  filled_at xs (j ∷ is) i (Memᴰ.head e) o l =
      subst (λ (u : Link). slice_get (filled xs (j ∷ is)) (at u) ≡ Some (what u)) (sym e)
      (filled_else (set xs (at j) (what j)) is (at j) o.0 ∙ set_here xs (at j) (what j) (l (at j) (Memᴰ.head refl)))
  filled_at xs (j ∷ is) i (Memᴰ.tail m) o l =
      filled_at (set xs (at j) (what j)) is i m o.1 (λ c k. rw length-set (l c (Memᴰ.tail k)))

-- The cell of a link, and its main's number.
abbrev pub cell_of : Link → ℕ
cell_of i = i.place.cell

abbrev pub number_of : Link → ℕ
number_of i = i.place.main

-- Words and mains are written alike.
pub cells_filled : (words : List ℕ) (is : List Link) → with_cells words is ≡ filled cell_of number_of words is
cells_filled words [] = refl
cells_filled words (i ∷ is) = cells_filled _ is

pub mains_filled : (mains : List Main) (is : List Link) → with_mains mains is ≡ filled number_of (λ i. i.holds) mains is
mains_filled mains [] = refl
mains_filled mains (i ∷ is) = mains_filled _ is

-- THE LINKS OF A CHAIN AND THE PLACES GIVEN

-- Where no place is wanted, none is given.
bare : (cells mains : List ℕ) → length cells ≡ 0 → length mains ≡ 0 → ([] ≡ cells) × ([] ≡ mains)
bare [] [] c m = (refl, refl)
bare _ _ c m = absurd (omega arith)

linked_places : (f : Fork) (p index : ℕ) (cells mains : List ℕ) → length cells ≡ length mains
    → (map cell_of (linked f p index cells mains) ≡ cells) × (map number_of (linked f p index cells mains) ≡ mains)
linked_places f p index [] [] e = (refl, refl)
linked_places f p index (c ∷ cells) (n ∷ mains) e =
    let r = linked_places f p (index + 1) cells mains (omega (arith, e)) in
    (ap (λ (xs : List ℕ). c ∷ xs) r.0, ap (λ (xs : List ℕ). n ∷ xs) r.1)
linked_places f p index _ _ e = absurd (omega arith)

-- An edit takes each of its places for one link, in order.
pub chain_places : (edit : Edit) (p : ℕ) (cells mains : List ℕ) → length cells ≡ links_of edit → length mains ≡ links_of edit
    → (map cell_of (chain_for edit p cells mains) ≡ cells) × (map number_of (chain_for edit p cells mains) ≡ mains)
chain_places (Split f) p cells mains c m = linked_places f p (f.index + 1) cells mains (c ∙ sym m)
chain_places _ p cells mains c m = bare cells mains c m

-- THE NEW CELLS OF A CHAIN

-- A new cell is a link's.
pub news_link : (is : List Link) (t d n : ℕ) → placed (news (places is)) t ≡ some (d, n) → (i : Link) × Memᴰ i is × (cell_of i ≡ d) × (number_of i ≡ n)
news_link [] t d n e = absurd (no_some e)
news_link (i ∷ is) zero d n e = let p : (cell_of i, number_of i) ≡ (d, n) = cc in (i, Memᴰ.head refl, ap (λ (z : ℕ × ℕ). z.0) p, ap (λ (z : ℕ × ℕ). z.1) p)
news_link (i ∷ is) (suc t) d n e = let r = news_link is t d n e in (r.0, Memᴰ.tail r.1, r.2, r.3)

-- The cell of a first link that stands nowhere else is not that of a later one.
not_later : (i : Link) (is : List Link) (t d n : ℕ) → (Memᴰ (cell_of i) (map cell_of is) → ⊥) → cell_of i ≡ d → placed (news (places is)) t ≡ some (d, n) → ⊥
not_later i is t d n f e h =
    let r = news_link is t d n h in
    f (subst (λ (u : ℕ). Memᴰ u (map cell_of is)) (r.2 ∙ sym e) (Memᴰ.map cell_of r.1))

pub news_once : (is : List Link) (t u d n x : ℕ) → Once (map cell_of is) → placed (news (places is)) t ≡ some (d, n) → placed (news (places is)) u ≡ some (d, x) → t ≡ u
unfolding news_link
news_once [] t u d n x o e h = absurd (no_some e)
news_once (i ∷ is) zero zero d n x o e h = refl
news_once (i ∷ is) zero (suc u) d n x o e h = absurd (not_later i is u d x o.0 (news_link (i ∷ is) 0 d n e).2 h)
news_once (i ∷ is) (suc t) zero d n x o e h = absurd (not_later i is t d n o.0 (news_link (i ∷ is) 0 d x h).2 e)
news_once (i ∷ is) (suc t) (suc u) d n x o e h = ap suc (news_once is t u d n x o.1 e h)

pub length_places : (is : List Link) → length (places is) ≡ length (map cell_of is)
length_places [] = refl
length_places (i ∷ is) = ap suc (length_places is)

-- Seven places are enough for at most seven cells.
pub chain_held : (ks : List NewCell) → length ks ≤ 7 → take (length ks) (chain_of ks) ≡ ks
chain_held ks l = take-take (length ks) 7 (ks ++ replicate 7 no_cell) l ∙ take-append_seam ks (replicate 7 no_cell)
