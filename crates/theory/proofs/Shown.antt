-- The slots of a node and the pairs of a list, as they show, and after an edit.
use Rattle.std.proofs.Common.{◌≡◌, ℕ, zero, suc, ◌<◌, ◌≤◌, ◌≢◌, ◌⊎◌, List, length, get_or, set, replicate, Some, None, Option, sym, refl, ap, ◌∙◌, inl, inr, ⊎_elim, arith, length-append, length-set, get_or-set_other, get_or-set_same, ext_get_or}
use native.Mathlib.Decide.{ℕ_discrete}
use lib.ListN.{length-replicate, get_or-replicate, get_or-eq_default}
use Rattle.std.proofs.lemmas.Bool.{cases_lt}
use Rattle.std.proofs.lemmas.List.Edits.{length-remove}
use Rattle.machine.specs.Machine.{Branch as Slot, nothing, pair, cell}
use Rattle.mains.specs.Laws.{WellFormed, Stands, edited, nothing as bare}
use Rattle.mains.specs.Lists.{listed, appended, unlisted}
use Rattle.mains.specs.Nodes.{branch_at, inserted, replaced, removed, empty_node, of_one, of_two, lone}
use Rattle.mains.specs.declared.Branch.{Branch}
use Rattle.mains.specs.declared.Branch.TheVariants.{Pair as Paired, Cell as Celled}
use Rattle.mains.specs.declared.Node.{Node}
use Rattle.mains.specs.declared.PairList.{PairList}
use Rattle.mains.proofs.Edits.{inserted_stands, replaced_stands, removed_stands, has_low}
use Rattle.mains.proofs.Listings.{listed_of, listed_appended, listed_relisted, listed_unlisted}
use Rattle.mains.proofs.Made.{empty_formed, empty_stands, one_formed, one_stands, two_formed, two_stands}
use Rattle.mains.proofs.Singles.{lone_is}
use Rattle.mains.proofs.Standing.{at_past, has_some, some_not_none, edited_here, edited_other, stands_from}
use Rattle.theory.specs.Shown.{slot, row, slots, OnlyAt, Beside, ShowsEdits}

length_row : (f : ℕ → Slot) (k : ℕ) → length (row f k) ≡ k
unfolding row
length_row f zero = refl
length_row f (suc k) = ap suc (length_row (λ q. f (suc q)) k)

row_at : (f : ℕ → Slot) (k q : ℕ) → q < k → get_or (row f k) q nothing ≡ f q
unfolding row
row_at f zero q l = absurd (omega arith)
row_at f (suc k) zero l = refl
row_at f (suc k) (suc q) l = row_at (λ r. f (suc r)) k q (omega arith)

-- What a node shows at a chunk.
length_slots : (n : Node) → length (slots n) ≡ 32
length_slots n = length_row (λ q. slot (branch_at n q)) 32

slot_at : (n : Node) (q : ℕ) → q < 32 → get_or (slots n) q nothing ≡ slot (branch_at n q)
slot_at n q l = row_at (λ r. slot (branch_at n r)) 32 q l

slot_past : (n : Node) (q : ℕ) → 32 ≤ q → get_or (slots n) q nothing ≡ nothing
slot_past n q l = let long = length_slots n in get_or-eq_default (slots n) nothing (omega (arith, long))

slot_any : (n : Node) → WellFormed n → (q : ℕ) → get_or (slots n) q nothing ≡ slot (branch_at n q)
slot_any n w q = grind (arith, cases_lt, slot_at, slot_past, at_past)

-- Each slot shows one thing alone.
is_pair : (o : Option Branch) (p : ℕ) → slot o ≡ pair p → o ≡ Some (Paired p)
is_pair o p e = grind arith

is_cell : (o : Option Branch) (c : ℕ) → slot o ≡ cell c → o ≡ Some (Celled c)
is_cell o c e = grind arith

is_nothing : (o : Option Branch) → slot o ≡ nothing → o ≡ None
is_nothing o e = grind arith

-- What shows at a chunk is nothing, or what stands there.
shows_at : (n : Node) (q : ℕ) → (get_or (slots n) q nothing ≡ slot (branch_at n q)) ⊎ (get_or (slots n) q nothing ≡ slot None)
shows_at n q = ⊎_elim (λ (l : q < 32). inl (slot_at n q l)) (λ (l : 32 ≤ q). inr (slot_past n q l)) (cases_lt q 32)

pair_from : (n : Node) (q p : ℕ) → get_or (slots n) q nothing ≡ pair p → branch_at n q ≡ Some (Paired p)
pair_from n q p e = grind (arith, shows_at, is_pair, some_not_none)

cell_from : (n : Node) (q c : ℕ) → get_or (slots n) q nothing ≡ cell c → branch_at n q ≡ Some (Celled c)
cell_from n q c e = grind (arith, shows_at, is_cell, some_not_none)

-- A list of 32 slots is that of a node if it has at each chunk what stands there.
slots_are : (n : Node) (bs : List Slot) → length bs ≡ 32 → ((q : ℕ) → q < 32 → slot (branch_at n q) ≡ get_or bs q nothing) → slots n ≡ bs
slots_are n bs e f =
    let long = length_slots n in
    ext_get_or nothing (slots n) bs (long ∙ sym e)
    (λ q l. let low : q < 32 = omega (arith, long) in slot_at n q low ∙ f q low)

-- A node that has something else at one chunk shows that slot set.
slots_edited : (n m : Node) (q : ℕ) (o : Option Branch) → Stands m (edited (branch_at n) q o) → slots m ≡ set (slots n) q (slot o)
slots_edited n m q o s = slots_are m (set (slots n) q (slot o)) (length-set (slots n) q (slot o) ∙ length_slots n) (λ p l. by p l (ℕ_discrete p q))
  where
    by : (p : ℕ) → p < 32 → Dec (p ≡ q) → slot (branch_at m p) ≡ get_or (set (slots n) q (slot o)) p nothing
    by p l e = grind (arith, length_slots, edited_here, get_or-set_same, edited_other, slot_at, get_or-set_other)

slots_inserted : (n : Node) (q : ℕ) (x : Branch) → WellFormed n → q < 32 → branch_at n q ≡ None → slots (inserted n q x) ≡ set (slots n) q (slot (Some x))
slots_inserted n q x w l e = slots_edited n (inserted n q x) q (Some x) (inserted_stands n q x w l e)

-- Nodes that are made whole.
slots_empty : slots empty_node ≡ replicate 32 nothing
slots_empty =
    slots_are empty_node (replicate 32 nothing) (length-replicate 32 nothing)
    (λ q l. ap slot (empty_stands q) ∙ sym (get_or-replicate 32 q nothing nothing l))

slots_one : (q : ℕ) (x : Branch) → q < 32 → slots (of_one q x) ≡ set (replicate 32 nothing) q (slot (Some x))
slots_one q x l = slots_inserted empty_node q x empty_formed l (empty_stands q) ∙ ap (λ (bs : List Slot). set bs q (slot (Some x))) slots_empty

one_other : (q : ℕ) (x : Branch) (p : ℕ) → q < 32 → p ≢ q → branch_at (of_one q x) p ≡ None
one_other q x p l ne = one_stands q x l p ∙ edited_other bare q (Some x) p ne

slots_two : (q : ℕ) (x : Branch) (r : ℕ) (y : Branch) → q < 32 → r < 32 → q ≢ r
    → slots (of_two q x r y) ≡ set (set (replicate 32 nothing) q (slot (Some x))) r (slot (Some y))
slots_two q x r y l k ne =
    slots_inserted (of_one q x) r y (one_formed q x) k (one_other q x r l (λ e. ne (sym e)))
    ∙ ap (λ (bs : List Slot). set bs r (slot (Some y))) (slots_one q x l)

module _ (q : ℕ) (x : Branch) (r : ℕ) (y : Branch) (l : q < 32) (k : r < 32) (ne : q ≢ r) where
  two_at : (p : ℕ) → get_or (slots (of_two q x r y)) p nothing ≡ slot (edited (edited bare q (Some x)) r (Some y) p)
  two_at p = slot_any (of_two q x r y) (two_formed q x r y) p ∙ ap slot (two_stands q x r y l k ne p)

  two_first : get_or (slots (of_two q x r y)) q nothing ≡ slot (Some x)
  two_first = two_at q ∙ ap slot (edited_other (edited bare q (Some x)) r (Some y) q ne ∙ edited_here bare q (Some x))

  two_second : get_or (slots (of_two q x r y)) r nothing ≡ slot (Some y)
  two_second = two_at r ∙ ap slot (edited_here (edited bare q (Some x)) r (Some y))

  two_else : (p : ℕ) → p ≢ q → p ≢ r → get_or (slots (of_two q x r y)) p nothing ≡ nothing
  two_else p a b = two_at p ∙ ap slot (edited_other (edited bare q (Some x)) r (Some y) p b ∙ edited_other bare q (Some x) p a)

-- The lone branch of a node.
lone_only : (n : Node) (x : Branch) → WellFormed n → lone n ≡ Some x → (q : ℕ) × OnlyAt n q x
lone_only n x w e = let it = (lone_is n w.fits).found x e in (it.0, only it.0 it.1)
  where
    only : (q : ℕ) → Stands n (edited bare q (Some x)) → OnlyAt n q x
    only q s =
        let here = s q ∙ edited_here bare q (Some x) in
        record {
          low = has_low n q w (has_some n q x here);
          here = here;
          alone = λ p ne. s p ∙ edited_other bare q (Some x) p ne;
          shows = slot_any n w q ∙ ap slot here;
          empty = λ p ne. slot_any n w p ∙ ap slot (s p ∙ edited_other bare q (Some x) p ne);
        }

-- Among the first k chunks another than q has a branch, or none has.
module _ (n : Node) (w : WellFormed n) (q : ℕ) where
  abbrev Bare : ℕ → Type 0
  Bare k = (p : ℕ) → p < k → p ≢ q → branch_at n p ≡ None

  scan : (k : ℕ) → Beside n q ⊎ Bare k
  scan zero = inr (λ p l ne. absurd (omega arith))
  scan (suc k) = on (scan k)
    where
      more : Bare k → (o : Option Branch) → branch_at n k ≡ o → Dec (k ≡ q) → Beside n q ⊎ Bare (suc k)
      more b o e d = grind (arith, has_low, has_some, slot_any)

      on : Beside n q ⊎ Bare k → Beside n q ⊎ Bare (suc k)
      on (inl s) = inl s
      on (inr b) = more b (branch_at n k) refl (ℕ_discrete k q)

  lone_none : (x : Branch) → lone n ≡ None → branch_at n q ≡ Some x → Beside n q
  lone_none x e here = by (scan 32)
    where
      by : Beside n q ⊎ Bare 32 → Beside n q
      by (inl s) = s
      by (inr b) =
          let stands = stands_from n bare q (Some x) here (λ p ne. (grind (arith, at_past))) in
          absurd (some_not_none (sym ((lone_is n w.fits).sole q x stands) ∙ e))

-- How many are listed after an edit.
length_appended : (l : PairList) (p : ℕ) → length l.pairs ≡ 32 → l.count < 32 → length (listed (appended l p)) ≡ suc (length (listed l))
length_appended l p long room = grind (arith, length-append, listed_appended)

length_unlisted : (l : PairList) (i : ℕ) → i < length (listed l) → suc (length (listed (unlisted l i))) ≡ length (listed l)
length_unlisted l i within = grind (arith, length-remove, listed_unlisted)

pub shows_edits : ShowsEdits
shows_edits =
    record {
      length_slots = length_slots;
      slot_at = slot_at;
      slot_past = slot_past;
      slot_any = slot_any;
      pair_from = pair_from;
      cell_from = cell_from;
      nothing_from = λ n q w e. is_nothing (branch_at n q) (sym (slot_any n w q) ∙ e);
      inserts = slots_inserted;
      replaces = λ n q x y w e. slots_edited n (replaced n q x) q (Some x) (replaced_stands n q x w (has_some n q y e));
      removes = λ n q w. slots_edited n (removed n q) q None (removed_stands n q w);
      empty = slots_empty;
      empty_at = λ q. slot_any empty_node empty_formed q ∙ ap slot (empty_stands q);
      one = slots_one;
      one_here = λ q x l. slot_at (of_one q x) q l ∙ ap slot (one_stands q x l q ∙ edited_here bare q (Some x));
      one_else = λ q x p l ne. slot_any (of_one q x) (one_formed q x) p ∙ ap slot (one_other q x p l ne);
      two = slots_two;
      two_first = two_first;
      two_second = two_second;
      two_else = λ q x r y p l k ne a b. two_else q x r y l k ne p a b;
      lone_only = lone_only;
      lone_none = λ n q x w e h. lone_none n w q x e h;
      appends = listed_appended;
      appends_length = length_appended;
      lists_two = listed_of;
      relists = listed_relisted;
      relists_length = λ l i p. ap length (listed_relisted l i p) ∙ length-set (listed l) i p;
      unlists = listed_unlisted;
      unlists_length = length_unlisted;
    }
