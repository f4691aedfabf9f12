-- The packed mains and the memory of the rules, shown as the mains and the memory of the loose machine, and what the showing keeps.
use Rattle.std.specs.Prelude.{◌≡◌, ℕ, zero, suc, ◌<◌, ◌≤◌, ◌≢◌, List, [], ◌∷◌, ◌++◌, map, length, get_or, take, replicate, Some, None, Option, slice_index_or, slice_set}
use Rattle.std.proofs.Math.Option.{none, some}
use Rattle.std.specs.List.{slice_get, remove as without}
use Rattle.machine.specs.Machine.{Branch as Slot, nothing, pair, cell, Taken, Main as Shape, node, tomb, many, Mem, word, main}
use Rattle.machine.specs.Tree.{nth as placed}
use Rattle.mains.specs.Laws.{WellFormed}
use Rattle.mains.specs.Lists.{listed, appended, relisted, unlisted, of_pairs}
use Rattle.mains.specs.Nodes.{branch_at, inserted, replaced, removed, empty_node, of_one, of_two, lone}
use Rattle.mains.specs.declared.Branch.{Branch}
use Rattle.mains.specs.declared.Branch.TheVariants.{Pair as Paired, Cell as Celled}
use Rattle.mains.specs.declared.Main.{Main}
use Rattle.mains.specs.declared.Main.TheVariants.{Node as Noded, Tomb as Tombed, List as Listed}
use Rattle.mains.specs.declared.Node.{Node}
use Rattle.mains.specs.declared.PairList.{PairList}
use Rattle.rules.specs.Memory.{Memory, main_limit, main_at}
use Rattle.rules.specs.declared.Pair.{Pair}

-- What stands at a chunk is shown as nothing, the place of a pair, or a cell.
abbrev pub slot : Option Branch → Slot
slot None = nothing
slot (Some (Paired p)) = pair p
slot (Some (Celled c)) = cell c

-- The slots that a function gives for the first k chunks are listed in order.
unfoldable pub row : (ℕ → Slot) → ℕ → List Slot
row f zero = []
row f (suc k) = f 0 ∷ row (λ q. f (suc q)) k

-- A node shows what stands at its chunks 0 to 31, as a list of 32.
abbrev pub slots : Node → List Slot
slots n = row (λ q. slot (branch_at n q)) 32

-- A main shows the slots of its node, its tomb, or the pairs that it lists.
abbrev pub shown_main : Main → Shape
shown_main (Noded n) = node (slots n)
shown_main (Tombed p) = tomb p
shown_main (Listed l) = many (listed l)

-- A pair shows its key and its value.
abbrev pub shown_pair : {K : Type 0} → Pair K → K × ℕ
shown_pair x = (x.key, x.value)

-- A memory shows its words, the mains that are inside of it, and its pairs.
abbrev pub shown_mem : {K : Type 0} → Memory K → Mem K
shown_mem m = record { words = m.words; mains = map shown_main (take main_limit m.mains); pairs = map shown_pair m.pairs }

-- The chunk q of a node has this branch, and no other chunk has any.
pub record OnlyAt (n : Node) (q : ℕ) (x : Branch) : Type 0 where
  pub low : q < 32
  pub here : branch_at n q ≡ Some x
  pub alone : (p : ℕ) → p ≢ q → branch_at n p ≡ None
  pub shows : get_or (slots n) q nothing ≡ slot (Some x)
  pub empty : (p : ℕ) → p ≢ q → slice_index_or (slots n) p nothing ≡ nothing

-- A chunk other than q has a branch.
pub record Beside (n : Node) (q : ℕ) : Type 0 where
  pub chunk : ℕ
  pub branch : Branch
  pub low : chunk < 32
  pub other : chunk ≢ q
  pub there : branch_at n chunk ≡ Some branch
  pub taken : Taken (slice_index_or (slots n) chunk nothing)

-- The edits of a node show as a slot that is set, and those of a list as the same edit of what it lists.
pub record ShowsEdits : Type 0 where
  -- A node shows 32 slots, each what stands at its chunk, and nothing past them.
  pub length_slots : (n : Node) → length (slots n) ≡ 32
  pub slot_at : (n : Node) (q : ℕ) → q < 32 → slice_index_or (slots n) q nothing ≡ slot (branch_at n q)
  pub slot_past : (n : Node) (q : ℕ) → 32 ≤ q → slice_index_or (slots n) q nothing ≡ nothing
  pub slot_any : (n : Node) → WellFormed n → (q : ℕ) → slice_index_or (slots n) q nothing ≡ slot (branch_at n q)
  -- What shows at a chunk stands there.
  pub pair_from : (n : Node) (q p : ℕ) → slice_index_or (slots n) q nothing ≡ pair p → branch_at n q ≡ Some (Paired p)
  pub cell_from : (n : Node) (q c : ℕ) → slice_index_or (slots n) q nothing ≡ cell c → branch_at n q ≡ Some (Celled c)
  pub nothing_from : (n : Node) (q : ℕ) → WellFormed n → slice_index_or (slots n) q nothing ≡ nothing → branch_at n q ≡ None
  -- An edit of a node sets one slot.
  pub inserts : (n : Node) (q : ℕ) (x : Branch) → WellFormed n → q < 32 → branch_at n q ≡ None → slots (inserted n q x) ≡ slice_set (slots n) q (slot (Some x))
  pub replaces : (n : Node) (q : ℕ) (x y : Branch) → WellFormed n → branch_at n q ≡ Some y → slots (replaced n q x) ≡ slice_set (slots n) q (slot (Some x))
  pub removes : (n : Node) (q : ℕ) → WellFormed n → slots (removed n q) ≡ slice_set (slots n) q nothing
  -- A node that is made whole has its branches and nothing else.
  pub empty : slots empty_node ≡ replicate 32 nothing
  pub empty_at : (q : ℕ) → slice_index_or (slots empty_node) q nothing ≡ nothing
  pub one : (q : ℕ) (x : Branch) → q < 32 → slots (of_one q x) ≡ slice_set (replicate 32 nothing) q (slot (Some x))
  pub one_here : (q : ℕ) (x : Branch) → q < 32 → slice_index_or (slots (of_one q x)) q nothing ≡ slot (Some x)
  pub one_else : (q : ℕ) (x : Branch) (p : ℕ) → q < 32 → p ≢ q → slice_index_or (slots (of_one q x)) p nothing ≡ nothing
  pub two : (q : ℕ) (x : Branch) (r : ℕ) (y : Branch) → q < 32 → r < 32 → q ≢ r
      → slots (of_two q x r y) ≡ slice_set (slice_set (replicate 32 nothing) q (slot (Some x))) r (slot (Some y))
  pub two_first : (q : ℕ) (x : Branch) (r : ℕ) (y : Branch) → q < 32 → r < 32 → q ≢ r → slice_index_or (slots (of_two q x r y)) q nothing ≡ slot (Some x)
  pub two_second : (q : ℕ) (x : Branch) (r : ℕ) (y : Branch) → q < 32 → r < 32 → q ≢ r → slice_index_or (slots (of_two q x r y)) r nothing ≡ slot (Some y)
  pub two_else : (q : ℕ) (x : Branch) (r : ℕ) (y : Branch) (p : ℕ) → q < 32 → r < 32 → q ≢ r → p ≢ q → p ≢ r
      → slice_index_or (slots (of_two q x r y)) p nothing ≡ nothing
  -- A lone branch has no other beside it, and a branch that is not lone has one.
  pub lone_only : (n : Node) (x : Branch) → WellFormed n → lone n ≡ Some x → (q : ℕ) × OnlyAt n q x
  pub lone_none : (n : Node) (q : ℕ) (x : Branch) → WellFormed n → lone n ≡ None → branch_at n q ≡ Some x → Beside n q
  -- An edit of a list is the same edit of what is listed.
  pub appends : (l : PairList) (p : ℕ) → length l.pairs ≡ 32 → l.count < 32 → listed (appended l p) ≡ listed l ++ (p ∷ [])
  pub appends_length : (l : PairList) (p : ℕ) → length l.pairs ≡ 32 → l.count < 32 → length (listed (appended l p)) ≡ suc (length (listed l))
  pub lists_two : (r p : ℕ) → listed (of_pairs r p) ≡ r ∷ p ∷ []
  pub relists : (l : PairList) (i p : ℕ) → listed (relisted l i p) ≡ slice_set (listed l) i p
  pub relists_length : (l : PairList) (i p : ℕ) → length (listed (relisted l i p)) ≡ length (listed l)
  pub unlists : (l : PairList) (i : ℕ) → listed (unlisted l i) ≡ without (listed l) i
  pub unlists_length : (l : PairList) (i : ℕ) → i < length (listed l) → suc (length (listed (unlisted l i))) ≡ length (listed l)

-- What is at a place of the memory shows at the same place, and what is set there is set in what is shown.
pub record ShowsMemory (K : Type 0) : Type 0 where
  -- A place shows what it holds, and what shows there is there.
  pub word_at : (m : Memory K) (c n : ℕ) → slice_get m.words c ≡ Some n → word (shown_mem m) c ≡ n
  pub word_past : (m : Memory K) (c : ℕ) → slice_get m.words c ≡ None → word (shown_mem m) c ≡ 0
  pub main_at_lem : (m : Memory K) (n : ℕ) (x : Main) → main_at m.mains n ≡ Some x → main (shown_mem m) n ≡ shown_main x
  pub main_past : (m : Memory K) (n : ℕ) → main_at m.mains n ≡ None → main (shown_mem m) n ≡ node []
  pub node_from : (m : Memory K) (n : ℕ) (x : Main) (bs : List Slot) → main_at m.mains n ≡ Some x → main (shown_mem m) n ≡ node bs
      → (k : Node) × (x ≡ Noded k) × (slots k ≡ bs)
  pub tomb_from : (m : Memory K) (n p : ℕ) → main (shown_mem m) n ≡ tomb p → main_at m.mains n ≡ Some (Tombed p)
  pub list_from : (m : Memory K) (n : ℕ) (ps : List ℕ) → main (shown_mem m) n ≡ many ps
      → (l : PairList) × (main_at m.mains n ≡ Some (Listed l)) × (listed l ≡ ps)
  pub pair_at : (m : Memory K) (p : ℕ) (x : Pair K) → slice_get m.pairs p ≡ Some x → placed (shown_mem m).pairs p ≡ some (x.key, x.value)
  pub pair_from : (m : Memory K) (p : ℕ) (y : K × ℕ) → placed (shown_mem m).pairs p ≡ some y
      → (x : Pair K) × (slice_get m.pairs p ≡ Some x) × (y ≡ (x.key, x.value))
  pub pair_past : (m : Memory K) (p : ℕ) → slice_get m.pairs p ≡ None → placed (shown_mem m).pairs p ≡ none
  -- As many words, mains and pairs are shown as there are.
  pub as_many_words : (m : Memory K) → length (shown_mem m).words ≡ length m.words
  pub as_many_mains : (m : Memory K) → length m.mains ≤ main_limit → length (shown_mem m).mains ≡ length m.mains
  pub as_many_pairs : (m : Memory K) → length (shown_mem m).pairs ≡ length m.pairs
  -- What is set at a place is set in what is shown.
  pub word_set : (m : Memory K) (c n : ℕ)
      → shown_mem (record { words = slice_set m.words c n; mains = m.mains; pairs = m.pairs; keys = m.keys })
      ≡ record { words = slice_set (shown_mem m).words c n; mains = (shown_mem m).mains; pairs = (shown_mem m).pairs }
  pub main_set : (m : Memory K) (n : ℕ) (x : Main)
      → shown_mem (record { words = m.words; mains = slice_set m.mains n x; pairs = m.pairs; keys = m.keys })
      ≡ record { words = (shown_mem m).words; mains = slice_set (shown_mem m).mains n (shown_main x); pairs = (shown_mem m).pairs }
  pub pair_set : (m : Memory K) (p : ℕ) (x : Pair K)
      → shown_mem (record { words = m.words; mains = m.mains; pairs = slice_set m.pairs p x; keys = m.keys })
      ≡ record { words = (shown_mem m).words; mains = (shown_mem m).mains; pairs = slice_set (shown_mem m).pairs p (x.key, x.value) }
