-- What lies in the places that a table has written: mains as the code makes them, which name written places only.
use Rattle.std.proofs.Common.{◌≡◌, ℕ, ◌+◌, ◌<◌, ◌≤◌, Bool, true, false, List, length, get_or, Some}
use mathlib.Core.List.{Memᴰ}
use Rattle.std.specs.List.{slice_get}
use Rattle.mains.specs.Laws.{WellFormed, WellListed}
use Rattle.mains.specs.Lists.{listed}
use Rattle.mains.specs.Nodes.{branch_at}
use Rattle.mains.specs.declared.Branch.TheVariants.{Pair as pair, Cell as cell}
use Rattle.mains.specs.declared.Main.{Main}
use Rattle.mains.specs.declared.Main.TheVariants.{Node as node, Tomb as tomb, List as listing}
use Rattle.rules.specs.InUse.{is_pending}
use Rattle.rules.specs.Memory.{State, main_at}
use Rattle.rules.specs.Seats.{seat_of, is_idle, is_put, new_cells}
use Rattle.rules.specs.declared.Ask.{Ask}
use Rattle.rules.specs.declared.Ask.TheVariants.{Get, Put, Cut}
use Rattle.rules.specs.declared.NewCell.{NewCell}
use Rattle.rules.specs.declared.Outcome.{Outcome}
use Rattle.rules.specs.declared.Outcome.TheVariants.{Stored, Removed}
use Rattle.rules.specs.declared.Phase.{Phase}
use Rattle.rules.specs.declared.Phase.TheVariants.{Swap, Parent, Clean}
use Rattle.rules.specs.declared.Seat.{Seat}

-- A main as the code makes them.
abbrev pub Formed : Main → Type 0
Formed (node n) = WellFormed n
Formed (tomb p) = Unit {0}
Formed (listing l) = WellListed l

-- The main names a cell.
abbrev pub NamesCell : Main → ℕ → Type 0
NamesCell (node n) c = (q : ℕ) × (branch_at n q ≡ Some (cell c))
NamesCell _ c = ⊥

-- The main names a pair.
abbrev pub NamesPair : Main → ℕ → Type 0
NamesPair (node n) p = (q : ℕ) × (branch_at n q ≡ Some (pair p))
NamesPair (tomb r) p = r ≡ p
NamesPair (listing l) p = Memᴰ p (listed l)

-- A main that names only some cells, and pairs below a number.
pub record Fine (cells : List ℕ) (pairs : ℕ) (x : Main) : Type 0 where
  pub formed : Formed x
  pub inner : (c : ℕ) → NamesCell x c → Memᴰ c cells
  pub paired : (p : ℕ) → NamesPair x p → p < pairs

-- Whether a phase knows the pair of a tomb.
abbrev pub is_burying : Phase → Bool
is_burying Parent = true
is_burying Clean = true
is_burying _ = false

-- What the record of an open call names is among some cells, mains, and below the number of pairs.
pub record Owns (cells mains : List ℕ) (pairs : ℕ) (x : Seat) : Type 0 where
  pub path : (i : ℕ) → i ≤ x.path.depth → Memᴰ (get_or x.path.cells i 0) cells
  pub buried : is_burying x.phase ≡ true → x.buried < pairs
  pub expected : is_pending x.phase ≡ true → Memᴰ x.pending.expected mains
  pub made : is_pending x.phase ≡ true → Memᴰ x.pending.made mains
  pub pair : x.phase ≡ Swap → is_put x.ask ≡ true → x.pending.pair < pairs
  pub news : x.phase ≡ Swap → (k : NewCell) → Memᴰ k (new_cells x) → Memᴰ k.cell cells × Memᴰ k.main mains

-- Written cells hold the numbers of written mains, those are fine, and open calls name nothing else.
pub record Written {K : Type 0} (s : State K) : Type 0 where
  pub cells : List ℕ
  pub mains : List ℕ
  pub root : Memᴰ 0 cells
  pub held : (c : ℕ) → Memᴰ c cells → (n : ℕ) × (slice_get s.memory.words c ≡ Some n) × Memᴰ n mains
  pub there : (n : ℕ) → Memᴰ n mains → (x : Main) × (main_at s.memory.mains n ≡ Some x) × Fine cells (length s.memory.pairs) x
  pub seats : (t : ℕ) → is_idle (seat_of s t).phase ≡ false → Owns cells mains (length s.memory.pairs) (seat_of s t)

-- What a swap of a put or a cut will answer.
abbrev pub Hopes : Ask → Outcome → Type 0
Hopes Get r = ⊥
Hopes (Put v) r = r ≡ Stored
Hopes Cut r = (v : ℕ) × (r ≡ Removed v)

-- What a pending put or cut says of itself: what it will answer, that its new cells fit below its path, and that only a put adds.
pub record Poised (x : Seat) : Type 0 where
  pub hopes : x.phase ≡ Swap → Hopes x.ask x.verdict.outcome
  pub short : x.phase ≡ Swap → x.path.depth + x.pending.links ≤ 7
  pub links : x.phase ≡ Swap → length (new_cells x) ≡ x.pending.links
  pub adds : x.phase ≡ Swap → x.pending.adds ≡ true → is_put x.ask ≡ true
