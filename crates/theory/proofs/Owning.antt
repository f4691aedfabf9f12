-- What the records of open calls name, where the stock of written cells and mains grows.
use Rattle.std.proofs.Common.{◌≡◌, ℕ, ◌+◌, ◌<◌, ◌≤◌, Bool, true, false, List, ◌++◌, length, get_or, set, replicate, Some, sym, subst, arith, get_or-set_other}
use mathlib.Core.List.Memᴰ
use mathlib.Core.List.{Memᴰ}
use Rattle.std.proofs.lemmas.Bool.{cases_eq, cond_both}
use Rattle.std.proofs.lemmas.Option.{none-some, get_or_from_slice_get}
use Rattle.mains.specs.declared.Main.{Main}
use Rattle.rules.specs.InUse.{is_pending}
use Rattle.rules.specs.Memory.{State}
use Rattle.rules.specs.Seats.{seat_of, idle_seat, is_idle, last_cell, parent_cell}
use Rattle.rules.specs.declared.Seat.{Seat}
use Rattle.theory.proofs.ListPlaces.{each_set, set_here}
use Rattle.theory.proofs.Sights.{Holds}
use Rattle.theory.proofs.Stocking.{Stock}
use Rattle.theory.proofs.Writing.{Written, Owns, Fine, is_burying}

-- What a record names may be named where there is more.
pub owns_more : {cells mains more_cells more_mains : List ℕ} {pairs : ℕ} {x : Seat} → ((c : ℕ) → Memᴰ c cells → Memᴰ c more_cells) → ((n : ℕ) → Memᴰ n mains → Memᴰ n more_mains) → Owns cells mains pairs x → Owns more_cells more_mains pairs x
owns_more f g o = grind arith

-- PATHS

-- The cells of a path that goes down to an index.
abbrev pub Trod : List ℕ → List ℕ → ℕ → Type 0
Trod cells path depth = (i : ℕ) → i ≤ depth → Memᴰ (get_or path i 0) cells

pub trod_root : {cells : List ℕ} → Memᴰ 0 cells → Trod cells (replicate 8 0) 0
trod_root {cells} m i l = let e : 0 ≡ i = omega (arith, l) in subst (λ j. Memᴰ (get_or (replicate 8 0) j 0) cells) e m

-- One more cell, which the path has a place for, or else the root stands in for it.
pub trod_more : {cells : List ℕ} (path : List ℕ) (depth d : ℕ) → Memᴰ 0 cells → Memᴰ d cells → Trod cells path depth → Trod cells (set path (depth + 1) d) (depth + 1)
trod_more path depth d o m f i l = grind (arith, cases_eq, set_here, get_or-set_other)

module _ {cells mains : List ℕ} {pairs : ℕ} where
  -- A record that has nothing prepared.
  pub owns_walking : (x : Seat) → is_pending x.phase ≡ false → (is_burying x.phase ≡ true → x.buried < pairs) → Trod cells x.path.cells x.path.depth → Owns cells mains pairs x
  owns_walking x p b f = grind arith

  -- The last cell of a path and the one before it are cells of the path.
  pub last_owned : (x : Seat) (c : ℕ) → Owns cells mains pairs x → last_cell x ≡ Some c → Memᴰ c cells
  last_owned x c o e = Memᴰ.cast (sym (get_or_from_slice_get x.path.cells x.path.depth c 0 e)) (o.path x.path.depth (omega arith))

  pub parent_owned : (x : Seat) (c : ℕ) → Owns cells mains pairs x → parent_cell x ≡ Some c → Memᴰ c cells
  parent_owned x c o = grind (arith, cond_both, none-some, get_or_from_slice_get)

-- STATES

module _ {K : Type 0} {s : State K} (k : Written s) where
  pub stock : Stock k.cells k.mains s.memory
  stock = record { root = k.root; held = k.held; there = k.there }

  -- What a written cell holds is written and fine.
  pub read_written : (same : K → K → Bool) (hash : K → ℕ) (c n : ℕ) (y : Main) → Memᴰ c k.cells → Holds same hash s.memory c n y → Memᴰ n k.mains × Fine k.cells (length s.memory.pairs) y
  read_written same hash c n y m h = grind arith

  module _ (cells mains : List ℕ) where
    abbrev Own : Seat → Type 0
    Own x = Owns (cells ++ k.cells) (mains ++ k.mains) (length s.memory.pairs) x

    -- One seat's record anew, in a memory with a stock that has the old one and perhaps more.
    pub reseat : (z : State K) (t : ℕ) (y : Seat) → z.table.seats ≡ set s.table.seats t y → length z.memory.pairs ≡ length s.memory.pairs
        → Stock (cells ++ k.cells) (mains ++ k.mains) z.memory → (is_idle y.phase ≡ false → Own y) → Written z
    reseat z t y e size stocked owns =
        record {
          cells = cells ++ k.cells;
          mains = mains ++ k.mains;
          root = stocked.root;
          held = stocked.held;
          there = stocked.there;
          seats =
              subst (λ i. (p : ℕ) → is_idle (seat_of z p).phase ≡ false → Owns (cells ++ k.cells) (mains ++ k.mains) i (seat_of z p)) (sym size)
              (subst (λ (xs : List Seat). (p : ℕ) → is_idle (get_or xs p idle_seat).phase ≡ false → Own (get_or xs p idle_seat)) (sym e)
              (each_set idle_seat (λ (x : Seat). is_idle x.phase ≡ false → Own x) s.table.seats t y owns (λ p o. owns_more (λ c m. Memᴰ.append_right cells m) (λ n m. Memᴰ.append_right mains m) (k.seats p o))));
        }
