-- One turn with the exact control flow of the calls, the runs that are made of such turns, and who owns a tomb.
use Rattle.std.specs.Prelude.{◌≡◌, Bool, true, false, List, [], ◌∷◌, ℕ, suc, ◌<◌, ◌≤◌, length, get_or}
use Rattle.std.proofs.Math.Option.{Option, none, some}
use Rattle.machine.specs.Tree.{stands, on, walk, find, In}
use Rattle.machine.specs.Machine.{tomb, IsTomb, Mem, word, main, view, Op, get, put, renew, cut, cutting, climb, key, plain, Seat, idle, read, swap, parent, clean, path, State, seat, MainInUse, PairInUse, Alike, Fresh, Prepares, Cleans, seated, moved, swung, value, Entry, gives, add, Formatted}

-- A call as it is opened.
abbrev pub IsPlain : {K : Type 0} → Op K → Type 0
IsPlain (get k) = Unit {0}
IsPlain (put k v) = Unit {0}
IsPlain (renew k v) = ⊥
IsPlain (cut k) = Unit {0}
IsPlain (cutting k v) = ⊥
IsPlain (climb k) = ⊥

-- A settled cut.
abbrev pub IsClimb : {K : Type 0} → Op K → Type 0
IsClimb (get k) = ⊥
IsClimb (put k v) = ⊥
IsClimb (renew k v) = ⊥
IsClimb (cut k) = ⊥
IsClimb (cutting k v) = ⊥
IsClimb (climb k) = Unit {0}

-- A cut that has prepared its swap.
abbrev pub IsCutting : {K : Type 0} → Op K → Type 0
IsCutting (get k) = ⊥
IsCutting (put k v) = ⊥
IsCutting (renew k v) = ⊥
IsCutting (cut k) = ⊥
IsCutting (cutting k v) = Unit {0}
IsCutting (climb k) = ⊥

-- The seat has an open call that has settled: a cut that climbs.
abbrev pub Settled : {K : Type 0} → Seat K → Type 0
Settled idle = ⊥
Settled (read o cs) = IsClimb o
Settled (swap o c cs e n mp new) = ⊥
Settled (parent o b d cs) = IsClimb o
Settled (clean o b d c cs e n) = IsClimb o

-- A settled cut that is left with the path cs: it ends if only the root remains, else it climbs on.
abbrev pub dropped : {K : Type 0} → K → List ℕ → Seat K
dropped k [] = idle
dropped k (c ∷ []) = idle
dropped k (c ∷ d ∷ cs) = read (climb k) (c ∷ d ∷ cs)

-- After a cleaning swap that said yes, or where the last cell is named no more: a settled cut drops the last cell, any other call starts again.
abbrev pub returns : {K : Type 0} → Op K → List ℕ → Seat K
returns (get k) cs = read (get k) (0 ∷ [])
returns (put k v) cs = read (put k v) (0 ∷ [])
returns (renew k v) cs = read (renew k v) (0 ∷ [])
returns (cut k) cs = read (cut k) (0 ∷ [])
returns (cutting k v) cs = read (cutting k v) (0 ∷ [])
returns (climb k) cs = dropped k cs

-- After a cleaning swap that said no: a settled cut reads the cell above the last anew, any other call starts again.
abbrev pub again : {K : Type 0} → Op K → ℕ → ℕ → List ℕ → Seat K
again (get k) b d cs = read (get k) (0 ∷ [])
again (put k v) b d cs = read (put k v) (0 ∷ [])
again (renew k v) b d cs = read (renew k v) (0 ∷ [])
again (cut k) b d cs = read (cut k) (0 ∷ [])
again (cutting k v) b d cs = read (cutting k v) (0 ∷ [])
again (climb k) b d cs = parent (climb k) b d cs

-- After a swap that said yes: a put ends; a cut ends at the root, and climbs below it.
abbrev pub swept : {K : Type 0} → Op K → List ℕ → Seat K
swept (get k) cs = idle
swept (put k v) cs = idle
swept (renew k v) cs = idle
swept (cut k) cs = idle
swept (cutting k v) cs = dropped k cs
swept (climb k) cs = idle

module _ {K : Type 0} (same : K → K → Bool) (hash : K → ℕ) (chunk : ℕ → ℕ → ℕ) where
  -- What a seat does without writing and without settling.
  pub data Goes (m : Mem K) : Seat K → Seat K → Type 0 where
    -- A call is opened.
    opens : (o : Op K) → IsPlain o → Goes m idle (read o (0 ∷ []))
    -- A read finds the next cell.
    down : (o : Op K) (c : ℕ) (cs : List ℕ) (d : ℕ) → IsPlain o → view m c (chunk (hash (key o)) (length cs)) ≡ on d
        → Goes m (read o (c ∷ cs)) (read o (d ∷ c ∷ cs))
    -- A call is refused its places, or a list is full: it ends.
    refused : (o : Op K) (cs : List ℕ) → IsPlain o → Goes m (read o cs) idle
    -- A read finds a tomb, on the way down or on the climb.
    meets : (o : Op K) (b c : ℕ) (cs : List ℕ) → main m (word m c) ≡ tomb b → Goes m (read o (c ∷ cs)) (parent o b c cs)
    -- A swap says no, at any time: the call starts again.
    loses : (o : Op K) (c : ℕ) (cs : List ℕ) (e n : ℕ) (mp : Option ℕ) (new : List (ℕ × ℕ))
        → Goes m (swap o c cs e n mp new) (read (plain o) (0 ∷ []))
    -- A settled cut reads its last cell, finds no tomb and drops the cell.
    leaves : (k : K) (d : ℕ) (cs : List ℕ) → (IsTomb (main m (word m d)) → ⊥) → Goes m (read (climb k) (d ∷ cs)) (dropped k cs)
    -- The cell above the last does not name the last cell.
    parted : (o : Op K) (b d c : ℕ) (cs : List ℕ) → (view m c (chunk (hash (key o)) (length cs)) ≡ on d → ⊥)
        → Goes m (parent o b d (c ∷ cs)) (returns o (c ∷ cs))
    -- A cleaning swap says no, at any time.
    fails : (o : Op K) (b d c : ℕ) (cs : List ℕ) (e n : ℕ) → Goes m (clean o b d c cs e n) (again o b d (c ∷ cs))

  -- One turn, or an opening, with the entry that it adds to the log, if any.
  pub data Turn (s : State K) : Option (Entry K) → State K → Type 0 where
    -- A seat does something that writes nothing and settles nothing.
    goes : (t : ℕ) (x : Seat K) (n : ℕ) → t < length s.seats → s.ticks ≤ n → Goes s.mem (seat s t) x → Turn s none (moved s t x n)
    -- A get ends at pairs.
    got : (t : ℕ) (k : K) (c : ℕ) (cs : List ℕ) (ps : List (K × ℕ)) → t < length s.seats → seat s t ≡ read (get k) (c ∷ cs)
        → (IsTomb (main s.mem (word s.mem c)) → ⊥) → view s.mem c (chunk (hash k) (length cs)) ≡ stands ps
        → Turn s (some (record { stamp = suc s.ticks; op = get k; result = value (find same k ps) })) (seated s s.mem t idle)
    -- A cut ends where its key is not.
    lacks : (t : ℕ) (k : K) (c : ℕ) (cs : List ℕ) (ps : List (K × ℕ)) → t < length s.seats → seat s t ≡ read (cut k) (c ∷ cs)
        → (IsTomb (main s.mem (word s.mem c)) → ⊥) → view s.mem c (chunk (hash k) (length cs)) ≡ stands ps → find same k ps ≡ none
        → Turn s (some (record { stamp = suc s.ticks; op = cut k; result = value none })) (seated s s.mem t idle)
    -- A read prepares a swap; what it takes was not in use.
    prepared : (t : ℕ) (o : Op K) (c : ℕ) (cs : List ℕ) (n : ℕ) (mp : Option ℕ) (new : List (ℕ × ℕ)) (m : Mem K) → t < length s.seats
        → seat s t ≡ read (plain o) (c ∷ cs) → Alike chunk s m → (MainInUse chunk s n → ⊥) → ((p : ℕ) → mp ≡ some p → PairInUse chunk s p → ⊥)
        → Fresh same hash chunk s m new → Prepares same hash chunk m (main s.mem (word s.mem c)) (length cs) o (main m n) mp new
        → Turn s none (seated s m t (swap o c cs (word s.mem c) n mp new))
    -- A swap says yes: the call settles.
    swapped : (t : ℕ) (o : Op K) (c : ℕ) (cs : List ℕ) (e n : ℕ) (mp : Option ℕ) (new : List (ℕ × ℕ)) → t < length s.seats
        → seat s t ≡ swap o c cs e n mp new → word s.mem c ≡ e
        → Turn s (some (record { stamp = suc s.ticks; op = plain o; result = gives o })) (seated s (swung s.mem c n) t (swept o (c ∷ cs)))
    -- A read of the cell above a tomb prepares the cleaning swap.
    cleaning : (t : ℕ) (o : Op K) (b d c : ℕ) (cs : List ℕ) (n : ℕ) (m : Mem K) → t < length s.seats
        → seat s t ≡ parent o b d (c ∷ cs) → Alike chunk s m → (MainInUse chunk s n → ⊥)
        → Cleans same hash chunk (main s.mem (word s.mem c)) (length cs) (key o) d b (main m n)
        → Turn s none (seated s m t (clean o b d c cs (word s.mem c) n))
    -- A cleaning swap says yes.
    cleaned : (t : ℕ) (o : Op K) (b d c : ℕ) (cs : List ℕ) (e n : ℕ) → t < length s.seats
        → seat s t ≡ clean o b d c cs e n → word s.mem c ≡ e
        → Turn s none (seated s (swung s.mem c n) t (returns o (c ∷ cs)))

  -- The state after the seat t was freed, which counts no turn.
  abbrev pub freed : State K → ℕ → State K
  freed s t = moved s t idle s.ticks

  -- Runs from a formatted memory, with their log; the flag says whether a call was withdrawn.
  pub data Turns : Bool → List (Entry K) → State K → Type 0 where
    formatted : {s : State K} → Formatted s → Turns false [] s
    then : {b : Bool} {es : List (Entry K)} {s s' : State K} {e : Option (Entry K)} → Turns b es s → Turn s e s' → Turns b (add e es) s'
    withdrawn : {b : Bool} {es : List (Entry K)} {s : State K} (t : ℕ) → t < length s.seats → Turns b es s → Turns true es (freed s t)

-- The cell c lies on the path of an open settled cut.
abbrev pub Owner : {K : Type 0} → List (Seat K) → ℕ → Type 0
Owner xs c = (t : ℕ) × Settled (get_or xs t idle) × In c (path (get_or xs t idle))

-- Each reached tomb lies in a cell on the path of an open settled cut.
abbrev pub Owned : {K : Type 0} → (ℕ → ℕ → ℕ) → Mem K → List (Seat K) → Type 0
Owned chunk m xs = (h i c : ℕ) → walk chunk (view m) h i ≡ some c → IsTomb (main m (word m c)) → Owner xs c
