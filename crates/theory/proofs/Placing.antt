-- The pairs that the rules reach are those that the machine reaches in the memory shown.
use Rattle.std.proofs.Common.{◌≡◌, ℕ, ◌<◌, Bool, List, [], ◌∷◌, Some, sym, ap, ◌∙◌, subst}
use mathlib.Core.List.{Memᴰ}
use Rattle.keys.specs.Laws.{KeyLaws}
use Rattle.keys.specs.Routes.{chunk_at}
use Rattle.std.specs.List.{slice_get}
use Rattle.machine.proofs.Laws.{laws_of}
use Rattle.machine.specs.Machine.{Entry, Seat as Place, HasPair, Main as Shape, word, main as main_of}
use Rattle.mains.specs.Lists.{listed}
use Rattle.mains.specs.Nodes.{branch_at}
use Rattle.mains.specs.declared.Branch.{Branch}
use Rattle.mains.specs.declared.Branch.TheVariants.{Pair as pair, Cell as cell}
use Rattle.mains.specs.declared.Main.{Main}
use Rattle.mains.specs.declared.Main.TheVariants.{Node as node, Tomb as tomb, List as listing}
use Rattle.mains.specs.declared.Node.{Node}
use Rattle.rules.proofs.Naming.{then_some, sound_in_lem, at_chunk}
use Rattle.rules.specs.Memory.{Memory, State, main_at, main_in}
use Rattle.rules.specs.Reached.{ReachedPair, pairs_in, branches_to, branches_of, pairs_of}
use Rattle.rules.specs.declared.Figures.{Figures}
use Rattle.rules.specs.declared.Pair.{Pair}
use Rattle.theory.proofs.Ground.{Ground}
use Rattle.theory.proofs.Homes.{Reaches, AtHome, at_home}
use Rattle.theory.proofs.Names.{mem_in}
use Rattle.theory.proofs.Shown.{shows_edits}
use Rattle.theory.proofs.ShownMemory.{shows_memory}
use Rattle.theory.proofs.Using.{reached_leads, pair_reached}
use Rattle.theory.specs.Shown.{slot, shown_main, shown_mem}

-- A branch that is listed as a pair is one.
listed_pair : (p : ℕ) (bs : List Branch) → Memᴰ p (pairs_in bs) → Memᴰ (pair p) bs
listed_pair p [] m = elim m [ ]
listed_pair p (pair r ∷ bs) (Memᴰ.head e) = Memᴰ.head (ap pair e)
listed_pair p (pair r ∷ bs) (Memᴰ.tail m) = Memᴰ.tail (listed_pair p bs m)
listed_pair p (cell c ∷ bs) m = Memᴰ.tail (listed_pair p bs m)

pair_at : (n : Node) (p : ℕ) → Memᴰ p (pairs_of (node n)) → (q : ℕ) × (q < 32) × (branch_at n q ≡ Some (pair p))
unfolding branches_of
pair_at n p m = at_chunk n (pair p) 32 (listed_pair p (branches_to n 32) m)

-- A pair that a main names is named by the main shown.
pub shown_has : (x : Main) (p : ℕ) → Memᴰ p (pairs_of x) → HasPair (shown_main x) p
shown_has (node n) p m = let a = pair_at n p m in (a.0, shows_edits.slot_at n a.0 a.1 ∙ ap slot a.2)
shown_has (tomb r) p (Memᴰ.head e) = sym e
shown_has (tomb r) p (Memᴰ.tail m) = elim m [ ]
shown_has (listing l) p m = mem_in p (listed l) m

-- The main of a cell is shown.
pub main_shown : {K : Type 0} (m : Memory K) (c : ℕ) (x : Main) → main_in m c ≡ Some x → main_of (shown_mem m) (word (shown_mem m) c) ≡ shown_main x
main_shown {K} m c x e =
    let w = then_some (slice_get m.words c) (main_at m.mains) x e in
    ap (main_of (shown_mem m)) ((shows_memory K).word_at m c w.0 w.1) ∙ (shows_memory K).main_at_lem m w.0 x w.2

module _ {K : Type 0} (same : K → K → Bool) (hash : K → ℕ) (laws : KeyLaws same hash) {f : Figures} {es : List (Entry K)} {s : State K} {xs : List (Place K)} (g : Ground same hash f es s xs) where
  pub reaches : (p : ℕ) → ReachedPair same hash s.memory p → Reaches same hash chunk_at (shown_mem s.memory) p
  reaches p r =
      let l = reached_leads same hash laws g r.index r.cell r.at in
      let e = main_shown s.memory r.cell r.main (sound_in_lem same hash s.memory r.index r.cell r.main r.keeps).0 in
      (l.0, r.index, r.cell, l.1, subst (λ (X : Shape). HasPair X p) (sym e) (shown_has r.main p r.names))

  -- What is reached is there.
  pub pair_there : (p : ℕ) → Reaches same hash chunk_at (shown_mem s.memory) p → (y : Pair K) × (slice_get s.memory.pairs p ≡ Some y)
  pair_there p r =
      let x = (g.lawful.ruled r.0 r.1 r.2 r.3).inside p r.4 in
      let w = (shows_memory K).pair_from s.memory p x.0 x.1 in
      (w.0, w.1)

  pub reached : (p : ℕ) → Reaches same hash chunk_at (shown_mem s.memory) p → ReachedPair same hash s.memory p
  reached p r = pair_reached same hash laws g r.0 r.1 r.2 p r.3 r.4

  -- A reached pair is at home in the memory shown.
  pub home : (p : ℕ) (y : Pair K) → ReachedPair same hash s.memory p → slice_get s.memory.pairs p ≡ Some y → AtHome same hash chunk_at (shown_mem s.memory) p (y.key, y.value)
  home p y r e =
      let z = reaches p r in
      at_home same hash chunk_at (laws_of same hash laws) (shown_mem s.memory) g.inv.shape g.lawful.ruled z.0 z.1 z.2 p (y.key, y.value) z.3 z.4
      ((shows_memory K).pair_at s.memory p y e)
