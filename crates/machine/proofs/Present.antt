-- A put that replaces does replace: while its swap can still say yes, its key is there.
use mathlib.Core.Path.{◌≡◌, refl, ◌∙◌}
use mathlib.Core.Bool.{Bool}
use mathlib.Core.List.{List}
use mathlib.Core.Option.{Option, none, some}
use Prim.Native.Nat.{ℕ}
use lib.ListN.{length}
use Rattle.machine.specs.Tree.{walk}
use Rattle.machine.specs.Machine.{word, main, view, renew, swap, State, seat, Entry}
use Rattle.machine.specs.Pairs.{find_pair, lookup_pair}
use Rattle.machine.proofs.Effect.{stop, lookup_ends}
use Rattle.machine.proofs.Inv.{Does, Pend, Inv}
use Rattle.machine.proofs.Keep.{is_reached}
use Rattle.machine.proofs.Bearing.{Shows}
use Rattle.machine.proofs.Lawful.{PendRule, Lawful}
use Rattle.machine.proofs.Laws.{Laws}
use Rattle.machine.proofs.Members.{find_lacks}
use Rattle.machine.proofs.Turns.{ok_at}

module _ {K : Type 0} (same : K → K → Bool) (hash : K → ℕ) (chunk : ℕ → ℕ → ℕ) (laws : Laws same hash) where
  pub present : (es : List (Entry K)) (s : State K) (t : ℕ) (k : K) (v c : ℕ) (cs : List ℕ) (e n : ℕ) (mp : Option ℕ) (new : List (ℕ × ℕ))
      → Inv same hash chunk es s → Lawful same hash chunk s.mem s.seats → seat s t ≡ swap (renew k v) c cs e n mp new → word s.mem c ≡ e
      → (z : K × ℕ) × (lookup_pair same hash chunk (view s.mem) k ≡ some z)
  unfolding view
  present es s t k v c cs e n mp new i lawful q h =
      let pend : Pend same hash chunk (Does same hash chunk (renew k v)) s.mem k c cs e n mp none new = ok_at same hash chunk i.seats t (swap (renew k v) c cs e n mp new) q in
      let reached : walk chunk (view s.mem) (hash k) (length cs) ≡ some c = is_reached same hash chunk s.mem k (length cs) c pend.path.0 (λ x. pend.solid (rw h at x)) in
      let f = here (find_pair same k shows.all) refl in
      (f.0, lookup_ends same hash chunk (view s.mem) k shows.all c (length cs) reached (stop (i.shape.low (hash k) (length cs) c reached) (rw h shows.shown)) ∙ f.1)
    where
      rule : PendRule same hash chunk s.mem (swap (renew k v) c cs e n mp new)
      rule = rw q at (lawful.pends t)

      shows : Shows same s.mem.pairs (main s.mem e) (chunk (hash k) (length cs)) k
      shows = (rule h).2

      here : (o : Option (K × ℕ)) → find_pair same k shows.all ≡ o → (z : K × ℕ) × (find_pair same k shows.all ≡ some z)
      here none x = absurd (find_lacks same hash laws k shows.all x shows.pair shows.among shows.equal)
      here (some z) x = (z, x)
