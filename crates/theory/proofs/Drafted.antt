-- What a put or a cut drafts: mains that are fine, and what its record will say of them.
use Rattle.std.proofs.Common.{◌≡◌, ℕ, ◌+◌, ◌<◌, ◌≤◌, Bool, true, List, refl, arith}
use mathlib.Core.List.{Memᴰ}
use Rattle.keys.specs.Routes.{chunk_at}
use Rattle.keys.proofs.Chunks.{parting_parts}
use Rattle.mains.specs.Lists.{unlisted}
use Rattle.mains.specs.Nodes.{removed}
use Rattle.mains.specs.declared.Branch.TheVariants.{Pair as pair, Cell as cell}
use Rattle.mains.specs.declared.Main.{Main}
use Rattle.rules.specs.Edits.{Link, chain_for, links_of, makes_pair, adds_pair, edited}
use Rattle.rules.specs.Memory.{Memory}
use Rattle.rules.specs.Seats.{is_put}
use Rattle.rules.specs.declared.Ask.{Ask}
use Rattle.rules.specs.declared.Edit.{Edit}
use Rattle.rules.specs.declared.Outcome.{Outcome}
use Rattle.theory.proofs.Chaining.{linked_fine}
use Rattle.theory.proofs.Fineness.{fine_inserted, fine_replaced, fine_removed, fine_kept, fine_appended, fine_relisted, fine_unlisted, fine_kept_list}
use Rattle.theory.proofs.Sights.{Drafts}
use Rattle.theory.proofs.Writing.{Fine, Hopes}

module _ {K : Type 0} (same : K → K → Bool) (hash : K → ℕ) {m : Memory K} {k : K} {index : ℕ} where
  -- A put makes a pair, and only a put adds one.
  pub drafts_pair : {ask : Ask} {y : Main} {edit : Edit} {r : Outcome} → Drafts same hash m k index ask y edit r → is_put ask ≡ true → makes_pair edit ≡ true
  drafts_pair e a = grind arith

  pub drafts_adds : {ask : Ask} {y : Main} {edit : Edit} {r : Outcome} → Drafts same hash m k index ask y edit r → adds_pair edit ≡ true → is_put ask ≡ true
  drafts_adds e a = grind arith

  -- A put will have stored, a cut removed.
  pub drafts_hopes : {ask : Ask} {y : Main} {edit : Edit} {r : Outcome} → Drafts same hash m k index ask y edit r → Hopes ask r
  drafts_hopes e = grind arith

  -- No new cell lies past index 7.
  pub drafts_room : {ask : Ask} {y : Main} {edit : Edit} {r : Outcome} → Drafts same hash m k index ask y edit r → index ≤ 7 → index + links_of edit ≤ 7
  drafts_room e l = grind (arith, parting_parts)

  module _ {cells : List ℕ} {pairs : ℕ} (p : ℕ) where
    -- The new main, with its pair in a place p that may be named, and its first new cell d.
    pub fine_drafted : {ask : Ask} {y : Main} {edit : Edit} {r : Outcome} (d : ℕ) → Fine cells pairs y → Drafts same hash m k index ask y edit r
        → (makes_pair edit ≡ true → p < pairs) → Memᴰ d cells → Fine cells pairs (edited edit p d)
    fine_drafted d f (Drafts.inserts v y b) g c = fine_inserted y _ (pair p) f (g refl)
    fine_drafted d f (Drafts.replaces v y i z b h t) g c = fine_replaced y _ (pair p) f (g refl)
    fine_drafted d f (Drafts.removes y i z b h t) g c = fine_kept index (removed y _) (fine_removed y _ f)
    fine_drafted d f (Drafts.splits v y i z b h t) g c = fine_replaced y _ (cell d) f c
    fine_drafted d f (Drafts.appends v l ys h t room) g c = fine_appended l p room f (g refl)
    fine_drafted d f (Drafts.relists v l ys i w h t) g c = fine_relisted l i p f (g refl)
    fine_drafted d f (Drafts.unlists l ys i w h t) g c = fine_kept_list (unlisted l i) (fine_unlisted l i f)

    -- And what its new cells hold.
    pub fine_chain : {ask : Ask} {y : Main} {edit : Edit} {r : Outcome} (news mains : List ℕ) → Fine cells pairs y → Drafts same hash m k index ask y edit r
        → (makes_pair edit ≡ true → p < pairs) → Memᴰ 0 cells → ((c : ℕ) → Memᴰ c news → Memᴰ c cells) → (i : Link) → Memᴰ i (chain_for edit p news mains) → Fine cells pairs i.holds
    fine_chain news mains f (Drafts.splits v y j z b h t) g o n i e = linked_fine (record { node = y; index = index; chunk = chunk_at (hash k) index; pair = j; standing = hash z.key; coming = hash k }) p (index + 1) news mains o n (f.paired j (_, b)) (g refl) i e
    fine_chain news mains f _ g o n i e = elim e [ ]
