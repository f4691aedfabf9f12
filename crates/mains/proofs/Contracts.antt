-- The laws of the edits, as their contracts name them.
use Rattle.std.proofs.Common.{◌≡◌, ℕ, ◌^◌, ◌<◌, [], ◌∷◌, ◌++◌, length, set, sym, subst, ◌≢◌}
use Rattle.std.specs.List.{remove as without}
use Rattle.mains.specs.Nodes.{of_two, inserted, replaced, removed}
use Rattle.mains.specs.Lists.{listed, appended, relisted, unlisted}
use Rattle.mains.specs.Laws.{Both, WellFormed, Inserts, Replaces, Removes, Relists}
use Rattle.mains.specs.declared.Branch.{Branch}
use Rattle.mains.specs.declared.Node.{Node}
use Rattle.mains.specs.declared.PairList.{PairList}
use Rattle.std.proofs.lemmas.List.{take_min}
use Rattle.mains.proofs.Bits.{has_flagged, set_bit, bit_low}
use Rattle.mains.proofs.Positions.{position_all, position_flagged, flagged_low, position_last}
use Rattle.mains.proofs.Singles.{lone_at}
use Rattle.mains.proofs.Edits.{inserted_stands, inserted_formed, replaced_stands, replaced_formed, removed_stands, removed_formed}
use Rattle.mains.proofs.Made.{two_stands}
use Rattle.mains.proofs.Sizes.{size_inserted, size_replaced, size_removed}
use Rattle.mains.proofs.Listings.{length_listed, listed_appended, appended_formed, listed_relisted, relisted_formed, listed_unlisted, unlisted_formed}

pub inserts : (n : Node) (q : ℕ) (x : Branch) (m : Node) → n.bitmap < 2 ^ 32 → length n.branches ≡ 32 → m ≡ inserted n q x → Inserts n q x m
inserts n q x m fits row e =
    let w : WellFormed n = record { fits = fits; row = row } in
    subst (Inserts n q x) (sym e)
    (record { stands = inserted_stands n q x w; sized = size_inserted n q x; formed = inserted_formed n q x w })

pub replaces : (n : Node) (q : ℕ) (x : Branch) (m : Node) → n.bitmap < 2 ^ 32 → length n.branches ≡ 32 → m ≡ replaced n q x → Replaces n q x m
replaces n q x m fits row e =
    let w : WellFormed n = record { fits = fits; row = row } in
    subst (Replaces n q x) (sym e)
    (record { stands = replaced_stands n q x w; sized = size_replaced n q x; formed = replaced_formed n q x w })

pub removes : (n : Node) (q : ℕ) (m : Node) → n.bitmap < 2 ^ 32 → length n.branches ≡ 32 → m ≡ removed n q → Removes n q m
removes n q m fits row e =
    let w : WellFormed n = record { fits = fits; row = row } in
    subst (Removes n q) (sym e) (record { stands = removed_stands n q w; sized = size_removed n q w; formed = removed_formed n q w })

pub appends : (l : PairList) (p : ℕ) (m : PairList) → length l.pairs ≡ 32 → m ≡ appended l p → l.count < 32 → Relists l (listed l ++ (p ∷ [])) m
appends l p m row e room =
    subst (Relists l (listed l ++ (p ∷ []))) (sym e) (record { lists = listed_appended l p row room; formed = appended_formed l p })

pub relists : (l : PairList) (i p : ℕ) (m : PairList) → m ≡ relisted l i p → Relists l (set (listed l) i p) m
relists l i p m e = subst (Relists l (set (listed l) i p)) (sym e) (record { lists = listed_relisted l i p; formed = relisted_formed l i p })

pub unlists : (l : PairList) (i : ℕ) (m : PairList) → m ≡ unlisted l i → Relists l (without (listed l) i) m
unlists l i m e = subst (Relists l (without (listed l) i)) (sym e) (record { lists = listed_unlisted l i; formed = unlisted_formed l i })

pub made_of_two : (m : Node) (q : ℕ) (x : Branch) (r : ℕ) (y : Branch) → m ≡ of_two q x r y → q < 32 → r < 32 → q ≢ r → Both m q x r y
made_of_two m q x r y e ql rl ne = subst (λ k. Both k q x r y) (sym e) (two_stands q x r y ql rl ne)

-- What the checks of the functions on nodes and on lists are given.
pub ruleset of_nodes = (has_flagged, set_bit, bit_low, position_all, position_flagged, flagged_low, position_last, inserts, replaces, removes, lone_at, made_of_two)

pub ruleset of_lists = (take_min, length_listed, appends, relists, unlists)
