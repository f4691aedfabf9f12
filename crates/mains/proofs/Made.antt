-- Nodes that are made whole: what stands at every chunk of each, and that they are well formed.
use Rattle.std.proofs.Common.{ℕ, ◌<◌, cond, eqb, ◌≢◌, Some, sym, ap, ◌∙◌, arith}
use lib.ListN.{length-replicate}
use Rattle.std.proofs.lemmas.Nat.Bits.{bit_at-zero}
use Rattle.mains.specs.Nodes.{filler, empty_node, of_one, of_two}
use Rattle.mains.specs.Laws.{WellFormed, Stands, Alone, Both, nothing}
use Rattle.mains.specs.declared.Branch.{Branch}
use Rattle.mains.proofs.Standing.{at_clear, edited_other}
use Rattle.mains.proofs.Edits.{inserted_formed, inserted_stands}

pub empty_formed : WellFormed empty_node
empty_formed = record { fits = omega arith; row = length-replicate 32 filler }

pub empty_stands : Stands empty_node nothing
empty_stands p = at_clear empty_node p (bit_at-zero p)

pub one_formed : (q : ℕ) (x : Branch) → WellFormed (of_one q x)
one_formed q x = inserted_formed empty_node q x empty_formed

pub one_stands : (q : ℕ) (x : Branch) → q < 32 → Alone (of_one q x) q x
one_stands q x low p =
    inserted_stands empty_node q x empty_formed low (empty_stands q) p ∙ ap (cond (eqb p q) (Some x)) (empty_stands p)

pub two_formed : (q : ℕ) (x : Branch) (r : ℕ) (y : Branch) → WellFormed (of_two q x r y)
two_formed q x r y = inserted_formed (of_one q x) r y (one_formed q x)

pub two_stands : (q : ℕ) (x : Branch) (r : ℕ) (y : Branch) → q < 32 → r < 32 → q ≢ r → Both (of_two q x r y) q x r y
two_stands q x r y q_low r_low ne p =
    let one = one_stands q x q_low in
    let none = one r ∙ edited_other nothing q (Some x) r (λ e. ne (sym e)) in
    inserted_stands (of_one q x) r y (one_formed q x) r_low none p ∙ ap (cond (eqb p r) (Some y)) (one p)
