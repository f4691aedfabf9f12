-- The lone branch of a node: it is there exactly if one chunk has it and no other has any.
use Rattle.std.proofs.Common.{◌≡◌, ℕ, ◌^◌, ◌<◌, eqb, get_or, Some, Option, sym, subst, arith}
use Rattle.std.proofs.lemmas.Bool.{eqb-true}
use Rattle.std.proofs.lemmas.Bool.Decides.{nat_tests}
use Rattle.std.proofs.lemmas.Nat.Bits.{bit_at-lt, bit_at-zero}
use Rattle.std.proofs.lemmas.Option.{cond_some}
use Rattle.mains.specs.Bits.{position}
use Rattle.mains.specs.Nodes.{branch_at, filler, size, lone}
use Rattle.mains.specs.Laws.{Alone, Lone, nothing}
use Rattle.mains.specs.declared.Branch.{Branch}
use Rattle.mains.specs.declared.Node.{Node}
use Rattle.mains.proofs.Bits.{bit_low}
use Rattle.mains.proofs.Positions.{position_none, position_before, position_apart, chunk_there}
use Rattle.mains.proofs.Gains.{Gains, position_upto, position_beyond}
use Rattle.mains.proofs.Standing.{at_set, at_clear, stands_from}

-- Where one bit is set in all, some chunk has it, and every other bit is clear.
found : (n : Node) (x : Branch) → n.bitmap < 2 ^ 32 → lone n ≡ Some x → (q : ℕ) × Alone n q x
found n x fits e =
    let b = n.bitmap in
    let told = cond_some (eqb (size n) 1) (get_or n.branches 0 filler) x e in
    let one : position b 32 ≡ 1 = eqb-true (size n) 1 told.0 in
    let there = chunk_there b 32 0 (omega arith) in
    let q = there.0 in
    let here : branch_at n q ≡ Some x = grind (arith, at_set n q there.2, there.3, told.1) in
    (q, stands_from n nothing q (Some x) here (λ p ne. at_clear n p (grind (arith, bit_at-lt b p, bit_low b p fits, position_before b q 32 there.2 there.1, position_before b p 32, position_apart b p q, there.2))))

-- A node with one branch has one bit more than none.
sole : (n : Node) (q : ℕ) (x : Branch) → n.bitmap < 2 ^ 32 → Alone n q x → lone n ≡ Some x
sole n q x fits a =
    let b = n.bitmap in
    let g : Gains 0 q b =
    record {
      clear = bit_at-zero q;
      raised = grind (arith, nat_tests, a q);
      others = λ p ne. grind (arith, nat_tests, a p, bit_at-lt b p, bit_at-zero p);
    } in
    grind (arith, nat_tests, a q, bit_low b q fits g.raised, position_upto 0 q b q g, position_beyond 0 q b 32 g, position_none q, position_none 32)

pub lone_is : (n : Node) → n.bitmap < 2 ^ 32 → Lone n (lone n)
lone_is n fits = record { found = λ x e. found n x fits e; sole = λ q x a. sole n q x fits a }

pub lone_at : (n : Node) (o : Option Branch) → n.bitmap < 2 ^ 32 → o ≡ lone n → Lone n o
lone_at n o fits e = subst (Lone n) (sym e) (lone_is n fits)
