use Rattle.keys.proofs.Keypresses.{Kept}
use Rattle.keys.proofs.keypad.reading.CodeTryFromRefSliceU8.try_from.Given as goal

abbrev pub invariant-loop-i : goal.invariant-loop-i
invariant-loop-i l = Kept l.bytes l.stored l.i
