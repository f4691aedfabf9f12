use Rattle.std.proofs.Common.{◌<◌, length, rules, arith}
use Rattle.keys.proofs.Keypresses.{kept_more}
use Rattle.keys.proofs.keypad.reading.CodeTryFromRefSliceU8.try_from.Goals as goal

pub loop-i-preserved : goal.loop-i-preserved
loop-i-preserved c =
    let l : c.loop-i.i < length c.loop-i.stored = omega (arith, c.loop-i.invariant.places) in
    kept_more c.args.bytes.now c.loop-i.stored c.loop-i.i c.in_ok-stored.field-0 c.loop-i-test.true l (search rules) c.loop-i.invariant
