use Rattle.std.proofs.Common.{◌∙◌, arith}
use Rattle.std.proofs.lemmas.List.{take_more, take_all}
use Rattle.run_memory.proofs.Digits.{length-encode}
use Rattle.run_memory.specs.declared.block.Byte.{Byte}
use Rattle.run_memory.specs.Memory.{encode}
use Rattle.run_memory.proofs.encoded.encoded.Goals as goal

pub loop-k-preserved : goal.loop-k-preserved
loop-k-preserved c =
    let more = take_more (encode c.args.len c.args.v) c.loop-k.k Byte.Undefined (omega (arith, length-encode c.args.len c.args.v)) in
    record { told = cc (more, c.push.ensures.items, c.byte_of.ensures); long = omega arith }

pub returns : goal.returns
returns c = c.loop-k.invariant.told ∙ take_all c.loop-k.k (encode c.args.len c.args.v) (omega (arith, length-encode c.args.len c.args.v))
