use Rattle.std.proofs.Common.{◌<◌, length, arith}
use Rattle.rule_uses.proofs.Finding.{best_last}
use Rattle.rule_uses.proofs.rule.first_open.Goals as goal

pub returns : goal.returns
returns c = best_last c.args.function.now (length c.args.function.now.names) c.args.all.now.numbers c.args.all.now.values c.args.opens.now c.loop-chunk.chunk c.loop-chunk.limit c.requires
    (λ k lt. let within : k < c.len.result = omega (arith, lt) in let less = c.chunks_of-chunk-end.ensures k within in omega (arith, less))
    c.loop-chunk.invariant
