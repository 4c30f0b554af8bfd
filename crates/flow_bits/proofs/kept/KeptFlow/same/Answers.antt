use Rattle.std.proofs.Common.{◌<◌, ◌^◌, arith}
use Rattle.flow_bits.proofs.Answers.{same_words}
use Rattle.flow_bits.proofs.kept.KeptFlow.same.Goals as goal

pub returns : goal.returns
returns c =
    let left : c.args.a.now < 2 ^ 64 = omega arith in
    let right : c.args.b.now < 2 ^ 64 = omega arith in
    same_words c.args.a.now c.args.b.now left right
