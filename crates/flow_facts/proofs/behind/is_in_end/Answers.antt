use Rattle.std.proofs.Common.{ap, ◌∙◌}
use Rattle.std.specs.Prelude.{nat_le}
use Rattle.flow_facts.proofs.Ends.{in-end, out-of-end}
use Rattle.flow_facts.proofs.behind.is_in_end.Goals as goal

pub returns-then-point-end : goal.returns-then-point-end
returns-then-point-end c =
    ap (nat_le c.args.point.at) c.len.ensures
    ∙ in-end c.args.function.now c.args.end c.in-Some.block.now c.args.point c.requires c.in-Some.ensures c.if-point-end.true

pub returns-else-point-end : goal.returns-else-point-end
returns-else-point-end c = out-of-end c.args.function.now c.args.end c.in-Some.block.now c.args.point c.requires c.in-Some.ensures c.if-point-end.false
