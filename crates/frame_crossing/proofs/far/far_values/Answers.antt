use Rattle.rule_uses.proofs.flow_blocks.Making.{of_ok}
use Rattle.frame_crossing.proofs.OneWalking.{table_far}
use Rattle.frame_crossing.proofs.far.far_values.Goals as goal

pub returns : goal.returns
returns c = of_ok c.values_in.result _ _
    (λ far is. table_far c.args.names c.args.known.now.numbers c.args.known.now.values c.as_slice.result.now far.items c.in_ok-table.table c.args.blocks.now c.args.uses.now c.requires c.as_slice.ensures c.in_ok-table.ensures is)
    c.values_in.ensures
