use Rattle.std.proofs.Common.{◌∙◌, subst}
use Rattle.flow_bits.specs.flow_solver.Paths.{IsListed}
use Rattle.flow_blocks.proofs.Bounds.{successors_bounded}
use Rattle.flow_blocks.proofs.reaching.after_end.Goals as goal

pub found-requires : goal.found-requires
found-requires c = λ b h. successors_bounded c.args.function.now c.args.end b (subst (IsListed b) (c.as_slice.ensures.value ∙ c.in_ok-starts.ensures) h)
