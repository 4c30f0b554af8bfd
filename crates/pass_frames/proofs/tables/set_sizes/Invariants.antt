use Rattle.std.proofs.Common.{◌≡◌, drop}
use Rattle.pass_frames.specs.Tables.{with_sizes}
use Rattle.pass_frames.proofs.tables.set_sizes.Given as goal

abbrev pub invariant-loop-holding : goal.invariant-loop-holding
invariant-loop-holding l = with_sizes (drop l.holding-index l.held) l.sizes ≡ with_sizes l.held l.initial.sizes
