use Rattle.std.proofs.Common.{◌≡◌, drop}
use Rattle.run_step.specs.Values.{indices_of, inner_distance}
use Rattle.run_step.proofs.program.Program.inner_distance.Given as goal

abbrev pub invariant-loop-arg : goal.invariant-loop-arg
invariant-loop-arg l =
    inner_distance l.self.module l.fn.ty l.fn.so_far (indices_of l.self.module l.values l.indices)
    ≡ inner_distance l.self.module l.inside l.distance (indices_of l.self.module l.values (drop l.arg-index l.indices))
