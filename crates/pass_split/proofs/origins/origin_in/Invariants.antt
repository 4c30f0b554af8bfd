use Rattle.std.proofs.Common.{◌≡◌, ◌++◌, ◌∷◌, drop, take, map, filter, length, ◌-◌, ◌+◌}
use Rattle.pass_split.specs.Pieces.{origin_in}
use Rattle.pass_split.proofs.origins.origin_in.Given as goal

abbrev pub invariant-loop-instr : goal.invariant-loop-instr
invariant-loop-instr l = origin_in l.shape l.part l.origin (drop l.instr-index l.instrs) ≡ origin_in l.shape l.part l.fn.first l.instrs
