use Rattle.std.proofs.Common.{◌≡◌, ◌++◌, ◌∷◌, drop, take, map, filter, length, ◌-◌, ◌+◌}
use Rattle.pass_split.specs.Parts.{instr_names}
use Rattle.pass_split.proofs.parts.instr_names.Given as goal

abbrev pub invariant-loop-k : goal.invariant-loop-k
invariant-loop-k l = l.names ≡ instr_names l.k
