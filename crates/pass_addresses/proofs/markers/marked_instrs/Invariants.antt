use Rattle.std.proofs.Common.{◌≡◌, ◌++◌, drop, filter}
use Rattle.pass_addresses.specs.Placing.{stays}
use Rattle.pass_addresses.proofs.markers.marked_instrs.Given as goal

abbrev pub invariant-loop-instr : goal.invariant-loop-instr
invariant-loop-instr l = l.all ++ filter (stays l.marked) (drop l.instr-index l.instrs) ≡ filter (stays l.marked) l.instrs
