use Rattle.std.proofs.Common.{◌≡◌, ◌++◌, drop, get_or, false}
use Rattle.frame_contents.specs.Held.{held_instrs}
use Rattle.frame_contents.proofs.held.push_instrs.Given as goal

abbrev pub invariant-loop-instr : goal.invariant-loop-instr
invariant-loop-instr l = l.all ++ held_instrs l.sizes.names.now.source.now l.promise (λ v. get_or l.values v false) (λ v. get_or l.slots v false) (drop l.instr-index l.instrs) ≡ l.initial.all ++ held_instrs l.sizes.names.now.source.now l.promise (λ v. get_or l.values v false) (λ v. get_or l.slots v false) l.instrs
