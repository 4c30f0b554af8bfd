use Rattle.std.proofs.Common.{◌≡◌, ◌++◌, drop}
use Rattle.pass_copies.specs.BeginCopies.{after_instrs, copied_instrs}
use Rattle.pass_copies.proofs.blocks.push_instrs.Given as goal

abbrev pub invariant-loop-instr : goal.invariant-loop-instr
invariant-loop-instr l = record {
  instrs : l.all ++ copied_instrs l.copying l.is_before l.next (drop l.instr-index l.instrs) ≡ l.initial.all ++ copied_instrs l.copying l.first_before l.first l.instrs;
  next : after_instrs l.copying l.is_before l.next (drop l.instr-index l.instrs) ≡ after_instrs l.copying l.first_before l.first l.instrs;
}
