use Rattle.std.proofs.Common.{◌≡◌, ◌++◌, drop}
use Rattle.text_canonical.specs.canonical.Blocks.{instrs_text}
use Rattle.text_printer.proofs.blocks.push_instrs.Given as goal

abbrev pub invariant-loop-instr : goal.invariant-loop-instr
invariant-loop-instr l = l.out.items ++ instrs_text l.names (drop l.instr-index l.instrs) ≡ l.initial.out.items ++ instrs_text l.names l.instrs
