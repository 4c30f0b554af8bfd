use Rattle.std.proofs.Common.{◌≡◌, drop}
use Rattle.rule_windows.specs.Tokens.{with_tokens_in}
use Rattle.rule_windows.proofs.tokens.Tokens.note_in.Given as goal

abbrev pub invariant-loop-instr : goal.invariant-loop-instr
invariant-loop-instr l = with_tokens_in l.self l.block l.at (drop l.instr-index l.instrs) ≡ with_tokens_in l.initial.self l.block 0 l.instrs
