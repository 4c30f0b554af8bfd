use Rattle.std.proofs.Common.{◌≡◌, drop}
use Rattle.rule_windows.specs.Tokens.{with_tokens_by}
use Rattle.rule_windows.proofs.tokens.Tokens.note_by.Given as goal

abbrev pub invariant-loop-block : goal.invariant-loop-block
invariant-loop-block l = with_tokens_by l.self l.at (drop l.block-index l.blocks) ≡ with_tokens_by l.initial.self 0 l.blocks
