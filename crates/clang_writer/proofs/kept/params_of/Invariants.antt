use Rattle.std.proofs.Common.{◌≡◌, ◌≤◌, ◌+◌, drop}
use Rattle.clang_tokens.specs.Brackets.{Bounded}
use Rattle.clang_tokens.specs.declared.brackets.Sret.{Sret}
use Rattle.clang_writer.specs.Kept.{params_of}
use Rattle.clang_writer.proofs.Params.{before}
use Rattle.clang_writer.proofs.kept.params_of.Given as goal

abbrev pub invariant-loop-token : goal.invariant-loop-token
invariant-loop-token l = record {
  bound : Bounded l.sret (l.token-index + 1);
  depth : l.depth ≤ l.token-index;
  read : before l.params l.param (params_of l.depth l.sret (drop l.token-index l.tokens)) ≡ params_of 0 Sret.Outside l.tokens;
}
