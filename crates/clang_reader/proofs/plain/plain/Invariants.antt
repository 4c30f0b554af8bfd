use Rattle.std.proofs.Common.{◌≡◌, ◌++◌, ◌+◌, drop}
use Rattle.clang_tokens.specs.Brackets.{Bounded}
use Rattle.clang_tokens.specs.declared.brackets.Sret.{Sret}
use Rattle.clang_reader.specs.Plain.{plain_from}
use Rattle.clang_reader.proofs.plain.plain.Given as goal

abbrev pub invariant-loop-token : goal.invariant-loop-token
invariant-loop-token l = record {
  bound : Bounded l.sret (l.token-index + 1);
  read : l.kept ++ plain_from l.drops l.sret (drop l.token-index l.tokens) ≡ plain_from l.drops Sret.Outside l.tokens;
}
