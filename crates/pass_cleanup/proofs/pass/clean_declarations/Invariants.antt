use Rattle.std.proofs.Common.{◌≡◌, ◌++◌, drop, filter}
use Rattle.pass_cleanup.specs.Cleanup.{is_kept_declaration}
use Rattle.pass_cleanup.proofs.pass.clean_declarations.Given as goal

abbrev pub invariant-loop-declaration : goal.invariant-loop-declaration
invariant-loop-declaration l = l.kept ++ filter is_kept_declaration (drop l.declaration-index l.declarations) ≡ filter is_kept_declaration l.declarations
