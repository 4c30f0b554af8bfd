use Rattle.std.proofs.Common.{◌≡◌, ◌++◌, drop}
use Rattle.ir_parts.specs.Contents.{arg_operands}
use Rattle.rule_uses.specs.Uses.{locals_in}
use Rattle.rule_uses.proofs.locals.push_args.Given as goal

abbrev pub invariant-loop-arg : goal.invariant-loop-arg
invariant-loop-arg l = l.all.items ++ locals_in (arg_operands (drop l.arg-index l.args)) ≡ l.initial.all.items ++ locals_in (arg_operands l.args)
