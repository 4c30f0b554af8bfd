use Rattle.std.proofs.Common.{◌≡◌, ◌++◌, drop}
use Rattle.ir_parts.specs.Contents.{arg_operands}
use Rattle.pass_fetch.specs.Fetching.{fetched_args, fetches_of_all, next_after_all}
use Rattle.pass_fetch.proofs.operands.push_args.Given as goal

abbrev pub invariant-loop-arg : goal.invariant-loop-arg
invariant-loop-arg l = record {
  args : l.fetched ++ fetched_args l.fetches l.next (drop l.arg-index l.args) ≡ fetched_args l.fetches l.initial.next l.args;
  instrs : l.all ++ fetches_of_all l.fetches l.next (arg_operands (drop l.arg-index l.args)) ≡ l.initial.all ++ fetches_of_all l.fetches l.initial.next (arg_operands l.args);
  next : next_after_all l.fetches l.next (arg_operands (drop l.arg-index l.args)) ≡ next_after_all l.fetches l.initial.next (arg_operands l.args);
}
