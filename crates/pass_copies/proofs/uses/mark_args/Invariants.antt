use Rattle.std.proofs.Common.{◌≡◌, drop}
use Rattle.pass_copies.specs.Uses.{mark_args}
use Rattle.pass_copies.proofs.uses.mark_args.Given as goal

abbrev pub invariant-loop-arg : goal.invariant-loop-arg
invariant-loop-arg l = mark_args l.slots l.used (drop l.arg-index l.args) ≡ mark_args l.slots l.initial.used l.args
