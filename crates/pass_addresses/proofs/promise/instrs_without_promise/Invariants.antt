use Rattle.std.proofs.Common.{◌≡◌, map}
use Rattle.pass_addresses.specs.Placing.{without_promise_of}
use Rattle.pass_addresses.proofs.promise.instrs_without_promise.Given as goal

abbrev pub invariant-loop-instr : goal.invariant-loop-instr
invariant-loop-instr l = l.all ≡ map without_promise_of l.yielded
