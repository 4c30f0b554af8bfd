use Rattle.std.proofs.Common.{◌≡◌, map}
use Rattle.pass_addresses.specs.Placing.{turned_block, without_promise_of}
use Rattle.pass_addresses.proofs.promise.blocks_without_promise.Given as goal

abbrev pub invariant-loop-block : goal.invariant-loop-block
invariant-loop-block l = l.all ≡ map (turned_block (map without_promise_of)) l.yielded
