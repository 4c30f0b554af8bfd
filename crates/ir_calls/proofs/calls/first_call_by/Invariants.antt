use Rattle.std.proofs.Common.{◌≡◌, drop}
use Rattle.ir_calls.specs.Calls.{first_call_by}
use Rattle.ir_calls.proofs.calls.first_call_by.Given as goal

abbrev pub invariant-loop-block : goal.invariant-loop-block
invariant-loop-block l = first_call_by l.intrinsic l.blocks ≡ first_call_by l.intrinsic (drop l.block-index l.blocks)
