use Rattle.std.proofs.Common.{◌≡◌, drop}
use Rattle.ir_model.specs.Calls.{first_result_by}
use Rattle.ir_model.proofs.calls.first_result_by.Given as goal

abbrev pub invariant-loop-block : goal.invariant-loop-block
invariant-loop-block l = first_result_by l.intrinsic l.blocks ≡ first_result_by l.intrinsic (drop l.block-index l.blocks)
