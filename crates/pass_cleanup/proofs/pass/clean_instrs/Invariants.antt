use Rattle.std.proofs.Common.{◌≡◌, ◌++◌, drop, filter}
use Rattle.pass_cleanup.specs.Cleanup.{is_kept_instr}
use Rattle.pass_cleanup.proofs.pass.clean_instrs.Given as goal

abbrev pub invariant-loop-instr : goal.invariant-loop-instr
invariant-loop-instr l = l.kept ++ filter is_kept_instr (drop l.instr-index l.instrs) ≡ filter is_kept_instr l.instrs
