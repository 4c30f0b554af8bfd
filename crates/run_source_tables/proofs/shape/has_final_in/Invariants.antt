use Rattle.std.proofs.Common.{◌≡◌, drop}
use Rattle.std.specs.List.{list_any}
use Rattle.run_source_tables.specs.Lookups.{is_final_suspend}
use Rattle.run_source_tables.proofs.shape.has_final_in.Given as goal

abbrev pub invariant-loop-instr : goal.invariant-loop-instr
invariant-loop-instr l = list_any (λ i. is_final_suspend i) l.instrs ≡ list_any (λ i. is_final_suspend i) (drop l.instr-index l.instrs)
