use Rattle.std.proofs.Common.{◌≡◌, drop}
use Rattle.std.specs.List.{list_any}
use Rattle.run_source_tables.specs.Lookups.{is_final_suspend}
use Rattle.run_source_tables.proofs.shape.has_final.Given as goal

abbrev pub invariant-loop-block : goal.invariant-loop-block
invariant-loop-block l = list_any (λ b. list_any (λ i. is_final_suspend i) b.instrs) l.block-items ≡ list_any (λ b. list_any (λ i. is_final_suspend i) b.instrs) (drop l.block-index l.block-items)
