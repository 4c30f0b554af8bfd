use Rattle.std.proofs.Common.{arith, ℕ}
use Rattle.std.specs.Prelude.{◌==◌}
use Rattle.std.specs.List.{list_any}
use Rattle.ir_paths.specs.declared.point.Point.{Point}
use Rattle.run_step.proofs.Marking.{marked-all, marked-more}
use Rattle.run_source_tables.proofs.table.mark_points.Goals as goal

pub returns : goal.returns
returns c = marked-all (λ (n : ℕ) (p : Point). n == p.block) c.args.points.now c.loop-point.point-index c.args.table.now c.loop-point.table (omega arith) c.loop-point.invariant
