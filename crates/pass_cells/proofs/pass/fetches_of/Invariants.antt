use Rattle.std.proofs.Common.{◌≡◌, ◌++◌, drop, map}
use Rattle.pass_cells.specs.Cells.{fetch_for}
use Rattle.pass_cells.proofs.pass.fetches_of.Given as goal

abbrev pub invariant-loop-place : goal.invariant-loop-place
invariant-loop-place l = l.all ++ map (fetch_for l.plan.kept) (drop l.place-index l.place-items) ≡ map (fetch_for l.plan.kept) l.place-items
