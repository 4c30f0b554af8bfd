use Rattle.std.proofs.Common.{◌≡◌, drop}
use Rattle.pass_exits.specs.Regions.{first_mark}
use Rattle.pass_exits.proofs.regions.first_mark.Given as goal

abbrev pub invariant-loop-number : goal.invariant-loop-number
invariant-loop-number l = first_mark l.regions l.row l.block ≡ first_mark l.regions (drop l.number-index l.row) l.block
