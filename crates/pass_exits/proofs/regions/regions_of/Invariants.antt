use Rattle.std.proofs.Common.{take}
use Rattle.pass_exits.specs.Regions.{AreRegionsOf}
use Rattle.pass_exits.proofs.regions.regions_of.Given as goal

abbrev pub invariant-loop-window : goal.invariant-loop-window
invariant-loop-window l = AreRegionsOf l.function (take l.window-index l.windows) l.all
