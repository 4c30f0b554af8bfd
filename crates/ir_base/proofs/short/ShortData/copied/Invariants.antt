use Rattle.std.proofs.Common.{◌≡◌, take}
use Rattle.ir_base.proofs.short.ShortData.copied.Given as goal

abbrev pub invariant-loop-value : goal.invariant-loop-value
invariant-loop-value g l = l.all ≡ take l.value-index l.value-items
