use Rattle.std.proofs.Common.{sym, ◌∙◌}
use Rattle.frame_conflicts.proofs.Parting.{narrow_told, not_narrow}
use Rattle.frame_conflicts.proofs.parts.is_narrow.Goals as goal

pub returns-then-is_loose : goal.returns-then-is_loose
returns-then-is_loose c =
    narrow_told c.args.function.now c.args.known.now c.requires.known c.args.one c.args.other c.is_conflict.result c.requires.loose (sym c.is_loose.ensures ∙ c.if-is_loose.true) c.is_conflict.ensures

pub returns-else-is_loose : goal.returns-else-is_loose
returns-else-is_loose c = not_narrow c.args.function.now c.args.known.now c.requires.known c.args.one c.args.other (sym c.is_loose.ensures ∙ c.if-is_loose.false)
