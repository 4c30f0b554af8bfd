use Rattle.std.proofs.Common.{◌∙◌, ap, sym, Some}
use Rattle.std.proofs.lemmas.Option.{slice_get-get_or, slice_get_past}
use Rattle.run_source_tables.proofs.Operands.{operand-none, operand-some}
use Rattle.run_source_tables.proofs.points.operand_of.Goals as goal

pub returns-in-None : goal.returns-in-None
returns-in-None c = operand-none c.args.args.now c.args.i (slice_get_past c.args.args.now c.args.i c.in-None.ensures.lookup.3)

pub returns-in-Some : goal.returns-in-Some
returns-in-Some c =
    operand-some c.args.args.now c.args.i c.in-Some.arg.now
    (slice_get-get_or c.args.args.now c.args.i c.in-Some.arg.now c.in-Some.ensures.lookup.3.0 ∙ ap Some (sym c.in-Some.ensures.lookup.1))
