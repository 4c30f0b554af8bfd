use Rattle.rule_types.proofs.Types.{decided}
use Rattle.rule_values.proofs.fits.is_same_type.Goals as goal

pub returns : goal.returns
returns c = decided c.is_same.result c.args.a.now c.args.b.now c.is_same.ensures
