use Rattle.compiler.proofs.fit.Fields.{fields_fit}
use Rattle.compiler.proofs.fit.functions_have_fit_fields.Goals as goal

pub returns : goal.returns
returns c = fields_fit
