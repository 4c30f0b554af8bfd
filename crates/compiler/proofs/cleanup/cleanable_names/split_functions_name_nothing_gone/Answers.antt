use Rattle.compiler.proofs.cleanup.cleanable_names.Tokens.{nothing_gone}
use Rattle.compiler.proofs.cleanup.cleanable_names.split_functions_name_nothing_gone.Goals as goal

pub returns : goal.returns
returns c = nothing_gone
