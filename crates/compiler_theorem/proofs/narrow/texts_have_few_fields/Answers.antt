-- A text has at most as many symbols as bytes.
use Rattle.compiler_theorem.proofs.narrow.Written.{text_narrow}
use Rattle.compiler_theorem.proofs.narrow.texts_have_few_fields.Goals as goal

pub returns : goal.returns
returns c = text_narrow
