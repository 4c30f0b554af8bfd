use Rattle.compiler.proofs.whole.elided_forms.Same.{names_stay, signatures_stay}
use Rattle.compiler.proofs.whole.elided_forms.elided_modules_have_the_same_signatures.Goals as goal

pub returns-clause-signatures : goal.returns-clause-signatures
returns-clause-signatures c = signatures_stay

pub returns-clause-names : goal.returns-clause-names
returns-clause-names c = names_stay
