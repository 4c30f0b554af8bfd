use Rattle.compiler_theorem.proofs.theorem.Texts.{texts_kept}
use Rattle.compiler_theorem.proofs.theorem.texts_keep_their_meaning.Goals as goal

pub returns : goal.returns
returns c = texts_kept
