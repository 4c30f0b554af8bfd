use Rattle.compiler_theorem.proofs.apart.Whole.{fields_apart}
use Rattle.compiler_theorem.proofs.apart.fields_of_sources_lie_apart.Goals as goal

pub returns : goal.returns
returns c = λ l low few a anew r entered n s t built beside sized frames.
    fields_apart l low few a anew r entered n s t built beside sized frames
