use Rattle.compiler.proofs.whole.names_apart.Lowered.{lowered_apart}
use Rattle.compiler.proofs.whole.names_apart.lowered_names_are_apart.Goals as goal

pub returns : goal.returns
returns c = λ text m stands accepted share layouts given n form few. lowered_apart text m stands accepted layouts n
    form few
