use Rattle.pass_early_proof.specs.early.renaming.Passes.{named_module}
use Rattle.pass_early_proof.proofs.early.meaning.Names.{named_locals, named_uses, renamed_locals, renamed_uses}
use Rattle.pass_early_proof.proofs.early.meaning.names_stay.Goals as goal

pub returns : goal.returns
returns c = λ m locals uses rules. (
  renamed_locals (named_module m) (named_locals m locals),
  renamed_uses
      (named_module m) rules (named_uses m uses),
)
