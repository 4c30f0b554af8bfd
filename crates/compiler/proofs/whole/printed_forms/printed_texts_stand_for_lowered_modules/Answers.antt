use Rattle.compiler.proofs.whole.printed_forms.Lowered.{lowered_stands}
use Rattle.compiler.proofs.whole.printed_forms.printed_texts_stand_for_lowered_modules.Goals as goal

pub returns : goal.returns
returns c = lowered_stands
