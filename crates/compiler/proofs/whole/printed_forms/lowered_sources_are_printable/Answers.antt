use Rattle.compiler.proofs.whole.printed_forms.Lowered.{lowered_printable, lowered_shaped}
use Rattle.compiler.proofs.whole.printed_forms.lowered_sources_are_printable.Goals as goal

pub returns : goal.returns
returns c = record { shaped = lowered_shaped; printable = lowered_printable }
