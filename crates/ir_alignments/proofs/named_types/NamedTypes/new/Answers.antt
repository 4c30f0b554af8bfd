use Rattle.std.proofs.Common.{List, ap, ◌∙◌}
use Rattle.ir_model.specs.declared.module.TypeItem.{TypeItem}
use Rattle.ir_alignments.specs.Alignment.{alignment_at}
use Rattle.ir_alignments.proofs.named_types.NamedTypes.new.Goals as goal

pub invariant_of-result : goal.invariant_of-result
invariant_of-result c = λ n. c.in_ok-level.ensures n ∙ ap (λ (l : List TypeItem). alignment_at l 64 n) c.as_slice.ensures
