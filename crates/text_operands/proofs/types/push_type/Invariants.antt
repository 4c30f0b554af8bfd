use Rattle.std.proofs.Common.{◌≡◌, ◌++◌}
use Rattle.text_canonical.specs.canonical.Types.{type_text}
use Rattle.text_operands.specs.Waiting.{waiting_text, waiting_size}
use Rattle.text_operands.proofs.types.push_type.Given as goal

abbrev pub invariant-loop-part : goal.invariant-loop-part
invariant-loop-part l = l.out.items ++ waiting_text l.waiting.items ≡ l.fn.out.items ++ type_text l.fn.ty

abbrev pub decreases-loop-part : goal.decreases-loop-part
decreases-loop-part l = waiting_size l.waiting.items
