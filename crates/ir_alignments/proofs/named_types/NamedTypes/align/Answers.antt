use Rattle.std.proofs.Common.{List, ap, ◌∙◌}
use Rattle.ir_model.specs.declared.module.TypeItem.{TypeItem}
use Rattle.ir_alignments.specs.Alignment.{alignment_at}
use Rattle.ir_alignments.specs.Level.{known_at}
use Rattle.ir_alignments.proofs.Levels.{align_none, align_some}
use Rattle.ir_alignments.proofs.named_types.NamedTypes.align.Goals as goal

pub returns-in-None : goal.returns-in-None
returns-in-None c =
    align_none c.args.self.now (known_at c.self.inside.level) c.args.ty.now (λ n. c.self.invariant n ∙ ap (λ (l : List TypeItem). alignment_at l 64 n) c.self.view_is) c.in-None.ensures

pub returns-in-Some : goal.returns-in-Some
returns-in-Some c =
    align_some c.args.self.now (known_at c.self.inside.level) c.args.ty.now c.in-Some.align (λ n. c.self.invariant n ∙ ap (λ (l : List TypeItem). alignment_at l 64 n) c.self.view_is) c.in-Some.ensures
