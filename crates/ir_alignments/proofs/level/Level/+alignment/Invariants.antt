use Rattle.std.proofs.Common.{◌≡◌, ◌+◌, ◌*◌, drop}
use Rattle.ir_model.specs.Ty.{to_tys}
use Rattle.ir_alignments.specs.Alignment.{alignment_in, fields_alignment}
use Rattle.ir_alignments.specs.Level.{known_at}
use Rattle.ir_alignments.proofs.level.Level.+alignment.Given as goal

abbrev pub invariant-greatest-loop-field : goal.invariant-greatest-loop-field
invariant-greatest-loop-field l =
    fields_alignment (alignment_in (known_at l.self) l.depth) 1 (to_tys l.fields) ≡ fields_alignment (alignment_in (known_at l.self) l.depth) l.most (to_tys (drop l.field-index l.fields))

abbrev pub decreases-alignment : goal.decreases-alignment
decreases-alignment l = 2 * l.depth

abbrev pub decreases-greatest : goal.decreases-greatest
decreases-greatest l = 2 * l.depth + 1
