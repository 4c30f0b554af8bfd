use Rattle.std.proofs.Common.{ℕ, ◌+◌, max, ap, ◌∙◌}
use Rattle.std.specs.Prelude.{slice_index}
use Rattle.frame_placing.proofs.Greatest.{end_next, end_of_none, greater_of}
use Rattle.frame_placing.proofs.ends.end_of.Goals as goal

pub loop-k-init : goal.loop-k-init
loop-k-init c = record { is_end = end_of_none c.args.rooms.now c.args.offsets.now }

pub loop-k-preserved : goal.loop-k-preserved
loop-k-preserved c =
    let greater = c.max-end.ensures ∙ greater_of c.loop-k.end (slice_index c.args.offsets.now c.loop-k.k + c.size_at.result) in
    record { is_end = end_next c.args.rooms.now c.args.offsets.now c.loop-k.k c.loop-k.end c.max-end.result c.loop-k.invariant.is_end (greater ∙ ap (λ (n : ℕ). max c.loop-k.end (slice_index c.args.offsets.now c.loop-k.k + n)) c.size_at.ensures) }
