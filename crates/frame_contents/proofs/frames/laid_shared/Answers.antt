use Rattle.std.proofs.Common.{◌∙◌}
use Rattle.frame_contents.proofs.Parted.{same_at, same_both, same_positions, shared_by}
use Rattle.frame_contents.proofs.frames.laid_shared.Goals as goal

pub returns : goal.returns
returns c =
    shared_by c.args.function.now c.args.func c.args.allocas.now c.args.fields.now c.args.positions.now c.in_ok-slots.slots.items c.args.crossing.now c.as_slice-9.result.now c.in_ok-alive.alive c.as_slice-10.result.now c.as_slice-13.result.now c.as_slice-11.result.now
    c.as_slice-12.result.now c.in_ok-parts.parts c.lay_out_by.result c.in_ok-alive.ensures c.in_ok-parts.ensures c.in_ok-slots.ensures (c.as_slice-9.ensures.value ∙ c.in_ok-crossing.ensures)
    (c.as_slice-10.ensures.value ∙ (c.in_ok-alive-2.ensures ∙ same_at c.in_ok-slots.slots.items c.as_slice.result.now c.in_ok-alive.alive c.as_slice-2.result.now c.as_slice.ensures.value c.as_slice-2.ensures))
    (c.as_slice-11.ensures.value ∙ (c.in_ok-frame.ensures ∙ same_positions c.in_ok-slots.slots.items c.as_slice-3.result.now c.in_ok-parts.parts.frame c.as_slice-4.result.now c.as_slice-3.ensures.value c.as_slice-4.ensures))
    (c.as_slice-12.ensures.value ∙ (c.in_ok-wide.ensures ∙ same_positions c.in_ok-slots.slots.items c.as_slice-5.result.now c.in_ok-parts.parts.wide c.as_slice-6.result.now c.as_slice-5.ensures.value c.as_slice-6.ensures))
    (c.as_slice-13.ensures.value ∙ (c.in_ok-narrow.ensures ∙ same_both c.in_ok-slots.slots.items c.as_slice-7.result.now c.in_ok-parts.parts.narrow c.as_slice-8.result.now c.as_slice-7.ensures.value c.as_slice-8.ensures))
    c.lay_out_by.ensures
