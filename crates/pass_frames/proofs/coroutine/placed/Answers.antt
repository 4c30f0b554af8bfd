use Rattle.std.proofs.Common.{ap, ◌∙◌, List}
use Rattle.frame_contents.specs.frame_classes.declared.class.SlotClass.{SlotClass}
use Rattle.pass_frames.proofs.Told.{placed_by}
use Rattle.pass_frames.specs.Tables.{class_flags}
use Rattle.pass_frames.proofs.coroutine.placed.Goals as goal

pub returns : goal.returns
returns c = placed_by c.args.layout.now c.args.function.now c.args.contents.now c.args.copied.now c.args.base c.len.result c.begin_of-begin.result c.as_slice-2.result.now c.as_slice-3.result.now c.with_frame_addresses.result
    c.requires
    c.len.ensures
    c.begin_of-begin.ensures
    (c.as_slice-2.ensures ∙ c.in_ok-offsets.ensures)
    (c.as_slice-3.ensures ∙ c.in_ok-marked.ensures ∙ ap (λ (l : List SlotClass). class_flags c.args.function.now l SlotClass.Ramp) c.as_slice.ensures)
    c.with_frame_addresses.ensures
