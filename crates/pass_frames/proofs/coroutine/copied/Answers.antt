use Rattle.std.proofs.Common.{ap, ◌∙◌, List}
use Rattle.frame_contents.specs.frame_classes.declared.class.SlotClass.{SlotClass}
use Rattle.frame_contents.specs.declared.held.Holding.{Holding}
use Rattle.pass_frames.proofs.Told.{copied_by}
use Rattle.pass_frames.specs.Tables.{class_flags, sizes_by_name}
use Rattle.pass_frames.proofs.coroutine.copied.Goals as goal

pub returns : goal.returns
returns c = copied_by c.args.function.now c.args.contents.now c.args.celled.now c.args.before.now c.args.begin c.as_slice-3.result.now c.as_slice-4.result.now c.as_slice-5.result.now c.with_begin_copies.result
    c.requires
    (c.as_slice-3.ensures ∙ c.in_ok-slots.ensures ∙ ap (λ (l : List SlotClass). class_flags c.args.function.now l SlotClass.Frame) c.as_slice.ensures)
    (c.as_slice-4.ensures ∙ c.in_ok-early.ensures)
    (c.as_slice-5.ensures ∙ c.in_ok-sizes.ensures ∙ ap (λ (l : List Holding). sizes_by_name c.args.function.now l) c.as_slice-2.ensures)
    c.with_begin_copies.ensures
