use Rattle.std.proofs.Common.{ap, ◌∙◌, List}
use Rattle.frame_contents.specs.frame_classes.declared.class.SlotClass.{SlotClass}
use Rattle.pass_frames.proofs.Told.{celled_by}
use Rattle.pass_frames.specs.Tables.{class_flags}
use Rattle.pass_frames.proofs.coroutine.celled.Goals as goal

pub returns : goal.returns
returns c = celled_by c.args.types.now.sizes.now.names.now.source.now c.args.function.now c.args.contents.now c.args.edged.now c.as_slice-crossing.result.now c.as_slice-2.result.now c.with_cells.result
    c.requires
    c.as_slice-crossing.ensures
    (c.as_slice-2.ensures ∙ c.in_ok-local.ensures ∙ ap (λ (l : List SlotClass). class_flags c.args.function.now l SlotClass.Local) c.as_slice.ensures)
    c.with_cells.ensures
