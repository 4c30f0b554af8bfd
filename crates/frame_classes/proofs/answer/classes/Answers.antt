use Rattle.std.proofs.Common.{List, ap, subst, ℕ, ◌∙◌}
use Rattle.frame_classes.proofs.Deciding.{classes_are, of_ok}
use Rattle.frame_classes.specs.Answer.{AreFrameWords, AreNamed, classes_from}
use Rattle.frame_classes.proofs.answer.classes.Goals as goal

pub returns : goal.returns
returns c =
    of_ok c.classes_of.result _ _
    (λ classes is.
    classes_are c.args.function.now c.in_ok-slots.slots c.in_ok-ramp.ramp c.in_ok-marks.marks c.in_ok-words.words classes
    c.in_ok-slots.ensures c.in_ok-ramp.ensures
    (subst (λ (l : List ℕ). AreNamed l c.in_ok-marks.marks) c.as_slice.ensures c.in_ok-marks.ensures)
    (subst (λ (l : List ℕ). AreFrameWords c.args.function.now l c.in_ok-words.words) c.as_slice-2.ensures c.in_ok-words.ensures)
    (is ∙ ap (λ (l : List ℕ). classes_from c.in_ok-marks.marks l 0 c.as_slice-4.result.now) c.as_slice-3.ensures ∙ ap (classes_from c.in_ok-marks.marks c.in_ok-words.words 0) c.as_slice-4.ensures))
    c.classes_of.ensures
