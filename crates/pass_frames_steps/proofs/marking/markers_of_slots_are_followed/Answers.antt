use Rattle.pass_frames_steps.proofs.marking.Gone.{before_followed, behind_followed, idle_followed, poison_followed}
use Rattle.pass_frames_steps.proofs.marking.Sooner.{early_marker_followed}
use Rattle.pass_frames_steps.proofs.marking.markers_of_slots_are_followed.Goals as goal

pub returns-clause-anew : goal.returns-clause-anew
returns-clause-anew c = idle_followed

pub returns-clause-none : goal.returns-clause-none
returns-clause-none c = poison_followed

pub returns-clause-before : goal.returns-clause-before
returns-clause-before c = before_followed

pub returns-clause-behind : goal.returns-clause-behind
returns-clause-behind c = behind_followed

pub returns-clause-early : goal.returns-clause-early
returns-clause-early c = early_marker_followed
