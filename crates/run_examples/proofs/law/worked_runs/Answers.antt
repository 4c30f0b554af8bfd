use Rattle.run_examples.specs.FirstRun as first_run
use Rattle.run_examples.specs.FirstRunDestroyedTwice as first_run_destroyed_twice
use Rattle.run_examples.specs.CountingLoop as counting_loop
use Rattle.run_examples.specs.FinalSuspend as final_suspend
use Rattle.run_examples.specs.LeftWindow as left_window
use Rattle.run_examples.specs.Promise as promise
use Rattle.run_examples.specs.ResumedInWindow as resumed_in_window
use Rattle.run_examples.specs.TwoInstances as two_instances
use Rattle.run_examples.specs.ConstantStore as constant_store
use Rattle.run_examples.specs.FirstRunLowered as first_run_lowered
use Rattle.run_examples.specs.ElidedLowered as elided_lowered
use Rattle.run_examples.specs.WrongTypeLowered as wrong_type_lowered
use Rattle.run_examples.specs.CountingLoopFramed as counting_loop_framed
use Rattle.run_examples.specs.IndexTouchedFramed as index_touched_framed
use Rattle.run_examples.specs.ElidedFramed as elided_framed
use Rattle.run_examples.proofs.law.worked_runs.Goals as goal

pub returns-clause-first_run : goal.returns-clause-first_run
returns-clause-first_run c = first_run.computes

pub returns-clause-first_run_destroyed_twice : goal.returns-clause-first_run_destroyed_twice
returns-clause-first_run_destroyed_twice c = first_run_destroyed_twice.computes

pub returns-clause-counting_loop : goal.returns-clause-counting_loop
returns-clause-counting_loop c = counting_loop.computes

pub returns-clause-final_suspend : goal.returns-clause-final_suspend
returns-clause-final_suspend c = final_suspend.computes

pub returns-clause-left_window : goal.returns-clause-left_window
returns-clause-left_window c = left_window.computes

pub returns-clause-promise : goal.returns-clause-promise
returns-clause-promise c = promise.computes

pub returns-clause-resumed_in_window : goal.returns-clause-resumed_in_window
returns-clause-resumed_in_window c = resumed_in_window.computes

pub returns-clause-two_instances : goal.returns-clause-two_instances
returns-clause-two_instances c = two_instances.computes

pub returns-clause-constant_store : goal.returns-clause-constant_store
returns-clause-constant_store c = constant_store.computes

pub returns-clause-first_run_lowered : goal.returns-clause-first_run_lowered
returns-clause-first_run_lowered c = first_run_lowered.computes

pub returns-clause-elided_lowered : goal.returns-clause-elided_lowered
returns-clause-elided_lowered c = elided_lowered.computes

pub returns-clause-wrong_type_lowered : goal.returns-clause-wrong_type_lowered
returns-clause-wrong_type_lowered c = wrong_type_lowered.computes

pub returns-clause-counting_loop_framed : goal.returns-clause-counting_loop_framed
returns-clause-counting_loop_framed c = counting_loop_framed.computes

pub returns-clause-index_touched_framed : goal.returns-clause-index_touched_framed
returns-clause-index_touched_framed c = index_touched_framed.computes

pub returns-clause-elided_framed : goal.returns-clause-elided_framed
returns-clause-elided_framed c = elided_framed.computes
