use Rattle.run_compare.proofs.Steps.{runs, source_next, still_running}
use Rattle.run_source.specs.Machines.{run_of}
use Rattle.run_compare.proofs.comparing.run_source.Goals as goal

pub loop-made-preserved : goal.loop-made-preserved
loop-made-preserved c =
    let r = run_of c.args.source.now in
    let s = run_of c.loop-made.source in
    let u = run_of c.run.new.self in
    let n = c.loop-made.made in (
      source_next r s u (run_of c.step.new.self) n c.loop-made.invariant.0 c.in_ok-outcome.ensures.done
          c.in_ok-step.ensures.done,
      still_running r s u n c.loop-made.invariant.0 c.in_ok-outcome.ensures.done c.in_ok-outcome.outcome
          c.in_ok-outcome.ensures.outcome (runs c.in_ok-outcome.outcome _ c.is_running.ensures c.if-not-is_running.false) c.loop-made.invariant.1,
    )
