use Rattle.pass_frames_prices.proofs.bounds.Totals.{allocas_total, call_total, front_total}
use Rattle.pass_frames_prices.proofs.bounds.costs_are_bounded_by_names.Goals as goal

pub returns-clause-allocas : goal.returns-clause-allocas
returns-clause-allocas c = allocas_total

pub returns-clause-call : goal.returns-clause-call
returns-clause-call c = call_total

pub returns-clause-front : goal.returns-clause-front
returns-clause-front c = front_total
