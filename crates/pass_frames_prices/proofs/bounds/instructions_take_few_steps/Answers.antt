use Rattle.pass_frames_prices.proofs.bounds.Rows.{row_few}
use Rattle.pass_frames_prices.proofs.bounds.Steps.{behind_cost_short, cost_short, own_few}
use Rattle.pass_frames_prices.proofs.bounds.instructions_take_few_steps.Goals as goal

pub returns-clause-cost : goal.returns-clause-cost
returns-clause-cost c = λ x is p i e. cost_short x is (row_few x is) p.block p.at i e

pub returns-clause-own : goal.returns-clause-own
returns-clause-own c = λ x is p i e r. own_few x is (row_few x is) p.block p.at i e r

pub returns-clause-behind : goal.returns-clause-behind
returns-clause-behind c = λ x is p i e. behind_cost_short x is (row_few x is) p.block p.at i e
