use Rattle.pass_frames_prices.proofs.bounds.Paid.{behind_paid, first_behind, instr_paid, none_behind, none_cost}
use Rattle.pass_frames_prices.proofs.bounds.names_pay_for_instructions.Goals as goal

pub returns-clause-cost : goal.returns-clause-cost
returns-clause-cost c = instr_paid

pub returns-clause-behind : goal.returns-clause-behind
returns-clause-behind c = behind_paid

pub returns-clause-none : goal.returns-clause-none
returns-clause-none c = λ x p e. none_cost x p.block p.at e

pub returns-clause-none_behind : goal.returns-clause-none_behind
returns-clause-none_behind c = λ x p e. none_behind x p.block p.at e

pub returns-clause-first_behind : goal.returns-clause-first_behind
returns-clause-first_behind c = first_behind
