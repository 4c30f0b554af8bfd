use Rattle.run_step.proofs.Numbers.{is_num}
use Rattle.run_step.proofs.operand.number_at.Goals as goal

pub returns-in-Int-clause-fits : goal.returns-in-Int-clause-fits
returns-in-Int-clause-fits c = is_num c.in-Int.width c.to_number.result c.to_number.ensures.fits
