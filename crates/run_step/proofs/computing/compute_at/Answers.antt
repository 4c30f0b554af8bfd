use Rattle.ir_paths.specs.ir_model.TypeView.{bits_of}
use Rattle.run_step.proofs.Numbers.{is_num, one_width}
use Rattle.run_step.proofs.computing.compute_at.Goals as goal

pub binary-requires-clause-a_word : goal.binary-requires-clause-a_word
binary-requires-clause-a_word c = is_num c.args.width c.to_number-left.result c.to_number-left.ensures.fits

pub binary-requires-clause-b_word : goal.binary-requires-clause-b_word
binary-requires-clause-b_word c = is_num c.args.width c.to_number-right.result c.to_number-right.ensures.fits

pub binary-requires-clause-one_width : goal.binary-requires-clause-one_width
binary-requires-clause-one_width c = one_width (bits_of c.args.width) c.to_number-left.result c.to_number-right.result c.to_number-left.ensures.fits c.to_number-right.ensures.fits
