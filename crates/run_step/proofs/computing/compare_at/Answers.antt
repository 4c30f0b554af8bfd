use Rattle.ir_paths.specs.ir_model.TypeView.{bits_of}
use Rattle.run_step.proofs.Numbers.{is_num, one_width}
use Rattle.run_step.proofs.computing.compare_at.Goals as goal

pub icmp-requires-clause-a_word : goal.icmp-requires-clause-a_word
icmp-requires-clause-a_word c = is_num c.args.width c.to_number-left.result c.to_number-left.ensures.fits

pub icmp-requires-clause-b_word : goal.icmp-requires-clause-b_word
icmp-requires-clause-b_word c = is_num c.args.width c.to_number-right.result c.to_number-right.ensures.fits

pub icmp-requires-clause-one_width : goal.icmp-requires-clause-one_width
icmp-requires-clause-one_width c = one_width (bits_of c.args.width) c.to_number-left.result c.to_number-right.result c.to_number-left.ensures.fits c.to_number-right.ensures.fits
