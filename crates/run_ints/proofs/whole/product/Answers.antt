use Rattle.run_ints.proofs.Products.{product_is}
use Rattle.run_ints.proofs.whole.product.Goals as goal

pub returns : goal.returns
returns c = product_is c.args.a c.args.b c.requires.a_small c.requires.b_small
