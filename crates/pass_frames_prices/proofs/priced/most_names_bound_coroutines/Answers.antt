use Rattle.std.proofs.Common.{refl}
use Rattle.pass_frames_prices.proofs.priced.Within.{factor_less, within}
use Rattle.pass_frames_prices.proofs.priced.most_names_bound_coroutines.Goals as goal

pub returns-clause-within : goal.returns-clause-within
returns-clause-within c = within

pub returns-clause-price : goal.returns-clause-price
returns-clause-price c = λ m. refl

pub returns-clause-less : goal.returns-clause-less
returns-clause-less c = factor_less
