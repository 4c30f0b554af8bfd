use Rattle.std.proofs.Common.{false, refl}
use Rattle.pass_elide_edges.proofs.EdgesApart.{entry_apart, switch_apart}
use Rattle.pass_elide_edges.proofs.apart.entries_keep_apart.Goals as goal

pub returns-clause-entry : goal.returns-clause-entry
returns-clause-entry c = λ f x ramp given alone. entry_apart f x alone ramp given

pub returns-clause-switch : goal.returns-clause-switch
returns-clause-switch c = λ f x given block label edge arg default cases alone is.
    switch_apart f x alone false given block label edge arg default cases is refl
