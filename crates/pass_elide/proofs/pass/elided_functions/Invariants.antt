use Rattle.std.proofs.Common.{◌≡◌, ◌++◌, drop}
use Rattle.pass_elide.specs.Elided.{elided_functions}
use Rattle.pass_elide.proofs.pass.elided_functions.Given as goal

abbrev pub invariant-loop-function : goal.invariant-loop-function
invariant-loop-function l =
    l.all ++ elided_functions l.tables.names.source.now l.tables.layouts.now l.tables.sites.now l.func (drop l.function-index l.functions)
    ≡ elided_functions l.tables.names.source.now l.tables.layouts.now l.tables.sites.now 0 l.functions
