use Rattle.std.proofs.Common.{◌≡◌, ◌≤◌, length}
use Rattle.text_parser.specs.Functions.{named_params, with_params}
use Rattle.text_parser.proofs.functions.named_params.Given as goal

abbrev pub invariant-loop-param : goal.invariant-loop-param
invariant-loop-param l =
    (named_params l.fn.names 0 l.fn.params ≡ with_params l.all (named_params l.names l.numbers l.param-iterator.rest.items))
    × (l.numbers ≤ length l.yielded)
