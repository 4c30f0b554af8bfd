use Rattle.std.proofs.Common.{◌≡◌, map}
use Rattle.text_parser.proofs.functions.types_of.Given as goal

abbrev pub invariant-loop-param : goal.invariant-loop-param
invariant-loop-param l = l.types ≡ map (λ p. p.ty) l.yielded
