use Rattle.std.proofs.Common.{◌≡◌, map}
use Rattle.text_reader.proofs.locals.Locals.to_items.Given as goal

abbrev pub invariant-loop-name : goal.invariant-loop-name
invariant-loop-name l = l.all ≡ map (λ n. n.now) l.yielded
