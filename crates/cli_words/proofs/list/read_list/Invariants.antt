use Rattle.std.proofs.Common.{◌≡◌, ◌++◌, ℤ, List, drop, map, option_map}
use Rattle.cli_words.specs.Lists.{numbers}
use Rattle.cli_words.proofs.list.read_list.Given as goal

abbrev pub invariant-loop-part : goal.invariant-loop-part
invariant-loop-part l =
    numbers (map (λ x. x.now) l.part-items) ≡ option_map (λ (ns : List ℤ). l.numbers.items ++ ns) (numbers (map (λ x. x.now) (drop l.part-index l.part-items)))
