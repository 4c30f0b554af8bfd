use Rattle.std.proofs.Common.{◌≡◌, [], ◌∷◌, length, reverse}
use Rattle.text_reader.specs.Attrs.{behind_close}
use Rattle.text_reader.proofs.attrs.balanced_of.Given as goal

abbrev pub invariant-loop-rest : goal.invariant-loop-rest
invariant-loop-rest l = behind_close l.symbols (l.fn.close ∷ []) ≡ behind_close l.rest (l.innermost ∷ reverse l.outer.items)

abbrev pub decreases-loop-rest : goal.decreases-loop-rest
decreases-loop-rest l = length l.rest
