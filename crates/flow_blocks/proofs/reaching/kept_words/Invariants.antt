use Rattle.std.proofs.Common.{◌≡◌, map, take}
use Rattle.flow_blocks.specs.Words.{kept_word}
use Rattle.flow_blocks.proofs.reaching.kept_words.Given as goal

abbrev pub invariant-loop-to : goal.invariant-loop-to
invariant-loop-to l = l.words.items ≡ map (λ e. kept_word l.marks e.1) (take l.to-index l.edges)
