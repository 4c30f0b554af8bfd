use Rattle.std.proofs.Common.{◌≡◌, true, List, ℕ, ◌++◌, length}
use Rattle.text_canonical.specs.canonical.Lines.{lacks}
use Rattle.text_frame_lines.proofs.comments.first_line.Given as goal

abbrev pub invariant-loop-first : goal.invariant-loop-first
invariant-loop-first l = (line : List ℕ) × (l.text ≡ line ++ l.rest) × (lacks 10 line ≡ true)

abbrev pub decreases-loop-first : goal.decreases-loop-first
decreases-loop-first l = length l.rest
