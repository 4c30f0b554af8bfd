use Rattle.std.proofs.Common.{◌≡◌, true, List, ℕ, ◌++◌, length}
use Rattle.text_canonical.specs.canonical.Lines.{lacks}
use Rattle.text_frame_lines.proofs.comments.around_last_space.Given as goal

abbrev pub invariant-loop-last : goal.invariant-loop-last
invariant-loop-last l = (back : List ℕ) × (l.text ≡ l.before ++ back) × (lacks 32 back ≡ true)

abbrev pub decreases-loop-last : goal.decreases-loop-last
decreases-loop-last l = length l.before
