use Rattle.std.proofs.Common.{◌≡◌, ℕ, true, ap, ◌∙◌, arith}
use Rattle.ir_alignments.specs.Alignment.{alignment_at}
use Rattle.ir_alignments.specs.Level.{known_at, agree_on}
use Rattle.ir_alignments.proofs.Steady.{level_steady}
use Rattle.ir_alignments.proofs.Levels.{level_turn}
use Rattle.ir_alignments.proofs.named_types.level_of.Goals as goal

pub loop-names-preserved : goal.loop-names-preserved
loop-names-preserved c =
    (level_turn c.args.types.now c.loop-names.names (known_at c.loop-names.level) (known_at c.in_ok-next.next) c.loop-names.invariant.0 c.in_ok-next.ensures, omega arith)

pub returns : goal.returns
returns c =
    let last : c.loop-names.names ≡ 64 = omega arith in
    λ n. c.loop-names.invariant.0 n ∙ ap (λ (k : ℕ). alignment_at c.args.types.now k n) last

pub returns-then-agrees : goal.returns-then-agrees
returns-then-agrees c =
    let same : agree_on c.args.types.now (known_at c.in_ok-next.next) (known_at c.loop-names.level) ≡ true = cc in
    level_steady c.args.types.now c.loop-names.names (known_at c.loop-names.level) (known_at c.in_ok-next.next) c.loop-names.invariant.0 c.in_ok-next.ensures same (omega arith)
