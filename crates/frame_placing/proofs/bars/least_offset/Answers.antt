use Rattle.std.proofs.Common.{ℕ, ◌+◌, ◌-◌, get_or, subst, sym, arith, refl}
use Rattle.std.proofs.lemmas.Option.{slice_get-get_or}
use Rattle.frame_placing.specs.declared.bars.Bar.{Bar}
use Rattle.frame_placing.proofs.Passing.{IsPassing, none_passes, passing_ends, passing_kept, passing_raised}
use Rattle.frame_placing.proofs.bars.least_offset.Goals as goal
use Rattle.frame_placing.proofs.bars.least_offset.Goals.{then-at-bar+in_ok-at-2, else-at-bar}

no_bar : Bar
no_bar = record { start = 0; end = 0 }

pub returns-in_err-at-2 : goal.returns-in_err-at-2
unfolding no_bar
returns-in_err-at-2 c =
    rw c.from_residual-in_err-at-2.ensures
    (none_passes c.args.bars.now c.args.size c.args.align c.args.limit (c.args.limit - c.args.size) c.loop-bar.bar-index c.loop-bar.at (get_or c.args.bars.now c.loop-bar.bar-index no_bar)
    c.requires.bars (omega arith) (omega arith) refl c.loop-bar.invariant (slice_get-get_or c.args.bars.now c.loop-bar.bar-index no_bar c.loop-bar-test.true) c.if-at-size.false c.in_err-at-2.ensures)

pub loop-bar-preserved : goal.loop-bar-preserved
unfolding no_bar
loop-bar-preserved c =
    let here = slice_get-get_or c.args.bars.now c.loop-bar.bar-index no_bar c.loop-bar-test.true in
    elim c.if-at-bar.branch [
      | then-at-bar+in_ok-at-2 w ↦ subst (λ (at : ℕ). IsPassing c.args.bars.now c.args.size c.args.align (c.args.limit - c.args.size) (c.loop-bar.bar-index + 1) at) (sym w.at-is)
          (passing_raised c.args.bars.now c.args.size c.args.align (c.args.limit - c.args.size) c.loop-bar.bar-index c.loop-bar.at w.in_ok-at-2.at (get_or c.args.bars.now c.loop-bar.bar-index no_bar)
          c.requires.bars (omega arith) c.loop-bar.invariant here c.if-at-size.false w.if-at-bar.true w.in_ok-at-2.ensures)
      | else-at-bar w ↦ subst (λ (at : ℕ). IsPassing c.args.bars.now c.args.size c.args.align (c.args.limit - c.args.size) (c.loop-bar.bar-index + 1) at) (sym w.at-is)
          (passing_kept c.args.bars.now c.args.size c.args.align (c.args.limit - c.args.size) c.loop-bar.bar-index c.loop-bar.at (get_or c.args.bars.now c.loop-bar.bar-index no_bar) c.loop-bar.invariant here w.if-at-bar.false)
    ]

pub returns : goal.returns
returns c = (passing_ends c.args.bars.now c.args.size c.args.align (c.args.limit - c.args.size) c.loop-bar.bar-index c.loop-bar.at c.loop-bar-test.false c.loop-bar.invariant, omega arith)
