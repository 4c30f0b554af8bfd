use Rattle.std.proofs.Common.{◌≡◌, ℕ, arith, subst}
use Rattle.rule_window_values.proofs.Asking.{next_told}
use Rattle.rule_window_values.specs.Told.{AreTold}
use Rattle.rule_window_values.proofs.rule.told_words.Goals as goal

pub loop-number-preserved : goal.loop-number-preserved
loop-number-preserved c =
    next_told c.args.function.now c.args.all.now.numbers c.loop-number.number c.in_ok-word.word c.loop-number.words c.push.new.self c.in_ok-push.ensures.ok c.in_ok-word.ensures c.loop-number.invariant

pub returns : goal.returns
returns c =
    let last : c.loop-number.number ≡ c.args.chunks = omega arith in
    subst (λ (n : ℕ). AreTold c.args.function.now c.args.all.now.numbers n c.loop-number.words) last c.loop-number.invariant
