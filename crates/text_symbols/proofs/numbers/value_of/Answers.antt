use Rattle.std.proofs.Common.{◌+◌, ◌<◌, drop, get_or, length, sym, ◌∙◌, arith}
use Rattle.std.proofs.lemmas.List.{at_drop_more}
use Rattle.text_symbols.specs.Numbers.{value_from}
use Rattle.text_symbols.proofs.Values.{too_much}
use Rattle.text_symbols.proofs.numbers.value_of.Goals as goal

pub returns-in-None : goal.returns-in-None
returns-in-None c =
    let lt : c.loop-digit.digit-index < length c.args.digits.now = omega arith in
    sym (too_much c.args.digits.now c.loop-digit.value (get_or c.args.digits.now c.loop-digit.digit-index 0) (drop (c.loop-digit.digit-index + 1) c.args.digits.now) (c.loop-digit.invariant.0 ∙ at_drop_more (value_from c.loop-digit.value) c.args.digits.now c.loop-digit.digit-index 0 lt) (sym c.in-None.ensures))
