use Rattle.std.proofs.Common.{◌<◌, ◌∙◌, arith, rules}
use Rattle.run_memory.proofs.Reading.{number_more, digit_kept, number_below, place_below}
use Rattle.run_memory.proofs.decoded.number_of.Goals as goal

pub overflow_add-number : goal.overflow_add-number
overflow_add-number c =
    let d : c.in-Number.digit < 256 = search rules in
    let lt : c.loop-k.k < 8 = omega (arith, c.requires) in
    let e = digit_kept c.loop-k.k c.in-Number.digit lt d in
    let s = number_below c.loop-k.k c.loop-k.number c.in-Number.digit c.loop-k.invariant.below d in
    let p = place_below c.loop-k.k lt in
    omega arith

pub loop-k-preserved : goal.loop-k-preserved
loop-k-preserved c =
    let d : c.in-Number.digit < 256 = search rules in
    let lt : c.loop-k.k < 8 = omega (arith, c.requires) in
    let e = digit_kept c.loop-k.k c.in-Number.digit lt d in
    let s = number_below c.loop-k.k c.loop-k.number c.in-Number.digit c.loop-k.invariant.below d in
    rw e (record {
      rest = c.loop-k.invariant.rest ∙ number_more c.args.bytes.now c.loop-k.k c.loop-k.number c.in-Number.digit (omega arith) c.in-Number.is;
      below = s;
    })
