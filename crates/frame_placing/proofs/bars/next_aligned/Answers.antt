use Rattle.std.proofs.Common.{inl, inr, arith}
use Rattle.frame_placing.proofs.Aligned.{IsRest, rest_aligned, rest_least}
use Rattle.frame_placing.proofs.bars.next_aligned.Goals as goal
use Rattle.frame_placing.proofs.bars.next_aligned.Goals.{then-rest-eq0, else-rest-eq0, else-from-last-via-then-from-last+else-more-last, else-from-last-via-else-from-last}

pub returns-then-more-last : goal.returns-then-more-last
returns-then-more-last c =
    let rest : IsRest c.args.from c.args.align c.if-rest-eq0.more = elim c.if-rest-eq0.branch [ then-rest-eq0 w ↦ inl (omega arith, omega arith) | else-rest-eq0 w ↦ inr (omega (arith, c.requires), omega (arith, c.requires)) ] in
    record {
      from_on = omega arith;
      not_past = omega arith;
      aligned = rest_aligned c.args.from c.args.align c.if-rest-eq0.more c.requires rest;
      least = λ y le at. rest_least c.args.from c.args.align c.if-rest-eq0.more y c.requires rest le at;
    }

pub returns-else-from-last : goal.returns-else-from-last
returns-else-from-last c x le at =
    let rest : IsRest c.args.from c.args.align c.if-rest-eq0.more = elim c.if-rest-eq0.branch [ then-rest-eq0 w ↦ inl (omega arith, omega arith) | else-rest-eq0 w ↦ inr (omega (arith, c.requires), omega (arith, c.requires)) ] in
    let up = rest_least c.args.from c.args.align c.if-rest-eq0.more x c.requires rest le at in
    elim c.else-from-last.branch [ else-from-last-via-then-from-last+else-more-last w ↦ omega (arith, up, w.if-more-last.false) | else-from-last-via-else-from-last w ↦ omega (arith, up, w.if-from-last.false) ]
