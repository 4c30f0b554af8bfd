use Rattle.text_frame_lines.proofs.Leading.{last_space, no_space}
use Rattle.text_frame_lines.proofs.comments.around_last_space.Goals as goal

pub returns-then-last-eq32 : goal.returns-then-last-eq32
returns-then-last-eq32 c = λ front back h e.
    let inv = c.loop-last.invariant in
    last_space c.args.text.now c.loop-last.before.now c.in-Some.front.now inv.0 c.split_at.result.1.now _ inv.1 inv.2 c.in-Some.ensures.cases.0 c.if-last-eq32.true c.split_at.ensures.back front back h e

pub returns : goal.returns
returns c = λ front back h e.
    let inv = c.loop-last.invariant in
    no_space c.args.text.now c.loop-last.before.now inv.0 inv.1 inv.2 c.in_default.ensures.cases front back e
