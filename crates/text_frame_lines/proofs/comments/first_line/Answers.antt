use Rattle.std.proofs.Common.{List, ℕ, ◌∷◌, [], ◌++◌, append_assoc, ◌∙◌, ap, sym}
use Rattle.text_frame_lines.proofs.Leading.{first_feed, first_parts, no_feed, one_more_lacks}
use Rattle.text_frame_lines.proofs.comments.first_line.Goals as goal

pub returns-then-first-eq10-clause-parts : goal.returns-then-first-eq10-clause-parts
returns-then-first-eq10-clause-parts c =
    let inv = c.loop-first.invariant in
    (first_parts c.args.text.now inv.0 c.loop-first.rest.now c.in-Some.behind.now c.split_at.result.0.now _ inv.1 c.in-Some.ensures.cases.0 c.if-first-eq10.true c.split_at.ensures.front).1

pub returns-then-first-eq10-clause-found : goal.returns-then-first-eq10-clause-found
returns-then-first-eq10-clause-found c = λ line rest h e.
    let inv = c.loop-first.invariant in
    first_feed c.args.text.now inv.0 c.loop-first.rest.now c.in-Some.behind.now c.split_at.result.0.now _ inv.1 inv.2 c.in-Some.ensures.cases.0 c.if-first-eq10.true c.split_at.ensures.front line rest h e

pub loop-first-preserved : goal.loop-first-preserved
loop-first-preserved c =
    let inv = c.loop-first.invariant in
    let first = c.in-Some.first.now in
    let behind = c.in-Some.behind.now in
    (inv.0 ++ first ∷ [], inv.1 ∙ ap (λ (l : List ℕ). inv.0 ++ l) c.in-Some.ensures.cases.0 ∙ sym (append_assoc inv.0 (first ∷ []) behind), one_more_lacks 10 first inv.0 inv.2 c.if-first-eq10.false)

pub returns-clause-found : goal.returns-clause-found
returns-clause-found c = λ line rest h e.
    let inv = c.loop-first.invariant in
    no_feed c.args.text.now inv.0 c.loop-first.rest.now inv.1 inv.2 c.in_default.ensures.cases line rest e
