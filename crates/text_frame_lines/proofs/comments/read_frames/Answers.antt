use Rattle.std.proofs.Common.{◌≡◌, List, [], ◌∷◌, ◌++◌, ◌∙◌, Some, ap, append-nil, append_assoc, sym}
use Rattle.text_frame_lines.specs.Frames.{frame_line, frames_text}
use Rattle.text_frame_lines.specs.declared.frames.FrameLine.{FrameLine}
use Rattle.text_frame_lines.proofs.Leading.{kept, kept_by, lacks_line, next_of, none_is_some, none_left, same_found}
use Rattle.text_frame_lines.proofs.comments.read_frames.Goals as goal

pub returns-in_default-clause-found : goal.returns-in_default-clause-found
returns-in_default-clause-found c = λ m h.
    let left = c.loop-rest.invariant.found m h in
    let next = next_of left.0 c.loop-rest.rest.now left.2 (sym c.begins_comment.ensures ∙ c.loop-rest-test.true) in
    absurd (c.in_default.ensures.found (frame_line next.frame) next.tail (lacks_line next.frame next.frame_is) next.text_is)

pub returns-in_default-2-clause-found : goal.returns-in_default-2-clause-found
returns-in_default-2-clause-found c = λ m h.
    let left = c.loop-rest.invariant.found m h in
    let next = next_of left.0 c.loop-rest.rest.now left.2 (sym c.begins_comment.ensures ∙ c.loop-rest-test.true) in
    let parts = c.in-Some.ensures.found (frame_line next.frame) next.tail (lacks_line next.frame next.frame_is) next.text_is in
    let found = c.in_ok-frame.ensures.found next.frame next.frame_is parts.0 in
    absurd (none_is_some next.frame (sym c.in_default-2.is ∙ found))

pub loop-rest-preserved : goal.loop-rest-preserved
loop-rest-preserved c =
    let frame = c.in-Some-2.frame in
    let written = rw c.in-Some-2.is at c.in_ok-frame.ensures.written in
    kept_by c.args.text.now c.in-Some.behind.now _ c.push.new.self c.in_ok-push.ensures.ok
    (kept c.args.text.now c.loop-rest.rest.now c.in-Some.line.now c.in-Some.behind.now c.loop-rest.frames frame c.loop-rest.invariant (sym c.begins_comment.ensures ∙ c.loop-rest-test.true)
    c.in-Some.ensures.parts written.0 written.1 c.in-Some.ensures.found
    (λ f h e. same_found frame f (sym c.in-Some-2.is ∙ c.in_ok-frame.ensures.found f h e)))

pub returns-clause-found : goal.returns-clause-found
returns-clause-found c = λ m h.
    let left = c.loop-rest.invariant.found m h in
    let none = none_left left.0 c.loop-rest.rest.now left.2 (sym c.begins_comment.ensures ∙ c.loop-rest-test.false) in
    ap (λ (l : List FrameLine). Some l) (sym (left.1 ∙ ap (λ (l : List FrameLine). c.loop-rest.frames ++ l) none ∙ append-nil c.loop-rest.frames))
