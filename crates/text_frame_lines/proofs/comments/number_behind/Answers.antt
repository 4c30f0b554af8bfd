use Rattle.std.proofs.Common.{ℕ, ◌<◌, ◌^◌, ◌∷◌, ◌++◌, decimal, arith, ◌∙◌}
use Rattle.text_frame_lines.proofs.Leading.{none_is_some, lacks_decimal, number_front}
use Rattle.text_frame_lines.proofs.comments.number_behind.Goals as goal

pub returns-in_err-text : goal.returns-in_err-text
returns-in_err-text c = λ front word n h k e.
    absurd (c.in_err-text.ensures (front ++ 32 ∷ word) (decimal n) (lacks_decimal 32 n (omega arith) k) (e ∙ number_front front word n))

pub returns-in_err-front : goal.returns-in_err-front
returns-in_err-front c = λ front word n h k e.
    let p = c.in_ok-text.ensures (front ++ 32 ∷ word) (decimal n) (lacks_decimal 32 n (omega arith) k) (e ∙ number_front front word n) in
    absurd (c.in_err-front.ensures front word h p.0)

pub returns-in_err-number_of : goal.returns-in_err-number_of
returns-in_err-number_of c = λ front word n h k e.
    let p = c.in_ok-text.ensures (front ++ 32 ∷ word) (decimal n) (lacks_decimal 32 n (omega arith) k) (e ∙ number_front front word n) in
    absurd (none_is_some n (c.in_err-number_of.ensures n k p.1))

pub returns : goal.returns
returns c = λ front word n h k e.
    let p = c.in_ok-text.ensures (front ++ 32 ∷ word) (decimal n) (lacks_decimal 32 n (omega arith) k) (e ∙ number_front front word n) in
    let q = c.in_ok-front.ensures front word h p.0 in
    let r = c.in_ok-number_of.ensures n k p.1 in
    (q.0, cc)
