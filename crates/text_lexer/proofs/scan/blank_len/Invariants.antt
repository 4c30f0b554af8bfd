use Rattle.std.proofs.Common.{◌≡◌, ◌+◌, drop, cond}
use Rattle.text_lexer.specs.Scan.{blank_len, comment_len}
use Rattle.text_lexer.proofs.scan.blank_len.Given as goal

abbrev pub invariant-loop-i : goal.invariant-loop-i
invariant-loop-i l =
    blank_len l.text ≡ l.i + cond l.in_comment (comment_len (drop l.i l.text)) (blank_len (drop l.i l.text))
