use Rattle.std.proofs.Common.{◌≡◌, ◌+◌, drop, cond, ◌==◌}
use Rattle.text_lexer.specs.Scan.{close_len}
use Rattle.text_lexer.proofs.scan.close_len.Given as goal

abbrev pub invariant-loop-i : goal.invariant-loop-i
invariant-loop-i l =
    close_len l.text ≡ cond (close_len (drop l.i l.text) == 0) 0 (l.i + close_len (drop l.i l.text))
