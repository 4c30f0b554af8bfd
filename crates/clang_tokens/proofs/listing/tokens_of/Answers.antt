use Rattle.std.proofs.Common.{◌≡◌, ◌<◌, ◌≤◌, ◌-◌, ◌++◌, [], ◌∷◌, drop, length, arith}
use Rattle.std.proofs.lemmas.List.{length-drop}
use Rattle.text_lexer.specs.Tokens.{bytes_of}
use Rattle.clang_tokens.proofs.Said.{said_turn}
use Rattle.clang_tokens.proofs.listing.tokens_of.Goals as goal

pub loop-token-preserved : goal.loop-token-preserved
loop-token-preserved c =
    let t = c.in-Tok.token in
    let text = c.args.line.now in
    let after = c.in-Tok.ensures.token in
    let start = after.first in
    let some : t.span.start < t.span.end = after.some in
    let within : t.span.end - t.span.start ≤ length (drop t.span.start text) = after.longest.within in
    let len = length-drop t.span.start text in
    let pushed = c.in_ok-push-in-Tok.ensures.ok in
    let said = c.in_ok-bytes-in-Tok.ensures in
    let spelled = c.bytes.ensures in
    let items : c.push.new.self ≡ c.loop-token.tokens ++ bytes_of text t ∷ [] = cc in
    (said_turn text c.loop-token.at t.span.end c.loop-token.tokens c.push.new.self t.kind (bytes_of text t) c.loop-token.invariant.0 c.in-Tok.ensures.first (omega arith) (omega arith) items, omega arith)
