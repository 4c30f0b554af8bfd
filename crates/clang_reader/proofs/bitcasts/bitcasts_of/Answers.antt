use Rattle.std.proofs.Common.{◌≡◌, ◌-◌, ◌<◌, ◌≤◌, ◌∙◌, arith}
use Rattle.clang_tokens.specs.Lines.{lines}
use Rattle.clang_reader.specs.Bitcasts.{bitcasts_of}
use Rattle.clang_reader.proofs.Following.{settled_early, settled_last, settled_more}
use Rattle.clang_reader.proofs.bitcasts.bitcasts_of.Goals as goal

pub returns-then-branch : goal.returns-then-branch
returns-then-branch c =
    settled_early (24 - c.loop.counter) c.loop.bitcasts.all (bitcasts_of (lines c.args.text.now)) c.in_ok-is_settled.field-0 c.loop.invariant c.in_ok-is_settled.ensures c.if-branch.true

pub loop-preserved : goal.loop-preserved
loop-preserved c =
    let on = c.loop-test.true in
    let less : c.loop.counter < 24 = omega (arith, on) in
    settled_more 24 c.loop.counter c.loop.bitcasts.all c.in_ok-bitcasts-2.bitcasts.all (bitcasts_of (lines c.args.text.now)) less c.loop.invariant (c.in_ok-bitcasts-2.ensures ∙ c.in_ok-followed.ensures)

pub returns : goal.returns
returns c =
    let done = c.loop-test.false in
    let over : 24 ≤ c.loop.counter = omega (arith, done) in
    settled_last 24 c.loop.counter c.loop.bitcasts.all (bitcasts_of (lines c.args.text.now)) c.loop.invariant over
