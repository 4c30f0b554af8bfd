use Rattle.std.proofs.Common.{◌≡◌, ◌≤◌, ◌+◌, ◌++◌, true, ℕ, List, length, sym, ap, ◌∙◌, arith}
use Rattle.std.specs.Prelude.{◌==◌}
use Rattle.std.proofs.lemmas.Bool.{eqb-true}
use Rattle.std.proofs.lemmas.List.{nil_from_length}
use Rattle.clang_tokens.specs.Lines.{lines}
use Rattle.clang_tokens.specs.Spaced.{line_of}
use Rattle.clang_reader.specs.Bitcasts.{bitcasts_at}
use Rattle.clang_reader.specs.Read.{from_clang, line_read}
use Rattle.clang_reader.specs.declared.line.LineRead.{LineRead}
use Rattle.clang_reader.specs.declared.read.Reading.{Reading}
use Rattle.clang_reader.proofs.Lines.{line_end, line_turn}
use Rattle.clang_reader.proofs.read.from_clang.Goals as goal

pub loop-rest-preserved : goal.loop-rest-preserved
loop-rest-preserved c =
    let count-now = c.loop-rest.invariant.count in
    let shorter = c.first_line.ensures.shorter in
    let is = c.in-Gives.is in
    let told = c.in_ok-fault.ensures in
    let tokens-are = c.as_slice.ensures in
    let put = c.in_ok-push_line-in-Gives.ensures in
    let line-is = c.as_slice-in-Gives.ensures in
    let found = c.in_ok-bitcasts-2.ensures in
    let gives : LineRead.Gives c.in-Gives.tokens ≡ line_read c.in_ok-bitcasts-2.bitcasts.all c.loop-rest.number c.first_line.result.0.now c.in_ok-listed.listed = cc in
    let here : c.in_ok-bitcasts-2.bitcasts.all ≡ bitcasts_at c.loop-rest.bitcasts.all c.in_ok-listed.listed.tokens (lines c.first_line.result.1.now) = cc in
    let items : c.push_line.new.out.items ≡ c.loop-rest.out.items ++ line_of c.in-Gives.tokens = cc in
    record {
      read =
          line_turn (from_clang c.args.text.now) c.loop-rest.out.items c.push_line.new.out.items c.first_line.result.0.now c.loop-rest.rest.now c.first_line.result.1.now c.in_ok-listed.listed c.in-Gives.tokens c.loop-rest.bitcasts.all c.in_ok-bitcasts-2.bitcasts.all c.loop-rest.number
          c.loop-rest.invariant.read c.first_line.ensures.lines c.in_ok-listed.ensures here gives items;
      count = omega (arith, count-now, shorter);
    }

pub returns : goal.returns
returns c =
    let told = c.is_empty.ensures in
    let none-left = c.loop-rest-test.false in
    let empty : (length c.loop-rest.rest.now == 0) ≡ true = cc in
    ap (λ (l : List ℕ). Reading.Written l) c.from_vec.ensures
    ∙ sym (line_end (from_clang c.args.text.now) c.loop-rest.out.items c.loop-rest.rest.now c.loop-rest.bitcasts.all c.loop-rest.number c.loop-rest.invariant.read
    (nil_from_length c.loop-rest.rest.now (eqb-true (length c.loop-rest.rest.now) 0 empty)))
