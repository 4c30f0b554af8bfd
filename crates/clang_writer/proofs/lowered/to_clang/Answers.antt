use Rattle.std.proofs.Common.{◌≡◌, ◌≤◌, ◌+◌, ℕ, List, length, sym, ap, ◌∙◌, arith}
use Rattle.clang_writer.specs.Kept.{kept_in}
use Rattle.clang_writer.specs.Lowered.{to_clang}
use Rattle.clang_writer.specs.declared.lowered.Writing.{Writing}
use Rattle.clang_writer.proofs.Lines.{line_end, line_put, line_turn, rest_empty}
use Rattle.clang_writer.proofs.lowered.to_clang.Goals as goal

pub loop-rest-preserved : goal.loop-rest-preserved
loop-rest-preserved c =
    let all = kept_in c.args.original.now in
    let count-now = c.loop-rest.invariant.count in
    let shorter = c.first_line.ensures.shorter in
    record {
      read =
          line_turn (to_clang c.args.original.now c.args.lowered.now) all c.loop-rest.out.items c.push_lowered.new.out.items c.first_line.result.0.now c.loop-rest.rest.now c.first_line.result.1.now c.in_ok-listed.listed c.loop-rest.number
          c.loop-rest.invariant.read c.first_line.ensures.lines c.in_ok-listed.ensures c.if-not-listed.false
          (line_put c.in_ok-kept.kept.all all c.as_slice.result.now c.in_ok-listed.listed.tokens c.loop-rest.out.items c.push_lowered.new.out.items c.in_ok-push_lowered.ensures c.in_ok-kept.ensures c.as_slice.ensures);
      count = omega (arith, count-now, shorter);
    }

pub returns : goal.returns
returns c =
    ap (λ (l : List ℕ). Writing.Written l) c.from_vec.ensures
    ∙ sym (line_end (to_clang c.args.original.now c.args.lowered.now) (kept_in c.args.original.now) c.loop-rest.out.items c.loop-rest.rest.now c.loop-rest.number c.loop-rest.invariant.read (rest_empty c.loop-rest.rest.now c.is_empty.result c.is_empty.ensures c.loop-rest-test.false))
