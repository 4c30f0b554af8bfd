use Rattle.std.proofs.Common.{arith, ℕ}
use Rattle.ir_locals.specs.Tables.{first_in, noted, or_first}
use Rattle.ir_locals.proofs.Notes.{one_more, all_noted}
use Rattle.rule_values.specs.Kinds.{param_kind}
use Rattle.rule_values.proofs.Notings.{kind_noted}
use Rattle.rule_values.proofs.table.note_params.Goals as goal

pub loop-param-preserved : goal.loop-param-preserved
loop-param-preserved c =
    one_more param_kind c.args.params.now c.loop-param.param-index c.param-item.result (noted c.loop-param.table) (noted c.note.new.self) (λ (n : ℕ). or_first (noted c.args.table.now n) (first_in param_kind c.args.params.now n)) c.loop-param-test.true c.param-item.is
    (kind_noted (noted c.loop-param.table) (noted c.note.new.self) c.param-item.result.name c.kind_of.result c.param-item.result.ty c.kind_of.ensures c.in_ok-note.ensures.noted) c.loop-param.invariant

pub returns : goal.returns
returns c =
    all_noted param_kind c.args.params.now c.loop-param.param-index (noted c.loop-param.table) (λ (n : ℕ). or_first (noted c.args.table.now n) (first_in param_kind c.args.params.now n)) (omega arith) c.loop-param.invariant
