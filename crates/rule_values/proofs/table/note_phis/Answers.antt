use Rattle.std.proofs.Common.{arith, ℕ}
use Rattle.ir_locals.specs.Tables.{first_in, noted, or_first}
use Rattle.ir_locals.proofs.Notes.{one_more, all_noted}
use Rattle.rule_values.specs.Kinds.{phi_kind}
use Rattle.rule_values.proofs.Notings.{kind_noted}
use Rattle.rule_values.proofs.table.note_phis.Goals as goal

pub loop-phi-preserved : goal.loop-phi-preserved
loop-phi-preserved c =
    one_more phi_kind c.args.phis.now c.loop-phi.phi-index c.phi-item.result (noted c.loop-phi.table) (noted c.note.new.self) (λ (n : ℕ). or_first (noted c.args.table.now n) (first_in phi_kind c.args.phis.now n)) c.loop-phi-test.true c.phi-item.is
    (kind_noted (noted c.loop-phi.table) (noted c.note.new.self) c.phi-item.result.result c.kind_of.result c.phi-item.result.ty c.kind_of.ensures c.in_ok-note.ensures.noted) c.loop-phi.invariant

pub returns : goal.returns
returns c =
    all_noted phi_kind c.args.phis.now c.loop-phi.phi-index (noted c.loop-phi.table) (λ (n : ℕ). or_first (noted c.args.table.now n) (first_in phi_kind c.args.phis.now n)) (omega arith) c.loop-phi.invariant
