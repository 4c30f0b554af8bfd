use Rattle.std.proofs.Common.{arith, ℕ}
use Rattle.std.specs.Prelude.{◌||◌}
use Rattle.std.specs.List.{list_any}
use Rattle.ir_model.specs.declared.instr.Case.{Case}
use Rattle.rule_phis.specs.Edges.{has}
use Rattle.rule_phis.specs.Mentions.{case_edge, sources_at}
use Rattle.rule_phis.proofs.Members.{one_more, all_noted}
use Rattle.rule_phis.proofs.sources.note_cases.Goals as goal

pub loop-case-preserved : goal.loop-case-preserved
loop-case-preserved c =
    one_more (λ (x : Case) (k n : ℕ). case_edge c.args.from k n x) c.args.cases.now c.loop-case.case-index c.case-item.result (λ (k n : ℕ). has (sources_at c.loop-case.sources k) n) (λ (k n : ℕ). has (sources_at c.note.new.self k) n) (λ (k n : ℕ). list_any (case_edge c.args.from k n) c.args.cases.now || has (sources_at c.args.sources.now k) n) c.loop-case-test.true c.case-item.is c.in_ok-note.ensures c.loop-case.invariant

pub returns : goal.returns
returns c =
    all_noted (λ (x : Case) (k n : ℕ). case_edge c.args.from k n x) c.args.cases.now c.loop-case.case-index (λ (k n : ℕ). has (sources_at c.loop-case.sources k) n) (λ (k n : ℕ). list_any (case_edge c.args.from k n) c.args.cases.now || has (sources_at c.args.sources.now k) n) (omega arith) c.loop-case.invariant
