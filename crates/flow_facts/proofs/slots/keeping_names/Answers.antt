use Rattle.flow_facts.proofs.Keeping.{keeping}
use Rattle.flow_facts.proofs.slots.keeping_names.Goals as goal

pub returns-clause-names : goal.returns-clause-names
returns-clause-names c =
    keeping c.args.function.now c.in_ok-behind.behind c.as_slice.result.now c.in_ok-names.names c.push_touched.new.names c.in_ok-behind.ensures.points c.as_slice.ensures c.in_ok-names.ensures c.in_ok-push_touched.ensures
