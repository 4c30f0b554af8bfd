use Rattle.run_source_tables.proofs.Looked.{each-more, length-more}
use Rattle.run_source_tables.proofs.table.all_tables.Goals as goal

pub loop-func-preserved : goal.loop-func-preserved
loop-func-preserved c =
    record {
      count = length-more c.loop-func.all c.push.new.self c.in_ok-table_at.field-0 c.loop-func.func c.loop-func.invariant.count c.in_ok-push.ensures.ok;
      each = each-more c.args.functions.now c.args.facts.now c.loop-func.func c.loop-func.all c.push.new.self c.index-functions-func.result c.in_ok-table_at.field-0 c.loop-func-test.true c.index-functions-func.is c.loop-func.invariant.count c.in_ok-push.ensures.ok c.in_ok-table_at.ensures c.loop-func.invariant.each;
    }

pub returns : goal.returns
returns c = record { each = c.loop-func.invariant.each }
