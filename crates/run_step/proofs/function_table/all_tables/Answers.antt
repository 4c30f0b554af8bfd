use Rattle.std.proofs.Common.{arith}
use Rattle.run_step.proofs.Tables.{each-more, length-more}
use Rattle.run_step.proofs.function_table.all_tables.Goals as goal

pub loop-function-preserved : goal.loop-function-preserved
loop-function-preserved c =
    record {
      count = length-more c.loop-function.all c.push.new.self c.in_ok-table_of_function.field-0 c.loop-function.function-index c.loop-function.invariant.count c.in_ok-push.ensures.ok;
      each = each-more c.args.functions.now c.loop-function.function-index c.loop-function.all c.push.new.self c.function-item.result c.in_ok-table_of_function.field-0 (omega arith) c.function-item.is c.loop-function.invariant.count c.in_ok-push.ensures.ok c.in_ok-table_of_function.ensures c.loop-function.invariant.each;
    }

pub returns : goal.returns
returns c = record { each = c.loop-function.invariant.each }
