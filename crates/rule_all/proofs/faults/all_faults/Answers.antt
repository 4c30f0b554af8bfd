use Rattle.rule_all.proofs.Listed.{each-more, length-more}
use Rattle.rule_all.proofs.faults.all_faults.Goals as goal

pub loop-func-preserved : goal.loop-func-preserved
loop-func-preserved c =
    record {
      count = length-more c.loop-func.all c.push.new.self c.in_ok-faults_of.field-0 c.loop-func.func c.loop-func.invariant.count c.in_ok-push.ensures.ok;
      each = each-more c.args.functions.now c.loop-func.func c.loop-func.all c.push.new.self c.index-functions-func.result c.in_ok-faults_of.field-0 c.loop-func-test.true c.index-functions-func.is c.loop-func.invariant.count c.in_ok-push.ensures.ok c.in_ok-faults_of.ensures c.loop-func.invariant.each;
    }
