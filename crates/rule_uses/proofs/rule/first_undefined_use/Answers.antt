use Rattle.rule_uses.proofs.Finding.{first_use_by}
use Rattle.rule_uses.proofs.rule.first_undefined_use.Goals as goal

pub returns : goal.returns
returns c = first_use_by c.args.function.now c.args.func c.in_ok-params.params c.in_ok-opens.opens.items c.as_slice.result.now c.as_slice-2.result.now c.as_slice-3.result.now c.len.result c.in_ok-all.all.numbers c.in_ok-all.all.values c.in_ok-found.found c.place_at.result
    c.len.ensures c.as_slice.ensures.value c.as_slice-2.ensures.value c.as_slice-3.ensures.value c.in_ok-params.ensures c.in_ok-opens.ensures c.in_ok-all.ensures c.in_ok-found.ensures c.place_at.ensures
