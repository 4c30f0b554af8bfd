use Rattle.compiler_elided.proofs.Agreeing.{agrees_elided, entry_called}
use Rattle.compiler_elided.proofs.elided.elided_runs_agree_with_sources.Goals as goal
use Rattle.compiler_elided.specs.Elided.{elision_of}

pub returns : goal.returns
returns c l low few sites shape callees most r call exact ready asked covers =
    let e = elision_of l sites shape r.answers in
    let entry = entry_called l sites shape callees most r call (c.plain_functions_stay.ensures.same l low) in
    agrees_elided l sites shape callees most r
    (c.exact_runs_agree_with_sources.ensures l low few sites shape callees r call exact)
    (c.elided_entry_calls_keep_states.ensures.states e callees l.source most r.entry r.args ready asked covers entry)
    (c.elided_entry_calls_keep_states.ensures.calls e callees l.source most r.entry r.args ready asked covers entry)
