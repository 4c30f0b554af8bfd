use Rattle.compiler_elided.proofs.Within.{exact_within}
use Rattle.compiler_elided.proofs.elided.exact_runs_agree_with_sources.Goals as goal

pub returns : goal.returns
returns c l low few sites shape callees r call exact =
    let tables = c.sources_have_tables.ensures l low in
    exact_within l low tables.0 tables.1 sites shape callees r exact
    (c.sources_agree_with_framed_forms.ensures.kept l low few tables.0 tables.1 r call)
    (c.sources_agree_with_framed_forms.ensures.framed l low few tables.0 tables.1 r call)
    (c.sources_agree_with_framed_forms.ensures.paid l low few tables.0 tables.1 r call)
