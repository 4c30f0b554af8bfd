use Rattle.std.proofs.Common.{◌∙◌, ap, sym, Some}
use Rattle.std.proofs.lemmas.Option.{slice_get-get_or, slice_get_past}
use Rattle.rule_phis.proofs.Members.{list_there, list_past}
use Rattle.rule_phis.proofs.sources.Sources.list.Goals as goal

pub returns-in-None : goal.returns-in-None
returns-in-None c = list_past c.args.self.now.lists.items c.deref.result.now c.args.label c.deref.ensures.value (slice_get_past c.deref.result.now c.args.label c.in-None.ensures.lookup.3)

pub returns-in-Some : goal.returns-in-Some
returns-in-Some c =
    c.as_slice.ensures
    ∙ list_there c.args.self.now.lists.items c.deref.result.now c.args.label c.in-Some.list.now c.deref.ensures.value (slice_get-get_or c.deref.result.now c.args.label c.in-Some.list.now c.in-Some.ensures.lookup.3.0 ∙ ap Some (sym c.in-Some.ensures.lookup.1))
