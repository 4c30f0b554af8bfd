use Rattle.std.proofs.Common.{◌∙◌}
use Rattle.flow_facts.proofs.Saves.{no-suspend, some-suspend}
use Rattle.flow_facts.proofs.windows.suspend_of.Goals as goal

pub returns-in-None : goal.returns-in-None
returns-in-None c = no-suspend c.args.function.now c.args.save c.token_at.result c.token_at.ensures c.in-None.is

pub returns-in-Some : goal.returns-in-Some
returns-in-Some c = some-suspend c.args.function.now c.args.save c.token_at.result c.in-Some.token c.copied.result c.token_at.ensures c.in-Some.is (c.copied.ensures ∙ c.get.ensures.value ∙ c.requires.first c.in-Some.token)
