use Rattle.std.proofs.Common.{[], ◌∷◌, ◌++◌, ap, false, replicate, subst, sym, ◌∙◌}
use Rattle.flow_facts.proofs.Ends.{position-bound}
use Rattle.flow_facts.proofs.Entered.{are-entered}
use Rattle.flow_facts.specs.Slots.{AreEntered}
use Rattle.flow_facts.proofs.behind.entered_blocks.Goals as goal

pub returns : goal.returns
returns c =
    subst (AreEntered c.args.function.now) (sym c.enter_all.ensures)
    (are-entered c.args.function.now c.in_ok-entered.entered
    (c.in_ok-entered.ensures ∙ ap (λ n. replicate n false ++ false ∷ []) c.len.ensures)
    (position-bound c.args.function.now))
