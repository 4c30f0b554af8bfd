use Rattle.std.proofs.Common.{◌∙◌, ap, sym, ℕ, Option}
use Rattle.rule_phis.specs.Mentions.{differs_at}
use Rattle.rule_phis.proofs.Numberings.{differs-first}
use Rattle.rule_phis.proofs.edges.differs.Goals as goal

pub returns : goal.returns
returns c =
    c.differs_at.ensures
    ∙ ap (λ (o : Option ℕ). differs_at c.args.incoming.now o c.args.one.now) (c.find.ensures ∙ c.requires.first c.args.one.now.from)
    ∙ sym (differs-first c.args.incoming.now c.args.one.now)
