use Rattle.std.proofs.Common.{[], List, ap, subst, sym, ◌∙◌, ◌++◌}
use Rattle.ir_base.specs.declared.outcome.Place.{Place}
use Rattle.elide_sites.proofs.SiteLists.{sites_step}
use Rattle.elide_sites.specs.Chosen.{AreChosen}
use Rattle.elide_sites.specs.Sites.{AreSitesOf, IsSite}
use Rattle.elide_sites.specs.Sites.AreSitesOf.{NoFunction}
use Rattle.elide_sites.proofs.sites.elidable_sites.Goals as goal

pub loop-func-init : goal.loop-func-init
loop-func-init c = subst (AreSitesOf c.args.module.now []) (sym c.new-all.ensures) NoFunction

pub loop-func-preserved : goal.loop-func-preserved
loop-func-preserved c =
    sites_step c.args.module.now c.as_slice-functions.result.now c.loop-func.func c.index-functions-func.result c.as_slice.result.now c.loop-func.all c.in_ok-here.here c.push_all.new.all
    c.as_slice-functions.ensures c.loop-func-test.true c.index-functions-func.is (c.as_slice.ensures ∙ c.in_ok-calls.ensures) c.in_ok-here.ensures
    (c.in_ok-push_all.ensures ∙ ap (λ (l : List Place). c.loop-func.all ++ l) c.as_slice-in-loop-func.ensures)
    c.loop-func.invariant
