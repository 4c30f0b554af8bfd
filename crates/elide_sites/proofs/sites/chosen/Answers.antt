use Rattle.std.proofs.Common.{[], subst, sym, ◌∙◌}
use Rattle.elide_sites.proofs.SiteLists.{place_step}
use Rattle.elide_sites.specs.Chosen.{AreChosen}
use Rattle.elide_sites.specs.Chosen.AreChosen.{Nothing}
use Rattle.elide_sites.specs.Sites.{IsSite}
use Rattle.ir_model.specs.declared.module.Function.{Function}
use Rattle.flow_points.specs.Reached.{IsGraphOf}
use Rattle.elide_sites.proofs.sites.chosen.Goals as goal

pub loop-place-init : goal.loop-place-init
loop-place-init c = record {
  graph = c.in_ok-graph.ensures;
  sites = subst (AreChosen (IsSite c.args.module.now c.args.function.now) []) (sym c.new-all.ensures) Nothing;
}

pub loop-place-preserved : goal.loop-place-preserved
loop-place-preserved c = record {
  graph = subst (λ (f : Function). IsGraphOf f c.is_site_at.new.graph) c.in_ok-caller.ensures c.in_ok-is_site.ensures.kept;
  sites = place_step c.args.module.now c.args.function.now c.in_ok-caller.caller.function.now c.args.calls.now c.loop-place.place-index _ c.point_of-call.result c.loop-place.all c.push_if.new.all c.in_ok-is_site.is_site
      c.loop-place-test.true c.in_ok-caller.ensures c.point_of-call.ensures c.in_ok-is_site.ensures.is c.in_ok-push_if.ensures c.loop-place.invariant.sites;
}
