use Rattle.std.proofs.Common.{◌∙◌, List, [], ◌∷◌, subst, sym, ap, Bool}
use Rattle.std.specs.Prelude.{filter}
use Rattle.ir_paths.specs.declared.point.Point.{Point}
use Rattle.flow_points.specs.Reached.{AllLeadTo, AreInWindow}
use Rattle.flow_points.specs.Rows.{AreCleared, is_marked}
use Rattle.flow_points.specs.Search.{IsGrown, adjoins_any}
use Rattle.flow_points.specs.declared.direction.Direction.{Direction}
use Rattle.flow_points.proofs.Inside.{limits-marked, window-is}
use Rattle.flow_points.proofs.Marking.{blank-cleared}
use Rattle.flow_points.proofs.graph.PointGraph.window.Goals as goal

pub returns-clause-found : goal.returns-clause-found
returns-clause-found c =
    subst (AreInWindow c.args.function.now c.args.save c.args.suspend) (sym (c.in_ok-inside.ensures ∙ ap (filter (is_marked c.clear_all.new.self)) c.as_slice-2.ensures.value))
    (window-is c.args.function.now c.args.save c.args.suspend c.as_slice.result.now c.leading_to.new.self.avoided c.set_all.new.self c.clear_all.new.self c.leading_to.new.self.found c.begin.new.marks c.settle.new.marks c.begin.new.found.items c.settle.new.found.items
    c.in_ok-back.ensures.kept.none_avoided c.set_all.ensures c.clear_all.ensures c.in_ok-back.ensures.kept.avoided_sizes
    (subst (AllLeadTo c.args.function.now (c.args.suspend ∷ []) (c.args.save ∷ c.args.suspend ∷ [])) (sym c.as_slice.ensures) c.in_ok-back.ensures.found)
    (subst (λ (l : List Point). IsGrown (adjoins_any c.args.function.now Direction.Forward (c.args.save ∷ [])) c.leading_to.new.self.found l c.begin.new.marks c.begin.new.found.items) c.new-found.ensures.items c.in_ok-begin.ensures)
    c.in_ok-settle.ensures)

pub returns-clause-kept : goal.returns-clause-kept
returns-clause-kept c =
    record {
      labels = c.in_ok-back.ensures.kept.labels;
      outgoing = c.in_ok-back.ensures.kept.outgoing;
      incoming = c.in_ok-back.ensures.kept.incoming;
      sizes = c.clear_all-3.ensures.sizes ∙ c.in_ok-settle.ensures.sizes ∙ c.in_ok-begin.ensures.sizes ∙ c.in_ok-back.ensures.kept.sizes;
      avoided_sizes = c.clear_all-2.ensures.sizes ∙ c.clear_all.ensures.sizes ∙ c.set_all.ensures.sizes ∙ c.in_ok-back.ensures.kept.avoided_sizes;
      none_found = blank-cleared c.settle.new.found.items c.settle.new.marks c.clear_all-3.new.self (λ p h. sym (c.in_ok-settle.ensures.marked.each p) ∙ h) (subst (λ (l : List Point). AreCleared l c.settle.new.marks c.clear_all-3.new.self) c.as_slice-4.ensures.value c.clear_all-3.ensures);
      none_avoided = blank-cleared c.as_slice.result.now c.clear_all.new.self c.clear_all-2.new.self
          (λ p h. limits-marked c.as_slice.result.now c.leading_to.new.self.avoided c.set_all.new.self c.clear_all.new.self (c.args.save ∷ c.args.suspend ∷ []) c.in_ok-back.ensures.kept.none_avoided c.set_all.ensures c.clear_all.ensures p h)
          (subst (λ (l : List Point). AreCleared l c.clear_all.new.self c.clear_all-2.new.self) (c.as_slice-3.ensures ∙ sym c.as_slice.ensures) c.clear_all-2.ensures);
    }
