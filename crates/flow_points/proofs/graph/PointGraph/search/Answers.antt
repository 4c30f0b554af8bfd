use Rattle.std.proofs.Common.{◌∙◌, List, subst, sym}
use Rattle.ir_paths.specs.declared.point.Point.{Point}
use Rattle.flow_points.specs.Rows.{AreCleared}
use Rattle.flow_points.specs.Search.{AreFound, IsGrown, adjoins_any}
use Rattle.flow_points.proofs.Marking.{blank-cleared, joined-marked}
use Rattle.flow_points.proofs.Settling.{found-is}
use Rattle.flow_points.proofs.graph.PointGraph.search.Goals as goal

pub returns-clause-found : goal.returns-clause-found
returns-clause-found c =
    subst (AreFound c.args.function.now c.args.direction c.args.starts.now c.args.avoided.now) (sym c.from_vec.ensures)
    (found-is c.args.function.now c.args.direction c.args.starts.now c.args.avoided.now c.args.self.now.avoided c.set_all.new.self c.args.self.now.found c.begin.new.marks c.settle.new.marks c.begin.new.found.items c.settle.new.found.items
    c.requires.none_avoided c.set_all.ensures c.requires.avoided_sizes c.requires.sizes
    (subst (λ (l : List Point). IsGrown (adjoins_any c.args.function.now c.args.direction c.args.starts.now) c.args.self.now.found l c.begin.new.marks c.begin.new.found.items) c.new-found.ensures.items c.in_ok-begin.ensures)
    c.in_ok-settle.ensures)

pub returns-clause-kept : goal.returns-clause-kept
returns-clause-kept c =
    record {
      labels = c.requires.labels;
      outgoing = c.requires.outgoing;
      incoming = c.requires.incoming;
      sizes = c.clear_all-2.ensures.sizes ∙ c.in_ok-settle.ensures.sizes ∙ c.in_ok-begin.ensures.sizes ∙ c.requires.sizes;
      avoided_sizes = c.clear_all.ensures.sizes ∙ c.set_all.ensures.sizes ∙ c.requires.avoided_sizes;
      none_found = blank-cleared c.settle.new.found.items c.settle.new.marks c.clear_all-2.new.self (λ p h. sym (c.in_ok-settle.ensures.marked.each p) ∙ h) (subst (λ (l : List Point). AreCleared l c.settle.new.marks c.clear_all-2.new.self) c.as_slice.ensures.value c.clear_all-2.ensures);
      none_avoided = blank-cleared c.args.avoided.now c.set_all.new.self c.clear_all.new.self (joined-marked c.args.avoided.now c.args.self.now.avoided c.set_all.new.self c.requires.none_avoided c.set_all.ensures) c.clear_all.ensures;
    }
