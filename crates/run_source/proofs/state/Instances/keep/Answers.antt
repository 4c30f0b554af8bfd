use Rattle.std.proofs.Common.{◌≡◌, ◌<◌, ◌∙◌, ◌∷◌, ap, arith, length, List, Some, None, refl, sym, true, false}
use Rattle.std.specs.Prelude.{slice_set}
use Rattle.ir_paths.specs.declared.point.Point.{Point}
use Rattle.run_source_tables.specs.run_step.Values.{Env}
use Rattle.run_source_tables.specs.run_step.declared.world.Slot.{Slot}
use Rattle.run_source.specs.declared.state.Instance.{Instance}
use Rattle.run_source.specs.declared.state.Status.{Status}
use Rattle.run_source.proofs.Indexes.{not-there, put-indexed, put-is, same-there}
use Rattle.run_source.proofs.state.Instances.keep.Goals as goal

pub invariant_of-self : goal.invariant_of-self
invariant_of-self c =
    let lt : c.args.i < length c.self.inside.list.items = omega arith in
    put-indexed c.self.inside.list.items c.self.inside.last.items c.self.inside.earlier.items c.args.i c.index_mut.result.now (record c.index_mut.result.now { slots = c.push.new.self }) c.self.invariant lt c.index_mut.ensures.value refl

pub returns-in_ok-push-clause-ok : goal.returns-in_ok-push-clause-ok
returns-in_ok-push-clause-ok c = λ x g.
    let lt : c.args.i < length c.self.inside.list.items = omega arith in
    ap (λ (l : List Slot). slice_set c.self.inside.list.items c.args.i (record c.index_mut.result.now { slots = l })) c.in_ok-push.ensures.ok
    ∙ put-is c.self.inside.list.items c.args.self.now c.args.i c.index_mut.result.now x (λ (y : Instance). record y { slots = c.args.slot ∷ y.slots }) c.self.view_is lt c.index_mut.ensures.value g
