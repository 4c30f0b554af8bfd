use Rattle.std.proofs.Common.{◌≡◌, ◌<◌, ◌∙◌, ◌∷◌, ap, arith, length, List, Some, None, refl, sym, true, false}
use Rattle.std.specs.Prelude.{slice_set}
use Rattle.ir_paths.specs.declared.point.Point.{Point}
use Rattle.run_source_tables.specs.run_step.Values.{Env}
use Rattle.run_source_tables.specs.run_step.declared.world.Slot.{Slot}
use Rattle.run_source.specs.declared.state.Instance.{Instance}
use Rattle.run_source.specs.declared.state.Status.{Status}
use Rattle.run_source.proofs.Indexes.{not-there, put-indexed, put-is, same-there}
use Rattle.run_source.proofs.state.Instances.free.Goals as goal

pub invariant_of-self : goal.invariant_of-self
invariant_of-self c =
    let lt : c.args.i < length c.self.inside.list.items = omega arith in
    put-indexed c.self.inside.list.items c.self.inside.last.items c.self.inside.earlier.items c.args.i c.index_mut.result.now (record c.index_mut.result.now { freed = true }) c.self.invariant lt c.index_mut.ensures.value refl

pub returns-then-i-len : goal.returns-then-i-len
returns-then-i-len c = λ x g.
    let lt : c.args.i < length c.self.inside.list.items = omega arith in
    put-is c.self.inside.list.items c.args.self.now c.args.i c.index_mut.result.now x (λ (y : Instance). record y { freed = true }) c.self.view_is lt c.index_mut.ensures.value g
