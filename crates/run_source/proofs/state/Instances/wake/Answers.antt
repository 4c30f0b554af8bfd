use Rattle.std.proofs.Common.{◌≡◌, ◌<◌, ◌∙◌, ◌∷◌, ap, arith, length, List, Some, None, refl, sym, true, false}
use Rattle.std.specs.Prelude.{slice_set}
use Rattle.ir_paths.specs.declared.point.Point.{Point}
use Rattle.run_source_tables.specs.run_step.Values.{Env}
use Rattle.run_source_tables.specs.run_step.declared.world.Slot.{Slot}
use Rattle.run_source.specs.declared.state.Instance.{Instance}
use Rattle.run_source.specs.declared.state.Status.{Status}
use Rattle.run_source.proofs.Indexes.{not-there, put-indexed, put-is, same-there}
use Rattle.run_source.proofs.state.Instances.wake.Goals as goal

pub invariant_of-self : goal.invariant_of-self
invariant_of-self c =
    let lt : c.args.i < length c.self.inside.list.items = omega arith in
    put-indexed c.self.inside.list.items c.self.inside.last.items c.self.inside.earlier.items c.args.i c.index_mut.result.now c.wake.new.instance c.self.invariant lt c.index_mut.ensures.value (ap (λ (y : Instance). y.block) c.wake.ensures.left)

pub returns-then-i-len-clause-taken : goal.returns-then-i-len-clause-taken
returns-then-i-len-clause-taken c = λ x suspend values g e.
    let lt : c.args.i < length c.self.inside.list.items = omega arith in
    let same : c.index_mut.result.now ≡ x = same-there c.self.inside.list.items c.args.self.now c.args.i c.index_mut.result.now x c.self.view_is lt c.index_mut.ensures.value g in
    c.wake.ensures.taken suspend values (ap (λ (y : Instance). y.status) same ∙ e)

pub returns-then-i-len-clause-left : goal.returns-then-i-len-clause-left
returns-then-i-len-clause-left c = λ x g.
    let lt : c.args.i < length c.self.inside.list.items = omega arith in
    ap (slice_set c.self.inside.list.items c.args.i) c.wake.ensures.left
    ∙ put-is c.self.inside.list.items c.args.self.now c.args.i c.index_mut.result.now x (λ (y : Instance). record y { status = Status.Running }) c.self.view_is lt c.index_mut.ensures.value g

pub returns-else-i-len-clause-taken : goal.returns-else-i-len-clause-taken
returns-else-i-len-clause-taken c = λ x suspend values g e.
    absurd (not-there c.self.inside.list.items c.args.self.now c.args.i x c.self.view_is (omega arith) g)
