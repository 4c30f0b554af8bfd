use Rattle.std.proofs.Common.{◌≡◌, ◌<◌, ◌∙◌, ◌∷◌, ap, arith, length, List, Some, None, refl, sym, true, false}
use Rattle.std.specs.Prelude.{slice_set}
use Rattle.ir_paths.specs.declared.point.Point.{Point}
use Rattle.run_source_tables.specs.run_step.Values.{Env}
use Rattle.run_source_tables.specs.run_step.declared.world.Slot.{Slot}
use Rattle.run_source.specs.declared.state.Instance.{Instance}
use Rattle.run_source.specs.declared.state.Status.{Status}
use Rattle.run_source.proofs.Indexes.{not-there, put-indexed, put-is, same-there}
use Rattle.run_source.proofs.state.Instances.drop_newest.Goals as goal

pub invariant_of-self : goal.invariant_of-self
invariant_of-self c =
    let lt : c.args.i < length c.self.inside.list.items = omega arith in
    put-indexed c.self.inside.list.items c.self.inside.last.items c.self.inside.earlier.items c.args.i c.index_mut.result.now c.drop_slot.new.instance c.self.invariant lt c.index_mut.ensures.value c.drop_slot.ensures.block

pub returns-then-i-len : goal.returns-then-i-len
returns-then-i-len c = λ x slot slots g e.
    let lt : c.args.i < length c.self.inside.list.items = omega arith in
    let same : c.index_mut.result.now ≡ x = same-there c.self.inside.list.items c.args.self.now c.args.i c.index_mut.result.now x c.self.view_is lt c.index_mut.ensures.value g in
    ap (slice_set c.self.inside.list.items c.args.i) (c.drop_slot.ensures.dropped slot slots (ap (λ (y : Instance). y.slots) same ∙ e))
    ∙ put-is c.self.inside.list.items c.args.self.now c.args.i c.index_mut.result.now x (λ (y : Instance). record y { slots = slots }) c.self.view_is lt c.index_mut.ensures.value g
