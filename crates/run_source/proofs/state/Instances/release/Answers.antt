use Rattle.std.proofs.Common.{◌<◌, arith, length, refl, true}
use Rattle.run_source.specs.declared.state.Instance.{Instance}
use Rattle.run_source.proofs.Indexes.{put-indexed, put-is}
use Rattle.run_source.proofs.state.Instances.release.Goals as goal

pub invariant_of-self : goal.invariant_of-self
invariant_of-self c =
    let lt : c.args.i < length c.self.inside.list.items = omega arith in
    put-indexed c.self.inside.list.items c.self.inside.last.items c.self.inside.earlier.items c.args.i c.index_mut.result.now (record c.index_mut.result.now { released = true }) c.self.invariant lt c.index_mut.ensures.value refl

pub returns-then-i-len : goal.returns-then-i-len
returns-then-i-len c = λ x g.
    let lt : c.args.i < length c.self.inside.list.items = omega arith in
    put-is c.self.inside.list.items c.args.self.now c.args.i c.index_mut.result.now x (λ (y : Instance). record y { released = true }) c.self.view_is lt c.index_mut.ensures.value g
