use Rattle.std.proofs.Common.{◌≡◌, ℕ, ◌∙◌, ap, arith, length, List, None, Option, refl, false}
use Rattle.run_source.specs.Indexes.{number_at}
use Rattle.run_source.specs.declared.state.Instance.{Instance}
use Rattle.run_source.specs.declared.state.Status.{Status}
use Rattle.run_source.proofs.Indexes.{begun-put}
use Rattle.run_source.proofs.state.Instances.begin.Goals as goal

pub invariant_of-self-in-Ok : goal.invariant_of-self-in-Ok
invariant_of-self-in-Ok c =
    let x : Instance = record { coroutine = c.args.coroutine; block = c.args.block; start = c.args.start; slots = c.args.slots; status = Status.Running; last_save = None; released = false; freed = false } in
    let n : c.len-i.result ≡ length c.self.inside.list.items = omega arith in
    begun-put c.self.inside.list.items c.push-begun.new.self.items c.self.inside.last.items c.reach.new.table.items c.self.inside.earlier.items c.push.new.self.items x c.number_in.result c.len-i.result c.self.invariant c.in-Ok.ensures.items c.in_ok-push.ensures.items n c.in_ok-reach.ensures.same c.in_ok-reach.ensures.reached (c.number_in.ensures ∙ ap (λ (l : List (Option ℕ)). number_at l c.args.block) c.as_slice.ensures.value)
