use Rattle.std.proofs.Common.{◌≡◌, ℕ, length, rules, subst, arith}
use Rattle.std.proofs.lemmas.Fn.{always_returns_same}
use Rattle.frame_placing.specs.Rooms.{comes_first}
use Rattle.frame_placing.proofs.Firsts.{is_order}
use Rattle.frame_placing.proofs.Orders.{AreCounted, sorted_order}
use Rattle.frame_placing.proofs.order.order_of.Goals as goal

pub returns : goal.returns
returns c =
    let all : c.loop-k.k ≡ length c.args.rooms.now = omega arith in
    sorted_order c.args.rooms.now c.args.promise c.loop-k.order.items c.sort_unstable_by.new.self.items (subst (λ (n : ℕ). AreCounted n c.loop-k.order.items) all c.loop-k.invariant) c.sort_unstable_by.ensures.permutation
    (c.sort_unstable_by.ensures.sorted (comes_first c.args.rooms.now c.args.promise) (is_order c.args.rooms.now c.args.promise) (always_returns_same _ _ _ (λ a r f k. search rules)))
