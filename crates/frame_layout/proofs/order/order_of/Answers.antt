use Rattle.std.proofs.Common.{◌≡◌, ℕ, length, rules, subst, arith}
use Rattle.std.proofs.lemmas.Fn.{always_returns_same}
use Rattle.frame_layout.specs.Layouts.{lies_before}
use Rattle.frame_layout.proofs.Orders.{AreCounted, is_order, sorted_order}
use Rattle.frame_layout.proofs.order.order_of.Goals as goal

pub returns : goal.returns
returns c =
    let all : c.loop-k.k ≡ length c.args.offsets.now = omega arith in
    sorted_order c.args.offsets.now c.loop-k.order.items c.sort_unstable_by.new.self.items (subst (λ (n : ℕ). AreCounted n c.loop-k.order.items) all c.loop-k.invariant) c.sort_unstable_by.ensures.permutation
    (c.sort_unstable_by.ensures.sorted (lies_before c.args.offsets.now) (is_order c.args.offsets.now) (always_returns_same _ _ _ (λ a r f k. search rules)))
