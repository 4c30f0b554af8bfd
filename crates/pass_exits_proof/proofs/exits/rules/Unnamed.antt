-- Lemmas on unnamed.
use Rattle.std.proofs.Common.{◌≡◌, ℕ, true, ◌≤◌, List, None, length, sym, subst}
use Rattle.pass_fetch_proof.specs.rule_shape.Switches.{wrong_switch}
use Rattle.pass_fetch_proof.specs.frame_layout.declared.layout.Layout.{Layout}
use Rattle.pass_fetch_proof.specs.pass_intrinsics.Shapes.{shape_of}
use Rattle.pass_fetch_proof.specs.pass_intrinsics.declared.shape.SuspendPoint.{SuspendPoint}
use Rattle.ir_model.specs.declared.module.Function.{Function}
use Rattle.pass_fetch_proof.specs.rule_laws.frames.replaced.Parted.{IsSmall}
use Rattle.pass_split.specs.pass_exits.ExitBlocks.{with_exit_blocks}
use Rattle.pass_exits_proof.proofs.exits.rules.Suspends.{same_suspends}

pub stays_small : (k : ℕ) (f : Function) (layout : Layout) → f.coroutine ≡ true → wrong_switch k f ≡ None → IsSmall (shape_of f layout) → IsSmall (shape_of (with_exit_blocks f) layout)
stays_small k f layout coroutine switches h = record {
  size = h.size;
  align = h.align;
  index = h.index;
  suspends = subst (λ (ps : List SuspendPoint). length ps ≤ 65536) (sym (same_suspends k f coroutine switches)) h.suspends;
}
