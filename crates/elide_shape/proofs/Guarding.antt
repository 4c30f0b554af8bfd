-- The two ways of a branch.
use Rattle.std.proofs.Common.{◌≡◌, ℕ, Some, Option, sym, ap, ◌∙◌}
use Rattle.elide_shape.specs.Guard.{is_guard, is_guard_to}
use Rattle.ir_model.specs.Names.{position_of}
use Rattle.ir_model.specs.declared.module.Function.{Function}

pub guard_to : (f : Function) (a : ℕ) (ways : Option (ℕ × ℕ)) (pair : ℕ × ℕ) (d b : ℕ) → ways ≡ Some pair → d ≡ position_of f pair.0 → b ≡ position_of f pair.1 → is_guard f a d b ≡ is_guard_to f a ways
guard_to f a ways pair d b is at_d at_b =
    ap (λ n. is_guard f a n b) at_d ∙ ap (λ n. is_guard f a (position_of f pair.0) n) at_b ∙ sym (ap (is_guard_to f a) is)
