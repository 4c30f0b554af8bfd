-- The operands of a call by their positions.
use Rattle.std.proofs.Common.{◌≡◌, ℕ, zero, suc, Bool, true, false, List, [], ◌∷◌, refl, ap, sym, ◌∙◌, Option, Some, None}
use Rattle.std.specs.Prelude.{slice_get}
use Rattle.ir_model.specs.declared.operand.Arg.{Arg}
use Rattle.ir_model.specs.declared.operand.Operand.{Operand}
use Rattle.ir_paths.specs.Windows.{operand_at}

pub operand-none : (args : List Arg) (i : ℕ) → slice_get args i ≡ None → operand_at args i ≡ Operand.None
operand-none [] zero e = refl
operand-none [] (suc i) e = refl
operand-none (a ∷ args) zero e = absurd cc
operand-none (a ∷ args) (suc i) e = operand-none args i e

pub operand-some : (args : List Arg) (i : ℕ) (a : Arg) → slice_get args i ≡ Some a → operand_at args i ≡ a.value
operand-some [] i a e = absurd cc
operand-some (b ∷ args) zero a e = let s : b ≡ a = cc in ap (λ (x : Arg). x.value) s
operand-some (b ∷ args) (suc i) a e = operand-some args i a e
