-- Numbers of a width that a type has.
use Rattle.std.proofs.Common.{◌≡◌, ℕ, ◌≤◌, ◌<◌, arith, sym, ◌∙◌, subst}
use Rattle.std.specs.Prelude.{◌^◌}
use Rattle.run_memory.specs.run_ints.Words.{IsNum, IsNumOf, AreOfOneWidth}
use Rattle.run_memory.specs.run_ints.declared.num.Num.{Num}
use Rattle.run_memory.specs.run_ints.declared.num.Num.TheVariants.{Poison, Is}
use Rattle.ir_paths.specs.ir_model.TypeView.{bits_of}
use Rattle.ir_paths.specs.ir_model.declared.ir_type.IntWidth.{IntWidth}
use Rattle.ir_paths.specs.ir_model.declared.ir_type.IntWidth.TheVariants.{I1, I8, I16, I32, I64}

pub narrow : (width : IntWidth) → bits_of width ≤ 64
narrow I1 = omega arith
narrow I8 = omega arith
narrow I16 = omega arith
narrow I32 = omega arith
narrow I64 = omega arith

pub is_num : (width : IntWidth) (n : Num) → IsNumOf (bits_of width) n → IsNum n
is_num width Poison h = tt
is_num width (Is x) h =
    let w : x.width ≡ bits_of width = h.width in
    record { narrow = subst (λ k. k ≤ 64) (sym w) (narrow width); below = subst (λ k. x.bits < 2 ^ k) (sym w) h.below }

pub one_width : (w : ℕ) (a b : Num) → IsNumOf w a → IsNumOf w b → AreOfOneWidth a b
one_width w Poison b h g = tt
one_width w (Is x) Poison h g = tt
one_width w (Is x) (Is y) h g = h.width ∙ sym g.width
