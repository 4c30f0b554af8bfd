-- The values of switches.
use Rattle.std.specs.Prelude.{ℕ, Bool, true, false, not, List, [], map, Option, ◌&&◌, ◌||◌, ◌∷◌, ◌==◌}
use Rattle.std.specs.List.{list_all, list_any}
use Rattle.run_ints.specs.Numbers.{bits_of}
use Rattle.ir_model.specs.Layout.{same_type}
use Rattle.ir_model.specs.Ty.{Ty, int}
use Rattle.ir_model.specs.declared.instr.Case.{Case}
use Rattle.ir_model.specs.declared.operand.Arg.{Arg}
use Rattle.ir_model.specs.declared.operand.Operand.{Operand}
use Rattle.rule_values.specs.Fits.{fits_arg, fits_integer}
use Rattle.rule_values.specs.declared.kinds.Kind.{Kind}

-- a literal, true or false
abbrev pub is_constant : Operand → Bool
is_constant (Operand.Number z) = true
is_constant Operand.True = true
is_constant Operand.False = true
is_constant x = false

abbrev pub bits_in : Ty → ℕ
bits_in (int w) = w
bits_in t = 0

-- the word of a switch value
abbrev pub word_in : ℕ → Operand → ℕ
word_in w (Operand.Number z) = bits_of w z
word_in w Operand.True = 1
word_in w x = 0

abbrev pub case_word : ℕ → Case → ℕ
case_word w k = word_in w k.arg.value

abbrev pub has_word : List ℕ → ℕ → Bool
has_word ws w = list_any (λ v. v == w) ws

-- one of the words is also among those before it
abbrev pub any_twice : List ℕ → List ℕ → Bool
any_twice before [] = false
any_twice before (w ∷ ws) = has_word before w || any_twice (w ∷ before) ws

-- a value of the switch's type, a literal, true or false
abbrev pub fits_case : (ℕ → Option Kind) → Ty → Case → Bool
fits_case kinds t k = same_type k.arg.ty t && (is_constant k.arg.value && fits_arg kinds k.arg)

abbrev pub fits_switch : (ℕ → Option Kind) → Arg → List Case → Bool
fits_switch kinds arg cases =
    fits_integer kinds arg && (list_all (fits_case kinds arg.ty) cases && not (any_twice [] (map (case_word (bits_in arg.ty)) cases)))
