-- The operands, types and values of terminators stay when blocks are put on edges that leave windows.
use Rattle.std.proofs.Common.{◌≡◌, ℕ, Bool, ◌&&◌, List, [], ◌∷◌, map, not, Option, refl, ap}
use Rattle.std.specs.List.{list_all}
use Rattle.pass_fetch_proof.specs.ir_parts.Contents.{ending_operands, ending_types}
use Rattle.ir_model.specs.Ty.{Ty}
use Rattle.ir_model.specs.declared.instr.Case.{Case}
use Rattle.ir_model.specs.declared.instr.Terminator.{Terminator}
use Rattle.ir_model.specs.declared.module.Function.{Function}
use Rattle.ir_model.specs.declared.operand.Arg.{Arg}
use Rattle.ir_model.specs.declared.operand.Operand.{Operand}
use Rattle.pass_fetch_proof.specs.rule_values.Fits.{fits_integer}
use Rattle.pass_fetch_proof.specs.rule_values.Switches.{any_twice, bits_in, case_word, fits_case, fits_switch}
use Rattle.pass_fetch_proof.specs.rule_values.Values.{fits_ending}
use Rattle.pass_fetch_proof.specs.rule_values.declared.kinds.Kind.{Kind}
use Rattle.pass_split.specs.pass_exits.ExitBlocks.{after_exit, exit_cases, exit_term}
use Rattle.pass_split.specs.pass_exits.Exits.{mark_of}

module _ (f : Function) (at : ℕ) where
  abbrev behind : ℕ → ℕ → ℕ
  behind n t = after_exit n (mark_of f at t)

  case_operands : (n : ℕ) (cases : List Case) → map (λ k. k.arg.value) (exit_cases f at n cases) ≡ map (λ k. k.arg.value) cases
  case_operands n [] = refl
  case_operands n (c ∷ cases) = ap (λ (xs : List Operand). c.arg.value ∷ xs) (case_operands (behind n c.target) cases)

  pub ending_operands_same : (n : ℕ) (t : Terminator) → ending_operands (exit_term f at n t) ≡ ending_operands t
  ending_operands_same n (Terminator.Jump label) = refl
  ending_operands_same n (Terminator.Branch c a b) = refl
  ending_operands_same n (Terminator.Switch arg default cases) = ap (λ (xs : List Operand). arg.value ∷ xs) (case_operands (behind n default) cases)
  ending_operands_same n (Terminator.Ret value) = refl
  ending_operands_same n Terminator.Unreachable = refl

  case_types : (n : ℕ) (cases : List Case) → map (λ k. k.arg.ty) (exit_cases f at n cases) ≡ map (λ k. k.arg.ty) cases
  case_types n [] = refl
  case_types n (c ∷ cases) = ap (λ (xs : List Ty). c.arg.ty ∷ xs) (case_types (behind n c.target) cases)

  pub ending_types_same : (n : ℕ) (t : Terminator) → ending_types (exit_term f at n t) ≡ ending_types t
  ending_types_same n (Terminator.Jump label) = refl
  ending_types_same n (Terminator.Branch c a b) = refl
  ending_types_same n (Terminator.Switch arg default cases) = ap (λ (xs : List Ty). arg.ty ∷ xs) (case_types (behind n default) cases)
  ending_types_same n (Terminator.Ret value) = refl
  ending_types_same n Terminator.Unreachable = refl

  module _ (kinds : ℕ → Option Kind) where
    cases_fit : (t : Ty) (n : ℕ) (cases : List Case) → list_all (fits_case kinds t) (exit_cases f at n cases) ≡ list_all (fits_case kinds t) cases
    cases_fit t n [] = refl
    cases_fit t n (c ∷ cases) = ap (λ (b : Bool). fits_case kinds t c && b) (cases_fit t (behind n c.target) cases)

    case_words : (w n : ℕ) (cases : List Case) → map (case_word w) (exit_cases f at n cases) ≡ map (case_word w) cases
    case_words w n [] = refl
    case_words w n (c ∷ cases) = ap (λ (ws : List ℕ). case_word w c ∷ ws) (case_words w (behind n c.target) cases)

    switch_same : (arg : Arg) (n : ℕ) (cases : List Case) → fits_switch kinds arg (exit_cases f at n cases) ≡ fits_switch kinds arg cases
    switch_same arg n cases = λ k. fits_integer kinds arg && (cases_fit arg.ty n cases k && not (any_twice [] (case_words (bits_in arg.ty) n cases k)))

    pub ending_fits : (ty : Option Ty) (n : ℕ) (t : Terminator) → fits_ending kinds ty (exit_term f at n t) ≡ fits_ending kinds ty t
    ending_fits ty n (Terminator.Jump label) = refl
    ending_fits ty n (Terminator.Branch c a b) = refl
    ending_fits ty n (Terminator.Switch arg default cases) = switch_same arg (behind n default) cases
    ending_fits ty n (Terminator.Ret value) = refl
    ending_fits ty n Terminator.Unreachable = refl
