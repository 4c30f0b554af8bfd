-- Calls in a renumbered function fit what they call just where they did (rule Y2).
use Rattle.std.proofs.Common.{◌≡◌, ℕ, Bool, List, [], ◌∷◌, refl, ap, Option}
use Rattle.std.specs.Prelude.{map, not, ◌&&◌}
use Rattle.ir_laws.specs.ir_base.declared.name.Name.{Name}
use Rattle.ir_laws.specs.ir_base.declared.outcome.Place.{Place}
use Rattle.ir_parts.specs.Parts.{OfInstr, Part}
use Rattle.ir_laws.specs.ir_model.Ty.{Ty}
use Rattle.ir_laws.specs.ir_model.declared.instr.Instr.{Instr}
use Rattle.ir_laws.specs.ir_model.declared.module.Function.{Function}
use Rattle.ir_laws.specs.ir_model.declared.module.Module.{Module}
use Rattle.ir_laws.specs.ir_model.declared.operand.Arg.{Arg}
use Rattle.ir_laws.specs.ir_model.declared.operand.Callee.{Callee}
use Rattle.ir_laws.specs.ir_model.declared.operand.Operand.{Operand}
use Rattle.rule_names.specs.Known.{allocator_name}
use Rattle.rule_laws.proofs.rules.order_rules.Contents.{arg_types_same}
use Rattle.rule_laws.proofs.rules.order_rules.Parts.{first_of_parts, renumbered_part}
use Rattle.ir_laws.specs.facts.order_rules.Renumbered.{renumbered_arg, renumbered_callee, renumbered_function, renumbered_operand}
use Rattle.rule_types.specs.Signatures.{are_wanted, calls_otherwise, first_otherwise, fits_callee, fits_named, is_result}
use Rattle.rule_types.specs.Wants.{allocator_params, allocator_result, intrinsic_params, intrinsic_result, is_basic, meets}
use Rattle.rule_types.specs.declared.wants.Demand.{Demand}
use Rattle.rule_types.specs.declared.wants.Wanted.{Wanted}

-- a local meets a demand wherever it stands
local_meets : (d : Demand) (a b : ℕ) → meets d (Operand.Local a) ≡ meets d (Operand.Local b)
local_meets Demand.Any a b = refl
local_meets Demand.Number a b = refl
local_meets Demand.Flag a b = refl
local_meets Demand.Align a b = refl
local_meets Demand.AlignOrZero a b = refl
local_meets Demand.False a b = refl
local_meets Demand.Null a b = refl
local_meets Demand.None a b = refl

module _ (to : ℕ → ℕ) (names : List Name) (m : Module) (k : ℕ) (f : Function) where
  meets_same : (d : Demand) (x : Operand) → meets d (renumbered_operand to x) ≡ meets d x
  meets_same d (Operand.Local n) = local_meets d (to n) n
  meets_same d (Operand.Global n) = refl
  meets_same d (Operand.Number z) = refl
  meets_same d Operand.True = refl
  meets_same d Operand.False = refl
  meets_same d Operand.Null = refl
  meets_same d Operand.None = refl
  meets_same d Operand.Poison = refl

  wanted_same : (ws : List Wanted) (args : List Arg) → are_wanted ws (map (renumbered_arg to) args) ≡ are_wanted ws args
  wanted_same [] [] = refl
  wanted_same [] (a ∷ args) = refl
  wanted_same (w ∷ ws) [] = refl
  wanted_same (w ∷ ws) (a ∷ args) = λ i. (is_basic w.ty a.ty && meets_same w.value a.value i) && wanted_same ws args i

  callee_same : (ty : Option Ty) (args : List Arg) (c : Callee) → fits_callee m ty (map (renumbered_arg to) args) (renumbered_callee to c) ≡ fits_callee m ty args c
  callee_same ty args (Callee.Named n) = ap (λ (ts : List Ty). fits_named m ty ts n) (arg_types_same to args)
  callee_same ty args (Callee.Allocator a) = λ i. (is_result (allocator_result a) ty && wanted_same (allocator_params a) args i) && fits_named m ty (arg_types_same to args i) (allocator_name a)
  callee_same ty args (Callee.Intrinsic x) = ap (λ (b : Bool). is_result (intrinsic_result x) ty && b) (wanted_same (intrinsic_params x) args)
  callee_same ty args (Callee.Local n) = refl

  calls_over : (p : Place) (x : Part) → calls_otherwise m p (renumbered_part to names x) ≡ calls_otherwise m p x
  calls_over p (OfInstr (Instr.Call r must_tail ty callee args)) = ap not (callee_same ty args callee)
  calls_over p _ = refl

  pub calls_same : first_otherwise m k (renumbered_function to names f) ≡ first_otherwise m k f
  calls_same = first_of_parts to names k f (calls_otherwise m) (calls_otherwise m) calls_over
