-- What is asked of the types of a module: N1, Y1 and Y2, and the widths that the grammar has.
use Rattle.std.specs.Prelude.{◌≡◌, ℕ, Bool, true, List, [], ◌∷◌, Option, Some, slice_get, ◌&&◌}
use Rattle.std.specs.List.{AllByRecursion}
use Rattle.ir_laws.specs.facts.counted.Widths.{has_width}
use Rattle.run_hooks.specs.ir_model.Layout.{same_type}
use Rattle.run_hooks.specs.ir_model.Names.{function_at}
use Rattle.run_hooks.specs.ir_model.Ty.{Ty}
use Rattle.run_hooks.specs.ir_model.declared.instr.Instr.{Instr}
use Rattle.run_hooks.specs.ir_model.declared.instr.Phi.{Phi}
use Rattle.run_hooks.specs.ir_model.declared.instr.Terminator.{Terminator}
use Rattle.run_hooks.specs.ir_model.declared.module.Function.{Function}
use Rattle.run_hooks.specs.ir_model.declared.module.Module.{Module}
use Rattle.run_hooks.specs.ir_model.declared.module.Param.{Param}
use Rattle.run_hooks.specs.ir_model.declared.operand.Arg.{Arg}
use Rattle.run_hooks.specs.ir_model.declared.operand.Callee.{Callee}
use Rattle.run_hooks.specs.ir_model.declared.operand.Operand.{Operand}
use Rattle.run_hooks.specs.ir_base.declared.name.Name.{Name}
use Rattle.rule_types.specs.Signatures.{fits_callee, same_result}
use Rattle.rule_values.specs.Instrs.{fits_instr}
use Rattle.rule_values.specs.Kinds.{instr_kind, kind_of, value_kind}
use Rattle.rule_values.specs.Values.{fits_ending, fits_phi}
use Rattle.rule_values.specs.declared.kinds.Kind.{Kind}
use Rattle.run_hooks.specs.run_framed.Framed.{given_ramp}
use Rattle.run_hooks.specs.run_step.Step.{AtInstr, AtTerm, fetch, phis_of}

-- a phi fits its type, which is that of its name
pub record FitsPhi (f : Function) (p : Phi) : Type 0 where
  pub fits : fits_phi (value_kind f) p.ty p.incoming ≡ true
  pub own : value_kind f p.result ≡ Some (kind_of p.ty)

-- by what stands at the places of a function
pub record KeepsTypes (m : Module) (f : Function) : Type 0 where
  -- Y1: operands fit the types with which they are used
  pub instrs : (block at : ℕ) (i : Instr) → fetch f block at ≡ AtInstr i → fits_instr m (value_kind f) i ≡ true
  pub ends : (block at : ℕ) (t : Terminator) → fetch f block at ≡ AtTerm t
      → fits_ending (value_kind f) f.result t ≡ true
  -- N1: a name is of the kind of what gives it
  pub given : (block at n : ℕ) (i : Instr) (kind : Kind) → fetch f block at ≡ AtInstr i → instr_kind i n ≡ Some kind
      → value_kind f n ≡ Some kind
  pub phis : (block : ℕ) → AllByRecursion (FitsPhi f) (phis_of (slice_get f.blocks block))
  pub params : AllByRecursion (λ (p : Param). value_kind f p.name ≡ Some (kind_of p.ty)) f.params
  -- Y2: a call is of the types of its callee
  pub calls : (block at : ℕ) (result : Option ℕ) (must_tail : Bool) (ty : Option Ty) (callee : Callee) (args : List Arg)
      → fetch f block at ≡ AtInstr (Instr.Call result must_tail ty callee args) → fits_callee m ty args callee ≡ true
  -- the grammar: an integer is of 1, 8, 16, 32 or 64 bits
  pub loads : (block at name : ℕ) (ty : Ty) (p : Operand) (align : ℕ)
      → fetch f block at ≡ AtInstr (Instr.Load name ty p align) → has_width ty ≡ true

abbrev pub KeepsAllTypes : Module → Type 0
KeepsAllTypes m = (func : ℕ) → KeepsTypes m (function_at m func)

-- ---- calls that give a frame

-- the parameters are of the types of the first arguments
abbrev pub fits_first : List Param → List Arg → Bool
fits_first [] args = true
fits_first (p ∷ params) [] = true
fits_first (p ∷ params) (a ∷ args) = same_type a.ty p.ty && fits_first params args

-- a call that gives a ramp its frame is of the types of the ramp, but for the frame's address behind its arguments
pub record KeepsGivenTypes (m : Module) : Type 0 where
  pub calls : (func block at : ℕ) (result : Option ℕ) (must_tail : Bool) (ty : Option Ty) (n : Name) (args : List Arg)
      (ramp : ℕ) → fetch (function_at m func) block at ≡ AtInstr (Instr.Call result must_tail ty (Callee.Named n) args)
      → given_ramp m n ≡ Some ramp
      → (fits_first (function_at m ramp).params args ≡ true) × (same_result ty (function_at m ramp).result ≡ true)
