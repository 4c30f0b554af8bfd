-- Types of values (rule Y1).
--
--   part          asked
--   signature     parameters of integer types and ptr; a result void, of an integer type or ptr
--   phi           an integer type or ptr, which each operand fits
--   br            an i1
--   switch        an integer type; values of this type, literals, true or false, no word of them twice
--   ret           void exactly where the function's result is void, else an operand of the result's type
use Rattle.std.specs.Prelude.{ℕ, Bool, true, false, not, List, Some, None, Option, ◌&&◌}
use Rattle.std.specs.List.{list_all}
use Rattle.ir_base.specs.declared.outcome.Place.{Place}
use Rattle.ir_parts.specs.Parts.{Part, Signature, Head, OfPhi, OfInstr, Ending, first_part, parts_of}
use Rattle.ir_model.specs.Layout.{same_type}
use Rattle.ir_model.specs.Ty.{Ty, int}
use Rattle.ir_model.specs.declared.instr.Incoming.{Incoming}
use Rattle.ir_model.specs.declared.instr.Terminator.{Terminator}
use Rattle.ir_model.specs.declared.module.Function.{Function}
use Rattle.ir_model.specs.declared.module.Module.{Module}
use Rattle.ir_model.specs.declared.module.Param.{Param}
use Rattle.ir_model.specs.declared.operand.Arg.{Arg}
use Rattle.rule_values.specs.Fits.{fits, fits_scalar, is_scalar}
use Rattle.rule_values.specs.Instrs.{fits_instr}
use Rattle.rule_values.specs.Kinds.{value_kind}
use Rattle.rule_values.specs.Switches.{fits_switch}
use Rattle.rule_values.specs.declared.kinds.Kind.{Kind}

abbrev pub is_scalar_or_void : Option Ty → Bool
is_scalar_or_void None = true
is_scalar_or_void (Some t) = is_scalar t

abbrev pub has_scalar : Param → Bool
has_scalar p = is_scalar p.ty

abbrev pub fits_signature : Function → Bool
fits_signature f = is_scalar_or_void f.result && list_all has_scalar f.params

abbrev pub takes : (ℕ → Option Kind) → Ty → Incoming → Bool
takes kinds t i = fits kinds t i.value

abbrev pub fits_phi : (ℕ → Option Kind) → Ty → List Incoming → Bool
fits_phi kinds t incoming = is_scalar t && list_all (takes kinds t) incoming

abbrev pub fits_return : (ℕ → Option Kind) → Option Ty → Option Arg → Bool
fits_return kinds None None = true
fits_return kinds (Some t) (Some a) = same_type a.ty t && fits_scalar kinds a
fits_return kinds ty a = false

abbrev pub fits_ending : (ℕ → Option Kind) → Option Ty → Terminator → Bool
fits_ending kinds ty (Terminator.Jump label) = true
fits_ending kinds ty (Terminator.Branch c a b) = fits kinds (int 1) c
fits_ending kinds ty (Terminator.Switch arg default cases) = fits_switch kinds arg cases
fits_ending kinds ty (Terminator.Ret value) = fits_return kinds ty value
fits_ending kinds ty Terminator.Unreachable = true

abbrev pub fits_part : Module → (ℕ → Option Kind) → Option Ty → Part → Bool
fits_part m kinds ty (Signature f) = fits_signature f
fits_part m kinds ty (Head b) = true
fits_part m kinds ty (OfPhi p) = fits_phi kinds p.ty p.incoming
fits_part m kinds ty (OfInstr i) = fits_instr m kinds i
fits_part m kinds ty (Ending t) = fits_ending kinds ty t

-- Y1: given the kinds of the values and the result of the function
abbrev pub breaks_values : Module → (ℕ → Option Kind) → Option Ty → Place → Part → Bool
breaks_values m kinds ty place part = not (fits_part m kinds ty part)

abbrev pub first_wrong_value : Module → ℕ → Function → Option Place
first_wrong_value m k f = first_part (breaks_values m (value_kind f) f.result) (parts_of k f)
