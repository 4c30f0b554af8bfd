-- An ordinary step in a module, and the same step in a changed module: what the change must leave as it is.
use Rattle.std.specs.Prelude.{ℕ, List, [], map, slice_get, Some, None, Option, option_map, ◌≡◌, ◌∷◌, ◌++◌}
use Rattle.run_memory.specs.declared.pointer.Value.{Value}
use Rattle.ir_base.specs.declared.name.Name.{Name}
use Rattle.ir_base.specs.declared.outcome.Event.{Event}
use Rattle.ir_model.specs.Names.{declaration_named, function_named}
use Rattle.ir_model.specs.Ty.{Ty}
use Rattle.ir_model.specs.declared.instr.Instr.{Instr}
use Rattle.ir_model.specs.declared.instr.Terminator.{Terminator}
use Rattle.ir_model.specs.declared.operand.Arg.{Arg}
use Rattle.ir_model.specs.declared.operand.Callee.{Callee}
use Rattle.ir_model.specs.declared.operand.Operand.{Operand}
use Rattle.run_step.specs.Step.{Action, AtInstr, AtTerm, Context, Coro, Deallocate, Done, Enter, Fetched, GoTo, NewSlot, Nowhere, Return, Stuck, Work, fits_function, has_markers}
use Rattle.run_step.specs.Values.{Env, operand_value, with_result}
use Rattle.run_step.specs.declared.world.World.{World}

-- P holds of each element
abbrev pub Each : {A : Type 0} → (A → Type 0) → List A → Type 0
Each P [] = Unit {0}
Each P (x ∷ xs) = P x × Each P xs

-- ---- the operands of an instruction, and the name that it may set

abbrev pub values_of : List Arg → List Operand
values_of args = map (λ a. a.value) args

-- the value that is called
abbrev pub called_operand : Callee → List Operand
called_operand (Callee.Local name) = Operand.Local name ∷ []
called_operand _ = []

abbrev pub operands_of : Instr → List Operand
operands_of (Instr.Binary name op flags ty a b) = a ∷ b ∷ []
operands_of (Instr.Icmp name pred ty a b) = a ∷ b ∷ []
operands_of (Instr.Select name x a b) = x ∷ a.value ∷ b.value ∷ []
operands_of (Instr.Cast name op nneg arg to) = arg.value ∷ []
operands_of (Instr.Alloca name ty align) = []
operands_of (Instr.Load name ty p align) = p ∷ []
operands_of (Instr.Store arg p align) = arg.value ∷ p ∷ []
operands_of (Instr.Gep name inbounds ty base indices) = base ∷ values_of indices
operands_of (Instr.Call result must_tail ty callee args) = called_operand callee ++ values_of args

abbrev pub operands_of_term : Terminator → List Operand
operands_of_term (Terminator.Jump label) = []
operands_of_term (Terminator.Branch x a b) = x ∷ []
operands_of_term (Terminator.Switch arg default cases) = arg.value ∷ map (λ k. k.arg.value) cases
operands_of_term (Terminator.Ret None) = []
operands_of_term (Terminator.Ret (Some arg)) = arg.value ∷ []
operands_of_term Terminator.Unreachable = []

abbrev pub operands_at : Fetched → List Operand
operands_at Nowhere = []
operands_at (AtInstr i) = operands_of i
operands_at (AtTerm t) = operands_of_term t

abbrev pub result_of : Instr → Option ℕ
result_of (Instr.Binary name op flags ty a b) = Some name
result_of (Instr.Icmp name pred ty a b) = Some name
result_of (Instr.Select name x a b) = Some name
result_of (Instr.Cast name op nneg arg to) = Some name
result_of (Instr.Alloca name ty align) = Some name
result_of (Instr.Load name ty p align) = Some name
result_of (Instr.Store arg p align) = None
result_of (Instr.Gep name inbounds ty base indices) = Some name
result_of (Instr.Call result must_tail ty callee args) = result

abbrev pub result_at : Fetched → Option ℕ
result_at Nowhere = None
result_at (AtInstr i) = result_of i
result_at (AtTerm t) = None

-- the name of the function that is called by its name
abbrev pub named_callee : Callee → Option Name
named_callee (Callee.Named n) = Some n
named_callee _ = None

abbrev pub callee_at : Fetched → Option Name
callee_at (AtInstr (Instr.Call result must_tail ty callee args)) = named_callee callee
callee_at _ = None

-- ---- a change

-- how the values of an activation and the positions of the declarations change
pub record Change : Type 0 where
  pub values : Env → Env
  pub declaration : ℕ → ℕ

abbrev pub changed_event : Change → Event → Event
changed_event ch e = record e { func = ch.declaration e.func }

abbrev pub changed_world : Change → World → World
changed_world ch w = record w { events = map (changed_event ch) w.events }

abbrev pub changed_work : Change → Work → Work
changed_work ch w = record { world = changed_world ch w.world; values = ch.values w.values }

abbrev pub changed_action : Change → Action → Action
changed_action ch (Done w) = Done (changed_work ch w)
changed_action ch (NewSlot w slot) = NewSlot (changed_work ch w) slot
changed_action ch (Enter func args result must_tail) = Enter func args result must_tail
changed_action ch (Coro i args result) = Coro i args result
changed_action ch (Deallocate p) = Deallocate p
changed_action ch (GoTo label) = GoTo label
changed_action ch (Return v) = Return v
changed_action ch (Stuck cause) = Stuck cause

-- ---- what a change must leave as it is

-- of the module and the function: types, answers, rights, the kind of slots, the markers, and the functions by their names and types
pub record IsLike (c d : Context) : Type 0 where
  pub types : d.code.types ≡ c.code.types
  pub answers : d.answers ≡ c.answers
  pub rights : d.rights ≡ c.rights
  pub coroutine : d.function.coroutine ≡ c.function.coroutine
  pub markers : (alloca : ℕ) → has_markers d.function alloca ≡ has_markers c.function alloca
  pub functions : (n : Name) → function_named d.code n ≡ function_named c.code n
  pub fits : (ty : Option Ty) (args : List Arg) (func : ℕ) → fits_function ty args (slice_get d.code.functions func) ≡ fits_function ty args (slice_get c.code.functions func)

-- an operand has the same value, also where no local has a value
pub record IsSameOperand (ch : Change) (c d : Context) (env : Env) (x : Operand) : Type 0 where
  pub here : (ty : Ty) → operand_value d.code (ch.values env) ty x ≡ operand_value c.code env ty x
  pub nowhere : (ty : Ty) → operand_value d.code [] ty x ≡ operand_value c.code [] ty x

-- a name set in the values is set in the changed values
abbrev pub IsSetAlike : Change → Env → Option ℕ → Type 0
IsSetAlike ch env name = (v : Value) → ch.values (with_result env name v) ≡ with_result (ch.values env) name v

-- the declaration of a callee is the changed one
abbrev pub IsDeclaredAlike : Change → Context → Context → Option Name → Type 0
IsDeclaredAlike ch c d None = Unit {0}
IsDeclaredAlike ch c d (Some n) = declaration_named d.code n ≡ option_map ch.declaration (declaration_named c.code n)

-- what stands at a place does the same in the changed module
pub record IsKeptAt (ch : Change) (c d : Context) (env : Env) (here : Fetched) : Type 0 where
  pub operands : Each (IsSameOperand ch c d env) (operands_at here)
  pub result : IsSetAlike ch env (result_at here)
  pub callee : IsDeclaredAlike ch c d (callee_at here)
