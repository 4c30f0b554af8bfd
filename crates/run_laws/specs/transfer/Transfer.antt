-- An ordinary step of a source and one of the same shape of a target, by what is read: what is asked of them and what
-- comes of them.
use Rattle.std.specs.Prelude.{ℕ, Bool, true, false, List, [], slice_get, Some, None, Option, option_map, length, ◌≡◌, ◌≤◌}
use Rattle.run_memory.specs.Memory.{Rights}
use Rattle.run_memory.specs.declared.pointer.Pointer.{Pointer}
use Rattle.run_memory.specs.declared.pointer.Value.{Value}
use Rattle.ir_base.specs.declared.name.Name.{Name}
use Rattle.ir_model.specs.Names.{declaration_named, function_named}
use Rattle.ir_model.specs.Ty.{Ty}
use Rattle.ir_model.specs.declared.instr.Case.{Case}
use Rattle.ir_model.specs.declared.instr.Instr.{Instr}
use Rattle.ir_model.specs.declared.instr.Terminator.{Terminator}
use Rattle.ir_model.specs.declared.operand.Arg.{Arg}
use Rattle.ir_model.specs.declared.operand.Callee.{Callee}
use Rattle.ir_model.specs.declared.operand.Intrinsic.{Intrinsic}
use Rattle.ir_model.specs.declared.operand.Operand.{Operand}
use Rattle.run_laws.specs.memory.Pointers.{Home, IsValue, home_of}
use Rattle.run_step.specs.Reads.{given_by}
use Rattle.run_step.specs.Step.{Action, AtInstr, AtTerm, Context, Coro, Deallocate, Done, Enter, Fetched, GoTo, NewSlot, Nowhere, Return, Stuck, Work, fits_function}
use Rattle.run_step.specs.Values.{Env, arg_value, distance, indices_of, operand_value, value_in}
use Rattle.run_step.specs.declared.world.World.{World}
use Rattle.run_laws.specs.embedded.Related.{AreValues, AreWorlds, HasBytes, HasNoSlot, IsSameDistance}
use Rattle.run_laws.specs.changed.Changed.{Each, callee_at}
use Rattle.run_laws.specs.transfer.Muted.{muted}
use Rattle.run_laws.specs.transfer.Shapes.{StaysAt}

-- ---- what an instruction looks at, what it sets, and what it takes

-- the action of a coro intrinsic looks at none of its operands
abbrev pub looks_in : Intrinsic → Bool
looks_in Intrinsic.LifetimeStart = true
looks_in Intrinsic.LifetimeEnd = true
looks_in Intrinsic.MemcpyI64 = true
looks_in Intrinsic.MemcpyI32 = true
looks_in _ = false

abbrev pub looks_at : Fetched → Bool
looks_at (AtInstr (Instr.Call result must_tail ty (Callee.Intrinsic i) args)) = looks_in i
looks_at _ = true

-- the name whose value what stands at a place sets
abbrev pub given_at : Fetched → Option ℕ
given_at Nowhere = None
given_at (AtInstr i) = given_by i
given_at (AtTerm t) = None

abbrev pub args_at : Fetched → List Arg
args_at (AtInstr (Instr.Call result must_tail ty callee args)) = args
args_at _ = []

abbrev pub cases_at : Fetched → List Case
cases_at (AtTerm (Terminator.Switch arg default cases)) = cases
cases_at _ = []

-- ---- what is asked

-- where the target's declarations, functions and labels are found
pub record Maps : Type 0 where
  pub declaration : ℕ → ℕ
  pub function : ℕ → ℕ
  pub label : ℕ → ℕ

-- all where they were
abbrev pub same_maps : Maps
same_maps = record { declaration = λ n. n; function = λ n. n; label = λ n. n }

-- the source's memory without its hidden blocks
abbrev pub muted_world : (ℕ → Bool) → World → World
muted_world hides s = record s { memory = muted hides s.memory }

-- it stands in the target's, and both have seen the same
abbrev pub AreOver : Rights → Rights → List Home → (ℕ → Bool) → (ℕ → ℕ) → World → World → Type 0
AreOver rights target homes hides moves s t = AreWorlds rights target homes moves (muted_world hides s) t

-- an operand's value stands for that of the other by a relation of values, where an operand is looked at
abbrev pub StandsFor : Bool → (Value → Value → Type 0) → Context → Context → Env → Env → Operand → Operand → Type 0
StandsFor false R c d env other a b = Unit {0}
StandsFor true R c d env other a b = (ty : Ty) → R (operand_value c.code env ty a) (operand_value d.code other ty b)

-- the name of a callee is one of the same function or declaration in both
abbrev pub IsNamedAlike : Maps → Context → Context → Option Name → Type 0
IsNamedAlike maps c d None = Unit {0}
IsNamedAlike maps c d (Some n) = (function_named d.code n ≡ option_map maps.function (function_named c.code n)) ×
    (declaration_named d.code n ≡ option_map maps.declaration (declaration_named c.code n))

-- a function that is called through a pointer has the same position and type in both
abbrev pub IsPointedAlike : Maps → Context → Context → Env → Fetched → Type 0
IsPointedAlike maps c d env (AtInstr (Instr.Call result must_tail ty (Callee.Local v) args)) =
    (func : ℕ) → value_in env v ≡ Value.Ptr (Pointer.Func func)
    → (maps.function func ≡ func) × (fits_function ty args
    (slice_get d.code.functions func) ≡ fits_function ty args (slice_get c.code.functions func))
IsPointedAlike maps c d env _ = Unit {0}

-- the distances of two getelementptrs are the same, where the source has one
abbrev pub AreSameDistances : Context → Context → Env → Env → Fetched → Fetched → Type 0
AreSameDistances c d env other (AtInstr (Instr.Gep name inbounds ty base indices))
    (AtInstr (Instr.Gep name' inbounds' ty' base' indices')) =
    IsSameDistance (distance c.code ty (indices_of c.code env indices)) (distance d.code ty'
    (indices_of d.code other indices'))
AreSameDistances c d env other _ _ = Unit {0}

-- the value of a switch's case is the same in both
abbrev pub IsSameCase : Context → Context → Case → Type 0
IsSameCase c d k = arg_value d.code [] k.arg ≡ arg_value c.code [] k.arg

-- two instructions of one shape: what the one looks at stands for what the other does; callees, distances and cases
-- are the same; no block is made, marked or allocated
pub record IsTransferred (R : Value → Value
    → Type 0) (maps : Maps) (c d : Context) (env other : Env) (here there : Fetched) : Type 0 where
  pub shape : StaysAt (StandsFor (looks_at here) R c d env other) maps.label here there
  pub callee : IsNamedAlike maps c d (callee_at here)
  pub pointed : IsPointedAlike maps c d env here
  pub distance : AreSameDistances c d env other here there
  pub cases : Each (IsSameCase c d) (cases_at here)
  pub no_slot : HasNoSlot here
  pub bytes : HasBytes here

-- the memories of two works, of the rights of their contexts; no pointer is about into a hidden block, and the target
-- has a place for each name
pub record AreJoined (homes : List Home) (hides : ℕ → Bool) (maps : Maps) (c d : Context) (w x : Work) : Type 0 where
  pub over : AreOver c.rights d.rights homes hides maps.declaration w.world x.world
  pub hidden : (b : ℕ) → hides b ≡ true → (home_of homes b).is_seen ≡ false
  pub answers : d.answers ≡ c.answers
  pub room : length w.values ≤ length x.values

-- ---- what comes of them

-- the name that is set has what stands for what it has in the source, and no other name is set
pub record AreSet (homes : List Home) (given : Option ℕ) (env other env' other' : Env) : Type 0 where
  pub stands : (name : ℕ) → given ≡ Some name → IsValue homes (value_in env' name) (value_in other' name)
  pub source : (name : ℕ) → (given ≡ Some name → ⊥) → value_in env' name ≡ value_in env name
  pub target : (name : ℕ) → (given ≡ Some name → ⊥) → value_in other' name ≡ value_in other name
  pub length_source : length env' ≡ length env
  pub length_target : length other' ≡ length other

-- the target does the same with what stands for the source's values, unless the source is undefined
abbrev pub GoesOver : Rights → Rights → List Home → (ℕ → Bool) → Maps → Option ℕ → (old now : List Arg) → Work → Work
    → Action → Action → Type 0
GoesOver rights target homes hides maps given old now w x (Done v) b = (y : Work) ×
    (b ≡ Done y) × AreOver rights target homes hides maps.declaration v.world y.world × AreSet homes given w.values
    x.values v.values y.values
GoesOver rights target homes hides maps given old now w x (NewSlot v slot) b = ⊥
GoesOver rights target homes hides maps given old now w x (Enter func args result must_tail) b =
    (others : List Value) × (b ≡ Enter (maps.function func) others result must_tail) × AreValues homes args others
GoesOver rights target homes hides maps given old now w x (Coro i args result) b = (args ≡ old) ×
    (b ≡ Coro i now result)
GoesOver rights target homes hides maps given old now w x (Deallocate p) b = (q : Value) ×
    (b ≡ Deallocate q) × IsValue homes p q
GoesOver rights target homes hides maps given old now w x (GoTo label) b = b ≡ GoTo (maps.label label)
GoesOver rights target homes hides maps given old now w x (Return None) b = b ≡ Return None
GoesOver rights target homes hides maps given old now w x (Return (Some v)) b = (u : Value) ×
    (b ≡ Return (Some u)) × IsValue homes v u
GoesOver rights target homes hides maps given old now w x (Stuck cause) b = Unit {0}
