-- Ordinary steps over a source memory and over a target memory in which it stands.
use Rattle.std.specs.Prelude.{ℕ, List, [], ◌∷◌, length, map, slice_get, Some, None, Option, option_map, ◌≡◌, ◌≤◌, ◌<◌}
use Rattle.run_memory.specs.Memory.{Rights, access_bytes}
use Rattle.run_memory.specs.declared.pointer.Value.{Value}
use Rattle.ir_base.specs.declared.name.Name.{Name}
use Rattle.ir_base.specs.declared.outcome.Event.{Event}
use Rattle.ir_model.specs.Names.{declaration_named, function_named}
use Rattle.ir_model.specs.Ty.{Ty}
use Rattle.ir_model.specs.declared.instr.Instr.{Instr}
use Rattle.ir_model.specs.declared.operand.Allocator.{Allocator}
use Rattle.ir_model.specs.declared.operand.Arg.{Arg}
use Rattle.ir_model.specs.declared.operand.Callee.{Callee}
use Rattle.ir_model.specs.declared.operand.Intrinsic.{Intrinsic}
use Rattle.ir_model.specs.declared.operand.Operand.{Operand}
use Rattle.run_laws.specs.memory.Pointers.{Home, IsValue}
use Rattle.run_laws.specs.memory.Standing.{AreBoundsKept, AreNullsKept, Embeds}
use Rattle.run_step.specs.Step.{Action, AtInstr, Context, Coro, Deallocate, Done, Enter, Fetched, GoTo, NewSlot, Return, Stuck, Work, fits_function}
use Rattle.run_step.specs.Values.{Env, access_of, distance, indices_of, operand_value, value_in}
use Rattle.run_step.specs.declared.world.World.{World}
use Rattle.run_laws.specs.changed.Changed.{Each, callee_at, operands_at}

-- an event, by the declaration that the target has for it
abbrev pub moved_event : (ℕ → ℕ) → Event → Event
moved_event moves e = record e { func = moves e.func }

-- the source's memory stands in the target's, and both have seen the same
pub record AreWorlds (rights target : Rights) (homes : List Home) (moves : ℕ → ℕ) (s t : World) : Type 0 where
  pub memory : Embeds rights target homes s.memory t.memory
  pub nulls : AreNullsKept rights target homes s.memory t.memory
  pub bounds : AreBoundsKept homes s.memory t.memory
  pub events : t.events ≡ map (moved_event moves) s.events
  pub answers : t.answers_used ≡ s.answers_used
  pub allocs : t.allocs ≡ s.allocs

-- what each name has in the one stands for what it has in the other
pub record AreEnvs (homes : List Home) (env other : Env) : Type 0 where
  pub each : (name : ℕ) → IsValue homes (value_in env name) (value_in other name)
  pub room : length env ≤ length other

pub record AreWorks (rights target : Rights) (homes : List Home) (moves : ℕ → ℕ) (w x : Work) : Type 0 where
  pub world : AreWorlds rights target homes moves w.world x.world
  pub values : AreEnvs homes w.values x.values

-- value for value
abbrev pub AreValues : List Home → List Value → List Value → Type 0
AreValues homes [] [] = Unit {0}
AreValues homes [] (w ∷ ws) = ⊥
AreValues homes (v ∷ vs) [] = ⊥
AreValues homes (v ∷ vs) (w ∷ ws) = IsValue homes v w × AreValues homes vs ws

-- ---- what is asked of an instruction

-- types, answers, and functions by their names and types are the same
pub record AreAlike (c d : Context) : Type 0 where
  pub types : d.code.types ≡ c.code.types
  pub answers : d.answers ≡ c.answers
  pub functions : (n : Name) → function_named d.code n ≡ function_named c.code n
  pub fits : (ty : Option Ty) (args : List Arg) (func : ℕ) → fits_function ty args (slice_get d.code.functions func) ≡ fits_function ty args (slice_get c.code.functions func)

-- an operand's value stands for that in the source; where no local has a value it is the same
pub record IsOperand (homes : List Home) (c d : Context) (env other : Env) (x : Operand) : Type 0 where
  pub here : (ty : Ty) → IsValue homes (operand_value c.code env ty x) (operand_value d.code other ty x)
  pub nowhere : (ty : Ty) → operand_value d.code [] ty x ≡ operand_value c.code [] ty x

abbrev pub IsDeclared : (ℕ → ℕ) → Context → Context → Option Name → Type 0
IsDeclared moves c d None = Unit {0}
IsDeclared moves c d (Some n) = declaration_named d.code n ≡ option_map moves (declaration_named c.code n)

-- slots are made and marked by each pass in its own way, and blocks are allocated in their own
abbrev pub HasNoSlot : Fetched → Type 0
HasNoSlot (AtInstr (Instr.Alloca name ty align)) = ⊥
HasNoSlot (AtInstr (Instr.Call result must_tail ty (Callee.Allocator Allocator.Malloc) args)) = ⊥
HasNoSlot (AtInstr (Instr.Call result must_tail ty (Callee.Allocator Allocator.Znwm) args)) = ⊥
HasNoSlot (AtInstr (Instr.Call result must_tail ty (Callee.Intrinsic Intrinsic.LifetimeStart) args)) = ⊥
HasNoSlot (AtInstr (Instr.Call result must_tail ty (Callee.Intrinsic Intrinsic.LifetimeEnd) args)) = ⊥
HasNoSlot _ = Unit {0}

-- the distance of a getelementptr is the same, where the source has one; it has none where an index is poison
abbrev pub IsSameDistance : Option ℕ → Option ℕ → Type 0
IsSameDistance None other = Unit {0}
IsSameDistance (Some n) other = other ≡ Some n

abbrev pub HasDistance : Context → Context → Env → Env → Fetched → Type 0
HasDistance c d env other (AtInstr (Instr.Gep name inbounds ty base indices)) =
    IsSameDistance (distance c.code ty (indices_of c.code env indices)) (distance d.code ty (indices_of d.code other indices))
HasDistance c d env other _ = Unit {0}

-- what is loaded or stored has at least one byte
abbrev pub HasBytes : Fetched → Type 0
HasBytes (AtInstr (Instr.Load name ty p align)) = 0 < access_bytes (access_of ty)
HasBytes (AtInstr (Instr.Store arg p align)) = 0 < access_bytes (access_of arg.ty)
HasBytes _ = Unit {0}

-- what an instruction reads stands for what it reads in the source, and it makes, marks and allocates no block
pub record IsCarried (homes : List Home) (moves : ℕ → ℕ) (c d : Context) (env other : Env) (here : Fetched) : Type 0 where
  pub operands : Each (IsOperand homes c d env other) (operands_at here)
  pub callee : IsDeclared moves c d (callee_at here)
  pub distance : HasDistance c d env other here
  pub no_slot : HasNoSlot here
  pub bytes : HasBytes here

-- ---- what comes of it

-- the target does the same with what stands for the source's values, unless the source is undefined
abbrev pub GoesAlike : Rights → Rights → List Home → (ℕ → ℕ) → Action → Action → Type 0
GoesAlike rights target homes moves (Done w) b = (x : Work) × (b ≡ Done x) × AreWorks rights target homes moves w x
GoesAlike rights target homes moves (NewSlot w slot) b = ⊥
GoesAlike rights target homes moves (Enter func args result must_tail) b = (others : List Value) × (b ≡ Enter func others result must_tail) × AreValues homes args others
GoesAlike rights target homes moves (Coro i args result) b = b ≡ Coro i args result
GoesAlike rights target homes moves (Deallocate p) b = (q : Value) × (b ≡ Deallocate q) × IsValue homes p q
GoesAlike rights target homes moves (GoTo label) b = b ≡ GoTo label
GoesAlike rights target homes moves (Return None) b = b ≡ Return None
GoesAlike rights target homes moves (Return (Some v)) b = (w : Value) × (b ≡ Return (Some w)) × IsValue homes v w
GoesAlike rights target homes moves (Stuck cause) b = Unit {0}
