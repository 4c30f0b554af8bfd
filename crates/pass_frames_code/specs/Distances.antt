-- What the instructions compute that sum a distance.
use Rattle.std.specs.Prelude.{◌≡◌, ℕ, List, [], ◌∷◌, length, pos, Some, None, Option, ◌<◌, ◌^◌}
use Rattle.pass_proofs.specs.ir_model.Layout.{unnamed}
use Rattle.pass_proofs.specs.ir_model.Ty.{Ty, int, structure}
use Rattle.pass_proofs.specs.ir_model.declared.module.Module.{Module}
use Rattle.pass_proofs.specs.ir_model.declared.operand.Arg.{Arg}
use Rattle.pass_proofs.specs.ir_model.declared.operand.Operand.{Operand}
use Rattle.pass_proofs.specs.pass_distances.Sums.{sum_instrs, sum_value}
use Rattle.pass_proofs.specs.pass_distances.Ways.{inner_type}
use Rattle.pass_proofs.specs.pass_distances.declared.way.Way.{Way}
use Rattle.pass_proofs.specs.run_laws.access.Lines.{Runs}
use Rattle.pass_proofs.specs.run_memory.declared.pointer.Value.{Value}
use Rattle.pass_proofs.specs.run_step.Step.{Context, Work, value_at}
use Rattle.pass_proofs.specs.run_step.Values.{Env, arg_value, index_of, number_at, plus, times, value_in}

-- ---- distances as numbers

-- what an index adds, none where it is poison
abbrev pub added : Module → Env → Way → Option ℕ
added m env (Way.Bytes bytes) = Some bytes
added m env (Way.Elements a size) = times size (index_of (number_at a.ty (arg_value m env a)))

-- a distance and what indices add to it
abbrev pub summed : Module → Env → Option ℕ → List Way → Option ℕ
summed m env d [] = d
summed m env d (w ∷ ws) = summed m env (plus d (added m env w)) ws

-- a value is a number of 64 bits; nothing is asked where there is none
abbrev pub IsNumber : Option ℕ → Value → Type 0
IsNumber None v = Unit {0}
IsNumber (Some n) v = (v ≡ Value.Int (record { width = 64; bits = n })) × (n < 2 ^ 64)

-- ---- names

-- a local is one of so many names
abbrev pub IsBelow : ℕ → Operand → Type 0
IsBelow n (Operand.Local v) = v < n
IsBelow n _ = Unit {0}

-- an index uses none of the names from n on, and sizes are numbers of 64 bits
abbrev pub IsWayBelow : ℕ → Way → Type 0
IsWayBelow n (Way.Bytes bytes) = bytes < 2 ^ 64
IsWayBelow n (Way.Elements a size) = IsBelow n a.value × (size < 2 ^ 64)

abbrev pub AreWaysBelow : ℕ → List Way → Type 0
AreWaysBelow n [] = Unit {0}
AreWaysBelow n (w ∷ ws) = IsWayBelow n w × AreWaysBelow n ws

-- names from n on may have been set, and nothing else was
pub record SetsFrom (n : ℕ) (w x : Work) : Type 0 where
  pub world : x.world ≡ w.world
  pub others : (v : ℕ) → v < n → value_in x.values v ≡ value_in w.values v
  pub room : length x.values ≡ length w.values

-- the sum is made, whatever the indices are, and is the distance where there is one
pub record SumsUp (c : Context) (n : ℕ) (x : Operand) (d : Option ℕ) (ws : List Way) (w : Work) : Type 0 where
  pub work : Work
  pub runs : Runs c (sum_instrs n x ws) w work
  pub sets : SetsFrom n w work
  pub sum : IsNumber (summed c.code w.values d ws) (value_at c work (int 64) (sum_value n x ws))

-- ---- indices

-- an index into a structure is the literal of a field
abbrev pub IsField : Ty → Arg → Type 0
IsField (structure ts) a = (k : ℕ) × (a.ty ≡ int 32) × (a.value ≡ Operand.Number (pos k)) × (k < 2 ^ 31)
IsField _ a = Unit {0}

abbrev pub AreFieldsInside : Module → Ty → List Arg → Type 0
AreFieldsInside m t [] = Unit {0}
AreFieldsInside m t (a ∷ args) = IsField (unnamed m t) a × AreFieldsInside m (inner_type (unnamed m t) a) args

-- behind the first index, which counts whole types
abbrev pub AreFields : Module → Ty → List Arg → Type 0
AreFields m t [] = Unit {0}
AreFields m t (a ∷ args) = AreFieldsInside m t args
