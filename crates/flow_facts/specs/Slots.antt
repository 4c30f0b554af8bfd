-- The ramp slots of a function.
use Rattle.std.specs.Prelude.{ℕ, Bool, true, false, not, List, [], filter, IsTrue, IsFalse, slice_set, None, Some, Option, option_to_list, slice_get, suc, unwrap_or, ◌≡◌, ◌↔◌, ◌&&◌, ◌||◌, ◌∷◌, ◌++◌, if◌then◌else◌}
use Rattle.std.specs.List.{list_any}
use Rattle.ir_model.specs.Names.{position_of}
use Rattle.ir_model.specs.declared.instr.Instr.{Instr}
use Rattle.ir_model.specs.declared.module.Block.{Block}
use Rattle.ir_model.specs.declared.module.Function.{Function}
use Rattle.ir_model.specs.declared.operand.Intrinsic.{Intrinsic}
use Rattle.flow_points.specs.ir_paths.Paths.{has_point}
use Rattle.flow_points.specs.ir_paths.Slots.{IsBehindSuspend, IsRampSlot, allocas_in, allocas_of, behind_suspends, end_points, exposed_in_block, has_name, occurs}
use Rattle.flow_points.specs.ir_paths.Windows.{instr_at, is_call_of, label_of_term}
use Rattle.flow_points.specs.ir_paths.declared.point.Point.{Point}
use Rattle.flow_facts.specs.Chains.{has_lowest}

-- just those of the allocas that are a ramp's alone
pub record AreRampSlots (f : Function) (slots : List ℕ) : Type 0 where
  pub each : (a : ℕ) → IsTrue (has_name slots a) ↔ (IsTrue (has_name (allocas_of f) a) × IsRampSlot f a)

-- just the points behind a suspend
pub record AreBehind (f : Function) (points : List Point) : Type 0 where
  pub each : (p : Point) → IsTrue (has_point points p) ↔ IsBehindSuspend f p

-- for each block, and for the place behind the last, whether a resume or destroy edge leads to it
pub record AreEntered (f : Function) (entered : List Bool) : Type 0 where
  pub each : (block : ℕ) → unwrap_or (slice_get entered block) false ≡ has_point (behind_suspends f) (record { block = block; at = 0 })

-- the first points behind suspends that are none of the end block
pub record AreFirst (f : Function) (points : List Point) : Type 0 where
  pub each : (p : Point) → IsTrue (has_point points p) ↔ (IsTrue (has_point (behind_suspends f) p) × IsFalse (has_point (end_points f) p))

-- ---- the same, block by block

-- the position of the end's block, counted along the blocks
abbrev pub end_from : List Block → ℕ
end_from [] = 0
end_from (b ∷ bs) = if list_any (is_call_of Intrinsic.CoroEnd) b.instrs then 0 else suc (end_from bs)

-- the marks, with those of the blocks of a terminator's labels of 0 and 1 where the block has a suspend
abbrev pub entered_with : Function → Block → List Bool → List Bool
entered_with f b entered =
    if list_any (is_call_of Intrinsic.CoroSuspend) b.instrs
    then slice_set (slice_set entered (position_of f (label_of_term 0 b.term)) true) (position_of f (label_of_term 1 b.term)) true
    else entered

abbrev pub entered_by : Function → List Block → List Bool → List Bool
entered_by f [] entered = entered
entered_by f (b ∷ bs) entered = entered_by f bs (entered_with f b entered)

-- a point, where a test passes and it is none of the end block
abbrev pub outside_if : Function → Bool → Point → List Point
outside_if f b p = if b && not (has_point (end_points f) p) then p ∷ [] else []

-- the first points of blocks, from a position on, that are marked and none of the end block
abbrev pub firsts_from : Function → ℕ → List Bool → List Point
firsts_from f n [] = []
firsts_from f n (b ∷ bs) = outside_if f b (record { block = n; at = 0 }) ++ firsts_from f (suc n) bs

-- ---- names that make a coroutine slot

-- the names of the one list, and those that pass the test
pub record HasMore (more : ℕ → Bool) (old new : List ℕ) : Type 0 where
  pub each : (v : ℕ) → has_name new v ≡ (has_name old v || more v)

abbrev pub touched_by : ℕ → Option Instr → Bool
touched_by v None = false
touched_by v (Some i) = occurs v i && not (is_call_of Intrinsic.CoroId i)

-- an instruction that isn't coro.id has the name as an operand
abbrev pub touched_at : Function → ℕ → Point → Bool
touched_at f v p = touched_by v (instr_at f p)

-- a name whose slot isn't the ramp's alone: it is exposed, or touched behind a suspend
pub data KeepsSlot (f : Function) (v : ℕ) : Type 0 where
  Exposed : IsTrue (list_any (exposed_in_block v) f.blocks) → KeepsSlot f v
  Touched : (p : Point) → IsBehindSuspend f p → IsTrue (touched_at f v p) → KeepsSlot f v

-- just the names that keep a slot from the ramp
pub record AreKeeping (f : Function) (names : List ℕ) : Type 0 where
  pub each : (v : ℕ) → IsTrue (has_name names v) ↔ KeepsSlot f v

-- an alloca that isn't the promise, and whose word hasn't the lowest bit
abbrev pub is_own : Option ℕ → List ℕ → ℕ → Bool
is_own promise words a = not (has_name (option_to_list promise) a) && not (has_lowest words a)

abbrev pub own_in : Option ℕ → List ℕ → List Instr → List ℕ
own_in promise words is = filter (is_own promise words) (allocas_in is)
