-- Rule K8: markers in windows and after the end.
use Rattle.std.specs.Prelude.{ℕ, Bool, false, List, IsTrue, Option, ◌&&◌, ◌||◌}
use Rattle.ir_base.specs.declared.outcome.Place.{Place}
use Rattle.ir_parts.specs.Parts.{Part, OfInstr, parts_of}
use Rattle.ir_model.specs.declared.instr.Instr.{Instr}
use Rattle.ir_model.specs.declared.module.Function.{Function}
use Rattle.ir_model.specs.declared.operand.Intrinsic.{Intrinsic}
use Rattle.ir_paths.specs.Windows.{call_operand, is_call_of}
use Rattle.flow_points.specs.Rows.{is_marked}
use Rattle.rule_slots.specs.Closed.{IsClosed}
use Rattle.rule_slots.specs.Names.{names_one}
use Rattle.rule_slots.specs.Slots.{NamesSlot}
use Rattle.rule_windows.specs.First.{IsFirst}
use Rattle.rule_windows.specs.Points.{point_of}

abbrev pub is_marker : Instr → Bool
is_marker i = is_call_of Intrinsic.LifetimeStart i || is_call_of Intrinsic.LifetimeEnd i

-- a marker whose pointer is a coroutine slot stands in a window or after the end
abbrev pub StandsMarked : Function → Place → Part → Type 0
StandsMarked f p (OfInstr i) = IsTrue (is_marker i) × NamesSlot f (call_operand i 1) × IsClosed f (point_of f p)
StandsMarked f p _ = ⊥

abbrev pub BreaksMarked : Function → Place × Part → Type 0
BreaksMarked f x = IsTrue f.coroutine × StandsMarked f x.0 x.1

-- K8: a marker on a coroutine slot in a window or after the end
abbrev pub IsFirstMarked : ℕ → Function → Option Place → Type 0
IsFirstMarked func f o = IsFirst (BreaksMarked f) (λ x. x.0) (parts_of func f) o

-- ---- the same, by sets

abbrev pub stands_marked : Function → List Bool → List (List Bool) → Place → Part → Bool
stands_marked f slots closed p (OfInstr i) = is_marker i && (names_one slots (call_operand i 1) && is_marked closed (point_of f p))
stands_marked f slots closed p _ = false
