-- What the tables of a source machine say.
use Rattle.std.specs.Prelude.{ℕ, Bool, List, [], slice_get, Some, None, Option, unwrap_or, ◌≡◌, ◌==◌}
use Rattle.std.specs.List.{list_any}
use Rattle.ir_model.specs.declared.module.Frame.{Frame}
use Rattle.ir_model.specs.declared.module.Function.{Function}
use Rattle.ir_paths.specs.Slots.{promise_of}
use Rattle.ir_paths.specs.declared.point.Facts.{Facts}
use Rattle.ir_paths.specs.declared.point.Window.{Window}
use Rattle.run_source_tables.specs.Given.{has_final}
use Rattle.run_source_tables.specs.Suspends.{HasSuspends}
use Rattle.run_source_tables.specs.Given.{facts_at, frame_of}
use Rattle.run_source_tables.specs.declared.table.SourceTable.{SourceTable}

-- the marks of names or blocks are set where a test holds
abbrev pub HasMarks : List Bool → (ℕ → Bool) → Type 0
HasMarks table test = (n : ℕ) (mark : Bool) → slice_get table n ≡ Some mark → mark ≡ test n

-- the table of a function with these windows and ramp slots
pub record IsSourceTableOf (f : Function) (ws : List Window) (slots : List ℕ) (table : SourceTable) : Type 0 where
  pub promise : table.promise ≡ promise_of f
  pub has_final : table.has_final ≡ has_final f
  pub ramp_slots : HasMarks table.ramp_slots (λ n. list_any (λ a. n == a) slots)
  pub suspends : HasSuspends f table.suspends
  pub windows : HasMarks table.windows (λ n. list_any (λ w. list_any (λ p. n == p.block) w.inside) ws)

-- the tables of all functions, in their order
pub record HaveSourceTables (functions : List Function) (facts : List Facts) (tables : List SourceTable) : Type 0 where
  pub each : (func : ℕ) (f : Function) (table : SourceTable) → slice_get functions func ≡ Some f → slice_get tables func ≡ Some table → IsSourceTableOf f (facts_at facts func).windows (facts_at facts func).ramp_slots table

-- a frame, or that of no size
abbrev pub frame_or : ℕ → Option Frame → Frame
frame_or func None = record { coroutine = func; size = 0; align = 0 }
frame_or func (Some x) = x

-- the frames of the functions, by their positions
pub record AreFramesOf (frames : List Frame) (table : List (Option Frame)) : Type 0 where
  pub frame : (func : ℕ) (o : Option Frame) → slice_get table func ≡ Some o → frame_or func o ≡ frame_of frames func
