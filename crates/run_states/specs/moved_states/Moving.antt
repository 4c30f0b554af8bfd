-- What a pass makes of functions that puts blocks on some of their edges: where the blocks are then, and what it must leave as it is.
use Rattle.std.specs.Prelude.{ℕ, List, [], length, map, filter, Some, option_map, slice_get, ◌≡◌, ◌⊎◌, ◌+◌}
use Rattle.run_states.specs.sound_states.Sound.{IsSuspendAt}
use Rattle.ir_laws.specs.paths.branches.Ways.{AreFetched}
use Rattle.run_framed.specs.Framed.{alloca_from, begin_name}
use Rattle.ir_laws.specs.ir_model.Names.{function_at, no_function, position_of}
use Rattle.ir_laws.specs.ir_model.declared.instr.Terminator.{Terminator}
use Rattle.ir_laws.specs.ir_model.declared.module.Function.{Function}
use Rattle.ir_laws.specs.ir_model.declared.module.Module.{Module}
use Rattle.ir_laws.specs.ir_paths.Paths.{entry_point}
use Rattle.ir_laws.specs.ir_paths.Slots.{allocas_of}
use Rattle.ir_laws.specs.ir_paths.Windows.{label_at, leaves, suspend_of, windows_of}
use Rattle.ir_laws.specs.ir_paths.declared.point.Point.{Point}
use Rattle.ir_laws.specs.run_step.Step.{fetch, has_markers, label_of, phis_of}
use Rattle.ir_laws.specs.run_source_tables.Given.{has_final, is_final}

-- ---- edges

-- the saves of the windows that the edge from p to q leaves
abbrev pub saves_left : Function → Point → Point → List Point
saves_left f p q = map (λ w. w.save) (filter (leaves p q) (windows_of f))

-- a point stays at its place in its block
abbrev pub at_spot : (ℕ → ℕ) → Point → Point
at_spot spot p = record { block = spot p.block; at = p.at }

-- the block of t is entered by l as by t
pub record IsDirect (f g : Function) (spot : ℕ → ℕ) (t l : ℕ) : Type 0 where
  pub to : position_of g l ≡ spot (position_of f t)

-- l is the label of a block that holds a jump to t and nothing else, and leaves no window; the block of t has no phis
pub record IsOver (f g : Function) (spot : ℕ → ℕ) (t l : ℕ) : Type 0 where
  pub label : ℕ
  pub got : slice_get g.blocks (position_of g l) ≡ Some (record { label = label; phis = []; instrs = []; term = Terminator.Jump t })
  pub next : position_of g t ≡ spot (position_of f t)
  pub unphied : phis_of (slice_get f.blocks (position_of f t)) ≡ []
  pub stays : filter (leaves (entry_point g l) (entry_point g t)) (windows_of g) ≡ []

-- the edge from p to t leads to l then, and leaves the windows that it left
pub record Goes (f g : Function) (spot : ℕ → ℕ) (p : Point) (t l : ℕ) : Type 0 where
  pub way : IsDirect f g spot t l ⊎ IsOver f g spot t l
  pub left : saves_left g (at_spot spot p) (entry_point g l) ≡ map (at_spot spot) (saves_left f p (entry_point f t))

-- ---- what is asked of a pass

-- a label behind a suspend is the one that it was, and its block is moved
pub record StaysBehind (f g : Function) (spot : ℕ → ℕ) (p : Point) (n : ℕ) : Type 0 where
  pub same : label_at n (slice_get g.blocks (spot p.block)) ≡ label_at n (slice_get f.blocks p.block)
  pub found : position_of g (label_at n (slice_get f.blocks p.block)) ≡ spot (position_of f (label_at n (slice_get f.blocks p.block)))

-- what becomes of a function: instructions, phis and labels stay where they are in their blocks, and so do the suspends of saves, and terminators lead over blocks that hold a jump alone
pub record IsMovedTo (f g : Function) (spot : ℕ → ℕ) : Type 0 where
  pub entry : spot 0 ≡ 0
  pub spots : (j k : ℕ) → spot j ≡ spot k → j ≡ k
  pub labels : (k : ℕ) → label_of (slice_get g.blocks (spot k)) ≡ label_of (slice_get f.blocks k)
  pub phis : (k : ℕ) → phis_of (slice_get g.blocks (spot k)) ≡ phis_of (slice_get f.blocks k)
  pub markers : (name : ℕ) → has_markers g name ≡ has_markers f name
  pub slots : allocas_of g ≡ allocas_of f
  pub begins : begin_name g ≡ begin_name f
  pub allocas : (at : ℕ) → alloca_from g at ≡ alloca_from f at
  pub suspends : (p : Point) → suspend_of g (at_spot spot p) ≡ option_map (at_spot spot) (suspend_of f p)
  pub final : (p : Point) → is_final g (at_spot spot p) ≡ is_final f p
  pub finals : has_final g ≡ has_final f
  pub behind : (p : Point) (n : ℕ) → IsSuspendAt f p → StaysBehind f g spot p n
  pub places : (p : Point) → AreFetched (Goes f g spot p) (fetch f p.block p.at) (fetch g (spot p.block) p.at)

-- what a function becomes, where a block of it is then, and how many names it gets
pub record Moving : Type 0 where
  pub to : Function → Function
  pub spot : Function → ℕ → ℕ
  pub more : Function → ℕ

abbrev pub moved_point : Moving → Function → Point → Point
moved_point mv f p = at_spot (mv.spot f) p

-- what the pass leaves of any function
pub record KeepsKinds (mv : Moving) : Type 0 where
  pub nothing : mv.to no_function ≡ no_function
  pub name : (f : Function) → (mv.to f).name ≡ f.name
  pub result : (f : Function) → (mv.to f).result ≡ f.result
  pub params : (f : Function) → (mv.to f).params ≡ f.params
  pub coroutine : (f : Function) → (mv.to f).coroutine ≡ f.coroutine
  pub names : (f : Function) → length (mv.to f).names ≡ length f.names + mv.more f

abbrev pub Moves : Moving → Function → Type 0
Moves mv f = IsMovedTo f (mv.to f) (mv.spot f)

-- each function of a module is moved
abbrev pub AllMove : Moving → Module → Type 0
AllMove mv m = (func : ℕ) → Moves mv (function_at m func)
