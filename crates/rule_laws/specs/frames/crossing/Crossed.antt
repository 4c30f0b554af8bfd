-- Functions in which nothing crosses a suspend.
use Rattle.std.specs.Prelude.{◌≡◌, ℕ, true, [], length, slice_get, Some, ◌+◌, ◌∷◌}
use Rattle.flow_blocks.specs.Reach.{IsReached}
use Rattle.ir_laws.specs.flow_solver.Paths.{IsListed}
use Rattle.ir_parts.specs.Contents.{result_of}
use Rattle.ir_laws.specs.ir_model.Names.{position_of}
use Rattle.ir_laws.specs.ir_model.declared.instr.Instr.{Instr}
use Rattle.ir_laws.specs.ir_model.declared.module.Block.{Block}
use Rattle.ir_laws.specs.ir_model.declared.module.Function.{Function}
use Rattle.ir_laws.specs.ir_paths.Windows.{destroy_label, instr_at, resume_label}
use Rattle.ir_laws.specs.ir_paths.declared.point.Point.{Point}
use Rattle.frame_contents.specs.frame_crossing.Crossing.{suspends_of}
use Rattle.frame_contents.specs.frame_crossing.Paths.{IsNeededBehind, phis_at}
use Rattle.frame_contents.specs.frame_crossing.Values.{values_of}
use Rattle.ir_laws.specs.facts.crossing.Crossed.{is_switch}

-- A suspend is the last instruction of its block, which ends in a switch; its resume and destroy edges lead to blocks without phis, and
-- what it makes isn't needed behind them.
pub record IsApart (f : Function) (s : Point) : Type 0 where
  pub last : (b : Block) → slice_get f.blocks s.block ≡ Some b → length b.instrs ≡ s.at + 1
  pub switch : (b : Block) → slice_get f.blocks s.block ≡ Some b → is_switch b.term ≡ true
  pub resume : phis_at f (position_of f (resume_label f s)) ≡ []
  pub destroy : phis_at f (position_of f (destroy_label f s)) ≡ []
  pub unused : (i : Instr) (v : ℕ) → instr_at f s ≡ Some i → result_of i ≡ Some v → IsNeededBehind f v s → ⊥

-- so it is of all suspends
abbrev pub AreSuspendsApart : Function → Type 0
AreSuspendsApart f = (s : Point) → IsListed s (suspends_of f) → IsApart f s

-- No value but tokens and those of allocas, of coro.begin and of coro.frame is needed behind a suspend to which a path leads from the entry.
abbrev pub IsNothingNeeded : Function → Type 0
IsNothingNeeded g = (v : ℕ) (s : Point) → IsListed s (suspends_of g) → IsReached g (0 ∷ []) [] s.block → IsListed v (values_of g) → IsNeededBehind g v s → ⊥
