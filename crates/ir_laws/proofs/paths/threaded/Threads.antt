-- Functions of which the second has a block of its own on some of the edges of the first, which holds a jump alone; phis stay.
use Rattle.std.proofs.Common.{◌≡◌, ◌⊎◌, ℕ, [], Some}
use Rattle.std.specs.Prelude.{slice_get}
use Rattle.run_laws.specs.flow_solver.Paths.{IsListed}
use Rattle.run_laws.specs.ir_model.Names.{position_of}
use Rattle.run_laws.specs.ir_model.declared.instr.Terminator.{Terminator}
use Rattle.run_laws.specs.ir_model.declared.module.Block.{Block}
use Rattle.run_laws.specs.ir_model.declared.module.Function.{Function}
use Rattle.run_laws.specs.ir_paths.Paths.{targets}

-- the block with another terminator
abbrev pub ended : Block → Terminator → Block
ended b t = record { label = b.label; phis = b.phis; instrs = b.instrs; term = t }

-- the block on an edge
abbrev pub between : ℕ → ℕ → Block
between label target = record { label = label; phis = []; instrs = []; term = Terminator.Jump target }

-- where the block at a position is then, and how it ends
pub record Moves : Type 0 where
  pub spot : ℕ → ℕ
  pub term : ℕ → Block → Terminator

-- the edge from the block at a position to a target leads over the block of a label, which no other block enters
pub record IsOver (f g : Function) (s : Moves) (k target label : ℕ) : Type 0 where
  pub got : slice_get g.blocks (position_of g label) ≡ Some (between label target)
  pub next : position_of g target ≡ s.spot (position_of f target)
  pub apart : (j : ℕ) → s.spot j ≡ position_of g label → ⊥
  pub one : (j : ℕ) (c : Block) → slice_get f.blocks j ≡ Some c → IsListed label (targets (s.term j c)) → j ≡ k
  pub unphied : (b : Block) → slice_get f.blocks (position_of f target) ≡ Some b → b.phis ≡ []

-- the edge leads to the label, which is its target or that of the block on it
abbrev pub IsWay : Function → Function → Moves → ℕ → ℕ → ℕ → Type 0
IsWay f g s k target label = (label ≡ target) ⊎ IsOver f g s k target label

-- a block of the function, at the place to which it is moved
pub record IsMovedBlock (f : Function) (s : Moves) (at : ℕ) (c : Block) : Type 0 where
  pub index : ℕ
  pub block : Block
  pub got : slice_get f.blocks index ≡ Some block
  pub stands : at ≡ s.spot index
  pub is : c ≡ ended block (s.term index block)

-- the block on an edge
pub record IsBlockOver (f g : Function) (s : Moves) (at : ℕ) (c : Block) : Type 0 where
  pub index : ℕ
  pub block : Block
  pub got : slice_get f.blocks index ≡ Some block
  pub target : ℕ
  pub label : ℕ
  pub listed : IsListed target (targets block.term)
  pub named : IsListed label (targets (s.term index block))
  pub over : IsOver f g s index target label
  pub stands : at ≡ position_of g label
  pub is : c ≡ between label target

-- an edge to a target leads to a label then
pub record LeadsForth (f g : Function) (s : Moves) (k : ℕ) (b : Block) (target : ℕ) : Type 0 where
  pub label : ℕ
  pub named : IsListed label (targets (s.term k b))
  pub way : IsWay f g s k target label

-- an edge to a label led to a target
pub record LeadsBack (f g : Function) (s : Moves) (k : ℕ) (b : Block) (label : ℕ) : Type 0 where
  pub target : ℕ
  pub listed : IsListed target (targets b.term)
  pub way : IsWay f g s k target label
