-- How a block is entered by a label, and by the label that stands there when edges have blocks.
use Rattle.std.specs.Prelude.{ℕ, IsTrue, slice_get, Some, ◌≡◌, ◌⊎◌}
use Rattle.pass_early_proof.specs.ir_laws.facts.threads.Moved.{ArePaired}
use Rattle.pass_early_proof.specs.ir_laws.paths.threads.Threads.{IsBetween}
use Rattle.pass_edges.specs.EdgeBlocks.{edge_block}
use Rattle.pass_edges.specs.declared.edge.Edge.{Edge}
use Rattle.ir_model.specs.Names.{position_of}
use Rattle.ir_model.specs.declared.instr.Phi.{Phi}
use Rattle.ir_model.specs.declared.module.Function.{Function}
use Rattle.pass_early_proof.specs.ir_paths.Paths.{entry_point, has_point, nexts}
use Rattle.pass_early_proof.specs.ir_paths.declared.point.Point.{Point}
use Rattle.pass_early_proof.specs.run_step.Step.{incoming_from, label_of, phis_of}

-- two phis take the same, each from its label
pub record TakesSame (l k : ℕ) (p q : Phi) : Type 0 where
  pub result : q.result ≡ p.result
  pub ty : q.ty ≡ p.ty
  pub operand : incoming_from q.incoming k ≡ incoming_from p.incoming l

-- the phis at two positions take the same, each from its label
abbrev pub PhisTake : Function → Function → ℕ → ℕ → ℕ → ℕ → Type 0
PhisTake f g a b l k = ArePaired (TakesSame l k) (phis_of (slice_get f.blocks a)) (phis_of (slice_get g.blocks b))

abbrev pub at_front : ℕ → Point
at_front block = record { block = block; at = 0 }

-- the block of t is entered by l as by t, from a block
pub record EntersDirect (f g : Function) (move : Point → Point) (from t l : ℕ) : Type 0 where
  pub to : entry_point g l ≡ move (entry_point f t)
  pub phis : PhisTake f g (position_of f t) (position_of g l) (label_of (slice_get f.blocks from)) (label_of (slice_get g.blocks (move (at_front from)).block))

-- l is the label of an edge's block, which jumps to t
pub record EntersOver (f g : Function) (move : Point → Point) (from t l : ℕ) : Type 0 where
  pub edge : Edge
  pub got : slice_get g.blocks (position_of g l) ≡ Some (edge_block edge)
  pub target : edge.target ≡ t
  pub between : IsBetween g move (move (entry_point f t)) (entry_point g l)
  pub to : entry_point g t ≡ move (entry_point f t)
  pub phis : PhisTake f g (position_of f t) (position_of g t) (label_of (slice_get f.blocks from)) edge.label

abbrev pub Enters : (f g : Function) (move : Point → Point) (from t l : ℕ) → Type 0
Enters f g move from t l = EntersDirect f g move from t l ⊎ EntersOver f g move from t l

-- a label of the terminator at a point, and the one that stands there then
abbrev pub Goes : (f g : Function) (move : Point → Point) → Point → ℕ → ℕ → Type 0
Goes f g move p t l = Enters f g move p.block t l × IsTrue (has_point (nexts g (move p)) (entry_point g l))
