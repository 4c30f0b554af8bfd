-- Lemmas on regular, that speak of no pass.
use Rattle.std.specs.Prelude.{◌≡◌, ℕ, Bool, false, List, [], length, IsTrue, Some, slice_get, ◌==◌, ◌&&◌, ◌||◌, if◌then◌else◌}
use Rattle.std.specs.List.{list_any}
use Rattle.run_laws.specs.ir_model.Names.{is_local, position_of}
use Rattle.run_laws.specs.ir_model.declared.module.Block.{Block}
use Rattle.run_laws.specs.ir_model.declared.module.Function.{Function}
use Rattle.run_laws.specs.ir_model.declared.operand.Intrinsic.{Intrinsic}
use Rattle.run_laws.specs.ir_model.declared.operand.Operand.{Operand}
use Rattle.run_laws.specs.ir_paths.Paths.{has_point, nexts, targets}
use Rattle.run_laws.specs.ir_paths.Windows.{instr_at, is_call_of}
use Rattle.run_laws.specs.ir_paths.declared.point.Point.{Point}
use Rattle.run_laws.specs.run_step.Step.{AtInstr, AtTerm, Fetched, Nowhere, fetch, incoming_from, label_of, phis_of}
use Rattle.run_laws.specs.changed.Changed.{operands_of, operands_of_term, result_of}
use Rattle.ir_laws.specs.facts.renamed.Regular.{is_result, passes}

-- what stands at the point makes the value
abbrev pub makes : Function → ℕ → Point → Bool
makes f n p = passes (λ i. is_result n (result_of i)) (instr_at f p)

abbrev pub is_call_at : Function → Intrinsic → Point → Bool
is_call_at f i p = passes (is_call_of i) (instr_at f p)

-- the operands that are read at a place; coro.end reads none of its own
abbrev pub operands_read : Fetched → List Operand
operands_read Nowhere = []
operands_read (AtInstr i) = if is_call_of Intrinsic.CoroEnd i then [] else operands_of i
operands_read (AtTerm t) = operands_of_term t

-- ---- paths

-- a path leads from a point to the last one, and no point on it before the last one passes the test
pub data Ahead (f : Function) (stops : Point → Bool) (last : Point) : Point → Type 0 where
  Here : Ahead f stops last last
  Next : (p q : Point) → stops p ≡ false → IsTrue (has_point (nexts f p) q) → Ahead f stops last q → Ahead f stops last p

-- a phi of the block of a label takes the value where a block comes before
abbrev pub IsTaken : Function → ℕ → ℕ → ℕ → Type 0
IsTaken f n block label =
    IsTrue (list_any (λ p. is_local n (incoming_from p.incoming (label_of (slice_get f.blocks block)))) (phis_of (slice_get f.blocks (position_of f label))))

-- the value is read by what stands at the point, or by a phi behind the terminator there
pub data IsUsed (f : Function) (n : ℕ) (p : Point) : Type 0 where
  AsOperand : IsTrue (list_any (is_local n) (operands_read (fetch f p.block p.at))) → IsUsed f n p
  OnEdge : (b : Block) (label : ℕ) → slice_get f.blocks p.block ≡ Some b → p.at ≡ length b.instrs → IsTrue (list_any (λ l. l == label) (targets b.term)) → IsTaken f n p.block label → IsUsed f n p

-- Where an activation's paths end: where the value is made, and, where the activation was resumed, at coro.end, behind which
-- it returns.
abbrev pub stops : Function → Bool → ℕ → Point → Bool
stops f resumed n p = (resumed && is_call_at f Intrinsic.CoroEnd p) || makes f n p

-- no path of an activation, resumed or not, leads from the point to a use of the value unless the value is made before
abbrev pub IsDead : Function → Bool → ℕ → Point → Type 0
IsDead f resumed n p = (last : Point) → Ahead f (stops f resumed n) last p → IsUsed f n last → ⊥

-- no path from the point leads to a coro.frame but behind a begin
abbrev pub HasNoFrame : Function → Point → Type 0
HasNoFrame f p = (last : Point) → Ahead f (is_call_at f Intrinsic.CoroBegin) last p → IsTrue (is_call_at f Intrinsic.CoroFrame last) → ⊥

abbrev pub entry : Point
entry = record { block = 0; at = 0 }
