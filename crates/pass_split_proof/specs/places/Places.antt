-- Where the code of a function stands in what splitting makes of it: a part of a coroutine, or the function turned.
use Rattle.std.specs.Prelude.{◌≡◌, ℕ, true, false, List, [], map, length, slice_get, Some, None, ◌+◌, ◌∷◌, ◌++◌, ◌≤◌}
use Rattle.pass_proofs.specs.frame_layout.declared.layout.Layout.{Layout}
use Rattle.pass_proofs.specs.flow_solver.Paths.{IsListed}
use Rattle.pass_proofs.specs.rule_laws.rules.function_rules.Kept.{KeepsFunctionRulesAt}
use Rattle.pass_proofs.specs.ir_model.Names.{is_local, position_of}
use Rattle.pass_proofs.specs.ir_model.Ty.{Ty}
use Rattle.pass_proofs.specs.ir_model.declared.instr.Case.{Case}
use Rattle.pass_proofs.specs.ir_model.declared.instr.Instr.{Instr}
use Rattle.pass_proofs.specs.ir_model.declared.instr.Phi.{Phi}
use Rattle.pass_proofs.specs.ir_model.declared.instr.Terminator.{Terminator}
use Rattle.pass_proofs.specs.ir_model.declared.module.Block.{Block}
use Rattle.pass_proofs.specs.ir_model.declared.module.Function.{Function}
use Rattle.pass_proofs.specs.ir_model.declared.module.Module.{Module}
use Rattle.pass_proofs.specs.ir_model.declared.operand.Arg.{Arg}
use Rattle.pass_proofs.specs.ir_model.declared.operand.Operand.{Operand}
use Rattle.pass_proofs.specs.ir_paths.Paths.{targets}
use Rattle.pass_proofs.specs.ir_paths.Windows.{call_result}
use Rattle.pass_proofs.specs.pass_intrinsics.Cuts.{cut_at, token_in}
use Rattle.pass_proofs.specs.pass_intrinsics.Lowered.{lowered, names_taken, number_of_save}
use Rattle.pass_proofs.specs.pass_intrinsics.Shapes.{done_label, is_end, pass_label, shape_of}
use Rattle.pass_proofs.specs.pass_intrinsics.declared.cuts.Cut.{Cut}
use Rattle.pass_proofs.specs.pass_intrinsics.declared.shape.Part.{Part}
use Rattle.pass_proofs.specs.pass_intrinsics.declared.shape.Shape.{Shape}
use Rattle.pass_proofs.specs.split.rules.Parted.{IsPartOf}
use Rattle.pass_proofs.specs.split.rules.Pieced.{ArePieces}
use Rattle.pass_proofs.specs.split.rules.Reached.{IsLedTo}
use Rattle.pass_proofs.specs.split.rules.Splittable.{IsSplittable}
use Rattle.pass_proofs.specs.pass_split.Parts.{plain_of, plain_shape}
use Rattle.pass_proofs.specs.pass_split.Pieces.{begins_again, origin_in, redirected, stop_label}
use Rattle.pass_proofs.specs.pass_split.declared.origin.Origin.{Origin}
use Rattle.pass_proofs.specs.rule_names.declared.stage.Stage.{Stage}
use Rattle.pass_proofs.specs.rule_shape.Suspends.{is_suspend}
use Rattle.pass_proofs.specs.rule_shape.Switches.{are_both}
use Rattle.pass_proofs.specs.run_laws.access.Lines.{StandAt}
use Rattle.pass_proofs.specs.run_step.Step.{AtInstr, AtTerm, fetch, incoming_from, label_of, phis_of}

-- g is one of the functions that splitting makes of a function f that breaks no rule, by a shape and as a part.
-- Allocas of another function may be frames that it gives (2^24 bytes).
pub data IsCodeOf (f g : Function) : Shape → Part → Type 0 where
  OfCoroutine : (m : Module) (k : ℕ) (layout : Layout) (begin : ℕ) (part : Part) → IsSplittable m k f begin
      → IsPartOf (shape_of f layout) f part g → IsCodeOf f g (shape_of f layout) part
  OfPlain : (m : Module) (k : ℕ) → f.coroutine ≡ false → KeepsFunctionRulesAt Stage.Plain m k f
      → g ≡ plain_of (plain_shape f) f → IsCodeOf f g (plain_shape f) Part.Ramp

-- what phis take where their block is entered from a label: the name that is set, its type and the operand
abbrev pub entering : ℕ → List Phi → List (ℕ × (Ty × Operand))
entering label ps = map (λ p. (p.result, (p.ty, incoming_from p.incoming label))) ps

-- under the label of a block g has one with its instructions and its end, whose phis take the same from each block of g
pub record HasLike (g : Function) (c : Block) : Type 0 where
  pub block : Block
  pub there : slice_get g.blocks (position_of g c.label) ≡ Some block
  pub label : block.label ≡ c.label
  pub instrs : block.instrs ≡ c.instrs
  pub term : block.term ≡ c.term
  pub phis : (from : Block) → IsListed from g.blocks → entering from.label block.phis ≡ entering from.label c.phis

-- an edge of g leads to a label
abbrev pub IsNamed : Function → ℕ → Type 0
IsNamed g label = (b : Block) × (IsListed b g.blocks × IsListed label (targets b.term))

-- The place of f at a position in a block is one of g. From there on f's block is cut into pieces: the first of them is
-- what is left of g's block, and the others stand in g where an edge leads to them. New names are none of f's.
pub record IsPlace (s : Shape) (part : Part) (f g : Function) (block at piece offset : ℕ) : Type 0 where
  pub source : Block
  pub there : slice_get f.blocks block ≡ Some source
  pub led : IsLedTo f source.label
  pub behind : List Instr
  pub ahead : List Instr
  pub instrs : source.instrs ≡ behind ++ ahead
  pub long : length behind ≡ at
  pub target : Block
  pub stands : slice_get g.blocks piece ≡ Some target
  pub before : List Instr
  pub first : Block
  pub rest : List Block
  pub phis : List Phi
  pub new : ℕ
  pub last : ℕ
  pub are : ArePieces s part source.term target.label phis new ahead (first ∷ rest) last
  pub holds : target.instrs ≡ before ++ first.instrs
  pub far : length before ≡ offset
  pub term : target.term ≡ first.term
  pub origin : origin_in s part (Origin.Piece source.label) source.instrs ≡ origin_in s part
      (Origin.Piece target.label) ahead
  pub others : (c : Block) → IsListed c rest → IsNamed g c.label → HasLike g c
  pub low : length f.names ≤ new
  pub high : last ≤ length g.names

-- ---- edges

-- an edge from a block of f to a label is one of g, from the block at a position, and phis take the same
pub record Enters (s : Shape) (part : Part) (f g : Function) (block from label : ℕ) : Type 0 where
  pub place : IsPlace s part f g (position_of f label) 0 (position_of g label) 0
  pub phis : entering (label_of (slice_get g.blocks from)) (phis_of (slice_get g.blocks (position_of g label))) ≡
      entering (label_of (slice_get f.blocks block)) (phis_of (slice_get f.blocks (position_of f label)))

-- the block at a position has no phis and only jumps to a label
pub record JumpsOn (g : Function) (at label : ℕ) : Type 0 where
  pub bare : phis_of (slice_get g.blocks at) ≡ []
  pub jumps : fetch g at 0 ≡ AtTerm (Terminator.Jump label)

-- so does an edge that is redirected: straight, or through the mark of the end
pub data Leads (s : Shape) (part : Part) (f g : Function) (block from label : ℕ) : Type 0 where
  Straight : redirected s label ≡ label → Enters s part f g block from label → Leads s part f g block from label
  ThroughDone : label ≡ s.end → redirected s label ≡ done_label s → JumpsOn g (position_of g (done_label s)) label
      → Enters s part f g block (position_of g (done_label s)) label → Leads s part f g block from label

-- ---- instructions

-- so many names from one on are of g's table, and none of f's
pub record AreNew (f g : Function) (new count : ℕ) : Type 0 where
  pub low : length f.names ≤ new
  pub high : new + count ≤ length g.names

-- these instructions stand in f, the first of them at a place, and then the end of their block
pub record Remain (f : Function) (block at : ℕ) (is : List Instr) (t : Terminator) : Type 0 where
  pub stand : StandAt f block at is
  pub ends : fetch f block (at + length is) ≡ AtTerm t

-- what stands in g for an instruction of f with others behind it in its block, and where the place behind it is
pub data IsCode (s : Shape) (part : Part) (f g : Function) (block at piece offset : ℕ) (i : Instr) (after : List Instr)
    (t : Terminator) : Type 0 where
  Stays : (n : ℕ) → begins_again part i ≡ false → cut_at s part i after ≡ Cut.Stays → AreNew f g n (names_taken i)
      → StandAt g piece offset (lowered s part n i)
      → IsPlace s part f g block (at + 1) piece (offset + length (lowered s part n i))
      → IsCode s part f g block at piece offset i after t
  Marks : (n mark : ℕ) → begins_again part i ≡ false → cut_at s part i after ≡ Cut.Marks mark
      → AreNew f g n (names_taken i) → Remain g piece offset (lowered s part n i) (Terminator.Jump mark)
      → phis_of (slice_get g.blocks (position_of g mark)) ≡ []
      → IsPlace s part f g block (at + 1) (position_of g mark) 0 → IsCode s part f g block at piece offset i after t
  Suspends : begins_again part i ≡ false → cut_at s part i after ≡ Cut.Suspends
      → fetch g piece offset ≡ AtTerm (Terminator.Jump (stop_label t))
      → IsCode s part f g block at piece offset i after t
  Returns : begins_again part i ≡ false → cut_at s part i after ≡ Cut.Returns
      → fetch g piece offset ≡ AtTerm (Terminator.Ret None) → IsCode s part f g block at piece offset i after t
  Transfers : (n j : ℕ) → begins_again part i ≡ false → cut_at s part i after ≡ Cut.Transfers j
      → AreNew f g n (names_taken i) → fetch g piece offset ≡ AtTerm (Terminator.Jump (pass_label s j))
      → phis_of (slice_get g.blocks (position_of g (pass_label s j))) ≡ []
      → Remain g (position_of g (pass_label s j)) 0 (lowered s part n i) (Terminator.Ret None)
      → IsCode s part f g block at piece offset i after t
  BeginsAgain : begins_again part i ≡ true → fetch g piece offset ≡ AtTerm Terminator.Unreachable
      → IsCode s part f g block at piece offset i after t

-- the same, with what stands behind the instruction
pub record HasCode (s : Shape) (part : Part) (f g : Function) (block at piece offset : ℕ) (i : Instr) : Type 0 where
  pub after : List Instr
  pub end : Terminator
  pub remain : Remain f block at (i ∷ after) end
  pub code : IsCode s part f g block at piece offset i after end

-- the instruction stands last in its block, whose switch on its result has cases 0 and 1 and else goes to the end
pub record IsStop (f : Function) (block at : ℕ) (i : Instr) (end : ℕ) : Type 0 where
  pub result : ℕ
  pub named : call_result i ≡ Some result
  pub arg : Arg
  pub on : is_local result arg.value ≡ true
  pub cases : List Case
  pub both : are_both cases ≡ true
  pub switch : fetch f block (at + 1) ≡ AtTerm (Terminator.Switch arg end cases)

-- the end stands first in its block, which has no phis
pub record StartsWithEnd (f : Function) (end : ℕ) : Type 0 where
  pub first : Instr
  pub here : fetch f (position_of f end) 0 ≡ AtInstr first
  pub ends : is_end first ≡ true
  pub bare : phis_of (slice_get f.blocks (position_of f end)) ≡ []

-- a suspend stands at a place, and takes the token of the number
pub record IsSuspendOf (s : Shape) (f : Function) (block at j : ℕ) : Type 0 where
  pub suspend : Instr
  pub here : fetch f block at ≡ AtInstr suspend
  pub suspends : is_suspend suspend ≡ true
  pub number : number_of_save s (token_in suspend) ≡ Some j
