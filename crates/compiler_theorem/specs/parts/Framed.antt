-- What is asked of a framed form, with blocks on edges that leave windows, besides the rules that splitting asks.
use Rattle.std.specs.Prelude.{◌≡◌, ◌<◌, ◌^◌, ℕ, Bool, true, false, [], ◌∷◌, pos, List, None, Some, find, is_some, slice_get}
use Rattle.compiler.specs.flow_solver.Paths.{IsListed}
use Rattle.compiler.specs.frame_contents.Frames.{AreContents as AreContentsOf}
use Rattle.compiler.specs.frame_contents.Held.{fields_of}
use Rattle.compiler.specs.frame_contents.declared.contents.Contents.{Contents}
use Rattle.compiler.specs.frame_layout.declared.layout.Field.{Field}
use Rattle.compiler.specs.frame_layout.declared.layout.Layouts.{Layouts}
use Rattle.compiler.specs.frame_layout.declared.layout.PlacedField.{PlacedField}
use Rattle.compiler.specs.ir_model.Names.{position_of}
use Rattle.compiler.specs.ir_model.Layout.{unnamed}
use Rattle.compiler.specs.ir_model.Ty.{Ty, structure}
use Rattle.compiler.specs.ir_model.declared.instr.Instr.{Instr}
use Rattle.compiler.specs.ir_model.declared.module.Block.{Block}
use Rattle.compiler.specs.ir_model.declared.module.Function.{Function}
use Rattle.compiler.specs.ir_model.declared.module.Module.{Module}
use Rattle.compiler.specs.ir_model.declared.operand.Arg.{Arg}
use Rattle.compiler.specs.ir_model.declared.operand.Intrinsic.{Intrinsic}
use Rattle.compiler.specs.ir_model.declared.operand.Operand.{Operand}
use Rattle.compiler.specs.ir_paths.Paths.{Leads}
use Rattle.compiler.specs.ir_paths.Windows.{call_result, is_call_of, suspend_of}
use Rattle.compiler.specs.ir_paths.declared.point.Point.{Point}
use Rattle.compiler.specs.pass_intrinsics.Shapes.{is_end, shape_of, suspends_of}
use Rattle.compiler.specs.pass_intrinsics.declared.shape.SuspendPoint.{SuspendPoint}
use Rattle.compiler.specs.pass_kept_proof.SuspendRules.{IsCallAt}
use Rattle.pass_split_proof.specs.ready.Fields.{type_inside}
use Rattle.pass_split_proof.specs.states.Instances.{IsLaidOut}
use Rattle.pass_split_proof.specs.states.Related.{weight}
use Rattle.compiler.specs.rule_laws.rules.counted.Widths.{first_other_width}
use Rattle.compiler.specs.rule_shape.Suspends.{is_suspend}
use Rattle.compiler.specs.run_framed.Framed.{framed_given, is_open_kind, is_promise_kind, layout_of}
use Rattle.compiler.specs.run_step.Step.{AtInstr, fetch}

-- the block of a label begins with what is one step of a part, and isn't the end
pub record IsLightBlock (f : Function) (label : ℕ) : Type 0 where
  pub light : weight (fetch f (position_of f label) 0) ≡ 1
  pub no_end : (i : Instr) → fetch f (position_of f label) 0 ≡ AtInstr i → is_end i ≡ true → ⊥

-- of a coroutine
pub record IsFramedFact (ls : Layouts) (m : Module) (k : ℕ) (f : Function) : Type 0 where
  -- in front of a block on a resume or destroy edge stand loads, stores and additions
  pub returns : (p : SuspendPoint) → IsListed p (suspends_of f)
      → IsLightBlock f p.resume × IsLightBlock f p.destroy
  -- no suspend stands in the block of the end
  pub apart : (at : ℕ) (i : Instr)
      → fetch f (position_of f (shape_of f (layout_of ls.coroutines k)).end) at ≡ AtInstr i → is_suspend i ≡ true → ⊥
  -- a path leads from each save to its suspend
  pub leads : (p s : Point) → IsCallAt Intrinsic.CoroSave f p → suspend_of f p ≡ Some s → Leads f [] p s

-- Each suspend has a save, and each save a name.
pub record HasSaves (f : Function) : Type 0 where
  pub saved : (p : SuspendPoint) → IsListed p (suspends_of f) → is_some p.save ≡ true
  pub named : (block at : ℕ) (i : Instr) → fetch f block at ≡ AtInstr i → is_call_of Intrinsic.CoroSave i ≡ true
      → is_some (call_result i) ≡ true

abbrev pub HaveTokens : Module → Type 0
HaveTokens m = (k : ℕ) (f : Function) → slice_get m.functions k ≡ Some f → f.coroutine ≡ true → HasSaves f

-- The fields of its frame are laid out, the promise first.
pub record IsLaidFact (ls : Layouts) (m : Module) (k : ℕ) : Type 0 where
  pub laid : IsLaidOut (framed_given m ls.coroutines []) k
  pub promise : (x : PlacedField) → find (λ y. is_promise_kind y.kind) (layout_of ls.coroutines k).fields ≡ Some x
      → x.offset ≡ 16

-- so it is of good layouts, where what may be touched takes bytes
abbrev pub AreLaidFacts : Layouts → Module → Type 0
AreLaidFacts ls m = (k : ℕ) (f : Function) → slice_get m.functions k ≡ Some f → f.coroutine ≡ true → IsLaidFact ls m k

-- A function that is no coroutine has a first block.
abbrev pub HaveFirstBlocks : Module → Type 0
HaveFirstBlocks m = (k : ℕ) (f : Function) → slice_get m.functions k ≡ Some f → f.coroutine ≡ false
    → (b : Block) × (slice_get f.blocks 0 ≡ Some b)

-- Integer types of functions that are no coroutines have the widths of the grammar.
abbrev pub HavePlainWidths : Module → Type 0
HavePlainWidths m = (k : ℕ) (f : Function) → slice_get m.functions k ≡ Some f → f.coroutine ≡ false
    → first_other_width k f ≡ None

-- A literal index into a structure is below 2^31.
abbrev pub IsSmallIndex : Ty → Arg → Type 0
IsSmallIndex (structure ts) a = (n : ℕ) → a.value ≡ Operand.Number (pos n) → n < 2 ^ 31
IsSmallIndex t a = Unit {0}

abbrev pub AreSmallIndices : Module → Ty → List Arg → Type 0
AreSmallIndices m t [] = Unit {0}
AreSmallIndices m t (a ∷ args) = IsSmallIndex (unnamed m t) a × AreSmallIndices m (type_inside (unnamed m t) a) args

-- all but the first, which counts whole types
abbrev pub AreSmallInnerIndices : Module → Ty → List Arg → Type 0
AreSmallInnerIndices m t [] = Unit {0}
AreSmallInnerIndices m t (a ∷ args) = AreSmallIndices m t args

-- of the module
pub record AreFramedFacts (ls : Layouts) (m : Module) : Type 0 where
  pub coroutines : (k : ℕ) (f : Function) → slice_get m.functions k ≡ Some f → f.coroutine ≡ true
      → IsFramedFact ls m k f
  -- framed forms can be written
  pub widths : (k : ℕ) (f : Function) → slice_get m.functions k ≡ Some f → f.coroutine ≡ true
      → first_other_width k f ≡ None
  -- a text has fewer bytes
  pub fields : (k : ℕ) (f : Function) → slice_get m.functions k ≡ Some f
      → (block at name : ℕ) (inbounds : Bool) (ty : Ty)
      (base : Operand) (indices : List Arg)
      → fetch f block at ≡ AtInstr (Instr.Gep name inbounds ty base indices) → AreSmallInnerIndices m ty indices

-- what may be touched of the frames of coroutines takes a byte at least
abbrev pub TakeBytes : Module → Type 0
TakeBytes m = (k : ℕ) (f : Function) → slice_get m.functions k ≡ Some f → f.coroutine ≡ true → (c : Contents)
    → AreContentsOf m f c → (i : ℕ) (x : Field) → slice_get (fields_of f c.held) i ≡ Some x
    → is_open_kind x.kind ≡ true → 0 < x.size
