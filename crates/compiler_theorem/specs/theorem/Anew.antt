-- What a resume hands on of a source with blocks on edges, and which slots its activation makes anew.
use Rattle.std.specs.Prelude.{◌≡◌, ◌⊎◌, ◌↔◌, ℕ, Bool, true, List, Some, IsTrue}
use Rattle.compiler.specs.pass_edges.EdgeBlocks.{with_edge_blocks}
use Rattle.compiler.specs.run_framed.Framed.{begin_name}
use Rattle.compiler.specs.ir_model.Names.{function_at}
use Rattle.compiler.specs.ir_model.Ty.{Ty}
use Rattle.compiler.specs.ir_model.declared.instr.Instr.{Instr}
use Rattle.compiler.specs.ir_model.declared.module.Function.{Function}
use Rattle.compiler.specs.ir_model.declared.module.Module.{Module}
use Rattle.compiler.specs.ir_model.declared.operand.Arg.{Arg}
use Rattle.compiler.specs.ir_model.declared.operand.Operand.{Operand}
use Rattle.compiler.specs.ir_paths.Paths.{has_point}
use Rattle.compiler.specs.ir_paths.Slots.{addresses_of, allocas_of, has_name}
use Rattle.compiler.specs.ir_paths.declared.point.Point.{Point}
use Rattle.compiler.specs.pass_kept_proof.Kept.{Keep}
use Rattle.pass_frames_meaning.specs.pass_renewed_proof.Renewed.{Flags, Roots}
use Rattle.pass_frames_meaning.specs.pass_renewed_proof.SlotRules.{AreSteady}
use Rattle.compiler.specs.run_step.Step.{AtInstr, fetch}
use Rattle.compiler.specs.frame_classes.Classes.{IsOf, suspends}
use Rattle.compiler.specs.frame_classes.declared.class.SlotClass.{SlotClass}
use Rattle.compiler.specs.frame_crossing.Crossing.{Crosses}

pub record Anew : Type 0 where
  pub keep : Keep
  pub flags : Flags
  pub roots : Roots

-- an alloca of a coroutine, of a class
pub record IsSlotOf (f : Function) (class : SlotClass) (a : ℕ) : Type 0 where
  pub coroutine : f.coroutine ≡ true
  pub is_alloca : IsTrue (has_name (allocas_of f) a)
  pub is_of : IsOf f a class

abbrev pub IsMemorySlot : Function → ℕ → Type 0
IsMemorySlot f v = IsSlotOf f SlotClass.Local v ⊎ IsSlotOf f SlotClass.Frame v

-- of a coroutine of the module, g being the same with blocks on edges
pub record IsAnewIn (f g : Function) (keep : Point → ℕ → Type 0) (flags : ℕ → Type 0)
    (roots : ℕ → ℕ → Type 0) : Type 0 where
  -- the local slots are made anew
  pub flags_are : (a : ℕ) → flags a ↔ IsSlotOf f SlotClass.Local a
  -- the addresses in them are moved
  pub roots_are : (v a : ℕ) → roots v a ↔ (flags a × IsTrue (has_name (addresses_of g a) v))
  -- behind a suspend what crosses it is handed on, begin's value, and addresses of local and frame slots, no more
  pub keep_is : (s : Point) (v : ℕ) → IsTrue (has_point (suspends g) s)
      → keep s v ↔ (Crosses g v s ⊎ ((begin_name g ≡ Some v) ⊎ IsMemorySlot f v))

-- Y1: indices into structures are literals, as a getelementptr takes them
abbrev pub HaveSteadyIndices : Module → Function → Type 0
HaveSteadyIndices m f =
    (name block at : ℕ) (inbounds : Bool) (ty : Ty) (base : Operand) (indices : List Arg)
    → fetch f block at ≡ AtInstr (Instr.Gep name inbounds ty base indices) → AreSteady m ty indices

-- of each function of the module
abbrev pub IsAnewOf : Module → Anew → Type 0
IsAnewOf m a =
    (func : ℕ) → IsAnewIn (function_at m func) (with_edge_blocks (function_at m func))
    (λ s v. IsTrue (a.keep func s v)) (λ v. IsTrue (a.flags func v)) (λ v r. a.roots func v ≡ Some r)
