-- A resumed activation of the framed run makes its function's allocas one after another, before it enters a label.
use Rattle.std.specs.Prelude.{◌≡◌, ◌+◌, ◌∷◌, ◌++◌, [], if◌then◌else◌, List, None, filter, length, true, ℕ}
use Rattle.pass_proofs.specs.ir_base.declared.outcome.Outcome.{Outcome}
use Rattle.pass_proofs.specs.ir_model.Layout.{size_of}
use Rattle.pass_proofs.specs.ir_model.declared.instr.Instr.{Instr}
use Rattle.pass_proofs.specs.ir_model.declared.module.Function.{Function}
use Rattle.pass_proofs.specs.ir_model.declared.module.Module.{Module}
use Rattle.pass_frames_code.specs.Layers.{up_to, woven}
use Rattle.pass_frames_code.specs.Places.{Framing, instrs_at, placed_layer}
use Rattle.pass_proofs.specs.pass_front.Front.{is_alloca}
use Rattle.pass_proofs.specs.run_framed.Framed.{FramedGiven, enter_after}
use Rattle.pass_proofs.specs.run_laws.memory.Standing.{blank_block}
use Rattle.pass_proofs.specs.run_memory.declared.block.Life.{Life}
use Rattle.pass_proofs.specs.run_memory.declared.block.MemoryBlock.{MemoryBlock}
use Rattle.pass_proofs.specs.run_source.State.{function_of}
use Rattle.pass_proofs.specs.run_source.declared.state.Mode.{Mode}
use Rattle.pass_proofs.specs.run_source.declared.state.State.{State}
use Rattle.pass_proofs.specs.run_step.Step.{alloca_kind, has_markers, is_alignment}
use Rattle.pass_proofs.specs.run_step.Values.{pointer_to, with_value}

-- the block that an alloca of a function makes, which has ended at first where it has markers
abbrev pub made_block : Module → Function → Instr → List MemoryBlock
made_block m f (Instr.Alloca name ty align) =
    record (blank_block (size_of m ty) align (alloca_kind f)) {
      life = if has_markers f name then Life.Ended else Life.Live;
    } ∷ []
made_block m f i = []

abbrev pub made_blocks : Module → Function → List Instr → List MemoryBlock
made_blocks m f [] = []
made_blocks m f (i ∷ is) = made_block m f i ++ made_blocks m f is

-- the state behind an alloca
abbrev pub behind_alloca : FramedGiven → State → Instr → State
behind_alloca g u (Instr.Alloca name ty align) =
    record u {
      world = record u.world {
        memory = u.world.memory ++ made_block g.given.code (function_of g.given u) (Instr.Alloca name ty align);
      };
      top = record u.top {
        at = u.top.at + 1;
        values = with_value u.top.values name (pointer_to (length u.world.memory));
        slots = record { alloca = name; block = length u.world.memory } ∷ u.top.slots;
      };
    }
behind_alloca g u i = u

abbrev pub behind_allocas : FramedGiven → State → List Instr → State
behind_allocas g u [] = u
behind_allocas g u (i ∷ is) = behind_allocas g (behind_alloca g u i) is

-- an alloca, of an alignment that there is
abbrev pub IsGoodAlloca : Instr → Type 0
IsGoodAlloca (Instr.Alloca name ty align) = is_alignment align ≡ true
IsGoodAlloca i = ⊥

-- the activation on top stands in the entry block, and enters a label when its allocas are made
pub record IsMaking (u : State) (from label : ℕ) : Type 0 where
  pub runs : u.outcome ≡ Outcome.Running
  pub mode : u.top.mode ≡ Mode.Entering from label
  pub entry_block : u.top.block ≡ 0

-- what it is when all are made
abbrev pub entered : FramedGiven → State → (from label : ℕ) → State
entered g u from label = enter_after g u from label None

-- ---- where allocas stand

-- all allocas of the framed form stand in front of its entry: of cells and temporaries, and those that lie in no frame
abbrev pub front_allocas : Framing → List Instr
front_allocas x = filter is_alloca (woven (placed_layer x 0) (instrs_at x 0))

-- those before an alloca of the coroutine
abbrev pub allocas_up_to : Framing → ℕ → List Instr
allocas_up_to x at = filter is_alloca (up_to (placed_layer x 0) (instrs_at x 0) at)

-- those from an alloca of the coroutine on, before another one
pub record AreAllocasBetween (x : Framing) (at next : ℕ) : Type 0 where
  pub line : List Instr
  pub behind : List Instr
  pub is : front_allocas x ≡ allocas_up_to x at ++ (line ++ behind)
  pub next_is : allocas_up_to x next ≡ allocas_up_to x at ++ line
