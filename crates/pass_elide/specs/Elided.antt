-- Calls that give their callees a frame; n is the next new name.
use Rattle.std.specs.Prelude.{ℕ, List, [], codes, length, Some, None, Option, unwrap_or, ◌+◌, ◌∷◌, ◌++◌}
use Rattle.std.specs.Prelude.{if◌then◌else◌}
use Rattle.frame_layout.specs.declared.layout.Layout.{Layout}
use Rattle.frame_layout.specs.declared.layout.Layouts.{Layouts}
use Rattle.ir_base.specs.declared.outcome.Place.{Place}
use Rattle.ir_model.specs.Calls.{first_result}
use Rattle.ir_model.specs.Names.{noalloc_of}
use Rattle.ir_model.specs.Ty.{array, int, ptr}
use Rattle.ir_model.specs.declared.instr.Instr.{Instr}
use Rattle.ir_model.specs.declared.module.Block.{Block}
use Rattle.ir_model.specs.declared.module.Function.{Function}
use Rattle.ir_model.specs.declared.module.Module.{Module}
use Rattle.ir_model.specs.declared.operand.Callee.{Callee}
use Rattle.ir_model.specs.declared.operand.Intrinsic.{Intrinsic}
use Rattle.ir_model.specs.declared.operand.Operand.{Operand}
use Rattle.pass_elide.specs.Frames.{callee_fields, field_frame, layout_of, site_frame}
use Rattle.pass_elide.specs.declared.given.GivenFrame.{GivenFrame}
use Rattle.pass_fetch.specs.Blocks.{numbered_names}
use Rattle.pass_fetch.specs.Fetching.{address_behind}

-- ---- one call

-- the ramp that is given its frame is called, with the address of the frame as one more last argument
abbrev pub given_call : ℕ → Instr → Instr
given_call n (Instr.Call result must_tail ty (Callee.Named g) args) =
    Instr.Call result must_tail ty (Callee.Named (noalloc_of g))
    (args ++ record { ty = ptr; value = Operand.Local n } ∷ [])
given_call n i = i

-- the address of a field is made right before the call; that of an alloca is there
abbrev pub frame_address : ℕ → GivenFrame → List Instr
frame_address n (GivenFrame.Alloca size align) = []
frame_address n (GivenFrame.Field base distance) = address_behind n base distance ∷ []

abbrev pub elided_by : ℕ → Option GivenFrame → Instr → List Instr
elided_by n None i = i ∷ []
elided_by n (Some r) i = frame_address n r ++ given_call n i ∷ []

abbrev pub frames_by : Option GivenFrame → List GivenFrame
frames_by None = []
frames_by (Some r) = r ∷ []

-- ---- instructions from a place of their block on; frame tells what each place gives

abbrev pub instr_frames : (ℕ → Instr → Option GivenFrame) → ℕ → List Instr → List GivenFrame
instr_frames frame at [] = []
instr_frames frame at (i ∷ is) = frames_by (frame at i) ++ instr_frames frame (at + 1) is

abbrev pub elided_instrs : (ℕ → Instr → Option GivenFrame) → ℕ → ℕ → List Instr → List Instr
elided_instrs frame at n [] = []
elided_instrs frame at n (i ∷ is) =
    elided_by n (frame at i) i ++ elided_instrs frame (at + 1) (length (frames_by (frame at i)) + n) is

-- ---- blocks from a position on

abbrev pub block_frames : (ℕ → ℕ → Instr → Option GivenFrame) → ℕ → Block → List GivenFrame
block_frames frame block b = instr_frames (frame block) (length b.phis) b.instrs

abbrev pub blocks_frames : (ℕ → ℕ → Instr → Option GivenFrame) → ℕ → List Block → List GivenFrame
blocks_frames frame block [] = []
blocks_frames frame block (b ∷ bs) = block_frames frame block b ++ blocks_frames frame (block + 1) bs

abbrev pub elided_block : (ℕ → ℕ → Instr → Option GivenFrame) → ℕ → ℕ → Block → Block
elided_block frame block n b =
    record {
      label = b.label;
      phis = b.phis;
      instrs = elided_instrs (frame block) (length b.phis) n b.instrs;
      term = b.term;
    }

abbrev pub elided_blocks : (ℕ → ℕ → Instr → Option GivenFrame) → ℕ → ℕ → List Block → List Block
elided_blocks frame block n [] = []
elided_blocks frame block n (b ∷ bs) =
    elided_block frame block n b ∷ elided_blocks frame (block + 1) (length (block_frames frame block b) + n) bs

-- ---- the allocas in front of the entry block

abbrev pub frame_alloca : ℕ → GivenFrame → List Instr
frame_alloca n (GivenFrame.Alloca size align) = Instr.Alloca n (array size (int 8)) align ∷ []
frame_alloca n (GivenFrame.Field base distance) = []

abbrev pub frame_allocas : ℕ → List GivenFrame → List Instr
frame_allocas n [] = []
frame_allocas n (r ∷ rs) = frame_alloca n r ++ frame_allocas (n + 1) rs

abbrev pub behind : List Instr → Block → Block
behind front b = record { label = b.label; phis = b.phis; instrs = front ++ b.instrs; term = b.term }

abbrev pub with_front : List Instr → List Block → List Block
with_front front [] = []
with_front front (b ∷ bs) = behind front b ∷ bs

-- ---- functions: the k-th given frame has the k-th new name

abbrev pub elided_all : (ℕ → ℕ → Instr → Option GivenFrame) → ℕ → List Block → List Block
elided_all frame n bs = with_front (frame_allocas n (blocks_frames frame 0 bs)) (elided_blocks frame 0 n bs)

abbrev pub function_frames : (ℕ → ℕ → Instr → Option GivenFrame) → Function → List GivenFrame
function_frames frame f = blocks_frames frame 0 f.blocks

abbrev pub elided_function : (ℕ → ℕ → Instr → Option GivenFrame) → Function → Function
elided_function frame f =
    record {
      name = f.name;
      result = f.result;
      params = f.params;
      coroutine = f.coroutine;
      blocks = elided_all frame (length f.names) f.blocks;
      names = f.names ++ numbered_names (codes "$c.callee.") (length (function_frames frame f));
    }

-- ---- the module

-- those that a coroutine gives, whose layout has fields for them
abbrev pub coroutine_frame : Option Layout → Function → ℕ → ℕ → Instr → Option GivenFrame
coroutine_frame l f block at =
    field_frame (unwrap_or (first_result Intrinsic.CoroBegin f) 0) (callee_fields l) f.names

abbrev pub frame_in : Module → List Layout → List Place → ℕ → Function → ℕ → ℕ → Instr → Option GivenFrame
frame_in m ls sites func f = if f.coroutine then coroutine_frame (layout_of ls func) f else site_frame m ls sites func

-- the functions from a position on
abbrev pub elided_functions : Module → List Layout → List Place → ℕ → List Function → List Function
elided_functions m ls sites func [] = []
elided_functions m ls sites func (f ∷ fs) =
    elided_function (frame_in m ls sites func f) f ∷ elided_functions m ls sites (func + 1) fs

-- by the layouts of its coroutines and the sites in its other functions
abbrev pub elided_module : Layouts → List Place → Module → Module
elided_module layouts sites m =
    record {
      types = m.types;
      globals = m.globals;
      declarations = m.declarations;
      functions = elided_functions m layouts.coroutines sites 0 m.functions;
    }
