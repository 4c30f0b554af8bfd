-- The instance that a resume or a destroy goes on with, and the part that it calls.
use Rattle.std.specs.Prelude.{◌≡◌, ℕ, ◌≤◌, ◌<◌, List, true, Some, length, slice_get}
use Rattle.pass_proofs.specs.ir_model.Names.{function_at, position_of}
use Rattle.pass_proofs.specs.ir_paths.declared.point.Point.{Point}
use Rattle.pass_proofs.specs.pass_intrinsics.Cuts.{goes_on}
use Rattle.pass_proofs.specs.pass_intrinsics.declared.shape.Part.{Part}
use Rattle.pass_split_proof.specs.code.Entry.{HasEntry}
use Rattle.pass_split_proof.specs.places.Places.{IsCodeOf}
use Rattle.pass_proofs.specs.split.rules.Parted.{IsPartOf}
use Rattle.pass_split_proof.specs.states.Instances.{IsLaidOut, IsSavedAt, is_held, part_position, shape_at}
use Rattle.pass_proofs.specs.pass_split.Parts.{is_entered}
use Rattle.pass_proofs.specs.pass_split.Pieces.{going_on}
use Rattle.pass_proofs.specs.pass_split.Reached.{reached}
use Rattle.pass_split_proof.specs.steps.Returns.{IsReturnBlock}
use Rattle.pass_proofs.specs.rule_laws.frames.replaced.Parted.{IsSmall}
use Rattle.pass_proofs.specs.run_framed.Framed.{FramedGiven, begin_name}
use Rattle.pass_proofs.specs.ir_model.declared.module.Module.{Module}
use Rattle.pass_proofs.specs.run_memory.declared.block.MemoryBlock.{MemoryBlock}
use Rattle.pass_proofs.specs.run_memory.declared.pointer.Value.{Value}
use Rattle.pass_proofs.specs.run_source.State.{frame_address_of}
use Rattle.pass_proofs.specs.run_source.declared.state.Instance.{Instance}
use Rattle.pass_proofs.specs.run_source.declared.state.State.{State}
use Rattle.pass_proofs.specs.run_source.declared.state.Status.{Status}
use Rattle.pass_proofs.specs.run_step.Values.{Env}

-- the value is the address of the frame of a Suspended instance
pub record IsWoken (s : State) (p : Value) : Type 0 where
  pub number : ℕ
  pub instance : Instance
  pub suspend : Point
  pub values : Env
  pub there : slice_get s.instances number ≡ Some instance
  pub address : p ≡ frame_address_of instance
  pub status : instance.status ≡ Status.Suspended suspend values

-- a part that goes on stands in the module of parts, and has the frame's address as its parameter
pub record IsPartThere (g : FramedGiven) (h : Module) (func : ℕ) (part : Part) : Type 0 where
  pub coroutine : (function_at g.given.code func).coroutine ≡ true
  pub goes : goes_on part ≡ true
  pub small : IsSmall (shape_at g func)
  pub is : IsPartOf (shape_at g func) (function_at g.given.code func) part (function_at h (part_position g func part))
  pub coded : IsCodeOf (function_at g.given.code func) (function_at h (part_position g func part)) (shape_at g func) part
  pub entry : HasEntry (shape_at g func) part (function_at g.given.code func)
      (function_at h (part_position g func part))
  pub named : begin_name (function_at g.given.code func) ≡ Some (shape_at g func).begin
  pub begin : (shape_at g func).begin < (shape_at g func).base
  pub names : length (function_at g.given.code func).names ≤ length (function_at h (part_position g func part)).names

-- The part goes on with the instance at a label, in a block of its own behind the suspend, where the index leads. The
-- frame is there.
pub record IsWaking (g : FramedGiven) (h : Module) (s : State) (n : List MemoryBlock) (p : Value) (w : IsWoken s p)
    (part : Part) (label : ℕ) : Type 0 where
  pub part_there : IsPartThere g h w.instance.coroutine part
  pub held : is_held s.world.memory w.instance ≡ true
  pub laid : IsLaidOut g w.instance.coroutine
  pub saved : IsSavedAt g n w.instance w.suspend
  pub behind : w.suspend.block
      ≡ position_of (function_at g.given.code w.instance.coroutine) saved.numbered.suspend.block
  pub entered : is_entered (reached (function_at g.given.code w.instance.coroutine)) part saved.numbered.suspend ≡ true
  pub leads : going_on part (Some saved.numbered.suspend) ≡ Some label
  pub own : IsReturnBlock (function_at g.given.code w.instance.coroutine) label
