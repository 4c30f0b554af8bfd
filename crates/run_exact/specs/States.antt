-- States in which sizes of frames and blocks of that size have the names that tell of them, and instances have begun in
-- blocks of exactly that size.
use Rattle.std.specs.Prelude.{◌≡◌, ◌⊎◌, ◌<◌, ◌^◌, ℕ, List, [], ◌∷◌, Some, Ok, Err, Option, Result, slice_get}
use Rattle.pass_frames_meaning.specs.Sized.{sizes_of}
use Rattle.pass_frames_meaning.specs.pass_frames_proof.ir_base.declared.cause.Cause.{Cause}
use Rattle.pass_frames_meaning.specs.pass_frames_proof.ir_base.declared.outcome.Word.{Word}
use Rattle.pass_frames_meaning.specs.pass_frames_proof.ir_model.Names.{function_at}
use Rattle.pass_frames_meaning.specs.pass_frames_proof.ir_model.declared.module.Function.{Function}
use Rattle.pass_frames_meaning.specs.pass_frames_proof.run_memory.declared.pointer.Offset.{Offset}
use Rattle.pass_frames_meaning.specs.pass_frames_proof.run_memory.declared.pointer.Pointer.{Pointer}
use Rattle.pass_frames_meaning.specs.pass_frames_proof.run_memory.declared.pointer.Value.{Value}
use Rattle.pass_frames_meaning.specs.pass_frames_proof.run_source.declared.state.Activation.{Activation}
use Rattle.pass_frames_meaning.specs.pass_frames_proof.run_source.declared.state.Instance.{Instance}
use Rattle.pass_frames_meaning.specs.pass_frames_proof.run_source.declared.state.State.{State}
use Rattle.pass_frames_meaning.specs.pass_frames_proof.run_source.declared.state.Status.{Status}
use Rattle.pass_frames_meaning.specs.pass_frames_proof.run_source_tables.Given.{Given, frame_of}
use Rattle.pass_frames_meaning.specs.pass_frames_proof.run_step.Values.{Env, value_in}
use Rattle.run_exact.specs.Names.{BeginsInSizedBlocks, IsBlockName, IsMemoryName, IsSizeName}

-- ---- values

-- a word is that of the size
abbrev pub IsSize : ℕ → Value → Type 0
IsSize size v = (word : Word) → v ≡ Value.Int word → word.bits ≡ size

-- a block has exactly so many bytes, by the sizes and alignments of all blocks
pub record IsSized (rows : List (ℕ × ℕ)) (size block : ℕ) : Type 0 where
  pub align : ℕ
  pub there : slice_get rows block ≡ Some (size, align)

-- an address leads to such a block
abbrev pub LeadsToSized : List (ℕ × ℕ) → ℕ → Value → Type 0
LeadsToSized rows size v =
    (block : ℕ) (offset : Offset) → v ≡ Value.Ptr (Pointer.At block offset) → IsSized rows size block

-- the value of a name is as the name tells
pub record IsAsTold (f : Function) (size : ℕ) (rows : List (ℕ × ℕ)) (v : ℕ) (x : Value) : Type 0 where
  pub sizes : IsSizeName f v → IsSize size x
  pub blocks : IsBlockName f v → LeadsToSized rows size x
  pub memory : IsMemoryName f v → LeadsToSized rows size x

abbrev pub AreAsTold : Function → ℕ → List (ℕ × ℕ) → Env → Type 0
AreAsTold f size rows env = (v : ℕ) → IsAsTold f size rows v (value_in env v)

-- ---- activations

abbrev pub function_in : Given → ℕ → Function
function_in g func = function_at g.code func

abbrev pub size_in : Given → ℕ → ℕ
size_in g func = (frame_of g.sizes func).size

-- a name that tells
abbrev pub IsTelling : Function → ℕ → Type 0
IsTelling f v = IsSizeName f v ⊎ (IsBlockName f v ⊎ IsMemoryName f v)

-- what is given back goes to no such name
abbrev pub GoesToNone : Function → Option ℕ → Type 0
GoesToNone f result = (v : ℕ) → result ≡ Some v → IsTelling f v → ⊥

abbrev pub HasSized : Given → List (ℕ × ℕ) → (func : ℕ) → Env → Type 0
HasSized g rows func env = AreAsTold (function_in g func) (size_in g func) rows env

abbrev pub HaveSizedBelow : Given → List (ℕ × ℕ) → Option ℕ → List Activation → Type 0
HaveSizedBelow g rows result [] = Unit {0}
HaveSizedBelow g rows result (a ∷ below) =
    GoesToNone (function_in g a.func) result × HasSized g rows a.func a.values × HaveSizedBelow g rows a.result below

-- ---- instances

abbrev pub HasKeptSized : Given → List (ℕ × ℕ) → (func : ℕ) → Status → Type 0
HasKeptSized g rows func (Status.Suspended suspend values) = HasSized g rows func values
HasKeptSized g rows func status = Unit {0}

pub record IsSizedInstance (g : Given) (rows : List (ℕ × ℕ)) (x : Instance) : Type 0 where
  pub kept : HasKeptSized g rows x.coroutine x.status
  -- it has begun in a block of exactly the printed size
  pub block : BeginsInSizedBlocks (function_in g x.coroutine) → IsSized rows (size_in g x.coroutine) x.block

-- ---- states

pub record IsSizedIn (g : Given) (rows : List (ℕ × ℕ)) (s : State) : Type 0 where
  pub top : HasSized g rows s.top.func s.top.values
  pub below : HaveSizedBelow g rows s.top.result s.below
  pub instances : (i : ℕ) (x : Instance) → slice_get s.instances i ≡ Some x → IsSizedInstance g rows x

abbrev pub IsSizedState : Given → State → Type 0
IsSizedState g s = IsSizedIn g (sizes_of s.world.memory) s

-- what a part of a step gives, if it gives a state
abbrev pub StaysSized : Given → List (ℕ × ℕ) → Result State Cause → Type 0
StaysSized g rows (Err cause) = Unit {0}
StaysSized g rows (Ok s) = IsSizedIn g rows s

-- frames are small
abbrev pub AreSmall : Given → Type 0
AreSmall g = (func : ℕ) → size_in g func < 2 ^ 32
