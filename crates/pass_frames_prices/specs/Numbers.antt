-- The numbers of a coroutine with blocks on edges by which what is woven in is bounded.
use Rattle.std.specs.Prelude.{ℕ, ◌+◌, List, [], ◌∷◌, ◌++◌, length, max, Some, None, Option, if◌then◌else◌, ◌==◌, ◌||◌}
use Rattle.pass_frames_proof.specs.frame_crossing.Values.{is_token_result}
use Rattle.pass_frames_proof.specs.ir_model.declared.instr.Incoming.{Incoming}
use Rattle.pass_frames_proof.specs.ir_model.declared.instr.Instr.{Instr}
use Rattle.pass_frames_proof.specs.ir_model.declared.instr.Phi.{Phi}
use Rattle.pass_frames_proof.specs.ir_model.declared.module.Block.{Block}
use Rattle.pass_frames_proof.specs.ir_model.declared.module.Function.{Function}
use Rattle.pass_frames_proof.specs.ir_model.declared.operand.Intrinsic.{Intrinsic}
use Rattle.pass_frames_proof.specs.ir_paths.Windows.{is_call_of}
use Rattle.pass_frames_proof.specs.pass_cells.declared.plan.KeptValue.{KeptValue}

-- a name that is neither a token nor begin's
abbrev pub name_of_instr : Instr → ℕ
name_of_instr (Instr.Store arg address align) = 0
name_of_instr (Instr.Call None must_tail ty callee args) = 0
name_of_instr (Instr.Call (Some v) must_tail ty callee args) =
    if is_token_result ty || is_call_of Intrinsic.CoroBegin (Instr.Call (Some v) must_tail ty callee args)
    then 0 else 1
name_of_instr _ = 1

abbrev pub names_of_instrs : List Instr → ℕ
names_of_instrs [] = 0
names_of_instrs (i ∷ is) = name_of_instr i + names_of_instrs is

abbrev pub names_of_blocks : List Block → ℕ
names_of_blocks [] = 0
names_of_blocks (b ∷ bs) = length b.phis + names_of_instrs b.instrs + names_of_blocks bs

-- the parameters and named results, tokens and begin's apart
abbrev pub names_of : Function → ℕ
names_of f = length f.params + names_of_blocks f.blocks

-- of the function that has most
abbrev pub most_names : List Function → ℕ
most_names [] = 0
most_names (f ∷ fs) = max (names_of f) (most_names fs)

-- ---- of these the allocas

abbrev pub one_alloca : Instr → ℕ
one_alloca (Instr.Alloca result ty align) = 1
one_alloca _ = 0

abbrev pub allocas_of_instrs : List Instr → ℕ
allocas_of_instrs [] = 0
allocas_of_instrs (i ∷ is) = one_alloca i + allocas_of_instrs is

abbrev pub allocas_of_blocks : List Block → ℕ
allocas_of_blocks [] = 0
allocas_of_blocks (b ∷ bs) = allocas_of_instrs b.instrs + allocas_of_blocks bs

-- ---- and the getelementptrs

abbrev pub gep_names : List Instr → List ℕ
gep_names [] = []
gep_names (Instr.Gep result inbounds ty base indices ∷ is) = result ∷ gep_names is
gep_names (i ∷ is) = gep_names is

abbrev pub gep_names_of : List Block → List ℕ
gep_names_of [] = []
gep_names_of (b ∷ bs) = gep_names b.instrs ++ gep_names_of bs

-- ---- the kept values of which distances are kept

abbrev pub one_distance : Option ℕ → ℕ
one_distance None = 0
one_distance (Some slot) = 1

abbrev pub distances_of : List KeptValue → ℕ
distances_of [] = 0
distances_of (k ∷ ks) = one_distance k.slot + distances_of ks

-- ---- phis, and how many of their operands come from a label

abbrev pub phis_of_blocks : List Block → ℕ
phis_of_blocks [] = 0
phis_of_blocks (b ∷ bs) = length b.phis + phis_of_blocks bs

abbrev pub from_label : ℕ → List Incoming → ℕ
from_label label [] = 0
from_label label (i ∷ is) = (if i.from == label then 1 else 0) + from_label label is

abbrev pub phis_from : ℕ → List Phi → ℕ
phis_from label [] = 0
phis_from label (p ∷ ps) = from_label label p.incoming + phis_from label ps

abbrev pub blocks_from : ℕ → List Block → ℕ
blocks_from label [] = 0
blocks_from label (b ∷ bs) = phis_from label b.phis + blocks_from label bs
