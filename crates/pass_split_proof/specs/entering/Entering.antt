-- An activation that goes on behind a suspend, at one of the allocas that it makes again first.
use Rattle.std.specs.Prelude.{◌≡◌, ℕ, ◌<◌, length}
use Rattle.pass_proofs.specs.ir_model.Names.{function_at}
use Rattle.pass_proofs.specs.pass_front.Front.{allocas_of}
use Rattle.pass_split_proof.specs.code.Entry.{HasFrontAllocas}
use Rattle.pass_split_proof.specs.making.Blocks.{IsAlloca}
use Rattle.pass_split_proof.specs.places.Places.{StartsWithEnd}
use Rattle.pass_split_proof.specs.states.Instances.{IsLaidOut, shape_at}
use Rattle.pass_split_proof.specs.states.Related.{AreRelated}
use Rattle.pass_split_proof.specs.steps.Woken.{IsPartThere}
use Rattle.pass_split_proof.specs.steps.Returns.{IsReturnBlock}
use Rattle.pass_proofs.specs.run_framed.Framed.{FramedGiven}
use Rattle.run_access_worked.specs.run_plain.Plain.{PlainGiven}
use Rattle.run_access_worked.specs.run_plain.declared.state.PlainState.{PlainState}
use Rattle.pass_proofs.specs.run_source.State.{function_of}
use Rattle.pass_proofs.specs.run_source.declared.state.Mode.{Mode}
use Rattle.pass_proofs.specs.run_source.declared.state.State.{State}

-- The framed run is at the alloca of that place in the entry block, and the part at the same one. The allocas stand in
-- front in both.
pub record IsMakingAgain (g : FramedGiven) (h : PlainGiven) (s : State) (t : PlainState) (r : AreRelated g h s t)
    (from label : ℕ) : Type 0 where
  pub alloca : IsAlloca g h s t r
  pub mode : s.top.mode ≡ Mode.Entering from label
  pub block : s.top.block ≡ 0
  pub piece : t.top.block ≡ 0
  pub at : t.top.at ≡ s.top.at
  pub front : HasFrontAllocas (function_of g.given s) (function_at h.code t.top.func)
      (length (allocas_of (function_of g.given s).blocks))
  pub among : s.top.at < length (allocas_of (function_of g.given s).blocks)

-- The part stands in the module of parts, and the frame is laid out. The label at which the activation goes on is that of
-- a block of its own, and the end stands first in its block.
pub record GoesBehind (g : FramedGiven) (h : PlainGiven) (s : State) (t : PlainState) (r : AreRelated g h s t)
    (label : ℕ) : Type 0 where
  pub part_there : IsPartThere g h.code s.top.func r.top.part
  pub laid : IsLaidOut g s.top.func
  pub own : IsReturnBlock (function_of g.given s) label
  pub ends : StartsWithEnd (function_of g.given s) (shape_at g s.top.func).end
