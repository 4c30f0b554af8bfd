-- What isn't derived yet of states of both runs, so that they are known.
use Rattle.std.specs.Prelude.{◌≡◌, ℕ, Bool, true, List, Option}
use Rattle.pass_elide_known.specs.Keeping.{is_marker}
use Rattle.pass_elide_known.specs.States.{StandsAtElided, StandsAtOne}
use Rattle.pass_elide_edges.specs.pass_elide_proof.Beginning.{BeginsInFrameSize}
use Rattle.pass_elide_edges.specs.pass_elide_proof.Elision.{Elision, function_in}
use Rattle.pass_elide_edges.specs.pass_elide_proof.Marking.{HoldsNoFrame, second_operand}
use Rattle.pass_elide_edges.specs.pass_elide_proof.Match.{is_given_mode}
use Rattle.pass_elide_edges.specs.pass_elide_proof.Placing.{HasShape}
use Rattle.pass_elide_edges.specs.pass_elide_proof.Shapes.{AsksForFrame}
use Rattle.pass_elide_edges.specs.pass_proofs.ir_model.Ty.{Ty}
use Rattle.pass_elide_edges.specs.pass_proofs.ir_model.declared.instr.Instr.{Instr}
use Rattle.pass_elide_edges.specs.pass_proofs.ir_model.declared.operand.Arg.{Arg}
use Rattle.pass_elide_edges.specs.pass_proofs.ir_model.declared.operand.Callee.{Callee}
use Rattle.pass_elide_edges.specs.pass_proofs.ir_model.declared.operand.Intrinsic.{Intrinsic}
use Rattle.pass_elide_edges.specs.pass_proofs.run_source.declared.state.Mode.{Mode}
use Rattle.pass_elide_edges.specs.pass_proofs.run_source.declared.state.State.{State}

-- ---- the framed run

pub record LacksFramed (e : Elision) (s : State) : Type 0 where
  -- A ramp whose function's calls may give its frame begins in a block of the frame's size. The framed form doesn't
  -- show it: the size may cross a suspend in a field. The source's run does.
  pub exact : (result : Option ℕ) (must_tail : Bool) (ty : Option Ty) (args : List Arg)
      → StandsAtOne e s (Instr.Call result must_tail ty (Callee.Intrinsic Intrinsic.CoroBegin) args)
      → s.top.mode ≡ Mode.Ramp → HasShape e s.top.func → BeginsInFrameSize e s args

-- ---- the run that gives frames

pub record LacksGiving (e : Elision) (t : State) : Type 0 where
  -- Only a ramp that was given its frame is in the block beside the allocation. What is missing is an invariant on the
  -- block that asks: it alone leads there, by the name of what coro.alloc gave.
  pub aside : (k : AsksForFrame (function_in e t.top.func) (e.shape t.top.func)) → t.top.block ≡ k.beside
      → is_given_mode t.top.mode ≡ true
  -- A marker marks no frame. What is missing is that a frame's block is none of those of original allocas.
  pub marks : (j : Intrinsic) (result : Option ℕ) (must_tail : Bool) (ty : Option Ty) (args : List Arg)
      → is_marker (Instr.Call result must_tail ty (Callee.Intrinsic j) args) ≡ true
      → StandsAtElided e t (Instr.Call result must_tail ty (Callee.Intrinsic j) args)
      → HoldsNoFrame t.instances (second_operand e t args 1)
