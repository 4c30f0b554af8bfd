-- The line of an ordinary instruction is executed, and stands at its place.
use Rattle.std.proofs.Common.{◌≡◌, List, ◌∙◌}
use Rattle.pass_proofs.specs.ir_model.declared.instr.Instr.{Instr}
use Rattle.pass_frames_code.proofs.code.Instrs.{instr_code}
use Rattle.pass_frames_code.proofs.code.Left.{parts_left}
use Rattle.pass_frames_code.proofs.led.Steps.{led_step}
use Rattle.pass_frames_code.proofs.stepping.Codes.{code_stands}
use Rattle.pass_frames_code.proofs.stepping.Line.{line_is, line_no_alloca}
use Rattle.pass_frames_code.proofs.stepping.May.{is, may}
use Rattle.pass_frames_code.specs.Code.{load_name}
use Rattle.pass_frames_code.specs.Framings.{IsFraming}
use Rattle.pass_frames_code.specs.Layers.{becomes}
use Rattle.pass_frames_code.specs.Led.{LeavesMemory, StepsLed}
use Rattle.pass_frames_code.specs.Places.{Framing, Placed, placed_layer}
use Rattle.pass_frames_code.specs.Related.{AreBuiltOf, Building}
use Rattle.pass_frames_code.specs.Stepping.{AreGiven, IsAtOrdinary, StandsInPlace, placed_front, placed_instr, placed_line, state_in}
use Rattle.pass_renewed_proof.specs.Renewed.{RenewedGiven}
use Rattle.pass_proofs.specs.run_framed.Framed.{framed_context, frame_rights}
use Rattle.pass_proofs.proofs.run_laws.memory.Itself.{owner_rights_fit}
use Rattle.run_access_worked.proofs.run_laws_worked.Frames.{frame_rights_fit}
use Rattle.pass_proofs.specs.run_memory.Memory.{Rights}
use Rattle.pass_proofs.specs.run_source.Source.{context_of}
use Rattle.pass_proofs.specs.run_source.State.{work_of}
use Rattle.pass_proofs.specs.run_source.declared.state.State.{State}
use Rattle.pass_proofs.specs.run_step.Step.{Context, Work}

module _ (b : Building) (g : RenewedGiven) (given : AreGiven b g) (s t : State) (r : AreBuiltOf b s t) (i : Instr)
    (v : Work) (h : IsAtOrdinary b g s i v) where
  abbrev x : Framing
  x = b.framing s.top.func

  abbrev n : Placed
  n = state_in x s.top.block s.top.at

  abbrev R : Rights
  R = frame_rights b.given t.instances

  abbrev c : Context
  c = context_of g.given s

  abbrev d : Context
  d = framed_context b.given t

  framing_there : IsFraming x
  framing_there = is b g given s t r i v h

  abbrev line : List Instr
  line = placed_line x n i

  abbrev front : List Instr
  front = placed_front x n i

  pub led_there : LeavesMemory c i → StepsLed x r.homes r.hides c d (work_of s) (work_of t) v t.top i front line
  led_there leaves =
      led_step x framing_there r.homes r.hides c d owner_rights_fit (frame_rights_fit b.given t.instances) (work_of s)
      (work_of t) v t.top (load_name n) i (placed_instr x n i) front leaves h.does (may b g given s t r i v h)

  -- ---- the code

  code_is : becomes (placed_layer x s.top.block) n i ≡ line
  code_is =
      instr_code x s.top.block n i (parts_left x framing_there s.top.block s.top.at i h.there)
      ∙ line_is x s.top.block n i h.common h.unlocated (λ u e. (h.unmeasured u e).no_distance)

  pub stands_there : StandsInPlace x s.top.block s.top.at line
  stands_there =
      code_stands x s.top.block s.top.at i line h.there code_is
      (line_no_alloca x s.top.block n i h.common h.unlocated (λ u e. (h.unmeasured u e).no_distance))
      h.unreturned
