-- Steps of a coroutine that are kinds of their own are followed.
use Rattle.std.proofs.Common.{◌≡◌, ℕ, Bool, true, List, Option, Some}
use Rattle.pass_frames_proof.specs.ir_base.declared.outcome.Outcome.{Outcome}
use Rattle.pass_frames_proof.specs.ir_model.Ty.{Ty}
use Rattle.pass_frames_proof.specs.ir_model.declared.instr.Instr.{Instr}
use Rattle.pass_frames_proof.specs.ir_model.declared.operand.Arg.{Arg}
use Rattle.pass_frames_proof.specs.ir_model.declared.operand.Callee.{Callee}
use Rattle.pass_frames_proof.specs.ir_model.declared.operand.Intrinsic.{Intrinsic}
use Rattle.pass_frames_proof.specs.ir_model.declared.operand.Operand.{Operand}
use Rattle.pass_frames_proof.specs.pass_cells.Kept.{entry}
use Rattle.pass_frames_meaning.proofs.kinds.Allocas.{alloca_at}
use Rattle.pass_frames_meaning.proofs.kinds.Begins.{begin_at_place}
use Rattle.pass_frames_meaning.proofs.kinds.Distanced.{measured_followed}
use Rattle.pass_frames_meaning.proofs.kinds.Ids.{id_followed}
use Rattle.pass_frames_meaning.proofs.kinds.Saves.{save_at}
use Rattle.pass_frames_meaning.specs.Coroutines.{IsOwnKind, MayFollow}
use Rattle.pass_frames_meaning.specs.Kinds.{KeepsKinds, MayKinds}
use Rattle.pass_frames_meaning.specs.Setting.{AreOfRuns, KeepsAll, Setting}
use Rattle.pass_frames_proof.specs.Followed.{IsFollowed}
use Rattle.pass_frames_proof.specs.Places.{Framing, plan}
use Rattle.pass_frames_proof.specs.Related.{AreBuiltOf, is_coroutine}
use Rattle.pass_frames_proof.specs.Stepping.{IsNotEntering}
use Rattle.pass_frames_proof.specs.pass_renewed_proof.Renewed.{renewed_step}
use Rattle.pass_frames_proof.specs.run_agreement.Machines.{IsFine}
use Rattle.pass_frames_proof.specs.run_source.State.{function_of}
use Rattle.pass_frames_proof.specs.run_source.declared.state.State.{State}
use Rattle.pass_frames_proof.specs.run_step.Step.{AtInstr, fetch}

-- ---- the steps

module _ (c : Setting) (all : KeepsAll c) (kinds : KeepsKinds c) (s t : State) (r : AreBuiltOf c.b s t)
    (k : AreOfRuns c s t r) (runs : s.outcome ≡ Outcome.Running) (fine : IsFine (renewed_step c.g s).outcome)
    (coroutine : is_coroutine c.b s.top.func ≡ true) (mode : IsNotEntering s.top.mode) (o : MayFollow c s)
    (m : MayKinds c s t) where
  abbrev x : Framing
  x = c.b.framing s.top.func

  abbrev Follows : Type 0
  Follows = IsFollowed c.b c.g s t

  pub intrinsic_kinds : (i : Intrinsic) → IsOwnKind i → (result : Option ℕ)
      (must_tail : Bool) (ty : Option Ty) (args : List Arg)
      → fetch (function_of c.g.given s) s.top.block s.top.at
      ≡ AtInstr (Instr.Call result must_tail ty (Callee.Intrinsic i) args) → Follows
  intrinsic_kinds Intrinsic.CoroId is result must_tail ty args there =
      id_followed c all kinds s t r k runs coroutine mode result must_tail ty args there
  intrinsic_kinds Intrinsic.CoroSave is result must_tail ty args there =
      save_at c all kinds s t r k runs fine coroutine mode o (m.saves result must_tail ty args there) result must_tail ty
      args there
  intrinsic_kinds Intrinsic.CoroBegin is result must_tail ty args there =
      begin_at_place c all kinds s t r k runs fine coroutine mode o (m.begins result must_tail ty args there) result
      must_tail ty args there
  intrinsic_kinds _ is result must_tail ty args there = absurd is

  pub alloca_kinds : (name : ℕ) (ty : Ty) (align : ℕ)
      → fetch (function_of c.g.given s) s.top.block s.top.at ≡ AtInstr (Instr.Alloca name ty align) → Follows
  alloca_kinds name ty align there =
      alloca_at c all kinds s t r k runs fine coroutine mode o name ty align (m.makes name ty align there) there

  pub measured_kinds : (name : ℕ) (inbounds : Bool) (ty : Ty) (base : Operand) (indices : List Arg) (cell : ℕ)
      → fetch (function_of c.g.given s) s.top.block s.top.at ≡ AtInstr (Instr.Gep name inbounds ty base indices)
      → entry (plan x).cells name ≡ Some cell → Follows
  measured_kinds name inbounds ty base indices cell there told =
      measured_followed c all kinds s t r k runs fine coroutine mode o m.made name inbounds ty base indices cell there told
