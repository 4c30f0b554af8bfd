-- An ordinary instruction of a coroutine stands as the law on such instructions asks.
use Rattle.std.proofs.Common.{◌≡◌, true}
use Rattle.pass_frames_proof.specs.ir_base.declared.outcome.Outcome.{Outcome}
use Rattle.pass_frames_proof.specs.ir_model.declared.instr.Instr.{Instr}
use Rattle.pass_frames_proof.specs.ir_model.declared.operand.Callee.{Callee}
use Rattle.pass_frames_meaning.proofs.ordinary.Standing.{fetch_ready, line_ready}
use Rattle.pass_frames_meaning.specs.Ordinary.{MayBeOrdinary}
use Rattle.pass_frames_meaning.specs.Plain.{IsNoAlloca}
use Rattle.pass_frames_meaning.specs.Setting.{KeepsAll, Setting}
use Rattle.pass_frames_meaning.specs.Standing.{IsStaying}
use Rattle.pass_frames_proof.proofs.led.Far.{far_there}
use Rattle.pass_frames_proof.specs.Here.{IsOnLine}
use Rattle.pass_frames_proof.specs.Operands.{IsAtFetch}
use Rattle.pass_frames_proof.specs.Related.{is_coroutine}
use Rattle.pass_frames_proof.specs.Stepping.{IsAtOrdinary, IsCommon, IsNotEntering}
use Rattle.pass_frames_proof.proofs.run_laws.changed.Kept.{distance_kept}
use Rattle.pass_frames_proof.specs.run_source.Source.{context_of}
use Rattle.pass_frames_proof.specs.run_source.State.{function_of, work_of}
use Rattle.pass_frames_proof.specs.run_source.declared.state.State.{State}
use Rattle.pass_frames_proof.specs.run_states.sound_states.Sound.{IsSound}
use Rattle.pass_frames_proof.specs.run_step.Step.{AtInstr, Done, Work, fetch, instr_action}

pub no_alloca : (i : Instr) → IsCommon i → IsNoAlloca i
no_alloca (Instr.Alloca r ty align) h = h
no_alloca _ h = tt

pub staying : (i : Instr) → IsCommon i → IsStaying i
staying (Instr.Call r must_tail ty (Callee.Named name) args) h = tt
staying (Instr.Call r must_tail ty (Callee.Allocator a) args) h = tt
staying (Instr.Call r must_tail ty (Callee.Intrinsic x) args) h = absurd h
staying (Instr.Call r must_tail ty (Callee.Local v) args) h = tt
staying _ h = tt

module _ (c : Setting) (all : KeepsAll c) (s : State) (sound : IsSound c.g.given.code s)
    (runs : s.outcome ≡ Outcome.Running) (coroutine : is_coroutine c.b s.top.func ≡ true)
    (mode : IsNotEntering s.top.mode) (i : Instr)
    (there : fetch (function_of c.g.given s) s.top.block s.top.at ≡ AtInstr i) (common : IsCommon i) (v : Work)
    (does : instr_action (context_of c.g.given s) (work_of s) i ≡ Done v) (o : MayBeOrdinary c s i v) where
  fetched : IsAtFetch c.b s i
  fetched = fetch_ready c all s sound coroutine mode i there (staying i common) o.stand

  lined : IsOnLine c.b s.top i
  lined = line_ready c all s sound coroutine mode i there (staying i common) o.stand (no_alloca i common) o.undistanced

  pub ordinary_ready : IsAtOrdinary c.b c.g s i v
  ordinary_ready = record {
    runs = runs;
    coroutine = coroutine;
    mode = mode;
    there = fetched.there;
    unreturned = fetched.unreturned;
    common = common;
    does = does;
    unlocated = o.stand.unlocated;
    unmeasured = lined.unmeasured;
    order = fetched.order;
    below = fetched.below;
    begin = fetched.begin;
    offsets = fetched.offsets;
    far = far_there c.b (context_of c.g.given s) s.top.values i
        (distance_kept c.g.given.code c.b.framed_code all.same_types)
        (all.fields s.top.func s.top.block s.top.at i there);
    bytes = (all.steps s.top.func).bytes s.top.block s.top.at i there;
    gives = all.ungiven s.top.func s.top.block s.top.at i there;
    room = fetched.room;
    storable = o.storable;
    operands = fetched.operands;
    allocas = lined.allocas;
  }
