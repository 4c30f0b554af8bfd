-- An ordinary instruction of a function that is no coroutine, and a store: the framed run does the same.
use Rattle.std.proofs.Common.{◌≡◌, ℕ, ◌+◌, false, [], refl, sym, ap, ◌∙◌, subst}
use Rattle.std.specs.Prelude.{None}
use Rattle.pass_proofs.specs.ir_model.Ty.{ptr}
use Rattle.pass_proofs.specs.ir_model.declared.instr.Instr.{Instr}
use Rattle.pass_proofs.specs.ir_model.declared.module.Module.{Module}
use Rattle.pass_proofs.specs.ir_model.declared.operand.Operand.{Operand}
use Rattle.pass_proofs.specs.ir_paths.declared.point.Point.{Point}
use Rattle.pass_frames_code.proofs.led.Steps.{leaves_memory, IsSimple, simple}
use Rattle.pass_frames_code.proofs.lined.Lines.{framed_does, no_gift}
use Rattle.pass_frames_code.proofs.stepping.Line.{never_idle}
use Rattle.pass_frames_code.proofs.stepping.May.{named_alike, not_pointed}
use Rattle.pass_frames_code.proofs.stepping.Rest.{LeavesRest}
use Rattle.pass_frames_code.proofs.stepping.Stands.{renewed_does}
use Rattle.pass_frames_code.specs.Followed.{IsFollowed}
use Rattle.pass_frames_code.specs.Lined.{gives_frame}
use Rattle.pass_frames_code.specs.Related.{AreBuiltOf, Building}
use Rattle.pass_frames_code.specs.Stepping.{AreGiven, IsAtOther}
use Rattle.pass_renewed_proof.specs.Renewed.{RenewedGiven, renewed_step}
use Rattle.pass_proofs.specs.run_framed.Framed.{framed_context, framed_step, frame_rights}
use Rattle.pass_proofs.proofs.run_laws.memory.Itself.{owner_rights_fit}
use Rattle.pass_proofs.proofs.run_laws.transfer.Over.{step_over}
use Rattle.pass_proofs.specs.run_laws.changed.Changed.{callee_at}
use Rattle.pass_proofs.specs.run_laws.memory.Pointers.{IsValue}
use Rattle.pass_proofs.specs.run_laws.transfer.Transfer.{GoesOver, IsTransferred, StandsFor, args_at, given_at, looks_at, same_maps}
use Rattle.run_access_worked.proofs.run_laws_worked.Frames.{frame_rights_fit}
use Rattle.pass_proofs.specs.run_memory.Memory.{store, Rights, owner_rights}
use Rattle.pass_proofs.specs.run_source.Source.{context_of}
use Rattle.pass_proofs.specs.run_source.State.{settled, work_of}
use Rattle.pass_proofs.specs.run_source.declared.state.State.{State}
use Rattle.pass_proofs.specs.run_step.Step.{Action, AtInstr, Context, Done, Work, action_of, instr_action}
use Rattle.pass_proofs.specs.ir_model.declared.operand.Arg.{Arg}
use Rattle.pass_frames_code.proofs.ordinary.Stores.{stands_shown, store_defined}
use Rattle.pass_proofs.proofs.run_laws.access.Touched.{free_untouched}
use Rattle.pass_proofs.proofs.run_laws.embedded.Refills.{step_only}
use Rattle.pass_proofs.proofs.run_laws.embedded.Values.{address_kept}
use Rattle.pass_proofs.proofs.run_laws.transfer.Muted.{shown_address, store_muted}
use Rattle.pass_proofs.specs.run_laws.access.Changed.{IsDefined, KeepsFree, LeavesFree}
use Rattle.pass_proofs.specs.run_laws.access.Touched.{AreTouches, touch_of}
use Rattle.pass_proofs.specs.run_laws.embedded.Refilled.{AreRefilled, OnlyRefills}
use Rattle.pass_proofs.specs.run_laws.transfer.Muted.{muted, muted_work}
use Rattle.pass_proofs.specs.run_step.Step.{Action, AtInstr, Context, Done, Work, action_of, instr_action, is_alignment, value_at}
use Rattle.pass_proofs.specs.run_step.Values.{access_of, address, arg_value, stored}
use Rattle.pass_frames_code.proofs.stepping.Other.{joined, set_standing, shape, same_names, stands, operand_stands, fetched_there, here_is, cost_one, related_left, memory_left, one_followed}
use Rattle.pass_frames_code.proofs.stepping.Stored.{store_left}
use Rattle.pass_frames_code.specs.Led.{LeavesMemory}
use Rattle.pass_frames_code.specs.Stepping.{AreFieldsSpared}
use Rattle.pass_proofs.specs.run_source.State.{settled}

module _ (b : Building) (g : RenewedGiven) (given : AreGiven b g) (s t : State) (r : AreBuiltOf b s t) (i : Instr)
    (v : Work) (h : IsAtOther b g s i v) where
  abbrev R : Rights
  R = frame_rights b.given t.instances

  abbrev c : Context
  c = context_of g.given s

  abbrev d : Context
  d = framed_context b.given t

  pub goes_over : IsTransferred (IsValue r.homes) same_maps c d s.top.values t.top.values (AtInstr i) (AtInstr i)
      → GoesOver owner_rights R r.homes r.hides same_maps (given_at (AtInstr i)) (args_at (AtInstr i))
      (args_at (AtInstr i)) (work_of s) (work_of t) (Done v) (instr_action d (work_of t) i)
  goes_over transferred =
      subst
      (λ (act : Action). GoesOver owner_rights R r.homes r.hides same_maps (given_at (AtInstr i)) (args_at (AtInstr i))
      (args_at (AtInstr i)) (work_of s) (work_of t) act (instr_action d (work_of t) i)) h.does
      (step_over r.homes r.hides same_maps c d (work_of s) (work_of t) (AtInstr i) (AtInstr i) owner_rights_fit
      (frame_rights_fit b.given t.instances) (joined b g given s t r h.plain h.runs h.mode) transferred)

  -- where the rest is left the step is followed
  pub done_followed : (went : GoesOver owner_rights R r.homes r.hides same_maps (given_at (AtInstr i)) (args_at
      (AtInstr i))
      (args_at (AtInstr i)) (work_of s) (work_of t) (Done v) (instr_action d (work_of t) i))
      → LeavesRest b s t r v.world went.0.world → IsFollowed b g s t
  done_followed went left =
      one_followed b g s t
      (cost_one b g given s t r h.plain h.runs h.mode (Done v) (ap (action_of c (work_of s)) h.there ∙ h.does) refl)
      (subst (λ (p : State × State). AreBuiltOf b p.0 p.1) (λ k. (sym source_is k, sym target_is k)) related_next)
    where
      source_is : renewed_step g s ≡ settled s v
      source_is =
          renewed_does g s (AtInstr i) (Done v) h.runs h.there (never_idle (g.flags s.top.func) i h.common) h.does

      target_is : framed_step b.given t ≡ settled t went.0
      target_is =
          framed_does b.given t (AtInstr i) (Done went.0) (r.outcome ∙ h.runs)
          (fetched_there b g given s t r h.plain h.runs h.mode (AtInstr i) h.there)
          (no_gift b.given t i (subst (λ (k : Module). gives_frame k i ≡ false) (sym given.code) h.gives)) went.1

      related_next : AreBuiltOf b (settled s v) (settled t went.0)
      related_next =
          subst
          (λ (p : Point). AreBuiltOf b (settled s v)
          (record t {
            world = went.0.world;
            top = record t.top { block = p.block; at = p.at + 1; values = went.0.values };
          }))
          (sym (here_is b g given s t r h.plain h.runs h.mode))
          (related_left b g given s t r h.plain h.runs h.mode v.world went.0.world s.top.block (s.top.at + 1) v.values
          went.0.values went.2 left
          (set_standing r.homes (given_at (AtInstr i)) s.top.values t.top.values v.values went.0.values
          (stands b g given s t r h.plain h.runs h.mode) went.3))

-- ---- of an instruction that changes no memory

module _ (b : Building) (g : RenewedGiven) (given : AreGiven b g) (s t : State) (r : AreBuiltOf b s t) (i : Instr)
    (v : Work) (h : IsAtOther b g s i v) (leaves : LeavesMemory (context_of g.given s) i) where
  abbrev c' : Context
  c' = context_of g.given s

  abbrev d' : Context
  d' = framed_context b.given t

  easy : IsSimple c' d' i i
  easy =
      simple (StandsFor (looks_at (AtInstr i)) (IsValue r.homes) c' d' s.top.values t.top.values) c' d' i i
      (shape b g given s t r h.plain h.runs h.mode (AtInstr i)) leaves
      (named_alike c' d' (same_names b g given s t r h.plain h.runs h.mode).functions
      (same_names b g given s t r h.plain h.runs h.mode).declarations (callee_at (AtInstr i)))

  went : GoesOver owner_rights (frame_rights b.given t.instances) r.homes r.hides same_maps (given_at (AtInstr i))
      (args_at (AtInstr i)) (args_at (AtInstr i)) (work_of s) (work_of t) (Done v) (instr_action d' (work_of t) i)
  went = goes_over b g given s t r i v h (record {
    shape = shape b g given s t r h.plain h.runs h.mode (AtInstr i);
    callee = named_alike c' d' (same_names b g given s t r h.plain h.runs h.mode).functions
        (same_names b g given s t r h.plain h.runs h.mode).declarations (callee_at (AtInstr i));
    pointed = not_pointed c' d' s.top.values i h.common;
    distance = h.far r.homes d' t.top.values i given.code (shape b g given s t r h.plain h.runs h.mode (AtInstr i));
    cases = tt;
    no_slot = easy.no_slot;
    bytes = h.bytes;
  })

  pub other_followed : IsFollowed b g s t
  other_followed =
      done_followed b g given s t r i v h went
      (memory_left b g given s t r h.plain h.runs h.mode v.world went.0.world
      (leaves_memory c' (work_of s) v i leaves h.does) (leaves_memory d' (work_of t) went.0 i easy.leaves went.1))

-- ---- of a store

module _ (b : Building) (g : RenewedGiven) (given : AreGiven b g) (s t : State) (r : AreBuiltOf b s t) (arg : Arg)
    (p : Operand) (align : ℕ) (v : Work) (h : IsAtOther b g s (Instr.Store arg p align) v)
    (spared : AreFieldsSpared b s t r) where
  abbrev i2 : Instr
  i2 = Instr.Store arg p align

  abbrev c2 : Context
  c2 = context_of g.given s

  abbrev d2 : Context
  d2 = framed_context b.given t

  went2 : GoesOver owner_rights (frame_rights b.given t.instances) r.homes r.hides same_maps None [] []
      (work_of s) (work_of t) (Done v) (instr_action d2 (work_of t) i2)
  went2 = goes_over b g given s t r i2 v h (record {
    shape = shape b g given s t r h.plain h.runs h.mode (AtInstr i2);
    callee = tt;
    pointed = tt;
    distance = tt;
    cases = tt;
    no_slot = tt;
    bytes = h.bytes;
  })

  leads : IsValue r.homes (value_at c2 (work_of s) ptr p) (value_at d2 (work_of t) ptr p)
  leads = operand_stands b g given s t r h.plain h.runs h.mode p ptr

  touches : AreTouches r.homes (touch_of c2 (muted_work r.hides (work_of s)) (AtInstr i2))
      (touch_of d2 (work_of t) (AtInstr i2))
  touches = (
    address (value_at d2 (work_of t) ptr p),
    (refl, address_kept r.homes (value_at c2 (work_of s) ptr p) (value_at d2 (work_of t) ptr p) leads),
  )

  defined : IsDefined (action_of c2 (muted_work r.hides (work_of s)) (AtInstr i2))
  defined =
      store_defined r.hides (work_of s) (muted_work r.hides (work_of s)) v (is_alignment align)
      (store owner_rights s.world.memory (address (value_at c2 (work_of s) ptr p))
      (stored (access_of arg.ty) (arg_value c2.code s.top.values arg)) (access_of arg.ty) align)
      (store owner_rights (muted r.hides s.world.memory) (address (value_at c2 (work_of s) ptr p))
      (stored (access_of arg.ty) (arg_value c2.code s.top.values arg)) (access_of arg.ty) align)
      (store_muted r.hides owner_rights s.world.memory (address (value_at c2 (work_of s) ptr p))
      (stored (access_of arg.ty) (arg_value c2.code s.top.values arg)) (access_of arg.ty) align
      (shown_address r.hides (value_at c2 (work_of s) ptr p)
      (stands_shown r.homes r.hides r.hidden (value_at c2 (work_of s) ptr p) (value_at d2 (work_of t) ptr p) leads)))
      h.does

  keeps : KeepsFree owner_rights r.homes (muted r.hides s.world.memory) t.world.memory went2.0.world.memory
  keeps =
      subst
      (λ (act : Action). LeavesFree owner_rights r.homes (muted r.hides s.world.memory) t.world.memory act) went2.1
      (free_untouched r.homes c2 d2 (muted_work r.hides (work_of s)) (work_of t) (AtInstr i2) (AtInstr i2)
      owner_rights_fit r.world.memory tt tt touches defined)

  refilled : AreRefilled s.world.memory v.world.memory
  refilled = subst (OnlyRefills s.world.memory) h.does (step_only c2 (work_of s) (AtInstr i2) tt)

  pub other_store_followed : IsFollowed b g s t
  other_store_followed =
      done_followed b g given s t r i2 v h went2
      (store_left b s t r v.world went2.0.world given.framings refilled keeps spared)
