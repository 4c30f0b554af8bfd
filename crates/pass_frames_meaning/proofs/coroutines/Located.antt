-- An access of a coroutine at a place ahead of begin is followed, which goes by the addresses in cells of slots.
use Rattle.std.proofs.Common.{◌≡◌, ℕ, true, false, Option, Some, None, refl, sym, subst}
use Rattle.pass_frames_proof.specs.ir_base.declared.outcome.Outcome.{Outcome}
use Rattle.pass_frames_proof.specs.ir_model.Names.{function_at}
use Rattle.pass_frames_proof.specs.ir_model.declared.instr.Instr.{Instr}
use Rattle.pass_frames_proof.specs.ir_model.declared.module.Function.{Function}
use Rattle.pass_frames_proof.specs.ir_model.declared.module.Module.{Module}
use Rattle.pass_frames_proof.specs.ir_model.declared.operand.Callee.{Callee}
use Rattle.pass_frames_proof.specs.ir_model.declared.operand.Intrinsic.{Intrinsic}
use Rattle.pass_frames_proof.specs.ir_parts.Contents.{result_of}
use Rattle.pass_frames_proof.specs.pass_cells.Kept.{entry}
use Rattle.pass_frames_proof.specs.pass_copies.Uses.{is_access}
use Rattle.pass_frames_meaning.proofs.begun.Begun.{begin_plain}
use Rattle.pass_frames_meaning.proofs.called.Voids.{void_intrinsic}
use Rattle.pass_frames_meaning.proofs.coroutines.Steps.{done_by, spared, storable}
use Rattle.pass_frames_meaning.proofs.order.Wheres.{wheres_in_order}
use Rattle.pass_frames_meaning.proofs.ordinary.Standing.{allocas, below, room, stands, unmeasured}
use Rattle.pass_frames_meaning.proofs.others.Names.{no_distance}
use Rattle.pass_frames_meaning.proofs.others.Others.{IsQuietAction, quiet_copied, quiet_done, quiet_if}
use Rattle.pass_frames_meaning.proofs.others.Returns.{no_return}
use Rattle.pass_frames_meaning.proofs.placed.Placed.{offsets_placed}
use Rattle.pass_frames_meaning.specs.Accesses.{MayAccess}
use Rattle.pass_frames_meaning.specs.Coroutines.{MayFollow}
use Rattle.pass_frames_meaning.specs.Plain.{IsNoAlloca, IsNoGep}
use Rattle.pass_frames_meaning.specs.Setting.{AreOfRuns, KeepsAll, Setting}
use Rattle.pass_frames_proof.proofs.here.Line.{never_idle}
use Rattle.pass_frames_proof.proofs.located.Access.{access_lined}
use Rattle.pass_frames_proof.proofs.located.Followed.{access_followed}
use Rattle.pass_frames_proof.specs.Code.{is_ahead}
use Rattle.pass_frames_proof.specs.Followed.{IsFollowed}
use Rattle.pass_frames_proof.specs.Framings.{IsFraming}
use Rattle.pass_frames_proof.specs.Located.{GivesPlainly, IsAtAccess}
use Rattle.pass_frames_proof.specs.Places.{Framing, plan}
use Rattle.pass_frames_proof.specs.Related.{AreBuiltOf, is_coroutine}
use Rattle.pass_frames_proof.specs.Stepping.{IsNotEntering, state_in}
use Rattle.pass_frames_proof.specs.Temporaries.{HasLedSlots}
use Rattle.pass_frames_proof.specs.pass_renewed_proof.Renewed.{is_idle, renewed_step}
use Rattle.pass_frames_proof.specs.run_agreement.Machines.{IsFine}
use Rattle.pass_frames_proof.specs.run_source.Source.{context_of}
use Rattle.pass_frames_proof.specs.run_source.State.{work_of}
use Rattle.pass_frames_proof.specs.run_source.declared.state.State.{State}
use Rattle.pass_frames_proof.specs.run_source_tables.Given.{Given}
use Rattle.pass_frames_proof.specs.run_step.Step.{AtInstr, Done, Work, fetch, instr_action}
use Rattle.pass_frames_proof.specs.run_step.Values.{arg_values}
use Rattle.pass_renewed_meaning.specs.run_types.Rules.{KeepsTypes}

-- ---- accesses

access_quiet : (g : Given) (s : State) (i : Instr) → is_access i ≡ true
    → IsQuietAction (instr_action (context_of g s) (work_of s) i)
access_quiet g s (Instr.Load r ty p align) e = quiet_if align _ (quiet_done _ _)
access_quiet g s (Instr.Store arg p align) e = quiet_if align _ (quiet_done _ _)
access_quiet g s (Instr.Call r must_tail ty (Callee.Intrinsic Intrinsic.MemcpyI64) args) e =
    quiet_copied (context_of g s) (work_of s) (arg_values g.code s.top.values args)
access_quiet g s (Instr.Call r must_tail ty (Callee.Intrinsic Intrinsic.MemcpyI32) args) e =
    quiet_copied (context_of g s) (work_of s) (arg_values g.code s.top.values args)
access_quiet g s _ e = absurd (cc)

access_no_alloca : (i : Instr) → is_access i ≡ true → IsNoAlloca i
access_no_alloca (Instr.Alloca r ty align) e = absurd (cc)
access_no_alloca _ e = tt

access_no_gep : (i : Instr) → is_access i ≡ true → IsNoGep i
access_no_gep (Instr.Gep r inbounds ty p indices) e = absurd (cc)
access_no_gep _ e = tt

-- a memcpy gives no value
gives_plainly : (m : Module) (f : Function) → KeepsTypes m f → (block at : ℕ) (i : Instr) → is_access i ≡ true
    → fetch f block at ≡ AtInstr i → GivesPlainly i
gives_plainly m f types block at (Instr.Load r ty p align) e there = tt
gives_plainly m f types block at (Instr.Store arg p align) e there = tt
gives_plainly m f types block at (Instr.Call r must_tail ty (Callee.Intrinsic Intrinsic.MemcpyI64) args) e there =
    subst (λ (q : Option ℕ). GivesPlainly (Instr.Call q must_tail ty (Callee.Intrinsic Intrinsic.MemcpyI64) args))
    (sym (void_intrinsic m f types block at r must_tail ty Intrinsic.MemcpyI64 args there refl)) tt
gives_plainly m f types block at (Instr.Call r must_tail ty (Callee.Intrinsic Intrinsic.MemcpyI32) args) e there =
    subst (λ (q : Option ℕ). GivesPlainly (Instr.Call q must_tail ty (Callee.Intrinsic Intrinsic.MemcpyI32) args))
    (sym (void_intrinsic m f types block at r must_tail ty Intrinsic.MemcpyI32 args there refl)) tt
gives_plainly m f types block at _ e there = absurd (cc)

-- ---- a step

module _ (c : Setting) (all : KeepsAll c) (s t : State) (r : AreBuiltOf c.b s t) (k : AreOfRuns c s t r)
    (runs : s.outcome ≡ Outcome.Running) (fine : IsFine (renewed_step c.g s).outcome)
    (coroutine : is_coroutine c.b s.top.func ≡ true) (mode : IsNotEntering s.top.mode) (o : MayFollow c s)
    (ledger : HasLedSlots t) (i : Instr)
    (there : fetch (function_at c.g.given.code s.top.func) s.top.block s.top.at ≡ AtInstr i)
    (access : is_access i ≡ true)
    (ahead : is_ahead (state_in (c.b.framing s.top.func) s.top.block s.top.at) ≡ true) (a : MayAccess c s i) where
  abbrev x : Framing
  x = c.b.framing s.top.func

  is : IsFraming x
  is = all.given.framings s.top.func coroutine

  awake : is_idle (c.g.flags s.top.func) (AtInstr i) ≡ false
  awake = never_idle (c.g.flags s.top.func) i (access_lined i access)

  undistanced : (q : ℕ) → result_of i ≡ Some q → entry (plan x).cells q ≡ None
  undistanced q e =
      no_distance x is s.top.block s.top.at i (stands c all s k.sound coroutine mode i there) q e
      (access_no_gep i access)

  at_access : (v : Work) → instr_action (context_of c.g.given s) (work_of s) i ≡ Done v → IsAtAccess c.b c.g s i v
  at_access v does = record {
    runs = runs;
    coroutine = coroutine;
    mode = mode;
    ramp = a.ramp;
    there = stands c all s k.sound coroutine mode i there;
    unreturned = no_return c all s.top.func s.top.block s.top.at i coroutine there;
    access = access;
    ahead = ahead;
    does = does;
    bytes = (all.steps s.top.func).bytes s.top.block s.top.at i there;
    plain = gives_plainly c.g.given.code (function_at c.g.given.code s.top.func) (all.types s.top.func) s.top.block
        s.top.at i access there;
    unmeasured = unmeasured c all s k.sound coroutine mode i there (access_no_alloca i access) undistanced;
    order = wheres_in_order x is s.top.block s.top.at i (stands c all s k.sound coroutine mode i there) access ahead;
    below = below c all s k.sound coroutine mode i there;
    begin = begin_plain x is;
    offsets = offsets_placed x is o.position o.rules;
    room = room c all s k.sound coroutine mode i there;
    storable = λ q kept e is.
        storable c all s t r k runs fine coroutine mode o i there awake v does q kept is;
    operands = a.operands;
    stored = a.stored;
    once = a.once;
    allocas = allocas c all s k.sound coroutine mode i there (access_no_alloca i access) undistanced;
  }

  pub located_followed : IsFollowed c.b c.g s t
  located_followed =
      done_by c all s t r k runs fine coroutine mode o i there awake (access_quiet c.g.given s i access) (λ v does.
      access_followed c.b c.g all.given s t r ledger i v (at_access v does)
      (spared c all s t r k runs fine coroutine mode o))
