-- An instruction of a coroutine stands as laws on fetched instructions ask.
use Rattle.std.proofs.Common.{◌≡◌, ◌<◌, ℕ, Bool, true, List, length, Option, Some, None, refl, sym, ap, ◌∙◌, subst}
use Rattle.std.specs.Prelude.{slice_get, unwrap_or}
use Rattle.pass_frames_proof.specs.ir_base.declared.outcome.Outcome.{Outcome}
use Rattle.pass_frames_proof.proofs.ir_laws.facts.Members.{at_each, each_turns}
use Rattle.pass_frames_proof.specs.ir_laws.facts.expanded.Tokens.{IsNamed}
use Rattle.pass_frames_proof.specs.ir_laws.facts.sound_states.Named.{HasNamedUses}
use Rattle.pass_frames_proof.specs.ir_model.Names.{function_at}
use Rattle.pass_frames_proof.specs.ir_model.Ty.{Ty}
use Rattle.pass_frames_proof.specs.ir_model.declared.instr.Instr.{Instr}
use Rattle.pass_frames_proof.specs.ir_model.declared.module.Block.{Block}
use Rattle.pass_frames_proof.specs.ir_model.declared.module.Function.{Function}
use Rattle.pass_frames_proof.specs.ir_model.declared.operand.Arg.{Arg}
use Rattle.pass_frames_proof.specs.ir_model.declared.operand.Callee.{Callee}
use Rattle.pass_frames_proof.specs.ir_model.declared.operand.Intrinsic.{Intrinsic}
use Rattle.pass_frames_proof.specs.ir_model.declared.operand.Operand.{Operand}
use Rattle.pass_frames_proof.specs.ir_parts.Contents.{instr_operands, result_of}
use Rattle.pass_frames_proof.specs.pass_addresses.Placing.{stays, without_promise_of}
use Rattle.pass_frames_proof.specs.pass_cells.Cells.{fetches_of}
use Rattle.pass_frames_proof.specs.pass_cells.Kept.{entry}
use Rattle.pass_frames_proof.specs.pass_fetch.Fetching.{callee_by, fetch_of_callee}
use Rattle.pass_frames_proof.specs.pass_fetch.Instrs.{with_fetched}
use Rattle.pass_frames_proof.specs.pass_fetch.declared.fetch.Fetch.{Fetch}
use Rattle.pass_frames_meaning.proofs.begun.Begun.{begin_plain}
use Rattle.pass_frames_meaning.proofs.order.Order.{names_in_order}
use Rattle.pass_frames_meaning.proofs.others.Names.{alloca_apart, plain_by, result_low}
use Rattle.pass_frames_meaning.proofs.others.Returns.{instr_in, no_return}
use Rattle.pass_frames_meaning.proofs.placed.Placed.{offsets_placed}
use Rattle.pass_frames_meaning.specs.Plain.{IsNoAlloca}
use Rattle.pass_frames_meaning.specs.Setting.{KeepsAll, Setting}
use Rattle.pass_frames_meaning.specs.Standing.{IsStaying, MayStand}
use Rattle.pass_frames_proof.specs.Code.{load_name}
use Rattle.pass_frames_proof.specs.Distances.{IsBelow}
use Rattle.pass_frames_proof.specs.Framings.{IsFraming}
use Rattle.pass_frames_proof.specs.Here.{IsHere, IsLined, IsOnLine}
use Rattle.pass_frames_proof.specs.Operands.{IsAtFetch}
use Rattle.pass_frames_proof.specs.Ordinary.{IsPlainName}
use Rattle.pass_frames_proof.specs.Passes.{no_block}
use Rattle.pass_frames_proof.specs.Places.{Framing, edged, instrs_at, marked, plan}
use Rattle.pass_frames_proof.specs.Related.{is_coroutine}
use Rattle.pass_frames_proof.specs.Stepping.{AreNamesInOrder, IsNotEntering, state_in}
use Rattle.pass_frames_proof.proofs.rule_laws.rules.renamed.Uses.{operands_spelt}
use Rattle.pass_frames_proof.specs.run_laws.changed.Changed.{Each, operands_of}
use Rattle.pass_frames_proof.specs.run_source.State.{function_of}
use Rattle.pass_frames_proof.specs.run_source.declared.state.State.{State}
use Rattle.pass_frames_proof.specs.run_states.sound_states.Sound.{IsSound}
use Rattle.pass_frames_proof.specs.run_step.Step.{AtInstr, fetch}

-- ---- it stays, with what is loaded

call_kept : (m : List Bool) (n v : ℕ) (o : Option Fetch) (r : Option ℕ) (must_tail : Bool) (ty : Option Ty)
    (args : List Arg) → stays m (Instr.Call r must_tail ty (callee_by n o (Callee.Local v)) args) ≡ true
call_kept m n v None r must_tail ty args = refl
call_kept m n v (Some f) r must_tail ty args = refl

call_same : (n v : ℕ) (o : Option Fetch) (r : Option ℕ) (must_tail : Bool) (ty : Option Ty) (args : List Arg)
    → without_promise_of (Instr.Call r must_tail ty (callee_by n o (Callee.Local v)) args)
    ≡ Instr.Call r must_tail ty (callee_by n o (Callee.Local v)) args
call_same n v None r must_tail ty args = refl
call_same n v (Some f) r must_tail ty args = refl

kept : (m : List Bool) (t : List (Option Fetch)) (n : ℕ) (i : Instr) → IsStaying i
    → stays m (with_fetched t n i) ≡ true
kept m t n (Instr.Call r must_tail ty (Callee.Local v) args) h =
    call_kept m n v (fetch_of_callee t (Callee.Local v)) r must_tail ty _
kept m t n (Instr.Call r must_tail ty (Callee.Intrinsic Intrinsic.LifetimeStart) args) h = absurd h
kept m t n (Instr.Call r must_tail ty (Callee.Intrinsic Intrinsic.LifetimeEnd) args) h = absurd h
kept m t n (Instr.Call r must_tail ty (Callee.Intrinsic Intrinsic.CoroId) args) h = absurd h
kept m t n _ h = refl

same_there : (t : List (Option Fetch)) (n : ℕ) (i : Instr) → IsStaying i
    → without_promise_of (with_fetched t n i) ≡ with_fetched t n i
same_there t n (Instr.Call r must_tail ty (Callee.Local v) args) h =
    call_same n v (fetch_of_callee t (Callee.Local v)) r must_tail ty _
same_there t n (Instr.Call r must_tail ty (Callee.Intrinsic Intrinsic.LifetimeStart) args) h = absurd h
same_there t n (Instr.Call r must_tail ty (Callee.Intrinsic Intrinsic.LifetimeEnd) args) h = absurd h
same_there t n (Instr.Call r must_tail ty (Callee.Intrinsic Intrinsic.CoroId) args) h = absurd h
same_there t n _ h = refl

-- ---- operands

below_named : (n : ℕ) (o : Operand) → IsNamed n o → IsBelow n o
below_named n (Operand.Local v) h = h
below_named n _ h = tt

-- ---- the state

module _ (c : Setting) (all : KeepsAll c) (s : State) (sound : IsSound c.g.given.code s)
    (coroutine : is_coroutine c.b s.top.func ≡ true) (mode : IsNotEntering s.top.mode) (i : Instr)
    (there : fetch (function_of c.g.given s) s.top.block s.top.at ≡ AtInstr i) where
  abbrev x : Framing
  x = c.b.framing s.top.func

  is : IsFraming x
  is = all.given.framings s.top.func coroutine

  same : function_at c.g.given.code s.top.func ≡ edged x
  same = all.given.coroutines s.top.func coroutine

  pub stands : slice_get (instrs_at x s.top.block) s.top.at ≡ Some i
  stands = instr_in x (function_at c.g.given.code s.top.func) same s.top.block s.top.at i there

  pub room : length s.top.values ≡ length (edged x).names
  room = sound.top.values ∙ ap (λ (f : Function). length f.names) same

  pub below : Each (IsBelow (length (edged x).names)) (instr_operands i)
  below = on (slice_get (edged x).blocks s.top.block) refl stands
    where
      uses : HasNamedUses (edged x)
      uses = subst HasNamedUses same (all.uses s.top.func)

      on : (q : Option Block) → slice_get (edged x).blocks s.top.block ≡ q
          → slice_get (unwrap_or q no_block).instrs s.top.at ≡ Some i
          → Each (IsBelow (length (edged x).names)) (instr_operands i)
      on None d h = absurd (cc)
      on (Some b) d h =
          subst (λ (os : List Operand). Each (IsBelow (length (edged x).names)) os) (sym (operands_spelt i))
          (each_turns (IsNamed (length (edged x).names)) (IsBelow (length (edged x).names))
          (below_named (length (edged x).names)) (operands_of i)
          (at_each _ b.instrs s.top.at i (at_each _ (edged x).blocks s.top.block b uses.operands d) h))

  -- it is no alloca, and no distance of its result is kept
  module _ (other : IsNoAlloca i)
      (undistanced : (r : ℕ) → result_of i ≡ Some r → entry (plan (c.b.framing s.top.func)).cells r ≡ None) where
    pub unmeasured : (r : ℕ) → result_of i ≡ Some r → IsPlainName x r
    unmeasured r e = plain_by x is s.top.block s.top.at i stands r e other (undistanced r e)

    pub allocas : (at u align : ℕ) (ty : Ty) → slice_get (instrs_at x 0) at ≡ Some (Instr.Alloca u ty align)
        → (u < length (edged x).names) × (result_of i ≡ Some u → ⊥)
    allocas at u align ty e = (
      result_low x is 0 at u (Instr.Alloca u ty align) e refl,
      λ q. alloca_apart x is s.top.block s.top.at i stands u q other 0 at align ty e,
    )

  module _ (staying : IsStaying i) (o : MayStand c s i) where
    order : AreNamesInOrder x (state_in x s.top.block s.top.at) i
    order = names_in_order x is s.top.block s.top.at i stands o.unlocated
        (kept (marked x) (fetches_of (plan x)) (load_name (state_in x s.top.block s.top.at)) i staying)
        (same_there (fetches_of (plan x)) (load_name (state_in x s.top.block s.top.at)) i staying)

    pub fetch_ready : IsAtFetch c.b s i
    fetch_ready = record {
      coroutine = coroutine;
      mode = mode;
      there = stands;
      unreturned = no_return c all s.top.func s.top.block s.top.at i coroutine there;
      order = order;
      below = below;
      begin = begin_plain x is;
      offsets = offsets_placed x is o.position o.rules;
      room = room;
      operands = o.operands;
    }

    module _ (other : IsNoAlloca i)
        (undistanced : (r : ℕ) → result_of i ≡ Some r → entry (plan (c.b.framing s.top.func)).cells r ≡ None) where
      pub line_ready : IsOnLine c.b s.top i
      line_ready = record {
        coroutine = coroutine;
        mode = mode;
        there = stands;
        unreturned = no_return c all s.top.func s.top.block s.top.at i coroutine there;
        unmeasured = unmeasured other undistanced;
        order = order;
        room = room;
        allocas = allocas other undistanced;
      }

      pub here_ready : s.outcome ≡ Outcome.Running → IsLined i → IsHere c.b s i
      here_ready runs lined = record {
        runs = runs;
        on = line_ready;
        lined = lined;
        unlocated = o.unlocated;
        below = below;
        begin = begin_plain x is;
        offsets = offsets_placed x is o.position o.rules;
        operands = o.operands;
      }
