-- In the elided module allocas stand in entry blocks, and begins in coroutines, as in the framed form.
use Rattle.std.proofs.Common.{◌≡◌, ◌∙◌, ℕ, zero, suc, Bool, true, false, List, [], ◌∷◌, refl, subst, arith}
use Rattle.std.specs.Prelude.{Some, slice_get}
use Rattle.pass_elide.specs.Elided.{elided_function, frame_address, given_call}
use Rattle.pass_elide.specs.declared.given.GivenFrame.{GivenFrame}
use Rattle.pass_elide_proof.proofs.Facts.{not_both}
use Rattle.pass_elide_proof.proofs.Modules.{finds_alike}
use Rattle.pass_elide_proof.specs.Elision.{Elision, elided, elided_code, function_in, rooms}
use Rattle.pass_elide_proof.specs.Places.{instrs_of}
use Rattle.pass_elide_proof.specs.Placing.{KeepsPlaces, is_own}
use Rattle.pass_elide_proof.specs.PlacingStates.{BeginsInCoroutines}
use Rattle.pass_elide_proof.specs.Sound.{KnowsAllocas}
use Rattle.pass_elide_runs.proofs.Elided.{calls_own, elided_none, elided_switches, fetched_none, same_kind_of}
use Rattle.pass_elide_runs.proofs.Led.{edges_in}
use Rattle.pass_elide_runs.proofs.SlotSteps.{slots_in_runs}
use Rattle.pass_elide_runs.proofs.Without.{Without, behind_none, none_one}
use Rattle.pass_elide_runs.specs.Slots.{AllocasFirst, HasItsSlots, HaveItsSlots, IsSlotOf}
use Rattle.pass_elide_proof.specs.pass_proofs.flow_solver.Paths.{IsListed}
use Rattle.pass_elide_proof.specs.pass_proofs.ir_base.declared.outcome.Word.{Word}
use Rattle.pass_elide_proof.specs.pass_proofs.ir_model.Names.{function_at, same_intrinsic}
use Rattle.pass_elide_proof.specs.pass_proofs.ir_model.Ty.{Ty}
use Rattle.pass_elide_proof.specs.pass_proofs.ir_model.declared.instr.Instr.{Instr}
use Rattle.pass_elide_proof.specs.pass_proofs.ir_model.declared.module.Function.{Function}
use Rattle.pass_elide_proof.specs.pass_proofs.ir_model.declared.module.Module.{Module}
use Rattle.pass_elide_proof.specs.pass_proofs.ir_model.declared.operand.Callee.{Callee}
use Rattle.pass_elide_proof.specs.pass_proofs.ir_model.declared.operand.Intrinsic.{Intrinsic}
use Rattle.pass_elide_proof.specs.pass_proofs.ir_paths.Windows.{is_call_of}
use Rattle.pass_elide_proof.specs.pass_proofs.run_agreement.Machines.{IsFine}
use Rattle.pass_elide_proof.specs.pass_proofs.run_framed.Framed.{framed_state_at}
use Rattle.pass_elide_proof.specs.pass_proofs.run_laws.changed.Changed.{Each}
use Rattle.pass_elide_proof.specs.pass_proofs.run_source.declared.state.Activation.{Activation}
use Rattle.pass_elide_proof.specs.pass_proofs.run_step.Effects.{is_alloca}
use Rattle.pass_elide_proof.specs.pass_proofs.run_step.declared.world.Slot.{Slot}
use Rattle.run_hooks.specs.Reached.{AllHaveSwitches}

-- ---- allocas

given_plain : (n : ℕ) (i : Instr) → is_alloca i ≡ false → is_alloca (given_call n i) ≡ false
given_plain n (Instr.Call result must_tail ty (Callee.Named g) args) h = refl
given_plain n (Instr.Call result must_tail ty (Callee.Allocator a) args) h = h
given_plain n (Instr.Call result must_tail ty (Callee.Intrinsic j) args) h = h
given_plain n (Instr.Call result must_tail ty (Callee.Local v) args) h = h
given_plain n (Instr.Binary r op flags ty a b) h = h
given_plain n (Instr.Icmp r pred ty a b) h = h
given_plain n (Instr.Select r x a b) h = h
given_plain n (Instr.Cast r op nneg arg to) h = h
given_plain n (Instr.Alloca r ty align) h = h
given_plain n (Instr.Load r ty p align) h = h
given_plain n (Instr.Store arg p align) h = h
given_plain n (Instr.Gep r inbounds ty base indices) h = h

address_plain : (n base distance : ℕ) → Without is_alloca (frame_address n (GivenFrame.Field base distance))
address_plain n base distance = none_one is_alloca _ refl

-- behind the entry block a function has none
none_behind : (f : Function) → AllocasFirst f → (block : ℕ) → Without is_alloca (instrs_of f (suc block))
unfolding Without
none_behind f firsts block k i at = by i at
  where
    by : (i : Instr) → slice_get (instrs_of f (suc block)) k ≡ Some i → is_alloca i ≡ false
    by (Instr.Alloca name ty align) at = absurd (omega (arith, firsts.first (suc block) k name align ty at))
    by (Instr.Call result must_tail ty callee args) at = refl
    by (Instr.Binary r op flags ty a b) at = refl
    by (Instr.Icmp r pred ty a b) at = refl
    by (Instr.Select r x a b) at = refl
    by (Instr.Cast r op nneg arg to) at = refl
    by (Instr.Load r ty p align) at = refl
    by (Instr.Store arg p align) at = refl
    by (Instr.Gep r inbounds ty base indices) at = refl

module _ (e : Elision) where
  pub elided_first : (func : ℕ) → AllocasFirst (function_in e func)
      → AllocasFirst (function_at (elided_code e) func)
  unfolding Without
  elided_first func firsts = record {
    first = λ block at name align ty there. by block at name align ty
        (subst (λ (f : Function). slice_get (instrs_of f block) at ≡ Some (Instr.Alloca name ty align))
        ((finds_alike e).functions func) there);
    entry = λ from listed. firsts.entry from (subst (IsListed {X = ℕ × ℕ} (from, 0)) (edges_in e func) listed);
  }
    where
      by : (block at name align : ℕ) (ty : Ty)
          → slice_get (instrs_of (elided_function (rooms e func) (function_in e func)) block) at
          ≡ Some (Instr.Alloca name ty align) → block ≡ 0
      by zero at name align ty there = refl
      by (suc k) at name align ty there =
          absurd (not_both (is_alloca (Instr.Alloca name ty align)) refl
          (behind_none is_alloca given_plain address_plain (rooms e func) (function_in e func) k
          (none_behind (function_in e func) firsts) at (Instr.Alloca name ty align) there))

-- ---- begins

begin_own : (i : Instr) → is_call_of Intrinsic.CoroBegin i ≡ true → calls_own i ≡ true
begin_own (Instr.Call result must_tail ty (Callee.Intrinsic j) args) h = by j h
  where
    by : (j : Intrinsic) → same_intrinsic Intrinsic.CoroBegin j ≡ true → is_own j ≡ true
    by Intrinsic.CoroBegin is = refl
    by _ is = absurd (cc)
begin_own _ h = absurd (cc)

module _ (e : Elision) (keeps : KeepsPlaces e) where
  pub elided_begins : BeginsInCoroutines (elided_code e)
  elided_begins func block at i there is = by (function_in e func).coroutine refl
    where
      by : (t : Bool) → (function_in e func).coroutine ≡ t → (function_at (elided_code e) func).coroutine ≡ true
      by true coroutine = same_kind_of e keeps func ∙ coroutine
      by false plain =
          absurd (fetched_none (function_at (elided_code e) func) (elided_none e keeps func plain) block at i there
          (begin_own i is))

  -- ---- slots

  pub giving_slots : ((func : ℕ) → AllocasFirst (function_in e func)) → KnowsAllocas (elided e)
      → AllHaveSwitches e.code → (entry : ℕ) (args : List Word) (n : ℕ)
      → IsFine (framed_state_at (elided e) entry args n).outcome
      → HaveItsSlots (elided_code e) (framed_state_at (elided e) entry args n)
  giving_slots firsts knows switches entry args n fine =
      slots_in_runs (elided e) (λ func. elided_first e func (firsts func)) knows (elided_switches e keeps switches)
      elided_begins entry args n fine

-- one that has just been entered has none
pub no_slots : (m : Module) (a : Activation) → HasItsSlots m a → a.block ≡ 0 → a.at ≡ 0 → a.slots ≡ []
no_slots m a h first start = by a.slots h.own
  where
    by : (zs : List Slot) → Each (IsSlotOf (function_at m a.func) a.values a.block a.at) zs → zs ≡ []
    by [] own = refl
    by (z ∷ zs) own = absurd (omega (arith, own.0.passed first, start))
