-- Where no call gives a frame all is met that is asked of frames that calls give.
use Rattle.std.proofs.Common.{◌≡◌, ℕ, Bool, true, false, List, Option, Some, None, refl, sym, ap, ◌∙◌, subst, ◌==◌}
use Rattle.std.specs.Prelude.{slice_get}
use Rattle.std.proofs.lemmas.Bool.{and_from, eq-eqb, false≢true}
use Rattle.pass_proofs.specs.ir_base.declared.name.Name.{Name}
use Rattle.pass_proofs.specs.ir_model.Names.{function_at}
use Rattle.pass_proofs.specs.ir_model.Ty.{Ty}
use Rattle.pass_proofs.specs.ir_model.declared.instr.Instr.{Instr}
use Rattle.pass_proofs.specs.ir_model.declared.module.Module.{Module}
use Rattle.pass_proofs.specs.ir_model.declared.operand.Arg.{Arg}
use Rattle.pass_proofs.specs.ir_model.declared.operand.Callee.{Callee}
use Rattle.pass_proofs.specs.ir_model.declared.operand.Intrinsic.{Intrinsic}
use Rattle.pass_proofs.specs.pass_split.Given.{has_given_call}
use Rattle.pass_proofs.specs.run_framed.Framed.{FramedGiven, given_ramp}
use Rattle.pass_proofs.specs.run_memory.declared.pointer.Value.{Value}
use Rattle.pass_proofs.specs.run_source.State.{function_of}
use Rattle.pass_proofs.specs.run_source.declared.state.Instance.{Instance}
use Rattle.pass_proofs.specs.run_source.declared.state.Mode.{Mode}
use Rattle.pass_proofs.specs.run_source.declared.state.State.{State}
use Rattle.pass_proofs.specs.run_step.Step.{AtInstr, Fetched, block_of, fetch}
use Rattle.pass_split_proof.proofs.own_blocks.Steps.{marked}
use Rattle.pass_split_proof.proofs.whole.Held.{alone, not_given, suspended_held}
use Rattle.pass_split_proof.proofs.whole.Here.{IsGivingState, IsHeldState}
use Rattle.pass_split_proof.specs.held.Kept.{begins_heap, is_heap_in}
use Rattle.pass_split_proof.specs.own_blocks.Own.{FitsMode, GivesFrames, HasOwnBlocks}
use Rattle.pass_split_proof.specs.simulation.Knowing.{KnowsGiven}
use Rattle.pass_split_proof.specs.simulation.Premises.{AreFunctionsMet, IsAt}
use Rattle.pass_split_proof.specs.states.Related.{AreRelated}
use Rattle.pass_split_proof.specs.whole.Giving.{AreGivenPlacesMet, SavesUnfinished, StartsNoFrame, here_of}
use Rattle.run_access_worked.specs.run_plain.Plain.{PlainGiven}
use Rattle.run_access_worked.specs.run_plain.declared.state.PlainState.{PlainState}

-- no call gives a frame
pub record AreUngiven (g : FramedGiven) : Type 0 where
  pub calls : (func block at : ℕ) (result : Option ℕ) (must_tail : Bool) (ty : Option Ty) (name : Name)
      (args : List Arg) → fetch (function_at g.given.code func) block at ≡ AtInstr (Instr.Call result must_tail ty
      (Callee.Named name) args) → given_ramp g.given.code name ≡ None
  pub coroutines : (func : ℕ) → (function_at g.given.code func).coroutine ≡ true
      → has_given_call g.given.code (function_at g.given.code func) ≡ false

-- so none gives one
pub never_gives : (g : FramedGiven) → AreUngiven g → GivesFrames g.given.code → ⊥
never_gives g ungiven k = none (sym k.gives ∙ ungiven.calls k.func k.block k.at k.result k.must_tail k.ty k.name k.args
    k.there)
  where
    none : {ramp : ℕ} → Some ramp ≡ None → ⊥
    none e = cc

module _ (g : FramedGiven) (h : PlainGiven) (met : AreFunctionsMet g h) (ungiven : AreUngiven g) (s : State)
    (t : PlainState) (r : AreRelated g h s t) (k : IsHeldState g s) (knows : KnowsGiven g s t) where
  abbrev c : Module
  c = g.given.code

  never : GivesFrames g.given.code → ⊥
  never = never_gives g ungiven

  asks : HasOwnBlocks g.given.code
  asks = record { allocas = met.allocas; intrinsics = met.intrinsics }

  no_given_mode : (frame : Value) → s.top.mode ≡ Mode.GivenRamp frame → ⊥
  no_given_mode frame e = never (subst (FitsMode c (function_of g.given s).coroutine s.top.instance) e
      k.own.top.mode).1

  heap : (i : ℕ) (x : Instance) → slice_get s.instances i ≡ Some x → begins_heap s.world.memory x ≡ true
  heap i x e = let z = alone c s k.own never i x e in
      and_from (is_heap_in (slice_get s.world.memory x.block)) (x.start == 0) z.1 (eq-eqb x.start 0 z.0)

  starts : (here : Fetched) → IsAt g s here → StartsNoFrame g s here
  starts (AtInstr (Instr.Call result must_tail ty (Callee.Intrinsic Intrinsic.LifetimeStart) args)) here =
      let y = marked g asks s k.own result must_tail ty (Callee.Intrinsic Intrinsic.LifetimeStart) args here refl in
      λ b i x marks e same. absurd (false≢true (sym y.none.is
      ∙ ap (λ (a : ℕ). is_heap_in (slice_get s.world.memory a)) (one (sym (ap block_of y.is) ∙ marks) ∙ sym same)
      ∙ (alone c s k.own never i x e).1))
    where
      one : {a d : ℕ} → Some a ≡ Some d → a ≡ d
      one e = cc
  starts _ here = tt

  saves : (here : Fetched) → SavesUnfinished g s here
  saves (AtInstr (Instr.Call result must_tail ty (Callee.Intrinsic Intrinsic.CoroSave) args))
      = λ i x own e given. absurd (false≢true (sym (not_given c s k.own never i x e) ∙ given))
  saves _ = tt

  places : AreGivenPlacesMet g h s t r
  places = record {
    called = λ result must_tail ty name args func here at gives.
        absurd (other (sym (ungiven.calls s.top.func s.top.block s.top.at result must_tail ty name args here) ∙
        gives));
    begin = λ result must_tail ty args frame here at e given called. absurd (no_given_mode frame e);
    frees = λ result must_tail ty args here at part. ungiven.coroutines s.top.func
        (met.intrinsics s.top.func s.top.block s.top.at result must_tail ty Intrinsic.CoroFree args here refl);
  }
    where
      other : {func : ℕ} → None ≡ Some func → ⊥
      other e = cc

  pub ungiven_state : IsGivingState g h s t r
  ungiven_state = record {
    held = k;
    knows = knows;
    sleepers = suspended_held c s k.own never k.kept;
    live = λ i x e off goes. absurd (false≢true (sym off ∙ heap i x e));
    starts = starts (here_of g s) refl;
    saves = saves (here_of g s);
    begins = λ b. absurd (no_given_mode b.frame b.mode);
    places = places;
  }
