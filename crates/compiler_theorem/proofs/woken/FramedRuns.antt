-- States of framed forms of accepted sources: instances are of coroutines, no ramp is given its frame, and what is
-- suspended isn't freed.
use Rattle.std.proofs.Common.{◌≡◌, ℕ, Bool, true, false, [], refl, sym, ap, ◌∙◌, subst}
use Rattle.std.proofs.lemmas.Bool.{false≢true}
use Rattle.std.specs.Prelude.{None, Option, Some, slice_get, unwrap_or}
use Rattle.compiler.proofs.pass_proofs.rule_laws.rules.function_rules.Stages.{rules_larger}
use Rattle.compiler.specs.rule_names.declared.stage.Stage.{Stage}
use Rattle.compiler.proofs.whole.lowered_sources.Row.{is_ready}
use Rattle.compiler.specs.cleanup.accepted.Ready.{IsReady}
use Rattle.compiler_theorem.proofs.theorem.Built.{sources_built}
use Rattle.compiler_theorem.proofs.theorem.Renewing.{early_entry}
use Rattle.compiler_theorem.proofs.theorem.Stepping.{gives_no_frames}
use Rattle.compiler_theorem.proofs.woken.Forms.{form_allocas}
use Rattle.compiler_theorem.specs.theorem.Anew.{Anew, IsAnewOf}
use Rattle.compiler_theorem.specs.theorem.Asked.{asking}
use Rattle.compiler_theorem.specs.theorem.Built.{building}
use Rattle.compiler_theorem.specs.theorem.Entries.{IsEntryCall, Run}
use Rattle.compiler_theorem.specs.theorem.Lowered.{IsLowered, Lowered, early}
use Rattle.compiler.specs.ir_model.Names.{function_at, no_function}
use Rattle.compiler.specs.ir_model.declared.instr.Instr.{Instr}
use Rattle.compiler.specs.ir_model.declared.module.Function.{Function}
use Rattle.compiler.specs.ir_model.declared.operand.Callee.{Callee}
use Rattle.compiler.specs.ir_model.declared.operand.Intrinsic.{Intrinsic}
use Rattle.pass_frames_meaning.specs.Woken.{IsFramedFit}
use Rattle.pass_split_proof.proofs.held.Runs.{runs_kept}
use Rattle.pass_split_proof.proofs.own_blocks.Runs.{runs_mark_none, runs_own}
use Rattle.pass_split_proof.proofs.ready.Allocas.{allocas_alone}
use Rattle.pass_split_proof.proofs.ready.Intrinsics.{in_coroutine}
use Rattle.pass_split_proof.proofs.ready.Rules.{function_of_instr}
use Rattle.pass_split_proof.specs.own_blocks.Own.{FitsMode, GivesFrames, HasOwnBlocks, IsOwnState}
use Rattle.pass_split_proof.specs.simulation.Premises.{is_of_coroutines}
use Rattle.compiler.specs.rule_laws.rules.function_rules.Kept.{KeepsFunctionRules}
use Rattle.compiler.specs.rule_locals.Intrinsics.{is_inner}
use Rattle.compiler.specs.run_framed.Framed.{FramedGiven, framed_state_at}
use Rattle.compiler.specs.run_source.State.{is_suspended}
use Rattle.compiler.specs.run_source.declared.state.Instance.{Instance}

inner_of : (x : Intrinsic) → is_of_coroutines x ≡ true → is_inner x ≡ true
inner_of Intrinsic.CoroResume e = absurd (false≢true e)
inner_of Intrinsic.CoroDestroy e = absurd (false≢true e)
inner_of Intrinsic.CoroDone e = absurd (false≢true e)
inner_of Intrinsic.CoroPromise e = absurd (false≢true e)
inner_of Intrinsic.LifetimeStart e = absurd (false≢true e)
inner_of Intrinsic.LifetimeEnd e = absurd (false≢true e)
inner_of Intrinsic.MemcpyI64 e = absurd (false≢true e)
inner_of Intrinsic.MemcpyI32 e = absurd (false≢true e)
inner_of _ e = refl

module _ (l : Lowered) (low : IsLowered l) where
  ready : IsReady l.layouts l.framed
  ready = is_ready l.text l.source low.source.stands low.source.accepted l.share l.layouts low.laid l.framed
      low.is_framed

  plain_is : (k : ℕ) → (function_at (early l) k).coroutine ≡ false → function_at l.framed k ≡ function_at (early l) k
  plain_is k plain = (sources_built l low []).others k plain

  pub framed_rules : (k : ℕ) → slice_get l.framed.functions k ≡ Some (function_at l.framed k)
      → KeepsFunctionRules l.framed k (function_at l.framed k)
  framed_rules k there = on (function_at (early l) k).coroutine refl
    where
      on : (b : Bool) → (function_at (early l) k).coroutine ≡ b
          → KeepsFunctionRules l.framed k (function_at l.framed k)
      on true c =
          subst (KeepsFunctionRules l.framed k) (sym ((sources_built l low []).coroutines k c).is)
          (form_allocas l low [] k c).rules
      on false c =
          (ready.plain k (function_at l.framed k) there (ap (λ (f : Function). f.coroutine) (plain_is k c) ∙ c)).rules

  own_blocks : HasOwnBlocks l.framed
  own_blocks = record {
    allocas = allocas_alone l.framed l.framed (λ k there. rules_larger Stage.Source l.framed k (function_at l.framed k)
        (framed_rules k there));
    intrinsics = λ func block at result must_tail ty x args here of.
        in_coroutine l.framed func (function_at l.framed func)
        (rules_larger Stage.Source l.framed func (function_at l.framed func)
        (framed_rules func (function_of_instr l.framed func block at
        (Instr.Call result must_tail ty (Callee.Intrinsic x) args) here))) block at result must_tail ty x args here
        (inner_of x of);
  }

  -- no call gives a frame
  never_gives : GivesFrames l.framed → ⊥
  never_gives k = none (sym k.gives ∙ gives_no_frames l low k.func k.block k.at k.result k.must_tail k.ty k.name k.args
      k.there)
    where
      none : {ramp : ℕ} → Some ramp ≡ None → ⊥
      none e = cc

  -- a coroutine of the framed form is one of the source
  coroutine_was : (k : ℕ) → (function_at l.framed k).coroutine ≡ true → (function_at (early l) k).coroutine ≡ true
  coroutine_was k c = on (function_at (early l) k).coroutine refl
    where
      on : (b : Bool) → (function_at (early l) k).coroutine ≡ b → b ≡ true
      on true e = refl
      on false e = sym (ap (λ (f : Function). f.coroutine) (plain_is k e) ∙ e) ∙ c

  module _ (a : Anew) (anew : IsAnewOf (early l) a) (r : Run) (entered : IsEntryCall l.source r) where
    abbrev h : FramedGiven
    h = (building l low.is_framed r.answers).given

    plain : (function_at l.framed r.entry).coroutine ≡ false
    plain =
        let was : function_at (early l) r.entry ≡ entered.callable.function =
        ap (λ (o : Option Function). unwrap_or o no_function) (early_entry l low a anew r entered) in
        let flat = ap (λ (f : Function). f.coroutine) was ∙ entered.callable.plain in
        ap (λ (f : Function). f.coroutine) (plain_is r.entry flat) ∙ flat

    pub own : (n : ℕ) → IsOwnState l.framed (framed_state_at h r.entry r.args n)
    own n = runs_own h own_blocks r.entry r.args plain n

    pub framed_fit : (n : ℕ) → IsFramedFit (asking l low a r) (framed_state_at h r.entry r.args n)
    framed_fit n = record {
      instances = λ i x e. coroutine_was x.coroutine ((own n).instances i x e).coroutine;
      ungiven = λ frame e. never_gives (subst (FitsMode l.framed
          (function_at l.framed (framed_state_at h r.entry r.args n).top.func).coroutine
          (framed_state_at h r.entry r.args n).top.instance) e (own n).top.mode).1;
    }

    pub framed_unfreed : (n i : ℕ) (x : Instance)
        → slice_get (framed_state_at h r.entry r.args n).instances i ≡ Some x → is_suspended x.status ≡ true
        → x.freed ≡ false
    framed_unfreed n i x e sleeps =
        let marks = runs_mark_none h own_blocks r.entry r.args plain in
        (runs_kept h r.entry r.args marks n).instances.unfreed i x e sleeps
