-- What is asked of states where blocks of coroutines end holds in a run of an accepted source.
use Rattle.std.proofs.Common.{◌≡◌, inl, ℕ, ◌<◌, Bool, true, false, length, refl, sym, ap, ◌∙◌, subst, ◌&&◌}
use Rattle.std.specs.Prelude.{None, Option, Some, slice_get, unwrap_or}
use Rattle.compiler_theorem.proofs.ends.Asked.{edges_kept, ends_kept}
use Rattle.compiler_theorem.proofs.ends.Begins.{entry_off}
use Rattle.compiler_theorem.proofs.theorem.Asked.{asked_kept}
use Rattle.compiler_theorem.proofs.theorem.Begins.{begun_once}
use Rattle.compiler_theorem.proofs.theorem.Framing.{plain, sources_given}
use Rattle.compiler_theorem.proofs.theorem.Renewing.{all_kept}
use Rattle.compiler_theorem.proofs.theorem.Stepping.{called, places, same, switches}
use Rattle.compiler_theorem.specs.theorem.Anew.{Anew, IsAnewOf}
use Rattle.compiler_theorem.specs.theorem.Asked.{asking}
use Rattle.compiler_theorem.specs.theorem.Between.{renewing}
use Rattle.compiler_theorem.specs.theorem.Built.{building}
use Rattle.compiler_theorem.specs.theorem.Entries.{IsEntryCall, Run}
use Rattle.compiler_theorem.specs.theorem.Lowered.{HasFewBytes, IsLowered, Lowered, early, edged}
use Rattle.compiler.specs.ir_laws.facts.sound_states.Named.{HasNamedLocals}
use Rattle.compiler.specs.ir_model.Names.{function_at, no_function, position_of}
use Rattle.compiler.specs.ir_model.declared.instr.Instr.{Instr}
use Rattle.compiler.specs.ir_model.declared.module.Function.{Function}
use Rattle.compiler.specs.pass_cells.Kept.{entry}
use Rattle.compiler.specs.ir_base.declared.outcome.Outcome.{Outcome}
use Rattle.pass_frames_meaning.proofs.ends.All.{ends_known}
use Rattle.pass_frames_meaning.proofs.ends.BasedHooks.{states_based}
use Rattle.pass_frames_meaning.proofs.ends.FreshHooks.{states_fresh}
use Rattle.pass_frames_meaning.proofs.ends.Leads.{leads_to_none}
use Rattle.pass_frames_meaning.proofs.others.Returns.{no_return}
use Rattle.pass_frames_meaning.specs.Based.{AreBegunOnce, IsBasedState}
use Rattle.pass_frames_meaning.specs.Called.{IsCalledState}
use Rattle.pass_frames_meaning.specs.Coroutines.{HasStorables, MayFollow}
use Rattle.pass_frames_meaning.specs.Ends.{AreEndsKnown, KeepsEnds, MayGoOn, MayLeaveEdge}
use Rattle.pass_frames_meaning.specs.Fresh.{AreBareBlocks, IsFreshState, LeadsToNone}
use Rattle.pass_frames_meaning.specs.Setting.{AreOfRuns, KeepsAll, Setting}
use Rattle.pass_frames_meaning.specs.Led.{IsBegunOnce, IsLedState}
use Rattle.pass_frames_meaning.specs.pass_frames_proof.Places.{edged as edged_of, is_return, offsets}
use Rattle.pass_frames_meaning.specs.pass_frames_proof.Related.{AreBuiltOf, is_coroutine}
use Rattle.pass_frames_meaning.specs.pass_frames_proof.Stepping.{IsNotEntering}
use Rattle.compiler.proofs.pass_proofs.kept.sources.Whole.{split_rules}
use Rattle.pass_frames_meaning.specs.pass_renewed_proof.Renewed.{RenewedGiven, renewed_step}
use Rattle.compiler.specs.run_agreement.Machines.{IsFine}
use Rattle.compiler.specs.run_framed.Framed.{begin_name}
use Rattle.pass_frames_meaning.proofs.run_hooks.Keeping.{renewed_keeps}
use Rattle.pass_frames_meaning.proofs.run_hooks.PlacedKeeping.{renewed_keeps_placed}
use Rattle.pass_frames_meaning.proofs.run_hooks.PlacedSteps.{states_placed}
use Rattle.pass_frames_meaning.specs.run_hooks.Away.{IsPlacedState}
use Rattle.pass_frames_meaning.specs.run_hooks.Hooks.{hooked_state_at}
use Rattle.pass_frames_meaning.specs.run_hooks.Meanings.{renewed_hooks}
use Rattle.compiler.specs.run_source.Source.{first_state}
use Rattle.compiler.specs.run_source.declared.state.State.{State}
use Rattle.compiler.specs.run_step.Runs.{iterate}
use Rattle.compiler.specs.run_step.Step.{AtInstr, fetch}

module _ (l : Lowered) (low : IsLowered l) (few : HasFewBytes l) (a : Anew) (anew : IsAnewOf (early l) a) (r : Run)
    (entered : IsEntryCall l.source r) where
  abbrev g : RenewedGiven
  g = renewing l a r

  abbrev run : ℕ → State
  run n = iterate (renewed_step (renewing l a r)) n (first_state (edged l) r.entry r.args)

  once : AreBegunOnce (edged l)
  once func v e = on (slice_get (edged l).functions func) refl e
    where
      on : (o : Option Function) → slice_get (edged l).functions func ≡ o
          → begin_name (unwrap_or o no_function) ≡ Some v
          → IsBegunOnce (unwrap_or o no_function) v
      on None there named = absurd (cc)
      on (Some f) there named =
          begun_once (edged l) func f (split_rules l.text l.source low.source.stands low.source.accepted func f there)
          (subst HasNamedLocals (ap (λ (o : Option Function). unwrap_or o no_function) there)
          ((all_kept l low a anew r entered few).locals func)) v named

  entry_plain : (function_at (edged l) r.entry).coroutine ≡ false
  entry_plain =
      let p = plain l low a r anew entered in
      ap (λ (f : Function). f.coroutine) ((sources_given l low a r).others r.entry p) ∙ p

  placed : (n : ℕ) → IsPlacedState (renewed_hooks (renewing l a r)) (run n)
  placed n =
      subst (IsPlacedState (renewed_hooks g)) (sym (same l low few a anew r entered n))
      (states_placed (renewed_hooks g) (switches l low few a anew r entered) (renewed_keeps g)
      (places l low few a anew r entered) (renewed_keeps_placed g) r.entry r.args n)

  pub based : (n : ℕ) → IsBasedState (edged l) (run n)
  based n =
      subst (IsBasedState (edged l)) (sym (same l low few a anew r entered n))
      (states_based g once r.entry r.args entry_plain
      (λ k. subst (IsCalledState (edged l)) (same l low few a anew r entered k)
      (called l low few a anew r entered k)) n)

  pub may_go_on : (counts : ℕ → ℕ → Bool)
      → ((func v d : ℕ) → is_coroutine (building l low.is_framed r.answers) func ≡ true
      → v < length (edged_of ((building l low.is_framed r.answers).framing func)).names
      → entry (offsets ((building l low.is_framed r.answers).framing func)) v ≡ Some d → counts func v ≡ true)
      → (n : ℕ)
      → IsLedState (edged l) counts (iterate (renewed_step (renewing l a r)) n (first_state (edged l) r.entry r.args))
      → MayGoOn (asking l low a r)
      (iterate (renewed_step (renewing l a r)) n (first_state (edged l) r.entry r.args))
  may_go_on counts counted n led = record {
    placed = placed n;
    based = based n;
    counts = counts;
    counted = counted;
    led = led;
  }

  -- ---- blocks on resume and destroy edges

  abbrev c : Setting
  c = asking l low a r

  all : KeepsAll (asking l low a r)
  all = asked_kept l low few a anew r

  keeps : KeepsEnds (asking l low a r)
  keeps = ends_kept l low a r few anew entered

  -- of coroutines
  abbrev on_edge : ℕ → ℕ → Bool
  on_edge func block =
      is_coroutine (building l low.is_framed r.answers) func
      && is_return ((building l low.is_framed r.answers).framing func) block

  bare_blocks : AreBareBlocks (edged l) on_edge
  bare_blocks = record {
    later = λ func. by func (is_coroutine c.b func) refl;
    bare = λ func block at i here. of_instr func block at i here (is_coroutine c.b func) refl;
  }
    where
      by : (func : ℕ) (b : Bool) → is_coroutine c.b func ≡ b → (b && is_return (c.b.framing func) 0) ≡ false
      by func false e = refl
      by func true e = entry_off (c.b.framing func) (all.given.framings func e)

      of_instr : (func block at : ℕ) (i : Instr) → fetch (function_at (edged l) func) block at ≡ AtInstr i → (b : Bool)
          → is_coroutine c.b func ≡ b → (b && is_return (c.b.framing func) block) ≡ false
      of_instr func block at i here false e = refl
      of_instr func block at i here true e = no_return c all func block at i e here

  leads : (s : State) → IsPlacedState (renewed_hooks (renewing l a r)) s
      → LeadsToNone (renewed_hooks (renewing l a r)) on_edge s
  leads s at t label here does = by (is_coroutine c.b s.top.func) refl
    where
      to : ℕ
      to = position_of (function_at (edged l) s.top.func) label

      by : (b : Bool) → is_coroutine c.b s.top.func ≡ b
          → (b && is_return (c.b.framing s.top.func) (position_of (function_at (edged l) s.top.func) label)) ≡ false
      by false e = refl
      by true e =
          ap (λ (h : Function). is_return (c.b.framing s.top.func) (position_of h label))
          (all.given.coroutines s.top.func e)
          ∙ leads_to_none c all keeps s e at t here label does

  fresh : (n : ℕ) → IsFreshState on_edge (run n)
  fresh n =
      subst (IsFreshState on_edge) (sym (same l low few a anew r entered n))
      (states_fresh g on_edge bare_blocks r.entry r.args
      (λ k. subst (IsCalledState (edged l)) (same l low few a anew r entered k) (called l low few a anew r entered k))
      (λ k. subst (IsPlacedState (renewed_hooks g)) (same l low few a anew r entered k) (placed k))
      (λ k. leads (hooked_state_at (renewed_hooks g) r.entry r.args k)
      (subst (IsPlacedState (renewed_hooks g)) (same l low few a anew r entered k) (placed k))) n)

  pub may_leave_edge : (n : ℕ)
      → HasStorables (asking l low a r)
      (iterate (renewed_step (renewing l a r)) n (first_state (edged l) r.entry r.args))
      → MayLeaveEdge (asking l low a r)
      (iterate (renewed_step (renewing l a r)) n (first_state (edged l) r.entry r.args))
  may_leave_edge n storables = record {
    storables = storables;
    woken = λ coroutine returned. (fresh n).fresh (inl (both coroutine returned));
  }
    where
      both : {p q : Bool} → p ≡ true → q ≡ true → (p && q) ≡ true
      both e f = (λ i. e i && f i)

  -- ---- in all

  abbrev at_step : ℕ → State
  at_step n = iterate (renewed_step (renewing l a r)) n (first_state (edged l) r.entry r.args)

  pub known : (counts : ℕ → ℕ → Bool)
      → ((func v d : ℕ) → is_coroutine (building l low.is_framed r.answers) func ≡ true
      → v < length (edged_of ((building l low.is_framed r.answers).framing func)).names
      → entry (offsets ((building l low.is_framed r.answers).framing func)) v ≡ Some d → counts func v ≡ true)
      → (n : ℕ) (t : State) (built : AreBuiltOf (building l low.is_framed r.answers) (at_step n) t)
      → AreOfRuns (asking l low a r) (at_step n) t built → (at_step n).outcome ≡ Outcome.Running
      → IsFine (renewed_step (renewing l a r) (at_step n)).outcome
      → is_coroutine (building l low.is_framed r.answers) (at_step n).top.func ≡ true
      → IsNotEntering (at_step n).top.mode → MayFollow (asking l low a r) (at_step n)
      → HasStorables (asking l low a r) (at_step n) → IsLedState (edged l) counts (at_step n)
      → AreEndsKnown (asking l low a r) (at_step n) t
  known counts counted n t built of_runs runs fine coroutine mode may storables led =
      ends_known c all keeps (edges_kept l low a r few anew entered) (at_step n) t built of_runs runs fine coroutine
      mode may (may_go_on counts counted n led) (may_leave_edge n storables)
