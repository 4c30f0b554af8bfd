-- Each slot of an activation of the framed form is among the slots that its facts tell of.
use Rattle.std.proofs.Common.{◌≡◌, ℕ, Bool, true, false, List, [], ◌∷◌, inl, inr, map, refl, sym, ap, ◌∙◌, subst}
use Rattle.std.proofs.lemmas.Option.{slice_get-map}
use Rattle.std.specs.List.{Contains}
use Rattle.std.specs.Prelude.{None, Option, Some, option_map, slice_get, unwrap_or}
use Rattle.compiler.proofs.whole.exit_sources.Accepted.{exits_kept}
use Rattle.compiler.proofs.whole.lowered_sources.Row.{is_ready}
use Rattle.compiler.specs.cleanup.accepted.Ready.{IsReady}
use Rattle.compiler_theorem.proofs.parts.Saves.{form_leads}
use Rattle.compiler_theorem.proofs.woken.FramedRuns.{framed_rules}
use Rattle.compiler_theorem.specs.theorem.Built.{building}
use Rattle.compiler_theorem.specs.theorem.Entries.{Run}
use Rattle.compiler_theorem.specs.theorem.Lowered.{IsLowered, Lowered}
use Rattle.compiler.specs.flow_solver.Paths.{IsListed}
use Rattle.compiler.specs.ir_model.Names.{function_at, no_function}
use Rattle.compiler.specs.ir_model.declared.instr.Instr.{Instr}
use Rattle.compiler.specs.ir_model.declared.module.Function.{Function}
use Rattle.compiler.specs.ir_model.declared.operand.Intrinsic.{Intrinsic}
use Rattle.compiler.specs.ir_paths.Slots.{allocas_of, has_name}
use Rattle.compiler.specs.ir_paths.declared.point.Facts.{Facts}
use Rattle.compiler.specs.ir_paths.declared.point.Point.{Point}
use Rattle.pass_frames_meaning.proofs.pass_frames_proof.lines.Cells.{contained}
use Rattle.compiler.specs.pass_kept_proof.SuspendRules.{IsCallAt}
use Rattle.compiler.proofs.pass_proofs.kept.sources.Names.{save_inside, suspend_inside}
use Rattle.compiler.proofs.pass_proofs.kept.sources.Suspends.{is_switched}
use Rattle.pass_split_proof.proofs.ready.Rules.{function_of_instr}
use Rattle.run_accepted.proofs.Alive.{listed}
use Rattle.run_accepted.proofs.Once.{made_once}
use Rattle.run_accepted.proofs.Plain.{no_call}
use Rattle.compiler.specs.run_framed.Framed.{FramedGiven, framed_facts, framed_state_at, framed_step}
use Rattle.pass_frames_meaning.proofs.run_hooks.Keeping.{framed_keeps}
use Rattle.pass_frames_meaning.proofs.run_hooks.Reaching.{states_reached}
use Rattle.pass_frames_meaning.proofs.run_hooks.Steps.{framed_steps, same_runs}
use Rattle.pass_frames_meaning.specs.run_hooks.Hooks.{step_of}
use Rattle.pass_frames_meaning.specs.run_hooks.Meanings.{framed_hooks}
use Rattle.pass_frames_meaning.specs.run_hooks.Reached.{AllHaveSwitches, HasSwitches}
use Rattle.pass_frames_meaning.proofs.run_slots.Made.{states_made}
use Rattle.pass_frames_meaning.proofs.run_slots.MadeMeanings.{framed_keeps_made}
use Rattle.pass_frames_meaning.specs.run_slots.Made.{AreMade, IsMadeAt, IsMadeState}
use Rattle.compiler.specs.run_source.Source.{first_state, is_among}
use Rattle.compiler.specs.run_source.State.{own_facts}
use Rattle.compiler.specs.run_source.declared.state.State.{State}
use Rattle.compiler.specs.run_source_tables.Given.{facts_at}
use Rattle.compiler.specs.run_step.declared.world.Slot.{Slot}

none_there : (x : Intrinsic) (p : Point) → IsCallAt x no_function p → ⊥
none_there x p c = let none = c.stands in absurd (cc)

of_made : (f : Function) (ss : List Slot) (slot : Slot) → AreMade f ss → IsListed slot ss → IsMadeAt f slot.alloca
of_made f [] slot h k = absurd k
of_made f (s ∷ ss) slot h (inl e) = subst (λ (z : Slot). IsMadeAt f z.alloca) (sym e) h.0
of_made f (s ∷ ss) slot h (inr k) = of_made f ss slot h.1 k

module _ (l : Lowered) (low : IsLowered l) where
  ready : IsReady l.layouts l.framed
  ready = is_ready l.text l.source low.source.stands low.source.accepted l.share l.layouts low.laid l.framed
      low.is_framed

  -- in the framed form too a suspend is followed by its switch, and a path leads to it from its save
  pub framed_switches : AllHaveSwitches l.framed
  framed_switches func = on (slice_get l.framed.functions func) refl
    where
      of_kind : (g : Function) → slice_get l.framed.functions func ≡ Some g → (b : Bool) → g.coroutine ≡ b
          → HasSwitches g
      of_kind g e false plain = record {
        switched = λ s c.
            absurd (no_call l.framed func g (ready.plain func g e plain).rules plain Intrinsic.CoroSuspend
            suspend_inside s c);
        leads = λ k s c pair.
            absurd (no_call l.framed func g (ready.plain func g e plain).rules plain Intrinsic.CoroSave save_inside k c);
      }
      of_kind g e true marked = record {
        switched = λ s c. is_switched func g marked (exits_kept l.text l.source low.source.stands low.source.accepted
            l.share l.layouts low.laid l.framed low.is_framed func g e marked).switches s c;
        leads = form_leads l low func g e marked;
      }

      on : (o : Option Function) → slice_get l.framed.functions func ≡ o → HasSwitches (unwrap_or o no_function)
      on None e = record {
        switched = λ s c. absurd (none_there Intrinsic.CoroSuspend s c);
        leads = λ k s c pair. absurd (none_there Intrinsic.CoroSave k c);
      }
      on (Some g) e = of_kind g e g.coroutine refl

  module _ (r : Run) (n : ℕ) where
    abbrev h : FramedGiven
    h = (building l low.is_framed r.answers).given

    abbrev t : State
    t = framed_state_at h r.entry r.args n

    abbrev f : Function
    f = function_at l.framed t.top.func

    made : IsMadeState l.framed (framed_state_at (building l low.is_framed r.answers).given r.entry r.args n)
    made = subst (IsMadeState l.framed)
        (sym (same_runs (framed_step h) (step_of (framed_hooks h)) (framed_steps h) n
        (first_state l.framed r.entry r.args)))
        (states_made (framed_hooks h) (framed_keeps_made h) r.entry r.args
        (λ k. states_reached (framed_hooks h) framed_switches (framed_keeps h) r.entry r.args k) n)

    all_allocas : (k : ℕ) → slice_get l.framed.functions k ≡ Some (function_at l.framed k)
        → (facts_at (map framed_facts l.framed.functions) k).ramp_slots ≡ allocas_of (function_at l.framed k)
    all_allocas k there = ap (λ (o : Option Facts). (unwrap_or o (record { windows = []; ramp_slots = [] })).ramp_slots)
        (slice_get-map framed_facts l.framed.functions k ∙ ap (option_map framed_facts) there)

    pub framed_slots_own : (slot : Slot)
        → Contains (framed_state_at (building l low.is_framed r.answers).given r.entry r.args n).top.slots slot
        → is_among (own_facts (building l low.is_framed r.answers).given.given
        (framed_state_at (building l low.is_framed r.answers).given r.entry r.args n)).ramp_slots slot ≡ true
    framed_slots_own slot own =
        let w : IsMadeAt f slot.alloca = of_made f t.top.slots slot made.stack.0 (contained t.top.slots slot own) in
        let there = function_of_instr l.framed t.top.func w.block w.at (Instr.Alloca slot.alloca w.ty w.align) w.stands in
        ap (λ (vs : List ℕ). has_name vs slot.alloca) (all_allocas t.top.func there)
        ∙ listed f slot.alloca (made_once l.framed t.top.func f (framed_rules l low t.top.func there) slot.alloca w.ty
        w.align w.block w.at w.stands)
