-- Accepted sources keep what invariants of runs ask: as they are, behind the first pass, and with blocks on edges.
use Rattle.std.proofs.Common.{◌≡◌, ℕ, ℤ, Bool, true, false, List, Option, Some, None, refl, sym, ap, ◌∙◌, subst}
use Rattle.std.proofs.lemmas.Option.{slice_get-map}
use Rattle.std.specs.Prelude.{option_map, slice_get, unwrap_or, if◌then◌else◌}
use Rattle.pass_proofs.specs.ir_base.declared.outcome.Word.{Word}
use Rattle.pass_proofs.specs.ir_model.Names.{function_at, no_function}
use Rattle.pass_proofs.specs.ir_model.Ty.{Ty}
use Rattle.pass_proofs.specs.ir_model.declared.instr.Instr.{Instr}
use Rattle.pass_proofs.specs.ir_model.declared.module.Frame.{Frame}
use Rattle.pass_proofs.specs.ir_model.declared.module.Function.{Function}
use Rattle.pass_proofs.specs.ir_model.declared.module.Module.{Module}
use Rattle.pass_proofs.specs.ir_model.declared.operand.Arg.{Arg}
use Rattle.pass_proofs.specs.ir_model.declared.operand.Intrinsic.{Intrinsic}
use Rattle.pass_proofs.specs.ir_model.declared.operand.Operand.{Operand}
use Rattle.pass_proofs.specs.ir_paths.Facts.{facts_of}
use Rattle.pass_proofs.specs.ir_paths.declared.point.Point.{Point}
use Rattle.pass_proofs.specs.pass_early.Early.{early_function, early_module}
use Rattle.pass_proofs.specs.pass_edges.EdgeBlocks.{with_edge_blocks}
use Rattle.pass_proofs.specs.pass_kept_proof.Handed.{HasPlainNames}
use Rattle.pass_proofs.specs.pass_kept_proof.SuspendRules.{IsCallAt, KeepsSuspendRules}
use Rattle.pass_proofs.proofs.early.path_rules.RenamedOperands.{map_was}
use Rattle.pass_proofs.proofs.early.widths.Widths.{early_widths}
use Rattle.pass_proofs.proofs.edges.rules.Kept.{suspend_blocks}
use Rattle.pass_proofs.proofs.edges.shape.Kept.{calls_kept, switches_kept}
use Rattle.pass_proofs.proofs.edges.widths.Widths.{edge_widths}
use Rattle.pass_proofs.proofs.kept.sources.Closed.{not_behind_end}
use Rattle.pass_proofs.proofs.kept.sources.EdgeWindows.{edges_keep}
use Rattle.pass_proofs.proofs.kept.sources.Modules.{at_function, early_coroutines_keep, early_has_paths}
use Rattle.pass_proofs.proofs.kept.sources.Modules.{early_has_shape, early_rules}
use Rattle.pass_proofs.proofs.kept.sources.Names.{none_outside, suspend_inside}
use Rattle.pass_proofs.proofs.kept.sources.Whole.{edges_kept, of_split, split_keeps, split_named}
use Rattle.pass_proofs.proofs.kept.sources.Whole.{split_rules}
use Rattle.pass_proofs.specs.edges.states.MovedState.{KeepsEdges, edge_function, edges_split}
use Rattle.pass_renewed_meaning.specs.Rules.{KeepsStepRules}
use Rattle.pass_renewed_meaning.specs.pass_renewed_proof.Ledger.{AreSmallGlobals}
use Rattle.pass_renewed_meaning.specs.pass_renewed_proof.SlotRules.{AreSteady, KeepsSlots}
use Rattle.pass_proofs.specs.rule_all.Refused.{IsRefused}
use Rattle.pass_proofs.proofs.rule_laws.rules.path_rules.Passes.{accepted_paths, accepted_shape}
use Rattle.pass_proofs.proofs.rule_laws.rules.widths.Written.{text_wide}
use Rattle.pass_proofs.specs.rule_laws.frames.rows.Returns.{HaveOwnReturns}
use Rattle.pass_proofs.specs.rule_laws.rules.counted.Widths.{first_other_width}
use Rattle.pass_proofs.specs.rule_laws.rules.function_rules.Kept.{AllKeepFunctionRules, KeepsFunctionRules}
use Rattle.pass_proofs.specs.rule_names.declared.stage.Stage.{Stage}
use Rattle.pass_proofs.specs.rule_shape.OneOfEach.{wrong_call}
use Rattle.pass_proofs.specs.rule_shape.Switches.{wrong_switch}
use Rattle.pass_proofs.specs.rule_windows.Sets.{IsAfterEnd}
use Rattle.run_accepted.proofs.Alive.{plain_keeps}
use Rattle.run_accepted.proofs.Edges.{after_from, edges_keep_alive, edges_keep_places}
use Rattle.run_accepted.proofs.Modules.{all_alive, all_places, all_switches, all_types, keeps_alive, keeps_places}
use Rattle.run_accepted.proofs.Modules.{keeps_suspends}
use Rattle.run_accepted.proofs.Places.{plain_places_kept}
use Rattle.run_accepted.proofs.Plain.{none_behind_end}
use Rattle.run_accepted.proofs.Slots.{HasSlotTables, begin_ends, slots_kept}
use Rattle.run_accepted.proofs.Sources.{source_rules}
use Rattle.run_accepted.proofs.Steps.{no_phis, no_steps, small_globals, steps_kept}
use Rattle.pass_renewed_meaning.proofs.run_hooks.Keeping.{source_keeps}
use Rattle.pass_renewed_meaning.proofs.run_hooks.Steps.{same_runs, source_step}
use Rattle.pass_renewed_meaning.proofs.run_hooks.alive.Apart.{are_apart}
use Rattle.pass_renewed_meaning.proofs.run_hooks.alive.Runs.{source_alive}
use Rattle.pass_renewed_meaning.specs.run_hooks.Away.{KeepsAllPlaceRules, KeepsPlaceRules}
use Rattle.pass_renewed_meaning.specs.run_hooks.Hooks.{step_of}
use Rattle.pass_renewed_meaning.specs.run_hooks.Meanings.{source_hooks}
use Rattle.pass_renewed_meaning.specs.run_hooks.Reached.{AllHaveSwitches}
use Rattle.pass_renewed_meaning.specs.run_hooks.alive.Alive.{KeepsAliveRules, KeepsAllAliveRules}
use Rattle.pass_renewed_meaning.specs.run_hooks.alive.Apart.{LiveAreApart}
use Rattle.pass_proofs.specs.run_source.Source.{continue, first_state, given, state_at, step}
use Rattle.pass_proofs.specs.run_source_tables.Given.{Given}
use Rattle.pass_proofs.specs.run_step.Step.{AtInstr, fetch}
use Rattle.pass_renewed_meaning.proofs.run_types.Meanings.{source_keeps_fitting}
use Rattle.pass_renewed_meaning.proofs.run_types.Runs.{states_fit}
use Rattle.pass_renewed_meaning.specs.run_types.Rules.{KeepsAllTypes}
use Rattle.pass_renewed_meaning.specs.run_types.States.{AreArguments, IsFittingState}
use Rattle.pass_proofs.proofs.text_canonical.order.Shaped.{text_is_shaped}
use Rattle.pass_proofs.specs.text_grammar.Text.{StandsFor}

module _ (text : List ℕ) (m : Module) (stands : StandsFor text m) (accepted : IsRefused Stage.Source m None) where
  -- ---- the source

  rules : AllKeepFunctionRules m
  rules = source_rules text m stands accepted

  pub switches : AllHaveSwitches m
  switches = all_switches m (keeps_suspends m rules (accepted_shape m accepted) (accepted_paths m accepted))

  pub types : KeepsAllTypes m
  types = all_types m rules (text_wide text m stands)

  module _ (sizes : List Frame) (answers : List ℤ) where
    pub places : KeepsAllPlaceRules (given m sizes answers)
    places = all_places m (keeps_places m rules (accepted_shape m accepted) (accepted_paths m accepted)) sizes answers

    pub alive_rules : KeepsAllAliveRules (given m sizes answers)
    alive_rules = all_alive m (keeps_alive m rules (accepted_shape m accepted) (accepted_paths m accepted)) sizes
        answers

    pub apart : (entry : ℕ) (args : List Word) (n : ℕ) → LiveAreApart m (state_at (given m sizes answers) entry args n)
    apart entry args n = are_apart m (state_at (given m sizes answers) entry args n)
        (source_alive (given m sizes answers) (λ func v. true) entry args n alive_rules places switches)

    pub values_fit : (entry : ℕ) (args : List Word) (n : ℕ) → AreArguments m entry args
        → IsFittingState m (state_at (given m sizes answers) entry args n)
    values_fit entry args n fitting =
        let g : Given = given m sizes answers in
        let e = same_runs (step g) (step_of (source_hooks g)) (source_step g (continue g)) n
        (first_state m entry args) in
        subst (IsFittingState m) (sym e)
        (states_fit (source_hooks g) switches (source_keeps g) types (source_keeps_fitting g types) entry args n
        fitting)

  -- ---- behind the first pass

  abbrev m2 : Module
  m2 = early_module m

  early_places : (k : ℕ) (f : Function) → slice_get (early_module m).functions k ≡ Some f
      → KeepsPlaceRules (early_module m) f
  early_places = keeps_places m2 (early_rules text m stands accepted) (early_has_shape text m stands accepted)
      (early_has_paths text m stands accepted)

  early_alive : (k : ℕ) (f : Function) → slice_get (early_module m).functions k ≡ Some f
      → KeepsAliveRules f (facts_of f).ramp_slots
  early_alive = keeps_alive m2 (early_rules text m stands accepted) (early_has_shape text m stands accepted)
      (early_has_paths text m stands accepted)

  -- ---- with blocks on edges

  abbrev m3 : Module
  m3 = edges_split (early_module m)

  pub edged_switches : AllHaveSwitches (edges_split (early_module m))
  edged_switches = all_switches m3 (split_keeps text m stands accepted)

  rules_now : AllKeepFunctionRules (edges_split (early_module m))
  rules_now = split_rules text m stands accepted

  -- a coroutine of the first pass's module stands there with blocks on its edges
  module _ (k : ℕ) (f : Function) (there : slice_get (early_module m).functions k ≡ Some f)
      (coroutine : f.coroutine ≡ true) where
    there_now : slice_get (edges_split (early_module m)).functions k ≡ Some (with_edge_blocks f)
    there_now = slice_get-map edge_function m2.functions k ∙ ap (option_map edge_function) there
        ∙ ap (λ (b : Bool). Some (if b then with_edge_blocks f else f)) coroutine

    old_rules : KeepsFunctionRules (early_module m) k f
    old_rules = early_rules text m stands accepted k f there

    calls_now : wrong_call k (with_edge_blocks f) ≡ None
    calls_now = let shape = early_has_shape text m stands accepted k f there in
        calls_kept m2 k f old_rules coroutine shape.calls shape.switches

    switches_now : wrong_switch k (with_edge_blocks f) ≡ None
    switches_now = let shape = early_has_shape text m stands accepted k f there in
        switches_kept m2 k f old_rules coroutine shape.calls shape.switches

    keeps_edges : KeepsEdges f
    keeps_edges = edges_kept text m stands accepted k f there coroutine

    suspends_now : KeepsSuspendRules (with_edge_blocks f)
    suspends_now = edges_keep f keeps_edges (early_coroutines_keep text m stands accepted k f there coroutine)

    coroutine_places : KeepsPlaceRules (edges_split (early_module m)) (with_edge_blocks f)
    coroutine_places = edges_keep_places f keeps_edges m3 k coroutine (rules_now k (with_edge_blocks f) there_now)
        calls_now switches_now suspends_now m2 (early_places k f there)

    coroutine_alive : KeepsAliveRules (with_edge_blocks f) (facts_of (with_edge_blocks f)).ramp_slots
    coroutine_alive = edges_keep_alive f keeps_edges m3 k coroutine (rules_now k (with_edge_blocks f) there_now)
        calls_now switches_now suspends_now (early_alive k f there)

  edged_places_at : (k : ℕ) (h : Function) → slice_get (edges_split (early_module m)).functions k ≡ Some h
      → KeepsPlaceRules (edges_split (early_module m)) h
  edged_places_at k h e = on h.coroutine refl
    where
      on : (b : Bool) → h.coroutine ≡ b → KeepsPlaceRules (edges_split (early_module m)) h
      on true c = of_split text m stands accepted (λ j g. KeepsPlaceRules (edges_split (early_module m)) g)
          coroutine_places k h e c
      on false c = plain_places_kept m3 k h (rules_now k h e) c

  edged_alive_at : (k : ℕ) (h : Function) → slice_get (edges_split (early_module m)).functions k ≡ Some h
      → KeepsAliveRules h (facts_of h).ramp_slots
  edged_alive_at k h e = on h.coroutine refl
    where
      on : (b : Bool) → h.coroutine ≡ b → KeepsAliveRules h (facts_of h).ramp_slots
      on true c = of_split text m stands accepted (λ j g. KeepsAliveRules g (facts_of g).ramp_slots) coroutine_alive k
          h e c
      on false c = plain_keeps m3 k h (rules_now k h e) c

  edged_widths : (k : ℕ) (h : Function) → slice_get (edges_split (early_module m)).functions k ≡ Some h
      → first_other_width k h ≡ None
  edged_widths k h e =
      let x = map_was edge_function m2.functions k h e in
      let y = map_was early_function m.functions k x.0 x.1.0 in
      let early : first_other_width k x.0 ≡ None =
      subst (λ (f : Function). first_other_width k f ≡ None) (sym y.1.1)
      (early_widths k y.0 (text_wide text m stands k y.0 y.1.0)) in
      subst (λ (f : Function). first_other_width k f ≡ None) (sym x.1.1) (on k x.0 x.0.coroutine early)
    where
      on : (k : ℕ) (f : Function) (b : Bool) → first_other_width k f ≡ None
          → first_other_width k (if b then with_edge_blocks f else f) ≡ None
      on k f true w = edge_widths k f w
      on k f false w = w

  pub edged_types : KeepsAllTypes (edges_split (early_module m))
  edged_types = all_types m3 rules_now edged_widths

  module _ (sizes : List Frame) (answers : List ℤ) where
    pub edged_places : KeepsAllPlaceRules (given (edges_split (early_module m)) sizes answers)
    edged_places = all_places m3 edged_places_at sizes answers

    pub edged_alive : KeepsAllAliveRules (given (edges_split (early_module m)) sizes answers)
    edged_alive = all_alive m3 edged_alive_at sizes answers

  -- ---- what steps of runs that make slots anew ask

  edged_steps_at : (k : ℕ) (h : Function) → slice_get (edges_split (early_module m)).functions k ≡ Some h
      → KeepsStepRules (edges_split (early_module m)) h
  edged_steps_at k h e = on h.coroutine refl
    where
      in_coroutine : (j : ℕ) (f : Function) → slice_get (early_module m).functions j ≡ Some f → f.coroutine ≡ true
          → HaveOwnReturns (with_edge_blocks f)
      in_coroutine j f there c = suspend_blocks m2 j f (old_rules j f there c) c
          (early_has_shape text m stands accepted j f there).switches

      on : (b : Bool) → h.coroutine ≡ b → KeepsStepRules (edges_split (early_module m)) h
      on true c = steps_kept m3 k h (rules_now k h e) (edged_alive_at k h e) (edged_widths k h e)
          (no_phis m3 k h (rules_now k h e) (of_split text m stands accepted (λ j g. HaveOwnReturns g) in_coroutine k h
          e c))
      on false c = steps_kept m3 k h (rules_now k h e) (edged_alive_at k h e) (edged_widths k h e)
          (λ s x. absurd (none_outside m3 k h (rules_now k h e) c s.block s.at x.instr Intrinsic.CoroSuspend
          suspend_inside x.stands x.is))

  pub edged_steps : (func : ℕ) → KeepsStepRules (edges_split (early_module m))
      (function_at (edges_split (early_module m)) func)
  edged_steps = at_function (KeepsStepRules m3) m3 (no_steps m3) edged_steps_at

  -- ---- what is asked of slots that are made anew

  -- K5: no begin stands behind the end
  edged_begins_at : (k : ℕ) (h : Function) → slice_get (edges_split (early_module m)).functions k ≡ Some h
      → (p : Point) → IsAfterEnd h p → IsCallAt Intrinsic.CoroBegin h p → ⊥
  edged_begins_at k h e = on h.coroutine refl
    where
      in_coroutine : (j : ℕ) (f : Function) → slice_get (early_module m).functions j ≡ Some f → f.coroutine ≡ true
          → (p : Point) → IsAfterEnd (with_edge_blocks f) p → IsCallAt Intrinsic.CoroBegin (with_edge_blocks f) p → ⊥
      in_coroutine j f there c p a call =
          let x = after_from f (keeps_edges j f there c) Intrinsic.CoroBegin p a call in
          not_behind_end j f c (early_has_paths text m stands accepted j f there).outside Intrinsic.CoroBegin begin_ends
          x.0 x.1.0 x.1.1

      on : (b : Bool) → h.coroutine ≡ b → (p : Point) → IsAfterEnd h p → IsCallAt Intrinsic.CoroBegin h p → ⊥
      on true c = of_split text m stands accepted (λ j g. (p : Point) → IsAfterEnd g p
          → IsCallAt Intrinsic.CoroBegin g p → ⊥) in_coroutine k h e c
      on false c = λ p a call. none_behind_end m3 k h (rules_now k h e) c p a

  pub edged_slots : (k : ℕ) (h : Function) → slice_get (edges_split (early_module m)).functions k ≡ Some h
      → (flags : ℕ → Bool) (roots : ℕ → Option ℕ) → HasSlotTables h flags roots
      → ((name block at : ℕ) (inbounds : Bool) (ty : Ty) (base : Operand) (indices : List Arg)
      → fetch h block at ≡ AtInstr (Instr.Gep name inbounds ty base indices)
      → AreSteady (edges_split (early_module m)) ty indices)
      → KeepsSlots (edges_split (early_module m)) h flags roots
  edged_slots k h e flags roots tables steady =
      let same : function_at (edges_split (early_module m)) k ≡ h =
      ap (λ (o : Option Function). unwrap_or o no_function) e in
      slots_kept m3 k h (rules_now k h e) flags roots tables (edged_alive_at k h e) (edged_places_at k h e)
      (subst KeepsSuspendRules same (split_keeps text m stands accepted k))
      (subst HasPlainNames same (split_named text m stands accepted k)) (edged_begins_at k h e) steady

  pub edged_globals : AreSmallGlobals (edges_split (early_module m))
  edged_globals = small_globals m.globals (text_is_shaped text m stands).globals
