-- A coroutine without fault of K2, K3, K6 and K7 keeps what is asked of saves, suspends and windows.
use Rattle.std.proofs.Common.{◌≡◌, ◌⊎◌, inl, inr, ℕ, suc, Bool, true, false, List, [], ◌∷◌, Option, Some, None, refl, sym, ap, ◌∙◌, subst}
use Rattle.std.specs.Prelude.{slice_get, map, ◌==◌, ◌||◌}
use Rattle.pass_early_proof.specs.rule_shape.OneOfEach.{wrong_call}
use Rattle.pass_early_proof.specs.rule_shape.Switches.{wrong_switch}
use Rattle.pass_early_proof.proofs.ir_laws.facts.Truth.{equal_numbers}
use Rattle.pass_early_proof.proofs.rule_laws.rules.renamed.Outside.{none_breaks}
use Rattle.pass_early_proof.proofs.rule_laws.rules.renamed.Uses.{result_spelt}
use Rattle.pass_early_proof.proofs.ir_laws.paths.renamed.Uses.{stands_in}
use Rattle.pass_early_proof.proofs.rule_laws.rules.path_rules.Holding.{of_parts}
use Rattle.pass_early_proof.proofs.rule_laws.rules.source_rules.Ends.{end_first}
use Rattle.pass_early_proof.proofs.rule_laws.rules.source_rules.Locals.{no_phi, own_label, same_instr}
use Rattle.pass_early_proof.specs.rule_laws.rules.path_rules.Paths.{KeepsPaths}
use Rattle.pass_early_proof.specs.rule_laws.rules.path_rules.Shape.{KeepsShape}
use Rattle.pass_early_proof.specs.flow_solver.Paths.{IsListed}
use Rattle.pass_early_proof.specs.rule_laws.rules.function_rules.Kept.{KeepsFunctionRules}
use Rattle.pass_early_proof.specs.ir_parts.Locals.{locals_of}
use Rattle.pass_early_proof.specs.ir_parts.Parts.{parts_of}
use Rattle.ir_model.specs.declared.instr.Instr.{Instr}
use Rattle.ir_model.specs.declared.instr.Phi.{Phi}
use Rattle.ir_model.specs.declared.module.Block.{Block}
use Rattle.ir_model.specs.declared.module.Function.{Function}
use Rattle.ir_model.specs.declared.module.Module.{Module}
use Rattle.ir_model.specs.declared.operand.Intrinsic.{Intrinsic}
use Rattle.pass_early_proof.proofs.ir_paths.Search.{led_to-complete, led_to-sound}
use Rattle.pass_early_proof.specs.ir_paths.Paths.{IsPath, Leads, has_point, led_to}
use Rattle.pass_early_proof.specs.ir_paths.Windows.{IsInWindow, instr_at, is_call_of, points_where, saves_of, suspend_of}
use Rattle.pass_early_proof.specs.ir_paths.declared.point.Point.{Point}
use Rattle.pass_edges_proof.proofs.kept.sources.Behind.{used_behind}
use Rattle.pass_early_proof.proofs.ir_laws.paths.source_rules.Windows.{only_one}
use Rattle.pass_early_proof.proofs.ir_laws.paths.sources.Listed.{pair_listed, point_listed}
use Rattle.pass_early_proof.proofs.rule_laws.rules.sources.Places.{instr_there, point}
use Rattle.pass_edges_proof.proofs.kept.sources.Suspends.{is_switched, is_unread}
use Rattle.pass_kept_proof.proofs.Read.{given_result}
use Rattle.pass_kept_proof.proofs.Rules.{suspend_is_suspend}
use Rattle.pass_kept_proof.specs.Needed.{IsNeededBehind, given_by, phis_give}
use Rattle.pass_kept_proof.specs.SuspendRules.{IsCallAt, IsGivenBy, IsPhiAt, KeepsSuspendRules}
use Rattle.pass_early_proof.specs.rule_names.Definitions.{first_twice}
use Rattle.pass_early_proof.specs.run_step.Step.{AtInstr, AtTerm, Fetched, Nowhere, fetch, phis_of}
use Rattle.pass_early_proof.specs.run_laws.changed.Changed.{result_of}
use Rattle.pass_early_proof.specs.rule_windows.Points.{place_of}
use Rattle.pass_early_proof.specs.rule_windows.Windows.{Between, BreaksSave, BreaksWindow, Call, IsFirstWindow, IsWrong, NoPath, NotOne, ends_window, passes as window_passes, suspends_of}
use Rattle.pass_early_proof.specs.rule_window_values.Kept.{AtSuspend, BreaksValue, ByInstr, ByPhi, Inside, IsFirstKept, IsMadeIn, IsUsedBehind, front, phi_results, phis_in}
use Rattle.pass_early_proof.proofs.ir_laws.paths.replaced.Known.{of_listed as each_at}
use Rattle.pass_early_proof.proofs.rule_laws.rules.source_rules.Windows.{end_ends}

-- a path that avoids points is a path
pub none_avoided : (f : Function) (avoided : List Point) (between : List Point) (p q : Point) → IsPath f avoided p between q → IsPath f [] p between q
none_avoided f avoided [] p q h = h
none_avoided f avoided (v ∷ between) p q h = (h.0, refl, none_avoided f avoided between v q h.2)

pub phis_listed : (v : ℕ) (ps : List Phi) → phis_give v ps ≡ true → IsListed v (map (λ p. p.result) ps)
phis_listed v [] h = absurd (cc)
phis_listed v (p ∷ ps) h = on (p.result == v) refl h (phis_listed v ps)
  where
    on : (b : Bool) → (p.result == v) ≡ b → (b || phis_give v ps) ≡ true → (phis_give v ps ≡ true → IsListed v (map (λ q. q.result) ps)) → IsListed v (p.result ∷ map (λ q. q.result) ps)
    on true e k again = inl (sym (equal_numbers p.result v e))
    on false e k again = inr (again k)

-- the phi that gives a value
record IsPhi (v : ℕ) (ps : List Phi) : Type 0 where
  at : ℕ
  phi : Phi
  there : slice_get ps at ≡ Some phi
  is : phi.result ≡ v

the_phi : (v : ℕ) (ps : List Phi) → phis_give v ps ≡ true → IsPhi v ps
the_phi v [] h = absurd (cc)
the_phi v (p ∷ ps) h = on (p.result == v) refl h (the_phi v ps)
  where
    on : (b : Bool) → (p.result == v) ≡ b → (b || phis_give v ps) ≡ true → (phis_give v ps ≡ true → IsPhi v ps) → IsPhi v (p ∷ ps)
    on true e k again = record { at = 0; phi = p; there = refl; is = equal_numbers p.result v e }
    on false e k again = let x = again k in record { at = suc x.at; phi = x.phi; there = x.there; is = x.is }

module _ (k : ℕ) (f : Function) (coroutine : f.coroutine ≡ true) (once : first_twice [] (locals_of k f) ≡ None) (calls : wrong_call k f ≡ None) (switches : wrong_switch k f ≡ None) (window : IsFirstWindow k f None) (kept : IsFirstKept k f None) where
  module _ (save s : Point) (c : IsCallAt Intrinsic.CoroSave f save) (pair : suspend_of f save ≡ Some s) where
    save_there : instr_at f save ≡ Some c.instr
    save_there = instr_there f save.block save.at c.instr c.stands

    not_broken : BreaksWindow f save → ⊥
    not_broken broken =
        each_at (λ x. BreaksSave f x → ⊥) (points_where (is_call_of Intrinsic.CoroSave) f) save
        (none_breaks (BreaksSave f) (place_of k f) (points_where (is_call_of Intrinsic.CoroSave) f) window)
        (point_listed (is_call_of Intrinsic.CoroSave) f save c.instr save_there c.is) (coroutine, broken)

    one_suspend : suspends_of f save ≡ s ∷ []
    one_suspend = only_one (suspends_of f save) s pair (λ h. not_broken (NotOne h))

    pub not_wrong : IsWrong f save s → ⊥
    not_wrong w = not_broken (Between s one_suspend w)

    -- K6: a path leads from the save to the suspend
    leads_between : Leads f (save ∷ s ∷ []) save s
    leads_between = on (has_point (led_to f (save ∷ s ∷ []) save) s) refl
      where
        on : (b : Bool) → has_point (led_to f (save ∷ s ∷ []) save) s ≡ b → Leads f (save ∷ s ∷ []) save s
        on true e = led_to-sound f (save ∷ s ∷ []) save s e
        on false e = absurd (not_wrong (NoPath (λ l. let t : true ≡ false = sym (led_to-complete f (save ∷ s ∷ []) save s l) ∙ e in absurd (cc))))

    leads : Leads f [] save s
    leads = record { between = leads_between.between; is_path = none_avoided f (save ∷ s ∷ []) leads_between.between save s leads_between.is_path }

    -- no end stands in the window
    no_end : (p : Point) → IsInWindow f save s p → IsCallAt Intrinsic.CoroEnd f p → ⊥
    no_end p inside e = not_wrong (Call (record { point = p; is_inside = inside; ends = ap (window_passes ends_window) (instr_there f p.block p.at e.instr e.stands) ∙ end_ends e.instr e.is }))

    -- K7: what is made in the window isn't used behind it
    suspend_block : (b : Block) × (slice_get f.blocks s.block ≡ Some b)
    suspend_block =
        let x = suspend_is_suspend f save s pair in
        let y = stands_in f s x.instr (instr_there f s.block s.at x.instr x.stands) in
        (y.block, y.got)

    module _ (v : ℕ) (needed : IsNeededBehind f s v) where
      used : ((block at : ℕ) (i : Instr) → fetch f block at ≡ AtInstr i → result_of i ≡ Some v → given_by i ≡ Some v) → IsUsedBehind k f s v
      used gives = used_behind k f v (own_label k f once) (end_first k f coroutine calls) gives s suspend_block.0 suspend_block.1 needed

      listed_pair : IsListed {X = Point × Point} (save, s) (saves_of f)
      listed_pair = pair_listed f save s (points_where (is_call_of Intrinsic.CoroSave) f) (point_listed (is_call_of Intrinsic.CoroSave) f save c.instr save_there c.is) pair

      by_instr : (p : Point) → IsInWindow f save s p → (i : Instr) → fetch f p.block p.at ≡ AtInstr i → given_by i ≡ Some v → ⊥
      by_instr p inside i e g =
          let there = instr_there f p.block p.at i e in
          let made : result_of i ≡ Some v = sym (result_spelt i) ∙ given_result i v g in
          let x = stands_in f p i there in
          let parts = of_parts (λ y. BreaksValue k f y → ⊥) k f (none_breaks (BreaksValue k f) (λ y. y.0) (parts_of k f) kept) in
          (parts.blocks p.block x.block x.got).instrs p.at i x.stands
          (record {
            is_coroutine = coroutine;
            value = v;
            makes = given_result i v g;
            is_kept = record {
              save = save;
              suspend = s;
              is_save = listed_pair;
              is_made = ByInstr p i inside there (given_result i v g);
              is_used = used (λ block at j d r. ap given_by (same_instr k f once (point block at) p j i v (instr_there f block at j d) there r made) ∙ g);
            };
          })

      by_phi : (block : ℕ) → IsMadeIn f save s v → phis_give v (phis_of (slice_get f.blocks block)) ≡ true → ⊥
      by_phi block made h = on (slice_get f.blocks block) refl h
        where
          on : (o : Option Block) → slice_get f.blocks block ≡ o → phis_give v (phis_of o) ≡ true → ⊥
          on None e g = absurd (cc)
          on (Some b) e g =
              let x = the_phi v b.phis g in
              let parts = of_parts (λ y. BreaksValue k f y → ⊥) k f (none_breaks (BreaksValue k f) (λ y. y.0) (parts_of k f) kept) in
              (parts.blocks block b e).phis x.at x.phi x.there
              (record {
                is_coroutine = coroutine;
                value = v;
                makes = ap Some x.is;
                is_kept = record {
                  save = save;
                  suspend = s;
                  is_save = listed_pair;
                  is_made = made;
                  is_used = used (λ other at j d r. absurd (no_phi k f once block b (point other at) j v e (phis_listed v b.phis g) (instr_there f other at j d) r));
                };
              })

      phi_results_listed : (block : ℕ) → phis_give v (phis_of (slice_get f.blocks block)) ≡ true → IsListed v (phi_results f block)
      phi_results_listed block h = on (slice_get f.blocks block) h
        where
          on : (o : Option Block) → phis_give v (phis_of o) ≡ true → IsListed v (map (λ p. p.result) (phis_in o))
          on None g = absurd (cc)
          on (Some b) g = phis_listed v b.phis g

      not_given : (p : Point) → IsInWindow f save s p → IsGivenBy (fetch f p.block p.at) v ⊎ IsPhiAt f v p → ⊥
      not_given p inside (inl g) = on (fetch f p.block p.at) refl g
        where
          on : (x : Fetched) → fetch f p.block p.at ≡ x → IsGivenBy x v → ⊥
          on Nowhere e h = h
          on (AtInstr i) e h = by_instr p inside i e h
          on (AtTerm t) e h = h
      not_given p inside (inr g) =
          let same : p ≡ front p.block = (let z = g.0 in λ j. record { block = p.block; at = z j }) in
          by_phi p.block (ByPhi p.block (Inside (subst (IsInWindow f save s) same inside)) (phi_results_listed p.block g.1)) g.1

      no_own_phi : IsPhiAt f v s → ⊥
      no_own_phi g =
          let same : front s.block ≡ s = (let z = g.0 in λ j. record { block = s.block; at = sym z j }) in
          by_phi s.block (ByPhi s.block (AtSuspend same leads_between) (phi_results_listed s.block g.1)) g.1

  pub keeps : KeepsSuspendRules f
  keeps = record {
    switched = is_switched k f coroutine switches;
    unread = is_unread k f coroutine switches;
    leads = λ save s c pair. leads save s c pair;
    no_end = λ save s p c pair inside e. no_end save s c pair p inside e;
    given = λ save s p v c pair inside n g. not_given save s c pair v n p inside g;
    no_phi = λ save s v c pair n g. no_own_phi save s c pair v n g;
  }

pub coroutine_keeps : (m : Module) (k : ℕ) (f : Function) → f.coroutine ≡ true → KeepsFunctionRules m k f → KeepsShape k f → KeepsPaths k f → KeepsSuspendRules f
coroutine_keeps m k f coroutine rules shape paths = keeps k f coroutine rules.definitions shape.calls shape.switches paths.window paths.kept_value
