-- A coroutine that breaks none of the rules keeps what runs ask of the places of saves, suspends and the end.
use Rattle.std.proofs.Common.{◌≡◌, ℕ, ◌+◌, true, false, List, [], None, sym, ◌∙◌, subst}
use Rattle.pass_proofs.specs.ir_model.declared.instr.Case.{Case}
use Rattle.pass_proofs.specs.ir_model.declared.instr.Terminator.{Terminator}
use Rattle.pass_proofs.specs.ir_model.declared.module.Function.{Function}
use Rattle.pass_proofs.specs.ir_model.declared.module.Module.{Module}
use Rattle.pass_proofs.specs.ir_model.declared.operand.Arg.{Arg}
use Rattle.pass_proofs.specs.ir_model.declared.operand.Intrinsic.{Intrinsic}
use Rattle.pass_proofs.specs.ir_parts.Locals.{locals_of}
use Rattle.pass_proofs.specs.ir_paths.Windows.{destroy_label, resume_label}
use Rattle.pass_proofs.specs.ir_paths.declared.point.Point.{Point}
use Rattle.pass_proofs.specs.pass_kept_proof.Needed.{BranchesTo}
use Rattle.pass_proofs.specs.pass_kept_proof.SuspendRules.{IsCallAt, KeepsSuspendRules}
use Rattle.pass_proofs.proofs.kept.sources.Closed.{not_behind_end, not_inside, save_shuts, suspend_ends, suspend_shuts}
use Rattle.pass_proofs.proofs.kept.sources.Names.{save_inside, suspend_inside}
use Rattle.pass_proofs.proofs.kept.sources.SaveTokens.{none_from_entry, one_save}
use Rattle.pass_proofs.proofs.kept.sources.Stops.{at_end, has_switch, is_end, on_result, stops}
use Rattle.pass_proofs.proofs.kept.sources.WaysBack.{none_back}
use Rattle.pass_proofs.proofs.kept.sources.Windows.{coroutine_keeps}
use Rattle.pass_proofs.specs.rule_laws.rules.function_rules.Kept.{KeepsFunctionRules}
use Rattle.pass_proofs.specs.rule_laws.rules.path_rules.Paths.{KeepsPaths}
use Rattle.pass_proofs.specs.rule_laws.rules.path_rules.Shape.{KeepsShape}
use Rattle.pass_proofs.specs.rule_names.Definitions.{first_twice}
use Rattle.pass_proofs.specs.rule_shape.OneOfEach.{wrong_call}
use Rattle.pass_proofs.specs.rule_shape.Switches.{wrong_switch}
use Rattle.run_accepted.proofs.Plain.{no_call}
use Rattle.pass_renewed_meaning.specs.run_hooks.Away.{HasStop, KeepsPlaceRules}
use Rattle.pass_proofs.specs.run_step.Step.{AtTerm, fetch}

-- the switch of a suspend takes -1 to the end
module _ (m : Module) (k : ℕ) (f : Function) (coroutine : f.coroutine ≡ true)
    (definitions : first_twice [] (locals_of k f) ≡ None) (calls : wrong_call k f ≡ None)
    (switches : wrong_switch k f ≡ None) (kept : KeepsSuspendRules f) (s : Point)
    (c : IsCallAt Intrinsic.CoroSuspend f s) where
  stop_by : (arg : Arg) (default : ℕ) (cases : List Case)
      → fetch f s.block (s.at + 1) ≡ AtTerm (Terminator.Switch arg default cases) → HasStop m f s
  stop_by arg default cases stands =
      let w = kept.switched s c in
      let both : AtTerm w.term ≡ AtTerm (Terminator.Switch arg default cases) = sym w.stands ∙ stands in
      let same : w.term ≡ Terminator.Switch arg default cases = cc in
      record {
        arg = arg;
        default = default;
        cases = cases;
        stands = stands;
        own = (
          subst (λ (t : Terminator). BranchesTo (resume_label f s) (AtTerm t)) same w.to_resume,
          subst (λ (t : Terminator). BranchesTo (destroy_label f s) (AtTerm t)) same w.to_destroy,
        );
        result = λ i e. on_result k f coroutine switches s c arg default cases stands i e;
        stop = stops k f coroutine switches s c arg default cases stands m;
        end = at_end k f coroutine switches s c arg default cases stands definitions;
        is_end = is_end k f coroutine switches s c arg default cases stands definitions calls;
      }

  pub has_stop : HasStop m f s
  has_stop = let x = has_switch k f coroutine switches s c in stop_by x.0 x.1 x.2 x.3

module _ (m : Module) (k : ℕ) (f : Function) (coroutine : f.coroutine ≡ true) (rules : KeepsFunctionRules m k f)
    (shape : KeepsShape k f) (paths : KeepsPaths k f) where
  kept : KeepsSuspendRules f
  kept = coroutine_keeps m k f coroutine rules shape paths

  pub places_kept : KeepsPlaceRules m f
  places_kept = record {
    stops = λ s c. has_stop m k f coroutine rules.definitions shape.calls shape.switches kept s c;
    no_suspend = λ p a c. not_behind_end k f coroutine paths.outside Intrinsic.CoroSuspend suspend_ends p a c;
    once = λ save j s p q. one_save k m f rules save j s p.is_save p.takes q.is_save q.takes;
    leads = λ save s p. kept.leads save s p.is_save p.takes;
    entry = λ save s p w. none_from_entry k m f rules save s p.is_save p.takes w.not_save w.way;
    back = λ save s p w. none_back k m f coroutine rules shape paths save s p.is_save p.takes w.way;
    no_save = λ save s p pair inside c. not_inside m k f coroutine rules shape paths Intrinsic.CoroSave save_shuts
        save s p pair.is_save pair.takes inside c;
    no_suspend_in = λ save s p pair inside c. not_inside m k f coroutine rules shape paths Intrinsic.CoroSuspend
        suspend_shuts save s p pair.is_save pair.takes inside c;
    no_end = λ save s p pair inside c. kept.no_end save s p pair.is_save pair.takes inside c;
  }

-- a function that is no coroutine has no such place
module _ (m : Module) (k : ℕ) (f : Function) (rules : KeepsFunctionRules m k f) (outside : f.coroutine ≡ false) where
  no_save : (p : Point) → IsCallAt Intrinsic.CoroSave f p → ⊥
  no_save = no_call m k f rules outside Intrinsic.CoroSave save_inside

  no_suspend : (p : Point) → IsCallAt Intrinsic.CoroSuspend f p → ⊥
  no_suspend = no_call m k f rules outside Intrinsic.CoroSuspend suspend_inside

  pub plain_places_kept : KeepsPlaceRules m f
  plain_places_kept = record {
    stops = λ s c. absurd (no_suspend s c);
    no_suspend = λ p a c. no_suspend p c;
    once = λ save j s p q. absurd (no_save save p.is_save);
    leads = λ save s p. absurd (no_save save p.is_save);
    entry = λ save s p w. no_save save p.is_save;
    back = λ save s p w. no_save save p.is_save;
    no_save = λ save s p pair inside c. no_save save pair.is_save;
    no_suspend_in = λ save s p pair inside c. no_save save pair.is_save;
    no_end = λ save s p pair inside c. no_save save pair.is_save;
  }
