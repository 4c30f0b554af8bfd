-- Allocas of framed forms stand in entry blocks, to which no edge leads, and give their names alone.
use Rattle.std.proofs.Common.{◌≡◌, ℕ, true, length, Option, Some, None, refl, sym, ap, ◌∙◌, subst}
use Rattle.std.specs.Prelude.{slice_get, unwrap_or}
use Rattle.compiler_theorem.proofs.woken.FramedRuns.{framed_rules}
use Rattle.compiler_theorem.specs.theorem.Lowered.{IsLowered, Lowered}
use Rattle.compiler.specs.ir_laws.facts.expanded.Tokens.{IsNamedResult}
use Rattle.compiler.specs.ir_model.Names.{function_at, no_function}
use Rattle.compiler.specs.ir_model.declared.instr.Instr.{Instr}
use Rattle.compiler.specs.ir_model.declared.module.Function.{Function}
use Rattle.compiler.specs.ir_model.declared.module.Module.{Module}
use Rattle.pass_frames_meaning.specs.Owned.{KeepAllOwnRules, KeepsOwnRules}
use Rattle.compiler.proofs.rule_laws.rules.named_results.Named.{locals_tabled}
use Rattle.compiler.specs.rule_laws.rules.function_rules.Kept.{KeepsFunctionRules}
use Rattle.run_accepted.proofs.Entries.{never_entered}
use Rattle.run_accepted.proofs.Once.{made_once}
use Rattle.compiler.proofs.run_states.sound_states.Fits.{result_named}
use Rattle.compiler.specs.run_laws.changed.Changed.{result_at}
use Rattle.compiler.specs.run_step.Step.{AtInstr, Nowhere}

-- of rules of functions
own_rules : (m : Module) (k : ℕ) (f : Function) → KeepsFunctionRules m k f → KeepsOwnRules f
own_rules m k f rules = record {
  made = λ block at name ty align there. made_once m k f rules name ty align block at there;
  low = λ block at name ty align there.
      subst (IsNamedResult (length f.names)) (ap result_at there)
      (result_named f (locals_tabled k f rules.tabled).results block at);
  entry = λ block at label. never_entered m k f rules block at label;
}

none_own : KeepsOwnRules no_function
none_own = record {
  made = λ block at name ty align there.
      let no : Nowhere ≡ AtInstr (Instr.Alloca name ty align) = there in absurd (cc);
  low = λ block at name ty align there.
      let no : Nowhere ≡ AtInstr (Instr.Alloca name ty align) = there in absurd (cc);
  entry = λ block at label h. absurd h;
}

pub framed_own : (l : Lowered) → IsLowered l → KeepAllOwnRules l.framed (λ func. true)
framed_own l low func counts = on (slice_get l.framed.functions func) refl
  where
    on : (o : Option Function) → slice_get l.framed.functions func ≡ o → KeepsOwnRules (function_at l.framed func)
    on None e = subst KeepsOwnRules (sym (ap (λ (o : Option Function). unwrap_or o no_function) e)) none_own
    on (Some g) e =
        own_rules l.framed func (function_at l.framed func) (framed_rules l low func
        (e ∙ ap (λ (f : Function). Some f) (sym (ap (λ (o : Option Function). unwrap_or o no_function) e))))
