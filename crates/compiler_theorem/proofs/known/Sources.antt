-- What is asked of an accepted source and its framed form, so that operands of coroutines and slots of markers are
-- known.
use Rattle.std.proofs.Common.{◌≡◌, ◌⊎◌, inl, inr, ℕ, ◌<◌, Bool, true, false, not, ◌||◌, Option}
use Rattle.std.proofs.Common.{sym, ap, ◌∙◌, subst}
use Rattle.std.proofs.lemmas.Bool.{and_from}
use Rattle.compiler.proofs.whole.lowered_sources.Sources.{early_rules}
use Rattle.compiler_theorem.proofs.known.Names.{begin_known, rules_there}
use Rattle.compiler_theorem.proofs.known.Plain.{marks_behind, marks_slot}
use Rattle.compiler_theorem.proofs.known.Slots.{counted}
use Rattle.compiler_theorem.proofs.known.Unused.{slots_behind}
use Rattle.compiler_theorem.proofs.theorem.Built.{coroutine_there, sources_built}
use Rattle.compiler_theorem.specs.known.Counts.{counts, is_slot_of, own, stays_own}
use Rattle.compiler_theorem.specs.theorem.Anew.{Anew, IsAnewOf}
use Rattle.compiler_theorem.specs.theorem.Asked.{asking}
use Rattle.compiler_theorem.specs.theorem.Entries.{IsEntryCall, Run}
use Rattle.compiler_theorem.specs.theorem.Lowered.{HasFewBytes, IsLowered, Lowered, early, edged}
use Rattle.compiler.specs.ir_model.Names.{function_at, no_function}
use Rattle.compiler.specs.ir_model.Ty.{Ty}
use Rattle.compiler.specs.ir_model.declared.module.Function.{Function}
use Rattle.compiler.specs.ir_model.declared.module.Module.{Module}
use Rattle.compiler.specs.ir_model.declared.operand.Arg.{Arg}
use Rattle.pass_frames_meaning.specs.Known.{KeepsKnown, KeepsMarks}
use Rattle.pass_frames_meaning.specs.pass_frames_proof.Marking.{marking}
use Rattle.compiler.proofs.pass_proofs.kept.sources.Whole.{split_definite}
use Rattle.pass_frames_meaning.specs.pass_renewed_proof.SlotRules.{IsMadeOnce}
use Rattle.compiler.specs.rule_laws.rules.function_rules.Kept.{KeepsFunctionRules}
use Rattle.compiler.specs.run_step.Step.{AtInstr, fetch}

module _ (l : Lowered) (low : IsLowered l) (few : HasFewBytes l) (a : Anew) (anew : IsAnewOf (early l) a) (r : Run)
    (entered : IsEntryCall l.source r) where
  pub rules : (func : ℕ) → (function_at (early l) func).coroutine ≡ true
      → KeepsFunctionRules ((asking l low a r).b.framing func).code func ((asking l low a r).b.framing func).function
  rules func c =
      let built = (sources_built l low r.answers).coroutines func c in
      subst (λ (m : Module). KeepsFunctionRules m func ((asking l low a r).b.framing func).function) (sym built.code)
      (subst (KeepsFunctionRules (early l) func) (sym built.function)
      (early_rules l.text l.source low.source.stands low.source.accepted func (function_at (early l) func)
      (coroutine_there l low r.answers func c)))

  pub source_known : KeepsKnown (asking l low a r) (counts l a r)
  source_known = record {
    position = λ func. func;
    rules = λ func c. rules func c;
    counted = λ func v d c low_name offset. counted l low few a anew r entered func c v d low_name offset;
    begins = λ func c. begin_known l low few a anew r entered func c;
    behind = slots_behind l low few a anew r entered;
  }

  -- ---- markers

  module _ (func block at : ℕ) (starts must_tail : Bool) (ty : Option Ty) (size : Arg) (u : Ty) (name : ℕ)
      (there : fetch (function_at (edged l) func) block at ≡ AtInstr (marking starts must_tail ty size u name)) where
    pub kept : KeepsFunctionRules (edged l) func (function_at (edged l) func)
    kept = on (rules_there l low few a anew r entered func)
      where
        on : KeepsFunctionRules (edged l) func (function_at (edged l) func) ⊎ (function_at (edged l) func ≡ no_function)
            → KeepsFunctionRules (edged l) func (function_at (edged l) func)
        on (inl k) = k
        on (inr same) =
            let none : fetch no_function block at ≡ AtInstr (marking starts must_tail ty size u name) =
            ap (λ (g : Function). fetch g block at) (sym same) ∙ there in
            absurd (cc)

    pub marker_own : (function_at (early l) func).coroutine ≡ false → own l a r func name ≡ true
    marker_own plain = and_from (is_slot_of l func name) _
        (marks_slot starts must_tail ty size u name (edged l) func (function_at (edged l) func) kept block at there)
        (ap (λ (b : Bool). not b || stays_own l a r func name) plain)

    pub marker_behind : (made : IsMadeOnce (function_at (edged l) func) name) → block ≡ 0 → made.at < at
    marker_behind made e =
        marks_behind starts must_tail ty size u name (edged l) func (function_at (edged l) func) kept block at there
        ((split_definite l.text l.source low.source.stands low.source.accepted).each func) made e

  pub source_marks : KeepsMarks (asking l low a r) (own l a r)
  source_marks = record {
    counted = λ func block at starts must_tail ty size u name plain there.
        marker_own func block at starts must_tail ty size u name there plain;
    behind = λ func block at starts must_tail ty size u name plain there made e.
        marker_behind func block at starts must_tail ty size u name there made e;
  }
