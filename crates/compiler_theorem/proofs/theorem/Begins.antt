-- Begin alone gives its name, in a function that breaks no rule.
use Rattle.std.proofs.Common.{◌≡◌, ℕ, sym, ap, ◌∙◌, subst}
use Rattle.std.specs.Prelude.{Some, length}
use Rattle.compiler.specs.ir_laws.facts.expanded.Tokens.{IsNamedResult}
use Rattle.compiler.specs.ir_laws.facts.sound_states.Named.{HasNamedLocals}
use Rattle.compiler.specs.ir_model.declared.module.Function.{Function}
use Rattle.compiler.specs.ir_model.declared.module.Module.{Module}
use Rattle.compiler.specs.ir_paths.declared.point.Point.{Point}
use Rattle.pass_frames_meaning.proofs.led.Begins.{HasBegin, has_begin}
use Rattle.pass_frames_meaning.specs.Led.{IsBegin, IsBegunOnce}
use Rattle.pass_frames_meaning.specs.pass_renewed_proof.Steps.{given_at}
use Rattle.compiler.specs.rule_laws.rules.function_rules.Kept.{KeepsFunctionRules}
use Rattle.run_accepted.proofs.Once.{given_alone, gives_no_param, no_phi_gives}
use Rattle.compiler.specs.run_framed.Framed.{begin_name}
use Rattle.compiler.specs.run_laws.changed.Changed.{result_at}
use Rattle.compiler.proofs.run_states.sound_states.Fits.{result_named}
use Rattle.compiler.specs.run_step.Step.{AtInstr, fetch}

pub begun_once : (m : Module) (k : ℕ) (f : Function) → KeepsFunctionRules m k f → HasNamedLocals f → (v : ℕ)
    → begin_name f ≡ Some v → IsBegunOnce f v
begun_once m k f rules names v e = record {
  low = subst (IsNamedResult (length f.names)) (ap result_at b.stands ∙ b.named)
      (result_named f names.results b.point.block b.point.at);
  alone = λ block at i stands g.
      let same = given_alone m k f rules b.point b.instr v b.there b.gives block at (ap given_at stands ∙ g) in
      let both : AtInstr b.instr ≡ AtInstr i =
      sym b.stands ∙ sym (ap (λ (q : Point). fetch f q.block q.at) same) ∙ stands in
      let one : b.instr ≡ i = cc in
      subst IsBegin one b.begins;
  no_phi = no_phi_gives m k f rules b.point b.instr v b.there b.gives;
  no_param = gives_no_param m k f rules b.point b.instr v b.there b.gives;
}
  where
    b : HasBegin f v
    b = has_begin f v e
