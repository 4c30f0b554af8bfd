-- A text is lowered to one thing.
use Rattle.std.proofs.Common.{◌≡◌, ℕ, Bool, List, sym, ap, ◌∙◌, subst}
use Rattle.compiler_theorem.proofs.one_answer.Forms.{forms_one}
use Rattle.compiler_theorem.proofs.one_answer.Refusals.{acceptances_one}
use Rattle.compiler.specs.Lowering.{IsDone, IsLowering, IsLoweringBy, IsLoweringOf, IsModuleLowering, lowered_by}
use Rattle.compiler.specs.declared.lowered.Lowered.{Lowered}
use Rattle.compiler.specs.declared.lowered.Lowering.{Lowering}
use Rattle.compiler.specs.frame_acceptance.declared.accepting.Acceptance.{Acceptance}
use Rattle.compiler.specs.frame_layout.declared.layout.Layouts.{Layouts}
use Rattle.compiler.specs.ir_base.declared.status.Options.{Options}
use Rattle.compiler.specs.ir_model.declared.module.Module.{Module}
use Rattle.compiler.specs.pass_early.Early.{early_module}
use Rattle.compiler.specs.text_parser.Parse.{read_module}
use Rattle.compiler.specs.text_parser.declared.text.Parsed.{Parsed}

done_one : (m : Module) (layouts : Layouts) (l k : Lowered) → IsDone m layouts l → IsDone m layouts k → l ≡ k
done_one m layouts l k p q =
    p.is
    ∙ ap (lowered_by m layouts) (forms_one layouts (early_module m) p.framed q.framed p.is_framed q.is_framed)
    ∙ sym q.is

lowered_one : (m : Module) (a : Acceptance) (l k : Lowering) → IsLoweringBy m a l → IsLoweringBy m a k → l ≡ k
lowered_one m (Acceptance.Refused r) l k p q = p ∙ sym q
lowered_one m (Acceptance.Accepted layouts) (Lowering.Done l) (Lowering.Done k) p q =
    λ i. Lowering.Done (done_one m layouts l k p q i)
lowered_one m (Acceptance.Accepted layouts) (Lowering.Done l) (Lowering.Syntax items) p q = absurd q
lowered_one m (Acceptance.Accepted layouts) (Lowering.Done l) (Lowering.Refused n rule place) p q = absurd q
lowered_one m (Acceptance.Accepted layouts) (Lowering.Syntax items) k p q = absurd p
lowered_one m (Acceptance.Accepted layouts) (Lowering.Refused n rule place) k p q = absurd p

module_one : (share : Bool) (m : Module) (l k : Lowering) → IsModuleLowering share m l → IsModuleLowering share m k
    → l ≡ k
module_one share m l k p q =
    let same : p.acceptance ≡ q.acceptance =
    acceptances_one m share p.acceptance q.acceptance p.accepted q.accepted in
    lowered_one m p.acceptance l k p.comes (subst (λ (a : Acceptance). IsLoweringBy m a k) (sym same) q.comes)

parsed_one : (share : Bool) (x : Parsed) (l k : Lowering) → IsLoweringOf share x l → IsLoweringOf share x k → l ≡ k
parsed_one share (Parsed.Syntax items) l k p q = p ∙ sym q
parsed_one share (Parsed.Module m) l k p q = module_one share m l k p q

pub lowerings_one : (options : Options) (text : List ℕ) (l k : Lowering) → IsLowering options text l
    → IsLowering options text k → l ≡ k
unfolding IsLowering
lowerings_one options text l k p q = parsed_one options.share (read_module text) l k p q
