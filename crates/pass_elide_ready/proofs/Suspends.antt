-- A suspend is followed at once by its switch (K3). So where jumps alone lead to blocks with phis, no phi takes
-- anything from the block of a suspend (F1).
use Rattle.std.proofs.Common.{◌≡◌, inl, inr, ℕ, Bool, true, false, List, [], ◌∷◌, refl, sym, ap, ◌∙◌, subst}
use Rattle.std.proofs.lemmas.Bool.{false≢true}
use Rattle.std.specs.List.{list_all, list_any}
use Rattle.std.specs.Prelude.{None, Option, Some, not, slice_get, if◌then◌else◌, ◌&&◌, ◌==◌}
use Rattle.pass_elide_edges.specs.pass_elide_proof.Edges.{label_from, phis_at}
use Rattle.pass_elide_edges.specs.pass_elide_proof.Places.{instrs_of}
use Rattle.pass_elide_ready.proofs.Names.{at_point}
use Rattle.pass_elide_edges.proofs.pass_elide_proof.pass_proofs.edges.rules.Switched.{switched}
use Rattle.pass_elide_edges.proofs.pass_elide_proof.pass_proofs.ir_laws.facts.Truth.{and_first, and_second, equal_numbers, holds}
use Rattle.pass_elide_edges.proofs.pass_elide_proof.pass_proofs.ir_laws.paths.counted.PartFacts.{all_listed}
use Rattle.pass_elide_edges.proofs.pass_elide_proof.pass_proofs.ir_laws.paths.renamed.Uses.{stands_in}
use Rattle.pass_elide_edges.proofs.pass_elide_proof.pass_proofs.ir_laws.paths.uses.Paths.{place_of}
use Rattle.pass_elide_edges.proofs.pass_elide_proof.pass_proofs.ir_laws.paths.woven_rules.Unbroken.{each_listed}
use Rattle.pass_elide_edges.proofs.pass_elide_proof.pass_proofs.kept.sources.Names.{none_outside, suspend_inside}
use Rattle.pass_elide_edges.proofs.pass_elide_proof.pass_proofs.rule_laws.rules.edges.Entered.{from_predecessors, listed_has}
use Rattle.pass_elide_edges.proofs.pass_elide_proof.pass_proofs.rule_laws.rules.source_rules.Locals.{own_label}
use Rattle.pass_elide_edges.proofs.pass_elide_proof.pass_proofs.rule_laws.rules.sources.Places.{point}
use Rattle.pass_elide_edges.proofs.pass_elide_proof.pass_proofs.split.edges.Entered.{leads_to}
use Rattle.pass_elide_edges.specs.pass_elide_proof.pass_proofs.edges.rules.Phis.{ArePhisEnteredByJumps}
use Rattle.pass_elide_edges.specs.pass_elide_proof.pass_proofs.edges.rules.Returns.{AreSwitched}
use Rattle.pass_elide_edges.specs.pass_elide_proof.pass_proofs.flow_solver.Paths.{IsListed}
use Rattle.pass_elide_edges.specs.pass_elide_proof.pass_proofs.ir_model.Names.{position_of}
use Rattle.pass_elide_edges.specs.pass_elide_proof.pass_proofs.ir_model.declared.instr.Incoming.{Incoming}
use Rattle.pass_elide_edges.specs.pass_elide_proof.pass_proofs.ir_model.declared.instr.Instr.{Instr}
use Rattle.pass_elide_edges.specs.pass_elide_proof.pass_proofs.ir_model.declared.instr.Phi.{Phi}
use Rattle.pass_elide_edges.specs.pass_elide_proof.pass_proofs.ir_model.declared.instr.Terminator.{Terminator}
use Rattle.pass_elide_edges.specs.pass_elide_proof.pass_proofs.ir_model.declared.module.Block.{Block}
use Rattle.pass_elide_edges.specs.pass_elide_proof.pass_proofs.ir_model.declared.module.Function.{Function}
use Rattle.pass_elide_edges.specs.pass_elide_proof.pass_proofs.ir_model.declared.module.Module.{Module}
use Rattle.pass_elide_edges.specs.pass_elide_proof.pass_proofs.ir_model.declared.operand.Callee.{Callee}
use Rattle.pass_elide_edges.specs.pass_elide_proof.pass_proofs.ir_model.declared.operand.Intrinsic.{Intrinsic}
use Rattle.pass_elide_edges.specs.pass_elide_proof.pass_proofs.ir_model.declared.operand.Operand.{Operand}
use Rattle.pass_elide_edges.specs.pass_elide_proof.pass_proofs.ir_paths.Windows.{is_call_of}
use Rattle.pass_elide_edges.specs.pass_elide_proof.pass_proofs.pass_edges.Edges.{has_phis, is_suspend}
use Rattle.pass_elide_edges.specs.pass_elide_proof.pass_proofs.rule_laws.rules.function_rules.Kept.{KeepsFunctionRules}
use Rattle.pass_elide_edges.specs.pass_elide_proof.pass_proofs.rule_laws.rules.rows.Returns.{IsSwitched}
use Rattle.pass_elide_edges.specs.pass_elide_proof.pass_proofs.rule_phis.Edges.{breaks_edges, differs, fits_edges, has, incoming_labels, into_block}
use Rattle.pass_elide_edges.specs.pass_elide_proof.pass_proofs.rule_phis.Edges.{predecessors}
use Rattle.pass_elide_edges.specs.pass_elide_proof.pass_proofs.rule_shape.Switches.{wrong_switch}
use Rattle.pass_elide_edges.specs.pass_elide_proof.pass_proofs.run_laws.changed.Changed.{Each}
use Rattle.pass_elide_edges.specs.pass_elide_proof.pass_proofs.run_step.Step.{incoming_from, label_of, phis_of}
use Rattle.pass_split_proof.proofs.code.Allocas.{by_instrs}
use Rattle.pass_split_proof.proofs.ready.Rules.{at_phi}

-- ---- operands of phis

from_listed : (label v : ℕ) (is : List Incoming) → incoming_from is label ≡ Operand.Local v
    → IsListed label (incoming_labels is)
from_listed label v [] e = absurd (cc)
from_listed label v (i ∷ is) e = on (i.from == label) refl e (from_listed label v is)
  where
    on : (b : Bool) → (i.from == label) ≡ b → (if b then i.value else incoming_from is label) ≡ Operand.Local v
        → (incoming_from is label ≡ Operand.Local v → IsListed label (incoming_labels is))
        → IsListed label (incoming_labels (i ∷ is))
    on true d h again = inl (sym (equal_numbers i.from label d))
    on false d h again = inr (again h)

has_some : (ps : List Phi) (p : Phi) → IsListed p ps → has_phis ps ≡ true
has_some [] p l = absurd l
has_some (q ∷ ps) p l = refl

suspends : (i : Instr) → is_call_of Intrinsic.CoroSuspend i ≡ true → is_suspend i ≡ true
suspends (Instr.Call result must_tail ty (Callee.Intrinsic Intrinsic.CoroSuspend) args) e = refl
suspends _ e = absurd (false≢true e)

calls_suspend : (i : Instr) → is_suspend i ≡ true → is_call_of Intrinsic.CoroSuspend i ≡ true
calls_suspend (Instr.Call result must_tail ty (Callee.Intrinsic Intrinsic.CoroSuspend) args) e = refl
calls_suspend _ e = absurd (false≢true e)

module _ (m : Module) (k : ℕ) (f : Function) (rules : KeepsFunctionRules m k f) where
  no_switches : f.coroutine ≡ false → AreSwitched f
  no_switches plain q x b i got stands is = absurd (none_outside m k f rules plain q x i Intrinsic.CoroSuspend
      suspend_inside (by_instrs f q x b i got stands) (calls_suspend i is))

  pub are_switched : (f.coroutine ≡ true → wrong_switch k f ≡ None) → AreSwitched f
  are_switched switches = on f.coroutine refl
    where
      on : (c : Bool) → f.coroutine ≡ c → AreSwitched f
      on true e = switched k f e (switches e)
      on false e = no_switches e

  module _ (switches : f.coroutine ≡ true → wrong_switch k f ≡ None) (jumps : ArePhisEnteredByJumps f) where
    same_block : (q j : ℕ) (b d : Block) → slice_get f.blocks q ≡ Some b → slice_get f.blocks j ≡ Some d
        → b.label ≡ d.label → b ≡ d
    same_block q j b d one two labels =
        let same : q ≡ j = sym (own_label k f rules.definitions q b one) ∙ ap (position_of f) labels
        ∙ own_label k f rules.definitions j d two in
        let both : Some b ≡ Some d = sym one ∙ ap (slice_get f.blocks) same ∙ two in
        cc

    no_phi_there : (q x to : ℕ) (b c : Block) (i : Instr) → slice_get f.blocks q ≡ Some b → IsSwitched b x i
        → slice_get f.blocks to ≡ Some c → (p : Phi) → IsListed p c.phis
        → IsListed b.label (incoming_labels p.incoming) → ⊥
    no_phi_there q x to b c i got s there p l n =
        let y = place_of c.phis p l in
        let fits : fits_edges (predecessors f c.label) p.incoming ≡ true =
        subst (λ (o : Option Block). fits_edges (into_block (predecessors f) o) p.incoming ≡ true) there
        (holds (fits_edges (into_block (predecessors f) (slice_get f.blocks to)) p.incoming)
        (at_phi k f (breaks_edges f) rules.edges to y.0 c p there y.1)) in
        let rest = and_second (list_all (has (incoming_labels p.incoming)) (predecessors f c.label))
        (list_all (has (predecessors f c.label)) (incoming_labels p.incoming)
        && not (list_any (differs p.incoming) p.incoming)) fits in
        let had = and_first (list_all (has (predecessors f c.label)) (incoming_labels p.incoming))
        (not (list_any (differs p.incoming) p.incoming)) rest in
        let from = from_predecessors f c.label b.label (listed_has (predecessors f c.label) b.label
        (all_listed (has (predecessors f c.label)) (incoming_labels p.incoming) had b.label n)) in
        let z = place_of f.blocks from.block from.listed in
        let jump : from.block.term ≡ Terminator.Jump c.label =
        jumps to z.0 c from.block there (has_some c.phis p l) z.1 (leads_to c.label from.block from.leads_there) in
        let same : b ≡ from.block = same_block q z.0 b from.block got z.1 from.is in
        let both : Terminator.Switch s.arg s.default s.cases ≡ Terminator.Jump c.label =
        sym s.is ∙ ap (λ (d : Block). d.term) same ∙ jump in
        absurd (cc)

    pub none_from_suspends : (block at to : ℕ) (i : Instr) → slice_get (instrs_of f block) at ≡ Some i
        → is_call_of Intrinsic.CoroSuspend i ≡ true
        → Each (λ (p : Phi). (v : ℕ) → incoming_from p.incoming (label_from f block) ≡ Operand.Local v → ⊥)
        (phis_at f to)
    none_from_suspends block at to i there is =
        let x = stands_in f (point block at) i (at_point f block at i there) in
        let s = are_switched switches block at x.block i x.got x.stands (suspends i is) in
        let label : label_from f block ≡ x.block.label = ap label_of x.got in
        on x.block x.got s label (slice_get f.blocks to) refl
      where
        on : (b : Block) → slice_get f.blocks block ≡ Some b → IsSwitched b at i → label_from f block ≡ b.label
            → (o : Option Block) → slice_get f.blocks to ≡ o
            → Each (λ (p : Phi). (v : ℕ) → incoming_from p.incoming (label_from f block) ≡ Operand.Local v → ⊥)
            (phis_of o)
        on b got s label None e = tt
        on b got s label (Some c) e =
            each_listed (λ (p : Phi). (v : ℕ) → incoming_from p.incoming (label_from f block) ≡ Operand.Local v → ⊥)
            c.phis (λ p l v takes. no_phi_there block at to b c i got s e p l
            (subst (λ (n : ℕ). IsListed n (incoming_labels p.incoming)) label
            (from_listed (label_from f block) v p.incoming takes)))
