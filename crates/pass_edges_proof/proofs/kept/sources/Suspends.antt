-- A suspend is followed at once by its switch, which alone uses what it makes (rule K3).
use Rattle.std.proofs.Common.{◌≡◌, ◌<◌, ◌⊎◌, inl, inr, ℕ, zero, suc, ◌+◌, Bool, true, false, List, [], ◌∷◌, length, Option, Some, None, refl, sym, ap, ◌∙◌, subst, arith}
use Rattle.std.proofs.lemmas.Bool.{cases_eq}
use Rattle.std.specs.Prelude.{IsTrue, map, slice_get, ◌==◌, ◌||◌, if◌then◌else◌}
use Rattle.pass_early_proof.specs.rule_shape.Switches.{end_label, wrong_switch}
use Rattle.pass_early_proof.specs.rule_shape.Uses.{phi_operands}
use Rattle.pass_early_proof.specs.rule_uses.Uses.{locals_in}
use Rattle.pass_early_proof.proofs.ir_laws.facts.Truth.{equal_numbers, itself}
use Rattle.pass_early_proof.proofs.ir_laws.paths.renamed.Uses.{StandsIn, stands_in}
use Rattle.pass_early_proof.proofs.flow_solver.Lists.{listed_at}
use Rattle.pass_early_proof.specs.flow_solver.Paths.{IsListed}
use Rattle.pass_edges_proof.proofs.edges.rules.CaseLabels.{switch_target}
use Rattle.pass_early_proof.specs.ir_laws.facts.branches.MovedState.{IsSwitch}
use Rattle.pass_early_proof.specs.ir_parts.Contents.{ending_operands}
use Rattle.ir_model.specs.Names.{is_local, position_of}
use Rattle.ir_model.specs.declared.instr.Incoming.{Incoming}
use Rattle.ir_model.specs.declared.instr.Instr.{Instr}
use Rattle.ir_model.specs.declared.instr.Phi.{Phi}
use Rattle.ir_model.specs.declared.instr.Terminator.{Terminator}
use Rattle.ir_model.specs.declared.module.Block.{Block}
use Rattle.ir_model.specs.declared.module.Function.{Function}
use Rattle.ir_model.specs.declared.operand.Callee.{Callee}
use Rattle.ir_model.specs.declared.operand.Intrinsic.{Intrinsic}
use Rattle.ir_model.specs.declared.operand.Operand.{Operand}
use Rattle.pass_early_proof.specs.ir_paths.Paths.{targets}
use Rattle.pass_early_proof.specs.ir_paths.Slots.{has_name}
use Rattle.pass_early_proof.specs.ir_paths.Windows.{call_result, is_call_of, label_at, label_of_term}
use Rattle.pass_early_proof.specs.ir_paths.declared.point.Point.{Point}
use Rattle.pass_early_proof.proofs.rule_laws.rules.sources.Places.{IsEnd, instr_there, point, term_there}
use Rattle.pass_kept_proof.proofs.Read.{read_here}
use Rattle.pass_kept_proof.proofs.Rules.{not_behind}
use Rattle.pass_kept_proof.specs.Needed.{IsNeededBehind, given_by, phis_at, phis_read, reads_at}
use Rattle.pass_kept_proof.specs.SuspendRules.{IsCallAt, IsSwitched}
use Rattle.pass_early_proof.proofs.rule_laws.rules.uses.Switched.{IsSwitched as IsSuspendSwitched, not_in_instr, not_in_phi, not_switched_on, switched as suspend_switched}
use Rattle.pass_early_proof.specs.run_step.Step.{AtInstr, AtTerm, Fetched, Nowhere, fetch, fetch_in, fetch_or, incoming_from, phis_of}
use Rattle.pass_early_proof.proofs.flow_facts.Chained.{listed-name}
use Rattle.pass_early_proof.proofs.rule_laws.rules.known_labels.Rules.{is_switch as switch_is}

past : (xs : List Instr) (n : ℕ) → n ≡ length xs → slice_get xs n ≡ None
past [] n e = refl
past (x ∷ xs) zero e = absurd (omega (arith, e))
past (x ∷ xs) (suc n) e = past xs n (omega (arith, e))

-- the terminator stands behind the last instruction
pub behind_last : (f : Function) (block at : ℕ) (b : Block) → slice_get f.blocks block ≡ Some b → at ≡ length b.instrs → fetch f block at ≡ AtTerm b.term
behind_last f block at b e last =
    let own : (at == length b.instrs) ≡ true = ap (λ (n : ℕ). n == length b.instrs) last ∙ itself (length b.instrs) in
    ap (λ (o : Option Block). fetch_in o at) e ∙ ap (λ (o : Option Instr). fetch_or o (at == length b.instrs) b.term) (past b.instrs at last) ∙ ap (λ (t : Bool). fetch_or None t b.term) own

-- the switch of a suspend that is the last instruction of its block
pub switched_by : (f : Function) (s : Point) (b : Block) → slice_get f.blocks s.block ≡ Some b → s.at + 1 ≡ length b.instrs → IsSwitch b.term → IsSwitched f s
switched_by f s b e last is = record {
  term = b.term;
  stands = behind_last f s.block (s.at + 1) b e last;
  to_resume = subst (λ (n : ℕ). IsTrue (has_name (targets b.term) n)) (sym (ap (label_at 0) e)) (listed-name (label_of_term 0 b.term) (targets b.term) (switch_target 0 b.term is));
  to_destroy = subst (λ (n : ℕ). IsTrue (has_name (targets b.term) n)) (sym (ap (label_at 1) e)) (listed-name (label_of_term 1 b.term) (targets b.term) (switch_target 1 b.term is));
}

-- ---- what phis take

taken_local : (v : ℕ) (x : Operand) (rest : List Operand) → is_local v x ≡ true → IsListed v (locals_in (x ∷ rest))
taken_local v (Operand.Local n) rest h = inl (equal_numbers v n h)
taken_local v (Operand.Global n) rest h = absurd (cc)
taken_local v (Operand.Number z) rest h = absurd (cc)
taken_local v Operand.True rest h = absurd (cc)
taken_local v Operand.False rest h = absurd (cc)
taken_local v Operand.Null rest h = absurd (cc)
taken_local v Operand.None rest h = absurd (cc)
taken_local v Operand.Poison rest h = absurd (cc)

later_local : (v : ℕ) (x : Operand) (rest : List Operand) → IsListed v (locals_in rest) → IsListed v (locals_in (x ∷ rest))
later_local v (Operand.Local n) rest h = inr h
later_local v (Operand.Global n) rest h = h
later_local v (Operand.Number z) rest h = h
later_local v Operand.True rest h = h
later_local v Operand.False rest h = h
later_local v Operand.Null rest h = h
later_local v Operand.None rest h = h
later_local v Operand.Poison rest h = h

taken_in : (v from : ℕ) (is : List Incoming) → is_local v (incoming_from is from) ≡ true → IsListed v (locals_in (map (λ i. i.value) is))
taken_in v from [] h = absurd (cc)
taken_in v from (i ∷ is) h = on (i.from == from) h (taken_in v from is)
  where
    on : (b : Bool) → is_local v (if b then i.value else incoming_from is from) ≡ true → (is_local v (incoming_from is from) ≡ true → IsListed v (locals_in (map (λ j. j.value) is))) → IsListed v (locals_in (i.value ∷ map (λ j. j.value) is))
    on true k again = taken_local v i.value (map (λ j. j.value) is) k
    on false k again = later_local v i.value (map (λ j. j.value) is) (again k)

-- a phi that takes the value
record IsTaker (v : ℕ) (ps : List Phi) : Type 0 where
  phi : Phi
  listed : IsListed phi ps
  takes : IsListed v (locals_in (phi_operands phi))

taker : (v from : ℕ) (ps : List Phi) → phis_read v from ps ≡ true → IsTaker v ps
taker v from [] h = absurd (cc)
taker v from (p ∷ ps) h = on (is_local v (incoming_from p.incoming from)) refl h (taker v from ps)
  where
    on : (b : Bool) → is_local v (incoming_from p.incoming from) ≡ b → (b || phis_read v from ps) ≡ true → (phis_read v from ps ≡ true → IsTaker v ps) → IsTaker v (p ∷ ps)
    on true e k again = record { phi = p; listed = inl refl; takes = taken_in v from p.incoming e }
    on false e k again = let x = again k in record { phi = x.phi; listed = inr x.listed; takes = x.takes }

given_suspend : (i : Instr) → is_call_of Intrinsic.CoroSuspend i ≡ true → given_by i ≡ call_result i
given_suspend (Instr.Call result must_tail ty (Callee.Intrinsic Intrinsic.CoroSuspend) args) e = refl
given_suspend _ e = absurd (cc)

module _ (k : ℕ) (f : Function) (coroutine : f.coroutine ≡ true) (switches : wrong_switch k f ≡ None) where
  module _ (s : Point) (c : IsCallAt Intrinsic.CoroSuspend f s) where
    pub where_it_is : StandsIn f s c.instr
    where_it_is = stands_in f s c.instr (instr_there f s.block s.at c.instr c.stands)

    pub own : IsSuspendSwitched f where_it_is.block s.at c.instr
    own = suspend_switched k f coroutine switches s.block s.at where_it_is.block c.instr where_it_is.got where_it_is.stands c.is

    pub is_switched : IsSwitched f s
    is_switched = switched_by f s where_it_is.block where_it_is.got own.last (switch_is own.value (end_label f) where_it_is.block.term own.switch)

    only : (block at : ℕ) → IsTrue (reads_at own.value (fetch f block at)) → (block ≡ s.block) × (s.at < at)
    only block at h = on (fetch f block at) refl h
      where
        on : (x : Fetched) → fetch f block at ≡ x → reads_at own.value x ≡ true → (block ≡ s.block) × (s.at < at)
        on Nowhere e r = absurd (cc)
        on (AtInstr i) e r =
            let x = stands_in f (point block at) i (instr_there f block at i e) in
            absurd (not_in_instr k f coroutine switches s.block s.at where_it_is.block c.instr where_it_is.got own block x.block i x.got (listed_at x.block.instrs at i x.stands) (cases_eq block s.block) (read_here own.value (AtInstr i) r))
        on (AtTerm t) e r = by (cases_eq block s.block)
          where
            x : IsEnd f block at t
            x = term_there f block at t e

            by : (block ≡ s.block) ⊎ (block ≡ s.block → ⊥) → (block ≡ s.block) × (s.at < at)
            by (inl same) =
                let both : Some x.own ≡ Some where_it_is.block = sym x.got ∙ ap (slice_get f.blocks) same ∙ where_it_is.got in
                let one : x.own ≡ where_it_is.block = cc in
                let lengths : length x.own.instrs ≡ length where_it_is.block.instrs = ap (λ (b : Block). length b.instrs) one in
                let last = x.last in
                let before = own.last in
                (same, omega (arith, lengths, last, before))
            by (inr other) =
                absurd (not_switched_on k f coroutine switches s.block s.at where_it_is.block c.instr where_it_is.got own block x.own x.got other
                (subst (λ (u : Terminator). IsListed own.value (locals_in (ending_operands u))) (sym x.is) (read_here own.value (AtTerm t) r)))

    no_phi : (from label : ℕ) → IsTrue (phis_read own.value from (phis_at f label)) → ⊥
    no_phi from label h = on (slice_get f.blocks place) refl h
      where
        place : ℕ
        place = position_of f label

        on : (o : Option Block) → slice_get f.blocks place ≡ o → phis_read own.value from (phis_of o) ≡ true → ⊥
        on None e r = absurd (cc)
        on (Some b) e r =
            let x = taker own.value from b.phis r in
            not_in_phi k f coroutine switches s.block s.at where_it_is.block c.instr where_it_is.got own place b x.phi e x.listed (cases_eq place s.block) x.takes

    pub is_unread : (v : ℕ) → given_by c.instr ≡ Some v → IsNeededBehind f s v → ⊥
    is_unread v g n =
        let both : Some own.value ≡ Some v = sym own.result ∙ sym (given_suspend c.instr c.is) ∙ g in
        let same : own.value ≡ v = cc in
        not_behind f s own.value c.instr c.stands (g ∙ ap Some (sym same)) only no_phi (subst (λ (n : ℕ). IsNeededBehind f s n) (sym same) n)
