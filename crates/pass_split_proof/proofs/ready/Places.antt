-- At a place of a function and its part the terminator reads nothing that a suspend gives.
use Rattle.std.proofs.Common.{◌≡◌, ◌<◌, ℕ, true, length, refl, sym, ap, ◌∙◌, subst}
use Rattle.std.specs.Prelude.{Option, Some, slice_get}
use Rattle.pass_proofs.specs.flow_solver.Paths.{IsListed}
use Rattle.pass_proofs.proofs.ir_laws.facts.Truth.{and_first, equal_numbers}
use Rattle.pass_proofs.proofs.ir_laws.paths.edges.Lists.{listed_at}
use Rattle.pass_proofs.specs.ir_model.Names.{is_local}
use Rattle.pass_proofs.specs.ir_model.declared.instr.Instr.{Instr}
use Rattle.pass_proofs.specs.ir_model.declared.instr.Terminator.{Terminator}
use Rattle.pass_proofs.specs.ir_model.declared.module.Block.{Block}
use Rattle.pass_proofs.specs.ir_model.declared.module.Function.{Function}
use Rattle.pass_proofs.specs.ir_model.declared.operand.Callee.{Callee}
use Rattle.pass_proofs.specs.ir_model.declared.operand.Intrinsic.{Intrinsic}
use Rattle.pass_proofs.specs.ir_model.declared.operand.Operand.{Operand}
use Rattle.pass_proofs.specs.ir_parts.Contents.{ending_operands}
use Rattle.pass_proofs.specs.pass_intrinsics.Shapes.{shape_of}
use Rattle.pass_proofs.specs.pass_intrinsics.declared.shape.Part.{Part}
use Rattle.pass_proofs.specs.pass_intrinsics.declared.shape.Shape.{Shape}
use Rattle.pass_proofs.specs.pass_split.Pieces.{redirected_term}
use Rattle.pass_split_proof.proofs.places.Laws.{end_of}
use Rattle.pass_split_proof.proofs.ready.Operands.{no_stop_outside, stop, stop_here}
use Rattle.pass_split_proof.proofs.ready.Stops.{no_stop_switch, redirected_on, switched_on}
use Rattle.pass_split_proof.specs.places.Places.{IsCodeOf, IsPlace, OfCoroutine, OfPlain}
use Rattle.pass_split_proof.specs.states.Values.{IsStopResult}
use Rattle.pass_proofs.proofs.rule_laws.rules.source_rules.Locals.{result_below}
use Rattle.pass_proofs.proofs.rule_laws.rules.sources.Places.{instr_there, point, term_there}
use Rattle.pass_proofs.specs.rule_shape.Switches.{end_label, is_switch_on}
use Rattle.pass_proofs.specs.rule_uses.Uses.{locals_in}
use Rattle.pass_proofs.specs.run_step.Step.{AtTerm, fetch}

local_is : (v : ℕ) (x : Operand) → is_local v x ≡ true → x ≡ Operand.Local v
local_is v (Operand.Local n) e = ap Operand.Local (sym (equal_numbers v n e))
local_is v _ e = absurd (cc)

on_switch : (v : ℕ) (end : Option ℕ) (t : Terminator) → is_switch_on v end t ≡ true
    → switched_on t ≡ Some (Operand.Local v)
on_switch v end (Terminator.Switch arg default cases) e = ap Some (local_is v arg.value
    (and_first (is_local v arg.value) _ e))
on_switch v end (Terminator.Jump label) e = absurd (cc)
on_switch v end (Terminator.Branch c a b) e = absurd (cc)
on_switch v end (Terminator.Ret value) e = absurd (cc)
on_switch v end Terminator.Unreachable e = absurd (cc)

pub not_read : (f q : Function) (s : Shape) (part : Part) (block at piece offset : ℕ) (t : Terminator)
    → IsCodeOf f q s part → IsPlace s part f q block at piece offset → fetch f block at ≡ AtTerm t → (v : ℕ)
    → IsListed v (locals_in (ending_operands t)) → IsStopResult f v → ⊥
not_read f q _ _ block at piece offset t (OfPlain m k plain rules same) p here v l r =
    no_stop_outside k f rules.local.misplaced plain v r
not_read f q _ _ block at piece offset t (OfCoroutine m k layout begin part x is) p here v l r =
    let y = term_there f block at t here in
    let same = stop_here k f x.coroutine x.switches block v y.own y.got
    (subst (λ (u : Terminator). IsListed v (locals_in (ending_operands u))) (sym y.is) l) r in
    let z = stop k f x.coroutine x.switches v r in
    let both : Some y.own ≡ Some z.own = sym y.got ∙ ap (slice_get f.blocks) same ∙ z.got in
    let one : y.own ≡ z.own = cc in
    let on : switched_on t ≡ Some (Operand.Local v) = ap switched_on (sym y.is ∙ ap (λ (b : Block). b.term) one)
    ∙ on_switch z.switch.value (end_label f) z.own.term z.switch.switch
    ∙ ap (λ (n : ℕ). Some (Operand.Local n)) z.gives in
    let there = (end_of f q (shape_of f layout) part block at piece offset t (OfCoroutine m k layout begin part x is)
    p here).0 in
    let w = term_there q piece offset (redirected_term (shape_of f layout) t) there in
    let i : Instr = Instr.Call (Some v) r.must_tail r.ty (Callee.Intrinsic Intrinsic.CoroSuspend) r.args in
    let low : v < length f.names = result_below k f x.rules.tabled (point r.block r.at) i v
    (instr_there f r.block r.at i r.there) refl in
    no_stop_switch m k f q begin x layout part is v r low w.own (listed_at q.blocks piece w.own w.got)
    (ap switched_on w.is ∙ redirected_on (shape_of f layout) t ∙ on)
