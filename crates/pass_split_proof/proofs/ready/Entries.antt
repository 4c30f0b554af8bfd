-- A function that is no coroutine is found in the parts by its name.
use Rattle.std.proofs.Common.{◌≡◌, ℕ, ◌+◌, false, sym, ap, ◌∙◌, arith}
use Rattle.std.specs.Prelude.{Some, slice_get}
use Rattle.pass_proofs.specs.frame_layout.declared.layout.Layouts.{Layouts}
use Rattle.pass_proofs.specs.ir_laws.facts.same_names.Short.{HaveShortNames}
use Rattle.pass_proofs.specs.ir_model.Names.{function_named}
use Rattle.pass_proofs.specs.ir_model.declared.module.Function.{Function}
use Rattle.pass_proofs.specs.ir_model.declared.module.Module.{Module}
use Rattle.pass_proofs.specs.exits.states.Exits.{exits_split}
use Rattle.pass_proofs.specs.pass_split.Given.{has_given_call}
use Rattle.pass_split_proof.proofs.code.Positions.{first_there, found_by_name, stands_moved}
use Rattle.pass_split_proof.specs.code.Positions.{layout_at, moved}
use Rattle.pass_split_proof.specs.first_exits.Parted.{parted_functions, parted_module}
use Rattle.pass_split_proof.specs.simulation.Statement.{IsEntryOfParts}
use Rattle.pass_proofs.specs.rule_laws.rules.plain_rules.Items.{KeepsItemRules}
use Rattle.pass_proofs.specs.rule_names.declared.stage.Stage.{Stage}

pub entry_moves : (ls : Layouts) (m : Module) → KeepsItemRules Stage.Source m → HaveShortNames m → (entry other : ℕ)
    (f g : Function) → slice_get (exits_split m).functions entry ≡ Some f → f.coroutine ≡ false
    → slice_get (parted_module ls (exits_split m)).functions other ≡ Some g → g.name ≡ f.name
    → IsEntryOfParts ls (exits_split m) entry other
entry_moves ls m rules short entry other f g there plain found same =
    let h : Module = exits_split m in
    let at : ℕ = moved ls.coroutines h h.functions entry in
    let y = first_there (layout_at ls.coroutines h.functions entry) (has_given_call h f) f in
    let none : at ≡ at + 0 = omega arith in
    let stands : slice_get (parted_functions ls.coroutines h h.functions) at ≡ Some y.one =
    ap (slice_get (parted_functions ls.coroutines h h.functions)) none
    ∙ stands_moved ls.coroutines h h.functions entry 0 f y.one there y.stands in
    let one : function_named (parted_module ls h) y.one.name ≡ Some at = found_by_name ls m rules short at y.one stands in
    let two : function_named (parted_module ls h) g.name ≡ Some other = found_by_name ls m rules short other g found in
    let both : Some other ≡ Some at =
    sym two ∙ ap (function_named (parted_module ls h)) (same ∙ sym y.has_name) ∙ one in
    record { function = f; there = there; plain = plain; moves = cc }
