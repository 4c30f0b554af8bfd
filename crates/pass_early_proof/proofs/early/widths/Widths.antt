-- The widths of integer types stay where saves are written out and where edges have blocks.
use Rattle.std.proofs.Common.{◌≡◌, ℕ, ◌∙◌, false, List, ◌∷◌, refl, ap}
use Rattle.std.specs.Prelude.{None, Option, map, option_to_list, ◌++◌}
use Rattle.rule_laws.specs.rules.counted.Widths.{first_other_width, is_of_other_width}
use Rattle.rule_laws.specs.ir_base.declared.outcome.Place.{Place}
use Rattle.pass_early_proof.proofs.early.local_rules.Known.{ending_types_same, instr_types_same}
use Rattle.pass_early_proof.proofs.early.local_rules.Turned.{Any, Begins, Saves, Stays, Turns, turned_function}
use Rattle.pass_early.specs.Early.{early_function}
use Rattle.pass_early.specs.Renaming.{renamed_instr, renamed_term}
use Rattle.pass_early.specs.declared.renaming.Renaming.{Renaming}
use Rattle.rule_laws.specs.ir_parts.Contents.{ending_types, instr_types, part_types}
use Rattle.rule_laws.specs.ir_parts.Parts.{OfInstr, Signature}
use Rattle.ir_model.specs.Ty.{Ty}
use Rattle.ir_model.specs.declared.instr.Instr.{Instr}
use Rattle.ir_model.specs.declared.module.Function.{Function}
use Rattle.ir_model.specs.declared.module.Param.{Param}
use Rattle.ir_model.specs.declared.operand.Callee.{Callee}
use Rattle.ir_model.specs.declared.operand.Intrinsic.{Intrinsic}
use Rattle.rule_laws.specs.run_laws.changed.Changed.{Each}
use Rattle.rule_laws.proofs.ir_laws.facts.Lists.{same_widths}
use Rattle.pass_early_proof.proofs.early.local_rules.Carried as early

-- ---- where saves are written out

early_widths_carried : (r : Renaming) (f g : Function) → part_types (Signature g) ≡ part_types (Signature f) → early.Carries r Any f g is_of_other_width is_of_other_width
early_widths_carried r f g same =
    record {
      signature = λ p e. same_widths (part_types (Signature f)) (part_types (Signature g)) same e;
      head = λ p b c d e. refl;
      phi = λ p x e. e;
      instr = turned;
      ending = λ p q t e. same_widths (ending_types t) (ending_types (renamed_term r t)) (ending_types_same r t) e;
    }
  where
    turned : (p : Place) (i : Instr) (js : List Instr) → Turns r Any i js → is_of_other_width p (OfInstr i) ≡ false → Each (early.StaysOut is_of_other_width p) js
    turned p i _ (Stays _) e = (λ q d. same_widths (instr_types i) (instr_types (renamed_instr r i)) (instr_types_same r i) e, tt)
    turned p _ _ (Begins n result must_tail ty args) e =
        let i : Instr = Instr.Call result must_tail ty (Callee.Intrinsic Intrinsic.CoroBegin) args in
        (λ q d. same_widths (instr_types i) (instr_types (renamed_instr r i)) (instr_types_same r i) e, tt)
    turned p _ _ (Saves n result must_tail ty a args number none) e =
        let i : Instr = Instr.Call result must_tail ty (Callee.Intrinsic Intrinsic.CoroSuspend) (a ∷ args) in
        (λ q d. refl, (λ q d. same_widths (instr_types i) (instr_types (renamed_instr r i)) (instr_types_same r i) e, tt))

pub early_widths : (k : ℕ) (f : Function) → first_other_width k f ≡ None → first_other_width k (early_function f) ≡ None
early_widths k f e =
    let t = turned_function f in
    let same : part_types (Signature (early_function f)) ≡ part_types (Signature f) =
    ap (λ (o : Option Ty). option_to_list o ++ map (λ p. p.ty) (early_function f).params) t.result
    ∙ ap (λ (ps : List Param). option_to_list f.result ++ map (λ p. p.ty) ps) t.params in
    early.carried t.renaming Any f (early_function f) is_of_other_width is_of_other_width (early_widths_carried t.renaming f (early_function f) same) k t.blocks e
