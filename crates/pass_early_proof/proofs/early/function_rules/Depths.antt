-- Types as deep as they may be in a source are so in what the first pass makes of it (rule L1).
use Rattle.std.proofs.Common.{Bool, List, None, Option, Some, ap, false, if◌then◌else◌, length, map, refl, sym, true, ℕ, ◌&&◌, ◌++◌, ◌+◌, ◌∙◌, ◌∷◌, ◌≡◌}
use Rattle.std.specs.Prelude.{option_to_list, slice_get}
use Rattle.rule_laws.specs.ir_base.declared.outcome.Place.{Place}
use Rattle.rule_laws.specs.ir_base.declared.rule.Rule.{Rule}
use Rattle.rule_laws.proofs.rules.plain_rules.Places.{both_later}
use Rattle.rule_laws.proofs.rules.local_rules.Accepted.{both_refused}
use Rattle.pass_early_proof.proofs.early.local_rules.Carried.{Carries, StaysOut, carried}
use Rattle.pass_early_proof.proofs.early.local_rules.Known.{arg_types_same, ending_types_same, instr_types_same}
use Rattle.pass_early_proof.proofs.early.local_rules.Sources.{of_function}
use Rattle.pass_early_proof.proofs.early.local_rules.Turned.{Any, Begins, Saves, Stays, Turns, saved_args, turned_function}
use Rattle.pass_early.specs.Early.{early_function, early_module, save_call}
use Rattle.pass_early.specs.Renaming.{renamed_arg, renamed_instr, renamed_phi, renamed_term}
use Rattle.pass_early.specs.declared.renaming.Renaming.{Renaming}
use Rattle.rule_laws.specs.ir_parts.Contents.{part_types}
use Rattle.rule_laws.specs.ir_parts.Parts.{Ending, Head, OfInstr, OfPhi, Part, Signature, first_part, function_place, parts_of}
use Rattle.rule_laws.specs.rule_all.Order.{items_refusal, refusal}
use Rattle.rule_laws.specs.rule_all.Refused.{IsRefused}
use Rattle.ir_model.specs.Ty.{ptr, token}
use Rattle.ir_model.specs.declared.instr.Instr.{Instr}
use Rattle.ir_model.specs.declared.module.Function.{Function}
use Rattle.ir_model.specs.declared.module.Module.{Module}
use Rattle.ir_model.specs.declared.module.TypeItem.{TypeItem}
use Rattle.ir_model.specs.declared.operand.Callee.{Callee}
use Rattle.ir_model.specs.declared.operand.Intrinsic.{Intrinsic}
use Rattle.rule_laws.specs.rule_modules.Order.{module_refusal, or_refusal}
use Rattle.rule_laws.specs.rule_modules.declared.order.Refusal.{Refusal}
use Rattle.rule_laws.specs.rule_names.Definitions.{second_definitions}
use Rattle.rule_laws.specs.rule_names.Items.{first_place}
use Rattle.rule_laws.specs.rule_names.Known.{unknown_names}
use Rattle.rule_laws.specs.rule_names.Reserved.{reserved_names}
use Rattle.rule_laws.specs.rule_names.declared.stage.Stage.{Stage}
use Rattle.rule_laws.specs.run_laws.changed.Changed.{Each}
use Rattle.rule_laws.specs.rule_types.Depth.{is_shallow}
use Rattle.rule_laws.specs.rule_types.Limits.{all_fit, breaks_limits, first_past, is_past, limits, value_past}
use Rattle.rule_laws.specs.rule_types.Signatures.{other_types}
use Rattle.rule_laws.proofs.rules.function_rules.Depths.{plain_part, types_fit}

-- ---- the limits of a source

pub within_limits : (m : Module) → IsRefused Stage.Source m None → first_place (limits Stage.Source m) m ≡ None
unfolding refusal
within_limits m h =
    let both = both_later (module_refusal Stage.Source m) (items_refusal Stage.Source m h.faults) (sym h.is) in
    let fourth : Option Refusal = or_refusal Rule.Y2 (first_place (other_types m) m) None in
    let third : Option Refusal = or_refusal Rule.N3 (first_place (reserved_names Stage.Source m) m) fourth in
    let second : Option Refusal = or_refusal Rule.N2 (first_place (unknown_names m) m) third in
    (both_refused Rule.L1 (first_place (limits Stage.Source m) m) (or_refusal Rule.N1 (first_place (second_definitions m) m) second) both.0).0

parts_within : (m : Module) (k : ℕ) (f : Function) → first_past Stage.Source m k f ≡ None → first_part (breaks_limits Stage.Source m (value_past Stage.Source 1048576 k f)) (parts_of k f) ≡ None
parts_within m k f e = on (is_past Stage.Source 65535 (length m.declarations + k)) e
  where
    on : (b : Bool) → (if b then Some (function_place k) else first_part (breaks_limits Stage.Source m (value_past Stage.Source 1048576 k f)) (parts_of k f)) ≡ None → first_part (breaks_limits Stage.Source m (value_past Stage.Source 1048576 k f)) (parts_of k f) ≡ None
    on true d = absurd (cc)
    on false d = d

-- the types of a save that is written
save_fits : (types : List TypeItem) → (is_shallow types token && (is_shallow types ptr && true)) ≡ true
unfolding is_shallow
save_fits types = refl

-- ---- the first pass

module _ (m : Module) (past : Option Place) (r : Renaming) (fresh : ℕ → Type 0) where
  abbrev m2 : Module
  m2 = early_module m

  over : (x y : Part) → part_types y ≡ part_types x → (p q : Place) → breaks_limits Stage.Source m past p x ≡ false → breaks_limits Stage.Plain m2 None q y ≡ false
  over x y same p q e = plain_part m2 q y (ap (all_fit m) same ∙ types_fit Stage.Source m past p x e)

  instr_over : (p : Place) (i : Instr) (js : List Instr) → Turns r fresh i js → breaks_limits Stage.Source m past p (OfInstr i) ≡ false → Each (StaysOut (breaks_limits Stage.Plain m2 None) p) js
  instr_over p i _ (Stays _) e = (λ q d. over (OfInstr i) (OfInstr (renamed_instr r i)) (instr_types_same r i) p q e, tt)
  instr_over p _ _ (Begins n result must_tail ty args) e =
      let i : Instr = Instr.Call result must_tail ty (Callee.Intrinsic Intrinsic.CoroBegin) args in
      let j : Instr = Instr.Call (Some n) must_tail ty (Callee.Intrinsic Intrinsic.CoroBegin) (map (renamed_arg r) args) in
      (λ q d. over (OfInstr i) (OfInstr j) (λ k. option_to_list ty ++ arg_types_same r args k) p q e, tt)
  instr_over p _ _ (Saves n result must_tail ty a args number none) e =
      let i : Instr = Instr.Call result must_tail ty (Callee.Intrinsic Intrinsic.CoroSuspend) (a ∷ args) in
      let j : Instr = Instr.Call result must_tail ty (Callee.Intrinsic Intrinsic.CoroSuspend) (saved_args r n a args) in
      (λ q d. plain_part m2 q (OfInstr (save_call n)) (save_fits m.types), (λ q d. over (OfInstr i) (OfInstr j) (λ k. option_to_list ty ++ (a.ty ∷ arg_types_same r args k)) p q e, tt))

  limits_carried : (f g : Function) → g.result ≡ f.result → g.params ≡ f.params → Carries r fresh f g (breaks_limits Stage.Source m past) (breaks_limits Stage.Plain m2 None)
  limits_carried f g result params =
      record {
        signature = λ p e. over (Signature f) (Signature g) (λ k. option_to_list (result k) ++ map (λ x. x.ty) (params k)) p p e;
        head = λ p b c d e. over (Head b) (Head c) refl p p e;
        phi = λ p x e. over (OfPhi x) (OfPhi (renamed_phi r x)) refl p p e;
        instr = instr_over;
        ending = λ p q t e. over (Ending t) (Ending (renamed_term r t)) (ending_types_same r t) p q e;
      }

pub early_depths : (m : Module) → IsRefused Stage.Source m None → (k : ℕ) (f : Function) → slice_get m.functions k ≡ Some f → first_past Stage.Plain (early_module m) k (early_function f) ≡ None
early_depths m accepted k f there =
    let g : Function = early_function f in
    let t = turned_function f in
    let past : Option Place = value_past Stage.Source 1048576 k f in
    carried t.renaming Any f g (breaks_limits Stage.Source m past) (breaks_limits Stage.Plain (early_module m) None) (limits_carried m past t.renaming Any f g t.result t.params) k t.blocks
    (parts_within m k f (of_function m (limits Stage.Source m) (within_limits m accepted) k f there))
