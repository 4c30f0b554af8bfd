-- Markers that go, and coro.id without its promise.
use Rattle.std.proofs.Common.{◌≡◌, ℕ, ◌≤◌, Bool, true, false, List, [], ◌∷◌, ◌++◌, refl, sym, ap, ◌∙◌, arith}
use Rattle.std.specs.Prelude.{None, Option, Some, filter, map, option_to_list, ◌&&◌}
use Rattle.pass_fetch_proof.proofs.addresses.rules.Turning.{MayFilter, TurnsWell, filter_fewer, filter_woven, turned_woven}
use Rattle.pass_fetch_proof.specs.addresses.rules.Addresses.{left_over, turning_weaving}
use Rattle.pass_edges_proof.specs.ir_base.declared.outcome.Place.{Place}
use Rattle.pass_edges_proof.proofs.rule_laws.rules.local_rules.Fitting.{either, no_either}
use Rattle.pass_edges_proof.proofs.ir_laws.facts.Truth.{and_first, holds, first_no, second_no}
use Rattle.pass_edges_proof.proofs.rule_laws.rules.source_rules.Locals.{made_by}
use Rattle.pass_edges_proof.proofs.ir_laws.facts.Lists.{row_of}
use Rattle.pass_addresses.specs.Placing.{stays, without_markers, without_promise, without_promise_of}
use Rattle.pass_edges_proof.specs.ir_parts.Contents.{ending_operands, instr_operands, result_of}
use Rattle.pass_edges_proof.specs.ir_parts.Parts.{OfInstr, Part, parts_of}
use Rattle.pass_edges_proof.specs.rule_laws.rules.function_rules.Kept.{KeepsFunctionRules}
use Rattle.ir_model.specs.Ty.{Ty}
use Rattle.ir_model.specs.declared.instr.Incoming.{Incoming}
use Rattle.ir_model.specs.declared.instr.Instr.{Instr}
use Rattle.ir_model.specs.declared.instr.Phi.{Phi}
use Rattle.ir_model.specs.declared.module.Block.{Block}
use Rattle.ir_model.specs.declared.module.Function.{Function}
use Rattle.ir_model.specs.declared.module.Module.{Module}
use Rattle.ir_model.specs.declared.operand.Arg.{Arg}
use Rattle.ir_model.specs.declared.operand.Callee.{Callee}
use Rattle.ir_model.specs.declared.operand.Intrinsic.{Intrinsic}
use Rattle.ir_model.specs.declared.operand.Operand.{Operand}
use Rattle.pass_edges_proof.specs.run_laws.changed.Changed.{Each}
use Rattle.pass_edges_proof.specs.rule_types.Signatures.{are_wanted, calls_otherwise, is_result}
use Rattle.pass_edges_proof.specs.rule_types.Wants.{intrinsic_params}
use Rattle.pass_edges_proof.specs.rule_values.Instrs.{fits_called, fits_instr, fits_result, passes}
use Rattle.pass_edges_proof.specs.rule_values.Kinds.{value_kind}
use Rattle.pass_edges_proof.specs.rule_values.Values.{breaks_values}
use Rattle.std.specs.List.{list_all}
use Rattle.pass_edges_proof.proofs.rule_laws.rules.woven_rules.All.{rules_woven}
use Rattle.pass_edges_proof.proofs.rule_laws.rules.woven_rules.Edges.{incoming_woven}
use Rattle.pass_edges_proof.proofs.rule_laws.rules.woven_rules.Unbroken.{Passes, PassesIn, all_pass}
use Rattle.pass_edges_proof.proofs.rule_laws.rules.woven_rules.Pieces.{still_stays}
use Rattle.pass_edges_proof.proofs.ir_laws.facts.Members.{each_all, each_turns}
use Rattle.pass_edges_proof.specs.rule_laws.rules.woven_rules.Blocks.{AreWoven, Done, IsWoven, MayGo, Remain, Stays, Unpromised}
use Rattle.pass_edges_proof.specs.rule_laws.rules.woven_rules.Pairs.{AreIncomingOnce}
use Rattle.pass_edges_proof.specs.ir_laws.facts.woven_rules.Pairs.{times}
use Rattle.pass_edges_proof.specs.rule_laws.rules.woven_rules.Weaving.{Weaving, goes_in}
use Rattle.pass_edges_proof.proofs.rule_laws.rules.address_rules.Unmarked.{no_result}

-- nothing goes
abbrev pub stays_all : ℕ → Bool
stays_all n = false

module _ (f : Function) where
  abbrev W : Weaving
  W = turning_weaving f stays_all

  pub none_goes : (x : Operand) → goes_in W x ≡ false
  none_goes (Operand.Local v) = refl
  none_goes _ = refl

  pub all_stay : (xs : List Operand) → Each (λ (x : Operand). goes_in W x ≡ false) xs
  all_stay xs = each_all (λ (x : Operand). goes_in W x ≡ false) none_goes xs

  pub phis_stay : (ps : List Phi) → Each (λ (p : Phi). Each (λ (i : Incoming). goes_in W i.value ≡ false) p.incoming) ps
  phis_stay ps = each_all (λ (p : Phi). Each (λ (i : Incoming). goes_in W i.value ≡ false) p.incoming) (λ p. each_all (λ (i : Incoming). goes_in W i.value ≡ false) (λ i. none_goes i.value) p.incoming) ps

module _ (m : Module) (k : ℕ) (f : Function) (marked : List Bool) where
  abbrev fitting : Place → Part → Bool
  fitting = either (breaks_values m (value_kind f) f.result) (calls_otherwise m)

  marker_result : (c : Intrinsic) (wants : is_result None None ≡ true) (r : Option ℕ) (must_tail : Bool) (ty : Option Ty) (args : List Arg) → ((is_result None ty && are_wanted (intrinsic_params c) args) ≡ true) → fits_instr m (value_kind f) (Instr.Call r must_tail ty (Callee.Intrinsic c) args) ≡ true → r ≡ None
  marker_result c wants r must_tail ty args calls fits =
      no_result (Callee.Intrinsic c) ty r (and_first (is_result None ty) (are_wanted (intrinsic_params c) args) calls)
      (and_first (fits_result (Callee.Intrinsic c) ty r) (fits_called (value_kind f) (Callee.Intrinsic c) args && list_all (passes (value_kind f) (Callee.Intrinsic c)) args) fits)

  none_made : (r : Option ℕ) → r ≡ None → (n : ℕ) → r ≡ Some n → stays_all n ≡ true
  none_made r e n d = let t : None ≡ Some n = sym e ∙ d in absurd (cc)

  marker_goes : (i : Instr) → Passes fitting (OfInstr i) → stays marked i ≡ false → MayGo (turning_weaving f stays_all) i
  marker_goes (Instr.Call r must_tail ty (Callee.Intrinsic Intrinsic.LifetimeStart) args) h e =
      let i : Instr = Instr.Call r must_tail ty (Callee.Intrinsic Intrinsic.LifetimeStart) args in
      let values = holds (fits_instr m (value_kind f) i) (first_no (breaks_values m (value_kind f) f.result h.0 (OfInstr i)) (calls_otherwise m h.0 (OfInstr i)) h.1) in
      let calls = holds (is_result None ty && are_wanted (intrinsic_params Intrinsic.LifetimeStart) args) (second_no (breaks_values m (value_kind f) f.result h.0 (OfInstr i)) (calls_otherwise m h.0 (OfInstr i)) h.1) in
      none_made r (marker_result Intrinsic.LifetimeStart refl r must_tail ty args calls values)
  marker_goes (Instr.Call r must_tail ty (Callee.Intrinsic Intrinsic.LifetimeEnd) args) h e =
      let i : Instr = Instr.Call r must_tail ty (Callee.Intrinsic Intrinsic.LifetimeEnd) args in
      let values = holds (fits_instr m (value_kind f) i) (first_no (breaks_values m (value_kind f) f.result h.0 (OfInstr i)) (calls_otherwise m h.0 (OfInstr i)) h.1) in
      let calls = holds (is_result None ty && are_wanted (intrinsic_params Intrinsic.LifetimeEnd) args) (second_no (breaks_values m (value_kind f) f.result h.0 (OfInstr i)) (calls_otherwise m h.0 (OfInstr i)) h.1) in
      none_made r (marker_result Intrinsic.LifetimeEnd refl r must_tail ty args calls values)
  marker_goes _ h e = absurd (cc)

  module _ (keeps : KeepsFunctionRules m k f) where
    all_fit : Each (PassesIn fitting) f.blocks
    all_fit = all_pass fitting k f (no_either (breaks_values m (value_kind f) f.result) (calls_otherwise m) (parts_of k f) keeps.local.values keeps.calls)

    block_turns : (b : Block) → PassesIn fitting b → TurnsWell m k f keeps.tabled stays_all (filter (stays marked)) (filter_fewer (stays marked)) b
    block_turns b h =
        record {
          instrs = λ block made. filter_woven (turning_weaving f stays_all) f m (stays marked) block made b.instrs (each_turns (λ (i : Instr). Passes fitting (OfInstr i)) (MayFilter (turning_weaving f stays_all) f (stays marked)) (λ i p. record { out = marker_goes i p; kept = λ e. all_stay f (instr_operands i) }) b.instrs h.of_instrs);
          phis = phis_stay f b.phis;
          term = all_stay f (ending_operands b.term);
        }

    pub markers_woven : IsWoven (turning_weaving f stays_all) m f (without_markers marked f)
    markers_woven =
        turned_woven m k f keeps.tabled stays_all (filter (stays marked)) (filter_fewer (stays marked))
        (each_turns (PassesIn fitting) (TurnsWell m k f keeps.tabled stays_all (filter (stays marked)) (filter_fewer (stays marked))) block_turns f.blocks all_fit)

-- ---- the promise

pub promise_result : (i : Instr) → result_of (without_promise_of i) ≡ result_of i
promise_result (Instr.Call r must_tail ty (Callee.Intrinsic Intrinsic.CoroId) args) = refl
promise_result _ = refl

promise_fewer : (n : ℕ) (is : List Instr) → times n (row_of made_by (map without_promise_of is)) ≤ times n (row_of made_by is)
promise_fewer n is = let e : times n (row_of made_by (map without_promise_of is)) ≡ times n (row_of made_by is) = ap (times n) (same is) in omega (arith, e)
  where
    same : (js : List Instr) → row_of made_by (map without_promise_of js) ≡ row_of made_by js
    same [] = refl
    same (j ∷ js) = λ i. option_to_list (promise_result j i) ++ same js i

module _ (m : Module) (k : ℕ) (f : Function) (keeps : KeepsFunctionRules m k f) where
  promise_stays : (made : List ℕ) (i : Instr) → Stays (turning_weaving f stays_all) f made i (without_promise_of i)
  promise_stays made (Instr.Call r must_tail ty (Callee.Intrinsic Intrinsic.CoroId) (a ∷ p ∷ args)) = Unpromised r must_tail ty a p args (each_all (λ (b : Arg). goes_in (turning_weaving f stays_all) b.value ≡ false) (λ b. none_goes f b.value) (a ∷ args))
  promise_stays made (Instr.Call r must_tail ty (Callee.Intrinsic Intrinsic.CoroId) []) = still_stays (turning_weaving f stays_all) f made (Instr.Call r must_tail ty (Callee.Intrinsic Intrinsic.CoroId) []) tt
  promise_stays made (Instr.Call r must_tail ty (Callee.Intrinsic Intrinsic.CoroId) (a ∷ [])) = still_stays (turning_weaving f stays_all) f made (Instr.Call r must_tail ty (Callee.Intrinsic Intrinsic.CoroId) (a ∷ [])) (all_stay f (instr_operands (Instr.Call r must_tail ty (Callee.Intrinsic Intrinsic.CoroId) (a ∷ []))))
  promise_stays made i = still_stays (turning_weaving f stays_all) f made i (all_stay f (instr_operands i))

  promise_instrs : (block : ℕ) (made : List ℕ) (is : List Instr) → AreWoven (turning_weaving f stays_all) m f block made is (map without_promise_of is)
  promise_instrs block made [] = Done made
  promise_instrs block made (i ∷ is) = Remain made i (without_promise_of i) is (map without_promise_of is) (promise_stays made i) (promise_instrs block (made_by (without_promise_of i) ++ made) is)

  pub promise_woven : IsWoven (turning_weaving f stays_all) m f (without_promise f)
  promise_woven =
      turned_woven m k f keeps.tabled stays_all (map without_promise_of) promise_fewer
      (each_all (TurnsWell m k f keeps.tabled stays_all (map without_promise_of) promise_fewer) (λ b. record { instrs = λ block made. promise_instrs block made b.instrs; phis = phis_stay f b.phis; term = all_stay f (ending_operands b.term) }) f.blocks)

-- ---- both

module _ (m : Module) (k : ℕ) (f : Function) (marked : List Bool) (keeps : KeepsFunctionRules m k f) (once : AreIncomingOnce f) where
  abbrev G : Function
  G = without_markers marked f

  without_keeps : KeepsFunctionRules m k G
  without_keeps = rules_woven (turning_weaving f stays_all) m k f G (markers_woven m k f marked keeps) keeps once

  without_once : AreIncomingOnce G
  without_once = incoming_woven (turning_weaving f stays_all) m f G (markers_woven m k f marked keeps) once

  pub left_woven : IsWoven (turning_weaving G stays_all) m G (left_over marked f)
  left_woven = promise_woven m k G without_keeps

  pub unmarked_keeps : KeepsFunctionRules m k (left_over marked f)
  unmarked_keeps = rules_woven (turning_weaving G stays_all) m k G (left_over marked f) left_woven without_keeps without_once

  pub unmarked_once : AreIncomingOnce (left_over marked f)
  unmarked_once = incoming_woven (turning_weaving G stays_all) m G (left_over marked f) left_woven without_once
