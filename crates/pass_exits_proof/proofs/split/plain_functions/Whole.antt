-- A function that is no coroutine breaks none of the rules of modules without coroutines, once it is turned.
use Rattle.std.proofs.Common.{◌≡◌, ℕ, ◌<◌, Bool, true, false, List, [], ◌∷◌, length, refl, sym, ap, ◌∙◌, subst, arith}
use Rattle.std.specs.List.{list_all}
use Rattle.std.specs.Prelude.{None, Option, Some, is_none, not, slice_get, ◌&&◌, ◌||◌}
use Rattle.pass_fetch_proof.specs.ir_base.declared.outcome.Place.{Place}
use Rattle.pass_split.specs.Parts.{plain_of, plain_shape}
use Rattle.pass_split.specs.Pieces.{next_after, pieces_of}
use Rattle.pass_fetch_proof.proofs.rule_laws.rules.local_rules.Fitting.{either, no_either}
use Rattle.pass_fetch_proof.proofs.ir_laws.facts.Truth.{and_first, and_second, holds, is_void, first_no, second_no}
use Rattle.pass_fetch_proof.proofs.ir_laws.facts.local_rules.Woven.{other_number}
use Rattle.pass_fetch_proof.specs.rule_laws.rules.source_rules.Named.{HasTabledLocals}
use Rattle.pass_fetch_proof.specs.ir_parts.Contents.{ending_labels}
use Rattle.pass_fetch_proof.specs.ir_parts.Locals.{locals_of}
use Rattle.pass_fetch_proof.specs.ir_parts.Parts.{Ending, OfInstr, parts_of}
use Rattle.pass_fetch_proof.specs.rule_laws.rules.function_rules.Kept.{KeepsFunctionRulesAt}
use Rattle.pass_fetch_proof.specs.pass_intrinsics.declared.shape.Part.{Part}
use Rattle.pass_fetch_proof.specs.pass_intrinsics.declared.shape.Shape.{Shape}
use Rattle.ir_model.specs.Ty.{Ty}
use Rattle.ir_model.specs.declared.instr.Instr.{Instr}
use Rattle.ir_model.specs.declared.module.Block.{Block}
use Rattle.ir_model.specs.declared.module.Function.{Function}
use Rattle.ir_model.specs.declared.module.Module.{Module}
use Rattle.ir_model.specs.declared.operand.Arg.{Arg}
use Rattle.ir_model.specs.declared.operand.Callee.{Callee}
use Rattle.ir_model.specs.declared.operand.Intrinsic.{Intrinsic}
use Rattle.pass_fetch_proof.specs.rule_locals.Instrs.{on_instr}
use Rattle.pass_fetch_proof.specs.rule_locals.Intrinsics.{calls_inner, is_inner}
use Rattle.pass_fetch_proof.specs.rule_names.Known.{is_label, is_value, names_unknown}
use Rattle.pass_fetch_proof.specs.rule_names.declared.stage.Stage.{Stage}
use Rattle.pass_fetch_proof.proofs.rule_laws.rules.turned.Defined.{defined_low}
use Rattle.pass_fetch_proof.proofs.rule_laws.frames.turned.Edges.{edges_turned}
use Rattle.pass_fetch_proof.proofs.rule_laws.frames.turned.Known.{locals_known, term_labels}
use Rattle.pass_fetch_proof.proofs.rule_laws.frames.turned.Local.{late_turned, marks_turned}
use Rattle.pass_fetch_proof.proofs.rule_laws.frames.turned.Once.{once_turned}
use Rattle.pass_exits_proof.proofs.split.plain_functions.Turned.{AreNoEnds, all_turned}
use Rattle.pass_fetch_proof.proofs.rule_laws.frames.turned.Turned.{AreTurned}
use Rattle.pass_fetch_proof.proofs.rule_laws.rules.turned.Turned.{IsOuter, is_outer}
use Rattle.pass_fetch_proof.proofs.rule_laws.frames.turned.Uses.{uses_turned}
use Rattle.pass_fetch_proof.specs.rule_laws.rules.plain_rules.Kept.{KeepsPlainRules}
use Rattle.pass_fetch_proof.specs.rule_laws.frames.same_names.Parts.{HasPartsOf}
use Rattle.pass_exits_proof.proofs.split.rules.Cutting.{cut_blocks}
use Rattle.pass_exits_proof.proofs.split.rules.Instructions.{plain_kept}
use Rattle.pass_exits_proof.proofs.split.rules.Laws.{plain_named}
use Rattle.pass_fetch_proof.specs.run_laws.changed.Changed.{Each}
use Rattle.pass_fetch_proof.specs.rule_types.Signatures.{are_wanted, calls_otherwise, is_result}
use Rattle.pass_fetch_proof.specs.rule_types.Wants.{intrinsic_params, intrinsic_result}
use Rattle.pass_fetch_proof.specs.rule_types.declared.wants.Basic.{Basic}
use Rattle.pass_fetch_proof.specs.rule_values.Instrs.{fits_called, fits_result, passes}
use Rattle.pass_fetch_proof.specs.rule_values.Kinds.{value_kind}
use Rattle.pass_fetch_proof.specs.rule_values.Values.{breaks_values}
use Rattle.pass_fetch_proof.proofs.rule_laws.rules.woven_rules.Unbroken.{Passes, PassesIn, all_pass}
use Rattle.pass_fetch_proof.specs.ir_parts.Parts as parts

-- ---- no inner call, and no result of a resume or a destroy

not_false : (b : Bool) → b ≡ false → not b ≡ true
not_false b e = ap not e

-- what three rules give of an instruction
abbrev Fits : Module → Function → Place → parts.Part → Bool
Fits m f = either (either (on_instr (calls_inner f.coroutine)) (calls_otherwise m)) (breaks_values m (value_kind f) f.result)

resultless : (ty : Option Ty) (r : Option ℕ) (callee : Callee) → is_result None ty ≡ true → fits_result callee ty r ≡ true → is_none r ≡ true
resultless None None callee e d = refl
resultless None (Some r) callee e d = absurd (cc)
resultless (Some t) r callee e d = absurd (cc)

module _ (m : Module) (f : Function) (coroutine : f.coroutine ≡ false) where
  void : (p : Place) (x : Intrinsic) (r : Option ℕ) (must_tail : Bool) (ty : Option Ty) (args : List Arg) → intrinsic_result x ≡ None → Fits m f p (OfInstr (Instr.Call r must_tail ty (Callee.Intrinsic x) args)) ≡ false → is_none r ≡ true
  void p x r must_tail ty args none e =
      let i : Instr = Instr.Call r must_tail ty (Callee.Intrinsic x) args in
      let first : Bool = on_instr (calls_inner f.coroutine) p (OfInstr i) in
      let second : Bool = calls_otherwise m p (OfInstr i) in
      let third : Bool = breaks_values m (value_kind f) f.result p (OfInstr i) in
      let called : (is_result (intrinsic_result x) ty && are_wanted (intrinsic_params x) args) ≡ true = holds (is_result (intrinsic_result x) ty && are_wanted (intrinsic_params x) args) (second_no first second (first_no (first || second) third e)) in
      let valued : (fits_result (Callee.Intrinsic x) ty r && (fits_called (value_kind f) (Callee.Intrinsic x) args && list_all (passes (value_kind f) (Callee.Intrinsic x)) args)) ≡ true =
      holds (fits_result (Callee.Intrinsic x) ty r && (fits_called (value_kind f) (Callee.Intrinsic x) args && list_all (passes (value_kind f) (Callee.Intrinsic x)) args)) (second_no (first || second) third e) in
      resultless ty r (Callee.Intrinsic x)
      (subst (λ (o : Option Basic). is_result o ty ≡ true) none (and_first (is_result (intrinsic_result x) ty) (are_wanted (intrinsic_params x) args) called))
      (and_first (fits_result (Callee.Intrinsic x) ty r) (fits_called (value_kind f) (Callee.Intrinsic x) args && list_all (passes (value_kind f) (Callee.Intrinsic x)) args) valued)

  outer_call : (p : Place) (x : Intrinsic) (r : Option ℕ) (must_tail : Bool) (ty : Option Ty) (args : List Arg) → Fits m f p (OfInstr (Instr.Call r must_tail ty (Callee.Intrinsic x) args)) ≡ false → not (is_inner x) ≡ true
  outer_call p x r must_tail ty args e =
      let i : Instr = Instr.Call r must_tail ty (Callee.Intrinsic x) args in
      let first : Bool = on_instr (calls_inner f.coroutine) p (OfInstr i) in
      let second : Bool = calls_otherwise m p (OfInstr i) in
      let third : Bool = breaks_values m (value_kind f) f.result p (OfInstr i) in
      ap not (ap (λ (b : Bool). not b && is_inner x) (sym coroutine) ∙ first_no first second (first_no (first || second) third e))

  is_outer_one : (p : Place) (i : Instr) → Fits m f p (OfInstr i) ≡ false → is_outer i ≡ true
  is_outer_one p (Instr.Call r must_tail ty (Callee.Intrinsic x) args) e = outer_call p x r must_tail ty args e
  is_outer_one p _ e = refl

  is_void_one : (p : Place) (i : Instr) → Fits m f p (OfInstr i) ≡ false → is_void i ≡ true
  is_void_one p (Instr.Call r must_tail ty (Callee.Intrinsic Intrinsic.CoroResume) args) e = void p Intrinsic.CoroResume r must_tail ty args refl e
  is_void_one p (Instr.Call r must_tail ty (Callee.Intrinsic Intrinsic.CoroDestroy) args) e = void p Intrinsic.CoroDestroy r must_tail ty args refl e
  is_void_one p _ e = refl

  outer_all : (is : List Instr) → Each (λ (i : Instr). Passes (Fits m f) (OfInstr i)) is → Each IsOuter is
  outer_all [] h = tt
  outer_all (i ∷ is) h = ((is_outer_one h.0.0 i h.0.1, is_void_one h.0.0 i h.0.1), outer_all is h.1)

  outer_blocks : (bs : List Block) → Each (PassesIn (Fits m f)) bs → Each (λ (b : Block). Each IsOuter b.instrs) bs
  outer_blocks [] h = tt
  outer_blocks (b ∷ bs) h = (outer_all b.instrs h.0.of_instrs, outer_blocks bs h.1)

-- ---- labels stand in the table of names

module _ (m : Module) (k : ℕ) (f : Function) (tabled : HasTabledLocals k f) where
  no_ends : (ls : List ℕ) → list_all (is_label k f) ls ≡ true → AreNoEnds (plain_shape f) ls
  no_ends [] e = tt
  no_ends (n ∷ ls) e =
      let low : n < length f.names = defined_low true (locals_of k f) n (length f.names) tabled (and_first (is_label k f n) (list_all (is_label k f) ls) e) in
      (other_number n (length f.names) (λ same. let is : n ≡ length f.names = same in absurd (omega (arith, low, is))), no_ends ls (and_second (is_label k f n) (list_all (is_label k f) ls) e))

  no_end_blocks : (bs : List Block) → Each (PassesIn (names_unknown m (is_value k f) (is_label k f))) bs → Each (λ (b : Block). AreNoEnds (plain_shape f) (ending_labels b.term)) bs
  no_end_blocks [] h = tt
  no_end_blocks (b ∷ bs) h = (no_ends (ending_labels b.term) (term_labels m k f h.0.of_term.0 (Ending b.term) h.0.of_term.1), no_end_blocks bs h.1)

-- ---- the function

-- the blocks, turned
pub blocks_turned : (stage : Stage) (m : Module) (k : ℕ) (f : Function) → f.coroutine ≡ false
    → KeepsFunctionRulesAt stage m k f
    → AreTurned (plain_shape f) (length f.names) f.blocks (plain_of (plain_shape f) f).blocks
blocks_turned stage m k f coroutine rules =
    let s : Shape = plain_shape f in
    let g : Function = plain_of s f in
    let fits = no_either (either (on_instr (calls_inner f.coroutine)) (calls_otherwise m)) (breaks_values m (value_kind f) f.result) (parts_of k f)
    (no_either (on_instr (calls_inner f.coroutine)) (calls_otherwise m) (parts_of k f) rules.local.misplaced rules.calls) rules.local.values in
    (all_turned s s.base (next_after s Part.Ramp [] s.base f.blocks) f.blocks (pieces_of s Part.Ramp [] s.base f.blocks) (cut_blocks s Part.Ramp [] s.base f.blocks)
    (outer_blocks m f coroutine f.blocks (all_pass (Fits m f) k f fits))
    (no_end_blocks m k f rules.tabled f.blocks (all_pass (names_unknown m (is_value k f) (is_label k f)) k f rules.known))).0

pub turned_keeps : (stage : Stage) (m n : Module) (k l : ℕ) (f : Function) → HasPartsOf m n
    → slice_get m.functions k ≡ Some f → f.coroutine ≡ false → KeepsFunctionRulesAt stage m k f
    → KeepsPlainRules n l (plain_of (plain_shape f) f)
turned_keeps stage m n k l f h stands coroutine rules =
    let s : Shape = plain_shape f in
    let g : Function = plain_of s f in
    let blocks : AreTurned s (length f.names) f.blocks g.blocks = blocks_turned stage m k f coroutine rules in
    let kept = plain_kept stage m n k l f h stands coroutine rules in
    let named = plain_named stage m n k l f h stands coroutine rules (locals_known s m k l f g (length f.names) blocks refl rules.known) in
    record {
      definitions = once_turned s k l f g blocks refl rules.tabled rules.definitions;
      known = named.0;
      depths = kept.depths;
      calls = kept.calls;
      values = named.1;
      closed_calls = kept.closed_calls;
      extents = kept.extents;
      transfers = kept.transfers;
      edges = edges_turned s f g (length f.names) blocks k l rules.edges;
      uses = uses_turned s f g (length f.names) blocks refl k l rules.uses;
      allocas = late_turned s k l f g (length f.names) blocks rules.local.allocas;
      marks = marks_turned m n h s k l f g (length f.names) blocks rules.local.marks;
    }
