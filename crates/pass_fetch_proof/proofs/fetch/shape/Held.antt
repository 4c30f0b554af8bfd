-- The calls by which a function is a coroutine stay where operands are fetched that are none of theirs.
use Rattle.std.proofs.Common.{◌≡◌, ℕ, zero, suc, ◌+◌, Bool, true, false, List, [], ◌∷◌, length, refl, sym, ap, ◌∙◌, subst}
use Rattle.std.specs.List.{list_all}
use Rattle.std.specs.Prelude.{Some, None, Option, slice_get, if◌then◌else◌, ◌&&◌}
use Rattle.pass_edges_proof.proofs.rule_laws.rules.counted.PartFacts.{block_passes}
use Rattle.pass_edges_proof.specs.ir_base.declared.outcome.Place.{Place}
use Rattle.pass_edges_proof.specs.ir_calls.Calls.{value_of_first}
use Rattle.pass_edges_proof.specs.rule_shape.OneOfEach.{calls_of, wrong_call}
use Rattle.pass_edges_proof.proofs.ir_laws.facts.Members.{at_each, each_there}
use Rattle.pass_edges_proof.proofs.rule_laws.rules.renamed.Outside.{each_left, each_right}
use Rattle.pass_edges_proof.proofs.ir_laws.facts.Truth.{and_second, holds}
use Rattle.pass_fetch_proof.specs.fetch.rules.Fetches.{AreUnfetched, base_of}
use Rattle.pass_edges_proof.proofs.rule_laws.rules.shape.Ordered.{IsSuspendValue}
use Rattle.pass_edges_proof.proofs.rule_laws.rules.shape.Steady.{IsAlike}
use Rattle.pass_edges_proof.proofs.ir_laws.paths.shape.Steady.{is_end}
use Rattle.pass_fetch_proof.proofs.fetch.shape.Wanted.{IsHeldCall, found_made, held_call}
use Rattle.pass_edges_proof.specs.ir_parts.Contents.{instr_operands}
use Rattle.pass_edges_proof.specs.ir_parts.Parts.{OfInstr}
use Rattle.pass_edges_proof.specs.rule_laws.rules.function_rules.Kept.{KeepsFunctionRules}
use Rattle.ir_model.specs.Calls.{first_result}
use Rattle.ir_model.specs.Names.{same_intrinsic}
use Rattle.ir_model.specs.Ty.{Ty, token}
use Rattle.ir_model.specs.declared.instr.Instr.{Instr}
use Rattle.ir_model.specs.declared.module.Block.{Block}
use Rattle.ir_model.specs.declared.module.Function.{Function}
use Rattle.ir_model.specs.declared.module.Module.{Module}
use Rattle.ir_model.specs.declared.operand.Arg.{Arg}
use Rattle.ir_model.specs.declared.operand.Callee.{Callee}
use Rattle.ir_model.specs.declared.operand.Intrinsic.{Intrinsic}
use Rattle.ir_model.specs.declared.operand.Operand.{Operand}
use Rattle.pass_edges_proof.specs.ir_paths.Windows.{operand_at}
use Rattle.pass_edges_proof.specs.run_laws.changed.Changed.{Each}
use Rattle.pass_edges_proof.specs.rule_types.Signatures.{are_wanted, calls_otherwise, is_result}
use Rattle.pass_edges_proof.specs.rule_types.Wants.{intrinsic_params, intrinsic_result}
use Rattle.pass_edges_proof.specs.pass_fetch.Fetching.{callee_by, fetch_at, fetch_of, fetched_args, next_after, operand_by}
use Rattle.pass_edges_proof.specs.pass_fetch.Instrs.{with_fetched}
use Rattle.pass_edges_proof.specs.pass_fetch.declared.fetch.Fetch.{Fetch}
use Rattle.pass_edges_proof.specs.rule_values.Fits.{fits_kind}
use Rattle.pass_edges_proof.specs.rule_values.Instrs.{fits_called, fits_instr, fits_result, passes}
use Rattle.pass_edges_proof.specs.rule_values.Kinds.{value_kind}
use Rattle.pass_edges_proof.specs.rule_values.Values.{breaks_values}
use Rattle.pass_edges_proof.proofs.rule_laws.rules.woven_shape.Found.{made, not_begin, result_made, value_found}
use Rattle.pass_edges_proof.proofs.rule_laws.rules.woven_shape.Gathered.{to_row}
use Rattle.pass_edges_proof.proofs.rule_laws.rules.woven_shape.OneOfEach.{IsRight, all_right}
use Rattle.pass_edges_proof.specs.rule_shape.declared.one_of_each.Calls.{Calls}
use Rattle.pass_edges_proof.specs.rule_laws.rules.woven_shape.Calls.{call_at, calls_in, first_named, is_shaping, leads_block, second_named, shaping_call, shaping_calls}

-- tokens, begin's value and the results of suspends aren't fetched, and nothing is fetched by the results of suspends
pub record IsHeld (f : Function) (begin : ℕ) (t : List (Option Fetch)) : Type 0 where
  pub tokens : (v : ℕ) → fits_kind (value_kind f v) token ≡ true → fetch_of t (Operand.Local v) ≡ None
  pub begin_free : fetch_of t (Operand.Local begin) ≡ None
  pub results : (v : ℕ) → IsSuspendValue f v → fetch_of t (Operand.Local v) ≡ None
  pub bases : (v u : ℕ) (x : Fetch) → IsSuspendValue f v → fetch_of t (Operand.Local u) ≡ Some x → base_of x ≡ v → ⊥

-- the instruction is the same call with what is fetched, and no operand of an end is fetched
pub record IsHeldInstr (t : List (Option Fetch)) (i : Instr) : Type 0 where
  pub alike : (n : ℕ) → IsAlike i (with_fetched t n i)
  pub front : is_end i ≡ true → AreUnfetched t (instr_operands i)

end_shaping : (x : Intrinsic) → same_intrinsic Intrinsic.CoroEnd x ≡ true → is_shaping x ≡ true
end_shaping Intrinsic.CoroEnd e = refl
end_shaping _ e = absurd (cc)

module _ (t : List (Option Fetch)) where
  operand_same : (n at : ℕ) (args : List Arg) → fetch_of t (operand_at args at) ≡ None → operand_at (fetched_args t n args) at ≡ operand_at args at
  operand_same n at [] e = refl
  operand_same n zero (a ∷ args) e = ap (λ (o : Option Fetch). operand_by n o a.value) e
  operand_same n (suc at) (a ∷ args) e = operand_same (next_after t n a.value) at args e

  first_same : (n : ℕ) (x : Intrinsic) (args : List Arg) → fetch_of t (first_named x args) ≡ None → first_named x (fetched_args t n args) ≡ first_named x args
  first_same n Intrinsic.CoroId args e = refl
  first_same n Intrinsic.CoroFrame args e = refl
  first_same n _ args e = operand_same n 0 args e

  second_same : (n : ℕ) (x : Intrinsic) (args : List Arg) → fetch_of t (second_named x args) ≡ None → second_named x (fetched_args t n args) ≡ second_named x args
  second_same n Intrinsic.CoroFree args e = operand_same n 1 args e
  second_same n Intrinsic.CoroSuspend args e = operand_same n 1 args e
  second_same n _ args e = refl

  call_alike : (n : ℕ) (b : Block) (at : ℕ) (x : Intrinsic) (result : Option ℕ) (args : List Arg) (s : Bool) → (s ≡ true → IsHeldCall t x args) → (if s then shaping_call b at x result (fetched_args t n args) ∷ [] else []) ≡ (if s then shaping_call b at x result args ∷ [] else [])
  call_alike n b at x result args true h =
      λ k.
      record {
        intrinsic = x;
        result = result;
        first = first_same n x args (h refl).first k;
        second = second_same n x args (h refl).second k;
        block = b.label;
        leads = leads_block x at;
        default = (shaping_call b at x result args).default;
      } ∷ []
  call_alike n b at x result args false h = refl

  local_alike : (n : ℕ) (b : Block) (at u : ℕ) (result : Option ℕ) (must_tail : Bool) (ty : Option Ty) (args : List Arg) (o : Option Fetch) → call_at b at (Instr.Call result must_tail ty (callee_by n o (Callee.Local u)) args) ≡ []
  local_alike n b at u result must_tail ty args None = refl
  local_alike n b at u result must_tail ty args (Some x) = refl

  module _ (m : Module) (k : ℕ) (f : Function) (begin : ℕ) (held : IsHeld f begin t) (begins : (r : ℕ) → (calls_of k f).frame ≡ Some r → fetch_of t (Operand.Local r) ≡ None) where
    abbrev s : Calls
    s = calls_of k f

    intrinsic_held : (b : Block) (at : ℕ) (result : Option ℕ) (must_tail : Bool) (ty : Option Ty) (x : Intrinsic) (args : List Arg) → Each (IsRight s) (call_at b at (Instr.Call result must_tail ty (Callee.Intrinsic x) args)) → fits_instr m (value_kind f) (Instr.Call result must_tail ty (Callee.Intrinsic x) args) ≡ true → (p : Place) → calls_otherwise m p (OfInstr (Instr.Call result must_tail ty (Callee.Intrinsic x) args)) ≡ false → is_shaping x ≡ true → IsHeldCall t x args
    intrinsic_held b at result must_tail ty x args right fit p called e =
        let here : Each (IsRight s) (shaping_call b at x result args ∷ []) = subst (λ (u : Bool). Each (IsRight s) (if u then shaping_call b at x result args ∷ [] else [])) e right in
        held_call t (value_kind f) held.tokens s.token s.frame begins x args (leads_block x at) e
        (and_second (is_result (intrinsic_result x) ty) (are_wanted (intrinsic_params x) args) (holds (is_result (intrinsic_result x) ty && are_wanted (intrinsic_params x) args) called))
        (and_second (fits_called (value_kind f) (Callee.Intrinsic x) args) (list_all (passes (value_kind f) (Callee.Intrinsic x)) args)
        (and_second (fits_result (Callee.Intrinsic x) ty result) (fits_called (value_kind f) (Callee.Intrinsic x) args && list_all (passes (value_kind f) (Callee.Intrinsic x)) args) fit))
        here.0

    held_instr : (b : Block) (at : ℕ) (i : Instr) → Each (IsRight s) (call_at b at i) → fits_instr m (value_kind f) i ≡ true → (p : Place) → calls_otherwise m p (OfInstr i) ≡ false → IsHeldInstr t i
    held_instr b at (Instr.Call result must_tail ty (Callee.Intrinsic x) args) right fit p called =
        let h : is_shaping x ≡ true → IsHeldCall t x args = intrinsic_held b at result must_tail ty x args right fit p called in
        record { alike = λ n c now. call_alike n c now x result args (is_shaping x) h; front = λ e. (h (end_shaping x e)).all e }
    held_instr b at (Instr.Call result must_tail ty (Callee.Local u) args) right fit p called =
        record { alike = λ n c now. local_alike n c now u result must_tail ty (fetched_args t (next_after t n (Operand.Local u)) args) (fetch_at (slice_get t u)); front = λ e. absurd (cc) }
    held_instr b at (Instr.Call result must_tail ty (Callee.Named c) args) right fit p called = record { alike = λ n c2 now. refl; front = λ e. absurd (cc) }
    held_instr b at (Instr.Call result must_tail ty (Callee.Allocator c) args) right fit p called = record { alike = λ n c2 now. refl; front = λ e. absurd (cc) }
    held_instr b at (Instr.Binary r op flags ty x y) right fit p called = record { alike = λ n c now. refl; front = λ e. absurd (cc) }
    held_instr b at (Instr.Icmp r pred ty x y) right fit p called = record { alike = λ n c now. refl; front = λ e. absurd (cc) }
    held_instr b at (Instr.Select r c x y) right fit p called = record { alike = λ n c2 now. refl; front = λ e. absurd (cc) }
    held_instr b at (Instr.Cast r op nneg a to) right fit p called = record { alike = λ n c now. refl; front = λ e. absurd (cc) }
    held_instr b at (Instr.Alloca r ty align) right fit p called = record { alike = λ n c now. refl; front = λ e. absurd (cc) }
    held_instr b at (Instr.Load r ty x align) right fit p called = record { alike = λ n c now. refl; front = λ e. absurd (cc) }
    held_instr b at (Instr.Store a x align) right fit p called = record { alike = λ n c now. refl; front = λ e. absurd (cc) }
    held_instr b at (Instr.Gep r inbounds ty x args) right fit p called = record { alike = λ n c now. refl; front = λ e. absurd (cc) }

    abbrev Called : Instr → Type 0
    Called i = (p : Place) × (calls_otherwise m p (OfInstr i) ≡ false)

    held_list : (b : Block) (at : ℕ) (is : List Instr) → Each (IsRight s) (calls_in b at is) → Each (λ (i : Instr). fits_instr m (value_kind f) i ≡ true) is → Each Called is → Each (IsHeldInstr t) is
    held_list b at [] right fit called = tt
    held_list b at (i ∷ is) right fit called = (
      held_instr b at i (each_left (IsRight s) (call_at b at i) (calls_in b (at + 1) is) right) fit.0 called.0.0 called.0.1,
      held_list b (at + 1) is (each_right (IsRight s) (call_at b at i) (calls_in b (at + 1) is) right) fit.1 called.1,
    )

-- ---- all instructions of a coroutine

module _ (m : Module) (k : ℕ) (f : Function) (begin : ℕ) (t : List (Option Fetch)) (rules : KeepsFunctionRules m k f) (coroutine : f.coroutine ≡ true) (calls : wrong_call k f ≡ None) (named : first_result Intrinsic.CoroBegin f ≡ Some begin) (held : IsHeld f begin t) where
  frame_free : (r : ℕ) → value_of_first Intrinsic.CoroBegin f ≡ Some r → fetch_of t (Operand.Local r) ≡ None
  frame_free r e =
      let first : made Intrinsic.CoroBegin (shaping_calls f) ≡ Some r = found_made Intrinsic.CoroBegin (shaping_calls f) r (sym (value_found Intrinsic.CoroBegin not_begin f) ∙ e) in
      let both : Some begin ≡ Some r = sym named ∙ result_made Intrinsic.CoroBegin not_begin f ∙ first in
      let same : begin ≡ r = cc in
      subst (λ (v : ℕ). fetch_of t (Operand.Local v) ≡ None) same held.begin_free

  pub all_held : Each (λ (b : Block). Each (IsHeldInstr t) b.instrs) f.blocks
  all_held =
      each_there _ f.blocks
      (λ j b got.
      held_list t m k f begin held frame_free b (length b.phis) b.instrs
      (to_row (IsRight (calls_of k f)) f.blocks (all_right k f f refl coroutine calls) j b got)
      (each_there _ b.instrs (λ at i e. let x = at_each _ b.instrs at i (block_passes (breaks_values m (value_kind f) f.result) k f rules.local.values j b got).instrs e in holds (fits_instr m (value_kind f) i) x.2))
      (each_there _ b.instrs (λ at i e. let x = at_each _ b.instrs at i (block_passes (calls_otherwise m) k f rules.calls j b got).instrs e in (x.0, x.2))))
