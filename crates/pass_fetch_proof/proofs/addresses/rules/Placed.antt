-- Slots whose uses are addresses behind begin's value, and whose allocas go.
use Rattle.std.proofs.Common.{◌≡◌, ℕ, ◌<◌, ◌≤◌, Bool, true, false, List, [], ◌∷◌, length, refl, sym, ap, ◌∙◌, subst, arith}
use Rattle.std.proofs.lemmas.Option.{slice_get-map}
use Rattle.std.specs.List.{list_all}
use Rattle.std.specs.Prelude.{None, Option, Some, codes, filter, is_some, map, not, option_map, slice_get, unwrap_or, ◌&&◌, if◌then◌else◌}
use Rattle.pass_fetch_proof.proofs.addresses.rules.Turning.{MayFilter, TurnsWell, filter_fewer, filter_woven, turned_woven}
use Rattle.pass_fetch_proof.proofs.addresses.rules.Unmarked.{left_woven, markers_woven, stays_all, unmarked_keeps, unmarked_once}
use Rattle.pass_fetch_proof.specs.addresses.rules.Addresses.{AddressesFit, HasBegin, left_over, lies_in_frame, turning_weaving}
use Rattle.pass_edges_proof.specs.rule_uses.Undefined.{IsUndefined}
use Rattle.pass_edges_proof.specs.rule_uses.Uses.{Use, uses_of}
use Rattle.pass_edges_proof.proofs.ir_laws.facts.Lists.{get_within}
use Rattle.pass_edges_proof.proofs.ir_laws.facts.Truth.{and_first, and_second, holds}
use Rattle.pass_fetch_proof.proofs.fetch.rules.Fetched.{fetches_woven}
use Rattle.pass_fetch_proof.proofs.fetch.rules.Good.{final, final_ends, first_second}
use Rattle.pass_fetch_proof.proofs.fetch.rules.Remaining.{CasesHold, HoldsIn, blocks_hold, fetch_holds}
use Rattle.pass_fetch_proof.specs.fetch.rules.Fetches.{AreUnfetched, FetchesFit, FitsFetch, FitsTable, HasBase, LeavesMarks, base_of, fetch_weaving, second_name}
use Rattle.pass_edges_proof.specs.flow_solver.Paths.{IsListed}
use Rattle.pass_addresses.specs.Placing.{is_flagged, is_none, lies_outside, marks_flagged, slot_fetches, stays, turned_block, with_frame_addresses, without_markers, without_promise_of}
use Rattle.pass_edges_proof.specs.ir_parts.Contents.{arg_operands, instr_operands}
use Rattle.pass_edges_proof.specs.ir_parts.Parts.{Ending, OfInstr}
use Rattle.pass_edges_proof.specs.rule_laws.rules.function_rules.Kept.{KeepsFunctionRules}
use Rattle.ir_model.specs.Ty.{Ty}
use Rattle.ir_model.specs.declared.instr.Case.{Case}
use Rattle.ir_model.specs.declared.instr.Instr.{Instr}
use Rattle.ir_model.specs.declared.instr.Terminator.{Terminator}
use Rattle.ir_model.specs.declared.module.Block.{Block}
use Rattle.ir_model.specs.declared.module.Function.{Function}
use Rattle.ir_model.specs.declared.module.Module.{Module}
use Rattle.ir_model.specs.declared.operand.Arg.{Arg}
use Rattle.ir_model.specs.declared.operand.Callee.{Callee}
use Rattle.ir_model.specs.declared.operand.Intrinsic.{Intrinsic}
use Rattle.ir_model.specs.declared.operand.Operand.{Operand}
use Rattle.pass_edges_proof.specs.run_laws.changed.Changed.{Each}
use Rattle.pass_edges_proof.specs.rule_types.Signatures.{are_wanted, calls_otherwise, is_result}
use Rattle.pass_edges_proof.specs.rule_types.Wants.{any, is_basic, meets, want}
use Rattle.pass_edges_proof.specs.rule_types.declared.wants.Basic.{Basic}
use Rattle.pass_edges_proof.specs.rule_types.declared.wants.Demand.{Demand}
use Rattle.pass_edges_proof.specs.rule_types.declared.wants.Wanted.{Wanted}
use Rattle.pass_edges_proof.specs.pass_fetch.Blocks.{end_at, with_fetches}
use Rattle.pass_edges_proof.specs.pass_fetch.Fetching.{fetch_at, fetch_of}
use Rattle.pass_edges_proof.specs.pass_fetch.declared.fetch.Fetch.{Fetch}
use Rattle.pass_edges_proof.specs.rule_values.Fits.{fits_arg, fits_integer}
use Rattle.pass_edges_proof.specs.rule_values.Kinds.{value_kind}
use Rattle.pass_edges_proof.specs.rule_values.Switches.{any_twice, bits_in, case_word, fits_case, is_constant}
use Rattle.pass_edges_proof.specs.rule_values.Values.{breaks_values}
use Rattle.pass_edges_proof.specs.rule_values.declared.kinds.Kind.{Kind}
use Rattle.pass_edges_proof.proofs.rule_laws.rules.woven_rules.All.{rules_woven}
use Rattle.pass_edges_proof.proofs.rule_laws.rules.woven_rules.Edges.{incoming_woven}
use Rattle.pass_edges_proof.proofs.rule_laws.rules.woven_rules.Laid.{valued_old}
use Rattle.pass_edges_proof.proofs.rule_laws.rules.woven_rules.Once.{names_below}
use Rattle.pass_edges_proof.proofs.rule_laws.rules.woven_rules.Unbroken.{Passes, PassesIn, all_pass}
use Rattle.pass_edges_proof.proofs.ir_laws.paths.woven_rules.Unbroken.{each_listed}
use Rattle.pass_edges_proof.proofs.ir_laws.facts.Members.{each_turns}
use Rattle.pass_edges_proof.proofs.rule_laws.rules.woven_rules.ValueKinds.{old_kind}
use Rattle.pass_edges_proof.specs.rule_laws.rules.woven_rules.Blocks.{IsWoven, MayGo}
use Rattle.pass_edges_proof.specs.rule_laws.rules.woven_rules.Pairs.{AreIncomingOnce}
use Rattle.pass_edges_proof.specs.rule_laws.rules.woven_rules.Weaving.{Weaving, goes_in}
use Rattle.ir_model.specs.Layout.{same_type}

-- ---- the table of fetches

module _ (begin : ℕ) (offsets : List (Option ℕ)) where
  abbrev T : List (Option Fetch)
  T = slot_fetches begin offsets

  abbrev fetch_by : Option (Option ℕ) → Option Fetch
  fetch_by o = fetch_at (option_map (option_map (Fetch.Address begin)) o)

  fetch_is : (v : ℕ) → fetch_of T (Operand.Local v) ≡ fetch_by (slice_get offsets v)
  fetch_is v = ap fetch_at (slice_get-map (option_map (Fetch.Address begin)) offsets v)

  -- what is fetched is a slot in the frame
  record IsSlot (v : ℕ) (fetch : Fetch) : Type 0 where
    distance : ℕ
    offset : slice_get offsets v ≡ Some (Some distance)
    same : fetch ≡ Fetch.Address begin distance

  slot_found : (v : ℕ) (fetch : Fetch) → fetch_of T (Operand.Local v) ≡ Some fetch → IsSlot v fetch
  slot_found v fetch e = on (slice_get offsets v) refl (sym (fetch_is v) ∙ e)
    where
      on : (o : Option (Option ℕ)) → slice_get offsets v ≡ o → fetch_by o ≡ Some fetch → IsSlot v fetch
      on None d h = absurd (cc)
      on (Some None) d h = absurd (cc)
      on (Some (Some distance)) d h = record { distance = distance; offset = d; same = let same : Fetch.Address begin distance ≡ fetch = cc in sym same }

  slot_lies : (v distance : ℕ) → slice_get offsets v ≡ Some (Some distance) → lies_in_frame offsets v ≡ true
  slot_lies v distance e = ap (λ (o : Option (Option ℕ)). not (is_none (unwrap_or o None))) e

  unfetched_outside : (v : ℕ) → fetch_of T (Operand.Local v) ≡ None → lies_in_frame offsets v ≡ false
  unfetched_outside v e = on (slice_get offsets v) refl (sym (fetch_is v) ∙ e)
    where
      on : (o : Option (Option ℕ)) → slice_get offsets v ≡ o → fetch_by o ≡ None → lies_in_frame offsets v ≡ false
      on None d h = ap (λ (o : Option (Option ℕ)). not (is_none (unwrap_or o None))) d
      on (Some None) d h = ap (λ (o : Option (Option ℕ)). not (is_none (unwrap_or o None))) d
      on (Some (Some distance)) d h = absurd (cc)

  pub outside_unfetched : (v : ℕ) → lies_in_frame offsets v ≡ false → fetch_of T (Operand.Local v) ≡ None
  outside_unfetched v e = on (slice_get offsets v) refl
    where
      on : (o : Option (Option ℕ)) → slice_get offsets v ≡ o → fetch_of T (Operand.Local v) ≡ None
      on None d = fetch_is v ∙ ap fetch_by d
      on (Some None) d = fetch_is v ∙ ap fetch_by d
      on (Some (Some distance)) d = let t : true ≡ false = sym (slot_lies v distance d) ∙ e in absurd (cc)

  far_outside : (v : ℕ) → length offsets ≤ v → lies_in_frame offsets v ≡ false
  far_outside v far = on (slice_get offsets v) refl
    where
      on : (o : Option (Option ℕ)) → slice_get offsets v ≡ o → lies_in_frame offsets v ≡ false
      on None d = ap (λ (o : Option (Option ℕ)). not (is_none (unwrap_or o None))) d
      on (Some x) d = let lt : v < length offsets = get_within offsets v x d in absurd (omega (arith, lt, far))

-- ---- markers that stay

module _ (m : Module) (begin : ℕ) (offsets : List (Option ℕ)) (marked : List Bool) (unmarked : (v : ℕ) → unwrap_or (slice_get marked v) false ≡ true → lies_in_frame offsets v ≡ false) where
  number_unfetched : (x : Operand) → meets Demand.Number x ≡ true → fetch_of (slot_fetches begin offsets) x ≡ None
  number_unfetched (Operand.Number z) e = refl
  number_unfetched _ e = absurd (cc)

  flagged_unfetched : (x : Operand) → is_flagged marked x ≡ true → fetch_of (slot_fetches begin offsets) x ≡ None
  flagged_unfetched (Operand.Local v) e = outside_unfetched begin offsets v (unmarked v e)
  flagged_unfetched _ e = absurd (cc)

  abbrev Wants : List Wanted
  Wants = want Basic.I64 Demand.Number ∷ any Basic.Ptr ∷ []

  slots_unfetched : (args : List Arg) → marks_flagged marked args ≡ true → are_wanted Wants args ≡ true → AreUnfetched (slot_fetches begin offsets) (arg_operands args)
  slots_unfetched [] e d = tt
  slots_unfetched (a ∷ []) e d = absurd (cc)
  slots_unfetched (a ∷ b ∷ []) e d =
      let first : (is_basic Basic.I64 a.ty && meets Demand.Number a.value) ≡ true = and_first (is_basic Basic.I64 a.ty && meets Demand.Number a.value) (are_wanted (any Basic.Ptr ∷ []) (b ∷ [])) d in
      (number_unfetched a.value (and_second (is_basic Basic.I64 a.ty) (meets Demand.Number a.value) first), (flagged_unfetched b.value e, tt))
  slots_unfetched (a ∷ b ∷ c ∷ args) e d =
      let rest : are_wanted (any Basic.Ptr ∷ []) (b ∷ c ∷ args) ≡ true = and_second (is_basic Basic.I64 a.ty && meets Demand.Number a.value) (are_wanted (any Basic.Ptr ∷ []) (b ∷ c ∷ args)) d in
      let none : false ≡ true = and_second (is_basic Basic.Ptr b.ty && true) false rest in
      absurd (cc)

  marker_leaves : (i : Instr) → stays marked i ≡ true → Passes (calls_otherwise m) (OfInstr i) → LeavesMarks (slot_fetches begin offsets) i
  marker_leaves (Instr.Call r must_tail ty (Callee.Intrinsic Intrinsic.LifetimeStart) args) e h mark =
      slots_unfetched args e (and_second (is_result None ty) (are_wanted Wants args) (holds (is_result None ty && are_wanted Wants args) h.1))
  marker_leaves (Instr.Call r must_tail ty (Callee.Intrinsic Intrinsic.LifetimeEnd) args) e h mark =
      slots_unfetched args e (and_second (is_result None ty) (are_wanted Wants args) (holds (is_result None ty && are_wanted Wants args) h.1))
  marker_leaves _ e h mark = absurd (cc)

  -- an instruction that is left stays
  promise_kept : (i : Instr) → stays marked i ≡ true → stays marked (without_promise_of i) ≡ true
  promise_kept (Instr.Call r must_tail ty (Callee.Intrinsic Intrinsic.CoroId) args) e = refl
  promise_kept _ e = e

  filter_stays : (is : List Instr) → Each (λ (i : Instr). stays marked i ≡ true) (filter (stays marked) is)
  filter_stays [] = tt
  filter_stays (i ∷ is) = on (stays marked i) refl (filter_stays is)
    where
      on : (b : Bool) → stays marked i ≡ b → Each (λ (j : Instr). stays marked j ≡ true) (filter (stays marked) is) → Each (λ (j : Instr). stays marked j ≡ true) (if b then i ∷ filter (stays marked) is else filter (stays marked) is)
      on true e rest = (e, rest)
      on false e rest = rest

  map_stays : (is : List Instr) → Each (λ (i : Instr). stays marked i ≡ true) is → Each (λ (i : Instr). stays marked i ≡ true) (map without_promise_of is)
  map_stays [] h = tt
  map_stays (i ∷ is) h = (promise_kept i h.0, map_stays is h.1)

  both_leave : (is : List Instr) → Each (λ (i : Instr). stays marked i ≡ true) is → Each (λ (i : Instr). Passes (calls_otherwise m) (OfInstr i)) is → Each (LeavesMarks (slot_fetches begin offsets)) is
  both_leave [] h p = tt
  both_leave (i ∷ is) h p = (marker_leaves i h.0 p.0, both_leave is h.1 p.1)

  abbrev left_block : Block → Block
  left_block b = turned_block (map without_promise_of) (turned_block (filter (stays marked)) b)

  blocks_leave : (bs : List Block) → Each (PassesIn (calls_otherwise m)) (map (turned_block (map without_promise_of)) (map (turned_block (filter (stays marked))) bs)) → Each (λ (b : Block). Each (LeavesMarks (slot_fetches begin offsets)) b.instrs) (map (turned_block (map without_promise_of)) (map (turned_block (filter (stays marked))) bs))
  blocks_leave [] h = tt
  blocks_leave (b ∷ bs) h = (both_leave (left_block b).instrs (map_stays (filter (stays marked) b.instrs) (filter_stays b.instrs)) h.0.of_instrs, blocks_leave bs h.1)

-- ---- all steps

module _ (m : Module) (k : ℕ) (f : Function) (begin : ℕ) (offsets : List (Option ℕ)) (marked : List Bool) (keeps : KeepsFunctionRules m k f) (once : AreIncomingOnce f) (fit : AddressesFit k f begin offsets marked) where
  abbrev G : Function
  G = left_over marked f

  abbrev Table : List (Option Fetch)
  Table = slot_fetches begin offsets

  abbrev word : List ℕ
  word = codes "$c.at."

  abbrev H : Function
  H = with_fetches G Table word

  left_keeps : KeepsFunctionRules m k G
  left_keeps = unmarked_keeps m k f marked keeps once

  left_once : AreIncomingOnce G
  left_once = unmarked_once m k f marked keeps once

  -- a value of the function is the same where markers and the promise are gone
  pub same_value : (v : ℕ) (kind : Kind) → value_kind f v ≡ Some kind → value_kind G v ≡ Some kind
  same_value v kind e =
      let F : Function = without_markers marked f in
      let one : IsWoven (turning_weaving f stays_all) m f F = markers_woven m k f marked keeps in
      let two : IsWoven (turning_weaving F stays_all) m F G = left_woven m k f marked keeps once in
      let low : v < length f.names = valued_old (turning_weaving f stays_all) m f F one (names_below k f keeps.tabled) v (ap (λ (o : Option Kind). is_some o) e) in
      old_kind (turning_weaving F stays_all) m F G v low refl two ∙ old_kind (turning_weaving f stays_all) m f F v low refl one ∙ e

  table : FitsTable (value_kind G) G Table
  table v fetch e =
      let x = slot_found begin offsets v fetch e in
      subst (FitsFetch (value_kind G) G v) (sym x.same)
      (record { right = fit.near v x.distance x.offset; gives = same_value v Kind.Ptr (fit.slots v x.distance x.offset); pointer = same_value begin Kind.Ptr fit.pointer })

  base_begin : (v : ℕ) (fetch : Fetch) → fetch_of Table (Operand.Local v) ≡ Some fetch → base_of fetch ≡ begin
  base_begin v fetch e = ap base_of (slot_found begin offsets v fetch e).same

  use_based : (u : Use) → HasBegin G begin offsets u → HasBase G Table u
  use_based u h fetch e undefined =
      let x = slot_found begin offsets u.value fetch e in
      h (slot_lies begin offsets u.value x.distance x.offset) (subst (λ (b : ℕ). IsUndefined G (record u { value = b })) (base_begin u.value fetch e) undefined)

  fetches_fit : FetchesFit k G Table
  fetches_fit =
      record {
        table = table;
        bases = each_turns (HasBegin G begin offsets) (HasBase G Table) use_based (uses_of k G) fit.behind;
        marks = blocks_leave m begin offsets marked fit.unmarked f.blocks (all_pass (calls_otherwise m) k G left_keeps.calls);
      }

  pub fetched : IsWoven (fetch_weaving G Table word) m G H
  fetched = fetches_woven m k G Table word left_keeps fetches_fit

  pub fetched_keeps : KeepsFunctionRules m k H
  fetched_keeps = rules_woven (fetch_weaving G Table word) m k G H fetched left_keeps left_once

  pub fetched_once : AreIncomingOnce H
  fetched_once = incoming_woven (fetch_weaving G Table word) m G H fetched left_once

  -- ---- no operand that is left is a slot of the frame

  abbrev goes : ℕ → Bool
  goes = lies_in_frame offsets

  abbrev W : Weaving
  W = turning_weaving H goes

  abbrev Still : Operand → Type 0
  Still x = goes_in W x ≡ false

  unfetched_still : (x : Operand) → fetch_of Table x ≡ None → Still x
  unfetched_still (Operand.Local v) e = unfetched_outside begin offsets v e
  unfetched_still _ e = refl

  new_still : (n : ℕ) → length G.names ≤ n → Still (Operand.Local n)
  new_still n low = let size : length offsets ≤ length f.names = fit.sized in far_outside begin offsets n (omega (arith, low, size))

  base_still : (x : Operand) (fetch : Fetch) → fetch_of Table x ≡ Some fetch → Still (Operand.Local (base_of fetch))
  base_still (Operand.Local v) fetch e = ap (lies_in_frame offsets) (base_begin v fetch e) ∙ fit.outside
  base_still _ fetch e = absurd (cc)

  end_still : (l : ℕ) (j : Instr) → IsListed j (end_at (final m k G Table word left_keeps fetches_fit) l) → Each Still (instr_operands j)
  end_still l j h =
      let x = final_ends m k G Table word left_keeps fetches_fit l j h in
      subst (λ (i : Instr). Each Still (instr_operands i)) (sym x.same)
      (fetch_holds Still Table (length G.names) unfetched_still new_still base_still x.name (Operand.Local x.value) x.fetch x.found)

  constant_still : (x : Operand) → is_constant x ≡ true → Still x
  constant_still (Operand.Local v) e = absurd (cc)
  constant_still _ e = refl

  cases_still : (ty : Ty) (cases : List Case) → list_all (fits_case (value_kind G) ty) cases ≡ true → Each Still (map (λ (c : Case). c.arg.value) cases)
  cases_still ty [] e = tt
  cases_still ty (c ∷ cases) e =
      let one : fits_case (value_kind G) ty c ≡ true = and_first (fits_case (value_kind G) ty c) (list_all (fits_case (value_kind G) ty) cases) e in
      let rest : (is_constant c.arg.value && fits_arg (value_kind G) c.arg) ≡ true = and_second (same_type c.arg.ty ty) (is_constant c.arg.value && fits_arg (value_kind G) c.arg) one in
      (constant_still c.arg.value (and_first (is_constant c.arg.value) (fits_arg (value_kind G) c.arg) rest), cases_still ty cases (and_second (fits_case (value_kind G) ty c) (list_all (fits_case (value_kind G) ty) cases) e))

  term_cases : (e : Terminator) → Passes (breaks_values m (value_kind G) G.result) (Ending e) → CasesHold Still Table (length G.names) unfetched_still new_still base_still e
  term_cases (Terminator.Jump label) h = tt
  term_cases (Terminator.Branch c a b) h = tt
  term_cases (Terminator.Switch a default cases) h =
      let once : Bool = not (any_twice [] (map (case_word (bits_in a.ty)) cases)) in
      let all : (fits_integer (value_kind G) a && (list_all (fits_case (value_kind G) a.ty) cases && once)) ≡ true = holds (fits_integer (value_kind G) a && (list_all (fits_case (value_kind G) a.ty) cases && once)) h.1 in
      cases_still a.ty cases (and_first (list_all (fits_case (value_kind G) a.ty) cases) once (and_second (fits_integer (value_kind G) a) (list_all (fits_case (value_kind G) a.ty) cases && once) all))
  term_cases (Terminator.Ret value) h = tt
  term_cases Terminator.Unreachable h = tt

  all_still : Each (HoldsIn Still) H.blocks
  all_still =
      blocks_hold Still Table (length G.names) unfetched_still new_still base_still (final m k G Table word left_keeps fetches_fit)
      (λ l. each_listed (λ (i : Instr). Each Still (instr_operands i)) (end_at (final m k G Table word left_keeps fetches_fit) l) (end_still l))
      (length G.names) (second_name G Table) G.blocks (omega arith) (first_second m k G Table word left_keeps fetches_fit)
      (each_turns (PassesIn (breaks_values m (value_kind G) G.result)) (λ (b : Block). CasesHold Still Table (length G.names) unfetched_still new_still base_still b.term) (λ b h. term_cases b.term h.of_term) G.blocks (all_pass (breaks_values m (value_kind G) G.result) k G left_keeps.local.values))

  -- ---- the allocas go

  alloca_goes : (i : Instr) → lies_outside offsets i ≡ false → MayGo W i
  alloca_goes (Instr.Alloca r ty align) e n d = let same : r ≡ n = cc in ap (λ (v : ℕ). not (is_none (unwrap_or (slice_get offsets v) None))) (sym same) ∙ ap not e
  alloca_goes _ e n d = absurd (cc)

  block_turns : (b : Block) → HoldsIn Still b → TurnsWell m k H fetched_keeps.tabled goes (filter (lies_outside offsets)) (filter_fewer (lies_outside offsets)) b
  block_turns b h =
      record {
        instrs = λ block made. filter_woven W H m (lies_outside offsets) block made b.instrs (each_turns (λ (i : Instr). Each Still (instr_operands i)) (MayFilter W H (lies_outside offsets)) (λ i s. record { out = alloca_goes i; kept = λ e. s }) b.instrs h.of_instrs);
        phis = h.of_phis;
        term = h.of_term;
      }

  pub slots_woven : IsWoven W m H (with_frame_addresses f begin offsets marked)
  slots_woven =
      turned_woven m k H fetched_keeps.tabled goes (filter (lies_outside offsets)) (filter_fewer (lies_outside offsets))
      (each_turns (HoldsIn Still) (TurnsWell m k H fetched_keeps.tabled goes (filter (lies_outside offsets)) (filter_fewer (lies_outside offsets))) block_turns H.blocks all_still)

  pub placed_keeps : KeepsFunctionRules m k (with_frame_addresses f begin offsets marked)
  placed_keeps = rules_woven W m k H (with_frame_addresses f begin offsets marked) slots_woven fetched_keeps fetched_once

  pub placed_once : AreIncomingOnce (with_frame_addresses f begin offsets marked)
  placed_once = incoming_woven W m H (with_frame_addresses f begin offsets marked) slots_woven fetched_once
