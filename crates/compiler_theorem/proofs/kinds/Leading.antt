-- A save has its suspend in the framed form, too, and its number.
use Rattle.std.proofs.Common.{◌≡◌, ◌⊎◌, inl, inr, ⊎_elim, ℕ, zero, suc, ◌+◌, ◌<◌, ◌≤◌, ◌==◌, ◌&&◌, ◌||◌, Bool, true, false, List, [], ◌∷◌, length, Option, Some, None, refl, sym, ap, ◌∙◌, subst, arith}
use Rattle.std.specs.Prelude.{option_and_then, replicate, slice_get, unwrap_or}
use Rattle.std.proofs.lemmas.Bool.{and_parts, false≢true}
use Rattle.compiler_theorem.proofs.kinds.Fixed.{fixed_there}
use Rattle.compiler_theorem.proofs.kinds.Suspends.{suspend_numbered, taken_number, token_in, token_told}
use Rattle.compiler.specs.flow_solver.Paths.{IsListed}
use Rattle.compiler.proofs.ir_laws.facts.Lists.{get_within}
use Rattle.compiler.proofs.ir_laws.facts.Truth.{equal_numbers, itself}
use Rattle.compiler.proofs.ir_laws.paths.path_rules.Where.{has_where}
use Rattle.compiler.proofs.ir_laws.paths.sources.Listed.{point_listed}
use Rattle.compiler.proofs.ir_laws.paths.woven_rules.Once.{times_none}
use Rattle.compiler.specs.ir_laws.facts.renamed.Regular.{passes}
use Rattle.compiler.specs.ir_laws.facts.woven_rules.Pairs.{one_if, times}
use Rattle.compiler.specs.ir_laws.paths.woven_rules.Pairs.{AreDifferent}
use Rattle.compiler.specs.ir_model.Names.{is_local}
use Rattle.compiler.specs.ir_model.Ty.{Ty, token}
use Rattle.compiler.specs.ir_model.declared.instr.Instr.{Instr}
use Rattle.compiler.specs.ir_model.declared.module.Block.{Block}
use Rattle.compiler.specs.ir_model.declared.operand.Arg.{Arg}
use Rattle.compiler.specs.ir_model.declared.operand.Callee.{Callee}
use Rattle.compiler.specs.ir_model.declared.operand.Intrinsic.{Intrinsic}
use Rattle.compiler.specs.ir_model.declared.operand.Operand.{Operand}
use Rattle.compiler.specs.ir_parts.Contents.{result_of}
use Rattle.compiler.specs.ir_paths.Paths.{has_point, same_point}
use Rattle.compiler.specs.ir_paths.Windows.{call_result, instr_at, instr_in, is_call_of, is_suspend_of, operand_at, points_where, suspend_of}
use Rattle.compiler.specs.ir_paths.declared.point.Point.{Point}
use Rattle.compiler.specs.pass_cells.Cells.{fetches_of}
use Rattle.compiler.specs.pass_cells.Kept.{entry, joined}
use Rattle.compiler.specs.pass_fetch.Fetching.{fetch_of}
use Rattle.compiler.specs.pass_fetch.declared.fetch.Fetch.{Fetch}
use Rattle.compiler.specs.pass_frames.Framed.{begin_of}
use Rattle.pass_frames_meaning.proofs.begun.Begun.{begin_plain, first}
use Rattle.pass_frames_meaning.proofs.coroutines.Suspends.{flag_unfetched}
use Rattle.pass_frames_meaning.proofs.coroutines.Tokens.{token_nowhere}
use Rattle.pass_frames_meaning.proofs.others.AtPlace.{two_wanted}
use Rattle.pass_frames_meaning.proofs.others.Names.{once, result_low}
use Rattle.pass_frames_meaning.specs.Coroutines.{IsNowhere}
use Rattle.pass_frames_meaning.specs.Kinds.{IsSaveWith}
use Rattle.pass_frames_meaning.proofs.pass_frames_proof.code.Names.{early_name}
use Rattle.pass_frames_meaning.specs.pass_frames_proof.Code.{slot_table}
use Rattle.pass_frames_meaning.specs.pass_frames_proof.Framings.{IsFraming}
use Rattle.pass_frames_meaning.specs.pass_frames_proof.Passes.{no_block}
use Rattle.pass_frames_meaning.specs.pass_frames_proof.Places.{Framing, copies, edged, framed, instrs_at, offsets, own_place, plan}
use Rattle.pass_frames_meaning.specs.pass_frames_proof.Saving.{save_call}
use Rattle.compiler.specs.pass_intrinsics.Shapes.{suspends_of}
use Rattle.compiler.proofs.pass_kept_proof.Same.{same_point_same}
use Rattle.compiler.proofs.pass_proofs.addresses.rules.Placed.{outside_unfetched}
use Rattle.compiler.proofs.pass_proofs.cells.rules.Planned.{unplaced_fetch}
use Rattle.compiler.proofs.rule_laws.frames.shape.Tokens.{counted}
use Rattle.compiler.proofs.rule_laws.rules.shape.Stands.{StandsAt, begin_stands}
use Rattle.compiler.proofs.rule_laws.rules.source_rules.Slots.{alloca_of}
use Rattle.compiler.specs.rule_laws.frames.replaced.Splittable.{tokens_taken}
use Rattle.compiler.specs.rule_types.Signatures.{are_wanted}
use Rattle.compiler.specs.rule_types.Wants.{any, is_basic, meets, want}
use Rattle.compiler.specs.rule_types.declared.wants.Basic.{Basic}
use Rattle.compiler.specs.rule_types.declared.wants.Demand.{Demand}
use Rattle.compiler.specs.rule_values.Fits.{fits_kind}
use Rattle.compiler.specs.rule_values.Kinds.{value_kind}

-- ---- a list of one

times_once : (xs : List ℕ) (v : ℕ) → AreDifferent xs → times v xs ≤ 1
times_once [] v h = omega arith
times_once (x ∷ xs) v h = on (x == v) refl (times_once xs v h.1)
  where
    on : (b : Bool) → (x == v) ≡ b → times v xs ≤ 1 → times v (x ∷ xs) ≤ 1
    on true d rest =
        let same : x ≡ v = equal_numbers x v d in
        let none : times v xs ≡ 0 = times_none v xs (λ l. h.0 (subst (λ (n : ℕ). IsListed n xs) (sym same) l)) in
        let one = ap (λ (b : Bool). one_if b) d in
        omega (arith, none, one)
    on false d rest =
        let one = ap (λ (b : Bool). one_if b) d in
        omega (arith, rest, one)

first_of_one : (ps : List Point) (q : Point) → length ps ≤ 1 → has_point ps q ≡ true → slice_get ps 0 ≡ Some q
first_of_one [] q le h = absurd (cc)
first_of_one (p ∷ []) q le h = ap Some (sym (same_point_same q p (left (same_point q p) h)))
  where
    left : (b : Bool) → (b || false) ≡ true → b ≡ true
    left true e = refl
    left false e = absurd (cc)
first_of_one (p ∷ r ∷ ps) q le h = absurd (omega (arith, le))

first_has : (ps : List Point) (q : Point) → slice_get ps 0 ≡ Some q → has_point ps q ≡ true
first_has [] q e = absurd (cc)
first_has (p ∷ ps) q e =
    let same : p ≡ q = cc in
    ap (λ (b : Bool). b || has_point ps q) (ap (same_point q) same ∙ same_itself q)
  where
    same_itself : (z : Point) → same_point z z ≡ true
    same_itself z = λ j. itself z.block j && itself z.at j

place_of : (ps : List Point) (q : Point) → IsListed q ps → (n : ℕ) × (slice_get ps n ≡ Some q)
place_of [] q l = absurd l
place_of (p ∷ ps) q (inl e) = (0, ap Some (sym e))
place_of (p ∷ ps) q (inr l) = let z = place_of ps q l in (suc z.0, z.1)

-- ---- a suspend by its token

pub record IsSuspendBy (v : ℕ) (i : Instr) : Type 0 where
  pub result : Option ℕ
  pub must_tail : Bool
  pub ty : Option Ty
  pub args : List Arg
  pub is : i ≡ Instr.Call result must_tail ty (Callee.Intrinsic Intrinsic.CoroSuspend) args
  pub takes : is_local v (operand_at args 0) ≡ true

suspend_by : (v : ℕ) (i : Instr) → is_suspend_of (Some v) i ≡ true → IsSuspendBy v i
suspend_by v (Instr.Call r must_tail ty (Callee.Intrinsic Intrinsic.CoroSuspend) args) e =
    record { result = r; must_tail = must_tail; ty = ty; args = args; is = refl; takes = e }
suspend_by v _ e = absurd (cc)

local_is : (v : ℕ) (o : Operand) → is_local v o ≡ true → o ≡ Operand.Local v
local_is v (Operand.Local u) e = ap Operand.Local (sym (equal_numbers v u e))
local_is v (Operand.Global n) e = absurd (cc)
local_is v (Operand.Number n) e = absurd (cc)
local_is v Operand.True e = absurd (cc)
local_is v Operand.False e = absurd (cc)
local_is v Operand.Null e = absurd (cc)
local_is v Operand.None e = absurd (cc)
local_is v Operand.Poison e = absurd (cc)

told_entry : (t : List (Option ℕ)) (v n : ℕ) → slice_get t v ≡ Some (Some n) → entry t v ≡ Some n
told_entry t v n e = ap joined e

-- ---- a coroutine

module _ (x : Framing) (is : IsFraming x) (tokens : AreDifferent (tokens_taken (edged x)))
    (framed_tokens : AreDifferent (tokens_taken (framed x)))
    (wanted : (p : Point) (r : Option ℕ) (must_tail : Bool) (ty : Option Ty) (args : List Arg)
    → instr_at (edged x) p ≡ Some (Instr.Call r must_tail ty (Callee.Intrinsic Intrinsic.CoroSuspend) args)
    → are_wanted (any Basic.Token ∷ want Basic.I1 Demand.Flag ∷ []) args ≡ true) where
  -- a call's result is used in no cell of an address
  not_early : (p : Point) (r : Option ℕ) (must_tail : Bool) (ty : Option Ty) (callee : Callee) (args : List Arg) (v : ℕ)
      → instr_at (edged x) p ≡ Some (Instr.Call r must_tail ty callee args) → r ≡ Some v
      → fetch_of (copies x).fetches (Operand.Local v) ≡ None
  not_early p r must_tail ty callee args v there gives = on (fetch_of (copies x).fetches (Operand.Local v)) refl
    where
      on : (o : Option Fetch) → fetch_of (copies x).fetches (Operand.Local v) ≡ o → o ≡ None
      on None e = refl
      on (Some y) e =
          let a = alloca_of (edged x) v (early_name x is v y e) in
          let same : Instr.Call r must_tail ty callee args ≡ Instr.Alloca v a.ty a.align =
          once x is p a.point (Instr.Call r must_tail ty callee args) (Instr.Alloca v a.ty a.align) v there a.stands gives
          refl in
          absurd (cc)

  in_block : (p : Point) (i : Instr) → instr_at (edged x) p ≡ Some i → slice_get (instrs_at x p.block) p.at ≡ Some i
  in_block p i h = on (slice_get (edged x).blocks p.block) refl h
    where
      on : (o : Option Block) → slice_get (edged x).blocks p.block ≡ o → instr_in o p.at ≡ Some i
          → slice_get (unwrap_or (slice_get (edged x).blocks p.block) no_block).instrs p.at ≡ Some i
      on None d e = absurd (cc)
      on (Some b) d e = ap (λ (o : Option Block). slice_get (unwrap_or o no_block).instrs p.at) d ∙ e

  module _ (p s : Point) (v : ℕ) (must_tail : Bool) (ty : Option Ty) (arg : Arg)
      (save : instr_at (edged x) p ≡ Some (save_call v must_tail ty (arg ∷ [])))
      (pointer : (arg.value ≡ Operand.Null) ⊎ (arg.value ≡ Operand.Local (begin_of x.function)))
      (kind : fits_kind (value_kind (edged x) v) token ≡ true)
      (leads : suspend_of (edged x) p ≡ Some s) where
    abbrev i : Instr
    i = save_call v must_tail ty (arg ∷ [])

    nowhere : IsNowhere x v
    nowhere = token_nowhere x is v kind

    token_early : fetch_of (copies x).fetches (Operand.Local v) ≡ None
    token_early =
        not_early p (Some v) must_tail ty (Callee.Intrinsic Intrinsic.CoroSave) (arg ∷ []) v save refl

    -- ---- the save

    S : StandsAt (edged x) Intrinsic.CoroBegin is.begin
    S = begin_stands (edged x) is.begin (first x is)

    begin_early : fetch_of (copies x).fetches (Operand.Local (begin_of x.function)) ≡ None
    begin_early = on (fetch_of (copies x).fetches (Operand.Local (begin_of x.function))) refl
      where
        no_alloca : (j : Instr) (ty' : Ty) (align : ℕ) → is_call_of Intrinsic.CoroBegin j ≡ true
            → j ≡ Instr.Alloca (begin_of x.function) ty' align → ⊥
        no_alloca j ty' align calls e = false≢true (ap (is_call_of Intrinsic.CoroBegin) (sym e) ∙ calls)

        result : (j : Instr) → is_call_of Intrinsic.CoroBegin j ≡ true → call_result j ≡ Some is.begin
            → result_of j ≡ Some is.begin
        result (Instr.Call r mt t (Callee.Intrinsic Intrinsic.CoroBegin) as') calls e = e
        result _ calls e = absurd (cc)

        on : (o : Option Fetch) → fetch_of (copies x).fetches (Operand.Local (begin_of x.function)) ≡ o → o ≡ None
        on None e = refl
        on (Some y) e =
            let a = alloca_of (edged x) (begin_of x.function) (early_name x is (begin_of x.function) y e) in
            let stands : instr_at (edged x) (record { block = S.position; at = S.at }) ≡ Some S.instr =
            ap (λ (o : Option Block). instr_in o S.at) S.got ∙ S.there in
            absurd (no_alloca S.instr a.ty a.align S.calls
            (once x is (record { block = S.position; at = S.at }) a.point S.instr
            (Instr.Alloca (begin_of x.function) a.ty a.align) (begin_of x.function) stands a.stands
            (result S.instr S.calls S.makes
            ∙ ap Some (sym (ap (λ (o : Option ℕ). unwrap_or o 0) is.frameable.begins))) refl))

    pointer_unfetched : (t : List (Option Fetch)) → fetch_of t (Operand.Local (begin_of x.function)) ≡ None
        → fetch_of t arg.value ≡ None
    pointer_unfetched t none = ⊎_elim (λ e. ap (fetch_of t) e) (λ e. ap (fetch_of t) e ∙ none) pointer

    save_there : instr_at (framed x) (own_place x p) ≡ Some i
    save_there =
        fixed_there x i (
          pointer_unfetched (fetches_of (plan x))
              (unplaced_fetch (plan x) (begin_of x.function) (begin_plain x is).unkept),
          tt,
        )
        (pointer_unfetched (copies x).fetches begin_early, tt) (
          pointer_unfetched (slot_table x)
              (outside_unfetched (begin_of x.function) (offsets x) (begin_of x.function) (begin_plain x is).outside),
          tt,
        )
        refl refl refl refl p.block p.at (in_block p i save)

    -- ---- its suspend

    by_token : slice_get (points_where (is_suspend_of (Some v)) (edged x)) 0 ≡ Some s
    by_token =
        ap (λ (o : Option Instr). slice_get (points_where (is_suspend_of (option_and_then call_result o)) (edged x)) 0)
        (sym save) ∙ leads

    passed : passes (is_suspend_of (Some v)) (instr_at (edged x) s) ≡ true
    passed =
        sym (has_where (is_suspend_of (Some v)) (edged x) s)
        ∙ first_has (points_where (is_suspend_of (Some v)) (edged x)) s by_token

    pub record IsThere : Type 0 where
      pub instr : Instr
      pub there : instr_at (edged x) s ≡ Some instr
      pub by : IsSuspendBy v instr

    suspend : IsThere
    suspend = on (instr_at (edged x) s) refl passed
      where
        on : (o : Option Instr) → instr_at (edged x) s ≡ o → passes (is_suspend_of (Some v)) o ≡ true → IsThere
        on None d h = absurd (cc)
        on (Some j) d h = record { instr = j; there = d; by = suspend_by v j h }

    abbrev u : IsSuspendBy v suspend.instr
    u = suspend.by

    suspend_at : instr_at (edged x) s
        ≡ Some (Instr.Call u.result u.must_tail u.ty (Callee.Intrinsic Intrinsic.CoroSuspend) u.args)
    suspend_at = suspend.there ∙ ap Some u.is

    in_framed : instr_at (framed x) (own_place x s)
        ≡ Some (Instr.Call u.result u.must_tail u.ty (Callee.Intrinsic Intrinsic.CoroSuspend) u.args)
    in_framed =
        let both = wanted s u.result u.must_tail u.ty u.args suspend_at in
        let two = two_wanted (any Basic.Token) (want Basic.I1 Demand.Flag) u.args both in
        let shaped : are_wanted (any Basic.Token ∷ want Basic.I1 Demand.Flag ∷ []) (two.first ∷ two.second ∷ []) ≡ true =
        ap (are_wanted (any Basic.Token ∷ want Basic.I1 Demand.Flag ∷ [])) (sym two.are) ∙ both in
        let flag : meets Demand.Flag two.second.value ≡ true =
        (and_parts (is_basic Basic.I1 two.second.ty) (meets Demand.Flag two.second.value)
        (and_parts _ _ (and_parts _ _ shaped).1).0).1 in
        let taken : two.first.value ≡ Operand.Local v =
        local_is v two.first.value (ap (λ (as' : List Arg). is_local v (operand_at as' 0)) (sym two.are) ∙ u.takes) in
        subst (λ (as' : List Arg). instr_at (framed x) (own_place x s)
        ≡ Some (Instr.Call u.result u.must_tail u.ty (Callee.Intrinsic Intrinsic.CoroSuspend) as')) (sym two.are)
        (fixed_there x
        (Instr.Call u.result u.must_tail u.ty (Callee.Intrinsic Intrinsic.CoroSuspend) (two.first ∷ two.second ∷ []))
        (ap (fetch_of (fetches_of (plan x))) taken ∙ nowhere.loaded, (flag_unfetched _ two.second.value flag, tt))
        (ap (fetch_of (copies x).fetches) taken ∙ token_early, (flag_unfetched _ two.second.value flag, tt))
        (ap (fetch_of (slot_table x)) taken ∙ nowhere.placed, (flag_unfetched _ two.second.value flag, tt))
        refl refl refl refl s.block s.at
        (in_block s (Instr.Call u.result u.must_tail u.ty (Callee.Intrinsic Intrinsic.CoroSuspend)
        (two.first ∷ two.second ∷ []))
        (suspend_at ∙ ap (λ (as' : List Arg). Some (Instr.Call u.result u.must_tail u.ty
        (Callee.Intrinsic Intrinsic.CoroSuspend) as')) two.are)))

    one_there : length (points_where (is_suspend_of (Some v)) (framed x)) ≤ 1
    one_there =
        let most : times v (tokens_taken (framed x)) ≤ 1 = times_once (tokens_taken (framed x)) v framed_tokens in
        let same : length (points_where (is_suspend_of (Some v)) (framed x)) ≡ times v (tokens_taken (framed x)) =
        counted v (framed x) in
        omega (arith, most, same)

    leads_there : suspend_of (framed x) (own_place x p) ≡ Some (own_place x s)
    leads_there =
        ap (λ (o : Option Instr). slice_get (points_where (is_suspend_of (option_and_then call_result o)) (framed x)) 0)
        save_there
        ∙ first_of_one (points_where (is_suspend_of (Some v)) (framed x)) (own_place x s) one_there
        (has_where (is_suspend_of (Some v)) (framed x) (own_place x s)
        ∙ ap (passes (is_suspend_of (Some v))) in_framed ∙ u.takes)

    -- ---- its number

    number : (n : ℕ) × (slice_get (points_where (is_call_of Intrinsic.CoroSuspend) (edged x)) n ≡ Some s)
    number =
        place_of (points_where (is_call_of Intrinsic.CoroSuspend) (edged x)) s
        (point_listed (is_call_of Intrinsic.CoroSuspend) (edged x) s
        (Instr.Call u.result u.must_tail u.ty (Callee.Intrinsic Intrinsic.CoroSuspend) u.args) suspend_at refl)

    pub save_with : IsSaveWith x p s v
    save_with =
        let z = suspend_numbered (edged x) number.0 s number.1 in
        let token_is : z.0.save ≡ Some v = z.2 ∙ ap token_in suspend_at ∙ first_token u.args u.takes in
        let low : v < length (edged x).names = result_low x is p.block p.at v i (in_block p i save) refl in
        let long : length (replicate {A = Option ℕ} (length (edged x).names) None) ≡ length (edged x).names =
        none_long (length (edged x).names) in
        let n : ℕ = number.0 in
        let same : 0 + n ≡ n = omega arith in
        record {
          order = number.0;
          numbered = number.1;
          low = get_within (suspends_of (edged x)) number.0 z.0 z.1;
          told = told_entry (plan x).saves v number.0
              (taken_number (replicate (length (edged x).names) None) 0 (suspends_of (edged x)) number.0 z.0 v tokens z.1
              token_is (omega (arith, low, long)) ∙ ap (λ (k : ℕ). Some (Some k)) same);
          there = leads_there;
        }
      where
        none_long : (n : ℕ) → length (replicate {A = Option ℕ} n None) ≡ n
        none_long zero = refl
        none_long (suc n) = ap suc (none_long n)

        first_token : (as' : List Arg) → is_local v (operand_at as' 0) ≡ true
            → token_in (Some (Instr.Call u.result u.must_tail u.ty (Callee.Intrinsic Intrinsic.CoroSuspend) as'))
            ≡ Some v
        first_token as' e = token_told u.result u.must_tail u.ty as' v e
