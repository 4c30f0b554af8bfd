-- Saves and suspends of a coroutine stand in its framed form with their results and tokens.
use Rattle.std.proofs.Common.{◌≡◌, ℕ, zero, suc, ◌+◌, ◌-◌, ◌<◌, ◌≤◌, Bool, true, false, List, [], ◌∷◌, ◌++◌, length, Option, Some, None, refl, sym, ap, ◌∙◌, subst, arith, length-append, if◌then◌else◌, ◌==◌}
use Rattle.std.proofs.lemmas.Bool.{and_parts}
use Rattle.std.specs.List.{list_all}
use Rattle.std.specs.Prelude.{option_to_list, slice_get}
use Rattle.pass_frames_proof.proofs.ir_laws.facts.Truth.{equal_numbers}
use Rattle.pass_frames_proof.specs.ir_model.Names.{function_at}
use Rattle.pass_frames_proof.specs.ir_model.Ty.{Ty, token}
use Rattle.pass_frames_proof.specs.ir_model.declared.instr.Instr.{Instr}
use Rattle.pass_frames_proof.specs.ir_model.declared.module.Function.{Function}
use Rattle.pass_frames_proof.specs.ir_model.declared.operand.Arg.{Arg}
use Rattle.pass_frames_proof.specs.ir_model.declared.operand.Callee.{Callee}
use Rattle.pass_frames_proof.specs.ir_model.declared.operand.Intrinsic.{Intrinsic}
use Rattle.pass_frames_proof.specs.ir_model.declared.operand.Operand.{Operand}
use Rattle.pass_frames_proof.specs.ir_paths.Windows.{call_operand, call_result, instr_at, is_call_of, operand_at}
use Rattle.pass_frames_proof.specs.pass_addresses.Placing.{lies_outside, stays, without_promise_of}
use Rattle.pass_frames_proof.specs.pass_cells.Cells.{fetches_of}
use Rattle.pass_frames_proof.specs.pass_copies.BeginCopies.{is_fetched}
use Rattle.pass_frames_proof.specs.pass_fetch.Fetching.{fetch_of, fetched_args, fetched_operand, operand_by}
use Rattle.pass_frames_proof.specs.pass_fetch.Instrs.{with_fetched}
use Rattle.pass_frames_proof.specs.pass_fetch.declared.fetch.Fetch.{Fetch}
use Rattle.pass_frames_meaning.proofs.coroutines.Suspends.{fits_there, token_is}
use Rattle.pass_frames_meaning.proofs.coroutines.Tokens.{token_nowhere}
use Rattle.pass_frames_meaning.proofs.others.AtPlace.{AreTwo, args_wanted, two_wanted}
use Rattle.pass_frames_meaning.specs.Setting.{KeepsAll, Setting}
use Rattle.pass_frames_proof.proofs.asking.Finals.{IsKeptIn, KeepsHere, both_here, own_there}
use Rattle.pass_frames_proof.proofs.layers.Standing.{place_next}
use Rattle.pass_frames_proof.specs.Code.{slot_table}
use Rattle.pass_frames_proof.specs.Framings.{IsFraming}
use Rattle.pass_frames_proof.specs.Layers.{Layer, becomes, before_of, each, only, own_place_in, place_in, state_at}
use Rattle.pass_frames_proof.specs.Passes.{fetching_at, unmarked_at}
use Rattle.pass_frames_proof.specs.Places.{Framing, addressing_layer, celled_layer, copied_layer, copies, copying_layer, edged, entry_layer, framed, instrs_at, loading_layer, marked, named, offsets, own_place, own_place_by, placed_layer, plan, unmarked, unmarked_layer, writing_layer}
use Rattle.pass_frames_proof.specs.Related.{is_coroutine}
use Rattle.pass_frames_proof.specs.Stepping.{state_in}
use Rattle.pass_frames_proof.specs.rule_types.Signatures.{are_wanted}
use Rattle.pass_frames_proof.specs.rule_types.Wants.{any, is_basic, meets, want}
use Rattle.pass_frames_proof.specs.rule_types.declared.wants.Basic.{Basic}
use Rattle.pass_frames_proof.specs.rule_types.declared.wants.Demand.{Demand}
use Rattle.pass_frames_proof.specs.rule_values.Fits.{fits_arg, fits_kind}
use Rattle.pass_frames_proof.specs.rule_values.Instrs.{fits_called, fits_result, is_passed, passes}
use Rattle.pass_frames_proof.specs.rule_values.Kinds.{value_kind}
use Rattle.pass_frames_proof.specs.run_step.Effects.{is_alloca}
use Rattle.pass_frames_proof.specs.run_step.Step.{AtInstr, fetch}

pub within_some : {A : Type 0} (xs : List A) (n : ℕ) → n < length xs → (x : A) × (slice_get xs n ≡ Some x)
within_some [] n lt = absurd (omega (arith, lt))
within_some (x ∷ xs) zero lt = (x, refl)
within_some (x ∷ xs) (suc n) lt = within_some xs n (omega (arith, lt))

-- ---- places rise

module _ {S : Type 0} (L : Layer S) (is : List Instr) where
  rises : (d at : ℕ) → at + d ≤ length is → place_in L is at ≤ place_in L is (at + d)
  rises zero at le = let same : at + zero ≡ at = omega arith in
      let e = ap (place_in L is) same in omega (arith, e)
  rises (suc d) at le =
      let here = within_some is (at + d) (omega (arith, le)) in
      let same : at + d + 1 ≡ at + suc d = omega arith in
      let e : place_in L is (at + d + 1) ≡ place_in L is (at + suc d) = ap (place_in L is) same in
      let n = place_next L is (at + d) here.0 here.1 in
      let up = rises d at (omega (arith, le)) in
      omega (arith, e, n, up)

  -- the place of an instruction that stays is in front of what stands behind it
  own_rises : (at other : ℕ) (i : Instr) → slice_get is at ≡ Some i
      → (j : Instr) × (L.here (state_at L is at) i ≡ Some j) → at < other → other < length is
      → own_place_in L is at < own_place_in L is other
  own_rises at other i there here lt high =
      let before : List Instr = L.before (state_at L is at) i in
      let behind : List Instr = L.behind (state_at L is at) i in
      let own : own_place_in L is at ≡ place_in L is at + length before =
      ap (λ (o : Option Instr). place_in L is at + length (before_of L (state_at L is at) o)) there in
      let all : length (becomes L (state_at L is at) i) ≡ length before + length (here.0 ∷ behind) =
      ap (λ (o : Option Instr). length (L.before (state_at L is at) i ++ (option_to_list o
      ++ L.behind (state_at L is at) i))) here.1
      ∙ length-append before (here.0 ∷ behind) in
      let next = place_next L is at i there in
      let same : at + 1 + (other - (at + 1)) ≡ other = omega (arith, lt) in
      let e : place_in L is (at + 1 + (other - (at + 1))) ≡ place_in L is other = ap (place_in L is) same in
      let up = rises (other - (at + 1)) (at + 1) (omega (arith, same, high)) in
      omega (arith, own, all, next, e, up)

-- ---- a save or a suspend

-- as the pass that moves allocas to the front has it
abbrev is_no_alloca : Instr → Bool
is_no_alloca i = if is_alloca i then false else true

abbrev pub IsOfPair : Intrinsic → Type 0
IsOfPair Intrinsic.CoroSave = Unit {0}
IsOfPair Intrinsic.CoroSuspend = Unit {0}
IsOfPair _ = ⊥

-- a call of it, with a result; where an operand is asked for it is the first one
pub record IsPairCall (y : Intrinsic) (asks : Operand → Type 0) (r : Option ℕ) (i : Instr) : Type 0 where
  pub must_tail : Bool
  pub ty : Option Ty
  pub args : List Arg
  pub is : i ≡ Instr.Call r must_tail ty (Callee.Intrinsic y) args
  pub first : asks (operand_at args 0)

module _ (y : Intrinsic) (of : IsOfPair y) (asks : Operand → Type 0) (r : Option ℕ) where
  abbrev C : Instr → Type 0
  C i = IsPairCall y asks r i

  abbrev says : Instr → Bool
  says i = true

  abbrev Keeps : {S : Type 0} → Layer S → Type 0
  Keeps L = KeepsHere C says L

  kept_itself : (i : Instr) → C i → IsKeptIn C says i (Some i)
  kept_itself i c = (i, refl, c, refl)

  -- the operand stays where it is fetched
  abbrev StaysBy : List (Option Fetch) → Type 0
  StaysBy t = (n : ℕ) (o : Operand) → asks o → asks (fetched_operand t n o)

  first_fetched : (t : List (Option Fetch)) → StaysBy t → (n : ℕ) (args : List Arg) → asks (operand_at args 0)
      → asks (operand_at (fetched_args t n args) 0)
  first_fetched t stays n [] h = h
  first_fetched t stays n (a ∷ args) h = stays n a.value h

  fetched : (t : List (Option Fetch)) → StaysBy t → (n : ℕ) (i : Instr) → C i → C (with_fetched t n i)
  fetched t stays n i c =
      subst (λ (j : Instr). C (with_fetched t n j)) (sym c.is) (record {
        must_tail = c.must_tail;
        ty = c.ty;
        args = fetched_args t n c.args;
        is = refl;
        first = first_fetched t stays n c.args c.first;
      })

  fetching_here : (f : Function) (t : List (Option Fetch)) (k : ℕ) → StaysBy t → Keeps (fetching_at f t k)
  fetching_here f t k stays = record { here = λ n i c. (with_fetched t n i, refl, fetched t stays n i c, refl) }

  passing : (test : Instr → Bool) → ((i : Instr) → C i → test i ≡ true) → Keeps (only test)
  passing test h = record {
    here = λ s i c. (i, ap (λ (b : Bool). if b then Some i else None) (h i c), c, refl);
  }

  -- ---- what passes ask of an instruction

  by_call : (P : Instr → Type 0) → ((must_tail : Bool) (ty : Option Ty) (args : List Arg)
      → P (Instr.Call r must_tail ty (Callee.Intrinsic y) args)) → (i : Instr) → C i → P i
  by_call P h i c = subst P (sym c.is) (h c.must_tail c.ty c.args)

  stay : (marked : List Bool) (i : Instr) → C i → stays marked i ≡ true
  stay marked = by_call (λ i. stays marked i ≡ true) (λ must_tail ty args. on y of must_tail ty args)
    where
      on : (z : Intrinsic) → IsOfPair z → (must_tail : Bool) (ty : Option Ty) (args : List Arg)
          → stays marked (Instr.Call r must_tail ty (Callee.Intrinsic z) args) ≡ true
      on Intrinsic.CoroSave h must_tail ty args = refl
      on Intrinsic.CoroSuspend h must_tail ty args = refl
      on _ h must_tail ty args = absurd h

  same_promise : (i : Instr) → C i → without_promise_of i ≡ i
  same_promise = by_call (λ i. without_promise_of i ≡ i) (λ must_tail ty args. on y of must_tail ty args)
    where
      on : (z : Intrinsic) → IsOfPair z → (must_tail : Bool) (ty : Option Ty) (args : List Arg)
          → without_promise_of (Instr.Call r must_tail ty (Callee.Intrinsic z) args)
          ≡ Instr.Call r must_tail ty (Callee.Intrinsic z) args
      on Intrinsic.CoroSave h must_tail ty args = refl
      on Intrinsic.CoroSuspend h must_tail ty args = refl
      on _ h must_tail ty args = absurd h

  no_access : (b : Bool) (i : Instr) → C i → is_fetched b i ≡ false
  no_access b = by_call (λ i. is_fetched b i ≡ false) (λ must_tail ty args. on y of b must_tail ty args)
    where
      on : (z : Intrinsic) → IsOfPair z → (b must_tail : Bool) (ty : Option Ty) (args : List Arg)
          → is_fetched b (Instr.Call r must_tail ty (Callee.Intrinsic z) args) ≡ false
      on Intrinsic.CoroSave h true must_tail ty args = refl
      on Intrinsic.CoroSave h false must_tail ty args = refl
      on Intrinsic.CoroSuspend h true must_tail ty args = refl
      on Intrinsic.CoroSuspend h false must_tail ty args = refl
      on _ h b must_tail ty args = absurd h

  lies : (offsets : List (Option ℕ)) (i : Instr) → C i → lies_outside offsets i ≡ true
  lies offsets = by_call (λ i. lies_outside offsets i ≡ true) (λ must_tail ty args. refl)

  no_alloca : (i : Instr) → C i → is_no_alloca i ≡ true
  no_alloca = by_call (λ i. is_no_alloca i ≡ true) (λ must_tail ty args. refl)

  module _ (x : Framing) (loaded : StaysBy (fetches_of (plan x)))
      (placed : StaysBy (slot_table x)) (k : ℕ) where
    writing_here : Keeps (writing_layer x k)
    writing_here = record { here = λ n i c. kept_itself i c }

    copying_here : Keeps (copying_layer x k)
    copying_here = record {
      here = λ s i c. subst (λ (b : Bool).
          IsKeptIn C says i (Some (if b then with_fetched (copies x).fetches s.1 i else i)))
          (sym (no_access s.0 i c)) (kept_itself i c);
    }

    promise_here : Keeps (each without_promise_of)
    promise_here = record {
      here = λ s i c. (without_promise_of i, refl, subst C (sym (same_promise i c)) c, refl);
    }

    pub placed_here : Keeps (placed_layer x k)
    placed_here =
        both_here C says (unmarked_layer x k) (addressing_layer x k)
        (both_here C says (copied_layer x k) (unmarked_at (marked x))
        (both_here C says (celled_layer x k) (copying_layer x k)
        (both_here C says (loading_layer x k) (writing_layer x k)
        (fetching_here (named x) (fetches_of (plan x)) k loaded) writing_here) copying_here)
        (both_here C says (only (stays (marked x))) (each without_promise_of)
        (passing (stays (marked x)) (stay (marked x))) promise_here))
        (both_here C says (fetching_at (unmarked x) (slot_table x) k)
        (only (lies_outside (offsets x))) (fetching_here (unmarked x) (slot_table x) k placed)
        (passing (lies_outside (offsets x)) (lies (offsets x))))

    module _ (at : ℕ) (i : Instr) (there : slice_get (instrs_at x k) at ≡ Some i) (c : C i) where
      kept : IsKeptIn C says i ((placed_layer x k).here (state_in x k at) i)
      kept = placed_here.here (state_in x k at) i c

      pub own_call : (j : Instr) × C j × (instr_at (framed x) (own_place x (record { block = k; at = at })) ≡ Some j)
      own_call = (kept.0, kept.2, own_there x k at i kept.0 there kept.1 (no_alloca kept.0 kept.2))

  module _ (x : Framing) (loaded : StaysBy (fetches_of (plan x)))
      (placed : StaysBy (slot_table x)) where
    entry_here : Keeps (entry_layer x)
    entry_here = record {
      here = (both_here C says (placed_layer x 0) (only is_no_alloca) (placed_here x loaded placed 0)
          (passing is_no_alloca no_alloca)).here;
    }

    -- what stands behind it in its block stands behind it there too
    pub own_below : (k at other : ℕ) (i : Instr) → slice_get (instrs_at x k) at ≡ Some i → C i → at < other
        → other < length (instrs_at x k)
        → (own_place x (record { block = k; at = at })).at < (own_place x (record { block = k; at = other })).at
    own_below k at other i there c lt high = on (k == 0) refl
      where
        on : (e : Bool) → (k == 0) ≡ e
            → own_place_by x (record { block = k; at = at }) (k == 0)
            < own_place_by x (record { block = k; at = other }) (k == 0)
        on true e =
            subst (λ (t : Bool). own_place_by x (record { block = k; at = at }) t
            < own_place_by x (record { block = k; at = other }) t) (sym e)
            (own_rises (entry_layer x) (instrs_at x 0) at other i
            (subst (λ (n : ℕ). slice_get (instrs_at x n) at ≡ Some i) (equal_numbers k 0 e) there)
            (let z = entry_here.here (state_at (entry_layer x) (instrs_at x 0) at) i c in (z.0, z.1)) lt
            (subst (λ (n : ℕ). other < length (instrs_at x n)) (equal_numbers k 0 e) high))
        on false e =
            subst (λ (t : Bool). own_place_by x (record { block = k; at = at }) t
            < own_place_by x (record { block = k; at = other }) t) (sym e)
            (own_rises (placed_layer x k) (instrs_at x k) at other i there
            (let z = (placed_here x loaded placed k).here (state_at (placed_layer x k) (instrs_at x k) at) i c in
            (z.0, z.1)) lt high)

-- ---- calls of saves and of suspends

abbrev pub IsAny : Operand → Type 0
IsAny o = Unit {0}

pub save_call : (i : Instr) → is_call_of Intrinsic.CoroSave i ≡ true
    → IsPairCall Intrinsic.CoroSave IsAny (call_result i) i
save_call (Instr.Call r must_tail ty (Callee.Intrinsic Intrinsic.CoroSave) args) e =
    record { must_tail = must_tail; ty = ty; args = args; is = refl; first = tt }
save_call _ e = absurd (cc)

pub suspend_call : (asks : Operand → Type 0) (i : Instr) → is_call_of Intrinsic.CoroSuspend i ≡ true
    → asks (call_operand i 0) → IsPairCall Intrinsic.CoroSuspend asks (call_result i) i
suspend_call asks (Instr.Call r must_tail ty (Callee.Intrinsic Intrinsic.CoroSuspend) args) e h =
    record { must_tail = must_tail; ty = ty; args = args; is = refl; first = h }
suspend_call asks _ e h = absurd (cc)

-- ---- tokens

-- it is fetched by no table
abbrev pub IsUnfetchedIn : Framing → Operand → Type 0
IsUnfetchedIn x o = (fetch_of (fetches_of (plan x)) o ≡ None) × (fetch_of (slot_table x) o ≡ None)

-- this operand
abbrev pub IsOperand : Framing → Operand → Operand → Type 0
IsOperand x a o = (o ≡ a) × IsUnfetchedIn x o

pub operand_loaded : (x : Framing) (a : Operand) (n : ℕ) (o : Operand) → IsOperand x a o
    → IsOperand x a (fetched_operand (fetches_of (plan x)) n o)
operand_loaded x a n o h = subst (IsOperand x a) (sym (ap (λ (q : Option Fetch). operand_by n q o) h.1.0)) h

pub operand_placed : (x : Framing) (a : Operand) (n : ℕ) (o : Operand) → IsOperand x a o
    → IsOperand x a (fetched_operand (slot_table x) n o)
operand_placed x a n o h = subst (IsOperand x a) (sym (ap (λ (q : Option Fetch). operand_by n q o) h.1.1)) h

module _ (c : Setting) (all : KeepsAll c) (func : ℕ) (coroutine : is_coroutine c.b func ≡ true) (block at : ℕ)
    (result : Option ℕ) (must_tail : Bool) (ty : Option Ty) (args : List Arg)
    (there : fetch (function_at c.g.given.code func) block at
    ≡ AtInstr (Instr.Call result must_tail ty (Callee.Intrinsic Intrinsic.CoroSuspend) args)) where
  abbrev x : Framing
  x = c.b.framing func

  abbrev f : Function
  f = function_at c.g.given.code func

  is : IsFraming x
  is = all.given.framings func coroutine

  same : f ≡ edged x
  same = all.given.coroutines func coroutine

  wanted : are_wanted (any Basic.Token ∷ want Basic.I1 Demand.Flag ∷ []) args ≡ true
  wanted = args_wanted c.g.given.code f (all.types func) block at result must_tail ty Intrinsic.CoroSuspend args there

  two : AreTwo args
  two = two_wanted (any Basic.Token) (want Basic.I1 Demand.Flag) args wanted

  both : are_wanted (any Basic.Token ∷ want Basic.I1 Demand.Flag ∷ []) (two.first ∷ two.second ∷ []) ≡ true
  both = ap (are_wanted (any Basic.Token ∷ want Basic.I1 Demand.Flag ∷ [])) (sym two.are) ∙ wanted

  first_type : two.first.ty ≡ token
  first_type = token_is two.first.ty
      (and_parts (is_basic Basic.Token two.first.ty) (meets Demand.Any two.first.value) (and_parts _ _ both).0).0

  passed : list_all (passes (value_kind f) (Callee.Intrinsic Intrinsic.CoroSuspend)) args ≡ true
  passed =
      (and_parts (fits_called (value_kind f) (Callee.Intrinsic Intrinsic.CoroSuspend) args) _
      (and_parts (fits_result (Callee.Intrinsic Intrinsic.CoroSuspend) ty result) _
      ((all.types func).instrs block at
      (Instr.Call result must_tail ty (Callee.Intrinsic Intrinsic.CoroSuspend) args) there)).1).1

  first_fits : fits_arg (value_kind f) two.first ≡ true
  first_fits =
      (and_parts (is_passed (Callee.Intrinsic Intrinsic.CoroSuspend) two.first.ty) (fits_arg (value_kind f) two.first)
      (and_parts (passes (value_kind f) (Callee.Intrinsic Intrinsic.CoroSuspend) two.first) _
      (ap (list_all (passes (value_kind f) (Callee.Intrinsic Intrinsic.CoroSuspend))) (sym two.are) ∙ passed)).0).1

  by_operand : (o : Operand) → two.first.value ≡ o → IsUnfetchedIn x o
  by_operand (Operand.Local v) e =
      let n = token_nowhere x is v
      (ap (λ (g : Function). fits_kind (value_kind g v) token) (sym same)
      ∙ fits_there (value_kind f) two.first v e first_type first_fits) in
      (n.loaded, n.placed)
  by_operand (Operand.Global n) e = (refl, refl)
  by_operand (Operand.Number n) e = (refl, refl)
  by_operand Operand.True e = (refl, refl)
  by_operand Operand.False e = (refl, refl)
  by_operand Operand.Null e = (refl, refl)
  by_operand Operand.None e = (refl, refl)
  by_operand Operand.Poison e = (refl, refl)

  -- the first operand of a suspend is a token
  pub token_unfetched : IsUnfetchedIn x (operand_at args 0)
  token_unfetched =
      subst (λ (q : List Arg). IsUnfetchedIn x (operand_at q 0)) (sym two.are) (by_operand two.first.value refl)
