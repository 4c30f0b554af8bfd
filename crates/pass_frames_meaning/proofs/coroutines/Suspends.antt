-- A suspend of a coroutine is followed, where it takes the token of its save.
use Rattle.std.proofs.Common.{◌≡◌, ℕ, Bool, true, false, List, [], ◌∷◌, length, Option, Some, None, refl, sym, ap, ◌∙◌, subst}
use Rattle.std.specs.Prelude.{slice_get}
use Rattle.std.specs.List.{list_all}
use Rattle.std.proofs.lemmas.Bool.{and_parts, false≢true}
use Rattle.pass_frames_proof.specs.ir_base.declared.outcome.Outcome.{Outcome}
use Rattle.pass_frames_proof.specs.ir_model.Names.{function_at}
use Rattle.pass_frames_proof.specs.ir_model.Ty.{Ty, array, int, named, ptr, structure, token}
use Rattle.pass_frames_proof.specs.ir_model.declared.instr.Instr.{Instr}
use Rattle.pass_frames_proof.specs.ir_model.declared.module.Function.{Function}
use Rattle.pass_frames_proof.specs.ir_model.declared.operand.Arg.{Arg}
use Rattle.pass_frames_proof.specs.ir_model.declared.operand.Callee.{Callee}
use Rattle.pass_frames_proof.specs.ir_model.declared.operand.Intrinsic.{Intrinsic}
use Rattle.pass_frames_proof.specs.ir_model.declared.operand.Operand.{Operand}
use Rattle.pass_frames_proof.specs.ir_paths.Windows.{operand_at}
use Rattle.pass_frames_proof.specs.pass_cells.Written.{stored_at}
use Rattle.pass_frames_proof.specs.pass_fetch.Fetching.{fetch_of}
use Rattle.pass_frames_proof.specs.pass_fetch.declared.fetch.Fetch.{Fetch}
use Rattle.pass_frames_meaning.proofs.coroutines.Tokens.{token_nowhere}
use Rattle.pass_frames_meaning.proofs.others.AtPlace.{AreTwo, args_wanted, two_wanted}
use Rattle.pass_frames_meaning.proofs.others.Names.{alloca_apart, no_distance, plain_by, result_low}
use Rattle.pass_frames_meaning.proofs.others.Returns.{instr_in, no_return}
use Rattle.pass_frames_meaning.specs.Coroutines.{IsNowhere, MaySuspend}
use Rattle.pass_frames_meaning.specs.Setting.{AreOfRuns, KeepsAll, Setting}
use Rattle.pass_frames_proof.proofs.suspending.Suspended.{suspend_followed}
use Rattle.pass_frames_proof.specs.Followed.{IsFollowed}
use Rattle.pass_frames_proof.specs.Framings.{IsFraming}
use Rattle.pass_frames_proof.specs.Places.{Framing, edged, instrs_at, plan}
use Rattle.pass_frames_proof.specs.Related.{AreBuiltOf, is_coroutine}
use Rattle.pass_frames_proof.specs.Stepping.{IsNotEntering}
use Rattle.pass_frames_proof.specs.Suspending.{suspend_call}
use Rattle.pass_frames_proof.specs.rule_types.Signatures.{are_wanted}
use Rattle.pass_frames_proof.specs.rule_types.Wants.{any, is_basic, is_token, meets, want}
use Rattle.pass_frames_proof.specs.rule_types.declared.wants.Basic.{Basic}
use Rattle.pass_frames_proof.specs.rule_types.declared.wants.Demand.{Demand}
use Rattle.pass_frames_proof.specs.rule_values.Fits.{fits, fits_arg, fits_kind}
use Rattle.pass_frames_proof.specs.rule_values.Instrs.{fits_called, fits_result, is_passed, passes}
use Rattle.pass_frames_proof.specs.rule_values.Kinds.{value_kind}
use Rattle.pass_frames_proof.specs.rule_values.declared.kinds.Kind.{Kind}
use Rattle.pass_frames_proof.specs.run_source.State.{function_of}
use Rattle.pass_frames_proof.specs.run_source.declared.state.State.{State}
use Rattle.pass_frames_proof.specs.run_step.Step.{AtInstr, fetch}

-- ---- operands

-- a flag is a literal
pub flag_unfetched : (t : List (Option Fetch)) (a : Operand) → meets Demand.Flag a ≡ true → fetch_of t a ≡ None
flag_unfetched t (Operand.Local v) e = absurd (false≢true e)
flag_unfetched t (Operand.Global n) e = refl
flag_unfetched t (Operand.Number n) e = refl
flag_unfetched t Operand.True e = refl
flag_unfetched t Operand.False e = refl
flag_unfetched t Operand.Null e = refl
flag_unfetched t Operand.None e = refl
flag_unfetched t Operand.Poison e = refl

pub token_is : (ty : Ty) → is_token ty ≡ true → ty ≡ token
token_is token e = refl
token_is (int n) e = absurd (false≢true e)
token_is ptr e = absurd (false≢true e)
token_is (array n ty) e = absurd (false≢true e)
token_is (structure ts) e = absurd (false≢true e)
token_is (named n) e = absurd (false≢true e)

pub fits_there : (kinds : ℕ → Option Kind) (a : Arg) (v : ℕ) → a.value ≡ Operand.Local v → a.ty ≡ token
    → fits_arg kinds a ≡ true → fits_kind (kinds v) token ≡ true
fits_there kinds a v value ty e =
    ap (λ (u : Ty). fits_kind (kinds v) u) (sym ty)
    ∙ ap (fits kinds a.ty) (sym value) ∙ e

module _ (c : Setting) (all : KeepsAll c) (s t : State) (r : AreBuiltOf c.b s t) (k : AreOfRuns c s t r)
    (runs : s.outcome ≡ Outcome.Running) (coroutine : is_coroutine c.b s.top.func ≡ true)
    (mode : IsNotEntering s.top.mode) (result : Option ℕ) (must_tail : Bool) (ty : Option Ty) (args : List Arg)
    (m : MaySuspend c s result args)
    (there : fetch (function_of c.g.given s) s.top.block s.top.at
    ≡ AtInstr (Instr.Call result must_tail ty (Callee.Intrinsic Intrinsic.CoroSuspend) args)) where
  abbrev x : Framing
  x = c.b.framing s.top.func

  abbrev f : Function
  f = function_at c.g.given.code s.top.func

  is : IsFraming x
  is = all.given.framings s.top.func coroutine

  same : f ≡ edged x
  same = all.given.coroutines s.top.func coroutine

  wanted : are_wanted (any Basic.Token ∷ want Basic.I1 Demand.Flag ∷ []) args ≡ true
  wanted = args_wanted c.g.given.code f (all.types s.top.func) s.top.block s.top.at result must_tail ty
      Intrinsic.CoroSuspend args there

  two : AreTwo args
  two = two_wanted (any Basic.Token) (want Basic.I1 Demand.Flag) args wanted

  both : are_wanted (any Basic.Token ∷ want Basic.I1 Demand.Flag ∷ []) (two.first ∷ two.second ∷ []) ≡ true
  both = ap (are_wanted (any Basic.Token ∷ want Basic.I1 Demand.Flag ∷ [])) (sym two.are) ∙ wanted

  first_type : two.first.ty ≡ token
  first_type = token_is two.first.ty
      (and_parts (is_basic Basic.Token two.first.ty) (meets Demand.Any two.first.value) (and_parts _ _ both).0).0

  flag : meets Demand.Flag two.second.value ≡ true
  flag = (and_parts (is_basic Basic.I1 two.second.ty) (meets Demand.Flag two.second.value)
      (and_parts _ _ (and_parts _ _ both).1).0).1

  value : two.first.value ≡ Operand.Local m.token
  value = ap (λ (q : List Arg). operand_at q 0) (sym two.are) ∙ m.takes

  passed : list_all (passes (value_kind f) (Callee.Intrinsic Intrinsic.CoroSuspend)) args ≡ true
  passed =
      (and_parts (fits_called (value_kind f) (Callee.Intrinsic Intrinsic.CoroSuspend) args) _
      (and_parts (fits_result (Callee.Intrinsic Intrinsic.CoroSuspend) ty result) _
      ((all.types s.top.func).instrs s.top.block s.top.at
      (Instr.Call result must_tail ty (Callee.Intrinsic Intrinsic.CoroSuspend) args) there)).1).1

  first_fits : fits_arg (value_kind f) two.first ≡ true
  first_fits =
      (and_parts (is_passed (Callee.Intrinsic Intrinsic.CoroSuspend) two.first.ty) (fits_arg (value_kind f) two.first)
      (and_parts (passes (value_kind f) (Callee.Intrinsic Intrinsic.CoroSuspend) two.first) _
      (ap (list_all (passes (value_kind f) (Callee.Intrinsic Intrinsic.CoroSuspend))) (sym two.are) ∙ passed)).0).1

  nowhere : IsNowhere x m.token
  nowhere = token_nowhere x is m.token
      (ap (λ (g : Function). fits_kind (value_kind g m.token) token) (sym same)
      ∙ fits_there (value_kind f) two.first m.token value first_type first_fits)

  abbrev call : Instr
  call = suspend_call m.name must_tail ty two.first.ty m.token (two.second ∷ [])

  shaped : args ≡ record { ty = two.first.ty; value = Operand.Local m.token } ∷ two.second ∷ []
  shaped = two.are ∙ ap (λ (a : Operand). record { ty = two.first.ty; value = a } ∷ two.second ∷ []) value

  here : fetch f s.top.block s.top.at ≡ AtInstr call
  here = there
      ∙ (λ j. AtInstr (Instr.Call (m.named j) must_tail ty (Callee.Intrinsic Intrinsic.CoroSuspend) (shaped j)))

  stands : slice_get (instrs_at x s.top.block) s.top.at ≡ Some call
  stands = instr_in x f same s.top.block s.top.at call here

  pub suspend_at : IsFollowed c.b c.g s t
  suspend_at = suspend_followed c.b c.g all.given s t r (record {
    result = m.name;
    must_tail = must_tail;
    ty = ty;
    token_ty = two.first.ty;
    token = m.token;
    args = two.second ∷ [];
    runs = runs;
    coroutine = coroutine;
    mode = mode;
    there = stands;
    unreturned = no_return c all s.top.func s.top.block s.top.at call coroutine here;
    bare = record {
      unloaded = (nowhere.loaded, (flag_unfetched _ two.second.value flag, tt));
      unaddressed = (nowhere.placed, (flag_unfetched _ two.second.value flag, tt));
      accesses = refl;
      begins = refl;
      unmarked = refl;
      same = refl;
      outside = refl;
      unkept = ap (stored_at (plan x).kept m.name) m.unkept;
      unmeasured = λ n. refl;
    };
    loose = record {
      plain = plain_by x is s.top.block s.top.at call stands m.name refl tt
          (no_distance x is s.top.block s.top.at call stands m.name refl tt);
      unkept = m.unkept;
      no_alloca = λ at u align of e eq. alloca_apart x is s.top.block s.top.at call stands m.name refl tt 0 at align of
          (subst (λ (w : ℕ). slice_get (instrs_at x 0) at ≡ Some (Instr.Alloca w of align)) (sym eq) e);
    };
    room = k.sound.top.values ∙ ap (λ (g : Function). length g.names) same;
    allocas = λ at u align of e. result_low x is 0 at u (Instr.Alloca u of align) e refl;
  })
