-- Calls of functions and allocators: the second run does what the first does.
use Rattle.std.proofs.Common.{◌≡◌, ℕ, Bool, true, false, List, Option, Some, None, Result, Ok, Err}
use Rattle.std.proofs.Common.{refl, sym, ap, ◌∙◌, subst, if◌then◌else◌, arith}
use Rattle.std.specs.Prelude.{IsTrue, slice_get}
use Rattle.run_types.specs.ir_base.declared.cause.Cause.{Cause}
use Rattle.run_types.specs.ir_base.declared.outcome.Word.{Word}
use Rattle.run_types.specs.ir_model.Names.{declaration_named, function_at, function_named}
use Rattle.run_types.specs.ir_model.Ty.{Ty}
use Rattle.run_types.specs.ir_model.declared.instr.Instr.{Instr}
use Rattle.run_types.specs.ir_model.declared.operand.Allocator.{Allocator}
use Rattle.run_types.specs.ir_model.declared.operand.Arg.{Arg}
use Rattle.run_types.specs.ir_model.declared.operand.Callee.{Callee}
use Rattle.run_types.specs.ir_model.declared.operand.Intrinsic.{Intrinsic}
use Rattle.run_types.specs.ir_paths.Windows.{is_call_of}
use Rattle.run_types.specs.run_laws.embedded.Related.{HasNoSlot}
use Rattle.run_types.specs.run_laws.embedded.Making.{IsSmall}
use Rattle.run_types.specs.run_memory.declared.pointer.Pointer.{Pointer}
use Rattle.run_types.specs.run_memory.declared.pointer.Value.{Value}
use Rattle.run_types.specs.run_source.Source.{context_of, enter}
use Rattle.run_types.specs.run_source.State.{next, settled, work_of}
use Rattle.run_types.specs.run_source.declared.state.State.{State}
use Rattle.run_types.specs.run_step.Step.{Action, AtInstr, Context, Coro, Deallocate, Done, Enter, GoTo, NewSlot, Return}
use Rattle.run_types.specs.run_step.Step.{Stuck, Work, allocated, copied_bytes, done, fetch, fits_function, if_alignment, indirect_call}
use Rattle.run_types.specs.run_step.Step.{is_alignment, named_call, observed, set_memory, with_length, words_of}
use Rattle.run_types.specs.run_step.Values.{arg_values, nth, value_in}
use Rattle.run_types.proofs.Runs.{sizes_small}
use Rattle.run_types.specs.States.{IsMalloc, IsNew, TakesSize}
use Rattle.pass_renewed_meaning.proofs.Here.{Here, IsCase, first_act, first_action, keeps, left_asleep, none_below, other}
use Rattle.pass_renewed_meaning.proofs.Here.{second_action}
use Rattle.pass_renewed_meaning.proofs.OneStep.{IsOneStep}
use Rattle.pass_renewed_meaning.proofs.Points.{giving_call, no_part, plain_call}
use Rattle.pass_renewed_meaning.specs.Followed.{Goes}
use Rattle.pass_renewed_meaning.specs.Rules.{Setting}
use Rattle.pass_renewed_meaning.specs.Runs.{first_given, second_given}
use Rattle.run_types.proofs.pass_renewed_proof.Allocating.{allocation_beside}
use Rattle.run_types.proofs.pass_renewed_proof.Calling.{calls_beside}
use Rattle.run_types.specs.pass_renewed_proof.Beside.{IsBeside}
use Rattle.run_types.specs.pass_renewed_proof.Branching.{IsCallee, IsCalling}
use Rattle.run_types.specs.pass_renewed_proof.Making.{IsAllocating, IsGiving, allocates}
use Rattle.run_types.specs.pass_renewed_proof.Ordinary.{IsOrdinaryInstr}
use Rattle.run_types.specs.pass_renewed_proof.Renewed.{is_idle, renewed_act}
use Rattle.run_types.specs.pass_renewed_proof.Steps.{given_at}
use Rattle.pass_renewed_meaning.proofs.OrdinaryCases.{IsQuiet, done_case, plain_instr, quiet_length}

same_ok : {A : Type 0} {a b : A} → ◌≡◌ {A = Result A Cause} (Ok a) (Ok b) → a ≡ b
same_ok e = cc

-- a call enters a function, or is done, or the run is stuck
abbrev pub IsCallAction : Action → Type 0
IsCallAction (Done w) = Unit {0}
IsCallAction (Stuck cause) = Unit {0}
IsCallAction (Enter func vs result must_tail) = Unit {0}
IsCallAction _ = ⊥

observed_kind : (c : Context) (w : Work) (d : ℕ) (ty : Option Ty) (result : Option ℕ) (ws : Option (List Word))
    → IsCallAction (observed c w d ty result ws)
observed_kind c w d ty result None = tt
observed_kind c w d None result (Some ws) = tt
observed_kind c w d (Some ty) result (Some ws) = tt

named_kind : (c : Context) (w : Work) (f d : Option ℕ) (ty : Option Ty) (result : Option ℕ) (must_tail : Bool) (vs : List
    Value) → IsCallAction (named_call c w f d ty result must_tail vs)
named_kind c w (Some f) d ty result must_tail vs = tt
named_kind c w None (Some d) ty result must_tail vs = observed_kind c w d ty result (words_of vs)
named_kind c w None None ty result must_tail vs = tt

indirect_kind : (c : Context) (v : Value) (ty : Option Ty) (result : Option ℕ) (must_tail : Bool) (args : List Arg) (vs :
    List Value) → IsCallAction (indirect_call c v ty result must_tail args vs)
indirect_kind c (Value.Ptr (Pointer.Func f)) ty result must_tail args vs = on (fits_function ty args (slice_get
    c.code.functions f))
  where
    on : (t : Bool) → IsCallAction (if t then Enter f vs result must_tail else Stuck Cause.Call)
    on true = tt
    on false = tt
indirect_kind c (Value.Ptr Pointer.Null) ty result must_tail args vs = tt
indirect_kind c (Value.Ptr (Pointer.At b o)) ty result must_tail args vs = tt
indirect_kind c (Value.Int n) ty result must_tail args vs = tt
indirect_kind c Value.Poison ty result must_tail args vs = tt

module _ (c : Setting) (x : Here c) where
  -- ---- calls of functions

  module _ (result : Option ℕ) (must_tail : Bool) (ty : Option Ty) (callee : Callee) (args : List Arg)
      (is : IsCallee callee) where
    abbrev i : Instr
    i = Instr.Call result must_tail ty callee args

    no_coro : (z : Callee) → IsCallee z → (j : Intrinsic) → is_call_of j (Instr.Call result must_tail ty z args) ≡ false
    no_coro (Callee.Named n) k j = refl
    no_coro (Callee.Local v) k j = refl
    no_coro (Callee.Allocator a) k j = absurd k
    no_coro (Callee.Intrinsic i) k j = absurd k

    no_slot : (z : Callee) → IsCallee z → HasNoSlot (AtInstr (Instr.Call result must_tail ty z args))
    no_slot (Callee.Named n) k = tt
    no_slot (Callee.Local v) k = tt
    no_slot (Callee.Allocator a) k = absurd k
    no_slot (Callee.Intrinsic i) k = absurd k

    not_idle : (z : Callee) → IsCallee z → is_idle (c.flags x.s.top.func) (AtInstr (Instr.Call result must_tail ty z args)) ≡
        false
    not_idle (Callee.Named n) k = refl
    not_idle (Callee.Local v) k = refl
    not_idle (Callee.Allocator a) k = absurd k
    not_idle (Callee.Intrinsic i) k = absurd k

    gives_result : (z : Callee) → IsCallee z → given_at (AtInstr (Instr.Call result must_tail ty z args)) ≡ result
    gives_result (Callee.Named n) k = refl
    gives_result (Callee.Local v) k = refl
    gives_result (Callee.Allocator a) k = absurd k
    gives_result (Callee.Intrinsic i) k = absurd k

    call_kind : (z : Callee) → IsCallee z → IsCallAction (first_action c x (AtInstr (Instr.Call result must_tail ty z
        args)))
    call_kind (Callee.Named n) k = named_kind (context_of (first_given c) x.s) (work_of x.s) (function_named c.code n)
        (declaration_named c.code n) ty result must_tail (arg_values c.code x.s.top.values args)
    call_kind (Callee.Local v) k = indirect_kind (context_of (first_given c) x.s) (value_in x.s.top.values v) ty result
        must_tail args (arg_values c.code x.s.top.values args)
    call_kind (Callee.Allocator a) k = absurd k
    call_kind (Callee.Intrinsic i) k = absurd k

    pub function_case : IsCase c x (AtInstr i)
    function_case here after acts = on (first_action c x (AtInstr i)) refl acts
      where
        done_instr : IsOrdinaryInstr c.code c.roots x.s.top i
        done_instr = plain_instr c x i here (plain_call result must_tail ty callee args) (no_slot callee is) (no_coro callee is
            Intrinsic.CoroEnd) (no_coro callee is Intrinsic.CoroSuspend) (λ v slot root h. h) tt

        kind : IsCallAction (first_action c x (AtInstr i))
        kind = call_kind callee is

        calling : IsCalling c.code c.roots x.s.top result must_tail ty callee args
        calling = record {
          place = done_instr.place;
          here = here;
          is = is;
          no_part = λ v slot root given. done_instr.no_part v slot root (gives_result callee is ∙ given);
        }

        acts_on : Action → Result State Cause
        acts_on a = renewed_act (second_given c) (other c x) a

        on : (a : Action) → first_action c x (AtInstr i) ≡ a → first_act c x a ≡ Ok after
            → IsOneStep (second_given c) (other c x) (AtInstr i) (first_given c) after
        on (Done v) e h = done_case c x i done_instr (not_idle callee is) v e after (same_ok h)
        on (Enter func vs name tail) e h =
            let r = calls_beside c.code c.flags c.roots (keeps c x) x.s (other c x) x.beside result must_tail ty callee args
            calling c.answers func vs name tail (none_below c x) (left_asleep c x) e in
            record {
              other = enter (second_given c).given (other c x) func r.0 name;
              goes = ap (λ b. if b then Ok (next (other c x)) else acts_on (second_action c x (AtInstr i))) (not_idle callee
                  is) ∙ ap acts_on r.1;
              related = Goes (subst (λ z. IsBeside c.code c.flags c.roots z (enter (second_given c).given (other c x) func r.0
                  name)) (same_ok h) r.2);
            }
        on (Stuck cause) e h = let z : Err cause ≡ Ok after = h in absurd (cc)
        on (NewSlot w slot) e h = absurd (subst IsCallAction e kind)
        on (Coro j args' name) e h = absurd (subst IsCallAction e kind)
        on (Deallocate p) e h = absurd (subst IsCallAction e kind)
        on (GoTo label) e h = absurd (subst IsCallAction e kind)
        on (Return v) e h = absurd (subst IsCallAction e kind)

  -- ---- allocators

  module _ (result : Option ℕ) (must_tail : Bool) (ty : Option Ty) (args : List Arg) where
    allocator_case : (a : Allocator) → IsTrue (allocates a) → TakesSize a → IsQuiet (first_action c x (AtInstr (Instr.Call
        result must_tail ty (Callee.Allocator a) args))) → given_at (AtInstr (Instr.Call result must_tail ty
        (Callee.Allocator a) args)) ≡ result → IsCase c x (AtInstr (Instr.Call result must_tail ty (Callee.Allocator a)
        args))
    allocator_case a allocating takes quiet gives here after acts = on (first_action c x (AtInstr i)) refl quiet acts
      where
        i : Instr
        i = Instr.Call result must_tail ty (Callee.Allocator a) args

        is : IsAllocating c.code c.roots x.s.top a result must_tail ty args
        is = record {
          giving = subst (IsGiving c.code c.roots x.s.top (Instr.Call result must_tail ty (Callee.Allocator a) args)) gives
              (giving_call c.code c.flags c.roots x.s.top (keeps c x x.s.top.func) result must_tail ty (Callee.Allocator a)
              args here refl refl refl);
          is = allocating;
        }

        small : IsSmall (nth (arg_values c.code x.s.top.values args) 0)
        small = sizes_small c.code (function_at c.code x.s.top.func) x.s.top.values (x.all.types x.s.top.func)
            x.run.fitting.top x.s.top.block x.s.top.at result must_tail ty a args here takes

        acts_on : Action → Result State Cause
        acts_on z = renewed_act (second_given c) (other c x) z

        on : (z : Action) → first_action c x (AtInstr (Instr.Call result must_tail ty (Callee.Allocator a) args)) ≡ z
            → IsQuiet z → first_act c x z ≡ Ok after → IsOneStep (second_given c) (other c x) (AtInstr (Instr.Call result
            must_tail ty (Callee.Allocator a) args)) (first_given c) after
        on (Done v) e h k =
            let r = allocation_beside c.code c.flags c.roots (keeps c x) x.s (other c x) x.beside a result must_tail ty args
            is c.answers small v e in
            record {
              other = settled (other c x) r.0;
              goes = ap acts_on r.1;
              related = Goes (subst (λ z. IsBeside c.code c.flags c.roots z (settled (other c x) r.0)) (same_ok k) r.2);
            }
        on (Stuck cause) e h k = let z : Err cause ≡ Ok after = k in absurd (cc)
        on (NewSlot w slot) e h k = absurd h
        on (Enter func vs name tail) e h k = absurd h
        on (Coro j args' name) e h k = absurd h
        on (Deallocate p) e h k = absurd h
        on (GoTo label) e h k = absurd h
        on (Return v) e h k = absurd h

    pub malloc_case : IsCase c x (AtInstr (Instr.Call result must_tail ty (Callee.Allocator Allocator.Malloc) args))
    malloc_case = allocator_case Allocator.Malloc refl IsMalloc (quiet_length (nth (arg_values c.code x.s.top.values args) 0)
        (λ n. Done (allocated (work_of x.s) result n)) (λ n. tt)) refl

    pub new_case : IsCase c x (AtInstr (Instr.Call result must_tail ty (Callee.Allocator Allocator.Znwm) args))
    new_case = allocator_case Allocator.Znwm refl IsNew (quiet_length (nth (arg_values c.code x.s.top.values args) 0) (λ n.
        Done (allocated (work_of x.s) result n)) (λ n. tt)) refl
