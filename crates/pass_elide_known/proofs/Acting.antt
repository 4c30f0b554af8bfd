-- What an instruction does whose step isn't undefined.
use Rattle.std.proofs.Common.{◌≡◌, ◌∙◌, ℕ, Bool, true, false, List, Option, Result, Ok, Err, ap, refl, subst, sym, if◌then◌else◌}
use Rattle.std.specs.Prelude.{None, Some, pos, slice_get, unwrap_or}
use Rattle.elide_shape.specs.Calls.{deals}
use Rattle.elide_shape.specs.declared.calls.Dealing.{Dealing}
use Rattle.elide_sites.specs.Sites.{is_named_call}
use Rattle.pass_elide_known.specs.Keeping.{is_ordinary, only_sets}
use Rattle.pass_elide_proof.proofs.AtCalls.{fine_ok}
use Rattle.pass_elide_proof.proofs.PlacingFacts.{no_ramp}
use Rattle.pass_elide_proof.specs.Elision.{Elision, Shape, framed}
use Rattle.pass_elide_proof.specs.Placing.{IsPlain, KeepsPlaces, is_test}
use Rattle.pass_elide_proof.specs.pass_proofs.ir_base.declared.cause.Cause.{Cause}
use Rattle.pass_elide_proof.specs.pass_proofs.ir_base.declared.name.Name.{Name}
use Rattle.pass_elide_proof.specs.pass_proofs.ir_base.declared.ops.Pred.{Pred}
use Rattle.pass_elide_proof.specs.pass_proofs.ir_base.declared.outcome.Outcome.{Outcome}
use Rattle.pass_elide_proof.specs.pass_proofs.ir_base.declared.outcome.Word.{Word}
use Rattle.pass_elide_proof.specs.pass_proofs.ir_model.Ty.{Ty, array, int, named, ptr, structure, token}
use Rattle.pass_elide_proof.specs.pass_proofs.ir_model.declared.instr.Instr.{Instr}
use Rattle.pass_elide_proof.specs.pass_proofs.ir_model.declared.operand.Allocator.{Allocator}
use Rattle.pass_elide_proof.specs.pass_proofs.ir_model.declared.operand.Arg.{Arg}
use Rattle.pass_elide_proof.specs.pass_proofs.ir_model.declared.operand.Callee.{Callee}
use Rattle.pass_elide_proof.specs.pass_proofs.ir_model.declared.operand.Intrinsic.{Intrinsic}
use Rattle.pass_elide_proof.specs.pass_proofs.ir_parts.Contents.{result_of}
use Rattle.pass_elide_proof.specs.pass_proofs.run_agreement.Machines.{IsFine}
use Rattle.pass_elide_proof.specs.pass_proofs.run_framed.Framed.{FramedGiven, enter_given, framed_act, framed_advance, framed_context, framed_next, framed_step, given_call, given_ramp}
use Rattle.pass_elide_proof.specs.pass_proofs.run_ints.Numbers.{binary}
use Rattle.pass_elide_proof.specs.pass_proofs.run_laws.changed.Changed.{callee_at}
use Rattle.pass_elide_proof.specs.pass_proofs.run_laws.embedded.Related.{HasNoSlot}
use Rattle.pass_elide_proof.specs.pass_proofs.run_memory.Memory.{compare, copy, load, store}
use Rattle.pass_elide_proof.specs.pass_proofs.run_memory.declared.pointer.Pointer.{Pointer}
use Rattle.pass_elide_proof.specs.pass_proofs.run_memory.declared.pointer.Value.{Value}
use Rattle.pass_elide_proof.specs.pass_proofs.run_source.State.{function_of, gives, or_undefined, own_frame, work_of}
use Rattle.pass_elide_proof.specs.pass_proofs.run_source.declared.state.State.{State}
use Rattle.pass_elide_proof.specs.pass_proofs.run_step.Step.{Action, AtInstr, Context, Done, Enter, Stuck, Work, action_of, allocated, allocator_call, by_pred, cast_to, chosen, compared, copied_bytes, done, fetch, fits_function, if_alignment, indirect_call, instr_action, is_alignment, named_call, observed, set_memory, set_value, value_at, with_length, words_of}
use Rattle.pass_elide_proof.specs.pass_proofs.run_step.Values.{access_of, address, arg_value, arg_values, distance, element, indices_of, integer, nth, number_at, stored, truth_value, value_of}

-- ---- an instruction that isn't undefined

module _ (g : FramedGiven) (s : State) where
  no_given : (i : Instr) → ((n : Name) → callee_at (AtInstr i) ≡ Some n → given_ramp g.given.code n ≡ None)
      → given_call g s (AtInstr i) ≡ None
  no_given (Instr.Call result must_tail ty (Callee.Named n) args) h =
      ap (enter_given g s result (arg_values g.given.code s.top.values args)) (h n refl)
  no_given (Instr.Call result must_tail ty (Callee.Allocator a) args) h = refl
  no_given (Instr.Call result must_tail ty (Callee.Intrinsic j) args) h = refl
  no_given (Instr.Call result must_tail ty (Callee.Local v) args) h = refl
  no_given _ h = refl

module _ (e : Elision) (keeps : KeepsPlaces e) (s : State) (runs : s.outcome ≡ Outcome.Running)
    (fine : IsFine (framed_step (framed e) s).outcome) (i : Instr)
    (there : fetch (function_of (framed e).given s) s.top.block s.top.at ≡ AtInstr i) where
  pub next_ok : (u : State) × (framed_next (framed e) s (AtInstr i) ≡ Ok u)
  next_ok =
      fine_ok (framed e).given s (framed_next (framed e) s (AtInstr i))
      (subst (λ (z : State). IsFine z.outcome)
      (ap (framed_advance (framed e) s) runs
      ∙ ap (λ z. or_undefined (framed e).given s (framed_next (framed e) s z)) there) fine)

  none : given_call (framed e) s (AtInstr i) ≡ None
  none = no_given (framed e) s i (no_ramp e.code keeps.ungiven s.top.func s.top.block s.top.at i there)

  -- it is no call that gives a frame, so its action gives a state
  pub act_ok : (u : State)
      × (framed_act (framed e) s (action_of (framed_context (framed e) s) (work_of s) (AtInstr i)) ≡ Ok u)
  act_ok = (
    next_ok.0,
    ap (λ (o : Option (Result State Cause)). unwrap_or o (framed_act (framed e) s
        (action_of (framed_context (framed e) s) (work_of s) (AtInstr i)))) (sym none)
        ∙ next_ok.1,
  )

-- ---- actions

-- it is done, or it is undefined
abbrev pub IsDoing : Action → Type 0
IsDoing (Done w) = Unit {0}
IsDoing (Stuck cause) = Unit {0}
IsDoing _ = ⊥

module _ (g : FramedGiven) (s : State) where
  pub doing_done : (a : Action) → IsDoing a → (u : State) → framed_act g s a ≡ Ok u → (w : Work) × (a ≡ Done w)
  doing_done (Done w) k u h = (w, refl)
  doing_done (Stuck cause) k u h = absurd (cc)
  doing_done _ k u h = absurd k

  -- a length is a word
  pub length_known : (v : Value) (f : ℕ → Action) (u : State) → framed_act g s (with_length v f) ≡ Ok u
      → (w : Word) × (v ≡ Value.Int w)
  length_known (Value.Int w) f u h = (w, refl)
  length_known Value.Poison f u h = absurd (cc)
  length_known (Value.Ptr p) f u h = absurd (cc)

  -- a call through a pointer is one of a function that fits it
  pub record CallsThrough (v : Value) (ty : Option Ty) (args : List Arg) : Type 0 where
    pub func : ℕ
    pub leads : v ≡ Value.Ptr (Pointer.Func func)
    pub fits : fits_function ty args (slice_get g.given.code.functions func) ≡ true

  pub calls_through : (v : Value) (ty : Option Ty) (result : Option ℕ) (must_tail : Bool) (args : List Arg)
      (vs : List Value) (u : State)
      → framed_act g s (indirect_call (framed_context g s) v ty result must_tail args vs) ≡ Ok u
      → CallsThrough v ty args
  calls_through (Value.Ptr (Pointer.Func f)) ty result must_tail args vs u h = record {
    func = f;
    leads = refl;
    fits = by (fits_function ty args (slice_get g.given.code.functions f)) h;
  }
    where
      by : (b : Bool) → framed_act g s (if b then Enter f vs result must_tail else Stuck Cause.Call) ≡ Ok u → b ≡ true
      by true h = refl
      by false h = absurd (cc)
  calls_through (Value.Ptr Pointer.Null) ty result must_tail args vs u h = absurd (cc)
  calls_through (Value.Ptr (Pointer.At b o)) ty result must_tail args vs u h = absurd (cc)
  calls_through Value.Poison ty result must_tail args vs u h = absurd (cc)
  calls_through (Value.Int n) ty result must_tail args vs u h = absurd (cc)

-- ---- allocators

module _ (e : Elision) (keeps : KeepsPlaces e) (s : State) (runs : s.outcome ≡ Outcome.Running)
    (fine : IsFine (framed_step (framed e) s).outcome) (a : Allocator) (result : Option ℕ) (must_tail : Bool)
    (ty : Option Ty) (args : List Arg) (there : fetch (function_of (framed e).given s) s.top.block s.top.at
    ≡ AtInstr (Instr.Call result must_tail ty (Callee.Allocator a) args)) where
  taken : (b : Allocator) → deals Dealing.Allocates b ≡ true → (v : State)
      → framed_act (framed e) s (allocator_call b (work_of s) result (arg_values e.code s.top.values args)) ≡ Ok v
      → (w : Word) × (nth (arg_values e.code s.top.values args) 0 ≡ Value.Int w)
  taken Allocator.Malloc is v h =
      length_known (framed e) s (nth (arg_values e.code s.top.values args) 0)
      (λ n. Done (allocated (work_of s) result n)) v h
  taken Allocator.Znwm is v h =
      length_known (framed e) s (nth (arg_values e.code s.top.values args) 0)
      (λ n. Done (allocated (work_of s) result n)) v h
  taken Allocator.Free is v h = absurd (cc)
  taken Allocator.ZdlPv is v h = absurd (cc)
  taken Allocator.ZdlPvm is v h = absurd (cc)

  -- an allocator's call that isn't undefined takes a word
  pub word_taken : deals Dealing.Allocates a ≡ true
      → (w : Word) × (nth (arg_values e.code s.top.values args) 0 ≡ Value.Int w)
  word_taken is =
      let acts = act_ok e keeps s runs fine (Instr.Call result must_tail ty (Callee.Allocator a) args) there in
      taken a is acts.0 acts.1

-- ---- instructions that set a name

-- what it sets, in a step that isn't undefined
abbrev pub SetsOne : FramedGiven → State → Instr → Type 0
SetsOne g s i = (v : Value) × (framed_next g s (AtInstr i) ≡ Ok (gives s (result_of i) v))

module _ (g : FramedGiven) (s : State) where
  done_one : {A : Type 0} (name : ℕ) (f : A → Value) (r : Result A Cause) (u : State)
      → framed_act g s (done (λ a. set_value (work_of s) name (f a)) r) ≡ Ok u
      → (v : Value) × (framed_act g s (done (λ a. set_value (work_of s) name (f a)) r) ≡ Ok (gives s (Some name) v))
  done_one name f (Ok a) u h = (f a, refl)
  done_one name f (Err cause) u h = absurd (cc)

  loaded_one : (name : ℕ) (t : Bool) (r : Result Value Cause) (u : State)
      → framed_act g s (if t then done (set_value (work_of s) name) r else Stuck Cause.Align) ≡ Ok u
      → (v : Value) × (framed_act g s (if t then done (set_value (work_of s) name) r else Stuck Cause.Align)
      ≡ Ok (gives s (Some name) v))
  loaded_one name true (Ok v) u h = (v, refl)
  loaded_one name true (Err cause) u h = absurd (cc)
  loaded_one name false r u h = absurd (cc)

  pub sets_one : (i : Instr) → only_sets i ≡ true → (u : State) → framed_next g s (AtInstr i) ≡ Ok u → SetsOne g s i
  sets_one (Instr.Binary name op flags ty a b) is u h =
      done_one name value_of
      (binary op flags (number_at ty (value_at (framed_context g s) (work_of s) ty a))
      (number_at ty (value_at (framed_context g s) (work_of s) ty b))) u h
  sets_one (Instr.Icmp name pred ty a b) is u h = absurd (cc)
  sets_one (Instr.Select name x a b) is u h = (
    chosen (value_at (framed_context g s) (work_of s) (int 1) x) (arg_value g.given.code s.top.values a)
        (arg_value g.given.code s.top.values b),
    refl,
  )
  sets_one (Instr.Cast name op nneg arg to) is u h =
      (cast_to op nneg (number_at arg.ty (arg_value g.given.code s.top.values arg)) to, refl)
  sets_one (Instr.Alloca name ty align) is u h = absurd (cc)
  sets_one (Instr.Load name ty p align) is u h =
      loaded_one name (is_alignment align)
      (load (framed_context g s).rights s.world.memory
      (address (value_at (framed_context g s) (work_of s) ptr p)) (access_of ty) align) u h
  sets_one (Instr.Store arg p align) is u h = absurd (cc)
  sets_one (Instr.Gep name inbounds ty base indices) is u h = (
    element s.world.memory inbounds (value_at (framed_context g s) (work_of s) ptr base)
        (distance g.given.code ty (indices_of g.given.code s.top.values indices)),
    refl,
  )
  sets_one (Instr.Call result must_tail ty (Callee.Intrinsic Intrinsic.CoroSizeI32) args) is u h =
      (integer 32 (pos (own_frame g.given s).size), refl)
  sets_one (Instr.Call result must_tail ty (Callee.Intrinsic Intrinsic.CoroSizeI64) args) is u h =
      (integer 64 (pos (own_frame g.given s).size), refl)
  sets_one (Instr.Call result must_tail ty (Callee.Intrinsic _) args) is u h = absurd (cc)
  sets_one (Instr.Call result must_tail ty (Callee.Named n) args) is u h = absurd (cc)
  sets_one (Instr.Call result must_tail ty (Callee.Local v) args) is u h = absurd (cc)
  sets_one (Instr.Call result must_tail ty (Callee.Allocator a) args) is u h = absurd (cc)

-- ---- instructions

done_doing : {A : Type 0} (f : A → Work) (r : Result A Cause) → IsDoing (done f r)
done_doing f (Err cause) = tt
done_doing f (Ok a) = tt

aligned_doing : (align : ℕ) (a : Action) → IsDoing a → IsDoing (if_alignment align a)
aligned_doing align a h = by (is_alignment align)
  where
    by : (t : Bool) → IsDoing (if t then a else Stuck Cause.Align)
    by true = h
    by false = tt

length_doing : (v : Value) (f : ℕ → Action) → ((n : ℕ) → IsDoing (f n)) → IsDoing (with_length v f)
length_doing (Value.Int y) f h = h y.bits
length_doing Value.Poison f h = tt
length_doing (Value.Ptr p) f h = tt

module _ (c : Context) (w : Work) where
  pointers_doing : (name : ℕ) (pred : Pred) (a b : Value)
      → IsDoing (done (λ same. set_value w name (truth_value (by_pred pred same)))
      (compare c.rights w.world.memory (address a) (address b)))
  pointers_doing name pred a b =
      done_doing (λ same. set_value w name (truth_value (by_pred pred same)))
      (compare c.rights w.world.memory (address a) (address b))

  compared_doing : (name : ℕ) (pred : Pred) (ty : Ty) (a b : Value) → IsDoing (compared c w name pred ty a b)
  compared_doing name pred (int n) a b = tt
  compared_doing name pred ptr a b = pointers_doing name pred a b
  compared_doing name pred token a b = pointers_doing name pred a b
  compared_doing name pred (array n t) a b = pointers_doing name pred a b
  compared_doing name pred (structure ts) a b = pointers_doing name pred a b
  compared_doing name pred (named n) a b = pointers_doing name pred a b

  copied_doing : (vs : List Value) → IsDoing (copied_bytes c w vs)
  copied_doing vs =
      length_doing (nth vs 2)
      (λ n. done (set_memory w) (copy c.rights w.world.memory (address (nth vs 0)) (address (nth vs 1)) n))
      (λ n. done_doing (set_memory w) (copy c.rights w.world.memory (address (nth vs 0)) (address (nth vs 1)) n))

  pub instr_doing : (i : Instr) → is_ordinary i ≡ true → IsDoing (instr_action c w i)
  instr_doing (Instr.Binary name op flags ty a b) e =
      done_doing (λ n. set_value w name (value_of n))
      (binary op flags (number_at ty (value_at c w ty a)) (number_at ty (value_at c w ty b)))
  instr_doing (Instr.Icmp name pred ty a b) e = compared_doing name pred ty (value_at c w ty a) (value_at c w ty b)
  instr_doing (Instr.Select name x a b) e = tt
  instr_doing (Instr.Cast name op nneg arg to) e = tt
  instr_doing (Instr.Alloca name ty align) e = absurd (cc)
  instr_doing (Instr.Load name ty p align) e =
      aligned_doing align
      (done (set_value w name) (load c.rights w.world.memory (address (value_at c w ptr p)) (access_of ty) align))
      (done_doing (set_value w name)
      (load c.rights w.world.memory (address (value_at c w ptr p)) (access_of ty) align))
  instr_doing (Instr.Store arg p align) e =
      aligned_doing align
      (done (set_memory w)
      (store c.rights w.world.memory (address (value_at c w ptr p))
      (stored (access_of arg.ty) (arg_value c.code w.values arg)) (access_of arg.ty) align))
      (done_doing (set_memory w)
      (store c.rights w.world.memory (address (value_at c w ptr p))
      (stored (access_of arg.ty) (arg_value c.code w.values arg)) (access_of arg.ty) align))
  instr_doing (Instr.Gep name inbounds ty base indices) e = tt
  instr_doing (Instr.Call result must_tail ty (Callee.Intrinsic Intrinsic.MemcpyI64) args) e =
      copied_doing (arg_values c.code w.values args)
  instr_doing (Instr.Call result must_tail ty (Callee.Intrinsic Intrinsic.MemcpyI32) args) e =
      copied_doing (arg_values c.code w.values args)
  instr_doing (Instr.Call result must_tail ty (Callee.Intrinsic _) args) e = absurd (cc)
  instr_doing (Instr.Call result must_tail ty (Callee.Named n) args) e = absurd (cc)
  instr_doing (Instr.Call result must_tail ty (Callee.Local v) args) e = absurd (cc)
  instr_doing (Instr.Call result must_tail ty (Callee.Allocator a) args) e = absurd (cc)

  observed_doing : (d : ℕ) (ty : Option Ty) (result : Option ℕ) (words : Option (List Word))
      → IsDoing (observed c w d ty result words)
  observed_doing d ty result None = tt
  observed_doing d None result (Some xs) = tt
  observed_doing d (Some t) result (Some xs) = tt

  -- a call of what no function of the module is
  pub declared_doing : (d : Option ℕ) (ty : Option Ty) (result : Option ℕ) (must_tail : Bool) (vs : List Value)
      → IsDoing (named_call c w None d ty result must_tail vs)
  declared_doing (Some d) ty result must_tail vs = observed_doing d ty result (words_of vs)
  declared_doing None ty result must_tail vs = tt

-- ---- what is said of such an instruction

pub record IsOrdinary (x : Shape) (i : Instr) : Type 0 where
  pub plain : is_test x i ≡ false → IsPlain x i
  pub unnamed : is_named_call i ≡ false
  pub no_slot : HasNoSlot (AtInstr i)

pub ordinary_of : (x : Shape) (i : Instr) → is_ordinary i ≡ true → IsOrdinary x i
ordinary_of x (Instr.Binary name op flags ty a b) is = record {
  plain = λ tests. record { begins = refl; asks = refl; frees = refl; tests = tests; takes = λ h. absurd (cc) };
  unnamed = refl;
  no_slot = tt;
}
ordinary_of x (Instr.Icmp name pred ty a b) is = record {
  plain = λ tests. record { begins = refl; asks = refl; frees = refl; tests = tests; takes = λ h. absurd (cc) };
  unnamed = refl;
  no_slot = tt;
}
ordinary_of x (Instr.Select name y a b) is = record {
  plain = λ tests. record { begins = refl; asks = refl; frees = refl; tests = tests; takes = λ h. absurd (cc) };
  unnamed = refl;
  no_slot = tt;
}
ordinary_of x (Instr.Cast name op nneg arg to) is = record {
  plain = λ tests. record { begins = refl; asks = refl; frees = refl; tests = tests; takes = λ h. absurd (cc) };
  unnamed = refl;
  no_slot = tt;
}
ordinary_of x (Instr.Alloca name ty align) is = absurd (cc)
ordinary_of x (Instr.Load name ty p align) is = record {
  plain = λ tests. record { begins = refl; asks = refl; frees = refl; tests = tests; takes = λ h. absurd (cc) };
  unnamed = refl;
  no_slot = tt;
}
ordinary_of x (Instr.Store arg p align) is = record {
  plain = λ tests. record { begins = refl; asks = refl; frees = refl; tests = tests; takes = λ h. absurd (cc) };
  unnamed = refl;
  no_slot = tt;
}
ordinary_of x (Instr.Gep name inbounds ty base indices) is = record {
  plain = λ tests. record { begins = refl; asks = refl; frees = refl; tests = tests; takes = λ h. absurd (cc) };
  unnamed = refl;
  no_slot = tt;
}
ordinary_of x (Instr.Call result must_tail ty (Callee.Intrinsic Intrinsic.MemcpyI64) args) is = record {
  plain = λ tests. record { begins = refl; asks = refl; frees = refl; tests = tests; takes = λ h. absurd (cc) };
  unnamed = refl;
  no_slot = tt;
}
ordinary_of x (Instr.Call result must_tail ty (Callee.Intrinsic Intrinsic.MemcpyI32) args) is = record {
  plain = λ tests. record { begins = refl; asks = refl; frees = refl; tests = tests; takes = λ h. absurd (cc) };
  unnamed = refl;
  no_slot = tt;
}
ordinary_of x (Instr.Call result must_tail ty (Callee.Intrinsic _) args) is = absurd (cc)
ordinary_of x (Instr.Call result must_tail ty (Callee.Named n) args) is = absurd (cc)
ordinary_of x (Instr.Call result must_tail ty (Callee.Local v) args) is = absurd (cc)
ordinary_of x (Instr.Call result must_tail ty (Callee.Allocator a) args) is = absurd (cc)
