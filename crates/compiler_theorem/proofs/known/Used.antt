-- An accepted source uses no slot in a frame before begin, but for accesses that go by the addresses in their cells.
use Rattle.std.proofs.Common.{◌≡◌, inl, inr, ℕ, Bool, true, false, List, [], ◌∷◌, ◌++◌, ◌||◌}
use Rattle.std.proofs.Common.{Option, Some, None, refl, sym, ap, ◌∙◌}
use Rattle.std.proofs.lemmas.Bool.{eqb-true}
use Rattle.std.specs.List.{list_any}
use Rattle.std.specs.Prelude.{if◌then◌else◌, ◌==◌}
use Rattle.compiler_theorem.proofs.known.Behind.{cell_keeps, named_there}
use Rattle.compiler.specs.flow_solver.Paths.{IsListed}
use Rattle.compiler.specs.ir_model.Names.{is_local}
use Rattle.compiler.specs.ir_model.declared.instr.Instr.{Instr}
use Rattle.compiler.specs.ir_model.declared.operand.Callee.{Callee}
use Rattle.compiler.specs.ir_model.declared.operand.Intrinsic.{Intrinsic}
use Rattle.compiler.specs.ir_model.declared.operand.Operand.{Operand}
use Rattle.compiler.specs.ir_parts.Contents.{instr_operands}
use Rattle.compiler.specs.ir_paths.Windows.{is_call_of}
use Rattle.compiler.specs.pass_addresses.Placing.{stays, without_promise_of}
use Rattle.compiler.specs.pass_cells.Cells.{fetches_of}
use Rattle.compiler.specs.pass_copies.BeginCopies.{is_fetched}
use Rattle.compiler.specs.pass_fetch.Fetching.{fetch_of, fetches_by, fetches_of_all, next_after}
use Rattle.compiler.specs.pass_fetch.Instrs.{with_fetched}
use Rattle.compiler.specs.pass_fetch.declared.fetch.Fetch.{Fetch}
use Rattle.compiler.specs.pass_frames.Framed.{is_begin}
use Rattle.pass_frames_meaning.specs.Standing.{IsStaying}
use Rattle.pass_frames_meaning.specs.pass_frames_proof.Code.{is_ahead, where_name}
use Rattle.pass_frames_meaning.specs.pass_frames_proof.Layers.{met, passed}
use Rattle.pass_frames_meaning.specs.pass_frames_proof.Places.{Framing, Placed, Unmarked, celled_layer, copies, copying_layer, marked}
use Rattle.pass_frames_meaning.specs.pass_frames_proof.Places.{plan, unmarked_layer}
use Rattle.pass_frames_meaning.specs.pass_frames_proof.Stepping.{IsUnlocated}
use Rattle.pass_frames_meaning.specs.pass_frames_proof.Tests.{AllFail}
use Rattle.compiler.proofs.pass_proofs.cells.crossing.Calls.{same_call}

-- ---- lists

listed_any : (v : ℕ) (xs : List Operand) → list_any (is_local v) xs ≡ true → IsListed (Operand.Local v) xs
listed_any v [] e = absurd (cc)
listed_any v (Operand.Local w ∷ xs) e = on (v == w) refl e (λ h. listed_any v xs h)
  where
    on : (b : Bool) → (v == w) ≡ b → (b || list_any (is_local v) xs) ≡ true
        → (list_any (is_local v) xs ≡ true → IsListed (Operand.Local v) xs)
        → IsListed (Operand.Local v) (Operand.Local w ∷ xs)
    on true d h rest = inl (ap Operand.Local (eqb-true v w d))
    on false d h rest = inr (rest h)
listed_any v (Operand.Global n ∷ xs) e = inr (listed_any v xs e)
listed_any v (Operand.Number z ∷ xs) e = inr (listed_any v xs e)
listed_any v (Operand.True ∷ xs) e = inr (listed_any v xs e)
listed_any v (Operand.False ∷ xs) e = inr (listed_any v xs e)
listed_any v (Operand.Null ∷ xs) e = inr (listed_any v xs e)
listed_any v (Operand.None ∷ xs) e = inr (listed_any v xs e)
listed_any v (Operand.Poison ∷ xs) e = inr (listed_any v xs e)

-- what is fetched is fetched by some instruction
some_fetched : (t : List (Option Fetch)) (v n : ℕ) (f : Fetch) (xs : List Operand)
    → fetch_of t (Operand.Local v) ≡ Some f → IsListed (Operand.Local v) xs → fetches_of_all t n xs ≡ [] → ⊥
some_fetched t v n f [] e l none = absurd l
some_fetched t v n f (y ∷ xs) e l none =
    on (fetch_of t y) refl l none (λ k h. some_fetched t v (next_after t n y) f xs e k h)
  where
    on : (o : Option Fetch) → fetch_of t y ≡ o → IsListed (Operand.Local v) (y ∷ xs)
        → fetches_by n o ++ fetches_of_all t (next_after t n y) xs ≡ []
        → (IsListed (Operand.Local v) xs → fetches_of_all t (next_after t n y) xs ≡ [] → ⊥) → ⊥
    on (Some g) d k h more = absurd (cc)
    on None d (inl same) h more =
        let both : Some f ≡ None = sym e ∙ ap (fetch_of t) same ∙ d in absurd (cc)
    on None d (inr k) h more = more k h

-- ---- what is no marker stays, and coro.id alone names a promise

no_marker : (i : Instr) → is_call_of Intrinsic.LifetimeStart i ≡ false → is_call_of Intrinsic.LifetimeEnd i ≡ false
    → (m : List Bool) → stays m i ≡ true
no_marker (Instr.Call r must_tail ty (Callee.Intrinsic Intrinsic.LifetimeStart) args) a b m = absurd (cc)
no_marker (Instr.Call r must_tail ty (Callee.Intrinsic Intrinsic.LifetimeEnd) args) a b m = absurd (cc)
no_marker _ a b m = refl

no_promise : (i : Instr) → is_call_of Intrinsic.CoroId i ≡ false → without_promise_of i ≡ i
no_promise (Instr.Call r must_tail ty (Callee.Intrinsic Intrinsic.CoroId) args) a = absurd (cc)
no_promise _ a = refl

record IsNoneOf (i : Instr) : Type 0 where
  starts : is_call_of Intrinsic.LifetimeStart i ≡ false
  ends : is_call_of Intrinsic.LifetimeEnd i ≡ false
  id : is_call_of Intrinsic.CoroId i ≡ false

staying_none : (i : Instr) → IsStaying i → IsNoneOf i
staying_none (Instr.Call r must_tail ty (Callee.Intrinsic Intrinsic.LifetimeStart) args) h = absurd h
staying_none (Instr.Call r must_tail ty (Callee.Intrinsic Intrinsic.LifetimeEnd) args) h = absurd h
staying_none (Instr.Call r must_tail ty (Callee.Intrinsic Intrinsic.CoroId) args) h = absurd h
staying_none _ h = record { starts = refl; ends = refl; id = refl }

fetched_none : (t : List (Option Fetch)) (n : ℕ) (i : Instr) → IsNoneOf i → IsNoneOf (with_fetched t n i)
fetched_none t n i h = record {
  starts = same_call t n Intrinsic.LifetimeStart i ∙ h.starts;
  ends = same_call t n Intrinsic.LifetimeEnd i ∙ h.ends;
  id = same_call t n Intrinsic.CoroId i ∙ h.id;
}

begin_fails : (i : Instr) → is_call_of Intrinsic.CoroBegin i ≡ false → is_begin i ≡ false
begin_fails (Instr.Call r must_tail ty (Callee.Intrinsic Intrinsic.CoroBegin) args) e = absurd (cc)
begin_fails _ e = refl

-- ---- an instruction in the coroutine of which the framed form is made

module _ (x : Framing) (k : ℕ) where
  -- begin stays ahead over what is no begin
  flag_same : (s : Bool × ℕ) (js : List Instr) → AllFail (is_call_of Intrinsic.CoroBegin) js
      → (passed (copying_layer x k) s js).0 ≡ s.0
  flag_same s [] h = refl
  flag_same s (j ∷ js) h =
      flag_same ((copying_layer x k).after s j) js h.1
      ∙ ap (λ (b : Bool). if b then false else s.0) (begin_fails j h.0)

  pub record IsNamedHere (u : Unmarked) (i : Instr) (v : ℕ) : Type 0 where
    pub instr : Instr
    pub here : (unmarked_layer x k).here u i ≡ Some instr
    pub names : list_any (is_local v) (instr_operands instr) ≡ true

  pub named_by : (n : Placed) (i : Instr) → IsStaying i → (v : ℕ) → IsListed (Operand.Local v) (instr_operands i)
      → fetch_of (fetches_of (plan x)) (Operand.Local v) ≡ None
      → (is_fetched (is_ahead n) (with_fetched (fetches_of (plan x)) n.0.0.0.0 i) ≡ true
      → fetch_of (copies x).fetches (Operand.Local v) ≡ None)
      → IsNamedHere n.0 i v
  named_by n i staying v listed unkept unfetched = on (is_fetched state.0 loaded) refl
    where
      loaded : Instr
      loaded = with_fetched (fetches_of (plan x)) n.0.0.0.0 i

      state : Bool × ℕ
      state = met (celled_layer x k) (copying_layer x k) n.0.0.0 n.0.0.1 i

      same : state.0 ≡ is_ahead n
      same = flag_same n.0.0.1 ((celled_layer x k).before n.0.0.0 i) ((cell_keeps x k).before n.0.0.0 i)

      named : list_any (is_local v) (instr_operands loaded) ≡ true
      named = named_there (fetches_of (plan x)) v unkept n.0.0.0.0 i listed

      none : IsNoneOf loaded
      none = fetched_none (fetches_of (plan x)) n.0.0.0.0 i (staying_none i staying)

      -- markers and the promise go
      stays_here : (b : Bool) (j : Instr) → is_fetched state.0 loaded ≡ b
          → (if b then with_fetched (copies x).fetches state.1 loaded else loaded) ≡ j → IsNoneOf j
          → list_any (is_local v) (instr_operands j) ≡ true → IsNamedHere n.0 i v
      stays_here b j e is other names = record {
        instr = without_promise_of j;
        here = ap (λ (c : Bool). staying_of (if c then with_fetched (copies x).fetches state.1 loaded else loaded)) e
            ∙ ap staying_of is ∙ ap (λ (c : Bool). promised_of (if c then Some j else None))
            (no_marker j other.starts other.ends (marked x));
        names = ap (λ (y : Instr). list_any (is_local v) (instr_operands y)) (no_promise j other.id) ∙ names;
      }
        where
          promised_of : Option Instr → Option Instr
          promised_of None = None
          promised_of (Some y) = Some (without_promise_of y)

          staying_of : Instr → Option Instr
          staying_of y = promised_of (if stays (marked x) y then Some y else None)

      on : (b : Bool) → is_fetched state.0 loaded ≡ b → IsNamedHere n.0 i v
      on true e = stays_here true (with_fetched (copies x).fetches state.1 loaded) e refl
          (fetched_none (copies x).fetches state.1 loaded none)
          (named_there (copies x).fetches v
          (unfetched (ap (λ (c : Bool). is_fetched c loaded) (sym same) ∙ e)) state.1 loaded
          (listed_any v (instr_operands loaded) named))
      on false e = stays_here false loaded e refl none named

  pub named_here : (n : Placed) (i : Instr) → IsStaying i → IsUnlocated x n i → (v : ℕ)
      → IsListed (Operand.Local v) (instr_operands i) → fetch_of (fetches_of (plan x)) (Operand.Local v) ≡ None
      → IsNamedHere n.0 i v
  named_here n i staying unlocated v listed unkept =
      named_by n i staying v listed unkept (again (fetch_of (copies x).fetches (Operand.Local v)) refl)
    where
      loaded : Instr
      loaded = with_fetched (fetches_of (plan x)) n.0.0.0.0 i

      named : list_any (is_local v) (instr_operands loaded) ≡ true
      named = named_there (fetches_of (plan x)) v unkept n.0.0.0.0 i listed

      again : (o : Option Fetch) → fetch_of (copies x).fetches (Operand.Local v) ≡ o
          → is_fetched (is_ahead n) loaded ≡ true → fetch_of (copies x).fetches (Operand.Local v) ≡ None
      again None e ahead = e
      again (Some f) e ahead =
          let empty : fetches_of_all (copies x).fetches (where_name n) (instr_operands loaded) ≡ [] =
          sym (ap (λ (c : Bool). if c then fetches_of_all (copies x).fetches (where_name n)
          (instr_operands loaded) else [])
          ahead) ∙ unlocated.wheres in
          absurd (some_fetched (copies x).fetches v (where_name n) f (instr_operands loaded) e
          (listed_any v (instr_operands loaded) named) empty)
