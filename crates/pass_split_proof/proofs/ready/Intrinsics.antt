-- Calls of coro intrinsics are ready in the parts.
use Rattle.std.proofs.Common.{◌≡◌, ◌<◌, ◌^◌, ◌⊎◌, inl, inr, ⊎_elim, ℕ, Bool, true, false, List, [], ◌∷◌, length, refl, sym, ap, ◌∙◌, subst, arith}
use Rattle.std.proofs.lemmas.Bool.{false≢true}
use Rattle.std.specs.Prelude.{ℤ, Option, Some, not, ◌&&◌}
use Rattle.pass_proofs.specs.frame_layout.declared.layout.Layout.{Layout}
use Rattle.pass_proofs.specs.frame_layout.declared.layout.Layouts.{Layouts}
use Rattle.pass_proofs.proofs.ir_laws.facts.Truth.{and_first, and_second}
use Rattle.pass_proofs.specs.ir_model.Names.{function_at}
use Rattle.pass_proofs.specs.ir_model.Ty.{Ty, array, int, named, ptr, structure, token}
use Rattle.pass_proofs.specs.ir_model.declared.instr.Instr.{Instr}
use Rattle.pass_proofs.specs.ir_model.declared.module.Function.{Function}
use Rattle.pass_proofs.specs.ir_model.declared.module.Module.{Module}
use Rattle.pass_proofs.specs.ir_model.declared.operand.Arg.{Arg}
use Rattle.pass_proofs.specs.ir_model.declared.operand.Callee.{Callee}
use Rattle.pass_proofs.specs.ir_model.declared.operand.Intrinsic.{Intrinsic}
use Rattle.pass_proofs.specs.ir_paths.Windows.{is_call_of}
use Rattle.pass_proofs.specs.pass_intrinsics.Shapes.{shape_of}
use Rattle.pass_proofs.specs.pass_intrinsics.declared.shape.Shape.{Shape}
use Rattle.pass_split_proof.proofs.giving.Frames.{block_there}
use Rattle.pass_split_proof.proofs.ready.At.{begins, others, read, ruled, there}
use Rattle.pass_split_proof.proofs.ready.Begins.{BeginsBy, Named, New, low_name}
use Rattle.pass_split_proof.proofs.ready.Callees.{call_fits}
use Rattle.pass_split_proof.proofs.ready.Known.{first_low}
use Rattle.pass_split_proof.proofs.ready.Rules.{at_instr}
use Rattle.pass_split_proof.proofs.ready.Sizes.{frame_align, frame_size}
use Rattle.pass_split_proof.specs.first_exits.Parted.{parted_module}
use Rattle.pass_split_proof.specs.giving.Intrinsics.{HasOwnSize, IsAtIntrinsic, is_constant}
use Rattle.pass_split_proof.specs.ready.Module.{IsFollowableIn}
use Rattle.pass_split_proof.specs.simulation.Premises.{IsAt, IsAtPlace, asks_frame}
use Rattle.pass_split_proof.specs.simulation.Statement.{parts_given}
use Rattle.pass_split_proof.specs.states.Activations.{IsShapeOf}
use Rattle.pass_split_proof.specs.states.Related.{AreRelated}
use Rattle.pass_split_proof.specs.steps.Operands.{IsReadable}
use Rattle.pass_split_proof.specs.steps.Resuming.{IsAtWaking}
use Rattle.pass_proofs.specs.rule_laws.rules.function_rules.Kept.{KeepsFunctionRulesAt}
use Rattle.pass_proofs.specs.rule_locals.Intrinsics.{is_inner, misplaces}
use Rattle.pass_proofs.specs.rule_names.declared.stage.Stage.{Stage}
use Rattle.pass_proofs.specs.rule_types.Signatures.{are_wanted, is_result}
use Rattle.pass_proofs.specs.rule_types.Wants.{any, intrinsic_params, intrinsic_result, is_ptr, want}
use Rattle.pass_proofs.specs.rule_types.declared.wants.Basic.{Basic}
use Rattle.pass_proofs.specs.rule_types.declared.wants.Demand.{Demand}
use Rattle.pass_proofs.specs.rule_types.declared.wants.Wanted.{Wanted}
use Rattle.pass_proofs.specs.run_framed.Framed.{framed_given, layout_of}
use Rattle.pass_proofs.specs.run_laws.changed.Changed.{Each, values_of}
use Rattle.run_access_worked.specs.run_plain.declared.state.PlainState.{PlainState}
use Rattle.pass_proofs.specs.run_source.declared.state.State.{State}
use Rattle.pass_proofs.specs.run_step.Step.{AtInstr, fetch}

-- ---- intrinsics of coroutines alone (K1)

pub in_coroutine : (m : Module) (k : ℕ) (f : Function) → KeepsFunctionRulesAt Stage.Plain m k f → (block at : ℕ)
    (result : Option ℕ) (must_tail : Bool) (ty : Option Ty) (x : Intrinsic) (args : List Arg)
    → fetch f block at ≡ AtInstr (Instr.Call result must_tail ty (Callee.Intrinsic x) args) → is_inner x ≡ true
    → f.coroutine ≡ true
in_coroutine m k f rules block at result must_tail ty x args here inner =
    on f.coroutine (sym (ap (λ (b : Bool). not f.coroutine && b) inner)
    ∙ at_instr k f (misplaces Stage.Source f.coroutine) rules.local.misplaced block at
    (Instr.Call result must_tail ty (Callee.Intrinsic x) args) here)
  where
    on : (c : Bool) → (not c && true) ≡ false → c ≡ true
    on true e = refl
    on false e = absurd (cc)

constant_inner : (x : Intrinsic) → is_constant x ≡ true → is_inner x ≡ true
constant_inner Intrinsic.CoroSizeI32 e = refl
constant_inner Intrinsic.CoroSizeI64 e = refl
constant_inner Intrinsic.CoroAlignI32 e = refl
constant_inner Intrinsic.CoroAlignI64 e = refl
constant_inner Intrinsic.CoroAlloc e = refl
constant_inner _ e = absurd (false≢true e)

begins_not : (x : Intrinsic) (result : Option ℕ) (must_tail : Bool) (ty : Option Ty) (args : List Arg)
    → (x ≡ Intrinsic.CoroBegin → ⊥)
    → is_call_of Intrinsic.CoroBegin (Instr.Call result must_tail ty (Callee.Intrinsic x) args) ≡ false
begins_not Intrinsic.CoroBegin result must_tail ty args none = absurd (none refl)
begins_not _ result must_tail ty args none = refl

asks_no_begin : (x : Intrinsic) (result : Option ℕ) (must_tail : Bool) (ty : Option Ty) (args : List Arg)
    → asks_frame x ≡ true
    → is_call_of Intrinsic.CoroBegin (Instr.Call result must_tail ty (Callee.Intrinsic x) args) ≡ false
asks_no_begin Intrinsic.CoroBegin result must_tail ty args e = absurd (false≢true e)
asks_no_begin _ result must_tail ty args e = refl

-- ---- the first argument (Y2)

pub record HasPointer (args : List Arg) : Type 0 where
  pub arg : Arg
  pub rest : List Arg
  pub are : args ≡ arg ∷ rest
  pub typed : arg.ty ≡ ptr

pub pointer_is : (t : Ty) → is_ptr t ≡ true → t ≡ ptr
pointer_is ptr e = refl
pointer_is (int w) e = absurd (false≢true e)
pointer_is token e = absurd (false≢true e)
pointer_is (array n t) e = absurd (false≢true e)
pointer_is (structure ts) e = absurd (false≢true e)
pointer_is (named n) e = absurd (false≢true e)

pointer_first : (ps : List Wanted) (args : List Arg) → are_wanted (any Basic.Ptr ∷ ps) args ≡ true → HasPointer args
pointer_first ps [] e = absurd (false≢true e)
pointer_first ps (a ∷ args) e = record {
  arg = a;
  rest = args;
  are = refl;
  typed = pointer_is a.ty (and_first (is_ptr a.ty) true (and_first (is_ptr a.ty && true) (are_wanted ps args) e));
}

asked_pointer : (x : Intrinsic) (args : List Arg) → asks_frame x ≡ true → are_wanted (intrinsic_params x) args ≡ true
    → HasPointer args
asked_pointer Intrinsic.CoroResume args a e = pointer_first [] args e
asked_pointer Intrinsic.CoroDestroy args a e = pointer_first [] args e
asked_pointer Intrinsic.CoroDone args a e = pointer_first [] args e
asked_pointer Intrinsic.CoroPromise args a e =
    pointer_first (want Basic.I32 Demand.Align ∷ want Basic.I1 Demand.Flag ∷ []) args e
asked_pointer _ args a e = absurd (false≢true a)

-- ---- at related states

no_align : (a : ℕ) → a ≡ 1 → (a ≡ 8) ⊎ (a ≡ 16) → ⊥
no_align a one (inl e) = omega (arith, one, e)
no_align a one (inr e) = omega (arith, one, e)

-- a shape of a coroutine is that of its layout
pub coroutine_shape : (ls : Layouts) (m : Module) (answers : List ℤ) (k : ℕ) (s : Shape)
    → IsShapeOf (framed_given m ls.coroutines answers) k (function_at m k) s → (function_at m k).coroutine ≡ true
    → s ≡ shape_of (function_at m k) (layout_of ls.coroutines k)
coroutine_shape ls m answers k s (inl h) c = h.1
coroutine_shape ls m answers k s (inr h) c = absurd (false≢true (sym h.0 ∙ c))

module _ {stage : Stage} {ruler : Module} (ls : Layouts) (m : Module) (w : IsFollowableIn stage ruler ls m)
    (answers : List ℤ) (s : State) (t : PlainState)
    (r : AreRelated (framed_given m ls.coroutines answers) (parts_given ls m answers) s t) where
  pub intrinsic_ready : (result : Option ℕ) (must_tail : Bool) (ty : Option Ty) (x : Intrinsic) (args : List Arg)
      → IsAt (framed_given m ls.coroutines answers) s (AtInstr
      (Instr.Call result must_tail ty (Callee.Intrinsic x) args))
      → IsAtPlace (framed_given m ls.coroutines answers) (parts_given ls m answers) s t r
      → (x ≡ Intrinsic.CoroBegin → ⊥)
      → IsAtIntrinsic (framed_given m ls.coroutines answers) (parts_given ls m answers) s t r x
  intrinsic_ready result must_tail ty x args here p none = record {
    settled = p.settled;
    place = p.place;
    result = result;
    must_tail = must_tail;
    ty = ty;
    args = args;
    there = here;
    others = others ls m w answers s t r (Instr.Call result must_tail ty (Callee.Intrinsic x) args) here
        (begins_not x result must_tail ty args none);
  }

  pub sized_ready : (result : Option ℕ) (must_tail : Bool) (ty : Option Ty) (x : Intrinsic) (args : List Arg)
      → IsAt (framed_given m ls.coroutines answers) s (AtInstr
      (Instr.Call result must_tail ty (Callee.Intrinsic x) args))
      → is_constant x ≡ true → HasOwnSize (framed_given m ls.coroutines answers) s r.top.shape
  sized_ready result must_tail ty x args here constant =
      let i : Instr = Instr.Call result must_tail ty (Callee.Intrinsic x) args in
      let f : Function = function_at m s.top.func in
      let coroutine = in_coroutine ruler s.top.func (function_at m s.top.func) (ruled ls m w answers s t r i
      here).rules
      s.top.block s.top.at result must_tail ty x args here (constant_inner x constant) in
      let own = there ls m w answers s t r i here in
      let same = coroutine_shape ls m answers s.top.func r.top.shape r.top.shaped coroutine in
      let small = (w.coroutines s.top.func (function_at m s.top.func) own coroutine).small in
      let laid = (w.partable.coroutines s.top.func (function_at m s.top.func) own coroutine).laid in
      record {
        size = frame_size ls.coroutines s.top.func ∙ ap (λ (y : Shape). y.size) (sym same);
        align = ⊎_elim (λ e. e ∙ ap (λ (y : Shape). y.align) (sym same))
            (λ one. absurd (no_align (layout_of ls.coroutines s.top.func).align one laid.alignment))
            (frame_align ls.coroutines s.top.func);
        small_size = subst (λ (y : Shape). y.size < 2 ^ 32) (sym same) small.size;
        small_align = subst (λ (y : Shape). y.align < 2 ^ 32) (sym same) small.align;
      }

  -- an activation of an instance is one of a coroutine: frames of instances are laid out
  instance_begins : (i : Instr) → fetch (function_at m s.top.func) s.top.block s.top.at ≡ AtInstr i
      → BeginsBy (function_at m s.top.func) r.top.shape.begin → (own : ℕ) → s.top.instance ≡ Some own
      → r.top.shape.begin < length (function_at m s.top.func).names
  instance_begins i here (Named coroutine begins) own e = low_name ruler s.top.func (function_at m s.top.func)
      (ruled ls m w answers s t r i here).rules r.top.shape.begin (Named coroutine begins) coroutine
  instance_begins i here (New plain same) own e =
      let x = r.top.frame own e in
      let b = block_there s.world.memory x.instance.block (r.frames.laid.known own x.instance x.there) in
      let lies = r.frames.laid.lies own x.instance b.0 x.there b.1 in
      let none = w.plain s.top.func (function_at m s.top.func) (there ls m w answers s t r i here) plain in
      absurd (no_align (layout_of ls.coroutines x.instance.coroutine).align
      (ap (λ (k : ℕ). (layout_of ls.coroutines k).align) x.coroutine ∙ ap (λ (l : Layout). l.align) none)
      lies.alignment)

  pub asking_ready : (result : Option ℕ) (must_tail : Bool) (ty : Option Ty) (x : Intrinsic) (args : List Arg)
      → IsAt (framed_given m ls.coroutines answers) s (AtInstr
      (Instr.Call result must_tail ty (Callee.Intrinsic x) args))
      → IsAtPlace (framed_given m ls.coroutines answers) (parts_given ls m answers) s t r → asks_frame x ≡ true
      → IsAtWaking (framed_given m ls.coroutines answers) (parts_given ls m answers) s t r x
  asking_ready result must_tail ty x args here p asks =
      let i : Instr = Instr.Call result must_tail ty (Callee.Intrinsic x) args in
      let rules = (ruled ls m w answers s t r i here).rules in
      let fits = call_fits ruler s.top.func (function_at m s.top.func) rules s.top.block s.top.at result must_tail ty
      args (Callee.Intrinsic x) here in
      let y = asked_pointer x args asks (and_second (is_result (intrinsic_result x) ty)
      (are_wanted (intrinsic_params x) args) fits) in
      let readable = subst (λ (xs : List Arg). Each (IsReadable m (parted_module ls m) (function_at m s.top.func))
      (values_of xs)) y.are (read ls m w answers s t r i here) in
      record {
        running = p.running;
        settled = p.settled;
        place = p.place;
        result = result;
        must_tail = must_tail;
        ty = ty;
        arg = y.arg;
        rest = y.rest;
        there = here ∙ ap (λ (xs : List Arg). AtInstr (Instr.Call result must_tail ty (Callee.Intrinsic x) xs)) y.are;
        typed = y.typed;
        readable = readable.0;
        known = λ v e. first_low ruler s.top.func (function_at m s.top.func) rules s.top.block s.top.at i here
            y.arg.value
            (values_of y.rest) (ap values_of y.are) v e;
        begin = λ own e. instance_begins i here (begins ls m w answers s t r i here) own e;
      }
