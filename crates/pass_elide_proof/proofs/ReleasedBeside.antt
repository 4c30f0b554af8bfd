-- What both runs free is no frame that was given: the framed run would be about to free that alone.
use Rattle.std.proofs.Common.{◌≡◌, ◌≢◌, ℕ, Bool, true, false, not, List, refl, sym, ap, ◌∙◌, subst, if◌then◌else◌, ◌&&◌, ◌||◌}
use Rattle.std.specs.Option.{option_map_or}
use Rattle.std.specs.Prelude.{None, Option, Some, is_some, slice_get}
use Rattle.pass_elide_proof.proofs.Begins.{no_both}
use Rattle.pass_elide_proof.proofs.Deallocates.{kills, let_go_of}
use Rattle.pass_elide_proof.proofs.LastFound.{began_in, found_there}
use Rattle.pass_elide_proof.specs.Elision.{Elision, function_in}
use Rattle.pass_elide_proof.specs.Match.{AreElided, IsNoGivenFrame, instance_in, is_given_mode, sides, was_given}
use Rattle.pass_elide_proof.specs.Releasing.{Branches, FreesAtOnce, Frees, GivenFreeAtOnce, HaveReleased, IsAtSameFree, IsFreedSoon, IsReleasing, Jumps, NullTest, Passes, Tests, is_calm}
use Rattle.pass_proofs.proofs.ir_laws.facts.Truth.{both_true}
use Rattle.pass_proofs.proofs.run_laws.memory.Written.{changed_here, same_some}
use Rattle.pass_proofs.specs.ir_model.Ty.{Ty}
use Rattle.pass_proofs.specs.ir_model.declared.instr.Instr.{Instr}
use Rattle.pass_proofs.specs.ir_model.declared.instr.Terminator.{Terminator}
use Rattle.pass_proofs.specs.ir_model.declared.operand.Allocator.{Allocator}
use Rattle.pass_proofs.specs.ir_model.declared.operand.Arg.{Arg}
use Rattle.pass_proofs.specs.ir_model.declared.operand.Callee.{Callee}
use Rattle.pass_proofs.specs.ir_model.declared.operand.Operand.{Operand}
use Rattle.pass_proofs.specs.ir_paths.Windows.{operand_at}
use Rattle.pass_proofs.specs.run_framed.Framed.{is_given}
use Rattle.pass_proofs.specs.run_memory.Memory.{disown, disowned, is_killed, is_owned, is_unkilled, same_kind}
use Rattle.pass_proofs.specs.run_memory.declared.block.Kind.{Kind}
use Rattle.pass_proofs.specs.run_memory.declared.block.MemoryBlock.{MemoryBlock}
use Rattle.pass_proofs.specs.run_memory.declared.pointer.Offset.{Offset}
use Rattle.pass_proofs.specs.run_memory.declared.pointer.Pointer.{Pointer}
use Rattle.pass_proofs.specs.run_memory.declared.pointer.Value.{Value}
use Rattle.pass_proofs.specs.run_source.Source.{deallocate, if_let_go, let_go, may_be_freed}
use Rattle.pass_proofs.specs.run_source.State.{began_at, instance_at, is_suspended}
use Rattle.pass_proofs.specs.run_source.declared.state.Instance.{Instance}
use Rattle.pass_proofs.specs.run_source.declared.state.State.{State}
use Rattle.pass_proofs.specs.run_step.Step.{AtInstr, AtTerm, fetch}
use Rattle.pass_proofs.specs.run_step.Values.{address, arg_values, nth}
use Rattle.run_slots.specs.Slots.{IsFrameBlock, IsSlottedState}

-- ---- truths

-- what coro.free gave differs where the frame was given
freed_differs : (p q f rest : Bool) → q ≡ true → f ≡ true → (p || (q && (f || rest))) ≡ false → ⊥
freed_differs true q f rest given freed alike = absurd (cc)
freed_differs false true true rest given freed alike = absurd (cc)
freed_differs false true false rest given freed alike = absurd (cc)
freed_differs false false f rest given freed alike = absurd (cc)

killed_not_unkilled : (kind : Kind) (z : MemoryBlock) → is_killed z.life ≡ true → is_unkilled kind (Some z) ≡ true → ⊥
killed_not_unkilled kind z killed unkilled =
    no_both (is_killed z.life) (not_true (is_killed z.life)
    (both_true (same_kind z.kind kind) (not (is_killed z.life)) unkilled).1) killed
  where
    not_true : (b : Bool) → not b ≡ true → b ≡ false
    not_true true h = absurd (cc)
    not_true false h = refl

module _ (e : Elision) (s t : State) (r : AreElided e s t) (h : HaveReleased e s) (slotted : IsSlottedState s)
    (givens : GivenFreeAtOnce e t) (a : Allocator) (result : Option ℕ) (must_tail : Bool) (ty : Option Ty)
    (args : List Arg) (at : IsAtSameFree e s t a result must_tail ty args) (i : ℕ) (x y : Instance)
    (first : slice_get s.instances i ≡ Some x) (second : slice_get t.instances i ≡ Some y)
    (given : is_given t.world.memory y ≡ true) where
  abbrev call : Instr
  call = Instr.Call result must_tail ty (Callee.Allocator a) args

  abbrev m : List MemoryBlock
  m = s.world.memory

  frame : IsFrameBlock m x
  frame = slotted.slotted.frames i x first

  -- ---- the activation that is about to free it

  was_so : t.top.instance ≡ Some i → was_given (sides s t) t.top ≡ true
  was_so own = by (is_given_mode t.top.mode)
    where
      by : (b : Bool)
          → (if b then true else option_map_or (is_given t.world.memory) (instance_in t.instances t.top.instance) false)
          ≡ true
      by true = refl
      by false =
          ap (λ (o : Option Instance). option_map_or (is_given t.world.memory) o false)
          (ap (instance_in t.instances) own ∙ second) ∙ given

  calm_no : (j : Instr) → AtInstr j ≡ AtInstr call → is_calm j ≡ true → ⊥
  calm_no j same calm = no_both (is_calm j) (ap is_calm (one j call same)) calm
    where
      one : (p q : Instr) → AtInstr p ≡ AtInstr q → p ≡ q
      one p q k = cc

  takes_it : (result' : Option ℕ) (must_tail' : Bool) (ty' : Option Ty) (a' : Allocator) (args' : List Arg)
      → AtInstr (Instr.Call result' must_tail' ty' (Callee.Allocator a') args') ≡ AtInstr call → args' ≡ args
  takes_it result' must_tail' ty' a' args' same = cc

  -- it frees by a name that differs
  not_there : (v : ℕ) (test : Option NullTest) (block k : ℕ)
      → IsFreedSoon (function_in e s.top.func) v test block k → s.top.block ≡ block → s.top.at ≡ k
      → (e.shape s.top.func).freed v ≡ true → t.top.instance ≡ Some i → ⊥
  not_there v _ _ _ (Frees test block k result' must_tail' ty' a' args' stands frees takes) eb ek freed own =
      let same : AtInstr (Instr.Call result' must_tail' ty' (Callee.Allocator a') args') ≡ AtInstr call
      = sym ((λ j. fetch (function_in e s.top.func) (eb j) (ek j)) ∙ stands) ∙ at.there in
      freed_differs _ (was_given (sides s t) t.top) ((e.shape s.top.func).freed v) _ (was_so own) freed
      (at.alike v (ap (λ (l : List Arg). operand_at l 0) (sym (takes_it result' must_tail' ty' a' args' same)) ∙ takes))
  not_there v _ _ _ (Passes test block k j stands calm spares next) eb ek freed own =
      calm_no j (sym ((λ n. fetch (function_in e s.top.func) (eb n) (ek n)) ∙ stands) ∙ at.there) calm
  not_there v _ _ _ (Tests block k x' p q stands test ne next) eb ek freed own =
      calm_no _ (sym ((λ n. fetch (function_in e s.top.func) (eb n) (ek n)) ∙ stands) ∙ at.there) refl
  not_there v _ _ _ (Branches block k x' one other stands none place) eb ek freed own =
      no_term (Terminator.Branch (Operand.Local x'.name) one other)
      (sym ((λ n. fetch (function_in e s.top.func) (eb n) (ek n)) ∙ stands) ∙ at.there)
    where
      no_term : (u : Terminator) → AtTerm u ≡ AtInstr call → ⊥
      no_term u same = cc
  not_there v _ _ _ (Jumps test block k label stands none place) eb ek freed own =
      no_term (Terminator.Jump label)
      (sym ((λ n. fetch (function_in e s.top.func) (eb n) (ek n)) ∙ stands) ∙ at.there)
    where
      no_term : (u : Terminator) → AtTerm u ≡ AtInstr call → ⊥
      no_term u same = cc

  no_releasing : IsReleasing e s i x → ⊥
  no_releasing k =
      not_there k.name k.test s.top.block s.top.at k.place refl refl k.freed (r.top.instance ∙ k.instance)

  coroutine : y.coroutine ≡ x.coroutine
  coroutine = (r.instances i x y first second).coroutine

  not_released : x.released ≡ true → x.freed ≡ false → ⊥
  not_released released unfreed =
      no_releasing
      (h i x first
      (subst (λ (k : ℕ). FreesAtOnce (function_in e k) (e.shape k)) coroutine (givens i y second given)) released
      unfreed)

  -- ---- the deallocation

  -- an owned block isn't deallocated, nor one that was freed
  no_owner : is_unkilled Kind.Allocator (slice_get m x.block) ≡ true → is_owned (slice_get m x.block) ≡ false → ⊥
  no_owner unkilled unowned = by x.freed refl
    where
      by : (b : Bool) → x.freed ≡ b → ⊥
      by true freed =
          killed_not_unkilled Kind.Allocator frame.block (frame.gone freed)
          (ap (is_unkilled Kind.Allocator) (sym frame.there) ∙ unkilled)
      by false unfreed =
          no_both (is_some frame.block.owned) (ap is_owned (sym frame.there) ∙ unowned) (frame.owned unfreed)

  -- an instance that was freed isn't let go again
  no_again : x.freed ≡ true → is_unkilled Kind.Allocator (slice_get (disown m x.block) x.block) ≡ true → ⊥
  no_again freed unkilled =
      killed_not_unkilled Kind.Allocator (disowned frame.block) (frame.gone freed)
      (ap (is_unkilled Kind.Allocator) (sym (changed_here m x.block disowned frame.block frame.there)) ∙ unkilled)

  let_go_not : (j : ℕ) → x.released ≡ true
      → is_unkilled Kind.Allocator (slice_get (let_go s j x).world.memory x.block) ≡ true → ⊥
  let_go_not j released unkilled = by x.freed refl
    where
      by : (b : Bool) → x.freed ≡ b → ⊥
      by false unfreed = not_released released unfreed
      by true freed =
          no_again freed
          (ap (λ (u : State). is_unkilled Kind.Allocator (slice_get u.world.memory x.block))
          (sym (let_go_of s j x.block x (r.instances i x y first second).slots refl)) ∙ unkilled)

  abbrev Unkilled : State → Type 0
  Unkilled u = is_unkilled Kind.Allocator (slice_get u.world.memory x.block) ≡ true

  abbrev Unowned : State → Type 0
  Unowned u = is_owned (slice_get u.world.memory x.block) ≡ false

  abbrev gone_if : ℕ → Bool → State
  gone_if j c = if c then let_go s j x else s

  found_not : (o : Offset) (q : Option (ℕ × Instance))
      → instance_at s.instances (Value.Ptr (Pointer.At x.block o)) ≡ q → Unkilled (if_let_go s q)
      → Unowned (if_let_go s q) → ⊥
  found_not o None eq unkilled unowned = no_owner unkilled unowned
  found_not o (Some (j, z)) eq unkilled unowned = by (may_be_freed x) refl
    where
      it : (slice_get s.instances j ≡ Some z) × (began_at x.block o.bits z ≡ true)
      it = found_there (began_at x.block o.bits) s.instances (j, z) eq

      number : i ≡ j
      number = slotted.slotted.apart i j x z first it.0 (sym (began_in x.block o.bits z it.1))

      same : z ≡ x
      same = same_some z x (sym it.0 ∙ (ap (slice_get s.instances) (sym number) ∙ first))

      is : if_let_go s (Some (j, z)) ≡ gone_if j (may_be_freed x)
      is = ap (λ (u : Instance). if_let_go s (Some (j, u))) same

      by : (c : Bool) → may_be_freed x ≡ c → ⊥
      by true may =
          let_go_not j (both_true x.released (not (is_suspended x.status)) may).0
          (subst Unkilled (is ∙ ap (gone_if j) may) unkilled)
      by false may = no_owner (subst Unkilled (is ∙ ap (gone_if j) may) unkilled) (subst Unowned (is ∙ ap (gone_if j) may) unowned)

  pub freed_elsewhere : (block : ℕ) (o : Offset)
      → address (nth (arg_values e.code s.top.values args) 0) ≡ Value.Ptr (Pointer.At block o) → x.block ≢ block
  freed_elsewhere block o is same =
      let k = kills (if_let_go s (instance_at s.instances (Value.Ptr (Pointer.At block o)))) block o at.after
      (ap (deallocate s) (sym is) ∙ at.goes) in
      found_not o (instance_at s.instances (Value.Ptr (Pointer.At x.block o))) refl
      (subst (λ (b : ℕ). is_unkilled Kind.Allocator
      (slice_get (if_let_go s (instance_at s.instances (Value.Ptr (Pointer.At b o)))).world.memory b) ≡ true)
      (sym same) k.unkilled)
      (subst (λ (b : ℕ). is_owned
      (slice_get (if_let_go s (instance_at s.instances (Value.Ptr (Pointer.At b o)))).world.memory b) ≡ false)
      (sym same) k.unowned)

pub freed_own : (e : Elision) (s t : State) (a : Allocator) (result : Option ℕ) (must_tail : Bool) (ty : Option Ty)
    (args : List Arg) → AreElided e s t → HaveReleased e s → IsSlottedState s → GivenFreeAtOnce e t
    → IsAtSameFree e s t a result must_tail ty args → (block : ℕ) (o : Offset)
    → address (nth (arg_values e.code s.top.values args) 0) ≡ Value.Ptr (Pointer.At block o)
    → IsNoGivenFrame (sides s t) block
freed_own e s t a result must_tail ty args r h slotted givens at block o is i x y first second given =
    freed_elsewhere e s t r h slotted givens a result must_tail ty args at i x y first second given block o is
