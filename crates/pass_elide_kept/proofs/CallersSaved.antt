-- Callers of instances stay on the stack where a coroutine saves that is never given its frame. So its activation
-- destroys no instance whose frame was given.
use Rattle.std.proofs.Common.{◌≡◌, ◌⊎◌, ◌∙◌, ◌∷◌, [], ap, inl, inr, Bool, false, length, List, not, Ok, Option, refl, subst, sym, true, ℕ}
use Rattle.std.specs.Prelude.{None, Some, negsuc, slice_get}
use Rattle.elide_sites.specs.Sites.{is_destroy_of}
use Rattle.pass_elide_kept.specs.Steps.{GoesStill, SavesAt, StandsAtCall}
use Rattle.pass_elide_proof.proofs.Callees.{called_at}
use Rattle.pass_elide_proof.proofs.CallersCoros.{gives_keep, then_keep}
use Rattle.pass_elide_proof.proofs.CallersEdges.{status_was}
use Rattle.pass_elide_proof.proofs.CallersInstr.{Keep, next_keeps}
use Rattle.pass_elide_proof.proofs.CallersOnward.{called_as, given_as, last_as, ramps_as}
use Rattle.pass_elide_proof.proofs.Facts.{not_both}
use Rattle.pass_elide_proof.proofs.LeftWindows.{own_there}
use Rattle.pass_elide_proof.proofs.Stacks.{called_on, given_on}
use Rattle.pass_elide_proof.specs.Callers.{WasBefore, saves_by}
use Rattle.pass_elide_proof.specs.Elision.{Elision, elided, function_in}
use Rattle.pass_elide_proof.specs.Invariant.{AreGivenBy, Below, Calling, Destroying, HasCaller, HaveCallers, Held, Here, Holds, IsCalledIn, IsDestroying}
use Rattle.pass_elide_proof.specs.Match.{instance_in}
use Rattle.pass_elide_proof.specs.pass_proofs.ir_base.declared.cause.Cause.{Cause}
use Rattle.pass_elide_proof.specs.pass_proofs.ir_model.Ty.{Ty}
use Rattle.pass_elide_proof.specs.pass_proofs.ir_model.declared.instr.Instr.{Instr}
use Rattle.pass_elide_proof.specs.pass_proofs.ir_model.declared.operand.Arg.{Arg}
use Rattle.pass_elide_proof.specs.pass_proofs.ir_model.declared.operand.Callee.{Callee}
use Rattle.pass_elide_proof.specs.pass_proofs.ir_model.declared.operand.Intrinsic.{Intrinsic}
use Rattle.pass_elide_proof.specs.pass_proofs.ir_model.declared.operand.Operand.{Operand}
use Rattle.pass_elide_proof.specs.pass_proofs.ir_paths.Windows.{operand_at, suspend_of}
use Rattle.pass_elide_proof.specs.pass_proofs.ir_paths.declared.point.Point.{Point}
use Rattle.pass_elide_proof.specs.pass_proofs.run_framed.Framed.{framed_next, framed_step, is_given}
use Rattle.pass_elide_proof.specs.pass_proofs.run_memory.declared.block.MemoryBlock.{MemoryBlock}
use Rattle.pass_elide_proof.specs.pass_proofs.run_source.Source.{save, save_for, suspend}
use Rattle.pass_elide_proof.specs.pass_proofs.run_source.State.{function_of, gives, next, own_instance, point_of, with_instance, with_left}
use Rattle.pass_elide_proof.specs.pass_proofs.run_source.declared.state.Activation.{Activation}
use Rattle.pass_elide_proof.specs.pass_proofs.run_source.declared.state.Instance.{Instance}
use Rattle.pass_elide_proof.specs.pass_proofs.run_source.declared.state.State.{State}
use Rattle.pass_elide_proof.specs.pass_proofs.run_source.declared.state.Status.{Status}
use Rattle.pass_elide_proof.specs.pass_proofs.run_step.Results.{and_then, found, ok_if}
use Rattle.pass_elide_proof.specs.pass_proofs.run_step.Step.{AtInstr}
use Rattle.pass_elide_proof.specs.pass_proofs.run_step.Values.{integer}

-- ---- an activation that is no caller, and destroys nothing, becomes another one

module _ (e : Elision) (memory : List MemoryBlock) (y : Instance) (number : ℕ) (c d : Activation)
    (func : d.func ≡ c.func) (result : d.result ≡ c.result) (mode : d.mode ≡ c.mode)
    (instance : d.instance ≡ c.instance) (alone : HasCaller e memory y number c [] → ⊥)
    (calm : IsDestroying e y number c → ⊥) where
  caller_instead : (b : Activation) → HasCaller e memory y number b (c ∷ [])
      → HasCaller e memory y number b (d ∷ [])
  caller_instead b h = record {
    call = h.call;
    instr = h.instr;
    name = h.name;
    site = h.site;
    start = h.start;
    address = h.address;
    slot = h.slot;
    lives = h.lives;
    holds = by (c ∷ []) h.holds refl;
  }
    where
      by : (above : List Activation) → Holds e y number h.call h.instr b above → above ≡ c ∷ []
          → Holds e y number h.call h.instr b (d ∷ [])
      by _ (Calling x above stands is_func is_result is_instance is_mode) same =
          let one : x ≡ c = cc in
          Calling d [] stands (func ∙ (ap (λ (a : Activation). a.func) (sym one) ∙ is_func))
          (result ∙ (ap (λ (a : Activation). a.result) (sym one) ∙ is_result))
          (instance ∙ (ap (λ (a : Activation). a.instance) (sym one) ∙ is_instance))
          (is_mode.0, mode ∙ (ap (λ (a : Activation). a.mode) (sym one) ∙ is_mode.1))
      by _ (Held p above stands reached handle) same = Held p (d ∷ []) stands reached handle
      by _ (Destroying p v x above stands is_result destroys) same =
          let one : x ≡ c = cc in absurd (calm (subst (IsDestroying e y number) one destroys))

  pub called_instead : (below : List Activation) → IsCalledIn e memory y number [] (c ∷ below)
      → IsCalledIn e memory y number [] (d ∷ below)
  called_instead below h = on (called_at e memory y number [] (c ∷ below) h)
    where
      under : (rows : List Activation) → IsCalledIn e memory y number (c ∷ []) rows
          → IsCalledIn e memory y number (d ∷ []) rows
      under [] k = absurd (called_at e memory y number (c ∷ []) [] k)
      under (b ∷ rows) k = by (called_at e memory y number (c ∷ []) (b ∷ rows) k)
        where
          by : HasCaller e memory y number b (c ∷ []) ⊎ IsCalledIn e memory y number (b ∷ c ∷ []) rows
              → IsCalledIn e memory y number (d ∷ []) (b ∷ rows)
          by (inl caller) = Here b (d ∷ []) rows (caller_instead b caller)
          by (inr further) =
              Below b (d ∷ []) rows
              (called_on e memory y number (b ∷ c ∷ []) (b ∷ d ∷ []) rows
              (record { func = refl; block = refl; result = refl; mode = refl; instance = refl; has_left = refl })
              further)

      on : HasCaller e memory y number c [] ⊎ IsCalledIn e memory y number (c ∷ []) below
          → IsCalledIn e memory y number [] (d ∷ below)
      on (inl caller) = absurd (alone caller)
      on (inr further) = Below d [] below (under below further)

-- ---- a save

module _ (e : Elision) (t : State) (inside : (function_in e t.top.func).coroutine ≡ true) (h : HaveCallers e t)
    (calm : (number : ℕ) (y : Instance) → slice_get t.instances number ≡ Some y → is_given t.world.memory y ≡ true
    → IsDestroying e y number t.top → ⊥) where
  abbrev asleep : Point → Point → Instance → Instance
  asleep save suspend x =
      record x {
        status = Status.Suspended suspend t.top.values;
        last_save = Some (record { depth = length t.below; save = save });
      }

  abbrev after : Point → Point → ℕ × Instance → State
  after save suspend x = with_left (with_instance t x.0 (asleep save suspend x.1)) true

  saved : (u : State) → u.below ≡ t.below → u.world.memory ≡ t.world.memory → u.top.func ≡ t.top.func
      → u.top.result ≡ t.top.result → u.top.mode ≡ t.top.mode → u.top.instance ≡ t.top.instance
      → ((number : ℕ) (y : Instance) → slice_get u.instances number ≡ Some y → WasBefore t.instances number y)
      → HaveCallers e u
  saved u below memory func result mode instance was = record {
    each = λ number y there given going.
        let old = was number y there in
        let x = old.before in
        let given_then : is_given t.world.memory x ≡ true
        = sym (given_as e x y number old.coroutine old.block old.start t.world.memory)
        ∙ ((λ j. is_given (sym memory j) y) ∙ given) in
        subst (λ (q : List MemoryBlock × List Activation). IsCalledIn e q.0 y number [] (u.top ∷ q.1))
        (λ j. (sym memory j, sym below j))
        (called_as e x y number old.coroutine old.block old.start t.world.memory [] (u.top ∷ t.below)
        (called_instead e t.world.memory x number t.top u.top func result mode instance
        (λ k. not_both (function_in e t.top.func).coroutine inside k.site.plain)
        (calm number x old.there given_then) t.below
        (h.each number x old.there given_then (old.going going))));
    last = last_as e t.instances u.instances was t.world.memory u.world.memory
        (λ number y there given. (λ j. is_given (sym memory j) y) ∙ given) h.last;
    ramps =
        subst (λ (rows : List Activation). AreGivenBy e u.instances (u.top ∷ rows)) (sym below)
        (ramps_as e t.instances u.instances was (u.top ∷ t.below)
        (given_on e t.instances t.top u.top t.below result mode instance h.ramps));
  }

  was_awake : (save suspend : Point) (x : ℕ × Instance) → own_instance t ≡ Some x → GoesStill t → (number : ℕ)
      (y : Instance) → slice_get (after save suspend x).instances number ≡ Some y → WasBefore t.instances number y
  was_awake save suspend x own goes =
      let own_is = own_there t x.0 x.1 own in
      status_was t.instances x.0 x.1 (asleep save suspend x.1) own_is.1 refl refl refl
      (λ going. goes x.1 (ap (instance_in t.instances) own_is.0 ∙ own_is.1))

  save_goes : (save suspend : Point) (f : State → State)
      → ((x : ℕ × Instance) → own_instance t ≡ Some x → HaveCallers e (f (after save suspend x)))
      → Keep e (and_then (save_for t save suspend) (λ (z : State). Ok (f z)))
  save_goes save suspend f further = on (own_instance t) refl
    where
      by : (x : ℕ × Instance) → own_instance t ≡ Some x → (b : Bool)
          → Keep e (and_then (ok_if b Cause.State (after save suspend x)) (λ (z : State). Ok (f z)))
      by x own true = further x own
      by x own false = tt

      on : (o : Option (ℕ × Instance)) → own_instance t ≡ o → Keep e (and_then (and_then (found Cause.State o)
          (λ (x : ℕ × Instance). ok_if (not x.1.freed) Cause.State (after save suspend x)))
          (λ (z : State). Ok (f z)))
      on None own = tt
      on (Some x) own = by x own (not x.1.freed)

  save_keeps : GoesStill t → Keep e (save (elided e).given t)
  save_keeps goes =
      then_keep e (found Cause.State (suspend_of (function_of (elided e).given t) (point_of t)))
      (λ q. and_then (save_for t (point_of t) q) (λ z. Ok (next z)))
      (λ q is. save_goes (point_of t) q next
      (λ x own. saved (next (after (point_of t) q x)) refl refl refl refl refl refl
      (was_awake (point_of t) q x own goes)))

  module _ (at : ℕ) (result : Option ℕ) (must_tail : Bool) (ty : Option Ty) (args : List Arg) where
    abbrev call_by : Intrinsic → Instr
    call_by j = Instr.Call result must_tail ty (Callee.Intrinsic j) args

    abbrev Kept : Intrinsic → Type 0
    Kept j = Keep e (framed_next (elided e) t (AtInstr (call_by j)))

    calm_call : (v : Option ℕ) → is_destroy_of v (call_by Intrinsic.CoroSuspend) ≡ false
    calm_call None = refl
    calm_call (Some v) = refl

    module _ (k : StandsAtCall e t at Intrinsic.CoroSuspend result must_tail ty args) where
      plain : HaveCallers e (gives t result (integer 8 (negsuc 0)))
      plain =
          gives_keep e t at Intrinsic.CoroSuspend result must_tail ty args k calm_call h (integer 8 (negsuc 0))

      suspend_keeps : (x : Operand) → (x ≡ Operand.None → GoesStill t) → Keep e (suspend t result x)
      suspend_keeps Operand.None goes =
          save_goes (point_of t) (point_of t) (λ z. gives z result (integer 8 (negsuc 0)))
          (λ x own. saved (gives (after (point_of t) (point_of t) x) result (integer 8 (negsuc 0))) refl refl refl refl
          refl refl (was_awake (point_of t) (point_of t) x own (goes refl)))
      suspend_keeps (Operand.Local v) goes = plain
      suspend_keeps (Operand.Global n) goes = plain
      suspend_keeps (Operand.Number z) goes = plain
      suspend_keeps Operand.True goes = plain
      suspend_keeps Operand.False goes = plain
      suspend_keeps Operand.Null goes = plain
      suspend_keeps Operand.Poison goes = plain

    by_save : (j : Intrinsic) → saves_by j ≡ true → StandsAtCall e t at j result must_tail ty args
        → SavesAt e t j args → Kept j
    by_save Intrinsic.CoroSave is k m = save_keeps (m.goes (inl refl))
    by_save Intrinsic.CoroSuspend is k m = suspend_keeps k (operand_at args 0) (λ none. m.goes (inr none))
    by_save _ is k m = absurd (cc)

    pub saves_keep_callers : (j : Intrinsic) → saves_by j ≡ true → StandsAtCall e t at j result must_tail ty args
        → SavesAt e t j args → HaveCallers e (framed_step (elided e) t)
    saves_keep_callers j is k m = next_keeps e t at (call_by j) k h (by_save j is k m)
