-- Saves and suspends: the second run keeps the instance as the first does.
use Rattle.std.proofs.Common.{◌≡◌, ℕ, ◌⊎◌, inl, inr, Bool, true, false, not, List, length, Option, Some, None, Result, Ok, Err}
use Rattle.std.proofs.Common.{refl, sym, ap, ◌∙◌, subst}
use Rattle.std.specs.Prelude.{negsuc, slice_get}
use Rattle.run_types.specs.ir_base.declared.cause.Cause.{Cause}
use Rattle.run_types.specs.ir_model.Names.{function_at}
use Rattle.run_types.specs.ir_model.Ty.{Ty}
use Rattle.run_types.specs.ir_model.declared.instr.Instr.{Instr}
use Rattle.run_types.specs.ir_model.declared.operand.Arg.{Arg}
use Rattle.run_types.specs.ir_model.declared.operand.Callee.{Callee}
use Rattle.run_types.specs.ir_model.declared.operand.Intrinsic.{Intrinsic}
use Rattle.run_types.specs.ir_model.declared.operand.Operand.{Operand}
use Rattle.run_types.specs.ir_paths.Windows.{IsInWindow, is_call_of, operand_at, suspend_of}
use Rattle.run_types.specs.ir_paths.declared.point.Point.{Point}
use Rattle.run_types.proofs.pass_kept_proof.Rules.{suspend_is_suspend}
use Rattle.run_types.specs.pass_kept_proof.SuspendRules.{IsCallAt}
use Rattle.run_types.specs.rule_windows.Sets.{IsAfterEnd}
use Rattle.run_types.proofs.run_hooks.alive.Order.{token_there}
use Rattle.run_types.specs.run_hooks.Away.{AtEnd, Behind, IsAway, IsBehind, IsClear, IsWaiting, Waits, point_in}
use Rattle.run_types.specs.run_memory.declared.pointer.Value.{Value}
use Rattle.run_types.specs.run_source.Source.{save, save_before, save_for, suspend}
use Rattle.run_types.specs.run_source.State.{gives, next, own_instance, with_instance, with_left}
use Rattle.run_types.specs.run_source.declared.state.Instance.{Instance}
use Rattle.run_types.specs.run_source.declared.state.State.{State}
use Rattle.run_types.specs.run_source.declared.state.Status.{Status}
use Rattle.run_types.specs.run_step.Results.{and_then, found, ok_if}
use Rattle.run_types.specs.run_step.Step.{AtInstr, fetch}
use Rattle.run_types.specs.run_step.Values.{integer}
use Rattle.pass_renewed_meaning.proofs.Here.{Here, IsCase, keeps, none_below, other, own_coroutine}
use Rattle.pass_renewed_meaning.proofs.OneStep.{IsOneStep}
use Rattle.pass_renewed_meaning.proofs.Points.{giving_call, no_call, no_switch, ordinary}
use Rattle.pass_renewed_meaning.specs.Followed.{Goes}
use Rattle.pass_renewed_meaning.specs.Rules.{Setting}
use Rattle.pass_renewed_meaning.specs.Runs.{first_given, second_given}
use Rattle.run_types.proofs.pass_renewed_proof.Giving.{gives_beside}
use Rattle.run_types.proofs.pass_renewed_proof.GoingTo.{as_many, own_is}
use Rattle.run_types.proofs.pass_renewed_proof.Owning.{own_beside}
use Rattle.run_types.proofs.pass_renewed_proof.SavePoints.{save_saves, suspend_saves}
use Rattle.run_types.proofs.pass_renewed_proof.Saving.{saved_beside}
use Rattle.run_types.specs.pass_renewed_proof.Beside.{IsBeside, place_in}
use Rattle.run_types.specs.pass_renewed_proof.Found.{AreFound}
use Rattle.run_types.specs.pass_renewed_proof.Making.{IsGiving, IsSaveOf, IsSuspendOf}

same_ok : {A : Type 0} {a b : A} → ◌≡◌ {A = Result A Cause} (Ok a) (Ok b) → a ≡ b
same_ok e = cc

abbrev kept_by : State → ℕ → Instance → Point → ℕ → State
kept_by s n y u depth = with_left (with_instance s n (record y {
  status = Status.Suspended u s.top.values;
  last_save = Some (record { depth = depth; save = place_in s.top });
})) true

module _ (c : Setting) (x : Here c) where
  not_left : (i : Instr) → fetch (function_at c.code x.s.top.func) x.s.top.block x.s.top.at ≡ AtInstr i
      → is_call_of Intrinsic.CoroEnd i ≡ false → (IsWaiting (function_at c.code x.s.top.func) (point_in x.s.top) → ⊥)
      → (IsAfterEnd (function_at c.code x.s.top.func) (point_in x.s.top) → ⊥) → x.s.top.has_left ≡ false
  not_left i here none waits after = on x.s.top.has_left refl
    where
      away : IsAway (function_at c.code x.s.top.func) (point_in x.s.top) ⊎ (IsBehind (function_at c.code x.s.top.func)
          (point_in x.s.top) × IsClear (function_at c.code x.s.top.func) (point_in x.s.top)) → ⊥
      away (inl (Waits w)) = waits w
      away (inl (AtEnd s is block at call)) = no_call c.code (function_at c.code x.s.top.func) (c.flags x.s.top.func)
          (c.roots x.s.top.func) (keeps c x x.s.top.func) (point_in x.s.top) i here Intrinsic.CoroEnd none call
      away (inl (Behind s is a)) = after a
      away (inr (b, clear)) = no_switch c.code (function_at c.code x.s.top.func) (c.flags x.s.top.func) (c.roots
          x.s.top.func) (keeps c x x.s.top.func) (point_in x.s.top) i here (record {
            before = b.suspend.at;
            next = ap (λ (z : Point). z.at) b.next;
            is_suspend = subst (λ k. IsCallAt Intrinsic.CoroSuspend (function_at c.code x.s.top.func) (record {
              block = k;
              at = b.suspend.at;
            })) (sym (ap (λ (z : Point). z.block) b.next)) b.is_suspend;
          })

      on : (u : Bool) → x.s.top.has_left ≡ u → x.s.top.has_left ≡ false
      on true e = absurd (away (x.run.placed.top.away e))
      on false e = e

  -- ---- what is kept

  record IsSaving (u : Point) (s' : State) : Type 0 where
    number : ℕ
    first : Instance
    second : Instance
    own : x.s.top.instance ≡ Some number
    there : slice_get x.s.instances number ≡ Some first
    there' : slice_get x.t.instances number ≡ Some second
    kept : first.freed ≡ false
    is : kept_by x.s number first u (length x.s.below) ≡ s'
    goes : save_for (other c x) (place_in x.s.top) u ≡ Ok (kept_by (other c x) number second u (length x.s.below))

  saving : (u : Point) (s' : State) → save_for x.s (place_in x.s.top) u ≡ Ok s' → IsSaving u s'
  saving u s' e = on (own_instance x.s) refl e
    where
      by : (n : ℕ) (y : Instance) → own_instance x.s ≡ Some (n, y) → (b : Bool) → y.freed ≡ b → ok_if (not b) Cause.State
          (kept_by x.s n y u (length x.s.below)) ≡ Ok s' → IsSaving u s'
      by n y own true freed k = let z : ◌≡◌ {A = Result State Cause} (Err Cause.State) (Ok s') = k in absurd (cc)
      by n y own false freed k =
          let f : AreFound c.code c.flags c.roots x.beside.ledger x.s.world.memory (Some (n, y)) (own_instance (other c x)) =
          subst (λ o. AreFound c.code c.flags c.roots x.beside.ledger x.s.world.memory o (own_instance (other c x))) own
          (own_beside c.code c.flags c.roots x.s (other c x) x.beside) in
          let ours = own_is x.s (n, y) own in
          let theirs = own_is (other c x) (n, f.0) f.1 in
          let many : length x.t.below ≡ length x.s.below = as_many c.code c.flags c.roots x.beside.ledger x.s.world.memory
          x.s.instances x.t.world.memory x.s.top.result x.s.below x.t.below x.beside.below in
          let live : f.0.freed ≡ false = ap (λ (z : Instance). z.freed) f.2.is ∙ freed in
          record {
            number = n;
            first = y;
            second = f.0;
            own = ours.0;
            there = ours.1;
            there' = theirs.1;
            kept = freed;
            is = same_ok k;
            goes = ap (λ o. and_then (found Cause.State o) (λ (r : ℕ × Instance). ok_if (not r.1.freed) Cause.State (kept_by
                (other c x) r.0 r.1 u (length x.t.below)))) f.1 ∙ ap (λ b. ok_if (not b) Cause.State (kept_by (other c x) n
                f.0 u (length x.t.below))) live ∙ ap (λ d. Ok (kept_by (other c x) n f.0 u d)) many;
          }

      on : (o : Option (ℕ × Instance)) → own_instance x.s ≡ o → and_then (found Cause.State o) (λ (r : ℕ × Instance). ok_if
          (not r.1.freed) Cause.State (kept_by x.s r.0 r.1 u (length x.s.below))) ≡ Ok s' → IsSaving u s'
      on None own k = let z : ◌≡◌ {A = Result State Cause} (Err Cause.State) (Ok s') = k in absurd (cc)
      on (Some r) own k = by r.0 r.1 own r.1.freed refl k

  module _ (result : Option ℕ) (must_tail : Bool) (ty : Option Ty) (args : List Arg) where
    abbrev instr : Intrinsic → Instr
    instr j = Instr.Call result must_tail ty (Callee.Intrinsic j) args

    abbrev Stands : Intrinsic → Type 0
    Stands j = fetch (function_at c.code x.s.top.func) x.s.top.block x.s.top.at ≡ AtInstr (instr j)

    call_here : (j : Intrinsic) → Stands j → is_call_of j (instr j) ≡ true → IsCallAt j (function_at c.code x.s.top.func)
        (point_in x.s.top)
    call_here j here is = record { instr = instr j; stands = here; is = is }

    save_stays : Stands Intrinsic.CoroSave → x.s.top.has_left ≡ false
    save_stays here = not_left (instr Intrinsic.CoroSave) here refl (λ w. waits w w.within) (λ after. (keeps c x
        x.s.top.func).no_save (point_in x.s.top) after (call_here Intrinsic.CoroSave here refl))
      where
        waits : (w : IsWaiting (function_at c.code x.s.top.func) (point_in x.s.top)) → (point_in x.s.top ≡ w.suspend) ⊎
            IsInWindow (function_at c.code x.s.top.func) w.save w.suspend (point_in x.s.top) → ⊥
        waits w (inl e) = no_call c.code (function_at c.code x.s.top.func) (c.flags x.s.top.func) (c.roots x.s.top.func)
            (keeps c x x.s.top.func) (point_in x.s.top) (instr Intrinsic.CoroSave) here Intrinsic.CoroSuspend refl (subst
            (IsCallAt Intrinsic.CoroSuspend (function_at c.code x.s.top.func)) (sym e) (suspend_is_suspend (function_at c.code
            x.s.top.func) w.save w.suspend w.pair.takes))
        waits w (inr k) = (x.all.places x.s.top.func).no_save w.save w.suspend (point_in x.s.top) w.pair k (call_here
            Intrinsic.CoroSave here refl)

    pub save_case : IsCase c x (AtInstr (instr Intrinsic.CoroSave))
    save_case here after acts = on (suspend_of (function_at c.code x.s.top.func) (place_in x.s.top)) refl acts
      where
        saved : (u : Point) → suspend_of (function_at c.code x.s.top.func) (place_in x.s.top) ≡ Some u → (s' : State)
            → IsSaving u s' → next s' ≡ after → IsOneStep (second_given c) (other c x) (AtInstr (instr
            Intrinsic.CoroSave)) (first_given c) after
        saved u takes s' k done =
            let is : IsSaveOf c.code x.s.top (instr Intrinsic.CoroSave) u = record {
              place = ordinary c.code (function_at c.code x.s.top.func) (c.flags x.s.top.func) (c.roots x.s.top.func) (keeps c x
                  x.s.top.func) (place_in x.s.top) (instr Intrinsic.CoroSave) here refl refl;
              here = here;
              is = refl;
              takes = takes;
              stays = save_stays here;
            } in
            let r = saved_beside c.code c.flags c.roots (keeps c x) x.s (other c x) x.beside u (save_saves c.code c.flags c.roots
            (keeps c x) x.s.top (instr Intrinsic.CoroSave) u is) None Value.Poison (record {
              no_part = λ v slot root given. absurd (cc);
              others = λ v other given. absurd (cc);
            }) tt k.number k.first k.second k.own k.there k.there' (own_coroutine c x k.number k.first k.own k.there) k.kept
            (none_below c x) in
            record {
              other = next (kept_by (other c x) k.number k.second u (length x.s.below));
              goes = ap (λ o. and_then (found Cause.State o) (λ u. and_then (save_for (other c x) (place_in x.s.top) u) (λ s. Ok
                  (next s)))) takes ∙ ap (λ z. and_then z (λ (s : State). Ok (next s))) k.goes;
              related = Goes (subst (λ z. IsBeside c.code c.flags c.roots z (next (kept_by (other c x) k.number k.second u
                  (length x.s.below)))) (ap next k.is ∙ done) r);
            }

        keeps_it : (u : Point) → suspend_of (function_at c.code x.s.top.func) (place_in x.s.top) ≡ Some u → (r : Result State
            Cause) → save_for x.s (place_in x.s.top) u ≡ r → and_then r (λ s. Ok (next s)) ≡ Ok after → IsOneStep
            (second_given c) (other c x) (AtInstr (instr Intrinsic.CoroSave)) (first_given c) after
        keeps_it u takes (Err cause) e k = let z : ◌≡◌ {A = Result State Cause} (Err cause) (Ok after) = k in absurd (cc)
        keeps_it u takes (Ok s') e k = saved u takes s' (saving u s' e) (same_ok k)

        on : (o : Option Point) → suspend_of (function_at c.code x.s.top.func) (place_in x.s.top) ≡ o → and_then (found
            Cause.State o) (λ u. and_then (save_for x.s (place_in x.s.top) u) (λ s. Ok (next s))) ≡ Ok after → IsOneStep
            (second_given c) (other c x) (AtInstr (instr Intrinsic.CoroSave)) (first_given c) after
        on None takes k = let z : ◌≡◌ {A = Result State Cause} (Err Cause.State) (Ok after) = k in absurd (cc)
        on (Some u) takes k = keeps_it u takes (save_for x.s (place_in x.s.top) u) refl k

    -- ---- suspends

    suspend_giving : Stands Intrinsic.CoroSuspend → IsGiving c.code c.roots x.s.top (instr Intrinsic.CoroSuspend) result
    suspend_giving here = giving_call c.code c.flags c.roots x.s.top (keeps c x x.s.top.func) result must_tail ty
        (Callee.Intrinsic Intrinsic.CoroSuspend) args here refl refl refl

    suspend_stays : Stands Intrinsic.CoroSuspend → operand_at args 0 ≡ Operand.None → x.s.top.has_left ≡ false
    suspend_stays here none = not_left (instr Intrinsic.CoroSuspend) here refl (λ w. waits w w.within) (λ after. (keeps c x
        x.s.top.func).no_suspend (point_in x.s.top) after (call_here Intrinsic.CoroSuspend here refl))
      where
        waits : (w : IsWaiting (function_at c.code x.s.top.func) (point_in x.s.top)) → (point_in x.s.top ≡ w.suspend) ⊎
            IsInWindow (function_at c.code x.s.top.func) w.save w.suspend (point_in x.s.top) → ⊥
        waits w (inl e) = token_there (function_at c.code x.s.top.func) w.save (point_in x.s.top) (w.pair.takes ∙ ap Some (sym
            e)) (instr Intrinsic.CoroSuspend) here none
        waits w (inr k) = (x.all.places x.s.top.func).no_suspend_in w.save w.suspend (point_in x.s.top) w.pair k
            (call_here Intrinsic.CoroSuspend here refl)

    abbrev stop : Value
    stop = integer 8 (negsuc 0)

    by_token : Stands Intrinsic.CoroSuspend → (after : State) → (o : Operand) → ((s : State) → save_before s o ≡ Ok s)
        → operand_at args 0 ≡ o → and_then (save_before x.s o) (λ s. Ok (gives s result stop)) ≡ Ok after → IsOneStep
        (second_given c) (other c x) (AtInstr (instr Intrinsic.CoroSuspend)) (first_given c) after
    by_token here after o passes e k = record {
      other = gives (other c x) result stop;
      goes = ap (suspend (other c x) result) e ∙ ap (λ z. and_then z (λ s. Ok (gives s result stop))) (passes (other c x));
      related = Goes (subst (λ z. IsBeside c.code c.flags c.roots z (gives (other c x) result stop)) (same_ok (sym (ap (λ z.
          and_then z (λ s. Ok (gives s result stop))) (passes x.s)) ∙ k)) (gives_beside c.code c.flags c.roots (keeps c x)
          x.s (other c x) x.beside (instr Intrinsic.CoroSuspend) result (suspend_giving here) stop stop refl));
    }

    by_itself : Stands Intrinsic.CoroSuspend → (after : State) → operand_at args 0 ≡ Operand.None → (r : Result State Cause)
        → save_for x.s (place_in x.s.top) (place_in x.s.top) ≡ r → and_then r (λ s. Ok (gives s result stop)) ≡ Ok after
        → IsOneStep (second_given c) (other c x) (AtInstr (instr Intrinsic.CoroSuspend)) (first_given c) after
    by_itself here after none (Err cause) e k = let z : ◌≡◌ {A = Result State Cause} (Err cause) (Ok after) = k in absurd (cc)
    by_itself here after none (Ok s') e k =
        let h = saving (place_in x.s.top) s' e in
        let is : IsSuspendOf c.code c.roots x.s.top (instr Intrinsic.CoroSuspend) result = record {
          giving = suspend_giving here;
          is = refl;
          stays = suspend_stays here none;
        } in
        let u = place_in x.s.top in
        let r = saved_beside c.code c.flags c.roots (keeps c x) x.s (other c x) x.beside u (suspend_saves c.code c.flags c.roots
        (keeps c x) x.s.top (instr Intrinsic.CoroSuspend) result is) result stop (record {
          no_part = is.giving.no_part;
          others = λ v other given. absurd (is.giving.no_alloca v other.made given);
        }) refl h.number h.first h.second h.own h.there h.there' (own_coroutine c x h.number h.first h.own h.there) h.kept
        (none_below c x) in
        let v = gives (kept_by (other c x) h.number h.second u (length x.s.below)) result stop in
        record {
          other = v;
          goes = ap (suspend (other c x) result) none ∙ ap (λ z. and_then z (λ s. Ok (gives s result stop))) h.goes;
          related = Goes (subst (λ z. IsBeside c.code c.flags c.roots z v) (ap (λ z. gives z result stop) h.is ∙ same_ok k)
              r);
        }

    pub suspend_case : IsCase c x (AtInstr (instr Intrinsic.CoroSuspend))
    suspend_case here after acts = on (operand_at args 0) refl (acts)
      where
        on : (o : Operand) → operand_at args 0 ≡ o → and_then (save_before x.s o) (λ s. Ok (gives s result stop)) ≡ Ok after
            → IsOneStep (second_given c) (other c x) (AtInstr (instr Intrinsic.CoroSuspend)) (first_given c) after
        on Operand.None e k = by_itself here after e (save_for x.s (place_in x.s.top) (place_in x.s.top)) refl k
        on (Operand.Local v) e k = by_token here after _ (λ s. refl) e k
        on (Operand.Global n) e k = by_token here after _ (λ s. refl) e k
        on (Operand.Number n) e k = by_token here after _ (λ s. refl) e k
        on Operand.True e k = by_token here after _ (λ s. refl) e k
        on Operand.False e k = by_token here after _ (λ s. refl) e k
        on Operand.Null e k = by_token here after _ (λ s. refl) e k
        on Operand.Poison e k = by_token here after _ (λ s. refl) e k
