-- So does the end.
use Rattle.std.proofs.Common.{◌≡◌, inl, ℕ, Bool, true, false, List, Option, Some, None, Result, refl, sym, ap, ◌∙◌}
use Rattle.std.proofs.Common.{subst}
use Rattle.std.specs.Prelude.{if◌then◌else◌, slice_get, ◌||◌}
use Rattle.pass_renewed_proof.specs.ir_base.declared.cause.Cause.{Cause}
use Rattle.pass_renewed_proof.specs.ir_model.Names.{function_at}
use Rattle.pass_renewed_proof.specs.ir_model.declared.instr.Instr.{Instr}
use Rattle.pass_renewed_proof.specs.ir_model.declared.module.Function.{Function}
use Rattle.pass_renewed_proof.specs.ir_model.declared.module.Module.{Module}
use Rattle.pass_renewed_proof.specs.ir_model.declared.operand.Intrinsic.{Intrinsic}
use Rattle.pass_renewed_proof.specs.ir_paths.Windows.{is_call_of}
use Rattle.pass_renewed_proof.specs.ir_paths.declared.point.Point.{Point}
use Rattle.pass_renewed_proof.specs.pass_kept_proof.SuspendRules.{IsCallAt}
use Rattle.pass_renewed_proof.specs.SlotRules.{IsMadeOnce}
use Rattle.run_hooks.proofs.alive.Acts.{past_end, return_alive}
use Rattle.run_hooks.proofs.alive.Behind.{IsInOrder}
use Rattle.run_hooks.proofs.alive.Lives.{without_fewer}
use Rattle.run_hooks.proofs.alive.Parts.{Here, IsSet, Other, get_set}
use Rattle.run_hooks.proofs.alive.Places.{own_there, with_fewer}
use Rattle.run_hooks.proofs.alive.Statuses.{finished_alive, without_gone}
use Rattle.run_hooks.specs.Away.{point_in}
use Rattle.run_hooks.specs.alive.Alive.{IsAliveState, KeepsAliveRules, StaysAlive}
use Rattle.pass_renewed_proof.specs.run_source.Source.{after_end, end_of, finish, change_own, slots_of}
use Rattle.pass_renewed_proof.specs.run_source.State.{function_of, gives, is_finished, is_suspended, own_facts, own_instance}
use Rattle.pass_renewed_proof.specs.run_source.State.{with_instance, with_memory}
use Rattle.pass_renewed_proof.specs.run_source.declared.state.Instance.{Instance}
use Rattle.pass_renewed_proof.specs.run_source.declared.state.Mode.{Mode}
use Rattle.pass_renewed_proof.specs.run_source.declared.state.State.{State}
use Rattle.pass_renewed_proof.specs.run_source.declared.state.Status.{Status}
use Rattle.pass_renewed_proof.specs.run_source_tables.Given.{Given}
use Rattle.pass_renewed_proof.specs.run_step.Step.{AtInstr, Fetched, fetch, without_slots}
use Rattle.pass_renewed_proof.specs.run_step.Values.{Env, truth_value}
use Rattle.run_hooks.proofs.alive.Like.{like, set_like, own_is_there}
use Rattle.run_hooks.proofs.alive.Now.{IsNow, own_rules, ordered, stays_here, at_point}

module _ {g : Given} {counts : ℕ → ℕ → Bool} {hand : ℕ → Point → Env → Env} {s : State}
    (start : IsNow g counts hand s) where
  abbrev m : Module
  m = g.code

  abbrev f : Function
  f = function_of g s

  abbrev p : Point
  p = point_in s.top

  abbrev here : Fetched
  here = fetch f s.top.block s.top.at

  abbrev ramp : List ℕ
  ramp = (own_facts g s).ramp_slots

  abbrev h : IsAliveState g.code counts s
  h = start.alive

  abbrev Fine : Result State Cause → Type 0
  Fine r = StaysAlive g.code counts r

  module _ (i : Instr) (stands : here ≡ AtInstr i) where
    pub end_fine : is_call_of Intrinsic.CoroEnd i ≡ true → is_call_of Intrinsic.LifetimeEnd i ≡ false
        → (result : Option ℕ) → ((u : ℕ) → IsMadeOnce f u → result ≡ Some u → ⊥) → Fine (end_of s finish result)
    end_fine is no_mark result apart = on s.top.has_left refl
      where
        -- a state in which the instance of one that hasn't left is Finished
        by : (t : State) (alive : IsAliveState m counts t) → IsInOrder t → t.top.func ≡ s.top.func
            → t.top.block ≡ s.top.block → t.top.at ≡ s.top.at → (mode : Mode) → t.top.mode ≡ mode
            → ((from label : ℕ) → mode ≡ Mode.Entering from label → ⊥)
            → ((j : ℕ) (x : Instance) → t.top.instance ≡ Some j → slice_get t.instances j ≡ Some x
            → t.top.has_left ≡ false → is_finished x.status ≡ true) → Fine (after_end t result mode)
        by t alive o ef eb ea Mode.Resumed em never fin = return_alive m counts t alive o.lower
            (λ j x ej ex left run kept. let no : false ≡ true = sym (ap is_finished run) ∙ fin j x ej ex left
            in absurd (cc))
            None
        by t alive o ef eb ea mode em never fin = passes mode em never
          where
            stands_t : fetch (function_at m t.top.func) t.top.block t.top.at ≡ AtInstr i
            stands_t = (λ j. fetch (function_at m (ef j)) (eb j) (ea j)) ∙ stands

            passes : (mode : Mode) → t.top.mode ≡ mode → ((from label : ℕ) → mode ≡ Mode.Entering from label → ⊥)
                → IsAliveState m counts (gives t result (truth_value false))
            passes mode em never = past_end m counts t alive o ramp
                (subst (λ (c : ℕ). KeepsAliveRules (function_at m c) ramp) (sym ef) (own_rules start))
                (λ from label e. never from label (sym em ∙ e)) i stands_t is no_mark
                (λ j x ej ex left. ap (λ (b : Bool). b || x.freed) (fin j x ej ex left)) result
                (truth_value false) (λ u made e. apart u (subst (λ (c : ℕ). IsMadeOnce (function_at m c) u) ef made) e)

        on : (b : Bool) → s.top.has_left ≡ b → Fine (after_end (if b then s else finish s) result s.top.mode)
        on true left = by s h (ordered start) refl refl refl s.top.mode refl (stays_here start)
            (λ j x ej ex stays. let no : true ≡ false = sym left ∙ stays in absurd (cc))
        on false left = finishing (own_instance s) refl
          where
            c : IsCallAt Intrinsic.CoroEnd f p
            c = record { instr = i; stands = stands; is = is }

            finishing : (o : Option (ℕ × Instance)) → own_instance s ≡ o
                → Fine (after_end (with_memory (change_own s (λ x. record x { status = Status.Finished }) o)
                (without_slots s.world.memory (slots_of o))) result s.top.mode)
            finishing None eo = by s h (ordered start) refl refl refl s.top.mode refl (stays_here start)
                (λ j x ej ex stays. let no : None ≡ Some (j, x) = sym eo ∙ own_is_there s j x ej ex in absurd (cc))
            finishing (Some q) eo =
                let r = own_there s q.0 q.1 eo in
                by (with_instance one q.0 y) (finished_alive m counts one dead ordered_one q.0 q.1 r.0 r.1
                (inl (subst (IsCallAt Intrinsic.CoroEnd f) (sym (at_point start)) c))
                (without_gone s.world.memory q.1.slots))
                (like s (ordered start) (with_instance one q.0 y) refl refl refl
                (set_like s.instances q.0 q.1 y r.1 refl)
                (λ j z ej ez stays. awake q.0 q.1 r.0 r.1 j z ej (get_set s.instances q.0 y j z ez))) refl refl refl
                s.top.mode refl (stays_here start)
                (λ j z ej ez stays. over q.0 q.1 r.0 j z ej (get_set s.instances q.0 y j z ez))
              where
                y : Instance
                y = record q.1 { status = Status.Finished }

                one : State
                one = with_memory s (without_slots s.world.memory q.1.slots)

                dead : IsAliveState m counts (with_memory s (without_slots s.world.memory q.1.slots))
                dead = with_fewer m counts s h (without_slots s.world.memory q.1.slots)
                    (without_fewer s.world.memory q.1.slots)

                ordered_one : IsInOrder (with_memory s (without_slots s.world.memory q.1.slots))
                ordered_one = like s (ordered start) (with_memory s (without_slots s.world.memory q.1.slots)) refl refl
                    refl
                    (λ j z ez. (z, ez, refl)) (ordered start).awake

                same : (n : ℕ) (x : Instance) → s.top.instance ≡ Some n → (j : ℕ) → s.top.instance ≡ Some j → j ≡ n
                same n x en j ej = let both : Some j ≡ Some n = sym ej ∙ en in cc

                awake : (n : ℕ) (x : Instance) → s.top.instance ≡ Some n → slice_get s.instances n ≡ Some x → (j : ℕ)
                    (z : Instance) → s.top.instance ≡ Some j
                    → IsSet s.instances n (record x { status = Status.Finished }) j z → is_suspended z.status ≡ false
                awake n x en ex j z ej (Here e w) = ap (λ (v : Instance). is_suspended v.status) w
                awake n x en ex j z ej (Other ne w) = absurd (ne (same n x en j ej))

                over : (n : ℕ) (x : Instance) → s.top.instance ≡ Some n → (j : ℕ) (z : Instance)
                    → s.top.instance ≡ Some j → IsSet s.instances n (record x { status = Status.Finished }) j z
                    → is_finished z.status ≡ true
                over n x en j z ej (Here e w) = ap (λ (v : Instance). is_finished v.status) w
                over n x en j z ej (Other ne w) = absurd (ne (same n x en j ej))
