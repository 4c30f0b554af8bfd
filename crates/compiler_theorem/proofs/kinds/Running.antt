-- Where a save stands at the place, the activation's instance runs.
use Rattle.std.proofs.Common.{◌≡◌, arith, inl, inr, ⊎_elim, ℕ, zero, suc, ◌+◌, Bool, true, false, List, [], ◌∷◌, Option, Some, refl, sym, ap, ◌∙◌, subst}
use Rattle.std.specs.Prelude.{All, map, slice_get}
use Rattle.compiler_theorem.proofs.narrow.Modules.{edged_steady}
use Rattle.compiler_theorem.proofs.theorem.Slots.{split_slots}
use Rattle.compiler_theorem.specs.theorem.Anew.{Anew, IsAnewOf}
use Rattle.compiler_theorem.specs.theorem.Entries.{Run}
use Rattle.compiler_theorem.specs.theorem.Lowered.{HasFewBytes, IsLowered, Lowered, early, edged, sizes_of}
use Rattle.compiler.specs.ir_model.Names.{function_at}
use Rattle.compiler.specs.ir_model.Ty.{Ty}
use Rattle.compiler.specs.ir_model.declared.instr.Instr.{Instr}
use Rattle.compiler.specs.ir_model.declared.instr.Terminator.{Terminator}
use Rattle.compiler.specs.ir_model.declared.module.Function.{Function}
use Rattle.compiler.specs.ir_model.declared.module.Module.{Module}
use Rattle.compiler.specs.ir_model.declared.operand.Arg.{Arg}
use Rattle.compiler.specs.ir_model.declared.operand.Callee.{Callee}
use Rattle.compiler.specs.ir_model.declared.operand.Intrinsic.{Intrinsic}
use Rattle.compiler.specs.ir_paths.Windows.{is_call_of}
use Rattle.compiler.specs.ir_paths.declared.point.Point.{Point}
use Rattle.compiler.specs.ir_paths.declared.point.Window.{Window}
use Rattle.compiler.specs.ir_paths.Facts.{IsWindow}
use Rattle.compiler.proofs.pass_kept_proof.Rules.{suspend_is_suspend}
use Rattle.compiler.specs.pass_kept_proof.Kept.{continue_keeping}
use Rattle.compiler.specs.pass_kept_proof.SuspendRules.{IsCallAt}
use Rattle.pass_frames_meaning.proofs.pass_renewed_meaning.Tables.{same_windows}
use Rattle.pass_frames_meaning.specs.pass_renewed_proof.Beside.{AreInstancesBeside, IsBeside, IsInstanceBeside, IsStatusBeside}
use Rattle.pass_frames_meaning.specs.pass_renewed_proof.Ledger.{Ledger}
use Rattle.pass_frames_meaning.specs.pass_renewed_proof.Renewed.{Flags, RenewedGiven, Roots, renewed_step}
use Rattle.pass_frames_meaning.specs.pass_renewed_proof.SlotRules.{KeepsAllSlots}
use Rattle.run_accepted.proofs.Accepted.{edged_alive, edged_places, edged_switches}
use Rattle.pass_frames_meaning.proofs.run_hooks.Keeping.{renewed_keeps}
use Rattle.pass_frames_meaning.proofs.run_hooks.Left.{sleeps_at, states_last}
use Rattle.pass_frames_meaning.proofs.run_hooks.LeftKeeping.{renewed_keeps_last}
use Rattle.pass_frames_meaning.proofs.run_hooks.PlacedKeeping.{renewed_keeps_placed}
use Rattle.pass_frames_meaning.proofs.run_hooks.PlacedSteps.{states_placed}
use Rattle.pass_frames_meaning.proofs.run_hooks.Steps.{renewed_steps, same_runs}
use Rattle.pass_frames_meaning.proofs.run_hooks.alive.Runs.{kept_alive}
use Rattle.pass_frames_meaning.specs.run_hooks.Away.{AtEnd, Behind, IsAway, IsBehind, IsPlacedState, KeepsAllPlaceRules, Waits, spot_by, spot_of}
use Rattle.pass_frames_meaning.specs.run_hooks.Hooks.{step_of}
use Rattle.pass_frames_meaning.specs.run_hooks.Left.{IsLastState}
use Rattle.pass_frames_meaning.specs.run_hooks.Meanings.{renewed_hooks}
use Rattle.pass_frames_meaning.specs.run_hooks.Reached.{AllHaveSwitches}
use Rattle.pass_frames_meaning.specs.run_hooks.alive.Alive.{IsAliveState, IsEnded}
use Rattle.compiler.specs.run_memory.declared.block.MemoryBlock.{MemoryBlock}
use Rattle.compiler.specs.run_source.Source.{first_state, given, step_by}
use Rattle.compiler.specs.run_source.State.{is_finished, is_suspended}
use Rattle.compiler.specs.run_source.declared.state.Activation.{Activation}
use Rattle.compiler.specs.run_source.declared.state.Instance.{Instance}
use Rattle.compiler.specs.run_source.declared.state.Mode.{Mode}
use Rattle.compiler.specs.run_source.declared.state.State.{State}
use Rattle.compiler.specs.run_source.declared.state.Status.{Status}
use Rattle.compiler.specs.run_source_tables.Given.{Given}
use Rattle.compiler.specs.run_step.Runs.{iterate}
use Rattle.compiler.specs.run_step.Step.{AtInstr, AtTerm, fetch}
use Rattle.compiler_theorem.specs.theorem.Between.{renewing}

-- ---- the instance of the run before

pub record HasBeside (m : Module) (flags : Flags) (roots : Roots) (l : Ledger) (memory : List MemoryBlock) (k i : ℕ)
    (xs : List Instance) (y : Instance) : Type 0 where
  pub instance : Instance
  pub there : slice_get xs i ≡ Some instance
  pub beside : IsInstanceBeside m flags roots l memory (k + i) instance y

beside_at : (m : Module) (flags : Flags) (roots : Roots) (l : Ledger) (memory : List MemoryBlock) (k i : ℕ)
    (xs ys : List Instance) → AreInstancesBeside m flags roots l memory k xs ys → (y : Instance)
    → slice_get ys i ≡ Some y → HasBeside m flags roots l memory k i xs y
beside_at m flags roots l memory k i [] [] h y e = absurd (cc)
beside_at m flags roots l memory k i [] (z ∷ ys) h y e = absurd h
beside_at m flags roots l memory k i (x ∷ xs) [] h y e = absurd h
beside_at m flags roots l memory k zero (x ∷ xs) (z ∷ ys) h y e =
    let same : z ≡ y = cc in
    let here : k ≡ k + 0 = omega arith in
    record {
      instance = x;
      there = refl;
      beside = subst (λ (q : ℕ). IsInstanceBeside m flags roots l memory q x y) here
          (subst (IsInstanceBeside m flags roots l memory k x) same h.0);
    }
beside_at m flags roots l memory k (suc i) (x ∷ xs) (z ∷ ys) h y e =
    let r = beside_at m flags roots l memory (k + 1) i xs ys h.1 y e in
    let next : k + 1 + i ≡ k + suc i = omega arith in
    record {
      instance = r.instance;
      there = r.there;
      beside = subst (λ (q : ℕ). IsInstanceBeside m flags roots l memory q r.instance y) next r.beside;
    }

finished_beside : (m : Module) (flags : Flags) (roots : Roots) (l : Ledger) (memory : List MemoryBlock) (x : Instance)
    (p q : Status) → IsStatusBeside m flags roots l memory x p q → q ≡ Status.Finished → is_finished p ≡ true
finished_beside m flags roots l memory x Status.Running q h e =
    let no : Status.Running ≡ Status.Finished = sym h ∙ e in absurd (cc)
finished_beside m flags roots l memory x (Status.Suspended s env) q h e =
    let no : Status.Suspended s h.0 ≡ Status.Finished = sym h.1 ∙ e in absurd (cc)
finished_beside m flags roots l memory x Status.Finished q h e = refl

status_runs : (t : Status) → is_suspended t ≡ false → (t ≡ Status.Finished → ⊥) → t ≡ Status.Running
status_runs Status.Running e none = refl
status_runs (Status.Suspended s env) e none = absurd (cc)
status_runs Status.Finished e none = absurd (none refl)

module _ (l : Lowered) (low : IsLowered l) (few : HasFewBytes l) (a : Anew) (anew : IsAnewOf (early l) a) (r : Run)
    (n k : ℕ) where
  abbrev g : RenewedGiven
  g = renewing l a r

  abbrev g0 : Given
  g0 = given (edged l) (sizes_of l) r.answers

  abbrev s : State
  s = iterate (renewed_step g) n (first_state (edged l) r.entry r.args)

  abbrev v : State
  v = iterate (step_by g0 (continue_keeping g0 a.keep)) k (first_state (edged l) r.entry r.args)

  switches : AllHaveSwitches (edged l)
  switches = edged_switches l.text l.source low.source.stands low.source.accepted

  old_places : KeepsAllPlaceRules g0
  old_places = edged_places l.text l.source low.source.stands low.source.accepted (sizes_of l) r.answers

  places : KeepsAllPlaceRules g.given
  places = record {
    each = old_places.each;
    saves = λ func. ap (map (λ w. (w.save, w.suspend))) (same_windows (edged l) a.flags func)
        ∙ old_places.saves func;
    windows = λ func. subst (λ (ws : List Window). All (IsWindow (function_at (edged l) func)) ws)
        (sym (same_windows (edged l) a.flags func)) (old_places.windows func);
  }

  slots : KeepsAllSlots (edged l) a.keep a.flags a.roots
  slots = split_slots l low a anew (edged_steady l low few)

  last : IsLastState s
  last =
      subst IsLastState
      (sym (same_runs (renewed_step g) (step_of (renewed_hooks g)) (renewed_steps g) n
      (first_state (edged l) r.entry r.args)))
      (states_last (renewed_hooks g) (renewed_keeps_last g) r.entry r.args n)

  placed : IsPlacedState (renewed_hooks g) s
  placed =
      subst (IsPlacedState (renewed_hooks g))
      (sym (same_runs (renewed_step g) (step_of (renewed_hooks g)) (renewed_steps g) n
      (first_state (edged l) r.entry r.args)))
      (states_placed (renewed_hooks g) switches (renewed_keeps g) places (renewed_keeps_placed g) r.entry r.args n)

  abbrev none : ℕ → ℕ → Bool
  none func w = false

  alive : IsAliveState (edged l) none v
  alive = kept_alive g0 a.keep none (λ func u w suspend counted. absurd (no_count func w counted)) r.entry r.args k
      (edged_alive l.text l.source low.source.stands low.source.accepted (sizes_of l) r.answers) old_places switches
    where
      no_count : (func w : ℕ) → none func w ≡ true → ⊥
      no_count func w e = cc

  module _ (beside : IsBeside (edged l) a.flags a.roots v s) (result : Option ℕ) (must_tail : Bool) (ty : Option Ty)
      (args : List Arg)
      (save : fetch (function_at (edged l) s.top.func) s.top.block s.top.at
      ≡ AtInstr (Instr.Call result must_tail ty (Callee.Intrinsic Intrinsic.CoroSave) args)) where
    abbrev f : Function
    f = function_at (edged l) s.top.func

    abbrev p : Point
    p = record { block = s.top.block; at = s.top.at }

    abbrev instr : Instr
    instr = Instr.Call result must_tail ty (Callee.Intrinsic Intrinsic.CoroSave) args

    call : IsCallAt Intrinsic.CoroSave f p
    call = record { instr = instr; stands = save; is = refl }

    not_other : (x : Intrinsic) → is_call_of x instr ≡ false → IsCallAt x f p → ⊥
    not_other x other c =
        let both : AtInstr c.instr ≡ AtInstr instr = sym c.stands ∙ save in
        let same : c.instr ≡ instr = cc in
        let no : true ≡ false = sym c.is ∙ ap (is_call_of x) same ∙ other in
        absurd (cc)

    not_away : IsAway f p → ⊥
    not_away (Waits w) = ⊎_elim
        (λ same. not_other Intrinsic.CoroSuspend refl
        (subst (IsCallAt Intrinsic.CoroSuspend f) (sym same) (suspend_is_suspend f w.save w.suspend w.pair.takes)))
        (λ inside. (old_places.each s.top.func).no_save w.save w.suspend p w.pair inside call)
        w.within
    not_away (AtEnd u c block at e) = not_other Intrinsic.CoroEnd refl e
    not_away (Behind u c after) = (slots.each s.top.func).no_save p after call

    not_behind : IsBehind f p → ⊥
    not_behind b =
        let stop = (old_places.each s.top.func).stops b.suspend b.is_suspend in
        let both : AtTerm (Terminator.Switch stop.arg stop.default stop.cases) ≡ AtInstr instr =
        sym stop.stands ∙ sym (ap (λ (q : Point). fetch f q.block q.at) b.next) ∙ save in
        absurd (cc)

    stays : s.top.has_left ≡ false
    stays = on s.top.has_left refl
      where
        on : (b : Bool) → s.top.has_left ≡ b → b ≡ false
        on false e = refl
        on true e = absurd (⊎_elim (λ away. not_away away) (λ z. not_behind z.0) (placed.top.away e))

    -- ---- the activation of the run before

    same_func : s.top.func ≡ v.top.func
    same_func = ap (λ (c : Activation). c.func) beside.top.is

    spot_is : spot_of (function_at (edged l) v.top.func) v.top ≡ p
    spot_is = ⊎_elim (λ e. plain e)
        (λ rest. ⊎_elim (λ e. ramp e) (λ e. resumed e) rest) beside.top.modes
      where
        abbrev_at : p ≡ record { block = v.top.block; at = v.top.at }
        abbrev_at = ap (λ (c : Activation). record { block = c.block; at = c.at }) beside.top.is

        plain : v.top.mode ≡ Mode.Plain → spot_of (function_at (edged l) v.top.func) v.top ≡ p
        plain e =
            ap (λ (m : Mode). spot_by (function_at (edged l) v.top.func) m
            (record { block = v.top.block; at = v.top.at })) e ∙ sym abbrev_at

        ramp : v.top.mode ≡ Mode.Ramp → spot_of (function_at (edged l) v.top.func) v.top ≡ p
        ramp e =
            ap (λ (m : Mode). spot_by (function_at (edged l) v.top.func) m
            (record { block = v.top.block; at = v.top.at })) e ∙ sym abbrev_at

        resumed : v.top.mode ≡ Mode.Resumed → spot_of (function_at (edged l) v.top.func) v.top ≡ p
        resumed e =
            ap (λ (m : Mode). spot_by (function_at (edged l) v.top.func) m
            (record { block = v.top.block; at = v.top.at })) e ∙ sym abbrev_at

    not_ended : IsEnded f p → ⊥
    not_ended (inl c) = not_other Intrinsic.CoroEnd refl c
    not_ended (inr after) = (slots.each s.top.func).no_save p after call

    pub saves_running : (i : ℕ) (y : Instance) → s.top.instance ≡ Some i → slice_get s.instances i ≡ Some y
        → y.status ≡ Status.Running
    saves_running i y own there =
        status_runs y.status
        (sym (sleeps_at s.instances i y there) ∙ last.0.awake i own stays)
        finished
      where
        finished : y.status ≡ Status.Finished → ⊥
        finished e =
            let b = beside_at (edged l) a.flags a.roots beside.ledger v.world.memory 0 i v.instances s.instances
            beside.instances y there in
            let done : is_finished b.instance.status ≡ true =
            finished_beside (edged l) a.flags a.roots beside.ledger v.world.memory b.instance b.instance.status
            b.beside.status b.beside.statuses (sym (ap (λ (z : Instance). z.status) b.beside.is) ∙ e) in
            not_ended (subst (λ (q : ℕ × Point). IsEnded (function_at (edged l) q.0) q.1)
            (λ j. (sym same_func j, spot_is j))
            (alive.stack.0.ended i b.instance (sym (ap (λ (c : Activation). c.instance) beside.top.is) ∙ own) b.there
            (sym (ap (λ (c : Activation). c.has_left) beside.top.is) ∙ stays) done))
