-- Each step from a covered state of an accepted source is followed in its framed form, where what is left is known.
use Rattle.std.proofs.Common.{◌≡◌, ◌⊎◌, inl, inr, ◌||◌, ℕ, Bool, true, false, Option, refl, sym, ap, ◌∙◌, subst}
use Rattle.std.proofs.lemmas.Bool.{false≢true}
use Rattle.compiler_theorem.proofs.accesses.Known.{access_located}
use Rattle.compiler_theorem.proofs.apart.Begun.{begun_apart}
use Rattle.compiler_theorem.proofs.apart.EarlyHeld.{early_apart}
use Rattle.compiler_theorem.proofs.apart.EarlyOnce.{early_once}
use Rattle.compiler_theorem.proofs.apart.Behind.{saves_apart}
use Rattle.compiler_theorem.proofs.apart.Kept.{edged_is}
use Rattle.compiler_theorem.proofs.apart.Made.{made_apart}
use Rattle.compiler_theorem.proofs.apart.Started.{started_apart}
use Rattle.compiler_theorem.proofs.apart.Whole.{fields_apart}
use Rattle.compiler_theorem.proofs.ends.Asked.{edges_kept, ends_kept}
use Rattle.compiler_theorem.proofs.ends.Runs.{may_go_on, may_leave_edge}
use Rattle.compiler_theorem.proofs.kinds.Begins.{begins_in_ramp, none_begun, own_alloca}
use Rattle.compiler_theorem.proofs.kinds.Blank.{begun_blank}
use Rattle.compiler_theorem.proofs.kinds.Fits.{frame_fits}
use Rattle.compiler_theorem.proofs.kinds.FramedSlots.{framed_slots_own}
use Rattle.compiler_theorem.proofs.kinds.Running.{saves_running}
use Rattle.compiler_theorem.proofs.kinds.States.{first_beside, frame_named, ramp_beside}
use Rattle.compiler_theorem.proofs.kinds.Whole.{kinds_kept}
use Rattle.compiler_theorem.proofs.known.Framed.{frames_there}
use Rattle.compiler_theorem.proofs.known.InFrames.{marks_left}
use Rattle.compiler_theorem.proofs.known.Made.{poison_there, slots_made}
use Rattle.compiler_theorem.proofs.known.Once.{none_made, own_once, slots_once}
use Rattle.compiler_theorem.proofs.known.Resumed.{none_resumed}
use Rattle.compiler_theorem.proofs.known.Runs.{follow_known, led, pointing, sized, step_known, storables_known, unbegun}
use Rattle.compiler_theorem.proofs.known.Sources.{source_known}
use Rattle.compiler_theorem.proofs.known.Temporaries.{marked_temporaries}
use Rattle.compiler_theorem.proofs.made.Early.{early_made}
use Rattle.compiler_theorem.proofs.temporaries.Framed.{slots_led}
use Rattle.compiler_theorem.proofs.temporaries.Live.{has_live, temporaries_live}
use Rattle.compiler_theorem.proofs.theorem.Asked.{asked_kept}
use Rattle.compiler_theorem.proofs.theorem.Stepping.{called, fitting, other_slots, slots, sound}
use Rattle.compiler_theorem.proofs.woken.Entered.{coroutines_entered, slots_entered}
use Rattle.compiler_theorem.specs.known.Counts.{counts, own}
use Rattle.compiler_theorem.specs.known.Frames.{AreMarkersLeft}
use Rattle.compiler_theorem.specs.theorem.Anew.{Anew, IsAnewOf}
use Rattle.compiler_theorem.specs.theorem.Asked.{asking}
use Rattle.compiler_theorem.specs.theorem.Between.{renewing, setting}
use Rattle.compiler_theorem.specs.theorem.Built.{building}
use Rattle.compiler_theorem.specs.theorem.Entries.{IsEntryCall, Run}
use Rattle.compiler_theorem.specs.theorem.Lowered.{HasFewBytes, IsLowered, Lowered, early, edged, sizes_of}
use Rattle.compiler.specs.ir_base.declared.outcome.Outcome.{Outcome}
use Rattle.compiler.specs.ir_model.Names.{function_at}
use Rattle.compiler.specs.ir_model.Ty.{Ty}
use Rattle.compiler.specs.ir_model.declared.instr.Instr.{Instr}
use Rattle.compiler.specs.ir_model.declared.module.Function.{Function}
use Rattle.compiler.specs.ir_model.declared.module.Module.{Module}
use Rattle.compiler.specs.ir_model.declared.operand.Arg.{Arg}
use Rattle.pass_frames_meaning.proofs.coroutines.Functions.{all_followed}
use Rattle.pass_frames_meaning.proofs.ends.All.{ends_followed}
use Rattle.pass_frames_meaning.proofs.ends.Coming.{end_known}
use Rattle.pass_frames_meaning.proofs.ends.Suspends.{suspend_told}
use Rattle.pass_frames_meaning.proofs.kinds.Whole.{alloca_kinds, intrinsic_kinds, measured_kinds}
use Rattle.pass_frames_meaning.proofs.pointers.Storables.{storables}
use Rattle.pass_frames_meaning.specs.Blank.{IsBlankState}
use Rattle.pass_frames_meaning.specs.Coroutines.{AreCoroutinesReady, AreOthersFollowed, MayFollow}
use Rattle.pass_frames_meaning.proofs.pass_frames_proof.followed.Assembly.{other_instance}
use Rattle.pass_frames_meaning.specs.Covered.{AreCoveredStepsFollowed, IsCovered, Makes, Stands}
use Rattle.pass_frames_meaning.specs.Ends.{KeepsEnds, MayGoOn}
use Rattle.pass_frames_meaning.specs.Based.{IsOwnMode}
use Rattle.pass_frames_meaning.specs.Kinds.{KeepsKinds, MayKinds}
use Rattle.pass_frames_meaning.specs.Executed.{IsFirstMode}
use Rattle.pass_frames_meaning.specs.Setting.{AreOfRuns, KeepsAll, Setting}
use Rattle.pass_frames_meaning.specs.Spared.{AreFieldsApart}
use Rattle.pass_frames_meaning.specs.pass_frames_proof.Followed.{IsFollowed}
use Rattle.pass_frames_meaning.specs.pass_frames_proof.Marking.{marking}
use Rattle.pass_frames_meaning.specs.pass_frames_proof.Places.{Framing}
use Rattle.pass_frames_meaning.specs.pass_frames_proof.Related.{AreBuiltOf, is_coroutine}
use Rattle.pass_frames_meaning.specs.pass_frames_proof.Stepping.{IsNotEntering}
use Rattle.pass_frames_meaning.specs.pass_renewed_meaning.Followed.{IsEntering}
use Rattle.pass_frames_meaning.specs.pass_renewed_meaning.Offsets.{first_at}
use Rattle.pass_frames_meaning.specs.pass_renewed_meaning.Runs.{first_step}
use Rattle.pass_frames_meaning.specs.pass_renewed_proof.Beside.{IsBeside}
use Rattle.pass_frames_meaning.specs.pass_renewed_proof.Way.{IsResumedAt}
use Rattle.pass_frames_meaning.specs.pass_renewed_proof.Renewed.{Flags, Roots, renewed_step}
use Rattle.pass_frames_meaning.specs.pass_renewed_proof.Steps.{given_at}
use Rattle.run_accepted.proofs.Accepted.{edged_alive}
use Rattle.compiler.specs.run_agreement.Machines.{IsFine}
use Rattle.compiler.specs.run_framed.Framed.{framed_state_at}
use Rattle.compiler.specs.run_source.Source.{first_state, is_over}
use Rattle.compiler.specs.run_source.State.{function_of, is_finished}
use Rattle.compiler.specs.run_source.declared.state.Activation.{Activation}
use Rattle.compiler.specs.run_source.declared.state.Instance.{Instance}
use Rattle.compiler.specs.run_source.declared.state.Mode.{Mode}
use Rattle.compiler.specs.run_source.declared.state.State.{State}
use Rattle.compiler.specs.run_step.Runs.{iterate}
use Rattle.compiler.specs.run_step.Step.{AtInstr, fetch}

-- ---- a state that makes slots anew

not_both : (mode : Mode) → IsEntering mode → IsNotEntering mode → ⊥
not_both (Mode.Entering from label) e h = h
not_both Mode.Plain e h = e
not_both Mode.Ramp e h = e
not_both Mode.Resumed e h = e
not_both (Mode.GivenRamp frame) e h = e

-- ---- an activation that wasn't resumed

mode_of : (a : Mode) → (a ≡ Mode.Plain) ⊎ ((a ≡ Mode.Ramp) ⊎ (a ≡ Mode.Resumed)) → (a ≡ Mode.Resumed → ⊥) → IsFirstMode a
mode_of a (inl plain) none = subst IsFirstMode (sym plain) tt
mode_of a (inr (inl ramp)) none = subst IsFirstMode (sym ramp) tt
mode_of a (inr (inr resumed)) none = absurd (none resumed)

first_mode : (m : Module) (flags : Flags) (roots : Roots) (z s : State) → IsBeside m flags roots z s
    → (IsResumedAt (function_at m s.top.func) (record { block = s.top.block; at = s.top.at }) → ⊥)
    → IsFirstMode s.top.mode
first_mode m flags roots z s beside none =
    subst IsFirstMode (sym same_mode)
    (mode_of z.top.mode beside.top.modes (λ resumed. none
    (subst (λ (q : ℕ × (ℕ × ℕ)). IsResumedAt (function_at m q.0) (record { block = q.1.0; at = q.1.1 }))
    (λ j. (sym same_func j, (sym same_block j, sym same_at j))) (beside.top.came resumed))))
  where
    same_mode : s.top.mode ≡ z.top.mode
    same_mode = ap (λ (a : Activation). a.mode) beside.top.is

    same_func : s.top.func ≡ z.top.func
    same_func = ap (λ (a : Activation). a.func) beside.top.is

    same_block : s.top.block ≡ z.top.block
    same_block = ap (λ (a : Activation). a.block) beside.top.is

    same_at : s.top.at ≡ z.top.at
    same_at = ap (λ (a : Activation). a.at) beside.top.is

module _ (l : Lowered) (low : IsLowered l) (few : HasFewBytes l) (a : Anew) (anew : IsAnewOf (early l) a) (r : Run)
    (entered : IsEntryCall l.source r) where
  abbrev c : Setting
  c = asking l low a r

  abbrev run : ℕ → State
  run n = iterate (renewed_step (renewing l a r)) n (first_state (edged l) r.entry r.args)

  abbrev other : ℕ → State
  other m = framed_state_at (building l low.is_framed r.answers).given r.entry r.args m

  all : KeepsAll (asking l low a r)
  all = asked_kept l low few a anew r

  ends : KeepsEnds (asking l low a r)
  ends = ends_kept l low a r few anew entered

  module _ (n m : ℕ) (covered : IsCovered (setting l a r) (run n))
      (built : AreBuiltOf (building l low.is_framed r.answers) (run n) (other m))
      (runs : (run n).outcome ≡ Outcome.Running) (blank : IsBlankState (asking l low a r) (run n))
      (fine : IsFine (renewed_step (renewing l a r) (run n)).outcome) where
    abbrev s : State
    s = run n

    abbrev t : State
    t = other m

    apart : IsNotEntering (run n).top.mode → AreFieldsApart (asking l low a r).b (run n)
    apart calm = on covered
      where
        on : IsCovered (setting l a r) (run n) → AreFieldsApart (asking l low a r).b (run n)
        on (Stands k beside goes) = fields_apart l low few a anew r entered k (run n) (other m) built beside
            (sized l low few a anew r entered n) (frames_there l low few a anew r entered n)
        on (Makes e) = absurd (not_both (run n).top.mode e calm)

    of_runs : AreOfRuns (asking l low a r) (run n) (other m) built
    of_runs = record {
      sound = sound l low few a anew r entered n;
      fitting = fitting l low few a anew r entered n;
      called = called l low few a anew r entered n;
      slots = slots l low few a anew r entered n;
      other_slots = other_slots l low few a anew r entered m;
      may = step_known l low few a anew r entered n (other m) built runs apart;
    }

    module _ (coroutine : is_coroutine (asking l low a r).b (run n).top.func ≡ true) where
      may : MayFollow (asking l low a r) (run n)
      may = follow_known l low few a anew r entered n runs coroutine

      go_on : MayGoOn (asking l low a r) (run n)
      go_on = may_go_on l low few a anew r entered (counts l a r)
          (source_known l low few a anew r entered).counted n (led l low few a anew r entered n)

      module _ (calm : IsNotEntering (run n).top.mode) where
        kinds : KeepsKinds (asking l low a r)
        kinds = kinds_kept l low a anew r

        abbrev x : Framing
        x = (asking l low a r).b.framing (run n).top.func

        -- a slot of a marker stands in the frame
        beside_one : (k : ℕ) × IsBeside (edged l) a.flags a.roots (first_at (setting l a r) k) (run n)
            × IsFine (first_step (setting l a r) (first_at (setting l a r) k)).outcome
        beside_one = on covered
          where
            on : IsCovered (setting l a r) (run n)
                → (k : ℕ) × IsBeside (edged l) a.flags a.roots (first_at (setting l a r) k) (run n)
                × IsFine (first_step (setting l a r) (first_at (setting l a r) k)).outcome
            on (Stands k beside goes) = (k, beside, goes)
            on (Makes e) = absurd (not_both (run n).top.mode e calm)

        -- what stands at the place asks
        edged_coroutine : (function_at (edged l) (run n).top.func).coroutine ≡ true
        edged_coroutine = ap (λ (g : Function). g.coroutine)
            (edged_is l low few a anew r entered (run n).top.func coroutine) ∙ coroutine

        not_plain : (run n).top.mode ≡ Mode.Plain → ⊥
        not_plain e = subst IsOwnMode e (go_on.based.top.mode edged_coroutine)

        in_entry : (name : ℕ) (ty : Ty) (align : ℕ)
            → fetch (function_at (edged l) (run n).top.func) (run n).top.block (run n).top.at
            ≡ AtInstr (Instr.Alloca name ty align) → (run n).top.block ≡ 0
        in_entry name ty align there =
            let rules = edged_alive l.text l.source low.source.stands low.source.accepted (sizes_of l) r.answers
            (run n).top.func in
            ((rules.made name ty align (run n).top.block (run n).top.at there).alone (run n).top.block (run n).top.at
            (ap given_at there)).0

        unfreed : (x : Instance) → is_over x ≡ false → x.freed ≡ false
        unfreed x e = on x.freed refl
          where
            or_true : (b : Bool) → (b || true) ≡ true
            or_true true = refl
            or_true false = refl

            on : (b : Bool) → x.freed ≡ b → b ≡ false
            on false d = refl
            on true d = absurd (false≢true (sym e ∙ (λ j. is_finished x.status || d j) ∙ or_true (is_finished x.status)))

        may_kinds : MayKinds (asking l low a r) (run n) (other m)
        may_kinds =
            record {
              made = slots_made l low few a anew r entered n runs;
              makes = λ name ty align there. record {
                first = first_beside l low few a anew (first_at (setting l a r) beside_one.0) (run n) beside_one.1
                    not_plain (in_entry name ty align there);
                poison = poison_there l low few a anew r entered n runs (first_at (setting l a r) beside_one.0)
                    beside_one.1 name ty align there;
                frame = λ i y own is over. frames_there l low few a anew r entered n i y is (unfreed y over);
                fits = λ i y w own is held. frame_fits l low a anew r n (slots l low few a anew r entered n) (other m)
                    built i y w is held;
                apart = λ i y own is unmarked position told slot listed w held live p place.
                    made_apart l low few a anew r entered beside_one.0 (run n) beside_one.1
                    (sized l low few a anew r entered n) (sound l low few a anew r entered n) coroutine name align ty
                    there i y own is (none_made l low few a anew r entered n calm name ty align there i y own is) unmarked
                    position told slot listed w held p place;
              };
              saves = λ result must_tail ty args there. record {
                running = λ i y own is.
                    saves_running l low few a anew r n beside_one.0 beside_one.1 result must_tail ty args there i y own is;
                begun = λ i y own is.
                    frame_named l low a r (counts l a r) (run n) (led l low few a anew r entered n runs) coroutine i y own is;
                apart = saves_apart l low few a anew r entered n beside_one.0 beside_one.1 runs beside_one.2
                    (λ i y is. (other_instance (asking l low a r).b (run n) (other m) built i y is).2.is_coroutine) coroutine
                    result must_tail ty args there;
              };
              begins = λ result must_tail ty args there.
                  let none = none_begun (renewing l a r) (run n) runs fine result must_tail ty args there in
                  let w = sized l low few a anew r entered n in
                  let ramp = begins_in_ramp (renewing l a r) (edged l) a.flags a.roots
                  (first_at (setting l a r) beside_one.0) (run n) beside_one.1 not_plain runs fine result must_tail ty args
                  there in
                  record {
                    ramp = ramp;
                    allocas = own_alloca l low a r (run n) w coroutine;
                    blank = λ slot own lies early. begun_blank l low a r (run n) blank coroutine none slot own lies early;
                    apart = begun_apart l low few a anew r entered beside_one.0 (run n) beside_one.1 w coroutine none
                        result must_tail ty args there (own_once l low few a anew r entered n none);
                    made = λ e listed. early_made l low few a anew r entered n runs coroutine ramp none result
                        must_tail ty args there e listed;
                    early_slots = early_once x (all.given.framings (run n).top.func coroutine);
                    early_apart = λ e f listed listed_too. early_apart l low few a anew r entered (run n).top.func
                        (run n).top.block (run n).top.at coroutine result must_tail ty args there
                        ((unbegun l low few a anew r entered n).stack.0 none) e listed f listed_too;
                    framed_slots = framed_slots_own l low r m;
                    led = slots_led l low a anew r entered m (built.outcome ∙ runs);
                    live = has_live l low few a anew r entered m;
                  };
            }

        first_there : (starts must_tail : Bool) (ty : Option Ty) (size : Arg) (u : Ty) (name : ℕ)
            → fetch (function_of (renewing l a r).given (run n)) (run n).top.block (run n).top.at
            ≡ AtInstr (marking starts must_tail ty size u name) → a.flags (run n).top.func name ≡ false
            → own l a r (run n).top.func name ≡ true → IsFirstMode (run n).top.mode
        first_there starts must_tail ty size u name there off is_own =
            first_mode (edged l) a.flags a.roots (first_at (setting l a r) beside_one.0) (run n) beside_one.1
            (none_resumed l low few a anew r entered (run n).top.func coroutine (run n).top.block (run n).top.at starts
            must_tail ty size u name there off is_own)

        markers_left : (same : AreBuiltOf (asking l low a r).b (run n) (other m)) (starts must_tail : Bool)
            (ty : Option Ty) (size : Arg) (u : Ty) (name : ℕ)
            → fetch (function_of (renewing l a r).given (run n)) (run n).top.block (run n).top.at
            ≡ AtInstr (marking starts must_tail ty size u name)
            → AreMarkersLeft l low a r (run n) (other m) same name starts
        markers_left same starts must_tail ty size u name there = record {
          frame = frames_there l low few a anew r entered n;
          apart = λ is number y slot top instance listed named.
              let marker = subst (λ (b : Bool). fetch (function_of (renewing l a r).given (run n)) (run n).top.block
              (run n).top.at ≡ AtInstr (marking b must_tail ty size u name)) is there in
              started_apart l low few a anew r entered beside_one.0 (run n) beside_one.1
              (sized l low few a anew r entered n) (sound l low few a anew r entered n) coroutine must_tail ty size u name
              marker number y top instance (slots_once l low few a anew r entered n number y instance) slot listed named;
          temporaries = marked_temporaries l low few a anew r entered n m same coroutine
              (temporaries_live l low few a anew r entered m) name;
          first = first_there starts must_tail ty size u name there;
        }

        others : AreOthersFollowed (asking l low a r) (run n) (other m)
        others = record {
          located = λ i stands access ahead fetched. access_located l low few a anew r entered n runs coroutine calm
              (λ none. ramp_beside (edged l) a.flags a.roots (first_at (setting l a r) beside_one.0) (run n) beside_one.1
              not_plain none) i stands access ahead (other m) built of_runs fine
              (slots_led l low a anew r entered m (built.outcome ∙ runs));
          measured = measured_kinds (asking l low a r) all kinds (run n) (other m) built of_runs runs fine coroutine calm
              may may_kinds;
          allocas = alloca_kinds (asking l low a r) all kinds (run n) (other m) built of_runs runs fine coroutine calm
              may may_kinds;
          intrinsics = intrinsic_kinds (asking l low a r) all kinds (run n) (other m) built of_runs runs fine coroutine
              calm may may_kinds;
          marks = λ same starts. marks_left l low few a anew r entered n (other m) same coroutine runs starts
              (λ must_tail ty size u name there. markers_left same starts must_tail ty size u name there);
          suspends = suspend_told (asking l low a r) ends (run n) coroutine;
          end_calls = end_known (asking l low a r) all ends (run n) coroutine go_on calm;
          ends = ends_followed (asking l low a r) all ends (run n) (other m) built of_runs runs fine coroutine calm may
              go_on (edges_kept l low a r few anew entered)
              (may_leave_edge l low few a anew r entered n (storables (asking l low a r) all (run n)
              (fitting l low few a anew r entered n) (pointing l low few a anew r entered n)));
        }

    coroutines : is_coroutine (asking l low a r).b (run n).top.func ≡ true
        → AreCoroutinesReady (asking l low a r) (run n) (other m)
    coroutines is = record {
      may = λ calm. may is;
      others = λ calm. others is calm;
      entering = slots_entered l low few a anew r entered n m built of_runs runs is;
    }

    followed : IsFollowed (building l low.is_framed r.answers) (renewing l a r) (run n) (other m)
    followed = all_followed (asking l low a r) all (run n) (other m) built of_runs runs fine
        (coroutines_entered l low few a anew r entered n m built of_runs runs fine (λ is calm. may is)
        (storables_known l low few a anew r entered n)) coroutines

  pub covered_followed : AreCoveredStepsFollowed (setting l a r) (building l low.is_framed r.answers)
      (IsBlankState (asking l low a r))
  covered_followed n m covered built runs blank fine = followed n m covered built runs blank fine
