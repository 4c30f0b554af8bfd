-- In each state of the framed run, an activation that makes allocas again has the cells of those that it has made.
use Rattle.std.proofs.Common.{◌≡◌, ◌⊎◌, inl, inr, ℕ, zero, suc, ◌+◌, ◌<◌, ◌≤◌, ◌++◌, ◌∷◌, [], true, false, List, drop, length, replicate, take, Option, Some, None, Ok, refl, sym, ap, ◌∙◌, subst, arith}
use Rattle.std.proofs.lemmas.Bool.{cases_lt}
use Rattle.std.proofs.lemmas.List.{length-replicate}
use Rattle.std.specs.Prelude.{option_map, slice_get}
use Rattle.pass_frames_proof.specs.ir_base.declared.outcome.Outcome.{Outcome}
use Rattle.pass_frames_proof.specs.ir_base.declared.outcome.Word.{Word}
use Rattle.pass_frames_proof.proofs.ir_laws.facts.Lists.{get_within}
use Rattle.pass_frames_proof.specs.ir_model.Names.{function_at}
use Rattle.pass_frames_proof.specs.ir_model.declared.instr.Instr.{Instr}
use Rattle.pass_frames_proof.specs.ir_model.declared.module.Function.{Function}
use Rattle.pass_frames_proof.specs.ir_model.declared.module.Module.{Module}
use Rattle.pass_frames_proof.specs.ir_paths.declared.point.Point.{Point}
use Rattle.pass_frames_meaning.proofs.woken.Fronts.{fronts_good, fronts_stand, standing}
use Rattle.pass_frames_meaning.proofs.woken.ModeHooks.{framed_modes}
use Rattle.pass_frames_meaning.proofs.woken.Modes.{step_stays}
use Rattle.pass_frames_meaning.specs.Called.{IsCalm}
use Rattle.pass_frames_meaning.specs.Setting.{KeepsAll, Setting}
use Rattle.pass_frames_meaning.specs.Woken.{AreStill, IsFramedFit, IsWakeable, KeepsWaking}
use Rattle.pass_frames_proof.proofs.anew.Cells.{made_on, none_made}
use Rattle.pass_frames_proof.proofs.entering.Allocas.{alloca_there, last_one, one_more}
use Rattle.pass_frames_proof.proofs.entering.Stand.{none_left}
use Rattle.pass_frames_proof.proofs.ramps.Plain.{entry_there}
use Rattle.pass_frames_proof.specs.Anew.{HasCellsMade, MakesLine}
use Rattle.pass_frames_proof.specs.Entering.{IsGoodAlloca, IsMaking, behind_alloca, entered, front_allocas}
use Rattle.pass_frames_proof.specs.Framings.{IsFraming}
use Rattle.pass_frames_proof.specs.Places.{Framing, framed}
use Rattle.pass_frames_proof.specs.Related.{is_coroutine}
use Rattle.pass_frames_proof.specs.Stepping.{IsNotEntering}
use Rattle.pass_frames_proof.specs.Waking.{AreFrontsGood}
use Rattle.pass_frames_proof.specs.run_framed.Framed.{FramedGiven, alloca_from, continue_framed, enter_after, framed_advance, framed_state_at, framed_step, given_call, reentry_values}
use Rattle.pass_renewed_meaning.proofs.run_hooks.Steps.{framed_steps}
use Rattle.pass_renewed_meaning.specs.run_hooks.Meanings.{framed_hooks}
use Rattle.pass_frames_proof.proofs.run_laws.transfer.Sets.{set_length as value_length}
use Rattle.pass_frames_proof.specs.run_laws.changed.Changed.{Each}
use Rattle.pass_frames_proof.specs.run_memory.declared.pointer.Value.{Value}
use Rattle.run_slots.specs.Slots.{IsSlottedState}
use Rattle.pass_frames_proof.specs.run_source.Source.{Sleeper, first_state, push, resumed, sleeper_at}
use Rattle.pass_frames_proof.specs.run_source.State.{frame_address_of, function_of, with_status}
use Rattle.pass_frames_proof.specs.run_source.declared.state.Mode.{Mode}
use Rattle.pass_frames_proof.specs.run_source.declared.state.State.{State}
use Rattle.pass_frames_proof.specs.run_source.declared.state.Status.{Status}
use Rattle.pass_frames_proof.proofs.run_states.sound_states.Acts.{IsAsleepAt, asleep_there}
use Rattle.pass_frames_proof.specs.run_step.Runs.{iterate}
use Rattle.pass_frames_proof.specs.run_step.Step.{AtInstr, fetch}
use Rattle.pass_frames_proof.specs.run_step.Values.{Env, with_result}

-- ---- parts of a list

taken_is : {A : Type 0} (xs : List A) (n : ℕ) (x : A) → slice_get xs n ≡ Some x
    → xs ≡ take n xs ++ ((x ∷ []) ++ drop (suc n) xs)
taken_is [] n x e = absurd (cc)
taken_is (y ∷ xs) zero x e = let same : y ≡ x = cc in ap (λ (z : _). z ∷ xs) same
taken_is (y ∷ xs) (suc n) x e = ap (λ (zs : List _). y ∷ zs) (taken_is xs n x e)

taken_long : {A : Type 0} (xs : List A) (n : ℕ) → n < length xs → n ≡ length (take n xs)
taken_long xs zero lt = refl
taken_long [] (suc n) lt = absurd (omega (arith, lt))
taken_long (x ∷ xs) (suc n) lt = ap suc (taken_long xs n (omega (arith, lt)))

got_at : {A : Type 0} (xs : List A) (n : ℕ) → n < length xs → (x : A) × (slice_get xs n ≡ Some x)
got_at [] n lt = absurd (omega (arith, lt))
got_at (x ∷ xs) zero lt = (x, refl)
got_at (x ∷ xs) (suc n) lt = got_at xs n (omega (arith, lt))

each_at : (is : List Instr) (n : ℕ) (i : Instr) → slice_get is n ≡ Some i → Each IsGoodAlloca is → IsGoodAlloca i
each_at [] n i e h = absurd (cc)
each_at (j ∷ is) zero i e h = let same : j ≡ i = cc in subst IsGoodAlloca same h.0
each_at (j ∷ is) (suc n) i e h = each_at is n i e h.1

result_long : (o : Option ℕ) (e : Env) (w : Value) → length (with_result e o w) ≡ length e
result_long None e w = refl
result_long (Some n) e w = value_length e n w

module _ (c : Setting) (all : KeepsAll c) (waking : KeepsWaking c) where
  abbrev g : FramedGiven
  g = c.b.given

  -- where it is and what it has
  record IsMakingCells (t : State) : Type 0 where
    coroutine : is_coroutine c.b t.top.func ≡ true
    entry_block : t.top.block ≡ 0
    low : t.top.at < length (front_allocas (c.b.framing t.top.func))
    room : length t.top.values ≡ length (framed (c.b.framing t.top.func)).names
    cells : HasCellsMade c.b t

  -- and activations below make no allocas
  record IsOnAnyWay (t : State) : Type 0 where
    makes : (from label : ℕ) → t.top.mode ≡ Mode.Entering from label → IsMakingCells t
    below : AreStill t.below

  calm : (t : State) → IsNotEntering t.top.mode → AreStill t.below → IsOnAnyWay t
  calm t h below = record { makes = λ from label e. absurd (subst IsNotEntering e h); below = below }

  -- ---- functions

  plain_is : (func : ℕ) → is_coroutine c.b func ≡ false
      → function_at g.given.code func ≡ function_at c.g.given.code func
  plain_is func plain =
      ap (λ (m : Module). function_at m func) all.given.code
      ∙ all.given.built.others func plain
      ∙ sym (all.given.others func plain)

  framed_is : (func : ℕ) → is_coroutine c.b func ≡ true → function_at g.given.code func ≡ framed (c.b.framing func)
  framed_is func coroutine =
      ap (λ (m : Module). function_at m func) all.given.code ∙ (all.given.built.coroutines func coroutine).is

  module _ (func : ℕ) (coroutine : is_coroutine c.b func ≡ true) where
    abbrev x : Framing
    x = c.b.framing func

    framing : IsFraming x
    framing = all.given.framings func coroutine

    wakeable : IsWakeable c func x
    wakeable = waking.coroutines func coroutine

    good : AreFrontsGood x
    good = fronts_good c func x framing wakeable

    stands : (n : ℕ) (i : Instr) → slice_get (front_allocas x) n ≡ Some i → fetch (framed x) 0 n ≡ AtInstr i
    stands n i e =
        let near : 0 + n ≡ n = omega arith in
        ap (fetch (framed x) 0) (sym near)
        ∙ standing (framed x) 0 0 (front_allocas x) (fronts_stand c func x framing wakeable) n i e

    none_behind : alloca_from (framed x) (length (front_allocas x)) ≡ None
    none_behind = none_left x (entry_there x framing)

    -- the first of them is at the start
    first_at : (p : Point) → alloca_from (framed x) 0 ≡ Some p
        → (p ≡ record { block = 0; at = 0 }) × (0 < length (front_allocas x))
    first_at p e = on (cases_lt 0 (length (front_allocas x)))
      where
        on : (0 < length (front_allocas x)) ⊎ (length (front_allocas x) ≤ 0)
            → (p ≡ record { block = 0; at = 0 }) × (0 < length (front_allocas x))
        on (inl lt) =
            let z = got_at (front_allocas x) 0 lt in
            let at : alloca_from (framed x) 0 ≡ Some (record { block = 0; at = 0 }) =
            ap (option_map (λ (k : ℕ). record { block = 0; at = k }))
            (alloca_there (slice_get (framed x).blocks 0) 0 z.0 (each_at (front_allocas x) 0 z.0 z.1 good.good)
            (stands 0 z.0 z.1)) in
            let both : Some p ≡ Some (record { block = 0; at = 0 }) = sym e ∙ at in
            (cc, lt)
        on (inr le) =
            let empty : length (front_allocas x) ≡ 0 = omega (arith, le) in
            let none : None ≡ Some p = sym none_behind ∙ ap (alloca_from (framed x)) empty ∙ e in
            absurd (cc)

  -- ---- a coroutine is woken

  module _ (t : State) (fit : IsFramedFit c t) (v : Value) (y : Sleeper) (finds : sleeper_at t v ≡ Ok y)
      (label : ℕ) where
    abbrev own : ℕ
    own = y.instance.coroutine

    abbrev env : Env
    env = reentry_values (function_at g.given.code own) (frame_address_of y.instance)

    abbrev pushed : State
    pushed = push (with_status t y.number y.instance Status.Running) (resumed y.number y.instance y.suspend env)

    asleep : IsAsleepAt t y
    asleep = asleep_there t v y finds

    coroutine_now : is_coroutine c.b own ≡ true
    coroutine_now = fit.instances y.number y.instance asleep.got

    woken_makes : (p : Point) → alloca_from (function_at g.given.code own) 0 ≡ Some p
        → IsMakingCells (enter_after g pushed y.suspend.block label (Some p))
    woken_makes p e =
        let z = first_at own coroutine_now p
        (ap (λ (f : Function). alloca_from f 0) (sym (framed_is own coroutine_now)) ∙ e) in
        let at : p.at ≡ 0 = ap (λ (q : Point). q.at) z.0 in
        let lt : 0 < length (front_allocas (c.b.framing own)) = z.1 in
        record {
          coroutine = coroutine_now;
          entry_block = ap (λ (q : Point). q.block) z.0;
          low = omega (arith, at, lt);
          room =
              result_long _ (replicate (length (function_at g.given.code own).names) None)
              (frame_address_of y.instance)
              ∙ length-replicate (length (function_at g.given.code own).names) None
              ∙ ap (λ (f : Function). length f.names) (framed_is own coroutine_now);
          cells = none_made c.b (enter_after g pushed y.suspend.block label (Some p)) at;
        }

    goes : AreStill (continue_framed g t y.number y.instance y.suspend y.values label).below
        → IsOnAnyWay (continue_framed g t y.number y.instance y.suspend y.values label)
    goes below = on (alloca_from (function_at g.given.code own) 0) refl below
      where
        on : (o : Option Point) → alloca_from (function_at g.given.code own) 0 ≡ o
            → AreStill (enter_after g pushed y.suspend.block label o).below
            → IsOnAnyWay (enter_after g pushed y.suspend.block label o)
        on None e still = calm (enter_after g pushed y.suspend.block label None) tt still
        on (Some p) e still = record { makes = λ from other mode. woken_makes p e; below = still }

  -- ---- an alloca is made

  module _ (t : State) (slots : IsSlottedState t) (runs : t.outcome ≡ Outcome.Running) (from label : ℕ)
      (mode : t.top.mode ≡ Mode.Entering from label) (h : IsMakingCells t) (still : AreStill t.below) where
    abbrev func : ℕ
    func = t.top.func

    abbrev f : Framing
    f = c.b.framing func

    makes : IsMaking t from label
    makes = record { runs = runs; mode = mode; entry_block = h.entry_block }

    code : function_of g.given t ≡ framed f
    code = framed_is func h.coroutine

    here : (i : Instr) × (slice_get (front_allocas f) t.top.at ≡ Some i)
    here = got_at (front_allocas f) t.top.at h.low

    abbrev i : Instr
    i = here.0

    is_good : IsGoodAlloca i
    is_good = each_at (front_allocas f) t.top.at i here.1 (good func h.coroutine).good

    there : fetch (function_of g.given t) 0 t.top.at ≡ AtInstr i
    there = ap (λ (q : Function). fetch q 0 t.top.at) code ∙ stands func h.coroutine t.top.at i here.1

    line : MakesLine c.b t (i ∷ [])
    line = record {
      code = all.given.code;
      function = code;
      fronts = good func h.coroutine;
      before = take t.top.at (front_allocas f);
      rest = drop (suc t.top.at) (front_allocas f);
      stands = taken_is (front_allocas f) t.top.at i here.1;
      at = taken_long (front_allocas f) t.top.at h.low;
      room = h.room;
      frames = λ n y e.
          let b = slots.slotted.frames n y e in get_within t.world.memory y.block b.block b.there;
    }

    made_step : IsOnAnyWay (framed_step g t)
    made_step = on (cases_lt (t.top.at + 1) (length (front_allocas f)))
      where
        below_same : (i : Instr) → IsGoodAlloca i → AreStill (behind_alloca g t i).below
        below_same (Instr.Alloca name ty align) ok = still
        below_same _ ok = absurd ok

        still_makes : (i : Instr) → IsGoodAlloca i → HasCellsMade c.b (behind_alloca g t i)
            → t.top.at + 1 < length (front_allocas f) → IsMakingCells (behind_alloca g t i)
        still_makes (Instr.Alloca name ty align) ok cells lt = record {
          coroutine = h.coroutine;
          entry_block = h.entry_block;
          low = lt;
          room = value_length t.top.values name _ ∙ h.room;
          cells = cells;
        }
        still_makes _ ok cells lt = absurd ok

        on : (t.top.at + 1 < length (front_allocas f)) ⊎ (length (front_allocas f) ≤ t.top.at + 1)
            → IsOnAnyWay (framed_step g t)
        on (inl lt) =
            let k = got_at (front_allocas f) (t.top.at + 1) lt in
            subst IsOnAnyWay
            (sym (one_more g from label t makes i k.0 is_good
            (each_at (front_allocas f) (t.top.at + 1) k.0 k.1 (good func h.coroutine).good) there
            (ap (λ (q : Function). fetch q 0 (t.top.at + 1)) code
            ∙ stands func h.coroutine (t.top.at + 1) k.0 k.1)))
            (record {
              makes = λ from' label' mode'. still_makes i is_good (made_on c.b t (i ∷ []) line h.cells) lt;
              below = below_same i is_good;
            })
        on (inr le) =
            let low = h.low in
            let end : t.top.at + 1 ≡ length (front_allocas f) = omega (arith, le, low) in
            subst IsOnAnyWay
            (sym (last_one g from label t makes i is_good there
            ((λ j. alloca_from (code j) (end j)) ∙ none_behind func h.coroutine)))
            (calm (entered g (behind_alloca g t i) from label) tt (below_same i is_good))

  -- ---- a step

  calm_mode : (mode : Mode) → IsNotEntering mode → ((frame : Value) → mode ≡ Mode.GivenRamp frame → ⊥) → IsCalm mode
  calm_mode Mode.Plain h none = tt
  calm_mode Mode.Ramp h none = tt
  calm_mode Mode.Resumed h none = tt
  calm_mode (Mode.GivenRamp frame) h none = none frame refl
  calm_mode (Mode.Entering from label) h none = h

  module _ (none : (s : State) (block at : ℕ) → given_call g s (fetch (function_of g.given s) block at) ≡ None)
      (t : State) (fit : IsFramedFit c t) (slots : IsSlottedState t) where
    cells_step : IsOnAnyWay t → IsOnAnyWay (framed_step g t)
    cells_step h = by t.top.mode refl
      where
        still : IsNotEntering t.top.mode → IsOnAnyWay (framed_step g t)
        still mode =
            subst IsOnAnyWay (sym (framed_steps g t))
            (step_stays (framed_hooks g) (framed_modes g none) IsOnAnyWay calm t
            (calm_mode t.top.mode mode fit.ungiven) h.below
            (λ v y finds label leads below. goes t fit v y finds label below))

        enters : (from label : ℕ) → t.top.mode ≡ Mode.Entering from label → (o : Outcome) → t.outcome ≡ o
            → IsOnAnyWay (framed_step g t)
        enters from label mode (Outcome.Returned v) e =
            subst IsOnAnyWay (sym (ap (framed_advance g t) e)) h
        enters from label mode (Outcome.Undefined cause place) e =
            subst IsOnAnyWay (sym (ap (framed_advance g t) e)) h
        enters from label mode Outcome.Running e =
            made_step t slots e from label mode (h.makes from label mode) h.below

        by : (mode : Mode) → t.top.mode ≡ mode → IsOnAnyWay (framed_step g t)
        by (Mode.Entering from label) e = enters from label e t.outcome refl
        by Mode.Plain e = still (subst IsNotEntering (sym e) tt)
        by Mode.Ramp e = still (subst IsNotEntering (sym e) tt)
        by Mode.Resumed e = still (subst IsNotEntering (sym e) tt)
        by (Mode.GivenRamp frame) e = still (subst IsNotEntering (sym e) tt)

  -- ---- runs

  module _ (none : (s : State) (block at : ℕ) → given_call g s (fetch (function_of g.given s) block at) ≡ None)
      (entry : ℕ) (args : List Word) (fit : (n : ℕ) → IsFramedFit c (framed_state_at g entry args n))
      (slots : (n : ℕ) → IsSlottedState (framed_state_at g entry args n)) where
    one_more_step : (n : ℕ) (s : State)
        → iterate (framed_step g) (suc n) s ≡ framed_step g (iterate (framed_step g) n s)
    one_more_step zero s = refl
    one_more_step (suc n) s = one_more_step n (framed_step g s)

    ways : (n : ℕ) → IsOnAnyWay (framed_state_at g entry args n)
    ways zero = calm (first_state g.given.code entry args) tt tt
    ways (suc n) =
        subst IsOnAnyWay (sym (one_more_step n (first_state g.given.code entry args)))
        (cells_step none (framed_state_at g entry args n) (fit n) (slots n) (ways n))

    pub cells_states : (n : ℕ) → HasCellsMade c.b (framed_state_at g entry args n)
    cells_states n = record {
      each = λ from label p name align ty mode lt there unmarked sized aligned.
          ((ways n).makes from label mode).cells.each from label p name align ty mode lt there unmarked sized aligned;
    }
