-- The instance of an activation that hasn't left is Finished only where the activation is behind the end.
use Rattle.std.proofs.Common.{◌≡◌, ◌≢◌, ◌⊎◌, inl, inr, ◌∙◌, ◌+◌, ◌++◌, ℕ, Bool, true, false, List, [], ◌∷◌, length, None, Option, Some, ap, if◌then◌else◌, refl, sym, subst, ◌&&◌, ◌==◌}
use Rattle.std.specs.Prelude.{filter, negsuc, not, slice_get, slice_set}
use Rattle.pass_elide_proof.proofs.Begun.{end_or_before}
use Rattle.pass_elide_proof.proofs.Changing.{WasSet, new_there, was_set}
use Rattle.pass_elide_proof.proofs.Facts.{not_both}
use Rattle.pass_elide_proof.proofs.PhiValues.{each_as}
use Rattle.pass_elide_proof.proofs.Saves.{own_number}
use Rattle.pass_elide_proof.specs.StepCases.{LeadsTo, ended, saved_at}
use Rattle.pass_elide_runs.proofs.Acts.{IsInstr, branches_to, instr_of}
use Rattle.pass_elide_runs.proofs.CalledFrom.{CallsCoro, calls_coro}
use Rattle.pass_elide_runs.proofs.KnownModes.{IsAsleep, asleep, calm_at, modes_in_runs}
use Rattle.pass_elide_runs.proofs.Runs.{runs_keep}
use Rattle.pass_elide_runs.proofs.Stacks.{Comes, SameStack, StaysOn, comes, ended_stack, woken_at, woken_on}
use Rattle.pass_elide_runs.specs.Ends.{GoOnTillEnd, GoesOnTillEnd, IsOverThere}
use Rattle.pass_elide_runs.specs.Modes.{KnowModes}
use Rattle.pass_elide_proof.proofs.pass_proofs.ir_laws.facts.Lists.{get_last}
use Rattle.pass_elide_proof.specs.pass_proofs.ir_base.declared.outcome.Outcome.{Outcome}
use Rattle.pass_elide_proof.specs.pass_proofs.ir_base.declared.outcome.Word.{Word}
use Rattle.pass_elide_proof.specs.pass_proofs.ir_model.Names.{function_at}
use Rattle.pass_elide_proof.specs.pass_proofs.ir_model.declared.instr.Instr.{Instr}
use Rattle.pass_elide_proof.specs.pass_proofs.ir_model.declared.module.Module.{Module}
use Rattle.pass_elide_proof.specs.pass_proofs.ir_model.declared.operand.Intrinsic.{Intrinsic}
use Rattle.pass_elide_proof.specs.pass_proofs.ir_paths.Paths.{has_point, nexts}
use Rattle.pass_elide_proof.specs.pass_proofs.ir_paths.declared.point.Point.{Point}
use Rattle.pass_elide_proof.specs.pass_proofs.pass_kept_proof.Needed.{BranchesTo}
use Rattle.pass_elide_proof.specs.pass_proofs.pass_kept_proof.SuspendRules.{IsCallAt}
use Rattle.pass_elide_proof.specs.pass_proofs.run_agreement.Machines.{IsFine, IsReturned}
use Rattle.pass_elide_proof.specs.pass_proofs.run_framed.Framed.{FramedGiven, alloca_from, continue_framed, disown_given, enter_after, framed_finish, framed_slot, framed_state_at, framed_step, is_stack_block, last_value}
use Rattle.pass_elide_proof.specs.pass_proofs.run_laws.changed.Changed.{Each}
use Rattle.pass_elide_proof.specs.pass_proofs.run_memory.Memory.{disown}
use Rattle.pass_elide_proof.specs.pass_proofs.run_memory.declared.pointer.Value.{Value}
use Rattle.pass_elide_proof.specs.pass_proofs.run_source.Source.{begun, called, change_own, enter_block, finish, first_state, given_back, if_let_go, is_among, let_go, may_be_freed, mode_of, new_instance}
use Rattle.pass_elide_proof.specs.pass_proofs.run_source.State.{function_of, gives, instance_at, is_finished, next, own_facts, own_instance, settled, with_instance, with_left, with_memory, with_slots, with_status}
use Rattle.pass_elide_proof.specs.pass_proofs.run_source.declared.state.Activation.{Activation}
use Rattle.pass_elide_proof.specs.pass_proofs.run_source.declared.state.Instance.{Instance}
use Rattle.pass_elide_proof.specs.pass_proofs.run_source.declared.state.Mode.{Mode}
use Rattle.pass_elide_proof.specs.pass_proofs.run_source.declared.state.State.{State}
use Rattle.pass_elide_proof.specs.pass_proofs.run_source.declared.state.Status.{Status}
use Rattle.pass_elide_proof.specs.pass_proofs.run_step.Step.{AtInstr, Coro, Deallocate, Done, Enter, NewSlot, fetch}
use Rattle.pass_elide_proof.specs.pass_proofs.run_step.Values.{Env, arg_values, integer, nth, truth_value}
use Rattle.run_hooks.proofs.Left.{states_last}
use Rattle.run_hooks.proofs.LeftKeeping.{framed_keeps_last}
use Rattle.run_hooks.proofs.Reached.{at_is}
use Rattle.run_hooks.proofs.Steps.{framed_steps, same_runs}
use Rattle.run_hooks.proofs.pass_renewed_proof.Ahead.{branch_edge, next_edge}
use Rattle.run_hooks.proofs.pass_renewed_proof.Left.{after_edge, call_listed, end_follows}
use Rattle.run_hooks.specs.Hooks.{step_of}
use Rattle.run_hooks.specs.Left.{HaveLeft, IsLastState}
use Rattle.run_hooks.specs.Meanings.{framed_hooks}
use Rattle.run_hooks.specs.Reached.{AllHaveSwitches}

abbrev point_of_act : Activation → Point
point_of_act a = record { block = a.block; at = a.at }

module _ (m : Module) where
  abbrev Goes : List Instance → Activation → Type 0
  Goes xs a = GoesOnTillEnd m xs a

  -- ---- the topmost activation

  -- it goes along an edge
  along : (xs : List Instance) (a c : Activation) → c.func ≡ a.func → c.instance ≡ a.instance
      → c.has_left ≡ a.has_left → c.mode ≡ a.mode
      → has_point (nexts (function_at m a.func) (point_of_act a)) (point_of_act c) ≡ true → Goes xs a → Goes xs c
  along xs a c func instance left mode edge h = record {
    over = λ i x own at stays fin.
        let k = h.over i x (sym instance ∙ own) at (sym left ∙ stays) fin in
        subst (λ (n : ℕ). IsOverThere (function_at m n) c.block c.at c.mode) (sym func) (record {
          after = after_edge (function_at m a.func) (point_of_act a) (point_of_act c) k.after edge;
          calm = λ from label is. k.calm from label (sym mode ∙ is);
        });
  }

  -- it goes on behind an instruction
  behind : (xs : List Instance) (a c : Activation) (i : Instr)
      → fetch (function_at m a.func) a.block a.at ≡ AtInstr i → c.func ≡ a.func → c.instance ≡ a.instance
      → c.has_left ≡ a.has_left → c.mode ≡ a.mode → c.block ≡ a.block → c.at ≡ a.at + 1 → Goes xs a → Goes xs c
  behind xs a c i there func instance left mode block at h =
      along xs a c func instance left mode
      (subst (λ (p : Point). has_point (nexts (function_at m a.func) (point_of_act a)) p ≡ true)
      (λ j. record { block = sym block j; at = sym at j })
      (next_edge (function_at m a.func) a.block a.at i there)) h

  -- its instance isn't Finished
  running : (xs : List Instance) (n : ℕ) (x : Instance) (c : Activation) → c.instance ≡ Some n
      → slice_get xs n ≡ Some x → is_finished x.status ≡ false → Goes xs c
  running xs n x c own at goes = record {
    over = λ i y own' at' stays fin.
        let number : n ≡ i = same n i (sym own ∙ own') in
        let instance : x ≡ y = one x y (sym at ∙ (ap (slice_get xs) number ∙ at')) in
        absurd (not_both (is_finished y.status) fin (ap (λ (z : Instance). is_finished z.status)
        (sym instance) ∙ goes));
  }
    where
      same : (a b : ℕ) → Some a ≡ Some b → a ≡ b
      same a b e = cc

      one : (a b : Instance) → Some a ≡ Some b → a ≡ b
      one a b e = cc

  has_left : (xs : List Instance) (c : Activation) → c.has_left ≡ true → Goes xs c
  has_left xs c left = record {
    over = λ i x own at stays fin. absurd (not_both c.has_left left stays);
  }

  alone : (xs : List Instance) (c : Activation) → c.instance ≡ None → Goes xs c
  alone xs c none = record { over = λ i x own at stays fin. absurd (never i (sym none ∙ own)) }
    where
      never : (i : ℕ) → None ≡ Some i → ⊥
      never i e = cc

  -- with other values
  with_values : (xs : List Instance) (a : Activation) (values : Env) → Goes xs a → Goes xs (record a {
    values =
        values;
  })
  with_values xs a values h = record { over = h.over }

  -- ---- instances change

  module _ (xs : List Instance) (n : ℕ) (x new : Instance) (there : slice_get xs n ≡ Some x) where
    abbrev ys : List Instance
    ys = slice_set xs n new

    -- one activation, whose instance ends only where that is told
    set_for : (b : Activation)
        → (b.instance ≡ Some n → b.has_left ≡ false → is_finished new.status ≡ true
        → IsOverThere (function_at m b.func) b.block b.at b.mode) → Goes xs b → Goes ys b
    set_for b own_ends h = record {
      over = λ j y own at stays fin. by j y own stays fin (was_set xs n x new there j y at);
    }
      where
        by : (j : ℕ) (y : Instance) → b.instance ≡ Some j → b.has_left ≡ false → is_finished y.status ≡ true
            → WasSet xs n new j y → IsOverThere (function_at m b.func) b.block b.at b.mode
        by j y own stays fin was = which was.is
          where
            which : ((j ≡ n) × (y ≡ new)) ⊎ ((j ≢ n) × (y ≡ was.was))
                → IsOverThere (function_at m b.func) b.block b.at b.mode
            which (inl k) =
                own_ends (own ∙ ap Some k.0) stays
                (ap (λ (z : Instance). is_finished z.status) (sym k.1) ∙ fin)
            which (inr k) =
                h.over j was.was own was.at stays (ap (λ (z : Instance). is_finished z.status) (sym k.1) ∙ fin)

    -- the instance isn't Finished if it wasn't before
    set_one : (is_finished new.status ≡ true → is_finished x.status ≡ true) → (b : Activation) → Goes xs b → Goes ys b
    set_one before b h = set_for b (λ own stays fin. h.over n x own there stays (before fin)) h

    pub set_all : (is_finished new.status ≡ true → is_finished x.status ≡ true) → (bs : List Activation)
        → Each (Goes xs) bs → Each (Goes ys) bs
    set_all before bs h = each_as (Goes xs) (Goes ys) (set_one before) bs h

    -- all activations of the instance have left
    pub left_all : (bs : List Activation) → HaveLeft n bs → Each (Goes xs) bs → Each (Goes ys) bs
    left_all [] left h = tt
    left_all (b ∷ bs) left h = (
      set_for b (λ own stays fin. absurd (not_both b.has_left (left.0 own) stays)) h.0,
      left_all bs left.1 h.1,
    )

  -- a new instance that runs
  begun_all : (xs : List Instance) (first new : Instance) → is_finished first.status ≡ false
      → is_finished new.status ≡ false → (bs : List Activation) → Each (Goes xs) bs
      → Each (Goes (slice_set (xs ++ first ∷ []) (length xs) new)) bs
  begun_all xs first new calm goes bs h =
      set_all (xs ++ first ∷ []) (length xs) first new (get_last xs first)
      (λ fin. absurd (not_both (is_finished new.status) fin goes)) bs
      (each_as (Goes xs) (Goes (xs ++ first ∷ [])) longer bs h)
    where
      longer : (b : Activation) → Goes xs b → Goes (xs ++ first ∷ []) b
      longer b k = record {
        over = λ i y own at stays fin. by i y own stays fin (end_or_before xs first y i at);
      }
        where
          by : (i : ℕ) (y : Instance) → b.instance ≡ Some i → b.has_left ≡ false → is_finished y.status ≡ true
              → ((i ≡ length xs) × (y ≡ first)) ⊎ (slice_get xs i ≡ Some y)
              → IsOverThere (function_at m b.func) b.block b.at b.mode
          by i y own stays fin (inl last) =
              absurd (not_both (is_finished y.status) fin
              (ap (λ (z : Instance). is_finished z.status) last.1 ∙ calm))
          by i y own stays fin (inr old) = k.over i y own old stays fin

-- ---- at the end

disowned_same : (s : State) (o : Option (ℕ × Instance)) → (disown_given s o).instances ≡ s.instances
disowned_same s None = refl
disowned_same s (Some (i, x)) = on (is_stack_block s.world.memory x.block && (x.start == 0))
  where
    on : (t : Bool) → (if t then with_memory s (disown s.world.memory x.block) else s).instances ≡ s.instances
    on true = refl
    on false = refl

-- the activations below, where the topmost one's instance ends
ended_below : (m : Module) (s : State) → IsLastState s → Each (GoesOnTillEnd m s.instances) s.below
    → Each (GoesOnTillEnd m (ended s).instances) s.below
ended_below m s last h = on s.top.has_left
  where
    finished : (o : Option (ℕ × Instance)) → own_instance s ≡ o
        → Each (GoesOnTillEnd m (change_own s (λ x. record x { status = Status.Finished }) o).instances) s.below
    finished None eo = h
    finished (Some (i, x)) eo =
        let own = own_number s i x eo in
        left_all m s.instances i x (record x { status = Status.Finished }) own.1 s.below (last.1 i own.0) h

    on : (t : Bool) → Each (GoesOnTillEnd m (if t then s else framed_finish s).instances) s.below
    on true = h
    on false =
        subst (λ (xs : List Instance). Each (GoesOnTillEnd m xs) s.below)
        (sym (disowned_same (finish s) (own_instance s))) (finished (own_instance s) refl)

-- ---- steps

module _ (g : FramedGiven) where
  abbrev m : Module
  m = g.given.code

  -- what else holds of the states
  pub record IsPlainState (s : State) : Type 0 where
    pub last : IsLastState s
    pub modes : KnowModes m s

  abbrev On : State → Type 0
  On s = Each (GoesOnTillEnd m s.instances) (s.top ∷ s.below)

  abbrev waiting : State → Activation
  waiting s = record s.top { at = s.top.at + 1 }

  module _ (s : State) (h : On s) where
    waits : (i : Instr) → fetch (function_of g.given s) s.top.block s.top.at ≡ AtInstr i
        → Each (GoesOnTillEnd m s.instances) (waiting s ∷ s.below)
    waits i there = (behind m s.instances s.top (waiting s) i there refl refl refl refl refl refl h.0, h.1)

    -- behind an instruction, with the same instances
    further : (i : Instr) → fetch (function_of g.given s) s.top.block s.top.at ≡ AtInstr i → (c : Activation)
        → c.func ≡ s.top.func → c.instance ≡ s.top.instance → c.has_left ≡ s.top.has_left → c.mode ≡ s.top.mode
        → c.block ≡ s.top.block → c.at ≡ s.top.at + 1 → Each (GoesOnTillEnd m s.instances) (c ∷ s.below)
    further i there c func instance left mode block at =
        (behind m s.instances s.top c i there func instance left mode block at h.0, h.1)

    changed : (n : ℕ) (x new : Instance) → slice_get s.instances n ≡ Some x
        → (is_finished new.status ≡ true → is_finished x.status ≡ true)
        → Each (GoesOnTillEnd m (slice_set s.instances n new)) (s.top ∷ s.below)
    changed n x new there before = set_all m s.instances n x new there before (s.top ∷ s.below) h

  came : (s : State) (v : Option Value) (u : State) → Comes s v u → Each (GoesOnTillEnd m s.instances) s.below
      → GoOnTillEnd m u
  came s v u (Comes.Ends k) h runs =
      absurd (over k.outcome k.ends (sym (ap (λ (z : State). z.outcome) k.is) ∙ runs))
    where
      over : (o : Outcome) → IsReturned o → o ≡ Outcome.Running → ⊥
      over o ends runs = subst IsReturned runs ends
  came s v u (Comes.Back k) h runs =
      let rest = subst (λ (bs : List Activation). Each (GoesOnTillEnd m s.instances) bs) k.below h in
      subst On (sym k.is)
      (with_values m s.instances k.caller (given_back k.caller s.top.result v).values rest.0, rest.1)

  abbrev sleeping : State → Instance → Point → Point → Instance
  sleeping s x save suspend =
      record x {
        status = Status.Suspended suspend s.top.values;
        last_save = Some (record { depth = length s.below; save = save });
      }

  pub goes_on : (s u : State) → s.outcome ≡ Outcome.Running → IsPlainState s → GoOnTillEnd m s → LeadsTo g s u
      → GoOnTillEnd m u
  goes_on s _ runs q all (LeadsTo.Works w acts) now =
      let h = all runs in
      let i = instr_of g s (Done w) acts refl in
      further s h i.instr (acts.there ∙ i.is) (settled s w).top refl refl refl refl refl refl
  goes_on s _ runs q all (LeadsTo.MakesSlot w slot acts) now = by s.top.mode refl
    where
      h : On s
      h = all runs

      z : State
      z = settled s w

      z' : State
      z' = with_slots z (slot ∷ s.top.slots)

      none : On z'
      none =
          let i = instr_of g s (NewSlot w slot) acts refl in
          further s h i.instr (acts.there ∙ i.is) z'.top refl refl refl refl refl refl

      -- one that executes its allocas again isn't over
      entering : (from label : ℕ) → s.top.mode ≡ Mode.Entering from label → (c : Activation)
          → c.instance ≡ s.top.instance → c.has_left ≡ s.top.has_left → GoesOnTillEnd m s.instances c
      entering from label is c instance left = record {
        over = λ i x own at stays fin.
            absurd ((h.0.over i x (sym instance ∙ own) at (sym left ∙ stays) fin).calm from label is);
      }

      by : (mode : Mode) → s.top.mode ≡ mode → On (framed_slot g z slot mode)
      by Mode.Plain is = none
      by Mode.Ramp is = none
      by Mode.Resumed is = none
      by (Mode.GivenRamp frame) is = none
      by (Mode.Entering from label) is = after (alloca_from (function_of g.given s) (s.top.at + 1))
        where
          after : (o : Option Point) → On (enter_after g z' from label o)
          after None = (entering from label is (enter_after g z' from label None).top refl refl, h.1)
          after (Some p) = (entering from label is (enter_after g z' from label (Some p)).top refl refl, h.1)
  goes_on s _ runs q all (LeadsTo.Enters func args result must_tail acts) now =
      let h = all runs in
      let i = instr_of g s (Enter func args result must_tail) acts refl in (
        alone m s.instances (called m func args result (mode_of (function_at m func))) refl,
        waits s h i.instr (acts.there ∙ i.is),
      )
  goes_on s _ runs q all (LeadsTo.EntersGiven func result args calls) now =
      let h = all runs in
      let vs = arg_values m s.top.values args in (
        alone m s.instances (called m func vs result (Mode.GivenRamp (last_value vs))) refl,
        waits s h _ calls.there,
      )
  goes_on s _ runs q all (LeadsTo.Answers j args result v acts) now =
      let h = all runs in
      let i = instr_of g s (Coro j args result) acts refl in
      further s h i.instr (acts.there ∙ i.is) (gives s result v).top refl refl refl refl refl refl
  goes_on s _ runs q all (LeadsTo.Passes j args result acts) now =
      let h = all runs in
      let i = instr_of g s (Coro j args result) acts refl in
      further s h i.instr (acts.there ∙ i.is) (next s).top refl refl refl refl refl refl
  goes_on s _ runs q all (LeadsTo.Begins args result mem memory block start acts alone taken) now = (
    running m (u.instances) (length s.instances) new u.top refl
        (new_there (s.instances ++ first ∷ []) (length s.instances) first new (get_last s.instances first)) refl,
    begun_all m s.instances first new refl refl s.below (all runs).1,
  )
    where
      first : Instance
      first = new_instance s.top.func block start

      u : State
      u = gives (begun g.given (with_memory s memory) block start) result mem

      new : Instance
      new =
          record first {
            slots = filter (λ slot. not (is_among (own_facts g.given s).ramp_slots slot)) s.top.slots ++ [];
          }
  goes_on s _ runs q all (LeadsTo.Releases args result v acts) now =
      by (own_instance s) refl
    where
      h : On s
      h = all runs

      by : (o : Option (ℕ × Instance)) → own_instance s ≡ o
          → On (gives (change_own s (λ x. record x { released = true }) o) result v)
      by None eo =
          let i = instr_of g s (Coro Intrinsic.CoroFree args result) acts refl in
          further s h i.instr (acts.there ∙ i.is) (gives s result v).top refl refl refl refl refl refl
      by (Some (n, x)) eo =
          let i = instr_of g s (Coro Intrinsic.CoroFree args result) acts refl in
          let z = with_instance s n (record x { released = true }) in
          further z (changed s h n x (record x { released = true }) (own_number s n x eo).1 (λ fin. fin)) i.instr
          (acts.there ∙ i.is) (gives z result v).top refl refl refl refl refl refl
  goes_on s _ runs q all (LeadsTo.Saves args result n x save suspend acts own unfreed) now = (
    has_left m (saved_at s n x save suspend).instances (next (saved_at s n x save suspend)).top refl,
    (changed s (all runs) n x (sleeping s x save suspend) (own_number s n x own).1 (λ fin. absurd (cc))).1,
  )
  goes_on s _ runs q all (LeadsTo.Suspends args result n x save suspend acts own unfreed) now = (
    has_left m (saved_at s n x save suspend).instances
        (gives (saved_at s n x save suspend) result (integer 8 (negsuc 0))).top refl,
    (changed s (all runs) n x (sleeping s x save suspend) (own_number s n x own).1 (λ fin. absurd (cc))).1,
  )
  goes_on s _ runs q all (LeadsTo.Wakes j args result y label acts sleeps) now =
      subst (λ (xs : List Instance). Each (GoesOnTillEnd m xs) (u.top ∷ u.below)) (sym k.instances) (
        running m z.instances y.number new u.top k.instance
            (new_there s.instances y.number y.instance new sleeper.there) refl,
        subst (λ (bs : List Activation). Each (GoesOnTillEnd m z.instances) bs) (sym k.below)
            (set_all m s.instances y.number y.instance new sleeper.there (λ fin. absurd (cc)) (waiting s ∷ s.below)
            (waits s (all runs) i.instr (acts.there ∙ i.is))),
      )
    where
      u : State
      u = continue_framed g s y.number y.instance y.suspend y.values label

      z : State
      z = with_status s y.number y.instance Status.Running

      new : Instance
      new = record y.instance { status = Status.Running }

      k : StaysOn (woken_at g s y.number y.instance y.suspend) u
      k = woken_on g s y.number y.instance y.suspend y.values label

      sleeper : IsAsleep s y
      sleeper = asleep s (nth (arg_values m s.top.values args) 0) y sleeps

      i : IsInstr acts.here
      i = instr_of g s (Coro j args result) acts refl
  goes_on s _ runs q all (LeadsTo.EndsRamp args result acts ramp) now = (
    record { over = λ i x own at stays fin. there },
    subst (λ (bs : List Activation). Each (GoesOnTillEnd m (ended s).instances) bs) (sym k.below)
        (ended_below m s q.last (all runs).1),
  )
    where
      u : State
      u = gives (ended s) result (truth_value false)

      k : SameStack s (ended s)
      k = ended_stack s

      by : CallsCoro Intrinsic.CoroEnd acts.here
      by = calls_coro g s Intrinsic.CoroEnd args result acts.here acts.acts

      call : IsCallAt Intrinsic.CoroEnd (function_of g.given s) (point_of_act s.top)
      call = record { instr = by.instr; stands = acts.there ∙ by.is; is = by.calls }

      here : IsOverThere (function_at m s.top.func) s.top.block (s.top.at + 1) s.top.mode
      here = record {
        after = end_follows (function_of g.given s) (point_of_act s.top) call
            (call_listed (function_of g.given s) Intrinsic.CoroEnd (point_of_act s.top) call);
        calm = calm_at g s _ q.modes.0 acts (λ n. n);
      }

      there : IsOverThere (function_at m u.top.func) u.top.block u.top.at u.top.mode
      there =
          subst (λ (a : Activation). IsOverThere (function_at m a.func) a.block (a.at + 1) a.mode) (sym k.top) here
  goes_on s _ runs q all (LeadsTo.EndsResumed args result u acts mode back) now =
      let k = ended_stack s in
      came (ended s) None u (comes (ended s) None u back)
      (subst (λ (bs : List Activation). Each (GoesOnTillEnd m (ended s).instances) bs) (sym k.below)
      (ended_below m s q.last (all runs).1)) now
  goes_on s _ runs q all (LeadsTo.Deallocates p memory acts dead) now = by (instance_at s.instances p) refl
    where
      h : On s
      h = all runs

      i : IsInstr acts.here
      i = instr_of g s (Deallocate p) acts refl

      by : (o : Option (ℕ × Instance)) → instance_at s.instances p ≡ o → On (next (with_memory (if_let_go s o) memory))
      by None eo =
          further s h i.instr (acts.there ∙ i.is) (next (with_memory s memory)).top refl refl refl refl refl refl
      by (Some (n, x)) eo = on (may_be_freed x)
        where
          on : (t : Bool) → On (next (with_memory (if t then let_go s n x else s) memory))
          on false =
              further s h i.instr (acts.there ∙ i.is) (next (with_memory s memory)).top refl refl refl refl refl refl
          on true =
              let z = with_instance s n (record x { freed = true }) in
              further z (changed s h n x (record x { freed = true }) (at_is s.instances p n x eo) (λ fin. fin)) i.instr
              (acts.there ∙ i.is) (next z).top refl refl refl refl refl refl
  goes_on s _ runs q all (LeadsTo.GoesTo label acts none) now =
      let h = all runs in
      let to = subst (BranchesTo label) (sym acts.there) (branches_to g s label acts) in (
        along m s.instances s.top (enter_block g.given s label).top refl refl refl refl
            (branch_edge (function_of g.given s) s.top.block s.top.at label to).edge h.0,
        h.1,
      )
  goes_on s _ runs q all (LeadsTo.Leaves label w ws n x acts leaves own may) now =
      let h = all runs in
      let at = own_number s n x own in
      let new = record x { status = Status.Running } in (
        running m (slice_set s.instances n new) n new
            (enter_block g.given (with_left (with_status s n x Status.Running) false) label).top at.0
            (new_there s.instances n x new at.1) refl,
        (changed s h n x new at.1 (λ fin. absurd (cc))).1,
      )
  goes_on s _ runs q all (LeadsTo.Returns v u acts back) now = came s v u (comes s v u back) (all runs).1 now

  -- ---- runs

  pub last_in_runs : (entry : ℕ) (args : List Word) (n : ℕ) → IsLastState (framed_state_at g entry args n)
  last_in_runs entry args n =
      subst IsLastState
      (sym (same_runs (framed_step g) (step_of (framed_hooks g)) (framed_steps g) n (first_state m entry args)))
      (states_last (framed_hooks g) (framed_keeps_last g) entry args n)

  pub goes_in_runs : AllHaveSwitches m → (entry : ℕ) (args : List Word) → (function_at m entry).coroutine ≡ false
      → (n : ℕ) → IsFine (framed_state_at g entry args n).outcome → GoOnTillEnd m (framed_state_at g entry args n)
  goes_in_runs switches entry args plain n fine =
      runs_keep g (GoOnTillEnd m) IsPlainState goes_on entry args
      (λ runs. (alone m [] (first_state m entry args).top refl, tt))
      (λ k ok. record { last = last_in_runs entry args k; modes = modes_in_runs g switches entry args plain k ok }) n
      fine
