-- A run and that with the names in order go side by side, one step with one.
use Rattle.std.proofs.Common.{◌≡◌, ℕ, inl, List, [], ◌∷◌, length, Option, Some, None, Result, Ok, Err, refl, sym, ap, ◌∙◌, subst, arith}
use Rattle.std.specs.Prelude.{ℤ, if◌then◌else◌, map, slice_get}
use Rattle.pass_proofs.proofs.run_agreement.Lockstep.{Advance, ShowsSame, Simulates, lockstep_one, lockstep_within}
use Rattle.pass_proofs.proofs.run_agreement.Costs.{weaken_by}
use Rattle.pass_proofs.specs.run_agreement.Agreements.{AgreesWithin}
use Rattle.pass_proofs.specs.run_agreement.Costs.{AgreesBy}
use Rattle.pass_proofs.specs.run_agreement.Machines.{IsFine, IsRunning, Machine}
use Rattle.pass_proofs.specs.run_memory.Memory.{access_bytes, encode, owner_rights}
use Rattle.pass_proofs.specs.run_memory.declared.block.Kind.{Kind}
use Rattle.pass_proofs.specs.run_memory.declared.block.Life.{Life}
use Rattle.pass_proofs.specs.run_memory.declared.block.MemoryBlock.{MemoryBlock}
use Rattle.pass_proofs.specs.run_memory.declared.pointer.Value.{Value}
use Rattle.ir_base.specs.declared.cause.Cause.{Cause}
use Rattle.ir_base.specs.declared.outcome.Event.{Event}
use Rattle.ir_base.specs.declared.outcome.Outcome.{Outcome}
use Rattle.ir_base.specs.declared.outcome.Word.{Word}
use Rattle.ir_model.specs.Names.{function_at}
use Rattle.ir_model.specs.Ty.{Ty}
use Rattle.ir_model.specs.declared.module.Block.{Block}
use Rattle.ir_model.specs.declared.module.Function.{Function}
use Rattle.ir_model.specs.declared.module.GlobalItem.{GlobalItem}
use Rattle.ir_model.specs.declared.module.Module.{Module}
use Rattle.ir_model.specs.declared.operand.Operand.{Operand}
use Rattle.compiler.specs.order.meaning.Beside.{IsInOrderOf, IsOrdered}
use Rattle.text_canonical.specs.order.Order.{function_order, module_order}
use Rattle.pass_proofs.proofs.run_states.order_meaning.Actions.{MovedAction, action_moved}
use Rattle.compiler.proofs.order.meaning.Modules.{are_like, fetch_same, found_alike, function_there}
use Rattle.pass_proofs.proofs.run_states.order_meaning.Moved.{operand_moved}
use Rattle.compiler.proofs.order.meaning.States.{Goes, Related, act_goes, entered, given_by, instr_held, state_like}
use Rattle.pass_proofs.specs.run_step.Runs.{SeenEvent, seen_event, seen_of}
use Rattle.pass_proofs.specs.run_step.Step.{Action, Fetched, action_of, entry_values, fetch, fetch_in, global_block, is_alignment}
use Rattle.pass_proofs.specs.run_step.Values.{access_of, operand_value, stored}
use Rattle.run_plain.specs.Plain.{PlainAt, PlainGiven, plain_act, plain_advance, plain_context, plain_first, plain_function, plain_or_undefined, plain_step, plain_work}
use Rattle.run_plain.specs.declared.state.PlainState.{PlainState}

module _ (m : Module) (answers : List ℤ) (ordered : (func : ℕ) → IsOrdered (function_at m func)) where
  abbrev n : Module
  n = module_order m

  abbrev g : PlainGiven
  g = given_by m answers

  abbrev k : PlainGiven
  k = given_by n answers

  abbrev R : PlainState → PlainState → Type 0
  R s t = Related m answers ordered s t

  abbrev to_in : ℕ → ℕ → ℕ
  to_in func = (ordered func).renumbered.to

  -- ---- the action

  -- what comes of what stands at a place of a function
  abbrev action_in : PlainGiven → Function → PlainState → Action
  action_in x f s = action_of (record { code = x.code; answers = x.answers; rights = owner_rights; function = f }) (plain_work s) (fetch f s.top.block s.top.at)

  abbrev first_action : PlainState → Action
  first_action s = action_in g (function_at m s.top.func) s

  abbrev second_action : PlainState → Action
  second_action t = action_in k (function_at n t.top.func) t

  abbrev AreActions : ℕ → Action → Action → Type 0
  AreActions func a b = MovedAction (to_in func) (length (function_at m func).names) (length (function_order (function_at m func)).names) a b

  actions : (s t : PlainState) (r : R s t) → AreActions s.top.func (first_action s) (second_action (state_like m answers ordered s r.values r.result r.below))
  actions s t r =
      subst (λ (f : Function). AreActions s.top.func (first_action s) (action_in k f (state_like m answers ordered s r.values r.result r.below))) (sym (function_there m s.top.func))
      (subst (λ (x : Fetched). AreActions s.top.func (first_action s) (action_of (record { code = n; answers = answers; rights = owner_rights; function = function_order (function_at m s.top.func) }) (record { world = s.world; values = r.values }) x))
      (sym (ap (λ (f : Function). fetch f s.top.block s.top.at) (ordered s.top.func).renumbered.is ∙ fetch_same (to_in s.top.func) (ordered s.top.func).renumbered.apart (function_order (function_at m s.top.func)).names (function_at m s.top.func) s.top.block s.top.at))
      (action_moved m (map function_order m.functions) (function_at m s.top.func) (function_order (function_at m s.top.func)) (to_in s.top.func) (ordered s.top.func).renumbered.apart (length (function_at m s.top.func).names) (length (function_order (function_at m s.top.func)).names)
      (are_like m (function_at m s.top.func) (ordered s.top.func).renumbered) answers owner_rights s.world s.top.values r.values r.same (fetch (function_at m s.top.func) s.top.block s.top.at) (instr_held m answers ordered s.top.func s.top.block s.top.at)))

  -- ---- a step

  abbrev GoesOn : PlainState → PlainState → Type 0
  GoesOn s t = Goes m answers ordered (plain_act g s (first_action s)) (plain_act k t (second_action t))

  goes_on : (s t : PlainState) (r : R s t) → GoesOn s t
  goes_on s t r = subst (λ (x : PlainState). GoesOn s x) (sym r.is) (on (slice_get (function_at m s.top.func).blocks s.top.block) refl)
    where
      on : (o : Option Block) → slice_get (function_at m s.top.func).blocks s.top.block ≡ o → GoesOn s (state_like m answers ordered s r.values r.result r.below)
      on None e =
          subst (λ (o : Option Block). Goes m answers ordered (plain_act g s (action_of (plain_context g s) (plain_work s) (fetch_in o s.top.at))) (plain_act k (state_like m answers ordered s r.values r.result r.below) (second_action (state_like m answers ordered s r.values r.result r.below)))) (sym e) tt
      on (Some b) e = act_goes m answers ordered s r.values r.result r.below r.same r.acts b e (first_action s) (second_action (state_like m answers ordered s r.values r.result r.below)) (actions s t r)

  related_or : (s t : PlainState) (a b : Result PlainState Cause) → Goes m answers ordered a b → IsFine (plain_or_undefined g s a).outcome → R (plain_or_undefined g s a) (plain_or_undefined k t b)
  related_or s t (Err cause) b h fine = absurd fine
  related_or s t (Ok u) (Err cause) h fine = absurd h
  related_or s t (Ok u) (Ok v) h fine = h

  same_outcome : (s t : PlainState) → R s t → t.outcome ≡ s.outcome
  same_outcome s t r = ap (λ (x : PlainState). x.outcome) r.is

  running_is : (o : Outcome) → IsRunning o → o ≡ Outcome.Running
  running_is (Outcome.Returned v) h = absurd h
  running_is Outcome.Running h = refl
  running_is (Outcome.Undefined cause place) h = absurd h

  step_is : (x : PlainGiven) (s : PlainState) → s.outcome ≡ Outcome.Running → plain_step x s ≡ plain_or_undefined x s (plain_act x s (action_in x (plain_function x s) s))
  step_is x s e = ap (plain_advance x s) e

  step_related : (s t : PlainState) → R s t → s.outcome ≡ Outcome.Running → IsFine (plain_step g s).outcome → R (plain_step g s) (plain_step k t)
  step_related s t r e fine =
      subst (λ (p : PlainState × PlainState). R p.0 p.1) (sym (λ i. (step_is g s e i, step_is k t (same_outcome s t r ∙ e) i)))
      (related_or s t (plain_act g s (first_action s)) (plain_act k t (second_action t)) (goes_on s t r) (subst (λ (x : PlainState). IsFine x.outcome) (step_is g s e) fine))

  stays_by : (x : PlainGiven) (s : PlainState) (o : Outcome) → (IsRunning o → ⊥) → plain_advance x s o ≡ s
  stays_by x s (Outcome.Returned v) h = refl
  stays_by x s Outcome.Running h = absurd (h tt)
  stays_by x s (Outcome.Undefined cause place) h = refl

  -- ---- the two machines

  module _ (entry : ℕ) (args : List Word) where
    abbrev A : Machine PlainState
    A = record { start = plain_first m entry args; step = plain_step g; seen = λ s. seen_of m s.world s.outcome }

    abbrev B : Machine PlainState
    B = record { start = plain_first n entry args; step = plain_step k; seen = λ s. seen_of n s.world s.outcome }

    abbrev none : PlainState → ℕ
    none s = 0

    events_seen : (es : List Event) → map (seen_event n) es ≡ map (seen_event m) es
    events_seen [] = refl
    events_seen (e ∷ es) = ap (λ (xs : List SeenEvent). seen_event m e ∷ xs) (events_seen es)

    shows : (s t : PlainState) → R s t → ShowsSame (B.seen t) (A.seen s)
    shows s t r = record {
      events = ap (λ (x : PlainState). map (seen_event n) x.world.events) r.is ∙ events_seen s.world.events;
      outcome = same_outcome s t r;
    }

    advance : (s t : PlainState) → R s t → IsRunning s.outcome → IsFine (plain_step g s).outcome → Advance A B 1 R none s t
    advance s t r runs fine = record {
      steps = 1;
      few = omega arith;
      goes_on = inl (omega arith);
      between = λ i low high. absurd (omega arith);
      related = step_related s t r (running_is s.outcome runs) fine;
    }

    initial_same : (ty : Ty) (x : Operand) → operand_value n [] ty x ≡ operand_value m [] ty x
    initial_same ty (Operand.Global x) = operand_moved m (map function_order m.functions) (found_alike m) (λ v. v) [] [] (λ v. refl) ty (Operand.Global x)
    initial_same ty (Operand.Local v) = refl
    initial_same ty (Operand.Number z) = refl
    initial_same ty Operand.True = refl
    initial_same ty Operand.False = refl
    initial_same ty Operand.Null = refl
    initial_same ty Operand.None = refl
    initial_same ty Operand.Poison = refl

    abbrev filled : GlobalItem → Value → MemoryBlock
    filled x v =
        record {
          size = access_bytes (access_of x.ty);
          align = if is_alignment x.align then x.align else 1;
          kind = if x.constant then Kind.Constant else Kind.Global;
          life = Life.Live;
          owned = None;
          bytes = encode (access_bytes (access_of x.ty)) (stored (access_of x.ty) v);
        }

    globals_same : (xs : List GlobalItem) → map (global_block n) xs ≡ map (global_block m) xs
    globals_same [] = refl
    globals_same (x ∷ xs) = λ i. filled x (initial_same x.ty x.init i) ∷ globals_same xs i

    first_related : R (plain_first m entry args) (plain_first n entry args)
    first_related = record {
      values = entry_values (function_at n entry) (map Value.Int args);
      result = None;
      below = [];
      is = ap (λ (memory : List MemoryBlock). record (plain_first n entry args) { world = record (plain_first n entry args).world { memory = memory } }) (globals_same m.globals);
      same = entered m answers ordered entry (map Value.Int args);
      acts = tt;
    }

    simulates : Simulates A B 1 R none
    simulates = record {
      begin = first_related;
      same = shows;
      advance = advance;
      stays_a = λ s h. stays_by g s s.outcome h;
      stays_b = λ s h. stays_by k s s.outcome h;
    }

    pub agrees : AgreesWithin 1 (PlainAt m entry args answers) (PlainAt n entry args answers)
    agrees = lockstep_within A B 1 R none simulates (λ s t r. sym (ap (λ (x : PlainState). x.world.allocs) r.is))

    pub corresponds : AgreesBy (IsInOrderOf m) (IsInOrderOf m) A (λ s. 1) B (λ t. 1)
    corresponds =
        weaken_by R R (IsInOrderOf m) (IsInOrderOf m) A (λ s. 1) (λ s. 1) B (λ t. 1) (λ t. 1)
        (λ s t r. record { ordered = ordered; beside = r }) (λ s t r. record { ordered = ordered; beside = r })
        (λ n fine. omega arith) (λ n. omega arith)
        (lockstep_one A B R none simulates (λ s t r. sym (ap (λ (x : PlainState). x.world.allocs) r.is)))
