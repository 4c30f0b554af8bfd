-- States of a run and of that with the names in order: values, slots and results at other names.
use Rattle.std.proofs.Common.{◌≡◌, ℕ, zero, suc, ◌+◌, Bool, true, false, List, [], ◌∷◌, length, Option, Some, None, Result, Ok, Err, refl, sym, ap, ◌∙◌, subst}
use Rattle.std.proofs.lemmas.List.{length-replicate}
use Rattle.std.specs.Prelude.{ℤ, ◌==◌, if◌then◌else◌, map, option_map, replicate, slice_get, unwrap_or}
use Rattle.pass_proofs.specs.run_memory.Memory.{killed}
use Rattle.pass_proofs.specs.run_memory.declared.block.MemoryBlock.{MemoryBlock}
use Rattle.pass_proofs.specs.run_memory.declared.pointer.Value.{Value}
use Rattle.ir_base.specs.declared.cause.Cause.{Cause}
use Rattle.ir_base.specs.declared.outcome.Outcome.{Outcome}
use Rattle.ir_model.specs.Names.{function_at, is_noalloc, position_of}
use Rattle.ir_model.specs.declared.instr.Instr.{Instr}
use Rattle.ir_model.specs.declared.instr.Phi.{Phi}
use Rattle.ir_model.specs.declared.module.Block.{Block}
use Rattle.ir_model.specs.declared.module.Function.{Function}
use Rattle.ir_model.specs.declared.module.Module.{Module}
use Rattle.ir_model.specs.declared.operand.Intrinsic.{Intrinsic}
pub use Rattle.compiler.specs.order.meaning.Beside.{AreOrderedBelow, HeldIn, HeldResultIn, IsBlockHeld, IsOrdered, IsOrderedOf, MovedIn, ordered_like, ordered_state}
use Rattle.pass_proofs.specs.ir_laws.facts.order_rules.Renumbered.{renumbered_block, renumbered_function}
use Rattle.text_canonical.specs.order.Order.{function_order, module_order}
use Rattle.text_canonical.specs.order.Shape.{Each}
use Rattle.pass_proofs.proofs.run_states.order_meaning.Actions.{MovedAction}
use Rattle.pass_proofs.specs.ir_laws.paths.order_meaning.Beside.{moved_slot}
use Rattle.compiler.proofs.order.meaning.Modules.{block_there, found_alike, function_there, position_same}
use Rattle.pass_proofs.proofs.run_states.order_meaning.Moved.{params_moved, phis_moved, result_moved}
use Rattle.pass_proofs.specs.run_step.Results.{and_then}
use Rattle.pass_proofs.specs.run_step.Step.{Action, Coro, Deallocate, Done, Enter, GoTo, NewSlot, Return, Stuck, Work, deallocated, entry_values, fetch, fetch_in, fetch_or, label_of, outcome_of, phis_of, risen, set_memory, values_in, without_slots}
use Rattle.pass_proofs.specs.run_step.Values.{Env, value_in, with_result}
use Rattle.pass_proofs.specs.run_step.declared.world.Slot.{Slot}
use Rattle.run_plain.specs.Plain.{PlainGiven, counted, plain_act, plain_call, plain_called, plain_coro, plain_go_to, plain_pop, plain_returned, plain_settled, plain_work}
use Rattle.run_plain.specs.declared.state.PlainActivation.{PlainActivation}
use Rattle.run_plain.specs.declared.state.PlainState.{PlainState}
use Rattle.pass_proofs.specs.run_laws.changed.Changed.{result_at, result_of}

abbrev pub given_by : Module → List ℤ → PlainGiven
given_by m answers = record { code = m; answers = answers }

poison_there : (n v : ℕ) → value_in (replicate n None) v ≡ Value.Poison
poison_there zero v = refl
poison_there (suc n) zero = refl
poison_there (suc n) (suc v) = poison_there n v

-- slots die alike
slots_same : (to : ℕ → ℕ) (memory : List MemoryBlock) (slots : List Slot) → without_slots memory (map (moved_slot to) slots) ≡ without_slots memory slots
slots_same to memory [] = refl
slots_same to memory (s ∷ slots) = slots_same to (killed memory s.block) slots

module _ (m : Module) (answers : List ℤ) (ordered : (func : ℕ) → IsOrdered (function_at m func)) where
  abbrev n : Module
  n = module_order m

  abbrev g : PlainGiven
  g = given_by m answers

  abbrev k : PlainGiven
  k = given_by n answers

  abbrev to_in : ℕ → ℕ → ℕ
  to_in func = (ordered func).renumbered.to

  abbrev MovedAt : ℕ → Env → Env → Type 0
  MovedAt func vs ws = MovedIn (to_in func) (function_at m func) vs ws

  abbrev HeldAt : ℕ → Option ℕ → Type 0
  HeldAt func r = HeldResultIn (to_in func) (function_at m func) r

  abbrev pub like : PlainActivation → Env → Option ℕ → PlainActivation
  like = ordered_like m ordered

  abbrev pub AreBelow : Option ℕ → Option ℕ → List PlainActivation → List PlainActivation → Type 0
  AreBelow = AreOrderedBelow m ordered

  abbrev pub state_like : PlainState → Env → Option ℕ → List PlainActivation → PlainState
  state_like = ordered_state m ordered

  abbrev pub Related : PlainState → PlainState → Type 0
  Related = IsOrderedOf m ordered

  -- where the first goes on, the second goes on to a related state
  abbrev pub Goes : Result PlainState Cause → Result PlainState Cause → Type 0
  Goes (Err cause) r = Unit {0}
  Goes (Ok s) (Err cause) = ⊥
  Goes (Ok s) (Ok t) = Related s t

  -- ---- calls

  pub entered : (func : ℕ) (args : List Value) → MovedAt func (entry_values (function_at m func) args) (entry_values (function_at n func) args)
  entered func args =
      subst (λ (f : Function). MovedAt func (entry_values (function_at m func) args) (entry_values f args)) (sym (function_there m func))
      (subst (λ (f : Function). MovedAt func (entry_values (function_at m func) args) (entry_values f args)) (sym (ordered func).renumbered.is)
      (params_moved (to_in func) (ordered func).renumbered.apart (length (function_at m func).names) (length (function_order (function_at m func)).names) _ _ (function_at m func).params args
      (record {
        each = λ v. poison_there (length (function_order (function_at m func)).names) (to_in func v) ∙ sym (poison_there (length (function_at m func).names) v);
        wide = length-replicate (length (function_at m func).names) None;
        other = length-replicate (length (function_order (function_at m func)).names) None;
      })
      (ordered func).params))

  -- a call, counted
  counted_goes : (func : ℕ) (s t : PlainState) → Related s t → Related (counted g func s) (counted k func t)
  counted_goes func s t r =
      subst (λ (f : Function). Related (counted g func s) (if is_noalloc f.name then record t { elided = risen t.elided } else t)) (sym (function_there m func)) (on (is_noalloc (function_at m func).name))
    where
      on : (b : Bool) → Related (if b then record s { elided = risen s.elided } else s) (if b then record t { elided = risen t.elided } else t)
      on true = record { values = r.values; result = r.result; below = r.below; is = ap (λ (u : PlainState). record u { elided = risen u.elided }) r.is; same = r.same; acts = r.acts }
      on false = r

  -- ---- what is set is held

  each_at : {A : Type 0} (P : A → Type 0) (xs : List A) (i : ℕ) (x : A) → Each P xs → slice_get xs i ≡ Some x → P x
  each_at P [] i x h e = absurd (cc)
  each_at P (y ∷ xs) zero x h e = let z : y ≡ x = cc in subst P z h.0
  each_at P (y ∷ xs) (suc i) x h e = each_at P xs i x h.1 e

  phis_held : (func block : ℕ) → Each (λ (p : Phi). HeldIn (to_in func) (function_at m func) p.result) (phis_of (slice_get (function_at m func).blocks block))
  phis_held func block = on (slice_get (function_at m func).blocks block) refl
    where
      on : (o : Option Block) → slice_get (function_at m func).blocks block ≡ o → Each (λ (p : Phi). HeldIn (to_in func) (function_at m func) p.result) (phis_of o)
      on None e = tt
      on (Some b) e = (each_at (IsBlockHeld (to_in func) (function_at m func)) (function_at m func).blocks block b (ordered func).blocks e).0

  pub instr_held : (func block at : ℕ) → HeldAt func (result_at (fetch (function_at m func) block at))
  instr_held func block at = on (slice_get (function_at m func).blocks block) refl
    where
      here : (o : Option Instr) (last : Bool) (b : Block) → ((i : Instr) → o ≡ Some i → HeldAt func (result_of i)) → HeldAt func (result_at (fetch_or o last b.term))
      here (Some i) last b h = h i refl
      here None true b h = tt
      here None false b h = tt

      on : (o : Option Block) → slice_get (function_at m func).blocks block ≡ o → HeldAt func (result_at (fetch_in o at))
      on None e = tt
      on (Some b) e =
          here (slice_get b.instrs at) (at == length b.instrs) b
          (λ i d. each_at (λ (x : Instr). HeldAt func (result_of x)) b.instrs at i (each_at (IsBlockHeld (to_in func) (function_at m func)) (function_at m func).blocks block b (ordered func).blocks e).1 d)

  -- ---- one state and the other

  module _ (s : PlainState) (ws : Env) (res : Option ℕ) (bs : List PlainActivation) (same : MovedAt s.top.func s.top.values ws) (acts : AreBelow s.top.result res s.below bs) where
    abbrev t : PlainState
    t = state_like s ws res bs

    memory_same : without_slots s.world.memory (map (moved_slot (to_in s.top.func)) s.top.slots) ≡ without_slots s.world.memory s.top.slots
    memory_same = slots_same (to_in s.top.func) s.world.memory s.top.slots

    settled_related : (w : Work) (us : Env) → MovedAt s.top.func w.values us → Related (plain_settled s w) (plain_settled t (record { world = w.world; values = us }))
    settled_related w us h = record { values = us; result = res; below = bs; is = refl; same = h; acts = acts }

    call_related : (func : ℕ) (args : List Value) (result : Option ℕ) (must_tail : Bool) → HeldAt s.top.func result → Related (plain_call g s func args result must_tail) (plain_call k t func args (option_map (to_in s.top.func) result) must_tail)
    call_related func args result true h = record {
      values = entry_values (function_at n func) args;
      result = res;
      below = bs;
      is = ap (λ (memory : List MemoryBlock). record t { world = record s.world { memory = memory }; top = plain_called n func args res }) memory_same;
      same = entered func args;
      acts = acts;
    }
    call_related func args result false h = record {
      values = entry_values (function_at n func) args;
      result = option_map (to_in s.top.func) result;
      below = record t.top { at = s.top.at + 1 } ∷ bs;
      is = refl;
      same = entered func args;
      acts = (refl, h, (ws, res, refl, same, acts));
    }

    pop_goes : (v : Option Value) (below cs : List PlainActivation) → AreBelow s.top.result res below cs → Goes (plain_pop (plain_returned s) v below) (plain_pop (plain_returned t) v cs)
    pop_goes v [] [] h = on (outcome_of v)
      where
        on : (r : Result Outcome Cause) → Goes (and_then r (λ outcome. Ok (record (plain_returned s) { outcome = outcome }))) (and_then r (λ outcome. Ok (record (plain_returned t) { outcome = outcome })))
        on (Err cause) = tt
        on (Ok outcome) = record {
          values = ws;
          result = res;
          below = bs;
          is = ap (λ (memory : List MemoryBlock). record t { world = record s.world { memory = memory }; top = record t.top { slots = [] }; outcome = outcome }) memory_same;
          same = same;
          acts = acts;
        }
    pop_goes v [] (b ∷ cs) h = absurd h
    pop_goes v (a ∷ below) [] h = absurd h
    pop_goes v (a ∷ below) (b ∷ cs) h =
        let x : Value = unwrap_or v Value.Poison in
        record {
          values = with_result h.2.0 (option_map (to_in a.func) s.top.result) x;
          result = h.2.1;
          below = cs;
          is = λ i. record {
            world = record s.world { memory = memory_same i };
            top = record (h.2.2 i) { values = with_result (h.2.2 i).values (h.0 i) x };
            below = cs;
            elided = s.elided;
            outcome = s.outcome;
          };
          same = result_moved (to_in a.func) (ordered a.func).renumbered.apart (length (function_at m a.func).names) (length (function_order (function_at m a.func)).names) a.values h.2.0 s.top.result x h.2.3 h.1;
          acts = h.2.4;
        }

    -- ---- branches

    values_same : (o : Option Block) (label : ℕ) → Each (λ (p : Phi). HeldIn (to_in s.top.func) (function_at m s.top.func) p.result) (phis_of o) → MovedAt s.top.func (values_in m o label s.top.values) (values_in n (option_map (renumbered_block (to_in s.top.func)) o) (to_in s.top.func label) ws)
    values_same None label h = same
    values_same (Some b) label h =
        phis_moved m (map function_order m.functions) (found_alike m) (to_in s.top.func) (ordered s.top.func).renumbered.apart (length (function_at m s.top.func).names) (length (function_order (function_at m s.top.func)).names) s.top.values ws label b.phis same h

    -- the state that enters a block of a function
    abbrev entering : Function → ℕ → PlainState
    entering f label =
        record t { top = record t.top { block = position_of f label; at = 0; values = values_in n (slice_get f.blocks (position_of f label)) (label_of (slice_get f.blocks s.top.block)) ws } }

    -- the function, with its names at other positions
    abbrev moved : Function
    moved = renumbered_function (to_in s.top.func) (function_order (function_at m s.top.func)).names (function_at m s.top.func)

    abbrev target : ℕ → ℕ
    target label = position_of (function_at m s.top.func) label

    go_to_related : (label : ℕ) (here : Block) → slice_get (function_at m s.top.func).blocks s.top.block ≡ Some here → Related (plain_go_to g s label) (plain_go_to k t (to_in s.top.func label))
    go_to_related label here e =
        subst (λ (h : Function). Related (plain_go_to g s label) (entering h (to_in s.top.func label))) (sym (function_there m s.top.func))
        (subst (λ (h : Function). Related (plain_go_to g s label) (entering h (to_in s.top.func label))) (sym (ordered s.top.func).renumbered.is) over)
      where
        position : position_of moved (to_in s.top.func label) ≡ (target label)
        position = position_same (to_in s.top.func) (ordered s.top.func).renumbered.apart (function_order (function_at m s.top.func)).names (function_at m s.top.func) label

        there : (block : ℕ) → slice_get moved.blocks block ≡ option_map (renumbered_block (to_in s.top.func)) (slice_get (function_at m s.top.func).blocks block)
        there block = block_there (to_in s.top.func) (ordered s.top.func).renumbered.apart (function_order (function_at m s.top.func)).names (function_at m s.top.func) block

        from : label_of (slice_get moved.blocks s.top.block) ≡ to_in s.top.func (label_of (slice_get (function_at m s.top.func).blocks s.top.block))
        from =
            ap label_of (there s.top.block ∙ ap (option_map (renumbered_block (to_in s.top.func))) e)
            ∙ sym (ap (λ (o : Option Block). to_in s.top.func (label_of o)) e)

        found : slice_get moved.blocks (position_of moved (to_in s.top.func label)) ≡ option_map (renumbered_block (to_in s.top.func)) (slice_get (function_at m s.top.func).blocks (target label))
        found = ap (slice_get moved.blocks) position ∙ there (target label)

        over : Related (plain_go_to g s label) (entering moved (to_in s.top.func label))
        over = record {
          values = values_in n (slice_get moved.blocks (position_of moved (to_in s.top.func label))) (label_of (slice_get moved.blocks s.top.block)) ws;
          result = res;
          below = bs;
          is = ap (λ (b : ℕ). record t { top = record t.top { block = b; at = 0; values = values_in n (slice_get moved.blocks (position_of moved (to_in s.top.func label))) (label_of (slice_get moved.blocks s.top.block)) ws } }) position;
          same = subst (λ (p : Option Block × ℕ). MovedAt s.top.func (values_in m (slice_get (function_at m s.top.func).blocks (target label)) (label_of (slice_get (function_at m s.top.func).blocks s.top.block)) s.top.values) (values_in n p.0 p.1 ws)) (sym (λ i. (found i, from i)))
              (values_same (slice_get (function_at m s.top.func).blocks (target label)) (label_of (slice_get (function_at m s.top.func).blocks s.top.block)) (phis_held s.top.func (target label)));
          acts = acts;
        }

    -- ---- what comes of an action

    coro_goes : (i : Intrinsic) → Goes (plain_coro s i) (plain_coro t i)
    coro_goes Intrinsic.CoroId = settled_related (plain_work s) ws same
    coro_goes _ = tt

    freed_goes : (r : Result (List MemoryBlock) Cause) → Goes (and_then r (λ memory. Ok (plain_settled s (set_memory (plain_work s) memory)))) (and_then r (λ memory. Ok (plain_settled t (set_memory (plain_work t) memory))))
    freed_goes (Err cause) = tt
    freed_goes (Ok memory) = settled_related (set_memory (plain_work s) memory) ws same

    pub act_goes : (here : Block) → slice_get (function_at m s.top.func).blocks s.top.block ≡ Some here → (a b : Action) → MovedAction (to_in s.top.func) (length (function_at m s.top.func).names) (length (function_order (function_at m s.top.func)).names) a b → Goes (plain_act g s a) (plain_act k t b)
    act_goes here e (Done w) b h = subst (λ (c : Action). Goes (plain_act g s (Done w)) (plain_act k t c)) (sym h.1) (settled_related w h.0 h.2)
    act_goes here e (NewSlot w slot) b h = subst (λ (c : Action). Goes (plain_act g s (NewSlot w slot)) (plain_act k t c)) (sym h.1) (record { values = h.0; result = res; below = bs; is = refl; same = h.2; acts = acts })
    act_goes here e (Enter func args result must_tail) b h =
        subst (λ (c : Action). Goes (plain_act g s (Enter func args result must_tail)) (plain_act k t c)) (sym h.0)
        (counted_goes func (plain_call g s func args result must_tail) (plain_call k t func args (option_map (to_in s.top.func) result) must_tail) (call_related func args result must_tail h.1))
    act_goes here e (Coro i args result) b h = subst (λ (c : Action). Goes (plain_act g s (Coro i args result)) (plain_act k t c)) (sym h) (coro_goes i)
    act_goes here e (Deallocate p) b h = subst (λ (c : Action). Goes (plain_act g s (Deallocate p)) (plain_act k t c)) (sym h) (freed_goes (deallocated s.world.memory p))
    act_goes here e (GoTo label) b h = subst (λ (c : Action). Goes (plain_act g s (GoTo label)) (plain_act k t c)) (sym h) (go_to_related label here e)
    act_goes here e (Return v) b h = subst (λ (c : Action). Goes (plain_act g s (Return v)) (plain_act k t c)) (sym h) (pop_goes v s.below bs acts)
    act_goes here e (Stuck cause) b h = tt
