-- A state of a run, and that of the module without the calls of coro.id: what an action does to both.
use Rattle.std.proofs.Common.{◌≡◌, ℕ, zero, suc, ◌+◌, Bool, true, false, List, [], ◌∷◌, refl, sym, ap, ◌∙◌, subst, add-one}
use Rattle.std.specs.Prelude.{ℤ, Some, None, Ok, Err, Option, Result, option_map, unwrap_or, map, slice_get, if◌then◌else◌, ◌==◌}
use Rattle.run_memory.specs.declared.block.MemoryBlock.{MemoryBlock}
use Rattle.run_memory.specs.declared.pointer.Value.{Value}
use Rattle.ir_base.specs.declared.cause.Cause.{Cause}
use Rattle.ir_base.specs.declared.name.Name.{Name}
use Rattle.ir_base.specs.declared.outcome.Outcome.{Outcome}
use Rattle.ir_base.specs.declared.outcome.Word.{Word}
use Rattle.pass_cleanup.specs.Cleanable.{IsCleanable, IsCleanableBlock, IsCleanableFunction, IsCleanableInstr, IsCleanablePhi, IsDefined, IsNoIntrinsic}
pub use Rattle.pass_cleanup.specs.Cleaned.{change_of, cleaned, cleaned_activation, moved_at}
use Rattle.pass_cleanup.specs.Cleanup.{clean_block, clean_function, clean_module, is_kept_declaration, is_kept_instr}
use Rattle.pass_cleanup.proofs.Kept.{IsKept, kept_before, step_kept, zero_kept}
use Rattle.pass_cleanup.proofs.Parts.{block_clean, fetch_clean, fits_clean, function_clean, instrs_of, markers_clean, declared_clean, moved_in, named_clean, operand_clean, position_clean}
use Rattle.ir_model.specs.Names.{function_at, is_noalloc, no_function, position_of}
use Rattle.ir_model.specs.declared.instr.Incoming.{Incoming}
use Rattle.ir_model.specs.declared.instr.Instr.{Instr}
use Rattle.ir_model.specs.declared.instr.Phi.{Phi}
use Rattle.ir_model.specs.declared.module.Block.{Block}
use Rattle.ir_model.specs.declared.module.Function.{Function}
use Rattle.ir_model.specs.declared.module.GlobalItem.{GlobalItem}
use Rattle.ir_model.specs.declared.module.Module.{Module}
use Rattle.ir_model.specs.declared.operand.Intrinsic.{Intrinsic}
use Rattle.ir_model.specs.declared.operand.Operand.{Operand}
use Rattle.run_step.specs.Results.{and_then}
use Rattle.run_step.specs.Step.{Action, Coro, Deallocate, Done, Enter, Fetched, GoTo, NewSlot, Return, Stuck, Work, action_of, deallocated, entry_values, fetch, fetch_in, fetch_or, global_block, has_markers, incoming_from, label_of, outcome_of, phi_values, phis_of, risen, set_memory, values_in, with_all}
use Rattle.run_step.specs.Values.{Env}
use Rattle.run_plain.specs.Plain.{PlainGiven, counted, plain_act, plain_call, plain_called, plain_context, plain_coro, plain_first, plain_function, plain_go_to, plain_pop, plain_returned, plain_settled, plain_work}
use Rattle.run_plain.specs.declared.state.PlainActivation.{PlainActivation}
use Rattle.run_plain.specs.declared.state.PlainState.{PlainState}
use Rattle.run_laws.proofs.changed.Kept.{action_kept}
use Rattle.run_laws.specs.changed.Changed.{Change, Each, IsDeclaredAlike, IsKeptAt, IsLike, IsSameOperand, callee_at, changed_action, changed_work, changed_world, operands_at}

-- ---- what is asked of the whole module, at a place

each_at : {A : Type 0} (P : A → Type 0) (xs : List A) (n : ℕ) (x : A) → Each P xs → slice_get xs n ≡ Some x → P x
each_at P [] n x h e = absurd (cc)
each_at P (y ∷ xs) zero x h e = let s : y ≡ x = cc in subst P s h.0
each_at P (y ∷ xs) (suc n) x h e = each_at P xs n x h.1 e

function_fits : (m : Module) → IsCleanable m → (func : ℕ) → IsCleanableFunction m (function_at m func)
function_fits m ok func = on (slice_get m.functions func) refl
  where
    on : (o : Option Function) → slice_get m.functions func ≡ o → IsCleanableFunction m (unwrap_or o no_function)
    on None e = tt
    on (Some f) e = each_at (IsCleanableFunction m) m.functions func f ok.functions e

-- what is asked of what stands at a place
pub record IsCleanableAt (m : Module) (here : Fetched) : Type 0 where
  pub operands : Each (IsDefined m) (operands_at here)
  pub callee : IsNoIntrinsic (callee_at here)

term_at : (m : Module) (b : Block) → IsCleanableBlock m b → (last : Bool) → IsCleanableAt m (fetch_or None last b.term)
term_at m b ok true = record { operands = ok.term; callee = tt }
term_at m b ok false = record { operands = tt; callee = tt }

instr_at : (m : Module) (b : Block) → IsCleanableBlock m b → (at : ℕ) (last : Bool) → IsCleanableAt m (fetch_or (slice_get b.instrs at) last b.term)
instr_at m b ok at last = on (slice_get b.instrs at) refl
  where
    on : (o : Option Instr) → slice_get b.instrs at ≡ o → IsCleanableAt m (fetch_or o last b.term)
    on None e = term_at m b ok last
    on (Some i) e = let k = each_at (IsCleanableInstr m) b.instrs at i ok.instrs e in record { operands = k.operands; callee = k.callee }

pub place_fits : (m : Module) → IsCleanable m → (func block at : ℕ) → IsCleanableAt m (fetch (function_at m func) block at)
place_fits m ok func block at = on (slice_get (function_at m func).blocks block) refl
  where
    on : (o : Option Block) → slice_get (function_at m func).blocks block ≡ o → IsCleanableAt m (fetch_in o at)
    on None e = record { operands = tt; callee = tt }
    on (Some b) e = instr_at m b (each_at (IsCleanableBlock m) (function_at m func).blocks block b (function_fits m ok func) e) at _

phis_fit : (m : Module) → IsCleanable m → (func block : ℕ) → Each (IsCleanablePhi m) (phis_of (slice_get (function_at m func).blocks block))
phis_fit m ok func block = on (slice_get (function_at m func).blocks block) refl
  where
    on : (o : Option Block) → slice_get (function_at m func).blocks block ≡ o → Each (IsCleanablePhi m) (phis_of o)
    on None e = tt
    on (Some b) e = (each_at (IsCleanableBlock m) (function_at m func).blocks block b (function_fits m ok func) e).phis

-- ---- the state of the other run

abbrev pub cleaned_result : Module → Result PlainState Cause → Result PlainState Cause
cleaned_result m (Err cause) = Err cause
cleaned_result m (Ok s) = Ok (cleaned m s)

abbrev pub given_by : Module → List ℤ → PlainGiven
given_by m answers = record { code = m; answers = answers }

-- what stands at the place of a state stays
abbrev pub StaysHere : Module → PlainState → Type 0
StaysHere m s = IsKept is_kept_instr (instrs_of (slice_get (function_at m s.top.func).blocks s.top.block)) s.top.at

module _ (m : Module) (answers : List ℤ) (ok : IsCleanable m) where
  abbrev g : PlainGiven
  g = given_by m answers

  abbrev k : PlainGiven
  k = given_by (clean_module m) answers

  -- ---- the action

  like_of : (s : PlainState) → IsLike (plain_context g s) (plain_context k (cleaned m s))
  like_of s = record {
    types = refl;
    answers = refl;
    rights = refl;
    coroutine = ap (λ (f : Function). f.coroutine) (function_clean m s.top.func);
    markers = λ name. ap (λ (f : Function). has_markers f name) (function_clean m s.top.func) ∙ markers_clean (function_at m s.top.func) name;
    functions = named_clean m;
    fits = fits_clean m;
  }

  operands_of_change : (s : PlainState) (xs : List Operand) → Each (IsDefined m) xs → Each (IsSameOperand (change_of m) (plain_context g s) (plain_context k (cleaned m s)) s.top.values) xs
  operands_of_change s [] h = tt
  operands_of_change s (x ∷ xs) h =
      (record { here = λ ty. operand_clean m s.top.values ty x h.0; nowhere = λ ty. operand_clean m [] ty x h.0 }, operands_of_change s xs h.1)

  callee_of_change : (s : PlainState) (n : Option Name) → IsNoIntrinsic n → IsDeclaredAlike (change_of m) (plain_context g s) (plain_context k (cleaned m s)) n
  callee_of_change s None h = tt
  callee_of_change s (Some n) h = declared_clean m n h

  kept_at : (s : PlainState) (here : Fetched) → IsCleanableAt m here → IsKeptAt (change_of m) (plain_context g s) (plain_context k (cleaned m s)) s.top.values here
  kept_at s here h = record {
    operands = operands_of_change s (operands_at here) h.operands;
    result = λ v. refl;
    callee = callee_of_change s (callee_at here) h.callee;
  }

  abbrev here_of : PlainState → Fetched
  here_of s = fetch (function_at m s.top.func) s.top.block s.top.at

  pub action_clean : (s : PlainState) → StaysHere m s → action_of (plain_context k (cleaned m s)) (plain_work (cleaned m s)) (fetch (plain_function k (cleaned m s)) (cleaned m s).top.block (cleaned m s).top.at) ≡ changed_action (change_of m) (action_of (plain_context g s) (plain_work s) (here_of s))
  action_clean s stays =
      ap (action_of (plain_context k (cleaned m s)) (plain_work (cleaned m s)))
      (ap (λ (f : Function). fetch f s.top.block (cleaned m s).top.at) (function_clean m s.top.func) ∙ fetch_clean (function_at m s.top.func) s.top.block s.top.at stays)
      ∙ action_kept (change_of m) (plain_context g s) (plain_context k (cleaned m s)) (plain_work s) (here_of s) (like_of s) (kept_at s (here_of s) (place_fits m ok s.top.func s.top.block s.top.at))

  -- ---- acting

  called_clean : (func : ℕ) (args : List Value) (result : Option ℕ) → plain_called (clean_module m) func args result ≡ cleaned_activation m (plain_called m func args result)
  called_clean func args result =
      ap (λ (env : Env). record { func = func; block = 0; at = 0; values = env; slots = []; result = result }) (ap (λ (f : Function). entry_values f args) (function_clean m func))
      ∙ ap (λ (n : ℕ). record { func = func; block = 0; at = n; values = entry_values (function_at m func) args; slots = []; result = result }) (sym (zero_kept is_kept_instr (instrs_of (slice_get (function_at m func).blocks 0))))

  counted_clean : (func : ℕ) (s : PlainState) → counted k func (cleaned m s) ≡ cleaned m (counted g func s)
  counted_clean func s =
      ap (λ (f : Function). if is_noalloc f.name then record (cleaned m s) { elided = risen s.elided } else cleaned m s) (function_clean m func)
      ∙ on (is_noalloc (function_at m func).name)
    where
      on : (b : Bool) → (if b then record (cleaned m s) { elided = risen s.elided } else cleaned m s) ≡ cleaned m (if b then record s { elided = risen s.elided } else s)
      on true = refl
      on false = refl

  incoming_fits : (xs : List Incoming) (label : ℕ) → Each (λ i. IsDefined m i.value) xs → IsDefined m (incoming_from xs label)
  incoming_fits [] label h = tt
  incoming_fits (i ∷ xs) label h = on (i.from == label) (incoming_fits xs label h.1)
    where
      on : (b : Bool) → IsDefined m (incoming_from xs label) → IsDefined m (if b then i.value else incoming_from xs label)
      on true again = h.0
      on false again = again

  phi_values_clean : (env : Env) (label : ℕ) (phis : List Phi) → Each (IsCleanablePhi m) phis → phi_values (clean_module m) env label phis ≡ phi_values m env label phis
  phi_values_clean env label [] h = refl
  phi_values_clean env label (p ∷ phis) h =
      let first = operand_clean m env p.ty (incoming_from p.incoming label) (incoming_fits p.incoming label h.0) in
      let rest = phi_values_clean env label phis h.1 in
      λ i. (p.result, first i) ∷ rest i

  values_in_clean : (o : Option Block) (label : ℕ) (env : Env) → Each (IsCleanablePhi m) (phis_of o) → values_in (clean_module m) (option_map clean_block o) label env ≡ values_in m o label env
  values_in_clean None label env h = refl
  values_in_clean (Some b) label env h = ap (with_all env) (phi_values_clean env label b.phis h)

  label_clean : (o : Option Block) → label_of (option_map clean_block o) ≡ label_of o
  label_clean None = refl
  label_clean (Some b) = refl

  -- the state that enters a block of a function
  abbrev entered : PlainState → ℕ → ℕ → Env → PlainState
  entered s b at env = record (cleaned m s) { top = record (cleaned m s).top { block = b; at = at; values = env } }

  go_to_clean : (s : PlainState) (label : ℕ) → plain_go_to k (cleaned m s) label ≡ cleaned m (plain_go_to g s label)
  go_to_clean s label =
      ap (λ (f : Function). entered s (position_of f label) 0 (values_in (clean_module m) (slice_get f.blocks (position_of f label)) (label_of (slice_get f.blocks s.top.block)) s.top.values)) (function_clean m s.top.func)
      ∙ ap (λ (b : ℕ). entered s b 0 (values_in (clean_module m) (slice_get (clean_function (function_at m s.top.func)).blocks b) (label_of (slice_get (clean_function (function_at m s.top.func)).blocks s.top.block)) s.top.values)) (position_clean (function_at m s.top.func) label)
      ∙ ap (λ (o : Option Block). entered s b 0 (values_in (clean_module m) o (label_of (slice_get (clean_function (function_at m s.top.func)).blocks s.top.block)) s.top.values)) (block_clean (function_at m s.top.func) b)
      ∙ ap (λ (l : ℕ). entered s b 0 (values_in (clean_module m) (option_map clean_block (slice_get (function_at m s.top.func).blocks b)) l s.top.values)) (ap label_of (block_clean (function_at m s.top.func) s.top.block) ∙ label_clean (slice_get (function_at m s.top.func).blocks s.top.block))
      ∙ ap (entered s b 0) (values_in_clean (slice_get (function_at m s.top.func).blocks b) (label_of (slice_get (function_at m s.top.func).blocks s.top.block)) s.top.values (phis_fit m ok s.top.func b))
      ∙ ap (λ (n : ℕ). entered s b n (values_in m (slice_get (function_at m s.top.func).blocks b) (label_of (slice_get (function_at m s.top.func).blocks s.top.block)) s.top.values)) (sym (zero_kept is_kept_instr (instrs_of (slice_get (function_at m s.top.func).blocks b))))
    where
      b : ℕ
      b = position_of (function_at m s.top.func) label

  pop_clean : (s : PlainState) (v : Option Value) (below : List PlainActivation) → plain_pop (cleaned m s) v (map (cleaned_activation m) below) ≡ cleaned_result m (plain_pop s v below)
  pop_clean s v [] = on (outcome_of v)
    where
      on : (r : Result Outcome Cause) → and_then r (λ outcome. Ok (record (cleaned m s) { outcome = outcome })) ≡ cleaned_result m (and_then r (λ outcome. Ok (record s { outcome = outcome })))
      on (Err cause) = refl
      on (Ok outcome) = refl
  pop_clean s v (a ∷ below) = refl

  module _ (s : PlainState) (stays : StaysHere m s) where
    -- the place behind the instruction
    next : moved_at m s.top.func s.top.block (s.top.at + 1) ≡ moved_at m s.top.func s.top.block s.top.at + 1
    next =
        ap (moved_at m s.top.func s.top.block) (add-one s.top.at)
        ∙ step_kept is_kept_instr (instrs_of (slice_get (function_at m s.top.func).blocks s.top.block)) s.top.at stays
        ∙ sym (add-one (moved_at m s.top.func s.top.block s.top.at))

    settled_clean : (w : Work) → plain_settled (cleaned m s) (changed_work (change_of m) w) ≡ cleaned m (plain_settled s w)
    settled_clean w = ap (λ (n : ℕ). record (cleaned m s) { world = changed_world (change_of m) w.world; top = record s.top { at = n; values = w.values } }) (sym next)

    call_clean : (func : ℕ) (args : List Value) (result : Option ℕ) (must_tail : Bool) → plain_call k (cleaned m s) func args result must_tail ≡ cleaned m (plain_call g s func args result must_tail)
    call_clean func args result true = ap (λ (a : PlainActivation). record (cleaned m (plain_returned s)) { top = a }) (called_clean func args s.top.result)
    call_clean func args result false =
        ap (λ (a : PlainActivation). record (cleaned m s) { top = a; below = record (cleaned m s).top { at = moved_at m s.top.func s.top.block s.top.at + 1 } ∷ map (cleaned_activation m) s.below }) (called_clean func args result)
        ∙ ap (λ (n : ℕ). record (cleaned m s) { top = cleaned_activation m (plain_called m func args result); below = record s.top { at = n } ∷ map (cleaned_activation m) s.below }) (sym next)

    coro_clean : (i : Intrinsic) → plain_coro (cleaned m s) i ≡ cleaned_result m (plain_coro s i)
    coro_clean Intrinsic.CoroId = ap Ok (settled_clean (plain_work s))
    coro_clean _ = refl

    freed_clean : (r : Result (List MemoryBlock) Cause) → and_then r (λ memory. Ok (plain_settled (cleaned m s) (set_memory (plain_work (cleaned m s)) memory))) ≡ cleaned_result m (and_then r (λ memory. Ok (plain_settled s (set_memory (plain_work s) memory))))
    freed_clean (Err cause) = refl
    freed_clean (Ok memory) = ap Ok (settled_clean (set_memory (plain_work s) memory))

    pub act_clean : (a : Action) → plain_act k (cleaned m s) (changed_action (change_of m) a) ≡ cleaned_result m (plain_act g s a)
    act_clean (Done w) = ap Ok (settled_clean w)
    act_clean (NewSlot w slot) = ap (λ (x : PlainState). Ok (record x { top = record x.top { slots = slot ∷ x.top.slots } })) (settled_clean w)
    act_clean (Enter func args result must_tail) = ap Ok (ap (counted k func) (call_clean func args result must_tail) ∙ counted_clean func (plain_call g s func args result must_tail))
    act_clean (Coro i args result) = coro_clean i
    act_clean (Deallocate p) = freed_clean (deallocated s.world.memory p)
    act_clean (GoTo label) = ap Ok (go_to_clean s label)
    act_clean (Return v) = pop_clean (plain_returned s) v s.below
    act_clean (Stuck cause) = refl

  -- ---- the start

  globals_clean : (gs : List GlobalItem) → Each (λ x. IsDefined m x.init) gs → map (global_block (clean_module m)) gs ≡ map (global_block m) gs
  globals_clean [] h = refl
  globals_clean (x ∷ gs) h =
      let first = global_clean x h.0 in
      let rest = globals_clean gs h.1 in
      λ i. first i ∷ rest i
    where
      global_clean : (x : GlobalItem) → IsDefined m x.init → global_block (clean_module m) x ≡ global_block m x
      global_clean x h = rw (operand_clean m [] x.ty x.init h) refl

  pub first_clean : (entry : ℕ) (args : List Word) → plain_first (clean_module m) entry args ≡ cleaned m (plain_first m entry args)
  first_clean entry args =
      let memory = globals_clean m.globals ok.globals in
      let top = called_clean entry (map Value.Int args) None in
      λ i. record { world = record { memory = memory i; events = []; answers_used = 0; allocs = 0 }; top = top i; below = []; elided = 0; outcome = Outcome.Running }
