-- Each action keeps what holds of the values of coro.frame.
use Rattle.std.proofs.Common.{◌≡◌, ◌⊎◌, inl, inr, ⊎_elim, ℕ, zero, suc, ◌+◌, ◌<◌, Bool, true, false, List, [], ◌∷◌, ◌++◌, length, refl, sym, ap, ◌∙◌, subst}
use Rattle.std.specs.List.{list_all, list_any}
use Rattle.std.specs.Prelude.{ℤ, negsuc, IsTrue, Some, None, Ok, Err, Option, Result, filter, map, nat_lt, not, option_and_then, option_map, replicate, slice_get, unwrap_or, if◌then◌else◌, ◌==◌, ◌&&◌, ◌||◌}
use Rattle.rule_laws.specs.run_memory.Memory.{killed, own}
use Rattle.rule_laws.specs.run_memory.declared.pointer.Value.{Value}
use Rattle.rule_laws.specs.ir_base.declared.cause.Cause.{Cause}
use Rattle.rule_laws.specs.run_source.Source.{begin, branch_leaving, enter, enter_block, frame_address, given, go_to, is_over, kill_late, may_leave, new_slot, pop, return, returned, save, save_for, suspend, is_among, with_new_slots}
use Rattle.rule_laws.specs.run_source.State.{gives, next, numbered, own_facts, own_instance, point_of, with_instance, with_left, with_memory, with_status, work_of}
use Rattle.rule_laws.specs.run_source.declared.state.Activation.{Activation}
use Rattle.rule_laws.specs.run_source.declared.state.Instance.{Instance}
use Rattle.rule_laws.specs.run_source.declared.state.Mode.{Mode}
use Rattle.rule_laws.specs.run_source.declared.state.State.{State}
use Rattle.rule_laws.specs.run_source.declared.state.Status.{Status}
use Rattle.run_states.proofs.renamed.Fits.{IsOrdinary, ordinary_in}
use Rattle.pass_early_proof.proofs.early.renaming.Invariant.{AreKept, IsAsleep, IsKnown, IsSteady, PlainName, dead_next, dead_resumed, is_resumed, kept_on, kept_result, kept_same, kept_set, next_edge, next_point, origin_at, origin_of, steady_kept, steady_next, unstopped_at}
use Rattle.rule_laws.proofs.ir_laws.facts.Truth.{equal_numbers, itself, not_equal, not_below}
use Rattle.rule_laws.proofs.ir_laws.facts.Lists.{set_here, set_length, set_other}
use Rattle.pass_early_proof.proofs.early.renaming.Preserved.{Below, Holds, Owns, Sleeps, StandsWell, goes_on, holds_instance, holds_left, holds_like, holds_memory, holds_slots, own_there, plain_name, settled_holds}
use Rattle.pass_early_proof.specs.early.renaming.Regular.{AreRegular, IsDeadBehind, IsPlain, IsRegular}
use Rattle.rule_laws.specs.ir_laws.paths.renamed.Regular.{Here, IsDead, stops}
use Rattle.rule_laws.specs.ir_laws.facts.renamed.Regular.{is_result, passes}
use Rattle.pass_early.specs.Early.{renaming_of}
use Rattle.pass_early.specs.Renaming.{is_renamed}
use Rattle.pass_early.specs.declared.renaming.Renaming.{Renaming}
use Rattle.ir_model.specs.Names.{function_at}
use Rattle.ir_model.specs.declared.instr.Instr.{Instr}
use Rattle.ir_model.specs.declared.instr.Phi.{Phi}
use Rattle.ir_model.specs.declared.module.Block.{Block}
use Rattle.ir_model.specs.declared.module.Frame.{Frame}
use Rattle.ir_model.specs.declared.module.Function.{Function}
use Rattle.ir_model.specs.declared.module.Module.{Module}
use Rattle.ir_model.specs.declared.module.Param.{Param}
use Rattle.ir_model.specs.declared.operand.Callee.{Callee}
use Rattle.ir_model.specs.declared.operand.Intrinsic.{Intrinsic}
use Rattle.ir_model.specs.declared.operand.Operand.{Operand}
use Rattle.rule_laws.proofs.ir_paths.Search.{same_point-itself}
use Rattle.rule_laws.specs.ir_paths.Paths.{entry_point, has_point, nexts, nexts_in, same_point, targets}
use Rattle.rule_laws.specs.ir_paths.Windows.{instr_at, is_call_of, suspend_of}
use Rattle.rule_laws.specs.ir_paths.declared.point.Point.{Point}
use Rattle.rule_laws.specs.ir_paths.declared.point.Window.{Window}
use Rattle.rule_laws.specs.run_step.Results.{and_then, found, ok_if}
use Rattle.rule_laws.specs.run_step.Step.{entry_values, label_of, outcome_of, phi_values, phis_of, with_all, with_params}
use Rattle.rule_laws.specs.run_step.Values.{Env, integer, value_in, value_or_poison, with_result, with_value}
use Rattle.rule_laws.specs.run_step.declared.world.Slot.{Slot}
use Rattle.rule_laws.specs.run_source_tables.Given.{Given}
use Rattle.rule_laws.specs.run_laws.changed.Changed.{Each, result_of}
use Rattle.rule_laws.proofs.ir_laws.paths.renamed.Kept.{frame_no_begin}

frame_no_end : (i : Instr) → is_call_of Intrinsic.CoroFrame i ≡ true → is_call_of Intrinsic.CoroEnd i ≡ false
frame_no_end (Instr.Call result must_tail ty (Callee.Intrinsic Intrinsic.CoroFrame) args) e = refl
frame_no_end _ e = absurd (cc)

begin_no_end : (i : Instr) → is_call_of Intrinsic.CoroBegin i ≡ true → is_call_of Intrinsic.CoroEnd i ≡ false
begin_no_end (Instr.Call result must_tail ty (Callee.Intrinsic Intrinsic.CoroBegin) args) e = refl
begin_no_end _ e = absurd (cc)

begin_no_frame : (i : Instr) → is_call_of Intrinsic.CoroBegin i ≡ true → is_call_of Intrinsic.CoroFrame i ≡ false
begin_no_frame (Instr.Call result must_tail ty (Callee.Intrinsic Intrinsic.CoroBegin) args) e = refl
begin_no_frame _ e = absurd (cc)

-- the frame address of the instance that began
own_address : (instances : List Instance) (j func : ℕ) (v : Value) → origin_at instances j ≡ Some (func, v) → frame_address (option_and_then (numbered instances) (Some j)) ≡ v
own_address instances j func v e = on (slice_get instances j) e
  where
    on : (o : Option Instance) → option_map origin_of o ≡ Some (func, v) → frame_address (option_map {U = ℕ × Instance} (λ x. (j, x)) o) ≡ v
    on None k = absurd (cc)
    on (Some x) k =
        let pair : ◌≡◌ {A = ℕ × Value} (origin_of x) (func, v) = cc in
        ap (λ (z : ℕ × Value). z.1) pair

module _ (f : Function) (r : Renaming) (okf : IsRegular f r) (instances : List Instance) (resumed : Bool) (func : ℕ) (p : Point) (i : Instr) (here : instr_at f p ≡ Some i) where
  stop_is : (n : ℕ) (o : Option ℕ) → is_call_of Intrinsic.CoroEnd i ≡ false → result_of i ≡ o → is_result n o ≡ false → stops f resumed n p ≡ false
  stop_is n o end e d = unstopped_at f r resumed n p (Some i) here end (ap (is_result n) e ∙ d)

  other_than_begin : is_call_of Intrinsic.CoroFrame i ≡ true → (k : ℕ) → result_of i ≡ Some k → k ≡ r.to → ⊥
  other_than_begin frame k e same =
      let t : false ≡ true = sym (frame_no_begin i frame) ∙ okf.begin_calls p i here (e ∙ ap Some same) in absurd (cc)

  -- coro.frame sets the frame address
  framed : (j : ℕ) (env : Env) (v : Value) → is_call_of Intrinsic.CoroFrame i ≡ true → v ≡ value_in env r.to → (o : Option ℕ) → result_of i ≡ o → IsSteady f r instances resumed func (Some j) env p → IsSteady f r instances resumed func (Some j) (with_result env o v) (next_point p)
  framed j env v frame is None e h =
      steady_next f r instances resumed func (Some j) env p (next_point p) (ap (passes (is_call_of Intrinsic.CoroBegin)) here ∙ frame_no_begin i frame) (λ n c. stop_is n None (frame_no_end i frame) e refl) (next_edge f p i here) h
  framed j env v frame is (Some k) e h = record {
    room = set_length env k (Some v) ∙ h.room;
    begun = h.begun ∙ ap (λ (x : Value). Some (func, x)) (sym to_same);
    frames = λ n c. on n c (k == n) refl;
  }
    where
      to_same : value_in (with_value env k v) r.to ≡ value_in env r.to
      to_same = ap value_or_poison (set_other env k r.to (Some v) (other_than_begin frame k e))

      on : (n : ℕ) → is_renamed r n ≡ true → (b : Bool) → (k == n) ≡ b → IsKnown f r (Some j) (with_value env k v) n ⊎ IsDead f resumed n (next_point p)
      on n c true d =
          let num : k ≡ n = equal_numbers k n d in
          let lt : n < length env = subst (λ (l : ℕ). n < l) (sym h.room) (okf.has_frames n c) in
          inl (to_same ∙ sym is ∙ sym (subst (λ (y : ℕ). value_in (with_value env y v) n ≡ v) (sym num) (ap value_or_poison (set_here env n (Some v) lt))))
      on n c false d = ⊎_elim
          (λ known. inl (to_same ∙ known ∙ sym (ap value_or_poison (set_other env k n (Some v) (not_equal k n d)))))
          (λ dead. inr (dead_next f r resumed n p (next_point p) (stop_is n (Some k) (frame_no_end i frame) e d) (next_edge f p i here) dead))
          (h.frames n c)

  pub frame_steady : (o : Option ℕ) (env : Env) → is_call_of Intrinsic.CoroFrame i ≡ true → IsSteady f r instances resumed func o env p → IsSteady f r instances resumed func o (with_result env (result_of i) (frame_address (option_and_then (numbered instances) o))) (next_point p)
  frame_steady None env frame h = absurd (h.begun p Here (ap (passes (is_call_of Intrinsic.CoroFrame)) here ∙ frame))
  frame_steady (Some j) env frame h = framed j env (frame_address (option_and_then (numbered instances) (Some j))) frame (own_address instances j func (value_in env r.to) h.begun) (result_of i) refl h

  -- coro.begin makes the instance
  pub begin_steady : (grown : List Instance) (j : ℕ) (env : Env) (v : Value) → is_call_of Intrinsic.CoroBegin i ≡ true → origin_at grown j ≡ Some (func, v) → IsSteady f r instances resumed func None env p → IsSteady f r grown resumed func (Some j) (with_result env (result_of i) v) (next_point p)
  begin_steady grown j env v begin there h =
      subst (λ (o : Option ℕ). IsSteady f r grown resumed func (Some j) (with_result env o v) (next_point p)) (sym is_begin)
      (record {
        room = set_length env r.to (Some v) ∙ h.room;
        begun = there ∙ ap (λ (x : Value). Some (func, x)) (sym (ap value_or_poison (set_here env r.to (Some v) (subst (λ (l : ℕ). r.to < l) (sym h.room) okf.has_begin))));
        frames = λ n c. ⊎_elim (λ known. absurd known) (λ dead. inr (dead_next f r resumed n p (next_point p) (stop_is n (Some r.to) (begin_no_end i begin) is_begin (other n c (r.to == n) refl)) (next_edge f p i here) dead)) (h.frames n c);
      })
    where
      is_begin : result_of i ≡ Some r.to
      is_begin = okf.begins p i here begin

      other : (n : ℕ) → is_renamed r n ≡ true → (b : Bool) → (r.to == n) ≡ b → b ≡ false
      other n c true d = let t : true ≡ false = sym c ∙ ap (is_renamed r) (sym (equal_numbers r.to n d)) ∙ okf.begin_stays in absurd (cc)
      other n c false d = refl

-- ---- entering blocks

pub all_kept : (f : Function) (r : Renaming) (env : Env) (ps : List (ℕ × Value)) → Each (λ q. IsPlain r q.0) ps → AreKept f r env (with_all env ps)
all_kept f r env [] h = kept_same f r env
all_kept f r env (q ∷ ps) h = kept_on f r env (with_value env q.0 q.1) (with_all (with_value env q.0 q.1) ps) (kept_set f r env q.0 q.1 h.0) (all_kept f r (with_value env q.0 q.1) ps h.1)

pub phis_plain : (r : Renaming) (m : Module) (env : Env) (label : ℕ) (phis : List Phi) → Each (λ p. IsPlain r p.result) phis → Each (λ q. IsPlain r q.0) (phi_values m env label phis)
phis_plain r m env label [] h = tt
phis_plain r m env label (p ∷ phis) h = (h.0, phis_plain r m env label phis h.1)

to_target : (f : Function) (label : ℕ) (ts : List ℕ) → IsTrue (list_any (λ l. l == label) ts) → IsTrue (has_point (map (entry_point f) ts) (entry_point f label))
to_target f label [] h = absurd (cc)
to_target f label (t ∷ ts) h = on (t == label) refl (to_target f label ts) h
  where
    later : (a b : Bool) → IsTrue b → IsTrue (a || b)
    later true b e = refl
    later false b e = e

    on : (b : Bool) → (t == label) ≡ b → (IsTrue (list_any (λ l. l == label) ts) → IsTrue (has_point (map (entry_point f) ts) (entry_point f label))) → IsTrue (b || list_any (λ l. l == label) ts) → IsTrue (same_point (entry_point f label) (entry_point f t) || has_point (map (entry_point f) ts) (entry_point f label))
    on true e rest k = subst (λ (l : ℕ). IsTrue (same_point (entry_point f label) (entry_point f l) || has_point (map (entry_point f) ts) (entry_point f label))) (sym (equal_numbers t label e)) (subst (λ (b : Bool). IsTrue (b || has_point (map (entry_point f) ts) (entry_point f label))) (sym (same_point-itself (entry_point f label))) refl)
    on false e rest k = later (same_point (entry_point f label) (entry_point f t)) _ (rest k)

pub target_edge : (f : Function) (p : Point) (b : Block) (label : ℕ) → slice_get f.blocks p.block ≡ Some b → p.at ≡ length b.instrs → IsTrue (list_any (λ l. l == label) (targets b.term)) → IsTrue (has_point (nexts f p) (entry_point f label))
target_edge f p b label e at h =
    subst (λ (o : Option Block). IsTrue (has_point (nexts_in f p o) (entry_point f label))) (sym e)
    (subst (λ (n : ℕ). IsTrue (has_point (if nat_lt p.at n then record { block = p.block; at = p.at + 1 } ∷ [] else if p.at == n then map (entry_point f) (targets b.term) else []) (entry_point f label))) at
    (subst (λ (t : Bool). IsTrue (has_point (if t then record { block = p.block; at = p.at + 1 } ∷ [] else if p.at == p.at then map (entry_point f) (targets b.term) else []) (entry_point f label))) (sym (not_below p.at))
    (subst (λ (t : Bool). IsTrue (has_point (if t then map (entry_point f) (targets b.term) else []) (entry_point f label))) (sym (itself p.at)) (to_target f label (targets b.term) h))))

-- ---- the actions

module _ (m : Module) (ok : AreRegular m) (sizes : List Frame) (answers : List ℤ) where
  abbrev the : ℕ → Function
  the func = function_at m func

  abbrev ren : ℕ → Renaming
  ren func = renaming_of (function_at m func)

  abbrev g : Given
  g = given m sizes answers

  abbrev pub Good : Result State Cause → Type 0
  Good (Err cause) = Unit {0}
  Good (Ok t) = Holds m ok t

  -- behind what gives a state or a value
  pub on_found : {A : Type 0} (cause : Cause) (o : Option A) (k : A → Result State Cause) → ((a : A) → o ≡ Some a → Good (k a)) → Good (and_then (found cause o) k)
  on_found cause None k h = tt
  on_found cause (Some a) k h = h a refl

  pub on_result : {A : Type 0} (o : Result A Cause) (k : A → Result State Cause) → ((a : A) → o ≡ Ok a → Good (k a)) → Good (and_then o k)
  on_result (Err cause) k h = tt
  on_result (Ok a) k h = h a refl

  pub on_test : (b : Bool) (cause : Cause) (t : State) → (b ≡ true → Holds m ok t) → Good (ok_if b cause t)
  on_test true cause t h = h refl
  on_test false cause t h = tt

  module _ (s : State) (h : Holds m ok s) where
    -- ---- branches

    entered : (label : ℕ) (b : Block) → slice_get (the s.top.func).blocks s.top.block ≡ Some b → s.top.at ≡ length b.instrs → instr_at (the s.top.func) (point_of s) ≡ None → IsTrue (list_any (λ l. l == label) (targets b.term)) → Holds m ok (enter_block g s label)
    entered label b e at none target = record {
      top = record {
        owns = h.top.owns;
        steady = λ c.
            let f = the s.top.func in
            let r = ren s.top.func in
            let p = point_of s in
            let q = entry_point f label in
            let env = with_all s.top.values (phi_values m s.top.values (label_of (slice_get f.blocks p.block)) (phis_of (slice_get f.blocks q.block))) in
            steady_kept f r s.instances (is_resumed s.top.mode) s.top.func s.top.instance s.top.values env q
            (all_kept f r s.top.values (phi_values m s.top.values (label_of (slice_get f.blocks p.block)) (phis_of (slice_get f.blocks q.block))) (phis_plain r m s.top.values (label_of (slice_get f.blocks p.block)) (phis_of (slice_get f.blocks q.block)) ((ok s.top.func c).phis q.block)))
            (steady_next f r s.instances (is_resumed s.top.mode) s.top.func s.top.instance s.top.values p q (ap (passes (is_call_of Intrinsic.CoroBegin)) none) (λ n d. unstopped_at f r (is_resumed s.top.mode) n p None none refl refl) (target_edge f p b label e at target) (h.top.steady c));
      };
      below = h.below;
      asleep = h.asleep;
    }

  leave_good : (s : State) → Holds m ok s → (label : ℕ) (ws : List Window) (b : Block) → slice_get (the s.top.func).blocks s.top.block ≡ Some b → s.top.at ≡ length b.instrs → instr_at (the s.top.func) (point_of s) ≡ None → IsTrue (list_any (λ l. l == label) (targets b.term)) → Good (branch_leaving g s label ws)
  leave_good s h label [] b e at none target = entered s h label b e at none target
  leave_good s h label (w ∷ ws) b e at none target =
      on_found Cause.State (own_instance s) (λ z. ok_if (list_all (may_leave (length s.below) z.1) (w ∷ ws)) Cause.State (enter_block g (with_left (with_status s z.0 z.1 Status.Running) false) label))
      (λ z own. on_test (list_all (may_leave (length s.below) z.1) (w ∷ ws)) Cause.State (enter_block g (with_left (with_status s z.0 z.1 Status.Running) false) label)
      (λ t. entered (with_left (with_status s z.0 z.1 Status.Running) false)
      (holds_left m ok (with_status s z.0 z.1 Status.Running) false (holds_instance m ok s z.0 z.1 (record z.1 { status = Status.Running }) (own_there m ok s.instances s.top.instance z.0 z.1 own).1 refl tt h))
      label b e at none target))

  pub go_good : (s : State) → Holds m ok s → (label : ℕ) (b : Block) → slice_get (the s.top.func).blocks s.top.block ≡ Some b → s.top.at ≡ length b.instrs → instr_at (the s.top.func) (point_of s) ≡ None → IsTrue (list_any (λ l. l == label) (targets b.term)) → Good (go_to g s label)
  go_good s h label b e at none target = leave_good s h label _ b e at none target

  -- ---- calls and returns

  params_length : (env : Env) (ps : List Param) (vs : List Value) → length (with_params env ps vs) ≡ length env
  params_length env [] vs = refl
  params_length env (p ∷ ps) [] = refl
  params_length env (p ∷ ps) (v ∷ vs) = params_length (with_value env p.name v) ps vs ∙ set_length env p.name (Some v)

  blank_length : (n : ℕ) → length (replicate {A = Option Value} n None) ≡ n
  blank_length zero = refl
  blank_length (suc n) = ap suc (blank_length n)

  pub first_stands : (instances : List Instance) (func : ℕ) (args : List Value) → StandsWell m ok instances false func None (entry_values (the func) args) (record { block = 0; at = 0 })
  first_stands instances func args = record {
    owns = tt;
    steady = λ c. record {
      room = params_length (replicate (length (the func).names) None) (the func).params args ∙ blank_length (length (the func).names);
      begun = (ok func c).no_frame_first;
      frames = λ n d. inr ((ok func c).dead_first n d);
    };
  }

  -- what is called isn't resumed
  not_resumed : (b : Bool) → is_resumed (if b then Mode.Ramp else Mode.Plain) ≡ false
  not_resumed true = refl
  not_resumed false = refl

  pub enter_good : (s : State) (h : Holds m ok s) (i : Instr) → instr_at (the s.top.func) (point_of s) ≡ Some i → IsOrdinary true i → (func : ℕ) (args : List Value) (result : Option ℕ) → result ≡ result_of i → Holds m ok (enter g s func args result)
  enter_good s h i here ordinary func args result e = record {
    top = subst (λ (b : Bool). StandsWell m ok s.instances b func None (entry_values (the func) args) (record { block = 0; at = 0 })) (sym (not_resumed (the func).coroutine)) (first_stands s.instances func args);
    below = (λ c. subst (PlainName (the s.top.func) (ren s.top.func)) (sym e) (plain_name m ok s h i here (ordinary_in (is_resumed s.top.mode) i ordinary) c (result_of i) refl), goes_on m ok s h i here (ordinary_in (is_resumed s.top.mode) i ordinary) s.top.values (inl refl), h.below);
    asleep = h.asleep;
  }

  pop_good : (s : State) → Holds m ok s → (v : Option Value) (below : List Activation) → Below m ok s.instances s.top.result below → Good (pop s v below)
  pop_good s h v [] b = on_result (outcome_of v) (λ outcome. Ok (record s { outcome = outcome })) (λ outcome e. record { top = h.top; below = h.below; asleep = h.asleep })
  pop_good s h v (a ∷ below) b = record {
    top = record {
      owns = b.1.owns;
      steady = λ c. steady_kept (the a.func) (ren a.func) s.instances (is_resumed a.mode) a.func a.instance a.values (with_result a.values s.top.result (unwrap_or v Value.Poison)) (record { block = a.block; at = a.at }) (kept_result (the a.func) (ren a.func) a.values s.top.result (unwrap_or v Value.Poison) (b.0 c)) (b.1.steady c);
    };
    below = b.2;
    asleep = h.asleep;
  }

  pub return_good : (s : State) → Holds m ok s → (v : Option Value) → Good (return s v)
  return_good s h v = pop_good (returned s) (record { top = h.top; below = h.below; asleep = h.asleep }) v s.below h.below

  -- ---- slots

  slots_good : (ramp_slots : List ℕ) (o : Option (ℕ × Instance)) (s : State) (slots : List Slot) → ((z : ℕ × Instance) → o ≡ Some z → slice_get s.instances z.0 ≡ Some z.1) → Holds m ok s → Holds m ok (with_new_slots ramp_slots o s slots)
  slots_good ramp_slots None s slots there h = holds_slots m ok s _ h
  slots_good ramp_slots (Some (i, x)) s slots there h =
      holds_slots m ok (with_instance s i (record x { slots = filter (λ slot. not (is_among ramp_slots slot)) slots ++ x.slots })) _
      (holds_like m ok s i x (record x { slots = filter (λ slot. not (is_among ramp_slots slot)) slots ++ x.slots }) (there (i, x) refl) refl refl h)

  kill_good : (ramp_slots : List ℕ) (o : Option (ℕ × Instance)) (s : State) (slot : Slot) → Holds m ok s → Holds m ok (kill_late ramp_slots o s slot)
  kill_good ramp_slots None s slot h = h
  kill_good ramp_slots (Some (i, x)) s slot h = on (is_over x && not (is_among ramp_slots slot))
    where
      on : (b : Bool) → Holds m ok (if b then with_memory s (killed s.world.memory slot.block) else s)
      on true = holds_memory m ok s (killed s.world.memory slot.block) h
      on false = h

  kill_instances : (ramp_slots : List ℕ) (o : Option (ℕ × Instance)) (s : State) (slot : Slot) → (kill_late ramp_slots o s slot).instances ≡ s.instances
  kill_instances ramp_slots None s slot = refl
  kill_instances ramp_slots (Some (i, x)) s slot = on (is_over x && not (is_among ramp_slots slot))
    where
      on : (b : Bool) → (if b then with_memory s (killed s.world.memory slot.block) else s).instances ≡ s.instances
      on true = refl
      on false = refl

  pub new_slot_good : (s : State) → Holds m ok s → (slot : Slot) → Holds m ok (new_slot g s slot)
  new_slot_good s h slot =
      let ramp_slots = (own_facts g s).ramp_slots in
      slots_good ramp_slots (own_instance s) (kill_late ramp_slots (own_instance s) s slot) (slot ∷ [])
      (λ z e. ap (λ (xs : List Instance). slice_get xs z.0) (kill_instances ramp_slots (own_instance s) s slot) ∙ (own_there m ok s.instances s.top.instance z.0 z.1 e).1)
      (kill_good ramp_slots (own_instance s) s slot h)

  -- ---- save and suspend

  origin_is : (instances : List Instance) (i func : ℕ) (x : Instance) → slice_get instances i ≡ Some x → Owns m ok instances func (Some i) → x.coroutine ≡ func
  origin_is instances i func x e owns =
      let is : Some (origin_of x) ≡ Some (func, owns.0) = sym (ap (option_map origin_of) e) ∙ owns.1 in
      let pair : ◌≡◌ {A = ℕ × Value} (origin_of x) (func, owns.0) = cc in
      ap (λ (z : ℕ × Value). z.0) pair

  -- what a save keeps
  asleep_at : (instances : List Instance) (func : ℕ) (o : Option ℕ) (env : Env) (p suspend : Point) (i : ℕ) → o ≡ Some i → ((n : ℕ) → is_renamed (ren func) n ≡ true → IsDead (the func) true n p → IsDeadBehind (the func) n suspend) → (resumed : Bool) → IsSteady (the func) (ren func) instances resumed func o env p → IsAsleep (the func) (ren func) instances func i env suspend
  asleep_at instances func None env p suspend i e dead resumed h = absurd (cc)
  asleep_at instances func (Some j) env p suspend i e dead resumed h =
      let num : j ≡ i = cc in
      subst (λ (k : ℕ). IsAsleep (the func) (ren func) instances func k env suspend) num
      (record { room = h.room; begun = h.begun; frames = λ n c. ⊎_elim (λ known. inl known) (λ d. inr (dead n c (dead_resumed (the func) (ren func) resumed n p d))) (h.frames n c) })

  save_good : (s : State) → Holds m ok s → (point suspend : Point) (k : State → Result State Cause) → ((the s.top.func).coroutine ≡ true → (n : ℕ) → is_renamed (ren s.top.func) n ≡ true → IsDead (the s.top.func) true n (point_of s) → IsDeadBehind (the s.top.func) n suspend) → ((t : State) → Holds m ok t → t.top.func ≡ s.top.func → point_of t ≡ point_of s → Good (k t)) → Good (and_then (save_for s point suspend) k)
  save_good s h point suspend k dead goes = on (own_instance s) refl
    where
      kept : ℕ → Instance → Instance
      kept i x = record x { status = Status.Suspended suspend s.top.values; last_save = Some (record { depth = length s.below; save = point }) }

      sleeps : (i : ℕ) (x : Instance) → s.top.instance ≡ Some i → slice_get s.instances i ≡ Some x → Sleeps m ok s.instances i x.coroutine (Status.Suspended suspend s.top.values)
      sleeps i x own there =
          let func_is : x.coroutine ≡ s.top.func = origin_is s.instances i s.top.func x there (subst (Owns m ok s.instances s.top.func) own h.top.owns) in
          subst (λ (c : ℕ). (the c).coroutine ≡ true → IsAsleep (the c) (ren c) s.instances c i s.top.values suspend) (sym func_is)
          (λ c. asleep_at s.instances s.top.func s.top.instance s.top.values (point_of s) suspend i own (dead c) (is_resumed s.top.mode) (h.top.steady c))

      test : (i : ℕ) (x : Instance) → s.top.instance ≡ Some i → slice_get s.instances i ≡ Some x → (b : Bool) → Good (and_then (ok_if b Cause.State (with_left (with_instance s i (kept i x)) true)) k)
      test i x own there true = goes (with_left (with_instance s i (kept i x)) true) (holds_left m ok (with_instance s i (kept i x)) true (holds_instance m ok s i x (kept i x) there refl (sleeps i x own there) h)) refl refl
      test i x own there false = tt

      on : (o : Option (ℕ × Instance)) → own_instance s ≡ o → Good (and_then (and_then (found Cause.State o) (λ (i, x). ok_if (not x.freed) Cause.State (with_left (with_instance s i (record x { status = Status.Suspended suspend s.top.values; last_save = Some (record { depth = length s.below; save = point }) })) true))) k)
      on None e = tt
      on (Some (i, x)) e = test i x (own_there m ok s.instances s.top.instance i x e).0 (own_there m ok s.instances s.top.instance i x e).1 (not x.freed)

  -- the instruction at the place of a state like another one
  abbrev pub same_here : State → Instr → Type 0
  same_here t i = instr_at (the t.top.func) (point_of t) ≡ Some i

  pub here_too : (s t : State) (i : Instr) → same_here s i → t.top.func ≡ s.top.func → point_of t ≡ point_of s → same_here t i
  here_too s t i here func point = (λ k. instr_at (the (func k)) (point k)) ∙ here

  pub gives_here : (s : State) → Holds m ok s → (i : Instr) → same_here s i → IsOrdinary (is_resumed s.top.mode) i → (result : Option ℕ) → result ≡ result_of i → (v : Value) → Holds m ok (gives s result v)
  gives_here s h i here ordinary result e v = settled_holds m ok s h i here ordinary (record { world = s.world; values = with_result s.top.values result v }) (inr (v, ap (λ (o : Option ℕ). with_result s.top.values o v) e))

  pub gives_good : (s : State) → Holds m ok s → (i : Instr) → same_here s i → IsOrdinary true i → (result : Option ℕ) → result ≡ result_of i → (v : Value) → Holds m ok (gives s result v)
  gives_good s h i here ordinary result e v = gives_here s h i here (ordinary_in (is_resumed s.top.mode) i ordinary) result e v

  pub next_good : (s : State) → Holds m ok s → (i : Instr) → same_here s i → IsOrdinary true i → Holds m ok (next s)
  next_good s h i here ordinary = settled_holds m ok s h i here (ordinary_in (is_resumed s.top.mode) i ordinary) (work_of s) (inl refl)

  pub saved_good : (s : State) → Holds m ok s → (i : Instr) → same_here s i → IsOrdinary true i → is_call_of Intrinsic.CoroSave i ≡ true → Good (save g s)
  saved_good s h i here ordinary is =
      on_found Cause.State (suspend_of (the s.top.func) (point_of s)) (λ suspend. and_then (save_for s (point_of s) suspend) (λ t. Ok (next t)))
      (λ suspend e. save_good s h (point_of s) suspend (λ t. Ok (next t))
      (λ c n d dead. (ok s.top.func c).dead_behind_save (point_of s) suspend n (ap (passes (is_call_of Intrinsic.CoroSave)) here ∙ is) e d dead)
      (λ t ht func point. next_good t ht i (here_too s t i here func point) ordinary))

  pub suspended_good : (s : State) → Holds m ok s → (i : Instr) → same_here s i → IsOrdinary true i → is_call_of Intrinsic.CoroSuspend i ≡ true → (result : Option ℕ) → result ≡ result_of i → (x : Operand) → Good (suspend s result x)
  suspended_good s h i here ordinary is result e Operand.None =
      save_good s h (point_of s) (point_of s) (λ t. Ok (gives t result (integer 8 (negsuc 0))))
      (λ c n d dead. (ok s.top.func c).dead_behind (point_of s) n (ap (passes (is_call_of Intrinsic.CoroSuspend)) here ∙ is) d dead)
      (λ t ht func point. gives_good t ht i (here_too s t i here func point) ordinary result e (integer 8 (negsuc 0)))
  suspended_good s h i here ordinary is result e (Operand.Local n) = gives_good s h i here ordinary result e (integer 8 (negsuc 0))
  suspended_good s h i here ordinary is result e (Operand.Global n) = gives_good s h i here ordinary result e (integer 8 (negsuc 0))
  suspended_good s h i here ordinary is result e (Operand.Number z) = gives_good s h i here ordinary result e (integer 8 (negsuc 0))
  suspended_good s h i here ordinary is result e Operand.True = gives_good s h i here ordinary result e (integer 8 (negsuc 0))
  suspended_good s h i here ordinary is result e Operand.False = gives_good s h i here ordinary result e (integer 8 (negsuc 0))
  suspended_good s h i here ordinary is result e Operand.Null = gives_good s h i here ordinary result e (integer 8 (negsuc 0))
  suspended_good s h i here ordinary is result e Operand.Poison = gives_good s h i here ordinary result e (integer 8 (negsuc 0))
