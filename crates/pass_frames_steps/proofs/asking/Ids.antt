-- coro.id names no promise in the framed form, and gives no value in either run.
use Rattle.std.proofs.Common.{◌≡◌, ◌+◌, ◌-◌, ◌≤◌, ◌&&◌, ◌∷◌, ◌++◌, ◌∙◌, [], if◌then◌else◌, Bool, List, None, Option, Some, ap, arith, false, refl, subst, sym, true, ℕ}
use Rattle.std.specs.Prelude.{slice_get}
use Rattle.pass_frames_code.specs.ir_model.Names.{function_at}
use Rattle.pass_frames_code.specs.ir_model.Ty.{Ty}
use Rattle.pass_frames_code.specs.ir_model.declared.instr.Instr.{Instr}
use Rattle.pass_frames_code.specs.ir_model.declared.module.Function.{Function}
use Rattle.pass_frames_code.specs.ir_model.declared.operand.Arg.{Arg}
use Rattle.pass_frames_code.specs.ir_model.declared.operand.Callee.{Callee}
use Rattle.pass_frames_code.specs.ir_model.declared.operand.Intrinsic.{Intrinsic}
use Rattle.pass_frames_code.specs.ir_parts.Contents.{instr_operands, result_of}
use Rattle.pass_frames_code.specs.pass_addresses.Placing.{lies_outside, with_null, without_promise_of}
use Rattle.pass_frames_code.specs.pass_cells.Cells.{fetches_of}
use Rattle.pass_frames_code.specs.pass_cells.Kept.{entry}
use Rattle.pass_frames_code.specs.pass_cells.Moves.{after_saved, saved_values}
use Rattle.pass_frames_code.specs.pass_cells.Written.{distance_behind, save_row, stored_at, stored_result}
use Rattle.pass_frames_code.specs.pass_cells.declared.plan.Plan.{Plan}
use Rattle.pass_frames_code.specs.pass_copies.BeginCopies.{behind}
use Rattle.pass_frames_code.specs.pass_fetch.Blocks.{end_at}
use Rattle.pass_frames_code.specs.pass_fetch.Fetching.{fetches_of_all}
use Rattle.pass_frames_code.specs.pass_fetch.Instrs.{with_fetched}
use Rattle.pass_frames_code.specs.pass_fetch.declared.fetch.Fetch.{Fetch}
use Rattle.pass_frames_code.proofs.code.Idle.{fetches_idle, instr_same, only_idle}
use Rattle.pass_frames_code.proofs.code.Instrs.{instr_code}
use Rattle.pass_frames_code.proofs.code.Left.{parts_left}
use Rattle.pass_frames_steps.proofs.here.Finish.{IsDoneHere, related_after}
use Rattle.pass_frames_steps.proofs.here.State.{at_is, block_is, cells, values}
use Rattle.pass_frames_steps.proofs.here.Touched.{cells_left}
use Rattle.pass_frames_code.proofs.layers.Idle.{all_stay, both_idle}
use Rattle.pass_frames_code.proofs.lined.Lines.{framed_does}
use Rattle.pass_frames_code.proofs.stepping.Codes.{code_stands, instr_there}
use Rattle.pass_frames_code.proofs.stepping.Operands.{asked}
use Rattle.pass_frames_code.proofs.stepping.Other.{one_followed}
use Rattle.pass_frames_code.proofs.stepping.Stands.{cost_is, renewed_does}
use Rattle.pass_frames_code.specs.Asking.{IsAtId}
use Rattle.pass_frames_code.specs.Code.{address_state, addressed, copied_there, is_ahead, load_name, loaded, located, past_addressed, saved, slot_table, stores, unmarked_one, where_name, wheres, write_name}
use Rattle.pass_frames_code.specs.Followed.{IsFollowed}
use Rattle.pass_frames_code.specs.Framings.{IsFraming}
use Rattle.pass_frames_code.specs.Layers.{IsIdle, becomes, only}
use Rattle.pass_frames_code.specs.Led.{SparesBlocks}
use Rattle.pass_frames_code.specs.Meaning.{action_at, coroutine_cost, other_cost, step_cost}
use Rattle.pass_frames_code.specs.Passes.{block_at, fetched_first, fetching_at, phi_ends}
use Rattle.pass_frames_code.specs.Places.{Framing, Placed, addressing_layer, copies, edged, framed, instrs_at, offsets, place, placed_layer, plan, unmarked}
use Rattle.pass_frames_code.specs.Related.{AreBuiltOf, AreCoroutines, Building}
use Rattle.pass_frames_code.specs.Stepping.{AreGiven, StandsInPlace, placed_front, state_in}
use Rattle.pass_frames_code.proofs.pass_proofs.fetch.shape.Fetching.{none_fetched}
use Rattle.pass_frames_code.specs.pass_proofs.fetch.rules.Fetches.{AreUnfetched}
use Rattle.pass_frames_code.specs.pass_renewed_proof.Renewed.{RenewedGiven, renewed_step}
use Rattle.pass_frames_code.specs.run_framed.Framed.{frame_rights, framed_step}
use Rattle.pass_frames_code.specs.run_source.Source.{context_of}
use Rattle.pass_frames_code.specs.run_source.State.{function_of, next, work_of}
use Rattle.pass_frames_code.specs.run_source.declared.state.State.{State}
use Rattle.pass_frames_code.specs.run_step.Step.{AtInstr, Coro, action_of, fetch}

-- ---- what it becomes

row_none : (p : Plan) (result : Option ℕ) (must_tail : Bool) (ty : Option Ty) (args : List Arg)
    → save_row p (Instr.Call result must_tail ty (Callee.Intrinsic Intrinsic.CoroId) args) ≡ []
row_none p None must_tail ty args = refl
row_none p (Some q) must_tail ty args = refl

-- it accesses nothing
no_access : {A : Type 0} (ahead : Bool) (x y : A) → (if ahead && false then x else y) ≡ y
no_access true x y = refl
no_access false x y = refl

not_stored : (p : Plan) (result : Option ℕ) → ((q : ℕ) → result ≡ Some q → entry p.places q ≡ None)
    → stored_result p result ≡ []
not_stored p None h = refl
not_stored p (Some q) h = ap (stored_at p.kept q) (h q refl)

module _ (x : Framing) (is : IsFraming x) (k at : ℕ) (result : Option ℕ) (must_tail : Bool) (ty : Option Ty)
    (args : List Arg)
    (there : slice_get (instrs_at x k) at ≡ Some (Instr.Call result must_tail ty (Callee.Intrinsic Intrinsic.CoroId) args))
    (unloaded : AreUnfetched (fetches_of (plan x))
    (instr_operands (Instr.Call result must_tail ty (Callee.Intrinsic Intrinsic.CoroId) args)))
    (unplaced : AreUnfetched (slot_table x)
    (instr_operands (without_promise_of (Instr.Call result must_tail ty (Callee.Intrinsic Intrinsic.CoroId) args))))
    (unkept : (q : ℕ) → result ≡ Some q → entry (plan x).places q ≡ None) where
  abbrev i : Instr
  i = Instr.Call result must_tail ty (Callee.Intrinsic Intrinsic.CoroId) args

  abbrev st : Placed
  st = state_in x k at

  abbrev T : List (Option Fetch)
  T = fetches_of (plan x)

  abbrev w : Instr
  w = without_promise_of i

  loaded_is : loaded x st i ≡ i
  loaded_is = instr_same T (load_name st) i unloaded

  located_is : located x st i ≡ i
  located_is =
      no_access (is_ahead st) (with_fetched (copies x).fetches (where_name st) (loaded x st i)) (loaded x st i)
      ∙ loaded_is

  saved_is : saved x st i ≡ []
  saved_is =
      ap (λ (j : Instr). saved_values (plan x).kept (write_name st) (save_row (plan x) j)) loaded_is
      ∙ ap (saved_values (plan x).kept (write_name st)) (row_none (plan x) result must_tail ty args)

  wheres_is : wheres x st i ≡ []
  wheres_is =
      no_access (is_ahead st) (fetches_of_all (copies x).fetches (where_name st) (instr_operands (loaded x st i))) []

  idle : IsIdle (addressing_layer x k) w
  idle =
      both_idle (fetching_at (unmarked x) (slot_table x) k) (only (lies_outside (offsets x))) w
      (fetches_idle (slot_table x) (end_at (phi_ends (unmarked x) (slot_table x)) (block_at (unmarked x) k).label)
      (fetched_first (unmarked x) (slot_table x) k) (block_at (unmarked x) k) w unplaced) (only_idle (lies_outside (offsets x)) w refl)

  one_is : (n : ℕ × Unit {0}) → addressed x k n (unmarked_one x (located x st i)) ≡ w ∷ []
  one_is n =
      ap (λ (j : Instr). addressed x k n (unmarked_one x j)) located_is
      ∙ all_stay (addressing_layer x k) (w ∷ []) (idle, tt) n

  stores_is : stores x st i ≡ []
  stores_is =
      ap (λ (j : Instr). stored_result (plan x) (result_of j)
      ++ distance_behind x.code (plan x) (after_saved (write_name st) (save_row (plan x) j)) j) loaded_is
      ∙ ap (λ (is : List Instr). is ++ []) (not_stored (plan x) result unkept)

  copied_is : copied_there x st i ≡ []
  copied_is = ap (behind (copies x)) loaded_is

  pub id_code : becomes (placed_layer x k) st i ≡ w ∷ []
  id_code =
      instr_code x k st i (parts_left x is k at i there)
      ∙ (λ j. none_fetched T (load_name st) (instr_operands i) unloaded j
      ++ (addressed x k (address_state st) (saved_is j)
      ++ (wheres_is j
      ++ (addressed x k (past_addressed x k (address_state st) (saved_is j)) (unmarked_one x (located x st i))
      ++ (addressed x k
      (past_addressed x k (past_addressed x k (address_state st) (saved_is j)) (unmarked_one x (located x st i)))
      (copied_is j) ++ stores_is j)))))
      ∙ ap (λ (is : List Instr). is ++ []) (one_is (address_state st))

-- ---- the step

module _ (b : Building) (g : RenewedGiven) (given : AreGiven b g) (s t : State) (r : AreBuiltOf b s t)
    (result : Option ℕ) (must_tail : Bool) (ty : Option Ty) (args : List Arg)
    (h : IsAtId b s result must_tail ty args) where
  abbrev i2 : Instr
  i2 = Instr.Call result must_tail ty (Callee.Intrinsic Intrinsic.CoroId) args

  abbrev x2 : Framing
  x2 = b.framing s.top.func

  abbrev w2 : Instr
  w2 = without_promise_of i2

  is2 : IsFraming x2
  is2 = given.framings s.top.func h.on.coroutine

  stands : StandsInPlace x2 s.top.block s.top.at (w2 ∷ [])
  stands =
      code_stands x2 s.top.block s.top.at i2 (w2 ∷ []) h.on.there
      (id_code x2 is2 s.top.block s.top.at result must_tail ty args h.on.there h.unloaded h.unplaced
      (λ q e. (h.unkept q e).0)) (refl, tt) h.on.unreturned

  fetched : fetch (function_of g.given s) s.top.block s.top.at ≡ AtInstr i2
  fetched =
      ap (λ (f : Function). fetch f s.top.block s.top.at) (given.coroutines s.top.func h.on.coroutine)
      ∙ instr_there (edged x2) s.top.block s.top.at i2 h.on.there

  source_is : renewed_step g s ≡ next s
  source_is = renewed_does g s (AtInstr i2) (Coro Intrinsic.CoroId args result) h.runs fetched refl refl

  code_framed : function_of b.given.given t ≡ framed x2
  code_framed =
      (λ k. function_at (given.code k) (r.top.func k)) ∙ (given.built.coroutines s.top.func h.on.coroutine).is

  there2 : fetch (function_of b.given.given t) t.top.block t.top.at ≡ AtInstr w2
  there2 =
      (λ k. fetch (code_framed k) (block_is b s t r given.framings i2 h.on k) (at_is b s t r given.framings i2 h.on k))
      ∙ stands.0.0

  target_is : framed_step b.given t ≡ next t
  target_is = framed_does b.given t (AtInstr w2) (Coro Intrinsic.CoroId (with_null args) result) (r.outcome ∙ h.runs)
      there2 refl refl

  old : AreCoroutines x2 r.homes (frame_rights b.given t.instances) t s.top t.top
  old = values b s t r given.framings i2 h.on

  done : IsDoneHere x2 r.homes (frame_rights b.given t.instances) s.top.values t.top.values t.top i2
      (placed_front x2 (state_in x2 s.top.block s.top.at) i2) s.top.values (work_of t)
  done = record {
    cells = (cells b s t r given.framings i2 h.on).0;
    set = λ u e.
        old.names.each u (asked x2 s.top s.top.mode u h.on.mode) (h.unkept u e).0 (h.unkept u e).1;
    others = λ u unset differ. refl;
    room = refl;
    source = λ u differ. refl;
    source_room = refl;
  }

  spares : SparesBlocks x2 t.top t.world.memory t.world.memory
  spares = record { same = λ e none. refl }

  related_next : AreBuiltOf b (next s) (next t)
  related_next =
      related_after b s t r given.framings i2 h.on (w2 ∷ []) stands s.top.values (work_of t) done r.world
      (cells_left b s t r given.framings i2 h.on t.world spares) (cells b s t r given.framings i2 h.on).1
      (λ name align ty other one. one)

  cost : 1 ≤ step_cost b g s s.top.mode
  cost =
      subst (λ (n : ℕ). 1 ≤ n)
      (sym (cost_is b g s s.top.mode h.on.mode
      ∙ ap (λ (k : Bool). if k then coroutine_cost b g s (action_at g s) else other_cost b g s (action_at g s))
      h.on.coroutine
      ∙ ap (coroutine_cost b g s) (ap (action_of (context_of g.given s) (work_of s)) fetched)
      ∙ ap (λ (k : ℕ). k - (place x2 (record { block = s.top.block; at = s.top.at })).at) stands.1
      ∙ one_more (place x2 (record { block = s.top.block; at = s.top.at })).at))
      (omega arith)
    where
      one_more : (n : ℕ) → (n + 1) - n ≡ 1
      one_more n = omega arith

  pub id_followed : IsFollowed b g s t
  id_followed =
      one_followed b g s t cost
      (subst (λ (p : State × State). AreBuiltOf b p.0 p.1) (λ k. (sym source_is k, sym target_is k)) related_next)
