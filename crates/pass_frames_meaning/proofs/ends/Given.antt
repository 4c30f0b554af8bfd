-- What phis of a coroutine's block get where it is entered stands for the source's.
use Rattle.std.proofs.Common.{◌≡◌, ℕ, ◌<◌, Bool, true, false, List, [], ◌∷◌, length, Option, Some, None, Result, Ok, refl, sym, ap, ◌∙◌, subst, arith}
use Rattle.std.specs.List.{list_all}
use Rattle.std.specs.Prelude.{map, option_map, slice_get}
use Rattle.pass_frames_proof.specs.flow_solver.Paths.{IsListed}
use Rattle.pass_frames_proof.specs.ir_base.declared.cause.Cause.{Cause}
use Rattle.pass_frames_proof.specs.ir_base.declared.outcome.Outcome.{Outcome}
use Rattle.pass_frames_proof.specs.ir_model.Names.{function_at, position_of}
use Rattle.pass_frames_proof.specs.ir_model.declared.instr.Instr.{Instr}
use Rattle.pass_frames_proof.specs.ir_model.declared.instr.Phi.{Phi}
use Rattle.pass_frames_proof.specs.ir_model.declared.instr.Terminator.{Terminator}
use Rattle.pass_frames_proof.specs.ir_model.declared.module.Block.{Block}
use Rattle.pass_frames_proof.specs.ir_model.declared.module.Function.{Function}
use Rattle.pass_frames_proof.specs.ir_paths.Windows.{windows_of}
use Rattle.pass_frames_proof.specs.ir_paths.declared.point.Window.{Window}
use Rattle.pass_frames_proof.specs.pass_cells.Cells.{fetches_of}
use Rattle.pass_frames_proof.specs.pass_cells.declared.plan.KeptValue.{KeptValue}
use Rattle.pass_frames_proof.specs.pass_fetch.Blocks.{fetched_phis}
use Rattle.pass_frames_meaning.proofs.coroutines.Steps.{next_is, same_ok}
use Rattle.pass_frames_meaning.proofs.ends.Phis.{each_told, last_stands, phi_no_distance, phi_no_root, phi_told, phis_apart, phis_fetched_there, phis_low, phis_told}
use Rattle.pass_frames_meaning.proofs.ends.Targets.{IsTarget}
use Rattle.pass_frames_meaning.proofs.ends.Windows.{windows_placed}
use Rattle.pass_frames_meaning.proofs.others.Others.{no_ok}
use Rattle.pass_frames_meaning.specs.Coroutines.{HasStorables, MayFollow}
use Rattle.pass_frames_meaning.specs.Setting.{AreOfRuns, KeepsAll, Setting}
use Rattle.pass_frames_proof.proofs.suspending.Given.{edged_framed}
use Rattle.pass_frames_proof.specs.Edges.{EndsLed, PhisGiven, block_to, entered_phis, entered_work}
use Rattle.pass_frames_proof.specs.Framings.{IsFraming}
use Rattle.pass_frames_proof.specs.Leaving.{AreWindowsPlaced, IsAtBranch}
use Rattle.pass_frames_proof.specs.Lines.{IsStorable}
use Rattle.pass_frames_proof.specs.Passes.{block_at}
use Rattle.pass_frames_proof.specs.Places.{Framing, edged, fetched, framed, instrs_at, plan}
use Rattle.pass_frames_proof.specs.Related.{AreBuiltOf, IsKeptValue, is_coroutine}
use Rattle.pass_frames_proof.specs.Phis.{given_phis}
use Rattle.pass_frames_proof.specs.Stepping.{IsNotEntering}
use Rattle.pass_frames_proof.specs.Stores.{IsNameGiven}
use Rattle.pass_frames_proof.specs.pass_renewed_proof.Renewed.{renewed_act, renewed_step}
use Rattle.pass_frames_proof.specs.run_agreement.Machines.{IsFine}
use Rattle.pass_frames_proof.specs.run_laws.changed.Changed.{Each}
use Rattle.pass_frames_proof.specs.run_memory.declared.pointer.Value.{Value}
use Rattle.pass_frames_proof.specs.run_source.Source.{branch_leaving, context_of, enter_block, go_to, left_windows, may_leave}
use Rattle.pass_frames_proof.specs.run_source.State.{function_of, own_instance, with_left, with_status, work_of}
use Rattle.pass_frames_proof.specs.run_source.declared.state.Instance.{Instance}
use Rattle.pass_frames_proof.specs.run_source.declared.state.State.{State}
use Rattle.pass_frames_proof.specs.run_source.declared.state.Status.{Status}
use Rattle.pass_frames_proof.specs.run_source_tables.Given.{Given}
use Rattle.pass_frames_proof.specs.run_states.sound_states.Sound.{IsInstanceOf}
use Rattle.pass_frames_proof.specs.run_step.Results.{and_then, found, ok_if}
use Rattle.pass_frames_proof.specs.run_step.Step.{AtTerm, GoTo, fetch, label_of, phi_values, phis_of, term_action, with_all}
use Rattle.pass_frames_proof.specs.run_step.Values.{Env, value_in}

-- ---- where a branch leads

-- the activation on top has the values with which the block is entered
pub record IsEntered (g : Given) (s after : State) (label : ℕ) : Type 0 where
  pub func : after.top.func ≡ s.top.func
  pub values : after.top.values ≡ (enter_block g s label).top.values

pub entered : (g : Given) (s after : State) (label : ℕ) → go_to g s label ≡ Ok after → IsEntered g s after label
entered g s after label = entered_by (left_windows g s label)
  where
    as_is : (u : State) → u.top.func ≡ s.top.func → u.top.values ≡ (enter_block g s label).top.values
        → ◌≡◌ {A = Result State Cause} (Ok u) (Ok after) → IsEntered g s after label
    as_is u func values e =
        let same : u ≡ after = same_ok u after e in
        record {
          func = ap (λ (z : State). z.top.func) (sym same) ∙ func;
          values = ap (λ (z : State). z.top.values) (sym same) ∙ values;
        }

    entered_by : (ws : List Window) → branch_leaving g s label ws ≡ Ok after → IsEntered g s after label
    entered_by [] e = as_is (enter_block g s label) refl refl e
    entered_by (w ∷ ws) e = on (own_instance s) e
      where
        by : (i : ℕ) (y : Instance) (b : Bool)
            → ok_if b Cause.State (enter_block g (with_left (with_status s i y Status.Running) false) label)
            ≡ Ok after → IsEntered g s after label
        by i y true h =
            as_is (enter_block g (with_left (with_status s i y Status.Running) false) label) refl refl h
        by i y false h = absurd (no_ok Cause.State after h)

        on : (q : Option (ℕ × Instance))
            → and_then (found Cause.State q) (λ (i, y).
            ok_if (list_all (may_leave (length s.below) y) (w ∷ ws)) Cause.State
            (enter_block g (with_left (with_status s i y Status.Running) false) label)) ≡ Ok after
            → IsEntered g s after label
        on None h = absurd (no_ok Cause.State after h)
        on (Some z) h = by z.0 z.1 (list_all (may_leave (length s.below) z.1) (w ∷ ws)) h

-- an instance is one of the activation's coroutine
pub own_coroutine : (xs : List Instance) (func i : ℕ) (x : Instance) (o : Option ℕ) → IsInstanceOf xs func o
    → o ≡ Some i → slice_get xs i ≡ Some x → x.coroutine ≡ func
own_coroutine xs func i x None h e there = absurd (cc)
own_coroutine xs func i x (Some j) h e there =
    same (sym (ap (option_map (λ (y : Instance). y.coroutine)) (ap (slice_get xs) (number j i e) ∙ there)) ∙ h)
  where
    number : (j i : ℕ) → Some j ≡ Some i → j ≡ i
    number j i e = cc

    same : Some x.coroutine ≡ Some func → x.coroutine ≡ func
    same e = cc

module _ (c : Setting) (all : KeepsAll c) (s t : State) (r : AreBuiltOf c.b s t)
    (k : AreOfRuns c s t r) (runs : s.outcome ≡ Outcome.Running) (fine : IsFine (renewed_step c.g s).outcome)
    (coroutine : is_coroutine c.b s.top.func ≡ true) (mode : IsNotEntering s.top.mode) (o : MayFollow c s)
    (e : Terminator) (there : fetch (function_of c.g.given s) s.top.block s.top.at ≡ AtTerm e) (label : ℕ)
    (does : term_action (context_of c.g.given s) (work_of s) e ≡ GoTo label) where
  abbrev x : Framing
  x = c.b.framing s.top.func

  is : IsFraming x
  is = all.given.framings s.top.func coroutine

  same : function_at c.g.given.code s.top.func ≡ edged x
  same = all.given.coroutines s.top.func coroutine

  room : length s.top.values ≡ length (edged x).names
  room = k.sound.top.values ∙ ap (λ (g : Function). length g.names) same

  pub next_state : (after : State) × (go_to c.g.given s label ≡ Ok after) × (renewed_step c.g s ≡ after)
  next_state =
      let z = next_is c all s t r k runs fine coroutine mode o (AtTerm e) there refl in
      (z.after, ap (renewed_act c.g s) (sym does) ∙ z.acts, z.steps)

  module _ (target : IsTarget (c.b.framing s.top.func) label) where
    pub branches : s.top.at ≡ length (instrs_at (c.b.framing s.top.func) s.top.block)
        → slice_get (edged (c.b.framing s.top.func)).blocks s.top.block
        ≡ Some (block_at (edged (c.b.framing s.top.func)) s.top.block) → IsAtBranch c.b c.g s label
    branches at here = record {
      coroutine = coroutine;
      mode = mode;
      at = at;
      here = here;
      target = block_to x label;
      labelled = target.labelled;
      windows = subst (λ (w : List Window × List Window). AreWindowsPlaced x w.0 w.1) (λ i. (
        sym (all.windows s.top.func ∙ ap windows_of same) i,
        sym (all.framed_windows s.top.func
            ∙ ap windows_of (all.given.built.coroutines s.top.func coroutine).is) i,
      )) (windows_placed c all s.top.func coroutine);
      after = next_state.0;
      does = next_state.1;
      instances = λ i y own got. own_coroutine s.instances s.top.func i y s.top.instance k.sound.top.instance own got;
    }

    after_values : next_state.0.top.values ≡ with_all s.top.values (entered_phis c.g s x label)
    after_values =
        (entered c.g.given s next_state.0 label next_state.1).values
        ∙ ap (λ (g : Function). with_all s.top.values (phi_values c.g.given.code s.top.values
        (label_of (slice_get g.blocks s.top.block)) (phis_of (slice_get g.blocks (position_of g label))))) same

    storable : (q : ℕ) (kept : KeptValue) → IsKeptValue x q kept
        → IsStorable kept.ty (value_in (with_all s.top.values (entered_phis c.g s x label)) q)
    storable q kept is_kept =
        let z : (n : ℕ) (v : KeptValue) → IsKeptValue (c.b.framing next_state.0.top.func) n v
        → IsStorable v.ty (value_in next_state.0.top.values n) =
        subst (HasStorables c) next_state.2 o.storables
        (subst (λ (n : ℕ). is_coroutine c.b n ≡ true) (sym (entered c.g.given s next_state.0 label next_state.1).func)
        coroutine) in
        subst (λ (env : Env). IsStorable kept.ty (value_in env q)) after_values
        (z q kept (subst (λ (n : ℕ). IsKeptValue (c.b.framing n) q kept)
        (sym (entered c.g.given s next_state.0 label next_state.1).func) is_kept))

    abbrev lab : ℕ
    lab = label_of (slice_get (edged x).blocks s.top.block)

    abbrev target_block : Block
    target_block = block_at (edged x) (block_to x label)

    entered_are : entered_phis c.g s x label
        ≡ phi_values c.g.given.code s.top.values (label_of (slice_get (edged x).blocks s.top.block))
        (block_at (edged x) (block_to x label)).phis
    entered_are = ap (λ (b : Option Block). phi_values c.g.given.code s.top.values
        (label_of (slice_get (edged x).blocks s.top.block)) (phis_of b)) target.there

    abbrev env : Env
    env = with_all s.top.values (entered_phis c.g s x label)

    fetched_are : (n : ℕ) × ((block_at (fetched x) (block_to x label)).phis
        ≡ fetched_phis (fetches_of (plan x)) n (block_at (edged x) (block_to x label)).phis)
    fetched_are = phis_fetched_there x is (block_to x label) target.there

    module _ (u : State) (wide : length u.top.values ≡ length (framed x).names) (line : List Instr)
        (term : Terminator) (ends : EndsLed c.b c.g s u r.homes label line term) where
      pub phis_given : PhisGiven c.b c.g s u r.homes label ends.work
      phis_given = record {
        value = λ q. value_in env q.result;
        same =
            ap (given_phis (λ (q : Phi). value_in env q.result)) fetched_are.1
            ∙ ap (λ (ps : List (ℕ × Value)). given_phis (λ (q : Phi). value_in (with_all s.top.values ps) q.result)
            (fetched_phis (fetches_of (plan x)) fetched_are.0 target_block.phis)) entered_are
            ∙ phis_told c.g.given.code s.top.values lab (fetches_of (plan x)) s.top.values fetched_are.0
            target_block.phis (phis_apart x is (block_to x label) target.there)
            (λ q l. subst (λ (n : ℕ). q < n) (sym room) (phis_low x is (block_to x label) target.there q l))
            ∙ sym entered_are;
        each = subst (λ (ps : List Phi). Each (IsNameGiven x r.homes (entered_work c.b u x s.top.block label ends.work))
            (given_phis (λ (q : Phi). value_in env q.result) ps)) (sym fetched_are.1)
            (each_told (IsNameGiven x r.homes (entered_work c.b u x s.top.block label ends.work))
            (fetches_of (plan x)) (value_in env) fetched_are.0 target_block.phis (λ q l. record {
              stands = last_stands r.homes (length (edged x).names) s.top.values ends.work.values
                  (entered_phis c.g s x label)
                  (phi_values c.b.given.given.code ends.work.values
                  (label_of (slice_get (framed x).blocks s.top.block))
                  (phis_of (slice_get (framed x).blocks (block_to x label))))
                  (let a : length s.top.values ≡ length (edged x).names = room in
                  let b : length u.top.values ≡ length (framed x).names = wide in
                  let h = edged_framed x in
                  let z = ends.room in
                  omega (arith, a, b, h, z))
                  (let a : length s.top.values ≡ length (edged x).names = room in omega (arith, a))
                  ends.phis q
                  (subst (λ (ps : List (ℕ × Value)). IsListed q (map (λ (z : ℕ × Value). z.0) ps)) (sym entered_are)
                  (phi_told c.g.given.code s.top.values lab (fetches_of (plan x)) target_block.phis q l));
              storable = λ kept is_kept. storable q kept is_kept;
              no_root = phi_no_root x is (block_to x label) target.there q l;
              no_distance = phi_no_distance x is (block_to x label) target.there q l;
            }));
      }
