-- A terminator of a coroutine that goes to a label is followed, from a block that is on no resume or destroy edge.
use Rattle.std.proofs.Common.{◌≡◌, ℕ, ◌<◌, true, false, length, Option, Ok, refl, sym, ap, ◌∙◌, subst, arith}
use Rattle.pass_frames_proof.specs.flow_solver.Paths.{IsListed}
use Rattle.pass_frames_proof.specs.ir_base.declared.outcome.Outcome.{Outcome}
use Rattle.pass_frames_proof.proofs.ir_laws.facts.Members.{each_all}
use Rattle.pass_frames_proof.specs.ir_laws.facts.sound_states.Named.{HasNamedUses}
use Rattle.pass_frames_proof.specs.ir_model.Names.{function_at}
use Rattle.pass_frames_proof.specs.ir_model.declared.instr.Terminator.{Terminator}
use Rattle.pass_frames_proof.specs.ir_model.declared.module.Function.{Function}
use Rattle.pass_frames_proof.specs.ir_paths.Paths.{targets}
use Rattle.pass_frames_proof.specs.pass_cells.Cells.{fetches_of}
use Rattle.pass_frames_proof.specs.pass_fetch.Fetching.{next_after_all}
use Rattle.pass_frames_proof.specs.pass_fetch.Instrs.{fetched_term, term_operands}
use Rattle.pass_frames_meaning.proofs.begun.Begun.{begin_plain}
use Rattle.pass_frames_meaning.proofs.ends.Counted.{fetched_written, loads_fit, named_low, slots_below, written_unmarked}
use Rattle.pass_frames_meaning.proofs.ends.Given.{branches, next_state, phis_given}
use Rattle.pass_frames_meaning.proofs.ends.Leads.{leads_to_none}
use Rattle.pass_frames_meaning.proofs.ends.Line.{may_end, phis_below, phis_seen, term_below, term_seen}
use Rattle.pass_frames_meaning.proofs.ends.Seen.{addresses, loads, same_names}
use Rattle.pass_frames_meaning.proofs.ends.Targets.{IsTarget, IsTermAt, goes_listed, is_target, not_entry, term_at}
use Rattle.pass_frames_meaning.proofs.ends.UpTo.{end_unset}
use Rattle.pass_frames_meaning.proofs.placed.Placed.{offsets_placed}
use Rattle.pass_frames_meaning.specs.Coroutines.{MayFollow}
use Rattle.pass_frames_meaning.proofs.ends.Coming.{coming_there}
use Rattle.pass_frames_meaning.specs.Ends.{AreComing, KeepsEnds, MayGoOn}
use Rattle.pass_frames_meaning.specs.Setting.{AreOfRuns, KeepsAll, Setting}
use Rattle.pass_frames_proof.proofs.jumping.Placed.{between_term}
use Rattle.pass_frames_proof.proofs.jumping.Ready.{may_jump}
use Rattle.pass_frames_proof.proofs.jumping.Whole.{whole_jump_followed}
use Rattle.pass_frames_proof.proofs.leaving.Alike.{branch_alike}
use Rattle.pass_frames_proof.proofs.stepping.May.{coroutine_values, not_returned}
use Rattle.pass_frames_proof.proofs.stepping.Names.{slots_new}
use Rattle.pass_frames_proof.proofs.stepping.Operands.{empty_same}
use Rattle.pass_frames_proof.proofs.suspending.Given.{edged_framed}
use Rattle.pass_frames_proof.specs.Code.{end_code, end_term, last_state, load_name, slot_table}
use Rattle.pass_frames_proof.specs.Edges.{AreEndsLed, ArePhisGiven, IsAtJump, block_to}
use Rattle.pass_frames_proof.specs.Followed.{IsFollowed}
use Rattle.pass_frames_proof.specs.Framings.{IsFraming}
use Rattle.pass_frames_proof.specs.Jumps.{CanJump, MayEndAt, MayGo, MayJump}
use Rattle.pass_frames_proof.specs.Distances.{IsBelow}
use Rattle.pass_frames_proof.specs.Led.{IsTwiceFor}
use Rattle.pass_frames_proof.specs.Leaving.{IsAtBranch}
use Rattle.pass_frames_proof.specs.Lines.{at_work}
use Rattle.pass_frames_proof.specs.Passes.{block_at}
use Rattle.pass_frames_proof.specs.Places.{Framing, edged, framed, is_return, named, plan}
use Rattle.pass_frames_proof.specs.Related.{AreBuiltOf, AreCellsRight, AreCoroutines, AreWheresRight, HasCells, instance_in, is_coroutine}
use Rattle.pass_frames_proof.specs.Stepping.{AreOffsetsPlaced, IsBeginPlain, IsNotEntering}
use Rattle.pass_frames_proof.specs.pass_renewed_proof.Renewed.{renewed_step}
use Rattle.pass_frames_proof.specs.run_agreement.Machines.{IsFine}
use Rattle.pass_frames_proof.specs.run_framed.Framed.{frame_rights, framed_context}
use Rattle.pass_frames_proof.specs.run_laws.changed.Changed.{Each}
use Rattle.pass_frames_proof.specs.run_laws.transfer.Transfer.{IsSameCase, cases_at}
use Rattle.pass_frames_proof.specs.run_memory.declared.pointer.Value.{Value}
use Rattle.pass_frames_proof.specs.run_source.Source.{context_of, go_to}
use Rattle.pass_frames_proof.specs.run_source.State.{function_of, work_of}
use Rattle.pass_frames_proof.specs.run_source.declared.state.State.{State}
use Rattle.pass_frames_proof.specs.run_step.Step.{AtTerm, Context, GoTo, fetch, term_action}
use Rattle.pass_frames_proof.specs.run_step.Values.{value_in}

module _ (c : Setting) (all : KeepsAll c) (keeps : KeepsEnds c) (s t : State) (r : AreBuiltOf c.b s t)
    (k : AreOfRuns c s t r) (runs : s.outcome ≡ Outcome.Running) (fine : IsFine (renewed_step c.g s).outcome)
    (coroutine : is_coroutine c.b s.top.func ≡ true) (mode : IsNotEntering s.top.mode) (o : MayFollow c s)
    (m : MayGoOn c s) (e : Terminator) (there : fetch (function_of c.g.given s) s.top.block s.top.at ≡ AtTerm e)
    (unreturned : is_return (c.b.framing s.top.func) s.top.block ≡ false) where
  abbrev x : Framing
  x = c.b.framing s.top.func

  abbrev f : Function
  f = function_at c.g.given.code s.top.func

  abbrev d : Context
  d = framed_context c.b.given t

  is : IsFraming x
  is = all.given.framings s.top.func coroutine

  same : f ≡ edged x
  same = all.given.coroutines s.top.func coroutine

  uses : HasNamedUses (edged x)
  uses = subst HasNamedUses same (all.uses s.top.func)

  pub at_term : IsTermAt (edged x) s.top.block s.top.at e
  at_term = term_at (edged x) s.top.block s.top.at e
      (ap (λ (g : Function). fetch g s.top.block s.top.at) (sym same) ∙ there)

  room : length s.top.values ≡ length (edged x).names
  room = k.sound.top.values ∙ ap (λ (g : Function). length g.names) same

  values : AreCoroutines x r.homes (frame_rights c.b.given t.instances) t s.top t.top
  values = coroutine_values c.b r.homes (frame_rights c.b.given t.instances) t s.top t.top
      (is_coroutine c.b s.top.func) coroutine r.top.values

  cells : AreCellsRight x r.homes (frame_rights c.b.given t.instances) t.world.memory s.top.values t.top
      × AreWheresRight x (frame_rights c.b.given t.instances) t.world.memory
      (instance_in t.instances t.top.instance) t.top
  cells =
      subst (λ (q : Option ℕ). HasCells x r.homes (frame_rights c.b.given t.instances) t.world.memory
      (instance_in t.instances t.top.instance) s.top t.top q)
      (not_returned x s.top s.top.mode mode unreturned) values.cells

  pub right : AreCellsRight x r.homes (frame_rights c.b.given t.instances) t.world.memory s.top.values
      (at_work t.top (work_of t))
  right = cells.0

  pub plain : IsBeginPlain x
  plain = begin_plain x is

  pub placed : AreOffsetsPlaced x
  placed = offsets_placed x is o.position o.rules

  pub same_low : (u : ℕ) → u < length (named x).names → value_in t.top.values u ≡ value_in t.top.values u
  same_low u lt = refl

  coming : AreComing c.b s
  coming = coming_there c all keeps s coroutine m k.sound k.slots runs e there

  -- ---- what is fetched

  abbrev pub L : ℕ → Value
  L = loads c.b c.g all.given s t r coroutine mode plain placed (work_of t) same_low right

  abbrev pub A : ℕ → Value
  A = addresses c.b c.g all.given s t r coroutine mode plain placed (work_of t) same_low right

  pub may_go : MayGo c.b c.g s t r e L A
  may_go = record {
    term = at_term.term;
    between = between_term x s.top.block at_term.here
        ∙ ap (fetched_term (fetches_of (plan x)) (load_name (last_state x s.top.block))) at_term.term;
    low = named_low x is s.top.block at_term.here;
    fit =
        let a = loads_fit x is s.top.block at_term.here in
        let b = fetched_written x is s.top.block at_term.here in
        let h = written_unmarked x is s.top.block at_term.here in
        let z : next_after_all (fetches_of (plan x)) (load_name (last_state x s.top.block)) (term_operands e)
        ≡ next_after_all (fetches_of (plan x)) (load_name (last_state x s.top.block))
        (term_operands (block_at (edged x) s.top.block).term) =
        ap (λ (q : Terminator). next_after_all (fetches_of (plan x)) (load_name (last_state x s.top.block))
        (term_operands q)) (sym at_term.term) in
        omega (arith, a, b, h, z);
    below = subst (λ (q : Terminator). Each (IsBelow (length (named x).names)) (term_operands q)) at_term.term
        (term_below c.b c.g all.given s t r coroutine mode plain placed (work_of t) same_low right values.names.room
        uses at_term.here coming);
    seen = subst (λ (q : Terminator). Each (IsTwiceFor r.homes (fetches_of (plan x)) (slot_table x) L A
        (context_of c.g.given s) d (work_of s) (work_of t)) (term_operands q)) at_term.term
        (term_seen c.b c.g all.given s t r coroutine mode plain placed (work_of t) same_low right values.names.room
        uses at_term.here coming);
    cases = each_all (IsSameCase (context_of c.g.given s) d)
        (λ z. empty_same c.g.given.code c.b.given.given.code (same_names c.b c.g all.given) z.arg.value z.arg.ty)
        (cases_at (AtTerm e));
    room =
        let a : length s.top.values ≡ length (edged x).names = room in
        let b : length t.top.values ≡ length (framed x).names = values.names.room in
        let h = edged_framed x in
        omega (arith, a, b, h);
  }

  pub ends_may : MayEndAt x L A d s.top.block (work_of t)
  ends_may = may_end c.b c.g all.given s t r coroutine mode plain placed (work_of t) same_low right values.names.room
      uses at_term.here coming

  -- ---- where it goes

  module _ (label : ℕ) (does : term_action (context_of c.g.given s) (work_of s) e ≡ GoTo label) where
    leads : IsListed label (targets (block_at (edged x) s.top.block).term)
    leads = subst (λ (q : Terminator). IsListed label (targets q)) (sym at_term.term)
        (goes_listed (context_of c.g.given s) (work_of s) e label does)

    abbrev to : ℕ
    to = block_to x label

    target : IsTarget x label
    target = is_target x is s.top.block label at_term.here leads

    ordinary : is_return x to ≡ false
    ordinary = leads_to_none c all keeps s coroutine m.placed e there label does

    next : (after : State) × (go_to c.g.given s label ≡ Ok after) × (renewed_step c.g s ≡ after)
    next = next_state c all s t r k runs fine coroutine mode o e there label does

    at_jump : IsAtJump c.b c.g s e label
    at_jump = record {
      runs = runs;
      coroutine = coroutine;
      mode = mode;
      at = at_term.at_end;
      there = there;
      does = does;
      unreturned = unreturned;
      later = not_entry x is s.top.block label at_term.here leads;
      ordinary = ordinary;
      room = room;
      wide = edged_framed x;
    }

    at_branch : IsAtBranch c.b c.g s label
    at_branch = branches c all s t r k runs fine coroutine mode o e there label does target at_term.at_end at_term.here

    can_jump : CanJump c.b c.g s t r e label
    can_jump = record {
      given = L;
      reached = A;
      ends = ends_may;
      seen = phis_seen c.b c.g all.given s t r coroutine mode plain placed (work_of t) same_low right
          values.names.room uses at_term.here coming to target.there;
      below = phis_below c.b c.g all.given s t r coroutine mode plain placed (work_of t) same_low right
          values.names.room uses at_term.here coming to target.there;
      unset = λ z listed. (
        end_unset x is s.top.block at_term.here z.cell (slots_new x z listed).1
            (slots_below x is s.top.block at_term.here z listed).1,
        end_unset x is s.top.block at_term.here z.temporary (slots_new x z listed).0
            (slots_below x is s.top.block at_term.here z listed).0,
      );
      labelled = target.labelled;
      go = may_go;
    }

    may : MayJump c.b c.g s t r label
    may = may_jump c.b c.g all.given s t r e label at_jump at_term.here target.there can_jump

    phis_here : (ends : AreEndsLed c.b c.g s t r label
        (end_code x s.top.block (last_state x s.top.block))
        (end_term x (last_state x s.top.block) (block_at (edged x) s.top.block).term))
        → ArePhisGiven c.b c.g s t r label ends.work
    phis_here ends =
        phis_given c all s t r k runs fine coroutine mode o e there label does target t values.names.room
        (end_code x s.top.block (last_state x s.top.block))
        (end_term x (last_state x s.top.block) (block_at (edged x) s.top.block).term) ends

    pub jump_followed : IsFollowed c.b c.g s t
    jump_followed = whole_jump_followed c.b c.g all.given s t r e label at_jump at_term.here target.there
        (keeps.ordinary s.top.func (block_to x label) coroutine target.there ordinary at_jump.later) may phis_here
        (branch_alike c.b c.g all.given s t r label at_branch unreturned)
