-- A jump from a block on a resume or destroy edge of a coroutine is followed.
use Rattle.std.proofs.Common.{◌≡◌, inl, ℕ, true, false, List, length, refl, sym, ap, ◌∙◌, subst, arith}
use Rattle.pass_frames_proof.specs.flow_solver.Paths.{IsListed}
use Rattle.pass_frames_proof.specs.ir_base.declared.outcome.Outcome.{Outcome}
use Rattle.pass_frames_proof.specs.ir_laws.facts.sound_states.Named.{HasNamedUses}
use Rattle.pass_frames_proof.specs.ir_model.Names.{function_at}
use Rattle.pass_frames_proof.specs.ir_model.declared.instr.Instr.{Instr}
use Rattle.pass_frames_proof.specs.ir_model.declared.instr.Terminator.{Terminator}
use Rattle.pass_frames_proof.specs.ir_model.declared.module.Function.{Function}
use Rattle.pass_frames_proof.specs.ir_paths.Paths.{targets}
use Rattle.pass_frames_proof.specs.pass_cells.Cells.{fetches_of}
use Rattle.pass_frames_proof.specs.pass_fetch.Blocks.{fetched_phis}
use Rattle.pass_frames_proof.specs.pass_frames.Framed.{begin_of}
use Rattle.pass_frames_meaning.proofs.begun.Begun.{begin_plain}
use Rattle.pass_frames_meaning.proofs.ends.Coming.{coming_there, own_led}
use Rattle.pass_frames_meaning.proofs.ends.Counted.{slots_below}
use Rattle.pass_frames_meaning.proofs.ends.Given.{branches, own_coroutine, phis_given}
use Rattle.pass_frames_meaning.proofs.ends.Leads.{leads_to_none}
use Rattle.pass_frames_meaning.proofs.ends.Line.{may_end, phis_below, phis_seen}
use Rattle.pass_frames_meaning.proofs.ends.Phis.{phis_fetched_there}
use Rattle.pass_frames_meaning.proofs.ends.Seen.{addresses, loads}
use Rattle.pass_frames_meaning.proofs.ends.Targets.{IsBare, IsTarget, IsTermAt, bare, is_target, not_entry, term_at}
use Rattle.pass_frames_meaning.proofs.ends.UpTo.{end_unset}
use Rattle.pass_frames_meaning.proofs.others.Returns.{no_returns_below}
use Rattle.pass_frames_meaning.proofs.placed.Placed.{offsets_placed}
use Rattle.pass_frames_meaning.specs.Coroutines.{MayFollow}
use Rattle.pass_frames_meaning.specs.Ends.{AreComing, AreEdgeSlots, IsEdgeBlock, KeepsEdges, KeepsEnds, MayGoOn, MayLeaveEdge}
use Rattle.pass_frames_meaning.specs.Fresh.{IsWoken}
use Rattle.pass_frames_meaning.specs.Setting.{AreOfRuns, KeepsAll, Setting}
use Rattle.pass_frames_proof.proofs.from_edges.Jumped.{edge_followed}
use Rattle.pass_frames_proof.proofs.jumping.Labels.{label_there, position_same}
use Rattle.pass_frames_proof.proofs.jumping.Placed.{between_label, phis_placed}
use Rattle.pass_frames_proof.proofs.leaving.Alike.{edge_leaves_none}
use Rattle.pass_frames_proof.proofs.stepping.May.{coroutine_values}
use Rattle.pass_frames_proof.proofs.stepping.Names.{slots_new}
use Rattle.pass_frames_proof.specs.Code.{end_code, end_term, front_code, last_state}
use Rattle.pass_frames_proof.specs.Edges.{EndsLed, PhisGiven, block_to}
use Rattle.pass_frames_proof.specs.Followed.{IsFollowed}
use Rattle.pass_frames_proof.specs.Framings.{IsFraming}
use Rattle.pass_frames_proof.specs.FromEdges.{IsAtReturn, IsEarlyInFrame, IsFrontDone, IsInRow, IsOutOfEdge}
use Rattle.pass_frames_proof.specs.Jumps.{MayJumpBy}
use Rattle.pass_frames_proof.specs.Lined.{lined}
use Rattle.pass_frames_proof.specs.Passes.{block_at}
use Rattle.pass_frames_proof.specs.Places.{Framing, copies, edged, framed, is_return, plan}
use Rattle.pass_frames_proof.specs.Related.{AreBuiltOf, AreCoroutines, is_coroutine}
use Rattle.pass_frames_proof.specs.Saving.{IsRunningInstance}
use Rattle.pass_frames_proof.specs.Stepping.{AreOffsetsPlaced, IsBeginPlain, IsNotEntering}
use Rattle.pass_frames_proof.specs.pass_renewed_proof.Renewed.{renewed_step}
use Rattle.pass_frames_proof.specs.run_agreement.Machines.{IsFine}
use Rattle.pass_frames_proof.specs.run_framed.Framed.{frame_rights, framed_context}
use Rattle.pass_frames_proof.specs.run_laws.changed.Changed.{Each}
use Rattle.pass_frames_proof.specs.run_memory.declared.pointer.Value.{Value}
use Rattle.run_slots.specs.Slots.{IsFrameBlock}
use Rattle.pass_frames_proof.specs.run_source.State.{function_of}
use Rattle.pass_frames_proof.specs.run_source.declared.state.State.{State}
use Rattle.pass_frames_proof.specs.run_step.Step.{AtTerm, fetch, label_of, term_action}

module _ (c : Setting) (all : KeepsAll c) (keeps : KeepsEnds c) (s t : State) (r : AreBuiltOf c.b s t)
    (k : AreOfRuns c s t r) (runs : s.outcome ≡ Outcome.Running) (fine : IsFine (renewed_step c.g s).outcome)
    (coroutine : is_coroutine c.b s.top.func ≡ true) (mode : IsNotEntering s.top.mode) (o : MayFollow c s)
    (m : MayGoOn c s) (keeps_edges : KeepsEdges c) (leaves : MayLeaveEdge c s)
    (returned : is_return (c.b.framing s.top.func) s.top.block ≡ true) (label : ℕ)
    (there : fetch (function_of c.g.given s) s.top.block s.top.at ≡ AtTerm (Terminator.Jump label)) where
  abbrev x : Framing
  x = c.b.framing s.top.func

  abbrev block : ℕ
  block = s.top.block

  is : IsFraming x
  is = all.given.framings s.top.func coroutine

  same : function_at c.g.given.code s.top.func ≡ edged x
  same = all.given.coroutines s.top.func coroutine

  uses : HasNamedUses (edged x)
  uses = subst HasNamedUses same (all.uses s.top.func)

  at_term : IsTermAt (edged x) s.top.block s.top.at (Terminator.Jump label)
  at_term = term_at (edged x) s.top.block s.top.at (Terminator.Jump label)
      (ap (λ (g : Function). fetch g s.top.block s.top.at) (sym same) ∙ there)

  alone : IsBare x block
  alone = bare x is (all.returns s.top.func coroutine) block at_term.here returned

  edge : IsEdgeBlock x block
  edge = keeps_edges.edges s.top.func block coroutine at_term.here returned

  slots : AreEdgeSlots x
  slots = keeps_edges.slots s.top.func coroutine

  woken : IsWoken s
  woken = leaves.woken coroutine returned

  room : length s.top.values ≡ length (edged x).names
  room = k.sound.top.values ∙ ap (λ (g : Function). length g.names) same

  plain : IsBeginPlain x
  plain = begin_plain x is

  placed : AreOffsetsPlaced x
  placed = offsets_placed x is o.position o.rules

  coming : AreComing c.b s
  coming = coming_there c all keeps s coroutine m k.sound k.slots runs (Terminator.Jump label) there

  values : AreCoroutines x r.homes (frame_rights c.b.given t.instances) t s.top t.top
  values = coroutine_values c.b r.homes (frame_rights c.b.given t.instances) t s.top t.top
      (is_coroutine c.b s.top.func) coroutine r.top.values

  -- ---- where it stands

  frame : IsFrameBlock s.world.memory woken.instance
  frame = k.slots.slotted.frames woken.number woken.instance woken.there

  running : IsRunningInstance c.b s
  running = record {
    number = woken.number;
    instance = woken.instance;
    own = woken.own;
    there = woken.there;
    coroutine = own_coroutine s.instances s.top.func woken.number woken.instance s.top.instance k.sound.top.instance
        woken.own woken.there;
    running = woken.running;
    unfreed = woken.unfreed;
    small = let start = frame.start in omega (arith, start);
    begun = (own_led c all keeps s coroutine m k.sound k.slots runs woken.number woken.instance woken.own
        woken.there).begun
        (begin_of x.function) (keeps.begins s.top.func coroutine);
    alone = λ j p at other unfreed same_block.
        other (k.slots.slotted.apart j woken.number p woken.instance at woken.there same_block);
  }

  start : running.instance.start ≡ 0
  start = (k.slots.slotted.frames running.number running.instance running.there).start

  at_return : IsAtReturn c.b s label edge.order
  at_return = record {
    runs = runs;
    coroutine = coroutine;
    mode = mode;
    returned = returned;
    later = edge.later;
    first = at_term.at_end ∙ ap (λ (js : List Instr). length js) alone.no_instrs;
    here = at_term.here;
    no_instrs = alone.no_instrs;
    jumps = at_term.term;
    no_phis =
        let z = phis_fetched_there x is block at_term.here in
        z.1 ∙ ap (fetched_phis (fetches_of (plan x)) z.0) alone.no_phis;
    behind = edge.behind;
    again = edge.again;
    resumed = edge.resumed;
    low = edge.low;
    instance = running;
    below = no_returns_below c all s k.called.below;
    names = edge.names;
    begin = plain;
    room = room;
    not_first = woken.not_first;
    storable = leaves.storables coroutine;
    early = subst (λ (n : ℕ). Each (IsEarlyInFrame x n) (copies x).slots) (sym start) slots.early;
    once = slots.once;
    row = λ v z kept listed. subst (λ (n : ℕ). IsInRow x n edge.order v) (sym start) (edge.row v z kept listed);
    local = slots.local;
  }

  -- ---- where it goes

  leads : IsListed label (targets (block_at (edged x) block).term)
  leads = subst (λ (q : Terminator). IsListed label (targets q)) (sym at_term.term) (inl refl)

  target : IsTarget x label
  target = is_target x is block label at_term.here leads

  later : block_to x label ≡ 0 → ⊥
  later = not_entry x is block label at_term.here leads

  ordinary : is_return x (block_to x label) ≡ false
  ordinary = leads_to_none c all keeps s coroutine m.placed (Terminator.Jump label) there label refl

  out : IsOutOfEdge c.b s label
  out = record {
    later = later;
    ordinary = ordinary;
    plain = keeps.ordinary s.top.func (block_to x label) coroutine target.there ordinary later;
    there = target.there;
  }

  -- ---- behind the front

  abbrev front : List Instr
  front = front_code x block

  abbrev Done : Type 0
  Done = IsFrontDone c.b s t r.homes r.hides (front_code (c.b.framing s.top.func) s.top.block)

  module _ (done : IsFrontDone c.b s t r.homes r.hides (front_code (c.b.framing s.top.func) s.top.block)) where
    abbrev L : ℕ → Value
    L = loads c.b c.g all.given s t r coroutine mode plain placed done.work done.low done.right

    abbrev A : ℕ → Value
    A = addresses c.b c.g all.given s t r coroutine mode plain placed done.work done.low done.right

    wide : length done.work.values ≡ length (framed x).names
    wide = done.room ∙ values.names.room

    pub may : MayJumpBy c.b c.g s (lined t (length (front_code x block)) done.work) r.homes label
    may = record {
      given = L;
      reached = A;
      ends = may_end c.b c.g all.given s t r coroutine mode plain placed done.work done.low done.right wide uses
          at_term.here coming;
      label_same = between_label x block at_term.here;
      phis = phis_placed x (block_to x label) later (block_at (edged x) (block_to x label)) target.there;
      seen = phis_seen c.b c.g all.given s t r coroutine mode plain placed done.work done.low done.right wide uses
          at_term.here coming (block_to x label) target.there;
      below = phis_below c.b c.g all.given s t r coroutine mode plain placed done.work done.low done.right wide uses
          at_term.here coming (block_to x label) target.there;
      unset = λ z listed. (
        end_unset x is block at_term.here z.cell (slots_new x z listed).1
            (slots_below x is block at_term.here z listed).1,
        end_unset x is block at_term.here z.temporary (slots_new x z listed).0
            (slots_below x is block at_term.here z listed).0,
      );
      source_label = ap label_of at_term.here;
      target_label = label_there x block (block_at (edged x) block) at_term.here;
      block = position_same x label (block_to x label) target.labelled;
      goes = λ e. ap (λ (q : Terminator).
          term_action (framed_context c.b.given t) e.work (end_term x (last_state x block) q))
          at_term.term;
    }

    pub phis : (ends : EndsLed c.b c.g s (lined t (length (front_code x block)) done.work) r.homes label
        (end_code x block (last_state x block))
        (end_term x (last_state x block) (block_at (edged x) block).term))
        → PhisGiven c.b c.g s (lined t (length (front_code x block)) done.work) r.homes label ends.work
    phis ends =
        phis_given c all s t r k runs fine coroutine mode o (Terminator.Jump label) there label refl target
        (lined t (length (front_code x block)) done.work) wide (end_code x block (last_state x block))
        (end_term x (last_state x block) (block_at (edged x) block).term) ends

  pub edge_jump_followed : IsFollowed c.b c.g s t
  edge_jump_followed =
      edge_followed c.b c.g all.given s t r label edge.order at_return out may phis fine
      (edge_leaves_none c.b c.g all.given s t r label
      (branches c all s t r k runs fine coroutine mode o (Terminator.Jump label) there label refl target at_term.at_end
      at_term.here) edge.order at_return)
