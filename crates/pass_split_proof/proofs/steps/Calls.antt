-- Calls and returns: an activation comes on top in both runs, or goes.
use Rattle.std.proofs.Common.{◌≡◌, ℕ, ◌+◌, ◌≤◌, true, false, List, [], ◌∷◌, length, Option, Some, None, refl, sym, ap, ◌∙◌, subst, arith}
use Rattle.std.specs.Prelude.{unwrap_or}
use Rattle.std.proofs.lemmas.Bool.{false≢true}
use Rattle.pass_proofs.specs.ir_model.Names.{function_at}
use Rattle.pass_proofs.specs.ir_model.declared.instr.Instr.{Instr}
use Rattle.pass_proofs.specs.ir_model.declared.module.Function.{Function}
use Rattle.pass_proofs.specs.pass_intrinsics.declared.shape.Part.{Part}
use Rattle.pass_proofs.specs.pass_intrinsics.declared.shape.Shape.{Shape}
use Rattle.pass_split_proof.proofs.states.Advanced.{KeepsFrames, all_beside_on, frame_on, same_frames}
use Rattle.pass_split_proof.proofs.states.Killed.{returned_beside, returned_frames}
use Rattle.pass_split_proof.proofs.states.Values.{values_set}
use Rattle.pass_split_proof.proofs.states.Written.{length-changed}
use Rattle.pass_split_proof.specs.states.Activations.{AreAllWaiting, AtEnd, AtSuspend, AtSwitch, Inside, IsBehind, IsBeside, IsPlaced, IsReturning, IsWaiting, Making, Passed, Stopping, is_entering}
use Rattle.pass_split_proof.specs.states.Going.{placed_at}
use Rattle.pass_split_proof.specs.states.Instances.{AreFrames}
use Rattle.pass_split_proof.specs.states.Memories.{AreBeside, AreWorldsBeside, homes_of}
use Rattle.pass_split_proof.specs.states.Related.{AreRelated}
use Rattle.pass_split_proof.specs.states.Values.{AreValuesOf}
use Rattle.pass_proofs.specs.run_framed.Framed.{FramedGiven}
use Rattle.pass_proofs.proofs.run_laws.transfer.Sets.{set_elsewhere, set_length, sets_result}
use Rattle.pass_proofs.specs.run_laws.memory.Pointers.{Extends, Home, IsValue}
use Rattle.pass_proofs.specs.run_laws.memory.Standing.{own_homes}
use Rattle.pass_proofs.specs.run_memory.Memory.{killed, killed_block}
use Rattle.pass_proofs.specs.run_memory.declared.block.MemoryBlock.{MemoryBlock}
use Rattle.pass_proofs.specs.run_memory.declared.pointer.Value.{Value}
use Rattle.run_access_worked.specs.run_plain.Plain.{PlainGiven, plain_given_back}
use Rattle.run_access_worked.specs.run_plain.declared.state.PlainActivation.{PlainActivation}
use Rattle.run_access_worked.specs.run_plain.declared.state.PlainState.{PlainState}
use Rattle.pass_proofs.specs.run_source.Source.{given_back}
use Rattle.pass_proofs.specs.run_source.declared.state.Activation.{Activation}
use Rattle.pass_proofs.specs.run_source.declared.state.Instance.{Instance}
use Rattle.pass_proofs.specs.run_source.declared.state.Mode.{Mode}
use Rattle.pass_proofs.specs.run_source.declared.state.State.{State}
use Rattle.pass_proofs.specs.rule_shape.Suspends.{is_suspend}
use Rattle.pass_proofs.specs.run_step.Step.{AtInstr, fetch, without_slots}
use Rattle.pass_proofs.specs.run_step.declared.world.Slot.{Slot}
use Rattle.pass_proofs.specs.run_step.Values.{Env, value_in, with_result}

-- ---- an activation that waits

-- what stands before a place is one instruction
one_before : (f : Function) (a : Activation) → IsBehind f true a → IsBehind f false a → ⊥
one_before f a x y
    = false≢true (sym y.is ∙ ap is_suspend (same_instr x.instr y.instr (sym x.there ∙ ap (fetch f a.block) at
    ∙ y.there)) ∙ x.is)
  where
    at : x.before ≡ y.before
    at = let e = x.at in let h = y.at in omega arith

    same_instr : (i j : Instr) → AtInstr i ≡ AtInstr j → j ≡ i
    same_instr i j e = cc

-- so its place doesn't hang on its values
placed_on : (s : Shape) (part : Part) (f q : Function) (a : Activation) (b : PlainActivation) (values others : Env)
    (mode : Mode) → IsBehind f false a → is_entering mode ≡ false
    → IsPlaced s part f q a b mode → IsPlaced s part f q (record a { values = values }) (record b { values = others })
    mode
placed_on s part f q a b values others _ behind settled (Inside mode e place) = Inside mode e place
placed_on s part f q a b values others _ behind settled (Stopping mode m arg cases e before there both is jump enters)
    = absurd (one_before f a before behind)
placed_on s part f q a b values others _ behind settled (Making from label x y z lt) = absurd (false≢true (sym settled))
placed_on s part f q a b values others _ behind settled (Passed there (AtSuspend i here is stop))
    = Passed there (AtSuspend i here is stop)
placed_on s part f q a b values others _ behind settled (Passed there (AtSwitch m arg cases before here both is))
    = absurd (one_before f a before behind)
placed_on s part f q a b values others _ behind settled (Passed there (AtEnd here at)) = Passed there (AtEnd here at)

pub result_elsewhere : (env : Env) (result : Option ℕ) (v : Value) (at : ℕ) → (result ≡ Some at → ⊥)
    → value_in (with_result env result v) at ≡ value_in env at
result_elsewhere env None v at ne = refl
result_elsewhere env (Some name) v at ne = set_elsewhere env name at v (λ e. ne (ap Some e))

pub result_length : (env : Env) (result : Option ℕ) (v : Value) → length (with_result env result v) ≡ length env
result_length env None v = refl
result_length env (Some name) v = set_length env name v

-- ---- a return

pub length_gone : (slots : List Slot) (m : List MemoryBlock) → length (without_slots m slots) ≡ length m
length_gone [] m = refl
length_gone (x ∷ slots) m = length_gone slots (killed m x.block) ∙ length-changed m x.block killed_block

module _ (g : FramedGiven) (h : PlainGiven) (s : State) (t : PlainState) (r : AreRelated g h s t)
    (v u : Option Value) where
  abbrev pub gone : List MemoryBlock
  gone = without_slots s.world.memory s.top.slots

  abbrev pub gone_too : List MemoryBlock
  gone_too = without_slots t.world.memory t.top.slots

  same_gone : without_slots t.world.memory s.top.slots ≡ gone_too
  same_gone = ap (without_slots t.world.memory) (sym r.top.slots)

  pub homes_stay : homes_of s.world.memory ≡ homes_of gone
  homes_stay = ap (own_homes 0) (sym (length_gone s.top.slots s.world.memory))

  pub ext : Extends (homes_of s.world.memory) (homes_of gone)
  ext = subst (Extends (homes_of s.world.memory)) homes_stay (record { each = λ b e. refl })

  -- the world, without the slots of the activation that returns
  pub world_gone : AreWorldsBeside g s.instances (record s.world { memory = gone }) (record t.world { memory = gone_too })
  world_gone = record {
    memory = subst (AreBeside g s.instances gone) same_gone (returned_beside g s.instances s.top.slots s.world.memory
        t.world.memory r.frames.laid r.world.memory);
    events = r.world.events;
    answers = r.world.answers;
    allocs = r.world.allocs;
  }

  pub frames_gone : AreFrames g s.instances gone gone_too
  frames_gone
      = subst (AreFrames g s.instances gone) same_gone (returned_frames g s.instances s.top.slots s.world.memory
      t.world.memory r.frames)

  module _ (a : Activation) (b : PlainActivation) (w : IsWaiting g h.code s.instances (homes_of s.world.memory)
      s.top.result a b)
      (stands : IsValue (homes_of s.world.memory) (unwrap_or v Value.Poison) (unwrap_or u Value.Poison)) where
    given : AreValuesOf (function_at g.given.code a.func) (homes_of gone) (with_result a.values s.top.result
        (unwrap_or v Value.Poison)) (with_result b.values t.top.result (unwrap_or u Value.Poison))
    given = subst (λ (hs : List Home). AreValuesOf (function_at g.given.code a.func) hs
        (with_result a.values s.top.result (unwrap_or v Value.Poison)) (with_result b.values t.top.result
        (unwrap_or u Value.Poison))) homes_stay
        (subst (λ (o : Option ℕ). AreValuesOf (function_at g.given.code a.func) (homes_of s.world.memory)
        (with_result a.values s.top.result (unwrap_or v Value.Poison))
        (with_result b.values o (unwrap_or u Value.Poison))) (sym r.top.result)
        (values_set (function_at g.given.code a.func) (homes_of s.world.memory) s.top.result a.values b.values
        (with_result a.values s.top.result (unwrap_or v Value.Poison)) (with_result b.values s.top.result
        (unwrap_or u Value.Poison)) w.beside.values
        (sets_result (homes_of s.world.memory) a.values b.values w.beside.values.room s.top.result
        (unwrap_or v Value.Poison) (unwrap_or u Value.Poison) stands)))

    begin_stays : value_in (with_result b.values t.top.result (unwrap_or u Value.Poison)) w.beside.shape.begin ≡
        value_in b.values w.beside.shape.begin
    begin_stays = result_elsewhere b.values t.top.result (unwrap_or u Value.Poison) w.beside.shape.begin
        (λ e. w.others (sym r.top.result ∙ e))

    back : IsBeside g h.code s.instances (homes_of gone) (given_back a s.top.result v)
        (plain_given_back b t.top.result u)
    back = record {
      shape = w.beside.shape;
      part = w.beside.part;
      coded = w.beside.coded;
      shaped = w.beside.shaped;
      runs = w.beside.runs;
      func = w.beside.func;
      place = placed_on w.beside.shape w.beside.part (function_at g.given.code a.func) (function_at h.code b.func) a b
          (with_result a.values s.top.result (unwrap_or v Value.Poison)) (with_result b.values t.top.result
          (unwrap_or u Value.Poison)) a.mode w.behind w.settled w.beside.place;
      values = given;
      whole = result_length a.values s.top.result (unwrap_or v Value.Poison) ∙ w.beside.whole;
      room = result_length b.values t.top.result (unwrap_or u Value.Poison) ∙ w.beside.room;
      frame = λ i own. frame_on s.instances s.instances a.func i _ _ (same_frames s.instances) begin_stays
          (w.beside.frame i own);
      result = w.beside.result;
      slots = w.beside.slots;
      own = w.beside.own;
    }

    -- the run goes on in the activation below
    pub returns_related : (rest : List Activation) (bs : List PlainActivation)
        → AreAllWaiting g h.code s.instances (homes_of s.world.memory) a.result rest bs
        → AreRelated g h (record s {
          world = record s.world { memory = gone };
          top = given_back a s.top.result v;
          below = rest;
        })
        (record t { world = record t.world { memory = gone_too }; top = plain_given_back b t.top.result u; below = bs })
    returns_related rest bs ws = record {
      outcome = r.outcome;
      globals = subst (λ (k : ℕ). length g.given.code.globals ≤ k) (sym (length_gone s.top.slots s.world.memory))
          r.globals;
      world = world_gone;
      frames = frames_gone;
      top = back;
      below = all_beside_on g h.code s.instances s.instances (homes_of s.world.memory) (homes_of gone) ext
          (same_frames s.instances) a.result rest bs ws;
      making = λ from label e. absurd (false≢true (sym w.settled ∙ ap is_entering e));
    }

-- ---- an activation more

module _ (g : FramedGiven) (h : PlainGiven) (s : State) (t : PlainState) (r : AreRelated g h s t) (ys : List Instance)
    (n : List MemoryBlock) (a : Activation) (b : PlainActivation)
    (piece offset : ℕ) (values : Env) where
  -- what waits below it
  abbrev waiting : Activation
  waiting = record s.top { at = s.top.at + 1 }

  pub pushes_related : is_entering s.top.mode ≡ false → AreBeside g ys s.world.memory n
      → AreFrames g ys s.world.memory n → KeepsFrames s.instances ys
      → (beside : IsBeside g h.code ys (homes_of s.world.memory) a b)
      → ((from label : ℕ) → a.mode ≡ Mode.Entering from label
      → IsReturning g beside.shape beside.part (function_at g.given.code a.func) ys n a.instance from label)
      → AreValuesOf (function_at g.given.code s.top.func) (homes_of s.world.memory) s.top.values values
      → length values ≡ length t.top.values
      → ((i : ℕ) → s.top.instance ≡ Some i
      → value_in values r.top.shape.begin ≡ value_in t.top.values r.top.shape.begin)
      → IsPlaced r.top.shape r.top.part (function_at g.given.code s.top.func) (function_at h.code t.top.func) waiting
      (placed_at t.top piece offset values) s.top.mode
      → IsBehind (function_at g.given.code s.top.func) false waiting → (a.result ≡ Some r.top.shape.begin → ⊥)
      → AreRelated g h (record s { instances = ys; top = a; below = waiting ∷ s.below })
      (record t {
        world = record t.world { memory = n };
        top = b;
        below = placed_at t.top piece offset values ∷ t.below;
      })
  pushes_related mode memory frames keeps beside making stand room begin place behind others = record {
    outcome = r.outcome;
    globals = r.globals;
    world = record { memory = memory; events = r.world.events; answers = r.world.answers; allocs = r.world.allocs };
    frames = frames;
    top = beside;
    below = (
      record {
        beside = record {
          shape = r.top.shape;
          part = r.top.part;
          coded = r.top.coded;
          shaped = r.top.shaped;
          runs = r.top.runs;
          func = r.top.func;
          place = place;
          values = stand;
          whole = r.top.whole;
          room = room ∙ r.top.room;
          frame = λ i own. frame_on s.instances ys s.top.func i _ _ keeps (begin i own)
              (r.top.frame i own);
          result = r.top.result;
          slots = r.top.slots;
          own = r.top.own;
        };
        behind = behind;
        settled = mode;
        others = others;
      },
      all_beside_on g h.code s.instances ys (homes_of s.world.memory) (homes_of s.world.memory)
          (record { each = λ b e. refl }) keeps s.top.result s.below t.below r.below,
    );
    making = making;
  }
