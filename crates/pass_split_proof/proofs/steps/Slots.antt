-- An alloca makes a slot in both runs.
use Rattle.std.proofs.Common.{◌≡◌, ◌≢◌, ℕ, suc, ◌+◌, ◌<◌, ◌≤◌, ◌^◌, Bool, true, false, List, ◌∷◌, length, Option, Some, refl, sym, ap, ◌∙◌, subst, arith}
use Rattle.std.specs.Prelude.{slice_get}
use Rattle.std.proofs.lemmas.Bool.{false≢true}
use Rattle.pass_proofs.specs.ir_model.Names.{function_at}
use Rattle.pass_proofs.specs.ir_model.declared.module.Function.{Function}
use Rattle.pass_proofs.specs.ir_paths.Slots.{allocas_of}
use Rattle.pass_proofs.specs.pass_intrinsics.declared.shape.Part.{Part}
use Rattle.pass_proofs.specs.pass_intrinsics.declared.shape.Shape.{Shape}
use Rattle.pass_proofs.specs.pass_intrinsics.Shapes.{given_name}
use Rattle.pass_split_proof.proofs.simulation.Knowing.{KeepsPlaces, goes_knows, memory_places}
use Rattle.pass_split_proof.specs.simulation.Knowing.{KnowsGiven}
use Rattle.pass_proofs.specs.run_memory.declared.pointer.Value.{Value}
use Rattle.pass_split_proof.proofs.states.Advanced.{advanced, same_frames}
use Rattle.pass_split_proof.proofs.states.Fresh.{fresh_beside, fresh_frames, got_before, grown_length}
use Rattle.pass_split_proof.proofs.states.SameKind.{given_kept}
use Rattle.pass_split_proof.proofs.held.Memory.{ended_kind}
use Rattle.pass_split_proof.proofs.states.Killed.{all_stay, dead_beside, dead_frames, ends, ends_alone, stays}
use Rattle.pass_split_proof.proofs.states.OwnHomes.{own_extends}
use Rattle.pass_split_proof.proofs.states.Values.{values_on, values_set}
use Rattle.pass_split_proof.proofs.states.Written.{length-changed}
use Rattle.pass_split_proof.proofs.steps.Calls.{result_elsewhere, result_length}
use Rattle.pass_split_proof.proofs.steps.Operands.{block_itself}
use Rattle.pass_split_proof.specs.states.Activations.{AtEnd, AtSuspend, AtSwitch, Inside, IsPlaced, Making, Passed, Stopping, is_entering}
use Rattle.pass_split_proof.specs.states.Going.{moved_to, placed_at}
use Rattle.pass_split_proof.specs.states.Instances.{AreFrames, IsHeadedIn, is_given_in, is_held, is_held_in, shape_at}
use Rattle.pass_split_proof.specs.states.Memories.{AreBeside, homes_of, plain_kind}
use Rattle.pass_split_proof.specs.states.Related.{AreRelated}
use Rattle.pass_split_proof.specs.states.Values.{AreValuesOf}
use Rattle.pass_split_proof.specs.steps.Slots.{slot_memory, with_made}
use Rattle.pass_proofs.specs.run_framed.Framed.{FramedGiven}
use Rattle.pass_proofs.proofs.run_laws.transfer.Sets.{sets_result}
use Rattle.pass_proofs.specs.run_laws.memory.Pointers.{Extends}
use Rattle.pass_proofs.specs.run_laws.memory.Standing.{blank_block, own_homes}
use Rattle.pass_proofs.specs.run_laws.transfer.Transfer.{AreSet}
use Rattle.pass_proofs.specs.run_memory.Memory.{end, ended, fresh}
use Rattle.pass_proofs.specs.run_memory.declared.block.Kind.{Kind}
use Rattle.pass_proofs.specs.run_memory.declared.block.MemoryBlock.{MemoryBlock}
use Rattle.run_access_worked.specs.run_plain.Plain.{PlainGiven, plain_settled, plain_slot, plain_work}
use Rattle.run_access_worked.specs.run_plain.declared.state.PlainActivation.{PlainActivation}
use Rattle.run_access_worked.specs.run_plain.declared.state.PlainState.{PlainState}
use Rattle.pass_proofs.specs.run_source.Source.{is_among}
use Rattle.pass_proofs.specs.run_source.State.{settled, with_slots, work_of}
use Rattle.pass_proofs.specs.run_source.declared.state.Activation.{Activation}
use Rattle.pass_proofs.specs.run_source.declared.state.Instance.{Instance}
use Rattle.pass_proofs.specs.run_source.declared.state.Mode.{Mode}
use Rattle.pass_proofs.specs.run_source.declared.state.State.{State}
use Rattle.pass_proofs.specs.run_step.Step.{Work}
use Rattle.pass_proofs.specs.run_step.Values.{pointer_to, with_result}
use Rattle.pass_proofs.specs.run_step.declared.world.Slot.{Slot}
use Rattle.pass_split_proof.proofs.states.Closed.{headed_on}
use Rattle.pass_proofs.proofs.run_laws.memory.Written.{changed_elsewhere}

-- ---- a slot more

pub more_slots : (s : Shape) (part : Part) (f q : Function) (a : Activation) (b : PlainActivation)
    (slots others : List Slot) (mode : Mode)
    → IsPlaced s part f q a b mode → IsPlaced s part f q (record a { slots = slots }) (record b { slots = others }) mode
more_slots s part f q a b slots others _ (Inside mode e place) = Inside mode e place
more_slots s part f q a b slots others _ (Stopping mode m arg cases e behind there both is jump enters)
    = Stopping mode m arg cases e (record {
      before = behind.before;
      at = behind.at;
      instr = behind.instr;
      there = behind.there;
      is = behind.is;
    }) there both is jump enters
more_slots s part f q a b slots others _ (Making from label x y z lt) = Making from label x y z lt
more_slots s part f q a b slots others _ (Passed there (AtSuspend i here is stop))
    = Passed there (AtSuspend i here is stop)
more_slots s part f q a b slots others _ (Passed there (AtSwitch m arg cases behind here both is))
    = Passed there (AtSwitch m arg cases (record {
      before = behind.before;
      at = behind.at;
      instr = behind.instr;
      there = behind.there;
      is = behind.is;
    }) here both is)
more_slots s part f q a b slots others _ (Passed there (AtEnd here at)) = Passed there (AtEnd here at)

module _ (g : FramedGiven) (h : PlainGiven) (s : State) (t : PlainState) (r : AreRelated g h s t) (slot : Slot) where
  pub slot_related : ((function_at g.given.code s.top.func).coroutine ≡ true
      → is_among (allocas_of (function_at g.given.code s.top.func)) slot ≡ true)
      → is_entering s.top.mode ≡ false → AreRelated g h (with_slots s (slot ∷ s.top.slots)) (plain_slot t slot)
  slot_related among mode = record {
    outcome = r.outcome;
    globals = r.globals;
    world = r.world;
    frames = r.frames;
    top = record {
      shape = r.top.shape;
      part = r.top.part;
      coded = r.top.coded;
      shaped = r.top.shaped;
      runs = r.top.runs;
      func = r.top.func;
      place = more_slots r.top.shape r.top.part (function_at g.given.code s.top.func) (function_at h.code t.top.func)
          s.top t.top (slot ∷ s.top.slots) (slot ∷ t.top.slots) s.top.mode r.top.place;
      values = r.top.values;
      whole = r.top.whole;
      room = r.top.room;
      frame = λ i own. let f = r.top.frame i own
          in record { instance = f.instance; there = f.there; coroutine = f.coroutine; is = f.is };
      result = r.top.result;
      slots = ap (λ rest. slot ∷ rest) r.top.slots;
      own = λ c. (among c, r.top.own c);
    };
    below = r.below;
    making = λ from label e. absurd (false≢true (sym mode ∙ ap is_entering e));
  }

-- ---- the block of a slot, which starts dead where it has markers

slot_length : (m : List MemoryBlock) (size align : ℕ) (kind : Kind) (marked : Bool)
    → length (slot_memory m size align kind marked) ≡ suc (length m)
slot_length m size align kind true = length-changed (fresh m size align kind) (length m) ended
    ∙ grown_length m (blank_block size align kind)
slot_length m size align kind false = grown_length m (blank_block size align kind)

module _ (g : FramedGiven) (xs : List Instance) (m n : List MemoryBlock) (size align : ℕ) (kind : Kind)
    (small : size < 2 ^ 64) (unlike : kind ≡ Kind.Allocator → align ≡ 16) (long : length n ≡ length m) where
  abbrev made_source : List MemoryBlock
  made_source = fresh m size align kind

  abbrev made_target : List MemoryBlock
  made_target = fresh n size align (plain_kind kind)

  -- a part may have no markers where the coroutine has some
  pub slot_beside : (marked too : Bool) → (too ≡ true → marked ≡ true) → AreFrames g xs m n → AreBeside g xs m n
      → AreBeside g xs (slot_memory m size align kind marked) (slot_memory n size align (plain_kind kind) too)
  slot_beside false false less frames beside = fresh_beside g xs m n size align kind small unlike frames.laid beside
  slot_beside false true less frames beside = absurd (false≢true (less refl))
  slot_beside true false less frames beside
      = subst (AreBeside g xs (end made_source (length m))) (all_stay made_target (length m))
      (dead_beside ended stays ends_alone g xs made_source made_target (length m)
      (fresh_frames g xs m n size align kind small unlike frames).laid
      (fresh_beside g xs m n size align kind small unlike frames.laid beside))
  slot_beside true true less frames beside
      = subst (λ (b : ℕ). AreBeside g xs (end made_source (length m)) (end made_target b)) (sym long)
      (dead_beside ended ended ends g xs made_source made_target (length m)
      (fresh_frames g xs m n size align kind small unlike frames).laid
      (fresh_beside g xs m n size align kind small unlike frames.laid beside))

  pub slot_frames : (marked too : Bool) → (too ≡ true → marked ≡ true) → AreFrames g xs m n
      → AreFrames g xs (slot_memory m size align kind marked) (slot_memory n size align (plain_kind kind) too)
  slot_frames false false less frames = fresh_frames g xs m n size align kind small unlike frames
  slot_frames false true less frames = absurd (false≢true (less refl))
  slot_frames true false less frames
      = subst (AreFrames g xs (end made_source (length m))) (all_stay made_target (length m))
      (dead_frames ended stays ends_alone g xs made_source made_target (length m)
      (fresh_frames g xs m n size align kind small unlike frames))
  slot_frames true true less frames
      = subst (λ (b : ℕ). AreFrames g xs (end made_source (length m)) (end made_target b)) (sym long)
      (dead_frames ended ended ends g xs made_source made_target (length m)
      (fresh_frames g xs m n size align kind small unlike frames))

  -- the frames of instances have their headers as they had
  slot_there : (marked : Bool) (b : ℕ) → b < length m
      → slice_get (slot_memory m size align kind marked) b ≡ slice_get m b
  slot_there true b lt = changed_elsewhere made_source (length m) b ended (below b (length m) lt)
      ∙ got_before m (blank_block size align kind) b lt
    where
      below : (a k : ℕ) → a < k → a ≢ k
      below a k lt e = omega (arith, lt, e)
  slot_there false b lt = got_before m (blank_block size align kind) b lt

  pub slot_headed : (marked too : Bool) → (too ≡ true → marked ≡ true) → AreFrames g xs m n → (i : ℕ) (z : Instance)
      → slice_get xs i ≡ Some z → is_held m z ≡ true
      → IsHeadedIn g m (slot_memory n size align (plain_kind kind) too) z
  slot_headed marked too less frames i z e held =
      let same = slot_there marked z.block (frames.laid.known i z e) in
      headed_on g (slot_memory m size align kind marked) m (slot_memory n size align (plain_kind kind) too) z
      (sym (ap (λ (o : Option MemoryBlock). is_given_in o z) same))
      ((slot_frames marked too less frames).headed i z e (ap (λ (o : Option MemoryBlock). is_held_in o z) same ∙ held))

-- the block of a frame is of the kind that it was of
pub slot_given : (m : List MemoryBlock) (size align : ℕ) (kind : Kind) (marked : Bool) (c : ℕ) (z : Instance)
    → c < length m → is_given_in (slice_get (slot_memory m size align kind marked) c) z ≡ is_given_in (slice_get m c) z
slot_given m size align kind true c z lt = given_kept ended ended_kind (fresh m size align kind) (length m) c z
    ∙ ap (λ (o : Option MemoryBlock). is_given_in o z) (got_before m (blank_block size align kind) c lt)
slot_given m size align kind false c z lt = ap (λ (o : Option MemoryBlock). is_given_in o z)
    (got_before m (blank_block size align kind) c lt)

module _ (g : FramedGiven) (h : PlainGiven) (s : State) (t : PlainState) (r : AreRelated g h s t) (result : Option ℕ)
    (size align : ℕ) (kind : Kind) (marked too : Bool) (count : ℕ) where
  -- what comes of the works
  abbrev made : Work
  made = with_made (work_of s) result size align kind marked count

  abbrev made_too : Work
  made_too = with_made (plain_work t) result size align (plain_kind kind) too count

  long : length t.world.memory ≡ length s.world.memory
  long = r.world.memory.twins.long

  pub homes_grow : Extends (homes_of s.world.memory) (homes_of made.world.memory)
  homes_grow = subst (λ (k : ℕ). Extends (homes_of s.world.memory) (own_homes 0 k))
      (sym (slot_length s.world.memory size align kind marked)) (own_extends (length s.world.memory))

  pub grows : length s.world.memory ≤ length made.world.memory
  grows = let e = slot_length s.world.memory size align kind marked in omega arith

  pub stand : AreValuesOf (function_at g.given.code s.top.func) (homes_of made.world.memory) made.values made_too.values
  stand = values_set (function_at g.given.code s.top.func) (homes_of made.world.memory) result s.top.values
      t.top.values made.values made_too.values
      (values_on (function_at g.given.code s.top.func) (homes_of s.world.memory) (homes_of made.world.memory)
      s.top.values t.top.values homes_grow r.top.values)
      (subst (λ (b : ℕ). AreSet (homes_of made.world.memory) result s.top.values t.top.values made.values
      (with_result t.top.values result (pointer_to b))) (sym long)
      (sets_result (homes_of made.world.memory) s.top.values t.top.values r.top.values.room result
      (pointer_to (length s.world.memory)) (pointer_to (length s.world.memory))
      (block_itself (length made.world.memory) (length s.world.memory)
      (let e = slot_length s.world.memory size align kind marked in omega arith))))

  pub slot_places : KeepsPlaces s.instances s.instances s.world.memory made.world.memory
  slot_places = memory_places s.instances s.world.memory made.world.memory (λ i x e. slot_given s.world.memory
      size align
      kind marked x.block x (r.frames.laid.known i x e))

  -- what is known of given frames stays
  pub blocks_know : ((frame : Value) → s.top.mode ≡ Mode.GivenRamp frame
      → result ≡ Some (given_name (shape_at g s.top.func)) → ⊥)
      → KnowsGiven g s t → KnowsGiven g (settled s made) (plain_settled t made_too)
  blocks_know unset know = goes_knows g s t s.instances made.world.memory made_too.values homes_grow slot_places know
      (λ frame e. result_elsewhere t.top.values result (pointer_to (length t.world.memory))
      (given_name (shape_at g s.top.func)) (unset frame e))

  -- both runs go on with the block
  pub blocks_related : (too ≡ true → marked ≡ true) → size < 2 ^ 64 → (kind ≡ Kind.Allocator → align ≡ 16) → is_entering s.top.mode ≡ false
      → (result ≡ Some r.top.shape.begin → ⊥)
      → IsPlaced r.top.shape r.top.part (function_at g.given.code s.top.func) (function_at h.code t.top.func)
      (moved_to s.top s.top.block (s.top.at + 1) made.values s.top.has_left) (placed_at t.top t.top.block
      (t.top.at + 1) made_too.values) s.top.mode
      → AreRelated g h (settled s made) (plain_settled t made_too)
  blocks_related less small unlike mode other place = advanced g h s t r made made_too s.instances s.top.block
      (s.top.at + 1) t.top.block (t.top.at + 1) s.top.has_left mode
      (record {
        memory = slot_beside g s.instances s.world.memory t.world.memory size align kind small unlike long marked
            too less r.frames r.world.memory;
        events = r.world.events;
        answers = r.world.answers;
        allocs = refl;
      })
      (slot_frames g s.instances s.world.memory t.world.memory size align kind small unlike long marked too less
      r.frames)
      (same_frames s.instances) grows homes_grow stand
      (result_length s.top.values result (pointer_to (length s.world.memory)))
      (result_length t.top.values result (pointer_to (length t.world.memory)))
      (result_elsewhere t.top.values result (pointer_to (length t.world.memory)) r.top.shape.begin other) place
