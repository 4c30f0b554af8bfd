-- The part that a resume or destroy calls, beside the activation with which the framed run goes on.
use Rattle.std.proofs.Common.{◌≡◌, ℕ, ◌+◌, ◌<◌, ◌≤◌, ◌^◌, inl, true, false, List, [], ◌∷◌, length, replicate, Option, None, Some, refl, sym, ap, ◌∙◌, subst, arith}
use Rattle.std.specs.Prelude.{slice_get, slice_set, not, ◌&&◌}
use Rattle.std.proofs.lemmas.List.{length-replicate}
use Rattle.std.proofs.lemmas.Bool.{and_parts, false≢true}
use Rattle.std.proofs.lemmas.Option.{slice_get_within}
use Rattle.pass_proofs.proofs.flow_solver.Lists.{set_here}
use Rattle.pass_proofs.specs.ir_model.Names.{function_at}
use Rattle.pass_proofs.specs.ir_model.Ty.{ptr}
use Rattle.pass_proofs.specs.ir_model.declared.module.Function.{Function}
use Rattle.pass_proofs.specs.ir_model.declared.module.Param.{Param}
use Rattle.pass_proofs.specs.pass_intrinsics.Cuts.{goes_on}
use Rattle.pass_proofs.specs.pass_intrinsics.declared.shape.Part.{Part}
use Rattle.pass_proofs.specs.pass_intrinsics.declared.shape.Shape.{Shape}
use Rattle.pass_split_proof.proofs.states.Advanced.{KeepsFrames}
use Rattle.pass_split_proof.proofs.states.Twins.{twin_at}
use Rattle.pass_split_proof.proofs.states.Values.{no_values, params_stand}
use Rattle.pass_split_proof.proofs.steps.Branches.{left_all, left_beside, left_frames}
use Rattle.pass_split_proof.proofs.steps.Calls.{pushes_related, result_length}
use Rattle.pass_split_proof.proofs.steps.Given.{address_itself}
use Rattle.pass_split_proof.proofs.steps.Saves.{set_there}
use Rattle.pass_proofs.specs.split.rules.Parted.{IsCleanup, IsDestroy, IsGivenRamp, IsPartOf, IsRamp, IsResume}
use Rattle.pass_split_proof.specs.states.Activations.{IsBehind, IsBeside, IsPlaced, IsReturning, RunsPart, is_entering}
use Rattle.pass_split_proof.specs.states.Going.{placed_at}
use Rattle.pass_split_proof.specs.states.Instances.{AreFrames, is_given_in, is_held_in, lives_in, part_position, shape_at}
use Rattle.pass_split_proof.specs.states.Memories.{AreBeside, homes_of}
use Rattle.pass_split_proof.specs.states.Related.{AreRelated}
use Rattle.pass_split_proof.specs.states.Values.{AreValuesOf}
use Rattle.pass_split_proof.specs.steps.Branches.{Left, WasLeft}
use Rattle.pass_split_proof.specs.steps.Woken.{IsWaking, IsWoken}
use Rattle.pass_proofs.specs.run_framed.Framed.{FramedGiven, begin_name, layout_of, reentry_values}
use Rattle.pass_proofs.specs.run_laws.memory.Pointers.{Home, IsValue}
use Rattle.pass_proofs.specs.run_memory.declared.block.MemoryBlock.{MemoryBlock}
use Rattle.pass_proofs.specs.run_memory.declared.pointer.Value.{Value}
use Rattle.run_access_worked.specs.run_plain.Plain.{PlainGiven}
use Rattle.run_access_worked.specs.run_plain.declared.state.PlainActivation.{PlainActivation}
use Rattle.run_access_worked.specs.run_plain.declared.state.PlainState.{PlainState}
use Rattle.pass_proofs.specs.run_source.State.{frame_address_of, is_finished, is_suspended}
use Rattle.pass_proofs.specs.run_source.declared.state.Activation.{Activation}
use Rattle.pass_proofs.specs.run_source.declared.state.Instance.{Instance}
use Rattle.pass_proofs.specs.run_source.declared.state.Mode.{Mode}
use Rattle.pass_proofs.specs.run_source.declared.state.State.{State}
use Rattle.pass_proofs.specs.run_source.declared.state.Status.{Status}
use Rattle.pass_proofs.specs.run_step.Step.{entry_values, with_params}
use Rattle.pass_proofs.specs.run_step.Values.{Env, value_in, with_result, with_value}

abbrev no_one : Option Value
no_one = None

-- the parameter of a part that goes on is the name of the frame
pub later_params : (s : Shape) (f q : Function) (part : Part) → IsPartOf s f part q → goes_on part ≡ true
    → q.params ≡ record { ty = ptr; name = s.begin } ∷ []
later_params s f _ _ IsRamp goes = absurd (false≢true goes)
later_params s f _ _ IsGivenRamp goes = absurd (false≢true goes)
later_params s f _ _ IsResume goes = refl
later_params s f _ _ IsDestroy goes = refl
later_params s f _ _ IsCleanup goes = refl

module _ (g : FramedGiven) (h : PlainGiven) (s : State) (t : PlainState) (r : AreRelated g h s t) (p : Value)
    (w : IsWoken s p) (part : Part) (label : ℕ) (k : IsWaking g h.code s t.world.memory p w part label) where
  abbrev x : Instance
  x = w.instance

  abbrev func : ℕ
  func = x.coroutine

  abbrev f : Function
  f = function_at g.given.code func

  abbrev shape : Shape
  shape = shape_at g func

  abbrev part_at : ℕ
  part_at = part_position g func part

  abbrev q : Function
  q = function_at h.code part_at

  abbrev now : Instance
  now = record x { status = Status.Running }

  abbrev ys : List Instance
  ys = slice_set s.instances w.number now

  abbrev homes : List Home
  homes = homes_of s.world.memory

  abbrev frame : Value
  frame = frame_address_of x

  -- ---- the instance runs again

  was : WasLeft s.instances ys
  was = Left w.number x w.there (ap is_suspended w.status)

  beside_after : AreBeside g ys s.world.memory t.world.memory
  beside_after = left_beside g s.world.memory t.world.memory s.instances ys was r.world.memory

  frames_after : AreFrames g ys s.world.memory t.world.memory
  frames_after = left_all g s.world.memory t.world.memory s.instances ys was r.frames

  keeps : KeepsFrames s.instances ys
  keeps = left_frames s.instances ys was

  now_there : slice_get ys w.number ≡ Some now
  now_there = set_here s.instances w.number now (slice_get_within s.instances w.number x w.there)

  -- ---- its frame's address

  block_there : (y : MemoryBlock) × (slice_get s.world.memory x.block ≡ Some y)
  block_there = on (slice_get s.world.memory x.block) refl k.held
    where
      on : (o : Option MemoryBlock) → slice_get s.world.memory x.block ≡ o → is_held_in o x ≡ true
          → (y : MemoryBlock) × (slice_get s.world.memory x.block ≡ Some y)
      on None e held = absurd (false≢true (and_parts (not (is_given_in None x && is_finished x.status)) (lives_in None)
          (and_parts (not x.freed) (not (is_given_in None x && is_finished x.status) && lives_in None) held).1).1)
      on (Some y) e held = (y, e)

  inside : x.start + (layout_of g.layouts func).size < 2 ^ 64
  inside = below (x.start + (layout_of g.layouts func).size) (block_there.0).size
      (r.frames.laid.lies w.number x block_there.0 w.there block_there.1).inside
      (twin_at s.world.memory t.world.memory r.world.memory.twins x.block block_there.0 block_there.1).is.small
    where
      below : (a b : ℕ) → a ≤ b → b < 2 ^ 64 → a < 2 ^ 64
      below a b le lt = omega arith

  pub index_inside : x.start + (layout_of g.layouts func).index < 2 ^ 64
  index_inside = below x.start (layout_of g.layouts func).index _ (layout_of g.layouts func).size k.laid.index inside
    where
      below : (a b l c : ℕ) → b + l ≤ c → a + c < 2 ^ 64 → a + b < 2 ^ 64
      below a b l c le lt = omega arith

  stands : IsValue homes frame frame
  stands = address_itself (length s.world.memory) x.block x.start (r.frames.laid.known w.number x w.there)
      (below x.start (layout_of g.layouts func).size inside)
    where
      below : (a b : ℕ) → a + b < 2 ^ 64 → a < 2 ^ 64
      below a b lt = omega arith

  -- ---- the values at the part's entry

  params : q.params ≡ record { ty = ptr; name = shape.begin } ∷ []
  params = later_params shape f q part k.part_there.is k.part_there.goes

  pub start_stands : AreValuesOf f homes (reentry_values f frame) (entry_values q (frame ∷ []))
  start_stands = subst (λ (o : Option ℕ). AreValuesOf f homes (with_result (replicate (length f.names) None) o frame)
      (entry_values q (frame ∷ []))) (sym k.part_there.named)
      (subst (λ (ps : List Param). AreValuesOf f homes
      (with_value (replicate (length f.names) None) shape.begin frame)
      (with_params (replicate (length q.names) None) ps (frame ∷ []))) (sym params)
      (params_stand f homes (replicate (length f.names) None) (replicate (length q.names) None)
      (record { ty = ptr; name = shape.begin } ∷ []) (frame ∷ []) (frame ∷ [])
      (no_values f homes (length f.names) (length q.names) k.part_there.names) (stands, tt)))

  pub start_frame : value_in (entry_values q (frame ∷ [])) shape.begin ≡ frame
  start_frame = ap (λ (ps : List Param). value_in (with_params (replicate (length q.names) None) ps (frame ∷ []))
      shape.begin) params
      ∙ set_there (replicate (length q.names) no_one) shape.begin frame
      (subst (λ (n : ℕ). shape.begin < n) (sym (length-replicate (length q.names) no_one))
      (below shape.begin shape.base (length q.names) k.part_there.begin k.part_there.entry.slot))
    where
      below : (a b n : ℕ) → a < b → b + 4 < n → a < n
      below a b n lt le = omega arith

  -- ---- the new activations

  module _ (mode : Mode) (block at piece offset : ℕ) (other : Env) where
    abbrev pub ours : Activation
    ours = record {
      func = func;
      block = block;
      at = at;
      values = reentry_values f frame;
      slots = [];
      result = None;
      mode = mode;
      instance = Some w.number;
      has_left = false;
    }

    abbrev pub theirs : PlainActivation
    theirs = record { func = part_at; block = piece; at = offset; values = other; slots = []; result = None }

    beside : RunsPart mode part → AreValuesOf f homes (reentry_values f frame) other → length other ≡ length q.names
        → value_in other shape.begin ≡ frame → IsPlaced shape part f q ours theirs mode
        → IsBeside g h.code ys homes ours theirs
    beside runs values room has place = record {
      shape = shape;
      part = part;
      coded = k.part_there.coded;
      shaped = inl (k.part_there.coroutine, refl);
      runs = runs;
      func = refl;
      place = place;
      values = values;
      whole = result_length (replicate (length f.names) no_one) (begin_name f) frame
          ∙ length-replicate (length f.names) no_one;
      room = room;
      frame = λ i own. record {
        instance = now;
        there = ap (slice_get ys) (sym (number i own)) ∙ now_there;
        coroutine = refl;
        is = has;
      };
      result = refl;
      slots = refl;
      own = λ coroutine. tt;
    }
      where
        number : (i : ℕ) → Some w.number ≡ Some i → w.number ≡ i
        number i e = cc

    -- they are on top, and the callers wait
    pub woken_related : is_entering s.top.mode ≡ false → RunsPart mode part
        → AreValuesOf f homes (reentry_values f frame) other → length other ≡ length q.names
        → value_in other shape.begin ≡ frame → IsPlaced shape part f q ours theirs mode
        → ((from to : ℕ) → mode ≡ Mode.Entering from to
        → IsReturning g shape part f ys t.world.memory (Some w.number) from to)
        → (piece offset : ℕ) (values : Env)
        → AreValuesOf (function_at g.given.code s.top.func) homes s.top.values values
        → length values ≡ length t.top.values
        → ((i : ℕ) → s.top.instance ≡ Some i
        → value_in values r.top.shape.begin ≡ value_in t.top.values r.top.shape.begin)
        → IsPlaced r.top.shape r.top.part (function_at g.given.code s.top.func) (function_at h.code t.top.func)
        (record s.top { at = s.top.at + 1 }) (placed_at t.top piece offset values) s.top.mode
        → IsBehind (function_at g.given.code s.top.func) false (record s.top { at = s.top.at + 1 })
        → AreRelated g h (record s { instances = ys; top = ours; below = record s.top { at = s.top.at + 1 } ∷ s.below })
        (record t {
          world = record t.world { memory = t.world.memory };
          top = theirs;
          below = placed_at t.top piece offset values ∷ t.below;
        })
    unfolding beside
    woken_related settled runs stand room has place making waits wait_at values kept long begin waiting behind
        = pushes_related g h s t r ys t.world.memory ours theirs waits wait_at values settled beside_after frames_after
        keeps (beside runs stand room has place) making kept long begin waiting behind (λ e. absurd (cc))

  -- ---- where it executes its allocas again

  pub returning : IsReturning g shape part f ys t.world.memory (Some w.number) w.suspend.block label
  returning = record {
    own = w.number;
    frame = now;
    is_own = refl;
    there = now_there;
    number = k.saved.number;
    point = k.saved.numbered.suspend;
    is = k.saved.numbered.stands;
    behind = k.behind;
    entered = k.entered;
    leads = k.leads;
    index = record { holds = k.saved.index.holds };
  }
