-- Behind a begin where room was given, which takes five steps of the part, the states are related.
use Rattle.std.proofs.Common.{◌≡◌, ℕ, ◌+◌, ◌<◌, ◌≤◌, ◌^◌, true, false, List, [], ◌∷◌, ◌++◌, length, Some, refl, sym, ap, ◌∙◌, subst, arith}
use Rattle.std.specs.Prelude.{slice_get}
use Rattle.std.proofs.lemmas.Bool.{false≢true}
use Rattle.pass_proofs.specs.ir_base.declared.outcome.Outcome.{Outcome}
use Rattle.pass_proofs.specs.ir_model.Names.{function_at, position_of}
use Rattle.pass_proofs.specs.ir_model.Ty.{ptr}
use Rattle.pass_proofs.specs.ir_model.declared.operand.Operand.{Operand}
use Rattle.pass_proofs.specs.pass_intrinsics.Lowered.{begin_stores, destroyed_by}
use Rattle.pass_proofs.specs.pass_intrinsics.declared.shape.Part.{Part}
use Rattle.pass_proofs.specs.pass_intrinsics.declared.shape.Shape.{Shape}
use Rattle.pass_split_proof.proofs.given_begins.Stored.{at_both_headed, at_first_headed, begins_at}
use Rattle.pass_split_proof.proofs.states.Advanced.{all_beside_on}
use Rattle.pass_split_proof.proofs.states.Judged.{get_new}
use Rattle.pass_split_proof.proofs.states.Values.{values_set}
use Rattle.pass_split_proof.proofs.steps.BegunStates.{more_frames}
use Rattle.pass_split_proof.proofs.steps.Given.{address_itself}
use Rattle.pass_split_proof.proofs.steps.Marked.{line_marked}
use Rattle.pass_split_proof.proofs.steps.Saves.{set_there, values_extra}
use Rattle.pass_proofs.proofs.addresses.numbers.Done.{address_done}
use Rattle.pass_split_proof.proofs.steps.Small.{pointer_stored}
use Rattle.pass_split_proof.specs.given_begins.Beginning.{begun_work_at}
use Rattle.pass_split_proof.specs.given_begins.Room.{BeginsAt, HasRoom, IsBegun, with_header_at}
use Rattle.pass_split_proof.specs.states.Activations.{Inside, is_entering}
use Rattle.pass_split_proof.specs.states.Going.{stands_at}
use Rattle.pass_split_proof.specs.code.Positions.{is_given}
use Rattle.pass_split_proof.specs.states.Instances.{AreFrames, IsLaidOut, StandsThere, address_of_part, destroyer_of, is_destroyer, is_held, part_position, shape_at}
use Rattle.pass_split_proof.specs.states.Memories.{AreBeside, homes_of}
use Rattle.pass_split_proof.specs.states.Related.{AreHeadersKept, AreRelated}
use Rattle.pass_split_proof.specs.states.Values.{AreValuesOf}
use Rattle.pass_split_proof.specs.steps.Begins.{HasBeginCode, begun_to}
use Rattle.pass_proofs.specs.run_framed.Framed.{FramedGiven}
use Rattle.pass_proofs.proofs.run_laws.transfer.Sets.{set_elsewhere, set_length, sets_name}
use Rattle.pass_proofs.specs.run_laws.access.Lines.{Runs, pointer_at, refilled_at}
use Rattle.pass_proofs.specs.run_laws.memory.Pointers.{Extends, Home}
use Rattle.pass_proofs.specs.run_laws.memory.Standing.{own_homes}
use Rattle.pass_proofs.specs.run_memory.Memory.{encode}
use Rattle.pass_proofs.specs.run_memory.declared.block.MemoryBlock.{MemoryBlock}
use Rattle.pass_proofs.specs.run_memory.declared.pointer.Pointer.{Pointer}
use Rattle.pass_proofs.specs.run_memory.declared.pointer.Value.{Value}
use Rattle.run_access_worked.specs.run_plain.Plain.{PlainGiven, plain_context, plain_function, plain_step, plain_work}
use Rattle.run_access_worked.specs.run_plain.declared.state.PlainState.{PlainState}
use Rattle.pass_proofs.specs.run_source.State.{frame_address_of}
use Rattle.pass_proofs.specs.run_source.declared.state.Instance.{Instance}
use Rattle.pass_proofs.specs.run_source.declared.state.State.{State}
use Rattle.pass_proofs.specs.run_step.Runs.{iterate}
use Rattle.pass_proofs.specs.run_step.Step.{Done, Work, set_memory, set_value, value_at}
use Rattle.pass_proofs.specs.run_step.Values.{Env, value_in, with_value}
use Rattle.pass_split_proof.proofs.states.Headers.{headers_all}
use Rattle.pass_split_proof.proofs.steps.Through.{RunsThrough, runs_of}

none_more : (n : ℕ) → n + 0 ≡ n
none_more n = omega arith

module _ (g : FramedGiven) (h : PlainGiven) (s : State) (t : PlainState) (r : AreRelated g h s t) (p : Operand)
    (code : HasBeginCode g h s t r p) (x : Instance) (after : List MemoryBlock) (mine : x.coroutine ≡ s.top.func)
    (same_length : length after ≡ length s.world.memory)
    (frames : AreFrames g s.instances after t.world.memory) (beside : AreBeside g s.instances after t.world.memory)
    (room : HasRoom g s.instances x after t.world.memory) (laid : IsLaidOut g x.coroutine) (new : IsBegun x)
    (known : x.block < length s.world.memory) (small : x.start + 16 < 2 ^ 64)
    (leads : value_at (plain_context h t) (plain_work t) ptr p ≡ pointer_at x.block x.start)
    (right : is_given (destroyer_of r.top.part) ≡ true)
    (same_held : (z : Instance) → is_held after z ≡ is_held s.world.memory z) where
  abbrev shape : Shape
  shape = shape_at g s.top.func

  abbrev resumes : Value
  resumes = address_of_part g s.top.func Part.Resume

  abbrev destroyer : Part
  destroyer = destroyer_of r.top.part

  destroys : (part : Part) → is_destroyer (destroyer_of part) ≡ true
  destroys Part.Ramp = refl
  destroys Part.GivenRamp = refl
  destroys Part.Resume = refl
  destroys Part.Destroy = refl
  destroys Part.Cleanup = refl

  standing : StandsThere g x.coroutine destroyer
  standing = subst (λ (k : ℕ). StandsThere g k destroyer) (sym mine) code.standing

  stored : BeginsAt g s.instances x after t.world.memory resumes destroyer
  stored = begins_at g s.instances x after t.world.memory room frames beside laid new resumes destroyer
      (destroys r.top.part) standing right

  abbrev at_start : Value
  at_start = pointer_at x.block x.start

  abbrev at_second : Value
  at_second = pointer_at x.block (x.start + 8)

  -- the names of the frame and of the second pointer
  abbrev with_frame : Env
  with_frame = with_value t.top.values shape.begin at_start

  abbrev behind : Work
  behind = begun_work_at g r.top.part (plain_work t) code.name x s.top.func

  other_name : code.name ≡ shape.begin → ⊥
  other_name k = let a = code.new in let b = code.begin in omega arith

  -- ---- the line

  abbrev one : Work
  one = set_value (plain_work t) shape.begin at_start

  abbrev two : Work
  two = set_memory one (refilled_at t.world.memory x.block x.start (encode 8 resumes))

  abbrev three : Work
  three = set_value two code.name at_second

  abbrev four : Work
  four = set_memory three (with_header_at t.world.memory x.block x.start resumes (address_of_part g s.top.func destroyer))

  room_for : shape.begin < length t.top.values
  room_for = let a = r.top.values.room in let b = code.begin in omega arith

  low : (n k : ℕ) → k ≤ 8 → n + 16 < 2 ^ 64 → n + k < 2 ^ 64
  low n k le lt = omega arith

  -- headers stand on the way
  first_kept : AreHeadersKept g s (refilled_at t.world.memory x.block x.start (encode 8 resumes))
  first_kept = headers_all g s (refilled_at t.world.memory x.block x.start (encode 8 resumes))
      (λ i z e held. at_first_headed g s.instances x after t.world.memory room frames beside laid new resumes destroyer
      (destroys r.top.part) standing right i z e (same_held z ∙ held) (r.frames.headed i z e held))

  both_kept : AreHeadersKept g s
      (with_header_at t.world.memory x.block x.start resumes (address_of_part g s.top.func destroyer))
  both_kept = subst (λ (f : ℕ). AreHeadersKept g s (with_header_at t.world.memory x.block x.start resumes
      (address_of_part g f destroyer))) mine
      (headers_all g s (with_header_at t.world.memory x.block x.start resumes (address_of_part g x.coroutine
      destroyer))
      (λ i z e held. at_both_headed g s.instances x after t.world.memory room frames beside laid new resumes destroyer
      (destroys r.top.part) standing right i z e (same_held z ∙ held) (r.frames.headed i z e held)))

  pub line_keeping : RunsThrough (λ n. AreHeadersKept g s n) (plain_context h t)
      (begin_stores shape r.top.part code.name p) (plain_work t) four
  line_keeping = (
    one,
    (
      address_done (plain_context h t) (plain_work t) shape.begin x.block x.start 0 p leads
          (low x.start 0 (omega arith) small)
          ∙ ap (λ (o : ℕ). Done (set_value (plain_work t) shape.begin (pointer_at x.block o))) (none_more x.start),
      (
        headers_all g s t.world.memory r.frames.headed,
        (
          two,
          (
            pointer_stored (plain_context h t) one x.block x.start 8 (Operand.Global shape.resume_name)
                (Operand.Local shape.begin) (Pointer.Func (part_position g s.top.func Part.Resume)) stored.old
                (set_there t.top.values shape.begin at_start room_for) code.resumes stored.first
                stored.long (omega arith),
            (
              first_kept,
              (
                three,
                (
                  address_done (plain_context h t) two code.name x.block x.start 8 (Operand.Local shape.begin)
                      (set_there t.top.values shape.begin at_start room_for) (low x.start 8 (omega arith) small),
                  (
                    first_kept,
                    (
                      four,
                      (
                        pointer_stored (plain_context h t) three x.block (x.start + 8) 8
                            (Operand.Global (destroyed_by shape r.top.part)) (Operand.Local code.name)
                            (Pointer.Func (part_position g s.top.func destroyer)) stored.older
                            (set_there with_frame code.name at_second (subst (λ (k : ℕ). code.name < k)
                            (sym (set_length t.top.values shape.begin at_start)) code.room)) code.destroys
                            stored.second stored.longer (omega arith),
                        (both_kept, refl),
                      ),
                    ),
                  ),
                ),
              ),
            ),
          ),
        ),
      ),
    ),
  )

  pub line_runs : Runs (plain_context h t) (begin_stores shape r.top.part code.name p) (plain_work t) four
  line_runs = runs_of (λ n. AreHeadersKept g s n) (plain_context h t) (begin_stores shape r.top.part code.name p)
      (plain_work t) four line_keeping

  -- it takes five steps
  pub given_begin_steps : t.outcome ≡ Outcome.Running
      → iterate (plain_step h) 5 t ≡ stands_at t (position_of (plain_function h t) code.mark) 0 behind
  given_begin_steps running = line_marked h t running (begin_stores shape r.top.part code.name p) code.mark four
      code.stands code.bare line_runs
      ∙ ap (λ (f : ℕ). stands_at t (position_of (plain_function h t) code.mark) 0
      (record {
        world = record t.world {
          memory = with_header_at t.world.memory x.block x.start resumes
              (address_of_part g f destroyer);
        };
        values = with_value with_frame code.name at_second;
      }))
      (sym mine)

  -- ---- the states behind it

  homes_stay : homes_of s.world.memory ≡ homes_of after
  homes_stay = ap (own_homes 0) (sym same_length)

  ext : Extends (homes_of s.world.memory) (homes_of after)
  ext = subst (Extends (homes_of s.world.memory)) homes_stay (record { each = λ b e. refl })

  low_start : x.start < 2 ^ 64
  low_start = less x.start small
    where
      less : (n : ℕ) → n + 16 < 2 ^ 64 → n < 2 ^ 64
      less n lt = omega arith

  stand : AreValuesOf (function_at g.given.code s.top.func) (homes_of after) (with_value s.top.values shape.begin
      at_start) behind.values
  stand = subst (λ (hs : List Home). AreValuesOf (function_at g.given.code s.top.func) hs
      (with_value s.top.values shape.begin at_start) behind.values) homes_stay
      (values_extra (function_at g.given.code s.top.func) (homes_of s.world.memory)
      (with_value s.top.values shape.begin at_start) with_frame code.name at_second
      (subst (λ (k : ℕ). k ≤ code.name) (sym (set_length s.top.values shape.begin at_start)) code.new)
      (values_set (function_at g.given.code s.top.func) (homes_of s.world.memory) (Some shape.begin) s.top.values
      t.top.values (with_value s.top.values shape.begin at_start) with_frame r.top.values
      (sets_name (homes_of s.world.memory) s.top.values t.top.values r.top.values.room shape.begin
      at_start at_start
      (address_itself (length s.world.memory) x.block x.start known low_start))))

  frame_is : value_in behind.values r.top.shape.begin ≡ frame_address_of x
  frame_is = ap (λ (z : Shape). value_in behind.values z.begin) code.same
      ∙ set_elsewhere with_frame code.name shape.begin at_second other_name
      ∙ set_there t.top.values shape.begin at_start room_for

  pub given_begin_related : is_entering s.top.mode ≡ false
      → AreRelated g h (begun_to s x after (with_value s.top.values shape.begin at_start))
      (stands_at t (position_of (plain_function h t) code.mark) 0 behind)
  given_begin_related mode = record {
    outcome = r.outcome;
    globals = subst (λ (k : ℕ). length g.given.code.globals ≤ k) (sym same_length) r.globals;
    world = record {
      memory = stored.beside;
      events = r.world.events;
      answers = r.world.answers;
      allocs = r.world.allocs;
    };
    frames = stored.frames;
    top = record {
      shape = r.top.shape;
      part = r.top.part;
      coded = r.top.coded;
      shaped = r.top.shaped;
      runs = r.top.runs;
      func = r.top.func;
      place = Inside s.top.mode mode code.place;
      values = stand;
      whole = set_length s.top.values shape.begin at_start ∙ r.top.whole;
      room = set_length with_frame code.name at_second
          ∙ set_length t.top.values shape.begin at_start ∙ r.top.room;
      frame = λ i own. record {
        instance = x;
        there = ap (slice_get (s.instances ++ x ∷ []))
            (sym (number i own)) ∙ get_new s.instances x;
        coroutine = mine;
        is = frame_is;
      };
      result = r.top.result;
      slots = r.top.slots;
      own = r.top.own;
    };
    below = all_beside_on g h.code s.instances (s.instances ++ x ∷ []) (homes_of s.world.memory) (homes_of after) ext
        (more_frames s.instances x) s.top.result s.below t.below r.below;
    making = λ from label e. absurd (false≢true (sym mode ∙ ap is_entering e));
  }
    where
      number : (i : ℕ) → Some (length s.instances) ≡ Some i → length s.instances ≡ i
      number i e = cc
