-- A call of a deallocator kills the same block in both runs.
use Rattle.std.proofs.Common.{◌≡◌, ℕ, ◌+◌, ◌≤◌, ◌<◌, ◌^◌, Bool, true, false, List, [], length, Option, Some, None, Ok, Err, Result, refl, sym, ap, ◌∙◌, subst, arith, if◌then◌else◌, ◌==◌}
use Rattle.std.specs.Prelude.{slice_get, slice_set}
use Rattle.std.proofs.lemmas.Bool.{and_parts, eqb-true}
use Rattle.pass_proofs.specs.ir_base.declared.cause.Cause.{Cause}
use Rattle.pass_proofs.specs.ir_base.declared.outcome.Outcome.{Outcome}
use Rattle.pass_proofs.specs.ir_model.Names.{function_at}
use Rattle.pass_proofs.specs.ir_model.declared.instr.Instr.{Instr}
use Rattle.pass_proofs.specs.ir_model.declared.module.Function.{Function}
use Rattle.pass_proofs.specs.ir_model.declared.operand.Allocator.{Allocator}
use Rattle.pass_proofs.specs.ir_model.declared.operand.Callee.{Callee}
use Rattle.pass_split_proof.proofs.calling.Called.{args_stand}
use Rattle.pass_split_proof.proofs.freeing.Memories.{freed, freed_beside, freed_frames, freed_keeps, killed_alone, killed_too}
use Rattle.pass_split_proof.proofs.giving.Constants.{not_again}
use Rattle.pass_split_proof.proofs.held.Freed.{Killed, killed_ok, unkilled_disowned}
use Rattle.pass_split_proof.proofs.held.LetGo.{unkilled_at}
use Rattle.pass_split_proof.proofs.held.Moves.{ok_same}
use Rattle.pass_split_proof.proofs.making.Allocators.{first_stands}
use Rattle.pass_split_proof.proofs.simulation.Knowing.{KeepsPlaces, goes_knows, memory_places, places_then, same_places, set_places}
use Rattle.pass_split_proof.proofs.states.Advanced.{KeepsFrames, advanced, same_frames}
use Rattle.pass_split_proof.proofs.states.SameKind.{given_kept}
use Rattle.pass_split_proof.proofs.states.Killed.{dead_beside, dead_frames, kills}
use Rattle.pass_split_proof.proofs.states.OwnHomes.{own_pointer, own_seen}
use Rattle.pass_split_proof.proofs.states.Written.{length-changed}
use Rattle.pass_split_proof.proofs.steps.Followed.{fine_ok, framed_does, one_followed}
use Rattle.pass_split_proof.proofs.steps.Ordinary.{IsCopied, alone}
use Rattle.pass_split_proof.proofs.steps.Settled.{plain_does}
use Rattle.pass_split_proof.proofs.steps.Woken.{found_there}
use Rattle.pass_split_proof.specs.freeing.Deallocating.{IsAtDeallocator, deallocates}
use Rattle.pass_split_proof.specs.simulation.Followed.{IsFollowed}
use Rattle.pass_split_proof.specs.states.Activations.{Inside}
use Rattle.pass_split_proof.specs.states.Instances.{AreFrames}
use Rattle.pass_split_proof.specs.states.Memories.{AreBeside, homes_of}
use Rattle.pass_split_proof.specs.states.Related.{AreRelated, credit_of}
use Rattle.pass_split_proof.specs.states.Values.{AreValuesOf}
use Rattle.pass_proofs.specs.run_agreement.Machines.{IsFine}
use Rattle.pass_proofs.specs.run_framed.Framed.{FramedGiven, framed_step}
use Rattle.pass_proofs.specs.run_laws.memory.Pointers.{Extends, IsValue}
use Rattle.pass_proofs.specs.run_laws.memory.Standing.{own_homes}
use Rattle.pass_proofs.specs.run_memory.Memory.{disown, killed, killed_block}
use Rattle.pass_proofs.specs.run_memory.declared.block.MemoryBlock.{MemoryBlock}
use Rattle.pass_proofs.specs.run_memory.declared.pointer.Offset.{Offset}
use Rattle.pass_proofs.specs.run_memory.declared.pointer.Pointer.{Pointer}
use Rattle.pass_proofs.specs.run_memory.declared.pointer.Value.{Value}
use Rattle.run_access_worked.specs.run_plain.Plain.{PlainGiven, plain_or_undefined, plain_settled, plain_work}
use Rattle.run_access_worked.specs.run_plain.declared.state.PlainState.{PlainState}
use Rattle.pass_proofs.proofs.run_source.Indexes.{last-passes}
use Rattle.pass_proofs.specs.run_source.Source.{deallocate, if_let_go, let_go, may_be_freed}
use Rattle.pass_proofs.specs.run_source.State.{began_at, function_of, last_where, next, or_undefined, with_instance, with_memory, work_of}
use Rattle.pass_proofs.specs.run_source.declared.state.Instance.{Instance}
use Rattle.pass_proofs.specs.run_source.declared.state.State.{State}
use Rattle.pass_proofs.specs.run_step.Results.{and_then}
use Rattle.pass_proofs.specs.run_step.Step.{AtInstr, Deallocate, Work, allocator_call, deallocated, set_memory, without_slots}
use Rattle.pass_proofs.specs.run_step.Values.{address, arg_values, nth}
use Rattle.pass_proofs.specs.run_step.declared.world.Slot.{Slot}

action_is : (w : Work) (result : Option ℕ) (vs : List Value) (a : Allocator) → deallocates a ≡ true
    → allocator_call a w result vs ≡ Deallocate (address (nth vs 0))
action_is w result vs Allocator.Free e = refl
action_is w result vs Allocator.ZdlPv e = refl
action_is w result vs Allocator.ZdlPvm e = refl
action_is w result vs _ e = absurd (cc)

-- what a step did that came to something
first_ok : {A B : Type 0} → (r : Result A Cause) (f : A → Result B Cause) (u : B) → and_then r f ≡ Ok u
    → (a : A) × ((r ≡ Ok a) × (f a ≡ Ok u))
first_ok (Ok a) f u e = (a, (refl, e))
first_ok (Err c) f u e = absurd (cc)

abbrev the_ok : State → Result State Cause
the_ok a = Ok a

same_ok : (a b : State) → (the_ok a) ≡ Ok b → b ≡ a
same_ok a b e = sym (ok_same (Ok a) a b refl e)

-- ---- what comes of both

module _ (g : FramedGiven) (h : PlainGiven) (s : State) (t : PlainState) (r : AreRelated g h s t) where
  abbrev m : List MemoryBlock
  m = s.world.memory

  abbrev n : List MemoryBlock
  n = t.world.memory

  abbrev after : List Instance → List MemoryBlock → State
  after ys k = next (record s { instances = ys; world = record s.world { memory = k } })

  -- the framed run has freed an address, and the part frees what stands for it
  record AreFreed (v : Value) (u : State) : Type 0 where
    instances : List Instance
    memory : List MemoryBlock
    others : List MemoryBlock
    is : u ≡ after instances memory
    does : (w : Value) → IsValue (homes_of m) v w → deallocated n (address w) ≡ Ok others
    beside : AreBeside g instances memory others
    frames : AreFrames g instances memory others
    keeps : KeepsFrames s.instances instances
    places : KeepsPlaces s.instances instances m memory
    long : length memory ≡ length m

  -- the part is given the same address
  same_address : (b : ℕ) (o : Offset) → (o.bits == 0) ≡ true → (w : Value)
      → IsValue (homes_of m) (Value.Ptr (Pointer.At b o)) w → w ≡ Value.Ptr (Pointer.At b o)
  same_address b o start w stands = stands.1
      ∙ ap Value.Ptr (own_pointer (length m) b o (own_seen (length m) b stands.0) (small (eqb-true o.bits 0 start)))
    where
      small : o.bits ≡ 0 → o.bits < 2 ^ 64
      small e = omega arith

  -- a block of no instance that may be freed
  block_freed : (b : ℕ) (o : Offset) (u : State)
      → and_then (deallocated m (Value.Ptr (Pointer.At b o))) (λ (k : List MemoryBlock). Ok (next (with_memory s k)))
      ≡ Ok u → AreFreed (Value.Ptr (Pointer.At b o)) u
  block_freed b o u e =
      let a = first_ok (deallocated m (Value.Ptr (Pointer.At b o)))
      (λ (k : List MemoryBlock). Ok (next (with_memory s k))) u e in
      let y : Killed m b o a.0 = killed_ok m b o a.0 a.1.0 in
      record {
        instances = s.instances;
        memory = killed m b;
        others = killed n b;
        is = same_ok (next (with_memory s a.0)) u a.1.1 ∙ ap (after s.instances) y.memory;
        does = λ w stands. ap (λ (v : Value). deallocated n (address v)) (same_address b o y.start w stands)
            ∙ killed_too m n g s.instances r.world.memory b o (unkilled_at m b y.unkilled) y.start;
        beside = dead_beside killed_block killed_block kills g s.instances m n b r.frames.laid r.world.memory;
        frames = dead_frames killed_block killed_block kills g s.instances m n b r.frames;
        keeps = same_frames s.instances;
        places = memory_places s.instances m (killed m b)
            (λ i x f. given_kept killed_block (λ z. refl) m b x.block x);
        long = length-changed m b killed_block;
      }

  -- that of an instance that is freed
  module _ (i : ℕ) (x : Instance) (there : slice_get s.instances i ≡ Some x) where
    abbrev ys : List Instance
    ys = slice_set s.instances i (freed g s.instances m n i x there)

    abbrev gone : List Slot → State
    gone slots = with_memory (with_instance s i (freed g s.instances m n i x there))
        (disown (without_slots m slots) x.block)

    abbrev Frees : State → ℕ → Offset → Type 0
    Frees z b o = (u : State)
        → and_then (deallocated z.world.memory (Value.Ptr (Pointer.At b o)))
        (λ (k : List MemoryBlock). Ok (next (with_memory z k))) ≡ Ok u → AreFreed (Value.Ptr (Pointer.At b o)) u

    own_freed : (o : Offset) → Frees (gone []) x.block o
    own_freed o u e =
        let a = first_ok (deallocated (disown m x.block) (Value.Ptr (Pointer.At x.block o)))
        (λ (k : List MemoryBlock). Ok (next (with_memory (gone []) k))) u e in
        let y : Killed (disown m x.block) x.block o a.0 = killed_ok (disown m x.block) x.block o a.0 a.1.0 in
        record {
          instances = ys;
          memory = killed m x.block;
          others = killed n x.block;
          is = same_ok (next (with_memory (gone []) a.0)) u a.1.1
              ∙ ap (after ys) (y.memory ∙ killed_alone m x.block);
          does = λ w stands. ap (λ (v : Value). deallocated n (address v)) (same_address x.block o y.start w stands)
              ∙ killed_too m n g s.instances r.world.memory x.block o
              (unkilled_at m x.block (unkilled_disowned m x.block y.unkilled)) y.start;
          beside = freed_beside g s.instances m n i x there r.frames r.world.memory;
          frames = freed_frames g s.instances m n i x there r.frames;
          keeps = freed_keeps g s.instances m n i x there;
          places = places_then s.instances ys ys m m (killed m x.block)
              (set_places s.instances m i x (freed g s.instances m n i x there) there refl refl)
              (memory_places ys m (killed m x.block)
              (λ j z f. given_kept killed_block (λ d. refl) m x.block z.block z));
          long = length-changed m x.block killed_block;
        }

    let_go_freed : (b : ℕ) (o : Offset) → began_at b o.bits x ≡ true → Frees (let_go s i x) b o
    let_go_freed b o began = subst (λ (c : ℕ). Frees (let_go s i x) c o)
        (eqb-true x.block b (and_parts (x.block == b) (x.start == o.bits) began).0)
        (subst (λ (slots : List Slot). Frees (gone slots) x.block o) (sym (r.frames.laid.slots i x there))
        (own_freed o))

    may_free : (b : ℕ) (o : Offset) → began_at b o.bits x ≡ true → (c : Bool)
        → Frees (if c then let_go s i x else s) b o
    may_free b o began true = let_go_freed b o began
    may_free b o began false = block_freed b o

  by_instance : (b : ℕ) (o : Offset) (q : Option (ℕ × Instance)) → last_where (began_at b o.bits) s.instances ≡ q
      → (u : State) → and_then (deallocated (if_let_go s q).world.memory (Value.Ptr (Pointer.At b o)))
      (λ (k : List MemoryBlock). Ok (next (with_memory (if_let_go s q) k))) ≡ Ok u
      → AreFreed (Value.Ptr (Pointer.At b o)) u
  by_instance b o None e = block_freed b o
  by_instance b o (Some (i, x)) e =
      let f = found_there s.instances (began_at b o.bits) i x e in
      may_free i x f.1 b o (last-passes (began_at b o.bits) s.instances (Some i) (sym f.0) x f.1) (may_be_freed x)

  nothing_freed : (u : State) → deallocate s (Value.Ptr Pointer.Null) ≡ Ok u → AreFreed (Value.Ptr Pointer.Null) u
  nothing_freed u e = record {
    instances = s.instances;
    memory = m;
    others = n;
    is = same_ok (next (with_memory s m)) u e;
    does = λ w stands. ap (λ (v : Value). deallocated n (address v)) stands.1;
    beside = r.world.memory;
    frames = r.frames;
    keeps = same_frames s.instances;
    places = same_places s.instances m;
    long = refl;
  }

  are_freed : (v : Value) (u : State) → deallocate s (address v) ≡ Ok u → AreFreed v u
  are_freed (Value.Ptr Pointer.Null) u e = nothing_freed u e
  are_freed (Value.Ptr (Pointer.At b o)) u e = by_instance b o (last_where (began_at b o.bits) s.instances) refl u e
  are_freed (Value.Ptr (Pointer.Func f)) u e = absurd (cc)
  are_freed (Value.Int x) u e = absurd (cc)
  are_freed Value.Poison u e = absurd (cc)

-- ---- the step

module _ (g : FramedGiven) (h : PlainGiven) (s : State) (t : PlainState) (r : AreRelated g h s t)
    (runs : s.outcome ≡ Outcome.Running) (fine : IsFine (framed_step g s).outcome) (k : IsAtDeallocator g h s t r) where
  abbrev f : Function
  f = function_of g.given s

  abbrev q : Function
  q = function_at h.code t.top.func

  abbrev i : Instr
  i = Instr.Call k.result k.must_tail k.ty (Callee.Allocator k.allocator) k.args

  abbrev vs : List Value
  vs = arg_values g.given.code s.top.values k.args

  abbrev us : List Value
  us = arg_values h.code t.top.values k.args

  copied : IsCopied r.top.shape r.top.part f q s.top.block s.top.at t.top.block t.top.at i
  copied = alone r.top.shape r.top.part f q s.top.block s.top.at t.top.block t.top.at i i
      (record { begins = not_again r.top.part i refl; cut = λ after. refl; lowered = λ n. refl }) k.place k.there

  does : framed_step g s ≡ or_undefined g.given s (deallocate s (address (nth vs 0)))
  does = framed_does g s (AtInstr i) (Deallocate (address (nth vs 0))) runs k.there refl
      (action_is (work_of s) k.result vs k.allocator k.is)

  done : (u : State) × (deallocate s (address (nth vs 0)) ≡ Ok u)
  done = fine_ok g.given s (deallocate s (address (nth vs 0)))
      (subst (λ (x : State). IsFine x.outcome) does fine)

  both : AreFreed g h s t r (nth vs 0) done.0
  both = are_freed g h s t r (nth vs 0) done.0 done.1

  abbrev work : Work
  work = record { world = record s.world { memory = both.memory }; values = s.top.values }

  abbrev work_too : Work
  work_too = set_memory (plain_work t) both.others

  theirs : plain_or_undefined h t (and_then (deallocated t.world.memory (address (nth us 0)))
      (λ (l : List MemoryBlock). Ok (plain_settled t (set_memory (plain_work t) l)))) ≡ plain_settled t work_too
  theirs = ap (λ (z : Result (List MemoryBlock) Cause). plain_or_undefined h t (and_then z
      (λ (l : List MemoryBlock). Ok (plain_settled t (set_memory (plain_work t) l)))))
      (both.does (nth us 0) (first_stands (homes_of s.world.memory) vs us (args_stand g h s t r k.args k.readable)))

  same : (a b : ℕ) → b ≡ a → a ≤ b
  same a b e = omega arith

  related : AreRelated g h (after g h s t r both.instances both.memory) (plain_settled t work_too)
  related = advanced g h s t r work work_too both.instances s.top.block (s.top.at + 1) t.top.block (t.top.at + 1)
      s.top.has_left k.settled
      (record {
        memory = both.beside;
        events = r.world.events;
        answers = r.world.answers;
        allocs = r.world.allocs;
      })
      both.frames both.keeps (same (length s.world.memory) (length both.memory) both.long)
      (subst (λ (l : ℕ). Extends (homes_of s.world.memory) (own_homes 0 l)) (sym both.long)
      (record { each = λ b e. refl }))
      (subst (λ (l : ℕ). AreValuesOf f (own_homes 0 l) s.top.values t.top.values) (sym both.long) r.top.values)
      refl refl refl (Inside s.top.mode k.settled copied.1)

  pub deallocation_followed : IsFollowed g h s t
  deallocation_followed = one_followed g h s t r runs (after g h s t r both.instances both.memory)
      (plain_settled t work_too) (does ∙ ap (or_undefined g.given s) done.1 ∙ both.is)
      (plain_does h t (AtInstr i) (Deallocate (address (nth us 0))) (r.outcome ∙ runs) copied.0
      (action_is (plain_work t) k.result us k.allocator k.is) ∙ theirs)
      (same (credit_of s) (credit_of s) refl) related
      (λ know. goes_knows g s t both.instances both.memory t.top.values
      (subst (λ (l : ℕ). Extends (homes_of s.world.memory) (own_homes 0 l)) (sym both.long)
      (record { each = λ b e. refl })) both.places know (λ frame e. refl))
