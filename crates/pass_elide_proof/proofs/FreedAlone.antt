-- The first run frees the frame of its instance, which was given in the second one.
use Rattle.std.proofs.Common.{◌≡◌, ◌+◌, ◌<◌, ⊎_elim, ℕ, zero, suc, Bool, true, false, List, [], ◌∷◌, length, not, Ok, Err, Result, refl, sym, ap, ◌∙◌, subst, arith, ◌&&◌, ◌||◌, ◌==◌}
use Rattle.std.proofs.lemmas.List.{length-set}
use Rattle.std.specs.Option.{option_map_or}
use Rattle.std.specs.Prelude.{None, Option, Some, if◌then◌else◌, slice_get, slice_set}
use Rattle.elide_shape.specs.Calls.{deals}
use Rattle.elide_shape.specs.declared.calls.Dealing.{Dealing}
use Rattle.pass_elide_proof.proofs.EdgeBare.{gone, held_same}
use Rattle.pass_elide_proof.proofs.FrameDies.{IsDeadIn, IsGivenFrame, disowned_dies, frame_dies, killed_dies}
use Rattle.pass_elide_proof.proofs.FramesStay.{beside_in, instances_change}
use Rattle.pass_elide_proof.proofs.LastFound.{began_in, found_there}
use Rattle.pass_elide_proof.proofs.LeftWindows.{there_is}
use Rattle.pass_elide_proof.proofs.Sized.{stepped}
use Rattle.pass_elide_proof.proofs.TopMoved.{SameHeld}
use Rattle.pass_elide_proof.specs.Elision.{Elision, elided, framed}
use Rattle.pass_elide_proof.specs.Ending.{FreesGiven}
use Rattle.pass_elide_proof.specs.Match.{AreElided, AreInstances, IsAt, IsFreedAs, held_name, instance_in, is_given_mode, sides, was_given}
use Rattle.pass_proofs.proofs.ir_laws.facts.Lists.{get_within, set_at}
use Rattle.pass_proofs.specs.ir_base.declared.cause.Cause.{Cause}
use Rattle.pass_proofs.specs.ir_model.Ty.{Ty, ptr}
use Rattle.pass_proofs.specs.ir_model.declared.instr.Instr.{Instr}
use Rattle.pass_proofs.specs.ir_model.declared.module.Module.{Module}
use Rattle.pass_proofs.specs.ir_model.declared.operand.Allocator.{Allocator}
use Rattle.pass_proofs.specs.ir_model.declared.operand.Arg.{Arg}
use Rattle.pass_proofs.specs.ir_model.declared.operand.Callee.{Callee}
use Rattle.pass_proofs.specs.ir_model.declared.operand.Operand.{Operand}
use Rattle.pass_proofs.specs.ir_paths.Windows.{operand_at}
use Rattle.pass_proofs.specs.run_framed.Framed.{FramedGiven, framed_next, framed_step, is_given, is_stack_block}
use Rattle.pass_proofs.specs.run_laws.memory.Pointers.{Home, home_of}
use Rattle.pass_proofs.specs.run_memory.Memory.{disown, is_owned, is_unkilled, killed}
use Rattle.pass_proofs.specs.run_memory.declared.block.Kind.{Kind}
use Rattle.pass_proofs.specs.run_memory.declared.block.MemoryBlock.{MemoryBlock}
use Rattle.pass_proofs.specs.run_memory.declared.pointer.Offset.{Offset}
use Rattle.pass_proofs.specs.run_memory.declared.pointer.Pointer.{Pointer}
use Rattle.pass_proofs.specs.run_memory.declared.pointer.Value.{Value}
use Rattle.pass_proofs.specs.run_source.Source.{deallocate, if_let_go, let_go, may_be_freed}
use Rattle.pass_proofs.specs.run_source.State.{address_in, began_at, frame_address_of, instance_at, last_where, next, with_memory}
use Rattle.pass_proofs.specs.run_source.declared.state.Instance.{Instance}
use Rattle.pass_proofs.specs.run_source.declared.state.State.{State}
use Rattle.pass_proofs.specs.run_step.Results.{and_then}
use Rattle.pass_proofs.specs.run_step.Step.{AtInstr, Fetched, deallocated, without_slots}
use Rattle.pass_proofs.specs.run_step.Values.{Env, address, arg_values, nth, operand_value, value_in}
use Rattle.pass_proofs.specs.run_step.declared.world.Slot.{Slot}
use Rattle.run_access_worked.proofs.Ended.{set_frames}
use Rattle.run_access_worked.specs.Frames.{AreSameFrames}

-- ---- the call

pub first_value : (m : Module) (env : Env) (args : List Arg) (name : ℕ) → operand_at args 0 ≡ Operand.Local name
    → nth (arg_values m env args) 0 ≡ value_in env name
first_value m env [] name h = absurd (cc)
first_value m env (x ∷ args) name h = ap (operand_value m env x.ty) h

abbrev pub at_call : Allocator → Option ℕ → Bool → Option Ty → List Arg → Fetched
at_call a result must_tail ty args = AtInstr (Instr.Call result must_tail ty (Callee.Allocator a) args)

-- a deallocator's call deallocates its first argument
pub deallocates : (g : FramedGiven) (s : State) (a : Allocator) (result : Option ℕ) (must_tail : Bool)
    (ty : Option Ty) (args : List Arg) → deals Dealing.Frees a ≡ true
    → framed_next g s (at_call a result must_tail ty args)
    ≡ deallocate s (address (nth (arg_values g.given.code s.top.values args) 0))
deallocates g s Allocator.Free result must_tail ty args h = refl
deallocates g s Allocator.ZdlPv result must_tail ty args h = refl
deallocates g s Allocator.ZdlPvm result must_tail ty args h = refl
deallocates g s Allocator.Malloc result must_tail ty args h = absurd (cc)
deallocates g s Allocator.Znwm result must_tail ty args h = absurd (cc)

abbrev gives_state : State → Result State Cause
gives_state a = Ok a

ok_is : (a b : State) → gives_state a ≡ gives_state b → a ≡ b
ok_is a b e = cc

-- a block that is deallocated is killed
abbrev killed_if : (start owned : Bool) → List MemoryBlock → ℕ → Result (List MemoryBlock) Cause
killed_if start owned m b = if not start then Err Cause.Free else if owned then Err Cause.Owned else Ok (killed m b)

pub goes_by : (s : State) (b : ℕ) (o : Offset) (after : State)
    → and_then (deallocated s.world.memory (Value.Ptr (Pointer.At b o))) (λ memory. Ok (next (with_memory s memory)))
    ≡ Ok after → next (with_memory s (killed s.world.memory b)) ≡ after
goes_by s b o after e =
    on ((o.bits == 0) && is_unkilled Kind.Allocator (slice_get s.world.memory b))
    (is_owned (slice_get s.world.memory b)) e
  where
    on : (p q : Bool)
        → and_then (killed_if p q s.world.memory b) (λ memory. Ok (next (with_memory s memory))) ≡ Ok after
        → next (with_memory s (killed s.world.memory b)) ≡ after
    on true false e = ok_is (next (with_memory s (killed s.world.memory b))) after e
    on true true e = absurd (cc)
    on false q e = absurd (cc)

-- ---- instances

pub own_number : (xs : List Instance) (o : Option ℕ) (y : Instance) → instance_in xs o ≡ Some y
    → (n : ℕ) × (o ≡ Some n) × (slice_get xs n ≡ Some y)
own_number xs None y h = absurd (cc)
own_number xs (Some n) y h = (n, refl, h)

pub all_same : (xs : List Instance) → AreSameFrames xs xs
all_same [] = tt
all_same (x ∷ xs) = (record { coroutine = refl; block = refl; start = refl }, all_same xs)

-- one that passes a test
passing_one : (test : Instance → Bool) (o : Option Instance) → option_map_or test o false ≡ true
    → (y : Instance) × (o ≡ Some y) × (test y ≡ true)
passing_one test None h = absurd (cc)
passing_one test (Some y) h = (y, refl, h)

-- ---- the step

module _ (e : Elision) (s t : State) (a : Allocator) (result : Option ℕ) (must_tail : Bool) (ty : Option Ty)
    (args : List Arg) (r : AreElided e s t) (at : FreesGiven e s t a result must_tail ty args) where
  abbrev n : List MemoryBlock
  n = t.world.memory

  -- the instance was given its frame
  was_here : (mode : Bool) → option_map_or (is_given n) (instance_in t.instances t.top.instance) false ≡ true
      → (if mode then true else option_map_or (is_given n) (instance_in t.instances t.top.instance) false) ≡ true
  was_here true h = refl
  was_here false h = h

  pub was : was_given (sides s t) t.top ≡ true
  was = was_here (is_given_mode t.top.mode) at.given

  theirs : (z : Instance) × (instance_in t.instances t.top.instance ≡ Some z) × (is_given n z ≡ true)
  theirs = passing_one (is_given n) (instance_in t.instances t.top.instance) at.given

  abbrev z : Instance
  z = theirs.0

  pub steps : framed_step (framed e) s ≡ at.after
  steps =
      stepped (framed e) s at.after (at_call a result must_tail ty args) at.runs at.there
      (deallocates (framed e) s a result must_tail ty args at.frees
      ∙ (ap (λ (v : Value). deallocate s (address v)) (first_value e.code s.top.values args at.name at.takes)
      ∙ at.goes))

  module _ (y : Instance) (own : instance_in s.instances s.top.instance ≡ Some y)
      (is : value_in s.top.values at.name ≡ frame_address_of y) where
    abbrev b : ℕ
    b = y.block

    number : (i : ℕ) × (s.top.instance ≡ Some i) × (slice_get s.instances i ≡ Some y)
    number = own_number s.instances s.top.instance y own

    there : slice_get t.instances number.0 ≡ Some z
    there = ap (instance_in t.instances) (sym (r.top.instance ∙ number.1)) ∙ theirs.1

    home : home_of r.homes b ≡ record { block = z.block; offset = z.start; is_seen = true }
    home = (r.instances number.0 y z number.2 there).home

    -- so was each whose frame is in the same block
    given_too : (j : ℕ) (x w : Instance) → slice_get s.instances j ≡ Some x → slice_get t.instances j ≡ Some w
        → x.block ≡ b → is_given n w ≡ true
    given_too j x w here beside same =
        ap (λ (q : Home). is_stack_block n q.block || not (q.offset == 0))
        (sym (r.instances j x w here beside).home ∙ (ap (home_of r.homes) same ∙ home)) ∙ theirs.2

    freed_too : (x w : Instance) → is_given n w ≡ true → IsFreedAs n x w (is_given n w)
        → IsFreedAs n (record x { freed = true }) w (is_given n w)
    freed_too x w given old =
        subst (λ (c : Bool). IsFreedAs n (record x { freed = true }) w c) (sym given)
        (subst (λ (c : Bool). IsFreedAs n x w c) given old)

    freed_there : (j : ℕ) (x w : Instance) → slice_get s.instances j ≡ Some x → slice_get t.instances j ≡ Some w
        → x.block ≡ b → AreInstances e r.homes n (record x { freed = true }) w
    freed_there j x w here beside same =
        let old = r.instances j x w here beside in
        record {
          coroutine = old.coroutine;
          whole = old.whole;
          home = old.home;
          status = old.status;
          last_save = old.last_save;
          released = old.released;
          freed = freed_too x w (given_too j x w here beside same) old.freed;
          slots = old.slots;
          no_slots = old.no_slots;
        }

    module _ (other to : ℕ) (place : (homes : List Home) → IsAt e homes (was_given (sides s t) t.top)
        (record s.top { block = s.top.block; at = s.top.at + 1 }) (record t.top { block = other; at = to })) where
      abbrev t' : State
      t' = record t { top = record t.top { block = other; at = to } }

      held : (mode : Bool) → SameHeld s.top.values s.top.values (held_name e mode s.top)
          (held_name e mode (record s.top { block = s.top.block; at = s.top.at + 1 }))
      held true =
          held_same s.top.values ((e.shape s.top.func).holds s.top.block s.top.at)
          ((e.shape s.top.func).holds s.top.block (s.top.at + 1)) at.holds
      held false = tt

      -- with other instances in the first run, and a memory in which the block is dead
      left : (xs : List Instance) (m : List MemoryBlock) → AreSameFrames s.instances xs
          → length t.instances ≡ length xs
          → ((i : ℕ) (x w : Instance) → slice_get xs i ≡ Some x → slice_get t.instances i ≡ Some w
          → AreInstances e r.homes n x w) → IsDeadIn s.world.memory m b
          → AreElided e (next (with_memory (record s { instances = xs }) m)) t'
      left xs m first count each dead =
          let u = record s { instances = xs } in
          let p = beside_in s.instances xs first number.0 y number.2 in
          let frame : IsGivenFrame (sides u t) b
          = record {
            number = number.0;
            first = p.beside;
            second = z;
            there = p.there;
            beside = there;
            given = theirs.2;
            block = p.same.block;
          } in
          gone e (with_memory u m) t
          (frame_dies e u t (instances_change e s t r xs t.instances first (all_same t.instances) count each) m b frame
          dead) at.none s.top.block (s.top.at + 1) other to (place _) (held (is_given_mode t.top.mode))

      -- an instance lets it go
      lets_go : (j : ℕ) (x : Instance) → slice_get s.instances j ≡ Some x → x.block ≡ b
          → AreElided e (next (with_memory (let_go s j x) (killed (let_go s j x).world.memory b))) t'
      lets_go j x here same =
          let w = there_is t.instances j (within j x here) in
          let old = r.instances j x w.0 here w.1 in
          subst (λ (m : List MemoryBlock). AreElided e (next (with_memory (let_go s j x) (killed m b))) t')
          (λ i. disown (without_slots s.world.memory (sym old.slots i)) (sym same i))
          (left (slice_set s.instances j (record x { freed = true })) (killed (disown s.world.memory b) b)
          (set_frames s.instances j x (record x { freed = true }) here
          (record { coroutine = refl; block = refl; start = refl }))
          (r.count ∙ sym (length-set s.instances j (record x { freed = true }))) (each j x here same)
          (disowned_dies s.world.memory b))
        where
          within : (j : ℕ) (x : Instance) → slice_get s.instances j ≡ Some x → j < length t.instances
          within j x here =
              let lt = get_within s.instances j x here in
              let count = r.count in
              omega (arith, lt, count)

          each : (j : ℕ) (x : Instance) → slice_get s.instances j ≡ Some x → x.block ≡ b → (i : ℕ) (y w : Instance)
              → slice_get (slice_set s.instances j (record x { freed = true })) i ≡ Some y
              → slice_get t.instances i ≡ Some w → AreInstances e r.homes n y w
          each j x here same i y w now beside =
              ⊎_elim
              (λ is.
              subst (λ (q : Instance). AreInstances e r.homes n q w) (sym is.1)
              (freed_there j x w here (ap (slice_get t.instances) (sym is.0) ∙ beside) same))
              (λ old. r.instances i y w old beside) (set_at s.instances j (record x { freed = true }) i y now)

      stays : AreElided e (next (with_memory s (killed s.world.memory b))) t'
      stays =
          left s.instances (killed s.world.memory b) (all_same s.instances) r.count r.instances
          (killed_dies s.world.memory b)

      abbrev o : Offset
      o = record { bits = y.start }

      abbrev frees_by : Option (ℕ × Instance) → Result State Cause
      frees_by q =
          and_then (deallocated (if_let_go s q).world.memory (Value.Ptr (Pointer.At b o)))
          (λ memory. Ok (next (with_memory (if_let_go s q) memory)))

      by_test : (j : ℕ) (x : Instance) → slice_get s.instances j ≡ Some x → x.block ≡ b → (may : Bool)
          → may_be_freed x ≡ may → frees_by (Some (j, x)) ≡ Ok at.after → AreElided e at.after t'
      by_test j x here same true may goes =
          let is : if_let_go s (Some (j, x)) ≡ let_go s j x = ap (λ (c : Bool). if c then let_go s j x else s) may in
          subst (λ (v : State). AreElided e v t')
          (goes_by (let_go s j x) b o at.after
          (ap (λ (v : State). and_then (deallocated v.world.memory (Value.Ptr (Pointer.At b o)))
          (λ memory. Ok (next (with_memory v memory)))) (sym is) ∙ goes)) (lets_go j x here same)
      by_test j x here same false may goes =
          let is : if_let_go s (Some (j, x)) ≡ s = ap (λ (c : Bool). if c then let_go s j x else s) may in
          subst (λ (v : State). AreElided e v t')
          (goes_by s b o at.after
          (ap (λ (v : State). and_then (deallocated v.world.memory (Value.Ptr (Pointer.At b o)))
          (λ memory. Ok (next (with_memory v memory)))) (sym is) ∙ goes)) stays

      by_instance : (q : Option (ℕ × Instance)) → instance_at s.instances (Value.Ptr (Pointer.At b o)) ≡ q
          → frees_by q ≡ Ok at.after → AreElided e at.after t'
      by_instance None found goes = subst (λ (v : State). AreElided e v t') (goes_by s b o at.after goes) stays
      by_instance (Some p) found goes =
          let q = found_there (began_at b y.start) s.instances p found in
          by_test p.0 p.1 q.0 (began_in b y.start p.1 q.1) (may_be_freed p.1) refl goes

      freed : AreElided e at.after t'
      freed =
          by_instance (instance_at s.instances (Value.Ptr (Pointer.At b o))) refl
          (ap (λ (v : Value). deallocate s (address v)) (sym is) ∙ at.goes)

  poison_frees : value_in s.top.values at.name ≡ Value.Poison → ⊥
  poison_frees none =
      let goes : deallocate s (address Value.Poison) ≡ Ok at.after
      = ap (λ (v : Value). deallocate s (address v)) (sym none) ∙ at.goes in
      absurd (cc)

  -- the second run's name is null
  pub null_there : value_in t.top.values at.name ≡ Value.Ptr Pointer.Null
  null_there =
      ⊎_elim (λ none. absurd (poison_frees none)) (λ both. both.0)
      ((r.top.released was).freed at.name at.is_freed)

  -- the second run's topmost activation is at a place beside that behind the call
  pub frees_alone : (other to : ℕ)
      → ((homes : List Home) → IsAt e homes (was_given (sides s t) t.top)
      (record s.top { block = s.top.block; at = s.top.at + 1 }) (record t.top { block = other; at = to }))
      → AreElided e (framed_step (framed e) s) (record t { top = record t.top { block = other; at = to } })
  frees_alone other to place =
      subst (λ (v : State). AreElided e v (record t { top = record t.top { block = other; at = to } })) (sym steps)
      (⊎_elim (λ none. absurd (poison_frees none))
      (λ both. freed both.1.0 both.1.1 both.1.2 other to place)
      ((r.top.released was).freed at.name at.is_freed))
