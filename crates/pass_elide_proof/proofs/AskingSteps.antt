-- An intrinsic by which both runs ask for the same leaves the states beside each other.
use Rattle.std.proofs.Common.{◌≡◌, ◌<◌, ◌≤◌, ◌+◌, ◌%◌, ◌^◌, ℕ, Bool, true, List, Option, Ok, refl, sym, ap, ◌∙◌, subst, arith}
use Rattle.std.specs.Prelude.{None, Some, option_and_then, option_map, pos, slice_get}
use Rattle.pass_elide_proof.proofs.Facts.{some_none}
use Rattle.pass_elide_proof.proofs.Grown.{have_at}
use Rattle.pass_elide_proof.proofs.MarkingSteps.{stand_on}
use Rattle.pass_elide_proof.proofs.Modules.{finds_alike}
use Rattle.pass_elide_proof.proofs.Onward.{GoesOn, SlotsStay, each_all}
use Rattle.pass_elide_proof.proofs.OrdinarySteps.{all_made}
use Rattle.pass_elide_proof.proofs.OwnPlaces.{acts, there_too}
use Rattle.pass_elide_proof.proofs.Refilled.{goes_on, mates_stay}
use Rattle.pass_elide_proof.proofs.SetNames.{keeps_top}
use Rattle.pass_elide_proof.proofs.Settled.{next_of, settles}
use Rattle.pass_elide_proof.specs.Asked.{IsAtAsking, asks_same}
use Rattle.pass_elide_proof.specs.Elision.{Elision, elided, framed}
use Rattle.pass_elide_proof.specs.Match.{AreElided, AreInstances, sides}
use Rattle.pass_elide_proof.specs.Ordinary.{HasMadeAll, IsAtOwn, StandsInFront, with_at}
use Rattle.pass_proofs.proofs.ir_laws.facts.Lists.{get_within}
use Rattle.pass_proofs.proofs.run_laws.embedded.Memories.{same_refills}
use Rattle.pass_proofs.proofs.run_laws.memory.Homes.{seen_within}
use Rattle.pass_proofs.proofs.run_laws.transfer.Muted.{muted_length}
use Rattle.pass_proofs.proofs.run_laws.transfer.Sets.{sets_result}
use Rattle.pass_proofs.specs.ir_model.Ty.{Ty}
use Rattle.pass_proofs.specs.ir_model.declared.instr.Instr.{Instr}
use Rattle.pass_proofs.specs.ir_model.declared.module.Frame.{Frame}
use Rattle.pass_proofs.specs.ir_model.declared.operand.Arg.{Arg}
use Rattle.pass_proofs.specs.ir_model.declared.operand.Callee.{Callee}
use Rattle.pass_proofs.specs.ir_model.declared.operand.Intrinsic.{Intrinsic}
use Rattle.pass_proofs.specs.run_framed.Framed.{framed_act, framed_context, framed_step}
use Rattle.pass_proofs.specs.run_laws.memory.Pointers.{Home, IsValue, home_of}
use Rattle.pass_proofs.specs.run_laws.transfer.Muted.{muted}
use Rattle.pass_proofs.specs.run_laws.transfer.Transfer.{AreSet, given_at}
use Rattle.pass_proofs.specs.run_memory.declared.pointer.Pointer.{Pointer}
use Rattle.pass_proofs.specs.run_memory.declared.pointer.Value.{Value}
use Rattle.pass_proofs.specs.run_source.Source.{frame_address}
use Rattle.pass_proofs.specs.run_source.State.{frame_address_of, gives, next, numbered, own_frame, own_instance, work_of}
use Rattle.pass_proofs.specs.run_source.declared.state.Instance.{Instance}
use Rattle.pass_proofs.specs.run_source.declared.state.State.{State}
use Rattle.pass_proofs.specs.run_source_tables.Given.{frame_of}
use Rattle.pass_proofs.specs.run_step.Step.{AtInstr, Coro, action_of, set_result}
use Rattle.pass_proofs.specs.run_step.Values.{integer, with_result}

-- ---- values that both are given

module _ (e : Elision) (s t : State) (n : ℕ) (r : AreElided e s (with_at t n)) (i : Instr) (own : IsAtOwn e s t i)
    (made : HasMadeAll e s (with_at t n) r) (result : Option ℕ) (sets : given_at (AtInstr i) ≡ result)
    (v w : Value) (stands : IsValue r.homes v w) where
  set : AreSet r.homes (given_at (AtInstr i)) s.top.values t.top.values (with_result s.top.values result v)
      (with_result t.top.values result w)
  set =
      subst (λ (o : Option ℕ). AreSet r.homes o s.top.values t.top.values (with_result s.top.values result v)
      (with_result t.top.values result w)) (sym sets)
      (sets_result r.homes s.top.values t.top.values r.top.values.room result v w stands)

  on : GoesOn (sides s t) s.world.memory t.world.memory r.homes r.homes r.hides r.hides
  on =
      goes_on (sides s t) s.world.memory t.world.memory r.homes r.hides (same_refills s.world.memory)
      (same_refills t.world.memory) (λ b h. refl) (λ b h. refl)

  pub given_beside : AreElided e (gives s result v) (gives t result w)
  given_beside =
      settles e s t n r made (set_result (work_of s) result v) (set_result (work_of t) result w) r.homes r.hides on
      (next_of s.top) (next_of t.top)
      (keeps_top e s t n r i own r.homes on.extends (with_result s.top.values result v)
      (with_result t.top.values result w) set)
      r.world r.known r.hidden
      (mates_stay (sides s t) s.world.memory t.world.memory r.homes r.hides (same_refills s.world.memory)
      (same_refills t.world.memory) (λ b h. refl) (λ b h. refl) r.mates)
      (each_all (SlotsStay e (sides s t) s.world.memory t.world.memory r.homes r.homes r.hides r.hides on) (λ a. refl)
      s.below)
      (λ more h. h) s.top.slots t.top.slots r.top.slots

-- ---- frames' addresses

module _ (e : Elision) (s t : State) (n : ℕ) (r : AreElided e s (with_at t n)) where
  -- a frame of the elided run starts within 64 bits
  near : (x y : Instance) → AreInstances e r.homes t.world.memory x y → y.start < 2 ^ 64
  near x y h =
      let seen : (home_of r.homes x.block).is_seen ≡ true = ap (λ (q : Home). q.is_seen) h.home in
      let lt = seen_within r.homes x.block seen in
      let known = r.known in
      let many = muted_length r.hides s.world.memory in
      let z = have_at (muted r.hides s.world.memory) x.block (omega (arith, lt, known, many)) in
      let at = r.world.bounds.each x.block z.0 seen z.1 in
      let fits = at.fits in
      let small = at.small in
      let off : (home_of r.homes x.block).offset ≡ y.start = ap (λ (q : Home). q.offset) h.home in
      below_size y.start (home_of r.homes x.block).offset (z.0).size at.block.size off fits small
    where
      below_size : (a b c k : ℕ) → b ≡ a → b + c ≤ k → k < 2 ^ 64 → a < 2 ^ 64
      below_size a b c k e le lt = omega (arith, e, le, lt)

  address_stands : (x y : Instance) → AreInstances e r.homes t.world.memory x y
      → IsValue r.homes (frame_address_of x) (frame_address_of y)
  address_stands x y h =
      let lt = near x y h in
      let same : (0 + y.start) % 2 ^ 64 ≡ y.start = omega (arith, lt) in (
        ap (λ (q : Home). q.is_seen) h.home,
        sym (ap (λ (q : Home). Value.Ptr (Pointer.At q.block (record { bits = (x.start + q.offset) % 2 ^ 64 }))) h.home
            ∙ (ap (λ (k : ℕ). Value.Ptr (Pointer.At y.block (record { bits = (k + y.start) % 2 ^ 64 }))) h.whole
            ∙ ap (λ (k : ℕ). Value.Ptr (Pointer.At y.block (record { bits = k }))) same)),
      )

  frames_by : (i : ℕ) (o p : Option Instance) → slice_get s.instances i ≡ o → slice_get t.instances i ≡ p
      → IsValue r.homes (frame_address (option_map (λ (x : Instance). (i, x)) o))
      (frame_address (option_map (λ (x : Instance). (i, x)) p))
  frames_by i None p at to = tt
  frames_by i (Some x) None at to =
      let lt = get_within s.instances i x at in
      let many = r.count in
      let y = have_at t.instances i (omega (arith, lt, many)) in
      absurd (some_none (slice_get t.instances i) y.0 y.1 to)
  frames_by i (Some x) (Some y) at to = address_stands x y (r.instances i x y at to)

  frames_stand : (o : Option ℕ)
      → IsValue r.homes (frame_address (option_and_then (numbered s.instances) o))
      (frame_address (option_and_then (numbered t.instances) o))
  frames_stand None = tt
  frames_stand (Some i) = frames_by i (slice_get s.instances i) (slice_get t.instances i) refl refl

  -- the addresses of the frames of both topmost activations
  pub own_frames_stand : IsValue r.homes (frame_address (own_instance s)) (frame_address (own_instance t))
  own_frames_stand =
      subst (λ (o : Option ℕ). IsValue r.homes (frame_address (own_instance s))
      (frame_address (option_and_then (numbered t.instances) o))) (sym r.top.instance) (frames_stand s.top.instance)

-- ---- the step

module _ (e : Elision) (s t : State) (n : ℕ) (r : AreElided e s (with_at t n)) (made : HasMadeAll e s (with_at t n) r)
    (result : Option ℕ) (must_tail : Bool) (ty : Option Ty) (args : List Arg) where
  abbrev call : Intrinsic → Instr
  call j = Instr.Call result must_tail ty (Callee.Intrinsic j) args

  abbrev At : Intrinsic → Type 0
  At j = IsAtAsking e s t j result must_tail ty args

  abbrev Goes : Type 0
  Goes = AreElided e (framed_step (framed e) s) (framed_step (elided e) t)

  -- what both do
  by_acts : (j : Intrinsic) (u v : State) → IsAtOwn e s t (call j)
      → action_of (framed_context (framed e) s) (work_of s) (AtInstr (call j)) ≡ Coro j args result
      → action_of (framed_context (elided e) t) (work_of t) (AtInstr (call j)) ≡ Coro j args result
      → framed_act (framed e) s (Coro j args result) ≡ Ok u → framed_act (elided e) t (Coro j args result) ≡ Ok v
      → AreElided e u v → Goes
  by_acts j u v own first second ours theirs h =
      let one : framed_step (framed e) s ≡ u
      = acts (framed e) s u (call j) (Coro j args result) own.runs own.there own.no_ramp first ours in
      let two : framed_step (elided e) t ≡ v
      = acts (elided e) t v (call j) (Coro j args result) (r.outcome ∙ own.runs)
      (there_too e s t (call j) own r.top.func) (λ m is. (finds_alike e).ramps m ∙ own.no_ramp m is) second theirs in
      subst (λ (p : State × State). AreElided e p.0 p.1) (λ k. (sym one k, sym two k)) h

  -- both give the same number
  by_number : (j : Intrinsic) → IsAtOwn e s t (call j)
      → action_of (framed_context (framed e) s) (work_of s) (AtInstr (call j)) ≡ Coro j args result
      → action_of (framed_context (elided e) t) (work_of t) (AtInstr (call j)) ≡ Coro j args result
      → given_at (AtInstr (call j)) ≡ result → (w : ℕ) (of : Frame → ℕ)
      → framed_act (framed e) s (Coro j args result)
      ≡ Ok (gives s result (integer w (pos (of (own_frame (framed e).given s)))))
      → framed_act (elided e) t (Coro j args result)
      ≡ Ok (gives t result (integer w (pos (of (own_frame (elided e).given t)))))
      → Goes
  by_number j own first second sets w of ours theirs =
      let same : own_frame (elided e).given t ≡ own_frame (framed e).given s
      = ap (frame_of (framed e).given.sizes) r.top.func in
      by_acts j (gives s result (integer w (pos (of (own_frame (framed e).given s)))))
      (gives t result (integer w (pos (of (own_frame (elided e).given t))))) own first second ours theirs
      (given_beside e s t n r (call j) own made result sets (integer w (pos (of (own_frame (framed e).given s))))
      (integer w (pos (of (own_frame (elided e).given t)))) (ap (λ (x : Frame). integer w (pos (of x))) same))

  pub asking_goes : (j : Intrinsic) → asks_same j ≡ true → IsAtOwn e s t (call j) → Goes
  asking_goes Intrinsic.CoroId h own =
      by_acts Intrinsic.CoroId (next s) (next t) own refl refl refl refl
      (stand_on e s t n r (call Intrinsic.CoroId) own made refl)
  asking_goes Intrinsic.CoroSizeI32 h own =
      by_number Intrinsic.CoroSizeI32 own refl refl refl 32 (λ (x : Frame). x.size) refl refl
  asking_goes Intrinsic.CoroSizeI64 h own =
      by_number Intrinsic.CoroSizeI64 own refl refl refl 64 (λ (x : Frame). x.size) refl refl
  asking_goes Intrinsic.CoroAlignI32 h own =
      by_number Intrinsic.CoroAlignI32 own refl refl refl 32 (λ (x : Frame). x.align) refl refl
  asking_goes Intrinsic.CoroAlignI64 h own =
      by_number Intrinsic.CoroAlignI64 own refl refl refl 64 (λ (x : Frame). x.align) refl refl
  asking_goes Intrinsic.CoroFrame h own =
      by_acts Intrinsic.CoroFrame (gives s result (frame_address (own_instance s)))
      (gives t result (frame_address (own_instance t))) own refl refl refl refl
      (given_beside e s t n r (call Intrinsic.CoroFrame) own made result refl (frame_address (own_instance s))
      (frame_address (own_instance t)) (own_frames_stand e s t n r))
  asking_goes Intrinsic.CoroAlloc h own = absurd (cc)
  asking_goes Intrinsic.CoroBegin h own = absurd (cc)
  asking_goes Intrinsic.CoroFree h own = absurd (cc)
  asking_goes Intrinsic.CoroSave h own = absurd (cc)
  asking_goes Intrinsic.CoroSuspend h own = absurd (cc)
  asking_goes Intrinsic.CoroEnd h own = absurd (cc)
  asking_goes Intrinsic.CoroResume h own = absurd (cc)
  asking_goes Intrinsic.CoroDestroy h own = absurd (cc)
  asking_goes Intrinsic.CoroDone h own = absurd (cc)
  asking_goes Intrinsic.CoroPromise h own = absurd (cc)
  asking_goes Intrinsic.LifetimeStart h own = absurd (cc)
  asking_goes Intrinsic.LifetimeEnd h own = absurd (cc)
  asking_goes Intrinsic.MemcpyI64 h own = absurd (cc)
  asking_goes Intrinsic.MemcpyI32 h own = absurd (cc)

pub asked_stay_beside : (e : Elision) (s t : State) (j : Intrinsic) (result : Option ℕ) (must_tail : Bool)
    (ty : Option Ty) (args : List Arg) → AreElided e s t → StandsInFront e s t
    → IsAtAsking e s t j result must_tail ty args
    → AreElided e (framed_step (framed e) s) (framed_step (elided e) t)
asked_stay_beside e s t j result must_tail ty args r front at =
    asking_goes e s t t.top.at r
    (all_made e s t r front (Instr.Call result must_tail ty (Callee.Intrinsic j) args) at.own) result must_tail ty
    args j at.asks at.own
