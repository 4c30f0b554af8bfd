-- One step of the framed run, and what the run that gives frames does beside it: by the kind of the place.
use Rattle.std.specs.Prelude.{◌≡◌, ◌+◌, ◌⊎◌, ℕ, Bool, List, [], Option, Some, length, slice_get}
use Rattle.pass_elide_proof.specs.Again.{IsAtAllocaAgain, IsAtLastAlloca}
use Rattle.pass_elide_proof.specs.Allocating.{IsAtAllocation}
use Rattle.pass_elide_proof.specs.Asides.{IsAtAddresses, IsAtLoads}
use Rattle.pass_elide_proof.specs.Asked.{IsAtAsking}
use Rattle.pass_elide_proof.specs.Beginning.{IsAtBegin, IsAtGivenBegin}
use Rattle.pass_elide_proof.specs.Both.{IsAtConstant, IsAtAsking as AsksForMemory, standing_at}
use Rattle.pass_elide_proof.specs.Calling.{AreReady, IsAtCall, IsAtFront, IsAtSite, IsBehindFront}
use Rattle.pass_elide_proof.specs.Edges.{IsAtEdge, IsAtMeeting, at_itself}
use Rattle.pass_elide_proof.specs.EdgesAsking.{IsAtQuestion, IsAtWayOn}
use Rattle.pass_elide_proof.specs.EdgesFreeing.{FreesAside, FreesFrame, IsAtFreed, IsAtTest}
use Rattle.pass_elide_proof.specs.EdgesLeaving.{IsAtExit}
use Rattle.pass_elide_proof.specs.Elision.{Elision, elided, framed, function_in, rooms}
use Rattle.pass_elide_proof.specs.Ending.{IsAtFree, IsAtFreeBeside, IsAtFreeOfNull, IsAtPassed}
use Rattle.pass_elide_proof.specs.Ends.{IsAtEarlyEnd, IsAtRampEnd, IsAtResumedEnd}
use Rattle.pass_elide_proof.specs.Frees.{IsAtFree as AsksToFree}
use Rattle.pass_elide_proof.specs.Invariant.{HaveCallers}
use Rattle.pass_elide_proof.specs.Looking.{IsAtDone, IsAtPromise}
use Rattle.pass_elide_proof.specs.Making.{IsAtAlloca, IsAtAllocator}
use Rattle.pass_elide_proof.specs.Marking.{IsAtDeallocation, IsAtMarker}
use Rattle.pass_elide_proof.specs.Match.{AreElided, AreMadeAlike}
use Rattle.pass_elide_proof.specs.NullTests.{IsAtNullTest}
use Rattle.pass_elide_proof.specs.Ordinary.{IsAtOrdinary}
use Rattle.pass_elide_proof.specs.Places.{allocas_ahead, front_at, instrs_of}
use Rattle.pass_elide_proof.specs.Returning.{GoesOnBehind, HaveReturned, IsAtLeftEnd, IsAtReturn, LeadsBack, ReturnsTo}
use Rattle.pass_elide_proof.specs.Saves.{IsAtSave, IsAtSuspend}
use Rattle.pass_elide_proof.specs.Shapes.{AsksForFrame}
use Rattle.pass_elide_proof.specs.Sizes.{IsAtMade, IsAtSize}
use Rattle.pass_elide_proof.specs.Waking.{IsAtWaking}
use Rattle.pass_proofs.specs.ir_model.declared.operand.Allocator.{Allocator}
use Rattle.pass_proofs.specs.ir_base.declared.ops.Pred.{Pred}
use Rattle.pass_proofs.specs.ir_model.Ty.{Ty}
use Rattle.pass_proofs.specs.ir_model.declared.instr.Instr.{Instr}
use Rattle.pass_proofs.specs.ir_model.declared.operand.Arg.{Arg}
use Rattle.pass_proofs.specs.ir_model.declared.operand.Intrinsic.{Intrinsic}
use Rattle.pass_proofs.specs.ir_model.declared.operand.Operand.{Operand}
use Rattle.pass_proofs.specs.ir_paths.declared.point.Point.{Point}
use Rattle.pass_proofs.specs.run_agreement.Machines.{iterate}
use Rattle.pass_proofs.specs.run_framed.Framed.{framed_step}
use Rattle.pass_proofs.specs.run_memory.declared.block.MemoryBlock.{MemoryBlock}
use Rattle.pass_proofs.specs.run_memory.declared.pointer.Value.{Value}
use Rattle.pass_proofs.specs.run_source.declared.state.State.{State}
use Rattle.pass_proofs.specs.run_step.Step.{Work}

-- ---- what is to be shown of a step

-- the states are beside each other, or both runs are over and have shown the same
abbrev pub AreBesideOrOver : Elision → State → State → Type 0
AreBesideOrOver e s t = AreElided e s t ⊎ HaveReturned s t

-- ---- kinds of places

-- The second run stays where it is: while the first asks for its frame and allocates, or frees it.
pub data IsWaitedFor (e : Elision) (s t : State) : Type 0 where
  Size : (i : Intrinsic) (result : Option ℕ) (must_tail : Bool) (ty : Option Ty) (args : List Arg)
      → IsAtSize e s t i result must_tail ty args → IsWaitedFor e s t
  Allocation : (a : Allocator) (result : ℕ) (must_tail : Bool) (ty : Option Ty) (args : List Arg)
      → IsAtAllocation e s t a result must_tail ty args → IsWaitedFor e s t
  Made : (result : Option ℕ) (w : Value) (i : Instr)
      → slice_get (instrs_of (function_in e s.top.func) s.top.block) s.top.at ≡ Some i
      → IsAtMade e s t result w → IsWaitedFor e s t
  Question : (k : AsksForFrame (function_in e s.top.func) (e.shape s.top.func)) (label : ℕ)
      → IsAtQuestion e s t k label → IsWaitedFor e s t
  Test : (k : FreesFrame (function_in e s.top.func) (e.shape s.top.func)) (label : ℕ) → IsAtTest e s t k label
      → IsWaitedFor e s t
  Free : (a : Allocator) (result : Option ℕ) (must_tail : Bool) (ty : Option Ty) (args : List Arg)
      → IsAtFree e s t a result must_tail ty args → IsWaitedFor e s t
  Passed : (result : Option ℕ) (w : Value) (i : Instr)
      → slice_get (instrs_of (function_in e s.top.func) s.top.block) s.top.at ≡ Some i
      → IsAtPassed e s t result w → IsWaitedFor e s t

-- Both runs go on, in functions before whose places nothing is put.
pub data IsAccompanied (e : Elision) (s t : State) (r : AreElided e s t) : Type 0 where
  Constant : (i : Intrinsic) (result : Option ℕ) (must_tail : Bool) (ty : Option Ty) (args : List Arg)
      → IsAtConstant e s t i result must_tail ty args → IsAccompanied e s t r
  Memory : (result : Option ℕ) (must_tail : Bool) (ty : Option Ty) (args : List Arg)
      → AsksForMemory e s t result must_tail ty args → IsAccompanied e s t r
  Begin : (result : Option ℕ) (must_tail : Bool) (ty : Option Ty) (args : List Arg)
      → IsAtBegin e s t result must_tail ty args → IsAccompanied e s t r
  GivenBegin : (result : Option ℕ) (must_tail : Bool) (ty : Option Ty) (args : List Arg)
      → IsAtGivenBegin e s t r result must_tail ty args → IsAccompanied e s t r
  Freeing : (result : Option ℕ) (must_tail : Bool) (ty : Option Ty) (args : List Arg)
      → AsksToFree e s t result must_tail ty args → IsAccompanied e s t r
  NullTest : (name : ℕ) (pred : Pred) (a b : Operand) → IsAtNullTest e s t name pred a b → IsAccompanied e s t r
  FreeOfNull : (a : Allocator) (result : Option ℕ) (must_tail : Bool) (ty : Option Ty) (args : List Arg)
      → IsAtFreeOfNull e s t a result must_tail ty args → IsAccompanied e s t r
  FreeBeside : (a : Allocator) (result : Option ℕ) (must_tail : Bool) (ty : Option Ty) (args : List Arg)
      → IsAtFreeBeside e s t a result must_tail ty args → IsAccompanied e s t r
  Save : (result : Option ℕ) (must_tail : Bool) (ty : Option Ty) (args : List Arg)
      → IsAtSave e s t result must_tail ty args → IsAccompanied e s t r
  Suspend : (result : Option ℕ) (must_tail : Bool) (ty : Option Ty) (args : List Arg)
      → IsAtSuspend e s t result must_tail ty args → IsAccompanied e s t r
  Exit : (label : ℕ) → IsAtExit e s t label → IsAccompanied e s t r
  WayOn : (k : AsksForFrame (function_in e s.top.func) (e.shape s.top.func)) (label : ℕ) → IsAtWayOn e s t k label
      → IsAccompanied e s t r
  Meeting : (label to : ℕ) → AreMadeAlike e r.homes s.top t.top → IsAtMeeting e s t label to → IsAccompanied e s t r
  FreedAside : (k : FreesFrame (function_in e s.top.func) (e.shape s.top.func)) (label : ℕ) → IsAtFreed e s t k label
      → FreesAside (function_in e s.top.func) (e.shape s.top.func) k.after k.beside → IsAccompanied e s t r
  FreedStraight : (k : FreesFrame (function_in e s.top.func) (e.shape s.top.func)) (label : ℕ)
      → IsAtFreed e s t k label → k.after ≡ k.beside → IsAccompanied e s t r
  Loads : (u v align : ℕ) (ty : Ty) (cell : Operand) (loaded : Value) → IsAtLoads e s t u v align ty cell loaded
      → IsAccompanied e s t r
  Addresses : (u v base distance : ℕ) → IsAtAddresses e s t u v base distance → IsAccompanied e s t r
  AllocaAgain : (name : ℕ) (ty : Ty) (align from label : ℕ) (next : Point)
      → t.top.at ≡ front_at (rooms e s.top.func) (function_in e s.top.func) s.top.block s.top.at
      → IsAtAllocaAgain e s t name ty align from label next → IsAccompanied e s t r
  LastAlloca : (name : ℕ) (ty : Ty) (align from label : ℕ)
      → t.top.at ≡ front_at (rooms e s.top.func) (function_in e s.top.func) s.top.block s.top.at
      → IsAtLastAlloca e s t name ty align from label → IsAccompanied e s t r
  RampEnd : (result : Option ℕ) (must_tail : Bool) (ty : Option Ty) (args : List Arg)
      → IsAtRampEnd e s t r result must_tail ty args → IsAccompanied e s t r
  EarlyEnd : (result : Option ℕ) (must_tail : Bool) (ty : Option Ty) (args : List Arg)
      → IsAtEarlyEnd e s t result must_tail ty args → IsAccompanied e s t r
  ResumedEnd : (result : Option ℕ) (must_tail : Bool) (ty : Option Ty) (args : List Arg)
      → IsAtResumedEnd e s t r result must_tail ty args → IsAccompanied e s t r

-- Both runs go on, where the second has executed what is put in front of the place.
pub data IsReadyFor (e : Elision) (s u : State) (r : AreReady e s u) : Type 0 where
  Ordinary : (i : Instr) (v : Work) → IsAtOrdinary e s u i v → IsReadyFor e s u r
  Alloca : (name : ℕ) (ty : Ty) (align : ℕ) → IsAtAlloca e s u name ty align → IsReadyFor e s u r
  AllocatorCall : (a : Allocator) (result : Option ℕ) (must_tail : Bool) (ty : Option Ty) (args : List Arg)
      → IsAtAllocator e s u a result must_tail ty args → IsReadyFor e s u r
  Marker : (j : Intrinsic) (result : Option ℕ) (must_tail : Bool) (ty : Option Ty) (args : List Arg)
      → IsAtMarker e s u j result must_tail ty args → IsReadyFor e s u r
  Deallocation : (a : Allocator) (result : Option ℕ) (must_tail : Bool) (ty : Option Ty) (args : List Arg)
      (memory : List MemoryBlock) → IsAtDeallocation e s u a result must_tail ty args memory → IsReadyFor e s u r
  FreeBeside : (a : Allocator) (result : Option ℕ) (must_tail : Bool) (ty : Option Ty) (args : List Arg)
      → IsAtFreeBeside e s u a result must_tail ty args → IsReadyFor e s u r
  Asking : (j : Intrinsic) (result : Option ℕ) (must_tail : Bool) (ty : Option Ty) (args : List Arg)
      → IsAtAsking e s u j result must_tail ty args → IsReadyFor e s u r
  Looks : (result : Option ℕ) (must_tail : Bool) (ty : Option Ty) (args : List Arg)
      → HaveCallers e (standing_at u (front_at (rooms e s.top.func) (function_in e s.top.func) s.top.block s.top.at))
      → IsAtDone e s u (front_at (rooms e s.top.func) (function_in e s.top.func) s.top.block s.top.at) r.beside result
      must_tail ty args → IsReadyFor e s u r
  Promise : (result : Option ℕ) (must_tail : Bool) (ty : Option Ty) (args : List Arg)
      → HaveCallers e (standing_at u (front_at (rooms e s.top.func) (function_in e s.top.func) s.top.block s.top.at))
      → IsAtPromise e s u (front_at (rooms e s.top.func) (function_in e s.top.func) s.top.block s.top.at) r.beside
      result must_tail ty args → IsReadyFor e s u r
  Edge : (label : ℕ)
      → IsAtEdge e s (standing_at u (front_at (rooms e s.top.func) (function_in e s.top.func) s.top.block s.top.at))
      label → IsReadyFor e s u r
  Call : IsAtCall e s u → IsReadyFor e s u r
  Site : IsAtSite e s u → IsReadyFor e s u r
  Waking : IsAtWaking e s u → IsReadyFor e s u r
  Return : IsAtReturn e s u → ReturnsTo e s → IsReadyFor e s u r
  LeftRampEnd : (k : IsAtLeftEnd e s u) → GoesOnBehind e s k.result → IsReadyFor e s u r
  LeftResumedEnd : IsAtLeftEnd e s u → LeadsBack e s u → IsReadyFor e s u r
  LastReturn : IsAtReturn e s u → s.below ≡ [] → IsReadyFor e s u r

-- ---- all kinds

-- the second run behind the new allocas of a function that has just been entered
abbrev pub fronted : Elision → State → State → State
fronted e s t =
    iterate (framed_step (elided e)) (length (allocas_ahead (rooms e s.top.func) (function_in e s.top.func))) t

-- The step is of a kind of which there is a law.
pub data IsKnownStep (e : Elision) (s t : State) (r : AreElided e s t) : Type 0 where
  Waiting : IsWaitedFor e s t → IsKnownStep e s t r
  Going : IsAccompanied e s t r → IsKnownStep e s t r
  Fronting : IsAtFront e s t → ((ready : AreReady e s (fronted e s t)) → IsReadyFor e s (fronted e s t) ready)
      → IsKnownStep e s t r
  Standing : IsBehindFront e s t → ((ready : AreReady e s t) → IsReadyFor e s t ready) → IsKnownStep e s t r

-- So many steps the second run makes: one, and one for each new alloca that it makes before.
abbrev pub steps_of : (e : Elision) (s t : State) (r : AreElided e s t) → IsKnownStep e s t r → ℕ
steps_of e s t r (IsKnownStep.Waiting at) = 0
steps_of e s t r (IsKnownStep.Going at) = 1
steps_of e s t r (IsKnownStep.Fronting at place) =
    length (allocas_ahead (rooms e s.top.func) (function_in e s.top.func)) + 1
steps_of e s t r (IsKnownStep.Standing at place) = 1
