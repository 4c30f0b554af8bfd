-- An alloca of an activation that doesn't enter anew makes a slot in both runs.
use Rattle.std.proofs.Common.{◌≡◌, ℕ, ◌≤◌, Bool, true, false, ◌∷◌, length, Some, refl, sym, ap, ◌∙◌, subst, arith, if◌then◌else◌}
use Rattle.std.proofs.lemmas.Bool.{false≢true}
use Rattle.pass_proofs.specs.ir_base.declared.cause.Cause.{Cause}
use Rattle.pass_proofs.specs.ir_base.declared.outcome.Outcome.{Outcome}
use Rattle.pass_proofs.specs.ir_model.Layout.{size_of}
use Rattle.pass_proofs.specs.ir_model.Names.{function_at}
use Rattle.pass_proofs.specs.ir_model.declared.instr.Instr.{Instr}
use Rattle.pass_proofs.specs.ir_model.declared.module.Function.{Function}
use Rattle.pass_proofs.specs.pass_intrinsics.declared.shape.Part.{Part}
use Rattle.pass_proofs.specs.pass_intrinsics.declared.shape.Shape.{Shape}
use Rattle.pass_proofs.specs.split.rules.Parted.{IsCleanup, IsDestroy, IsGivenRamp, IsPartOf, IsRamp, IsResume}
use Rattle.pass_split_proof.proofs.simulation.Knowing.{result_unset}
use Rattle.pass_proofs.specs.pass_intrinsics.Shapes.{given_name}
use Rattle.pass_split_proof.specs.states.Instances.{shape_at}
use Rattle.pass_split_proof.specs.simulation.Knowing.{KnowsGiven}
use Rattle.pass_split_proof.proofs.giving.Constants.{not_again}
use Rattle.pass_split_proof.proofs.making.Markers.{markers_from}
use Rattle.pass_split_proof.proofs.steps.Followed.{framed_does, one_followed}
use Rattle.pass_split_proof.proofs.steps.Ordinary.{IsCopied, alone}
use Rattle.pass_split_proof.proofs.steps.Settled.{plain_does}
use Rattle.pass_split_proof.proofs.steps.Slots.{blocks_know, blocks_related, slot_related}
use Rattle.pass_split_proof.specs.making.Blocks.{IsAlloca, IsAtAlloca}
use Rattle.pass_split_proof.specs.places.Places.{IsCodeOf, OfCoroutine, OfPlain}
use Rattle.pass_split_proof.specs.simulation.Followed.{IsFollowed}
use Rattle.pass_split_proof.specs.states.Activations.{Inside, is_entering}
use Rattle.pass_split_proof.specs.states.Memories.{plain_kind}
use Rattle.pass_split_proof.specs.states.Related.{AreRelated, credit_of}
use Rattle.pass_split_proof.specs.steps.Slots.{with_made}
use Rattle.pass_proofs.specs.run_agreement.Machines.{IsFine}
use Rattle.pass_proofs.specs.run_framed.Framed.{FramedGiven, framed_context, framed_slot, framed_step}
use Rattle.pass_proofs.specs.run_memory.declared.block.Kind.{Kind}
use Rattle.run_access_worked.specs.run_plain.Plain.{PlainGiven, plain_context, plain_settled, plain_slot, plain_step, plain_work}
use Rattle.run_access_worked.specs.run_plain.declared.state.PlainState.{PlainState}
use Rattle.pass_proofs.specs.run_source.State.{function_of, settled, with_slots, work_of}
use Rattle.pass_proofs.specs.run_source.declared.state.Mode.{Mode}
use Rattle.pass_proofs.specs.run_source.declared.state.State.{State}
use Rattle.pass_proofs.specs.run_step.Step.{AtInstr, NewSlot, Stuck, Work, action_of, alloca, alloca_kind, fetch, has_markers, is_alignment}
use Rattle.pass_proofs.specs.run_step.declared.world.Slot.{Slot}

-- parts are no coroutines
part_plain : (s : Shape) (f q : Function) (part : Part) → IsPartOf s f part q → q.coroutine ≡ false
part_plain s f _ _ IsRamp = refl
part_plain s f _ _ IsGivenRamp = refl
part_plain s f _ _ IsResume = refl
part_plain s f _ _ IsDestroy = refl
part_plain s f _ _ IsCleanup = refl

code_plain : (f q : Function) (s : Shape) (part : Part) → IsCodeOf f q s part → q.coroutine ≡ false
code_plain f q _ _ (OfCoroutine m k layout begin part x is) = part_plain _ f q part is
code_plain f q _ _ (OfPlain m k plain rules same) = ap (λ (z : Function). z.coroutine) same

-- so a slot of a coroutine is a stack block there
kind_there : (f q : Function) → q.coroutine ≡ false → alloca_kind q ≡ plain_kind (alloca_kind f)
kind_there f q e = ap (λ (b : Bool). if b then Kind.Slot else Kind.Stack) e ∙ on f.coroutine
  where
    on : (b : Bool) → Kind.Stack ≡ plain_kind (if b then Kind.Slot else Kind.Stack)
    on true = refl
    on false = refl

slot_on : (g : FramedGiven) (z : State) (slot : Slot) (mode : Mode) → is_entering mode ≡ false
    → framed_slot g z slot mode ≡ with_slots z (slot ∷ z.top.slots)
slot_on g z slot Mode.Plain e = refl
slot_on g z slot Mode.Ramp e = refl
slot_on g z slot Mode.Resumed e = refl
slot_on g z slot (Mode.GivenRamp frame) e = refl
slot_on g z slot (Mode.Entering from label) e = absurd (false≢true (sym e))

module _ (g : FramedGiven) (h : PlainGiven) (s : State) (t : PlainState) (r : AreRelated g h s t)
    (runs : s.outcome ≡ Outcome.Running) (fine : IsFine (framed_step g s).outcome) (k : IsAlloca g h s t r) where
  abbrev f : Function
  f = function_of g.given s

  abbrev q : Function
  q = function_at h.code t.top.func

  abbrev i : Instr
  i = Instr.Alloca k.name k.ty k.align

  abbrev size : ℕ
  size = size_of g.given.code k.ty

  abbrev pub made : Work
  made = with_made (work_of s) (Some k.name) size k.align (alloca_kind f) (has_markers f k.name) s.world.allocs

  abbrev pub made_too : Work
  made_too = with_made (plain_work t) (Some k.name) size k.align (plain_kind (alloca_kind f)) (has_markers q k.name)
      s.world.allocs

  abbrev pub slot : Slot
  slot = record { alloca = k.name; block = length s.world.memory }

  -- the part has no markers that the function hasn't
  pub fewer_markers : has_markers q k.name ≡ true → has_markers f k.name ≡ true
  fewer_markers = markers_from f k.name q r.top.shape r.top.part r.top.coded

  aligned : is_alignment k.align ≡ true
  aligned = on (is_alignment k.align) refl
    where
      on : (b : Bool) → is_alignment k.align ≡ b → is_alignment k.align ≡ true
      on true e = e
      on false e = absurd (subst (λ (x : State). IsFine x.outcome) (framed_does g s (AtInstr i) (Stuck Cause.Align) runs
          k.there refl (ap (λ (b : Bool). if b then alloca (framed_context g s) (work_of s) k.name size k.align
          else Stuck Cause.Align) e)) fine)

  ours : action_of (framed_context g s) (work_of s) (AtInstr i) ≡ NewSlot made slot
  ours = ap (λ (b : Bool). if b then alloca (framed_context g s) (work_of s) k.name size k.align
      else Stuck Cause.Align) aligned

  pub slot_made : framed_step g s ≡ framed_slot g (settled s made) slot s.top.mode
  slot_made = framed_does g s (AtInstr i) (NewSlot made slot) runs k.there refl ours

  theirs : action_of (plain_context h t) (plain_work t) (AtInstr i) ≡ NewSlot made_too slot
  theirs = ap (λ (b : Bool). if b then alloca (plain_context h t) (plain_work t) k.name (size_of h.code k.ty) k.align
      else Stuck Cause.Align) aligned
      ∙ ap (λ (n : ℕ). alloca (plain_context h t) (plain_work t) k.name n k.align) k.sized
      ∙ ap (λ (c : Kind). NewSlot (with_made (plain_work t) (Some k.name) size k.align c (has_markers q k.name)
      t.world.allocs) (record { alloca = k.name; block = length t.world.memory }))
      (kind_there f q (code_plain f q r.top.shape r.top.part r.top.coded))
      ∙ ap (λ (n : ℕ). NewSlot (with_made (plain_work t) (Some k.name) size k.align (plain_kind (alloca_kind f))
      (has_markers q k.name) n) (record { alloca = k.name; block = length t.world.memory })) r.world.allocs
      ∙ ap (λ (n : ℕ). NewSlot made_too (record { alloca = k.name; block = n })) r.world.memory.twins.long

  pub makes_slot : fetch q t.top.block t.top.at ≡ AtInstr i → plain_step h t ≡ plain_slot (plain_settled t made_too)
      slot
  makes_slot here = plain_does h t (AtInstr i) (NewSlot made_too slot) (r.outcome ∙ runs) here theirs

  pub no_allocator : (b : Bool) → (if b then Kind.Slot else Kind.Stack) ≡ Kind.Allocator → k.align ≡ 16
  no_allocator true e = absurd (cc)
  no_allocator false e = absurd (cc)

-- ---- of an activation that is settled

module _ (g : FramedGiven) (h : PlainGiven) (s : State) (t : PlainState) (r : AreRelated g h s t)
    (runs : s.outcome ≡ Outcome.Running) (fine : IsFine (framed_step g s).outcome) (k : IsAtAlloca g h s t r) where
  abbrev here : Instr
  here = Instr.Alloca k.alloca.name k.alloca.ty k.alloca.align

  abbrev work : Work
  work = made g h s t r runs fine k.alloca

  abbrev work_too : Work
  work_too = made_too g h s t r runs fine k.alloca

  abbrev new : Slot
  new = slot g h s t r runs fine k.alloca

  copied : IsCopied r.top.shape r.top.part (function_of g.given s) (function_at h.code t.top.func) s.top.block s.top.at
      t.top.block t.top.at here
  copied = alone r.top.shape r.top.part (function_of g.given s) (function_at h.code t.top.func) s.top.block s.top.at
      t.top.block t.top.at here here
      (record { begins = not_again r.top.part here refl; cut = λ after. refl; lowered = λ n. refl }) k.place
      k.alloca.there

  made_related : AreRelated g h (settled s work) (plain_settled t work_too)
  made_related = blocks_related g h s t r (Some k.alloca.name) (size_of g.given.code k.alloca.ty) k.alloca.align
      (alloca_kind (function_of g.given s)) (has_markers (function_of g.given s) k.alloca.name)
      (has_markers (function_at h.code t.top.func) k.alloca.name) s.world.allocs
      (fewer_markers g h s t r runs fine k.alloca)
      k.alloca.small (no_allocator g h s t r runs fine k.alloca (function_of g.given s).coroutine) k.settled
      (λ e. k.alloca.others (same e)) (Inside s.top.mode k.settled copied.1)
    where
      same : Some k.alloca.name ≡ Some r.top.shape.begin → k.alloca.name ≡ r.top.shape.begin
      same e = cc

  know_made : KnowsGiven g s t → KnowsGiven g (settled s work) (plain_settled t work_too)
  know_made = blocks_know g h s t r (Some k.alloca.name) (size_of g.given.code k.alloca.ty) k.alloca.align
      (alloca_kind (function_of g.given s)) (has_markers (function_of g.given s) k.alloca.name)
      (has_markers (function_at h.code t.top.func) k.alloca.name) s.world.allocs
      (λ frame e sets. result_unset g h s t r frame e s.top.block s.top.at here k.alloca.there
      (given_name (shape_at g s.top.func)) sets refl)

  pub alloca_followed : IsFollowed g h s t
  alloca_followed = one_followed g h s t r runs (with_slots (settled s work) (new ∷ s.top.slots))
      (plain_slot (plain_settled t work_too) new)
      (slot_made g h s t r runs fine k.alloca ∙ slot_on g (settled s work) new s.top.mode k.settled)
      (makes_slot g h s t r runs fine k.alloca copied.0) (reach (credit_of s))
      (slot_related g h (settled s work) (plain_settled t work_too) made_related new
      (k.alloca.among (length s.world.memory)) k.settled) know_made
    where
      reach : (n : ℕ) → n ≤ n
      reach n = omega arith
