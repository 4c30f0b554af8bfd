-- Records of the end of a coroutine: its frame lies in an alloca of its caller, if it was given.
use Rattle.std.proofs.Common.{◌≡◌, ◌⊎◌, ◌<◌, inl, inr, ℕ, Bool, true, false, List, [], ◌∷◌, Option, refl, sym, ap, ◌∙◌, subst, arith}
use Rattle.std.specs.Prelude.{Some, slice_get}
use Rattle.pass_elide_proof.proofs.Callees.{called_at}
use Rattle.pass_elide_proof.proofs.Facts.{not_both}
use Rattle.pass_elide_proof.proofs.Found.{same_end}
use Rattle.pass_elide_proof.proofs.Grown.{have_at}
use Rattle.pass_elide_proof.proofs.OwnPlaces.{instr_there}
use Rattle.pass_elide_proof.proofs.PlacingFacts.{holds_over, no_frames}
use Rattle.pass_elide_proof.proofs.Sites.{alloca_there}
use Rattle.pass_elide_proof.proofs.Slotted.{frame_allocated}
use Rattle.pass_elide_proof.specs.Elision.{Elision, elided, framed, function_in, rooms}
use Rattle.pass_elide_proof.specs.Ends.{HaveOwn, IsAtCoroEnd, IsAtRampEnd, IsAtResumedEnd, IsOwnSlot, LiesInAlloca}
use Rattle.pass_elide_proof.specs.Invariant.{HasCaller, IsCalledIn, IsSiteOf}
use Rattle.pass_elide_proof.specs.Match.{AreActivations, AreBelow, AreElided, HasAlloca, HasAllocas, Sides, sides}
use Rattle.pass_elide_proof.specs.Places.{allocas_ahead, front_at, instrs_of, name_at}
use Rattle.pass_elide_proof.specs.Placing.{KeepsPlaces, SetsPlain}
use Rattle.pass_elide_proof.specs.PlacingStates.{IsEntryLowest, IsKnownState}
use Rattle.pass_elide_proof.specs.Sound.{IsSoundState}
use Rattle.pass_elide_proof.specs.Statement.{AreRelated}
use Rattle.pass_proofs.proofs.ir_laws.facts.Lists.{get_within}
use Rattle.pass_proofs.specs.ir_base.declared.outcome.Outcome.{Outcome}
use Rattle.pass_proofs.specs.ir_model.Ty.{Ty, array, int}
use Rattle.pass_proofs.specs.ir_model.declared.instr.Instr.{Instr}
use Rattle.pass_proofs.specs.ir_model.declared.operand.Arg.{Arg}
use Rattle.pass_proofs.specs.ir_model.declared.operand.Callee.{Callee}
use Rattle.pass_proofs.specs.ir_model.declared.operand.Intrinsic.{Intrinsic}
use Rattle.pass_proofs.specs.run_framed.Framed.{is_given}
use Rattle.pass_proofs.specs.run_laws.changed.Changed.{Each}
use Rattle.pass_proofs.specs.run_laws.memory.Pointers.{Home}
use Rattle.pass_proofs.specs.run_memory.declared.block.MemoryBlock.{MemoryBlock}
use Rattle.pass_proofs.specs.run_source.State.{function_of, is_finished}
use Rattle.pass_proofs.specs.run_source.declared.state.Activation.{Activation}
use Rattle.pass_proofs.specs.run_source.declared.state.Instance.{Instance}
use Rattle.pass_proofs.specs.run_source.declared.state.Mode.{Mode}
use Rattle.pass_proofs.specs.run_source.declared.state.State.{State}
use Rattle.pass_proofs.specs.run_step.Step.{AtInstr, fetch}
use Rattle.pass_proofs.specs.run_step.Values.{pointer_to, value_in}
use Rattle.run_slots.specs.Slots.{IsSlottedState}

-- ---- the alloca of a caller

same_block : (a b : ℕ) → pointer_to a ≡ pointer_to b → a ≡ b
same_block a b e = cc

same_name : (m n size big align al : ℕ) → Instr.Alloca m (array size (int 8)) align
    ≡ Instr.Alloca n (array big (int 8)) al → m ≡ n
same_name m n size big align al e = cc

module _ (e : Elision) (homes : List Home) (hides : ℕ → Bool) (d : Sides) (memory : List MemoryBlock) (y : Instance)
    (number : ℕ) where
  -- an alloca of this name has the frame
  abbrev Lies : ℕ → Instr → Type 0
  Lies name i =
      (n size align : ℕ) → i ≡ Instr.Alloca n (array size (int 8)) align → n ≡ name → LiesInAlloca homes hides d y

  module _ (a c : Activation) (h : AreActivations e homes hides d a c) (above : List Activation)
      (k : HasCaller e memory y number c above) where
    one_lies : (i : Instr) → HasAlloca homes hides d c h.own i → Lies k.name i
    one_lies i z n size align is same =
        let name : z.name ≡ k.name = same_name z.name n z.size size z.align align (sym z.is ∙ is) ∙ same in
        record {
          activation = c;
          own = h.own;
          instr = i;
          alloca = z;
          block = same_block z.block y.block (sym z.address ∙ (ap (value_in c.values) name ∙ k.address));
        }

    each_lies : (is : List Instr) → Each (HasAlloca homes hides d c h.own) is → Each (Lies k.name) is
    each_lies [] zs = tt
    each_lies (i ∷ is) zs = (one_lies i zs.0, each_lies is zs.1)

    site : IsSiteOf e a.func k.call k.instr k.name
    site = subst (λ (n : ℕ). IsSiteOf e n k.call k.instr k.name) h.func k.site

    by_allocas : 0 < a.at → HasAllocas e homes hides d a c h.own → LiesInAlloca homes hides d y
    by_allocas lt (inl start) = let here = start.1 in absurd (omega (arith, here, lt))
    by_allocas lt (inr made) =
        alloca_there (rooms e a.func) (function_in e a.func) k.call.block k.call.at k.instr site.size site.align
        (Lies k.name)
        (each_lies (allocas_ahead (rooms e a.func) (function_in e a.func)) made.0) site.there site.room
        (name_at (rooms e a.func) (function_in e a.func) k.call.block k.call.at) site.size site.align refl
        (sym site.is_name)

    pub caller_lies : 0 < a.at → LiesInAlloca homes hides d y
    caller_lies lt = by_allocas lt h.allocas

  -- some activation of the stack is the caller
  pub stack_lies : (bs cs above : List Activation) → AreBelow e homes hides d bs cs
      → Each (λ (b : Activation). 0 < b.at) bs → IsCalledIn e memory y number above cs → LiesInAlloca homes hides d y
  stack_lies [] [] above h waits k = absurd (called_at e memory y number above [] k)
  stack_lies [] (c ∷ cs) above h waits k = absurd h
  stack_lies (a ∷ more) [] above h waits k = absurd h
  stack_lies (a ∷ more) (c ∷ cs) above h waits k =
      by (called_at e memory y number above (c ∷ cs) k)
      (λ further. stack_lies more cs (c ∷ above) h.1 waits.1 further)
    where
      by : HasCaller e memory y number c above ⊎ IsCalledIn e memory y number (c ∷ above) cs
          → (IsCalledIn e memory y number (c ∷ above) cs → LiesInAlloca homes hides d y) → LiesInAlloca homes hides d y
      by (inl found) rest = caller_lies a c h.0.1 above found waits.0
      by (inr further) rest = rest further

-- ---- the own instances

module _ (e : Elision) (s t : State) (r : AreRelated e s t) (known : IsKnownState e.code s)
    (slotted : IsSlottedState s) (coroutine : (function_in e s.top.func).coroutine ≡ true) (number : ℕ)
    (first : Instance) (own : s.top.instance ≡ Some number) (there : slice_get s.instances number ≡ Some first)
    (goes : is_finished first.status ≡ false) where
  abbrev b : AreElided e s t
  b = r.beside

  second : (y : Instance) × (slice_get t.instances number ≡ Some y)
  second =
      have_at t.instances number
      (subst (λ (n : ℕ). number < n) (sym b.count) (get_within s.instances number first there))

  second_goes : is_finished second.0.status ≡ false
  unfolding second
  second_goes =
      same_end e first.coroutine first.status second.0.status (b.instances number first second.0 there second.1).status
      ∙ goes

  lies : is_given t.world.memory second.0 ≡ true → LiesInAlloca b.homes b.hides (sides s t) second.0
  lies given =
      by
      (called_at e t.world.memory second.0 number [] (t.top ∷ t.below)
      (r.callers.each number second.0 second.1 given second_goes))
    where
      by : HasCaller e t.world.memory second.0 number t.top []
          ⊎ IsCalledIn e t.world.memory second.0 number (t.top ∷ []) t.below
          → LiesInAlloca b.homes b.hides (sides s t) second.0
      by (inl k) =
          absurd (not_both (function_in e s.top.func).coroutine coroutine
          (ap (λ (n : ℕ). (function_in e n).coroutine) (sym b.top.func) ∙ k.site.plain))
      by (inr k) =
          stack_lies e b.homes b.hides (sides s t) t.world.memory second.0 number s.below t.below (t.top ∷ []) b.below
          known.behind k

  pub own_place : HaveOwn e s t r.beside
  own_place = record {
    number = number;
    first = first;
    second = second.0;
    own = own;
    there = there;
    beside = second.1;
    heap = frame_allocated s slotted number first there;
    lies = lies;
  }

-- ---- the end

module _ (e : Elision) (keeps : KeepsPlaces e) (s t : State) (r : AreRelated e s t) (known : IsKnownState e.code s)
    (slotted : IsSlottedState s) (result : Option ℕ) (must_tail : Bool) (ty : Option Ty) (args : List Arg)
    (runs : s.outcome ≡ Outcome.Running)
    (there : fetch (function_of (framed e).given s) s.top.block s.top.at
    ≡ AtInstr (Instr.Call result must_tail ty (Callee.Intrinsic Intrinsic.CoroEnd) args))
    (beside : t.top.block ≡ s.top.block)
    (stands : t.top.at ≡ front_at (rooms e s.top.func) (function_in e s.top.func) s.top.block s.top.at)
    (number : ℕ) (first : Instance) (own : s.top.instance ≡ Some number)
    (has : slice_get s.instances number ≡ Some first) (goes : is_finished first.status ≡ false) where
  abbrev call : Instr
  call = Instr.Call result must_tail ty (Callee.Intrinsic Intrinsic.CoroEnd) args

  here : slice_get (instrs_of (function_in e s.top.func) s.top.block) s.top.at ≡ Some call
  here = instr_there (function_in e s.top.func) s.top.block s.top.at call there

  coroutine : (function_in e s.top.func).coroutine ≡ true
  coroutine =
      (keeps.instrs s.top.func).own s.top.block s.top.at result must_tail ty Intrinsic.CoroEnd args here refl

  set : (v : ℕ) → result ≡ Some v → SetsPlain (function_in e s.top.func) (e.shape s.top.func) s.top.block s.top.at call v
  set v is = (keeps.instrs s.top.func).sets s.top.block s.top.at v call here is

  end_place : IsAtCoroEnd e s t r.beside result must_tail ty args
  end_place = record {
    runs = runs;
    there = there;
    none = no_frames (rooms e s.top.func) (keeps.wakes s.top.func coroutine).none (function_in e s.top.func);
    beside = beside;
    stands = stands;
    own = own_place e s t r known slotted coroutine number first own has goes;
  }

  pub ramp_end_place : s.top.mode ≡ Mode.Ramp → IsAtRampEnd e s t r.beside result must_tail ty args
  ramp_end_place ramp = record {
    ends = end_place;
    ramp = ramp;
    answers = λ v is. record { need = (set v is).need refl; freed = (set v is).freed refl; tested = (set v is).tested refl };
    holds = holds_over e s.top.func s.top.block s.top.at call here refl refl (keeps.shapes s.top.func);
    kept = λ v name is held. (set v is).kept name held;
  }

  -- one that was resumed has its resumer below it
  below_it : s.top.mode ≡ Mode.Resumed → (c : Activation) × ((below : List Activation) × (s.below ≡ c ∷ below))
  below_it resumed = by s.below known.lowest
    where
      other : Mode.Resumed ≡ Mode.Plain → ⊥
      other q = cc

      by : (bs : List Activation) → IsEntryLowest (s.top ∷ bs)
          → (c : Activation) × ((below : List Activation) × (bs ≡ c ∷ below))
      by [] low = absurd (other (sym resumed ∙ low))
      by (c ∷ below) low = (c, (below, refl))

  pub resumed_end_place : s.top.mode ≡ Mode.Resumed → Each (IsOwnSlot e s) s.top.slots → IsSoundState (elided e) t
      → IsAtResumedEnd e s t r.beside result must_tail ty args
  resumed_end_place resumed slots second =
      let low = below_it resumed in
      record {
        ends = end_place;
        resumed = resumed;
        no_result = known.acts.0.resumed resumed;
        caller = low.0;
        callers = low.1.0;
        below = low.1.1;
        slots = slots;
        starts = second.blocks.starts;
      }
