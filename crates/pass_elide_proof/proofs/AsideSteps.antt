-- Loads in two blocks that stand beside each other leave the states beside each other.
use Rattle.std.proofs.Common.{pos, ◌≡◌, ◌≢◌, ◌<◌, ◌≤◌, ◌+◌, inl, inr, ⊎_elim, ℕ, zero, suc, Bool, true, false, List, [], ◌∷◌, length, Option, Ok, refl, sym, ap, ◌∙◌, subst, arith, if◌then◌else◌}
use Rattle.std.proofs.lemmas.Bool.{cases_lt}
use Rattle.std.proofs.lemmas.List.{length-set}
use Rattle.std.specs.Prelude.{None, Some, slice_get}
use Rattle.pass_elide.specs.Elided.{elided_function}
use Rattle.pass_elide.specs.declared.given.GivenFrame.{GivenFrame}
use Rattle.pass_elide_proof.proofs.Facts.{not_both, not_less, some_none}
use Rattle.pass_elide_proof.proofs.Modules.{finds_alike}
use Rattle.pass_elide_proof.proofs.Onward.{GoesOn, SlotsStay, each_all}
use Rattle.pass_elide_proof.proofs.OwnPlaces.{acts, instr_there}
use Rattle.pass_elide_proof.proofs.Reading.{operand_stands}
use Rattle.pass_elide_proof.proofs.Refilled.{goes_on, mates_stay}
use Rattle.pass_elide_proof.proofs.Settled.{KeepsTop, next_of, settles}
use Rattle.pass_elide_proof.proofs.Sized.{other_value}
use Rattle.pass_elide_proof.proofs.Standing.{has_code}
use Rattle.pass_elide_proof.specs.Asides.{AreAside, IsAtAddresses, IsAtLoads}
use Rattle.pass_elide_proof.specs.Elision.{Elision, Shape, differs_in, elided, elided_code, framed, function_in, rooms}
use Rattle.pass_elide_proof.specs.Match.{AreElided, AreMadeAlike, Aside, Beside, Freeing, HasAllocas, IsAt, Waiting, is_given_mode, sides, was_given}
use Rattle.pass_elide_proof.specs.Places.{allocas_ahead, elided_instr, instrs_of, name_at}
use Rattle.pass_elide_proof.specs.Shapes.{slot_address}
use Rattle.pass_proofs.proofs.ir_laws.facts.Truth.{itself}
use Rattle.pass_proofs.proofs.run_laws.embedded.Memories.{element_kept, same_refills}
use Rattle.pass_proofs.proofs.run_laws.embedded.Values.{address_kept, alignment_is}
use Rattle.pass_proofs.proofs.run_laws.memory.Loads.{loads_kept}
use Rattle.pass_proofs.proofs.run_laws.transfer.Muted.{load_muted}
use Rattle.run_access_worked.proofs.run_laws_worked.Frames.{frame_rights_fit}
use Rattle.pass_proofs.specs.ir_base.declared.cause.Cause.{Cause}
use Rattle.pass_proofs.specs.ir_model.Names.{function_at}
use Rattle.pass_proofs.specs.ir_model.Ty.{Ty, int, ptr}
use Rattle.pass_proofs.specs.ir_model.declared.instr.Instr.{Instr}
use Rattle.pass_proofs.specs.ir_model.declared.module.Function.{Function}
use Rattle.pass_proofs.specs.ir_model.declared.operand.Operand.{Operand}
use Rattle.pass_proofs.specs.ir_parts.Contents.{result_of}
use Rattle.pass_proofs.specs.run_framed.Framed.{frame_rights, framed_context, framed_step, given_ramp}
use Rattle.pass_proofs.specs.run_laws.memory.Kept.{IsLoaded}
use Rattle.pass_proofs.specs.run_laws.memory.Pointers.{Home, IsValue, home_of}
use Rattle.pass_proofs.specs.run_laws.transfer.Muted.{IsShown, muted}
use Rattle.pass_proofs.specs.run_memory.Memory.{load}
use Rattle.pass_proofs.specs.run_memory.declared.pointer.Pointer.{Pointer}
use Rattle.pass_proofs.specs.run_memory.declared.pointer.Value.{Value}
use Rattle.pass_proofs.specs.run_source.State.{function_of, settled, work_of}
use Rattle.pass_proofs.specs.run_source.declared.state.State.{State}
use Rattle.pass_proofs.specs.run_step.Step.{AtInstr, Context, Done, Stuck, Work, action_of, done, fetch, is_alignment, set_value}
use Rattle.pass_proofs.specs.run_step.Values.{Env, access_of, address, distance as distance_of, element, indices_of, operand_value, value_in, with_value}
use Rattle.pass_proofs.specs.run_step.declared.world.Slot.{Slot}
use Rattle.pass_proofs.specs.ir_base.declared.name.Name.{Name}
use Rattle.pass_proofs.specs.run_laws.changed.Changed.{callee_at}
use Rattle.pass_proofs.specs.run_memory.declared.block.MemoryBlock.{MemoryBlock}
use Rattle.pass_proofs.specs.run_laws.memory.Standing.{AreBoundsKept}

-- ---- names

-- what a name is set to
set_value_is : (env : Env) (name : ℕ) (v : Value) → name < length env → value_in (with_value env name v) name ≡ v
set_value_is [] name v lt = absurd (omega (arith, lt))
set_value_is (c ∷ env) zero v lt = refl
set_value_is (c ∷ env) (suc name) v lt = set_value_is env name v (omega (arith, lt))

-- a name without room has no value
set_stands : (homes : List Home) (env : Env) (name : ℕ) (v w : Value) → IsValue homes v w
    → IsValue homes (value_in (with_value env name v) name) w
set_stands homes [] name v w h = tt
set_stands homes (c ∷ env) zero v w h = h
set_stands homes (c ∷ env) (suc name) v w h = set_stands homes env name v w h

shown_value : (homes : List Home) (hides : ℕ → Bool) → ((b : ℕ) → hides b ≡ true → (home_of homes b).is_seen ≡ false)
    → (v w : Value) → IsValue homes v w → IsShown hides v
shown_value homes hides hidden (Value.Ptr (Pointer.At b o)) w h = on (hides b) refl
  where
    on : (t : Bool) → hides b ≡ t → hides b ≡ false
    on true e = absurd (not_both (home_of homes b).is_seen h.0 (hidden b e))
    on false e = e
shown_value homes hides hidden (Value.Ptr Pointer.Null) w h = tt
shown_value homes hides hidden (Value.Ptr (Pointer.Func f)) w h = tt
shown_value homes hides hidden Value.Poison w h = tt
shown_value homes hides hidden (Value.Int y) w h = tt

-- ---- the loads

load_does : (c : Context) (w : Work) (name align : ℕ) (ty : Ty) (cell : Operand) (v : Value)
    → is_alignment align ≡ true
    → load c.rights w.world.memory (address (operand_value c.code w.values ptr cell)) (access_of ty) align ≡ Ok v
    → action_of c w (AtInstr (Instr.Load name ty cell align)) ≡ Done (set_value w name v)
load_does c w name align ty cell v ok is =
    ap (λ (t : Bool). if t then done (set_value w name) (load c.rights w.world.memory (address
    (operand_value c.code w.values ptr cell)) (access_of ty) align) else Stuck Cause.Align) ok
    ∙ ap (done (set_value w name)) is

module _ (e : Elision) (s t : State) (r : AreElided e s t) (ours theirs : Instr) (u v : ℕ)
    (at : AreAside e s t ours theirs u v) (gives : result_of ours ≡ Some u) (gives_too : result_of theirs ≡ Some v)
    (one other : Value) (stands_for : IsValue r.homes one other)
    (does : action_of (framed_context (framed e) s) (work_of s) (AtInstr ours) ≡ Done (set_value (work_of s) u one))
    (does_too : action_of (framed_context (elided e) t) (work_of t) (AtInstr theirs)
    ≡ Done (set_value (work_of t) v other))
    (no_ramp : (n : Name) → callee_at (AtInstr ours) ≡ Some n → given_ramp (framed e).given.code n ≡ None)
    (no_ramp_too : (n : Name) → callee_at (AtInstr theirs) ≡ Some n → given_ramp (elided e).given.code n ≡ None)
  where
    abbrev f : Function
    f = function_in e s.top.func

    abbrev x : Shape
    x = e.shape s.top.func

    abbrev ramp : Bool
    ramp = is_given_mode t.top.mode

    abbrev given : Bool
    given = was_given (sides s t) t.top

    -- ---- they stand beside each other

    record IsAside : Type 0 where
      level : t.top.at ≡ s.top.at
      alike : AreMadeAlike e r.homes s.top t.top

    aside_by : (b : Bool) → IsAt e r.homes b s.top t.top → IsAside
    aside_by b (Beside block there) = absurd (at.other block)
    aside_by b (Waiting ramp waits there) = absurd (some_none (x.waits s.top.block) t.top.block waits at.waits)
    aside_by b (Freeing holds frees there) = absurd (some_none (x.frees s.top.block) t.top.block frees at.frees)
    aside_by b (Aside holds aside there alike) = record { level = there; alike = alike }

    beside : IsAside
    beside = aside_by given r.top.place

    made_by : (slots : List Slot) → HasAllocas e r.homes r.hides (sides s t) s.top t.top slots
        → length slots ≡ length (allocas_ahead (rooms e s.top.func) f)
    made_by slots (inl first) = ap length first.2 ∙ sym (ap length at.none)
    made_by slots (inr made) = made.1

    abbrev first : Work
    first = set_value (work_of s) u one

    abbrev second : Work
    second = set_value (work_of t) v other

    -- ---- values

    first_other : (name : ℕ) → name ≢ u → value_in first.values name ≡ value_in s.top.values name
    first_other name ne = other_value s.top.values u name one ne

    second_other : (name : ℕ) → name ≢ v → value_in second.values name ≡ value_in t.top.values name
    second_other name ne = other_value t.top.values v name other ne

    abbrev Differs : ℕ → Bool
    Differs name = differs_in x ramp given name

    unlike : (name other : ℕ) → Differs name ≡ false → Differs other ≡ true → name ≢ other
    unlike name other calm differs same =
        not_both (Differs other) differs (ap (λ (z : ℕ). differs_in x ramp given z) (sym same) ∙ calm)

    values : (name : ℕ) → Differs name ≡ false
        → IsValue r.homes (value_in first.values name) (value_in second.values name)
    values name calm =
        subst (λ (z : Value × Value). IsValue r.homes z.0 z.1)
        (λ j. (
          sym (first_other name (unlike name u calm at.differs)) j,
          sym (second_other name (unlike name v calm at.differs_too)) j,
        ))
        (r.top.values.each name calm)

    -- names that tell of a given frame aren't set
    both_stay : (name : ℕ) → name ≢ u → name ≢ v
        → (value_in first.values name ≡ value_in s.top.values name)
        × (value_in second.values name ≡ value_in t.top.values name)
    both_stay name ne nv = (first_other name ne, second_other name nv)

    -- ---- what has been made before stands for the other's

    result_is : (block name : ℕ) (i j : Instr) → slice_get (instrs_of f block) s.top.at ≡ Some j
        → slice_get (instrs_of f block) s.top.at ≡ Some i → result_of i ≡ Some name → result_of j ≡ Some name
    result_is block name i j at_j at_i gives =
        let same : Some j ≡ Some i = sym at_j ∙ at_i in
        let is : j ≡ i = cc in
        ap result_of is ∙ gives

    -- what the two give
    given_alike : (a b : ℕ) → u ≡ a → v ≡ b → IsValue r.homes (value_in first.values a) (value_in second.values b)
    given_alike a b ea eb =
        subst (λ (z : ℕ × ℕ). IsValue r.homes (value_in first.values z.0) (value_in second.values z.1))
        (λ j. (ea j, eb j))
        (subst (λ (w : Value). IsValue r.homes (value_in first.values u) w)
        (sym (set_value_is t.top.values v other at.wide))
        (set_stands r.homes s.top.values u one other stands_for))

    alike_before : (k a b : ℕ) (i j : Instr) → k < s.top.at → slice_get (instrs_of f s.top.block) k ≡ Some i
        → slice_get (instrs_of f t.top.block) k ≡ Some j → result_of i ≡ Some a → result_of j ≡ Some b
        → IsValue r.homes (value_in first.values a) (value_in second.values b)
    alike_before k a b i j lt at_i at_j ra rb =
        subst (λ (z : Value × Value). IsValue r.homes z.0 z.1)
        (λ l. (
          sym (first_other a (at.unset k a i lt at_i ra)) l,
          sym (second_other b (at.unset_too k b j lt at_j rb)) l,
        ))
        (beside.alike k a b i j lt at_i at_j ra rb)

    alike_here : (k a b : ℕ) (i j : Instr) → k ≡ s.top.at → slice_get (instrs_of f s.top.block) k ≡ Some i
        → slice_get (instrs_of f t.top.block) k ≡ Some j → result_of i ≡ Some a → result_of j ≡ Some b
        → IsValue r.homes (value_in first.values a) (value_in second.values b)
    alike_here k a b i j is at_i at_j ra rb =
        let here = instr_there f s.top.block s.top.at ours at.here in
        let first_name : Some u ≡ Some a
        = sym gives ∙ result_is s.top.block a i ours here
        (ap (slice_get (instrs_of f s.top.block)) (sym is) ∙ at_i) ra in
        let second_name : Some v ≡ Some b
        = sym gives_too ∙ result_is t.top.block b j theirs at.there
        (ap (slice_get (instrs_of f t.top.block)) (sym is) ∙ at_j) rb in
        given_alike a b (cc) (cc)

    alike_by : (k a b : ℕ) (i j : Instr) → k < s.top.at + 1 → slice_get (instrs_of f s.top.block) k ≡ Some i
        → slice_get (instrs_of f t.top.block) k ≡ Some j → result_of i ≡ Some a → result_of j ≡ Some b
        → IsValue r.homes (value_in first.values a) (value_in second.values b)
    alike_by k a b i j lt at_i at_j ra rb =
        ⊎_elim (λ before. alike_before k a b i j before at_i at_j ra rb)
        (λ ge. alike_here k a b i j (omega (arith, lt, ge)) at_i at_j ra rb) (cases_lt k s.top.at)

    -- ---- the topmost activations

    differ_by : (name other : ℕ) (o : ℕ → Bool) → o name ≡ true → o other ≡ false → name ≢ other
    differ_by name other o is none same = not_both (o other) (ap o (sym same) ∙ is) none

    tells : (name other : ℕ) (b : Bool) → x.tested name ≡ Some b → x.tested other ≡ None → name ≢ other
    tells name other b is none same = some_none (x.tested other) b (ap x.tested (sym same) ∙ is) none

    keeps : KeepsTop e s t r.homes (next_of s.top) (next_of t.top) first.values second.values
    keeps = record {
      place = λ ss ts. Aside at.given at.aside (ap (λ (k : ℕ). k + 1) beside.level) alike_by;
      values = values;
      room =
          let few = length-set s.top.values u (Some one) in
          let many = length-set t.top.values v (Some other) in
          let old = r.top.values.room in
          omega (arith, few, many, old);
      need = λ holds name is. both_stay name (differ_by name u x.need is (at.plain.need holds))
          (differ_by name v x.need is (at.plain_too.need holds));
      freed = λ holds name is. both_stay name (differ_by name u x.freed is (at.plain.freed holds))
          (differ_by name v x.freed is (at.plain_too.freed holds));
      tested = λ holds name b is. both_stay name (tells name u b is (at.plain.tested holds))
          (tells name v b is (at.plain_too.tested holds));
      in_front = λ name le. second_other name (λ same. not_less v (length f.names) at.named
          (subst (λ (k : ℕ). length f.names ≤ k) same le));
      holds = at.holds;
      held = λ name holds is. first_other name (at.kept name holds is);
    }

    -- ---- the states

    on : GoesOn (sides s t) s.world.memory t.world.memory r.homes r.homes r.hides r.hides
    on =
        goes_on (sides s t) s.world.memory t.world.memory r.homes r.hides (same_refills s.world.memory)
        (same_refills t.world.memory) (λ b h. refl) (λ b h. refl)

    stands : AreElided e (settled s first) (settled t second)
    stands =
        settles e s t t.top.at r (made_by r.top.own r.top.allocas) first second r.homes r.hides on
        (next_of s.top) (next_of t.top) keeps r.world r.known
        r.hidden
        (mates_stay (sides s t) s.world.memory t.world.memory r.homes r.hides (same_refills s.world.memory)
        (same_refills t.world.memory) (λ b h. refl) (λ b h. refl) r.mates)
        (each_all (SlotsStay e (sides s t) s.world.memory t.world.memory r.homes r.homes r.hides r.hides on) (λ a. refl)
        s.below)
        (λ more h. h) s.top.slots t.top.slots r.top.slots

    -- ---- the step

    there_too : fetch (function_of (elided e).given t) t.top.block t.top.at ≡ AtInstr theirs
    there_too =
        ap (λ (j : ℕ). fetch (function_at (elided_code e) j) t.top.block t.top.at) r.top.func
        ∙ (ap (λ (h : Function). fetch h t.top.block t.top.at) ((finds_alike e).functions s.top.func)
        ∙ (ap (fetch (elided_function (rooms e s.top.func) f) t.top.block) (beside.level ∙ sym at.own)
        ∙ ((has_code (rooms e s.top.func) f).instr t.top.block s.top.at theirs at.there
        ∙ ap (λ (o : Option GivenFrame). AtInstr (elided_instr (name_at (rooms e s.top.func) f t.top.block s.top.at) o
        theirs)) at.no_room)))

    pub go_aside : AreElided e (framed_step (framed e) s) (framed_step (elided e) t)
    go_aside =
        let first_step : framed_step (framed e) s ≡ settled s first
        = acts (framed e) s (settled s first) ours (Done first) at.runs at.here no_ramp does refl in
        let second_step : framed_step (elided e) t ≡ settled t second
        = acts (elided e) t (settled t second) theirs (Done second) (r.outcome ∙ at.runs) there_too no_ramp_too does_too
        refl in
        subst (λ (z : State × State). AreElided e z.0 z.1) (λ j. (sym first_step j, sym second_step j)) stands

-- ---- loads of one kept value

module _ (e : Elision) (s t : State) (r : AreElided e s t) (u v align : ℕ) (ty : Ty) (cell : Operand) (loaded : Value)
    (at : IsAtLoads e s t u v align ty cell loaded) where
  abbrev p : Value
  p = address (operand_value e.code s.top.values ptr cell)

  abbrev q : Value
  q = address (operand_value (elided_code e) t.top.values ptr cell)

  pointers : IsValue r.homes p q
  pointers =
      address_kept r.homes (operand_value e.code s.top.values ptr cell)
      (operand_value (elided_code e) t.top.values ptr cell)
      (operand_stands e r.homes r.globals s.top.values t.top.values cell ptr
      (λ name is. r.top.values.each name (at.reads name is)))

  loads : IsLoaded (frame_rights (elided e) t.instances) r.homes t.world.memory q (access_of ty) align loaded
  loads =
      loads_kept (frame_rights (framed e) s.instances) (frame_rights (elided e) t.instances) r.homes
      (muted r.hides s.world.memory) t.world.memory p q (access_of ty) align loaded
      (frame_rights_fit (framed e) s.instances) r.world.memory at.bytes (alignment_is align at.aligned) pointers
      (load_muted r.hides (frame_rights (framed e) s.instances) s.world.memory p (access_of ty) align
      (shown_value r.homes r.hides r.hidden p q pointers) ∙ at.loads)

  pub loads_go : AreElided e (framed_step (framed e) s) (framed_step (elided e) t)
  loads_go =
      go_aside e s t r (Instr.Load u ty cell align) (Instr.Load v ty cell align) u v at.place refl refl loaded
      loads.value loads.stands
      (load_does (framed_context (framed e) s) (work_of s) u align ty cell loaded at.aligned at.loads)
      (load_does (framed_context (elided e) t) (work_of t) v align ty cell loads.value at.aligned loads.loads)
      (λ m is. absurd (cc)) (λ m is. absurd (cc))

-- ---- addresses of one slot

-- a pointer that may leave its block is moved alike in each memory
any_memory : (m : List MemoryBlock) (p : Value) (d : Option ℕ) → element m false p d ≡ element [] false p d
any_memory m p None = refl
any_memory m (Value.Ptr Pointer.Null) (Some d) = refl
any_memory m (Value.Ptr (Pointer.At b o)) (Some d) = refl
any_memory m (Value.Ptr (Pointer.Func f)) (Some d) = refl
any_memory m Value.Poison (Some d) = refl
any_memory m (Value.Int w) (Some d) = refl

no_bounds : (homes : List Home) → AreBoundsKept homes [] []
no_bounds homes = record { each = λ b x seen is. absurd (cc) }

module _ (e : Elision) (s t : State) (r : AreElided e s t) (u v base distance : ℕ)
    (at : IsAtAddresses e s t u v base distance) where
  abbrev from : Value
  from = value_in s.top.values base

  abbrev to : Value
  to = value_in t.top.values base

  bases : IsValue r.homes from to
  bases = r.top.values.each base (at.reads base (itself base))

  abbrev far : Option ℕ
  far = distance_of e.code (int 8)
      (indices_of e.code s.top.values (record { ty = int 64; value = Operand.Number (pos distance) } ∷ []))

  moves : IsValue r.homes (element s.world.memory false from far) (element t.world.memory false to far)
  moves =
      subst (λ (z : Value × Value). IsValue r.homes z.0 z.1)
      (λ j. (sym (any_memory s.world.memory from far) j, sym (any_memory t.world.memory to far) j))
      (element_kept r.homes [] [] (no_bounds r.homes) false from to far bases)

  pub addresses_go : AreElided e (framed_step (framed e) s) (framed_step (elided e) t)
  addresses_go =
      go_aside e s t r (slot_address u base distance) (slot_address v base distance) u v at.place refl refl
      (element s.world.memory false from far) (element t.world.memory false to far) moves refl refl
      (λ m is. absurd (cc)) (λ m is. absurd (cc))
