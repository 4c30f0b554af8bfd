-- Worked begins where room was given: in a stack block, there again, and in a field of another frame.
use Rattle.std.proofs.Common.{◌≡◌, ℕ, zero, suc, ◌+◌, ◌%◌, ◌<◌, ◌≤◌, ◌⊎◌, inl, inr, true, false, List, [], ◌∷◌, length, Some, None, refl, sym, ap, ◌∙◌, subst, ⊎_elim, arith}
use Rattle.std.specs.Prelude.{nat_le, nat_lt, slice_get}
use Rattle.std.proofs.lemmas.Bool.{and_parts, false≢true, leb-true}
use Rattle.pass_proofs.specs.frame_layout.declared.layout.FieldKind.{FieldKind}
use Rattle.pass_proofs.specs.frame_layout.declared.layout.PlacedField.{PlacedField}
use Rattle.pass_proofs.specs.ir_model.Names.{function_at}
use Rattle.pass_proofs.specs.pass_intrinsics.Shapes.{suspends_of}
use Rattle.pass_proofs.specs.pass_intrinsics.declared.shape.Part.{Part}
use Rattle.pass_split_proof.proofs.given_begins.Owners.{owner_beside}
use Rattle.pass_split_proof.proofs.given_begins.Places.{has_room}
use Rattle.pass_split_proof.proofs.given_begins.Stored.{begins_at}
use Rattle.pass_split_proof.proofs.states.Fresh.{blank_twin}
use Rattle.pass_split_proof.proofs.states.Judged.{judge_is}
use Rattle.pass_split_proof.proofs.states.Standing.{twins_stand}
use Rattle.pass_split_proof.proofs.states.Started.{frames_start}
use Rattle.pass_split_proof.proofs.states.Statuses.{status_beside, status_frames}
use Rattle.pass_split_proof.proofs.states.Worked.{index_is, laid as worked_laid}
use Rattle.pass_split_proof.proofs.states.Headed.{begins}
use Rattle.pass_split_proof.specs.code.Positions.{is_given}
use Rattle.pass_split_proof.specs.states.Begun.{BeginsIn}
use Rattle.pass_split_proof.specs.given_begins.Room.{Around, BeginsAt, IsAround, IsBegun, IsPlaceFor, LeavesRoom, Reused}
use Rattle.pass_split_proof.specs.given_begins.Worked.{a_callee, a_caller, a_callers_layout, a_stack_block, an_older, an_owned_stack_block, begun_in_stack, callers_begun, callers_memory, nested_given}
use Rattle.pass_split_proof.specs.states.Instances.{AreFrames, IsLaidOut, LiesAligned, StandsThere, index_length, is_destroyer}
use Rattle.pass_split_proof.specs.states.Memories.{AreBeside, AreTwins, AreTwinsAt, IsTwin, homes_of}
use Rattle.pass_proofs.specs.run_framed.Framed.{FramedGiven, is_open_kind, layout_of}
use Rattle.pass_proofs.proofs.run_laws.memory.Written.{same_some}
use Rattle.pass_proofs.specs.run_laws.memory.Standing.{blank_block, byte_of, own_homes}
use Rattle.run_access_worked.proofs.run_laws_worked.Frames.{blank_byte}
use Rattle.run_access_worked.specs.run_laws_worked.Worked.{an_instance, frame_given, owned_block, worked_layout}
use Rattle.pass_proofs.specs.run_memory.Memory.{owned_to}
use Rattle.pass_proofs.specs.run_memory.declared.block.Kind.{Kind}
use Rattle.pass_proofs.specs.run_memory.declared.block.MemoryBlock.{MemoryBlock}
use Rattle.pass_proofs.specs.run_memory.declared.pointer.Value.{Value}
use Rattle.pass_proofs.specs.run_source.declared.state.Instance.{Instance}
use Rattle.pass_proofs.specs.run_source.declared.state.Status.{Status}
use Rattle.pass_proofs.specs.run_source_tables.Given.{Given}

none_in : {A : Type 0} (i : ℕ) (x : Instance) → slice_get [] i ≡ Some x → A
none_in i x e = absurd (cc)

-- ---- one blank block

module _ (g : FramedGiven) (size align : ℕ) (kind : Kind)
    (twin : IsTwin (blank_block size align kind) (blank_block size align kind)) where
  abbrev block : MemoryBlock
  block = blank_block size align kind

  abbrev memory : List MemoryBlock
  memory = block ∷ []

  one_twins : AreTwins memory memory
  one_twins = record { each = at; long = refl }
    where
      at : (b : ℕ) → AreTwinsAt (slice_get memory b) (slice_get memory b)
      at zero = twin
      at (suc b) = tt

  only_one : (b : ℕ) (u : MemoryBlock) → slice_get memory b ≡ Some u → u ≡ block
  only_one zero u e = sym (same_some block u e)
  only_one (suc b) u e = absurd (cc)

  one_beside : AreBeside g [] memory memory
  one_beside = record {
    twins = one_twins;
    stands = twins_stand g [] memory memory one_twins (λ i x y e there. none_in i x e)
        (λ b i u v e at live lt opened.
        let is = only_one b u e in
        blank_byte (own_homes 0 1) u size i (byte_of v i) (ap (λ (z : MemoryBlock). z.bytes) is)
        (subst (λ (k : ℕ). i < k) (ap (λ (z : MemoryBlock). z.size) is) lt));
  }

-- the one instance that there is
the_one : (x : Instance) (i : ℕ) (z : Instance) → slice_get (x ∷ []) i ≡ Some z → z ≡ x
the_one x zero z e = sym (same_some x z e)
the_one x (suc i) z e = absurd (cc)

begun_new : IsBegun an_instance
begun_new = record { slots = refl; runs = refl; unfreed = refl }

-- ---- in a stack block

module _ (given : Given) (resumes : Value) (destroyer : Part) (is : is_destroyer destroyer ≡ true)
    (standing : StandsThere (frame_given given) 0 destroyer) (right : is_given destroyer ≡ true) where
  abbrev g : FramedGiven
  g = frame_given given

  abbrev plain : List MemoryBlock
  plain = a_stack_block ∷ []

  abbrev owned : List MemoryBlock
  owned = an_owned_stack_block ∷ []

  no_allocator : Kind.Stack ≡ Kind.Allocator → ⊥
  no_allocator e = cc

  stack_beside : AreBeside g [] owned plain
  stack_beside = owner_beside g [] plain plain 0 (owned_to 32) (λ y. refl) a_stack_block refl no_allocator
      (one_beside g 32 8 Kind.Stack (blank_twin 32 8 Kind.Stack (omega arith) (λ e. absurd (no_allocator e))))
      (frames_start g plain plain).laid

  stack_lies : LiesAligned g an_instance an_owned_stack_block
  stack_lies = record { alignment = inl refl; block = omega arith; start = refl; inside = omega arith }

  first_place : IsPlaceFor g [] an_instance owned plain
  first_place = record {
    block = an_owned_stack_block;
    there = refl;
    live = refl;
    writable = refl;
    owned = λ e. absurd (no_allocator e);
    given = refl;
    lies = stack_lies;
    laid = λ i z e. none_in i z e;
    leave = λ i z e same. none_in i z e;
    stand = λ at i z v e. absurd (cc);
  }

  pub first : BeginsAt g [] an_instance owned plain resumes destroyer
  first = begins_at g [] an_instance owned plain (has_room g [] an_instance owned plain first_place stack_beside)
      (frames_start g owned plain) stack_beside (worked_laid given) begun_new resumes destroyer is standing right

  -- the first instance is over
  abbrev later : List MemoryBlock
  later = begun_in_stack given resumes destroyer

  over_beside : AreBeside g (an_older ∷ []) owned later
  over_beside = status_beside g (an_instance ∷ []) owned later 0 an_instance refl Status.Finished None false first.beside

  over_frames : AreFrames g (an_older ∷ []) owned later
  over_frames = status_frames g (an_instance ∷ []) owned later 0 an_instance refl Status.Finished None false
      (λ held. absurd (false≢true held)) first.frames (λ held. absurd (false≢true held))

  not_around : (z : Instance) → z ≡ an_older → IsAround g an_instance z → ⊥
  not_around z same away = subst (λ (w : Instance). IsAround g an_instance w → ⊥) (sym same)
      (λ a. a 0 (refl, inl (omega arith, omega arith)) refl) away

  again_place : IsPlaceFor g (an_older ∷ []) an_instance owned later
  again_place = record {
    block = an_owned_stack_block;
    there = refl;
    live = refl;
    writable = refl;
    owned = λ e. absurd (no_allocator e);
    given = refl;
    lies = stack_lies;
    laid = λ i z e. subst (λ (w : Instance). IsLaidOut g w.coroutine) (sym (the_one an_older i z e)) (worked_laid given);
    leave = λ i z e same. subst (LeavesRoom g owned an_instance) (sym (the_one an_older i z e)) (Reused refl refl refl);
    stand = λ at i z v e away. absurd (not_around z (the_one an_older i z (judge_is g (an_older ∷ []) 0 at i z e).there)
        away);
  }

  pub again : BeginsAt g (an_older ∷ []) an_instance owned later resumes destroyer
  again = begins_at g (an_older ∷ []) an_instance owned later
      (has_room g (an_older ∷ []) an_instance owned later again_place over_beside) over_frames over_beside
      (worked_laid given) begun_new resumes destroyer is standing right

-- ---- in a field

module _ (given : Given) where
  abbrev n : FramedGiven
  n = nested_given given

  long : (k : ℕ) → (index_length n k ≡ 1) ⊎ (index_length n k ≡ 2)
  long k = index_is given (length (suspends_of (function_at given.code k)))

  divides : (k : ℕ) → (k ≡ 1) ⊎ (k ≡ 2) → 16 % k ≡ 0
  divides k (inl e) = subst (λ (n : ℕ). 16 % n ≡ 0) (sym e) refl
  divides k (inr e) = subst (λ (n : ℕ). 16 % n ≡ 0) (sym e) refl

  small : (k : ℕ) → (k ≡ 1) ⊎ (k ≡ 2) → 16 + k ≤ 24
  small k (inl e) = omega arith
  small k (inr e) = omega arith

  shut : (x : PlacedField) (kind : FieldKind) (o s : ℕ) → is_open_kind kind ≡ false
      → record { kind = kind; name = None; offset = o; size = s } ≡ x → is_open_kind x.kind ≡ true → ⊥
  shut x kind o s closed is opened = false≢true (sym closed ∙ ap (λ (y : PlacedField). is_open_kind y.kind) is ∙ opened)

  callers_laid : IsLaidOut n 1
  callers_laid = record {
    alignment = inl refl;
    within = omega arith;
    behind = omega arith;
    index = let h = small (index_length n 1) (long 1) in omega arith;
    index_aligned = divides (index_length n 1) (long 1);
    fields = field;
  }
    where
      field : (a : ℕ) (x : PlacedField) → slice_get a_callers_layout.fields a ≡ Some x → is_open_kind x.kind ≡ true
          → (16 ≤ x.offset) × ((x.offset + x.size ≤ 16) ⊎ (16 + index_length n 1 ≤ x.offset))
      field zero x e o = absurd (shut x FieldKind.Index 16 1 refl (same_some _ x e) o)
      field (suc zero) x e o = absurd (shut x FieldKind.Frame 24 32 refl (same_some _ x e) o)
      field (suc (suc a)) x e o = absurd (cc)

  callees_laid : IsLaidOut n 0
  callees_laid = record {
    alignment = inl refl;
    within = omega arith;
    behind = omega arith;
    index = let h = small (index_length n 0) (long 0) in omega arith;
    index_aligned = divides (index_length n 0) (long 0);
    fields = field;
  }
    where
      field : (a : ℕ) (x : PlacedField) → slice_get worked_layout.fields a ≡ Some x → is_open_kind x.kind ≡ true
          → (16 ≤ x.offset) × ((x.offset + x.size ≤ 16) ⊎ (16 + index_length n 0 ≤ x.offset))
      field zero x e o = absurd (shut x FieldKind.Index 16 1 refl (same_some _ x e) o)
      field (suc zero) x e o =
          let is : 24 ≡ x.offset = ap (λ (y : PlacedField). y.offset) (same_some _ x e) in
          let h = small (index_length n 0) (long 0) in
          (omega arith, inr (omega arith))
      field (suc (suc a)) x e o = absurd (cc)

  module _ (resumes : Value) (destroyer other : Part) (is : is_destroyer destroyer ≡ true)
      (standing : StandsThere n 1 destroyer) (own : is_given destroyer ≡ false) (is' : is_destroyer other ≡ true)
      (standing' : StandsThere n 0 other) (right : is_given other ≡ true) where
    abbrev blank : List MemoryBlock
    blank = blank_block 64 16 Kind.Allocator ∷ []

    blank_beside : AreBeside n [] blank blank
    blank_beside = one_beside n 64 16 Kind.Allocator (blank_twin 64 16 Kind.Allocator (omega arith) (λ e. refl))

    -- the caller's frame was allocated
    pub caller : BeginsIn n [] a_caller callers_memory blank resumes destroyer
    caller = begins n [] a_caller blank blank (blank_block 64 16 Kind.Allocator) 64 refl
        (record { live = refl; kind = refl; unowned = refl; room = omega arith }) (frames_start n blank blank)
        blank_beside callers_laid refl (record { start = refl; slots = refl; runs = refl; unfreed = refl })
        (omega arith)
        resumes destroyer is standing own

    abbrev called : List MemoryBlock
    called = callers_begun given resumes destroyer

    -- the field lies behind header and index
    around : IsAround n a_callee a_caller
    around at control cover =
        let from : 24 ≤ at = leb-true 24 at (and_parts (nat_le 24 at) (nat_lt at (a_callee.start
        + (layout_of n.layouts a_callee.coroutine).size)) cover).0 in
        let h = small (index_length n 1) (long 1) in
        ⊎_elim (λ head. head_low at head.1 from) (λ index. index_low at (index_length n 1) h index.1 from) control.1
      where
        head_low : (at : ℕ) → at < 0 + 16 → 24 ≤ at → ⊥
        head_low at lt le = omega arith

        index_low : (at k : ℕ) → 16 + k ≤ 24 → at < 0 + 16 + k → 24 ≤ at → ⊥
        index_low at k h lt le = omega arith

    callees_place : IsPlaceFor n (a_caller ∷ []) a_callee callers_memory called
    callees_place = record {
      block = owned_block 64 16 64;
      there = refl;
      live = refl;
      writable = refl;
      owned = λ e. refl;
      given = refl;
      lies = record { alignment = inl refl; block = omega arith; start = refl; inside = omega arith };
      laid = λ i z e. subst (λ (w : Instance). IsLaidOut n w.coroutine) (sym (the_one a_caller i z e)) callers_laid;
      leave = λ i z e same. subst (LeavesRoom n callers_memory a_callee) (sym (the_one a_caller i z e)) (Around around);
      stand = λ at i z v e away there lt cover. blank_byte (homes_of callers_memory) (owned_block 64 16 64) 64 at
          (byte_of v at) refl lt;
    }

    pub callee : BeginsAt n (a_caller ∷ []) a_callee callers_memory called resumes other
    callee = begins_at n (a_caller ∷ []) a_callee callers_memory called
        (has_room n (a_caller ∷ []) a_callee callers_memory called callees_place caller.beside) caller.frames
        caller.beside callees_laid (record { slots = refl; runs = refl; unfreed = refl }) resumes other is'
        standing' right
