-- In which block an instance begins: one of an allocator, or that which its ramp was given.
use Rattle.std.proofs.Common.{◌≡◌, ◌≢◌, ◌⊎◌, inl, inr, ◌∙◌, ◌++◌, ℕ, Bool, true, false, List, [], ◌∷◌, length, None, Ok, Option, Result, Some, ap, if◌then◌else◌, refl, subst, ◌&&◌, ◌==◌}
use Rattle.std.specs.Prelude.{filter, is_none, not, slice_get}
use Rattle.pass_elide_lacks.proofs.Changes.{IsAs}
use Rattle.pass_elide_meaning.proofs.pass_elide_edges.pass_elide_proof.Begins.{free_block}
use Rattle.pass_elide_meaning.proofs.pass_elide_edges.pass_elide_proof.Begun.{end_or_before}
use Rattle.pass_elide_meaning.proofs.pass_elide_edges.pass_elide_proof.Changing.{WasSet, was_set}
use Rattle.pass_elide_meaning.proofs.pass_elide_edges.pass_elide_proof.StepCases.{if_ok, then_ok}
use Rattle.pass_elide_meaning.proofs.pass_elide_edges.pass_elide_proof.pass_proofs.ir_laws.facts.Lists.{get_last}
use Rattle.pass_elide_meaning.specs.pass_elide_edges.pass_elide_proof.pass_proofs.ir_base.declared.cause.Cause.{Cause}
use Rattle.pass_elide_meaning.specs.pass_elide_edges.pass_elide_proof.pass_proofs.run_framed.Framed.{FramedGiven, are_finished_at, begin_given, begin_given_at, begin_in_block, begin_in_frame, frame_around, framed_begin, has_room, has_size}
use Rattle.pass_elide_meaning.specs.pass_elide_edges.pass_elide_proof.pass_proofs.run_memory.Memory.{check, may_be_owned, own, owned_to, same_kind, with_block}
use Rattle.pass_elide_meaning.specs.pass_elide_edges.pass_elide_proof.pass_proofs.run_memory.declared.block.Kind.{Kind}
use Rattle.pass_elide_meaning.specs.pass_elide_edges.pass_elide_proof.pass_proofs.run_memory.declared.block.MemoryBlock.{MemoryBlock}
use Rattle.pass_elide_meaning.specs.pass_elide_edges.pass_elide_proof.pass_proofs.run_memory.declared.pointer.Offset.{Offset}
use Rattle.pass_elide_meaning.specs.pass_elide_edges.pass_elide_proof.pass_proofs.run_memory.declared.pointer.Pointer.{Pointer}
use Rattle.pass_elide_meaning.specs.pass_elide_edges.pass_elide_proof.pass_proofs.run_memory.declared.pointer.Value.{Value}
use Rattle.pass_elide_meaning.specs.pass_elide_edges.pass_elide_proof.pass_proofs.run_source.Source.{begin, begin_at, begun, is_among, is_live_at, new_instance}
use Rattle.pass_elide_meaning.specs.pass_elide_edges.pass_elide_proof.pass_proofs.run_source.State.{gives, own_facts, own_frame, with_memory}
use Rattle.pass_elide_meaning.specs.pass_elide_edges.pass_elide_proof.pass_proofs.run_source.declared.state.Instance.{Instance}
use Rattle.pass_elide_meaning.specs.pass_elide_edges.pass_elide_proof.pass_proofs.run_source.declared.state.Mode.{Mode}
use Rattle.pass_elide_meaning.specs.pass_elide_edges.pass_elide_proof.pass_proofs.run_source.declared.state.State.{State}
use Rattle.pass_elide_meaning.specs.pass_elide_edges.pass_elide_proof.pass_proofs.run_step.Results.{found, ok_if}
use Rattle.pass_elide_meaning.specs.pass_elide_edges.pass_elide_proof.pass_proofs.run_step.Step.{block_of}

-- an allocator's block
pub record IsHeapAt (m : List MemoryBlock) (b : ℕ) : Type 0 where
  pub there : MemoryBlock
  pub is_there : slice_get m b ≡ Some there
  pub heap : same_kind there.kind Kind.Allocator ≡ true

-- a new instance in the block, and the others as they were
pub record BeginsIn (xs ys : List Instance) (b : ℕ) : Type 0 where
  pub each : (i : ℕ) (y : Instance) → slice_get ys i ≡ Some y → IsAs xs i y ⊎ (y.block ≡ b)

-- the block is an allocator's, or the ramp was given it
pub data IsBegunBy (s : State) (b : ℕ) : Type 0 where
  Heap : IsHeapAt s.world.memory b → IsBegunBy s b
  Given : (frame : Value) → s.top.mode ≡ Mode.GivenRamp frame → block_of frame ≡ Some b → IsBegunBy s b

pub record HasBegun (s u : State) : Type 0 where
  pub block : ℕ
  pub begins : BeginsIn s.instances u.instances block
  pub by : IsBegunBy s block

ok_same : (x y : State) → ◌≡◌ {A = Result State Cause} (Ok x) (Ok y) → x ≡ y
ok_same x y h = cc

found_some : (o : Option ℕ) (b : ℕ) → found Cause.Begin o ≡ Ok b → o ≡ Some b
found_some None b h = absurd (cc)
found_some (Some c) b h = let same : c ≡ b = cc in ap Some same

check_true : {A : Type 0} (t : Bool) (r : Result A Cause) (x : A) → check t Cause.Begin r ≡ Ok x → t ≡ true
check_true true r x h = refl
check_true false r x h = absurd (cc)

both_true : (a b : Bool) → (a && b) ≡ true → b ≡ true
both_true true b h = h
both_true false b h = absurd (cc)

-- what may be owned as an allocator's is one
owned_heap : (m : List MemoryBlock) (v : Value) (size b : ℕ) (k : List MemoryBlock)
    → own m v size Kind.Allocator ≡ Ok k → block_of v ≡ Some b → IsHeapAt m b
owned_heap m (Value.Ptr (Pointer.At c o)) size b k h is =
    let same : c ≡ b = cc in subst (IsHeapAt m) same (on (slice_get m c) refl may)
  where
    may : may_be_owned Kind.Allocator size (slice_get m c) ≡ true
    may =
        both_true (o.bits == 0) (may_be_owned Kind.Allocator size (slice_get m c))
        (check_true ((o.bits == 0) && may_be_owned Kind.Allocator size (slice_get m c))
        (Ok (with_block m c (owned_to size))) k h)

    on : (z : Option MemoryBlock) → slice_get m c ≡ z → may_be_owned Kind.Allocator size z ≡ true → IsHeapAt m c
    on None ez may = absurd (cc)
    on (Some z) ez may =
        record { there = z; is_there = ez; heap = (free_block Kind.Allocator size z may).made }
owned_heap m (Value.Ptr Pointer.Null) size b k h is = absurd (cc)
owned_heap m (Value.Ptr (Pointer.Func f)) size b k h is = absurd (cc)
owned_heap m Value.Poison size b k h is = absurd (cc)
owned_heap m (Value.Int x) size b k h is = absurd (cc)

-- ---- the new instance

module _ (g : FramedGiven) (s : State) (block start : ℕ) where
  abbrev first : Instance
  first = new_instance s.top.func block start

  abbrev new : Instance
  new =
      record first {
        slots = filter (λ slot. not (is_among (own_facts g.given s).ramp_slots slot)) s.top.slots ++ [];
      }

  begins_in : BeginsIn s.instances (begun g.given s block start).instances block
  begins_in = record {
    each = λ i y at.
        by i y
        (was_set (s.instances ++ first ∷ []) (length s.instances) first new (get_last s.instances first) i y at);
  }
    where
      before : (i : ℕ) (x y : Instance) → y ≡ x
          → ((i ≡ length s.instances) × (x ≡ first)) ⊎ (slice_get s.instances i ≡ Some x)
          → IsAs s.instances i y ⊎ (y.block ≡ block)
      before i x y is (inl last) = inr (ap (λ (z : Instance). z.block) (is ∙ last.1))
      before i x y is (inr old) =
          inl
          (record {
            was = x;
            there = old;
            block = ap (λ (z : Instance). z.block) is;
            slots = ap (λ (z : Instance). z.slots) is;
          })

      by : (i : ℕ) (y : Instance) → WasSet (s.instances ++ first ∷ []) (length s.instances) new i y
          → IsAs s.instances i y ⊎ (y.block ≡ block)
      by i y w = on w.is
        where
          on : ((i ≡ length s.instances) × (y ≡ new)) ⊎ ((i ≢ length s.instances) × (y ≡ w.was))
              → IsAs s.instances i y ⊎ (y.block ≡ block)
          on (inl k) = inr (ap (λ (z : Instance). z.block) k.1)
          on (inr k) = before i w.was y k.1 (end_or_before s.instances first w.was i w.at)

-- ---- a begin

module _ (g : FramedGiven) (s : State) where
  abbrev size : ℕ
  size = (own_frame g.given s).size

  -- at the start of a block
  record StartsAt (v : Value) (kind : Kind) (u : State) : Type 0 where
    block : ℕ
    begins : BeginsIn s.instances u.instances block
    leads : block_of v ≡ Some block
    memory : List MemoryBlock
    owns : own s.world.memory v size kind ≡ Ok memory

  starts_at : (v : Value) (kind : Kind) (u : State) → begin_at g.given s v kind ≡ Ok u → StartsAt v kind u
  starts_at v kind u h =
      let first = then_ok (own s.world.memory v size kind) _ u h in
      let second = then_ok (found Cause.Begin (block_of v)) _ u first.2 in
      record {
        block = second.0;
        begins = subst (λ (z : State). BeginsIn s.instances z.instances second.0)
            (ok_same (begun g.given (with_memory s first.0) second.0 0) u second.2)
            (begins_in g (with_memory s first.0) second.0 0);
        leads = found_some (block_of v) second.0 second.1;
        memory = first.0;
        owns = first.1;
      }

  plain_begun : (result : Option ℕ) (mem : Value) (u : State) → begin g.given s result mem ≡ Ok u → HasBegun s u
  plain_begun result mem u h =
      let first = then_ok (ok_if (is_none s.top.instance) Cause.Begin s) _ u h in
      let same = if_ok (is_none s.top.instance) Cause.Begin s first.0 first.1 in
      let second = then_ok (begin_at g.given first.0 mem Kind.Allocator) _ u first.2 in
      let k = starts_at mem Kind.Allocator second.0
      (ap (λ (v : State). begin_at g.given v mem Kind.Allocator) same.1 ∙ second.1) in
      record {
        block = k.block;
        begins = subst (λ (z : State). BeginsIn s.instances z.instances k.block)
            (ok_same (gives second.0 result mem) u second.2) k.begins;
        by = Heap (owned_heap s.world.memory mem size k.block k.memory k.owns k.leads);
      }

  -- in what was given
  record StartsIn (frame : Value) (u : State) : Type 0 where
    block : ℕ
    begins : BeginsIn s.instances u.instances block
    leads : block_of frame ≡ Some block

  in_frame : (b : ℕ) (o : Offset) (u : State) → begin_in_frame g s b o ≡ Ok u
      → StartsIn (Value.Ptr (Pointer.At b o)) u
  in_frame b o u h =
      let same = if_ok (is_live_at s.world.memory b) Cause.Begin (begun g.given s b o.bits) u h in
      record {
        block = b;
        begins = subst (λ (z : State). BeginsIn s.instances z.instances b) same.1 (begins_in g s b o.bits);
        leads = refl;
      }

  in_block : (b : ℕ) (o : Offset) (u : State) → begin_in_block g s b o ≡ Ok u
      → StartsIn (Value.Ptr (Pointer.At b o)) u
  in_block b o u h =
      let test = (o.bits == 0) && has_size s.world.memory b size in
      let first = then_ok (ok_if test Cause.Begin s) _ u h in
      let same = if_ok test Cause.Begin s first.0 first.1 in
      let k = starts_at (Value.Ptr (Pointer.At b o)) Kind.Stack u
      (ap (λ (v : State). begin_at g.given v (Value.Ptr (Pointer.At b o)) Kind.Stack) same.1 ∙ first.2) in
      record { block = k.block; begins = k.begins; leads = k.leads }

  given_at : (frame : Value) (u : State) → begin_given_at g s frame ≡ Ok u → StartsIn frame u
  given_at (Value.Ptr (Pointer.At b o)) u h =
      on (has_room g o.bits size (frame_around g s.instances b o.bits)) h
    where
      on : (t : Bool) → (if t then begin_in_frame g s b o else begin_in_block g s b o) ≡ Ok u
          → StartsIn (Value.Ptr (Pointer.At b o)) u
      on true h = in_frame b o u h
      on false h = in_block b o u h
  given_at (Value.Ptr Pointer.Null) u h = absurd (cc)
  given_at (Value.Ptr (Pointer.Func f)) u h = absurd (cc)
  given_at Value.Poison u h = absurd (cc)
  given_at (Value.Int x) u h = absurd (cc)

  given_begun : (result : Option ℕ) (frame : Value) (u : State) → s.top.mode ≡ Mode.GivenRamp frame
      → begin_given g s result frame ≡ Ok u → HasBegun s u
  given_begun result frame u mode h =
      let test = is_none s.top.instance && are_finished_at s.instances frame in
      let first = then_ok (ok_if test Cause.Begin s) _ u h in
      let same = if_ok test Cause.Begin s first.0 first.1 in
      let second = then_ok (begin_given_at g first.0 frame) _ u first.2 in
      let k = given_at frame second.0
      (ap (λ (v : State). begin_given_at g v frame) same.1 ∙ second.1) in
      record {
        block = k.block;
        begins = subst (λ (z : State). BeginsIn s.instances z.instances k.block)
            (ok_same (gives second.0 result frame) u second.2) k.begins;
        by = Given frame mode k.leads;
      }

  pub has_begun : (result : Option ℕ) (mem : Value) (mode : Mode) (u : State) → s.top.mode ≡ mode
      → framed_begin g s result mem mode ≡ Ok u → HasBegun s u
  has_begun result mem (Mode.GivenRamp frame) u is h = given_begun result frame u is h
  has_begun result mem Mode.Plain u is h = plain_begun result mem u h
  has_begun result mem Mode.Ramp u is h = plain_begun result mem u h
  has_begun result mem Mode.Resumed u is h = plain_begun result mem u h
  has_begun result mem (Mode.Entering from label) u is h = plain_begun result mem u h
