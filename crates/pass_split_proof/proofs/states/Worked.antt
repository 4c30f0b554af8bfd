-- A coroutine begins in a block of 48 bytes: the memories stand beside each other before it, and its frame behind it.
use Rattle.std.proofs.Common.{◌≡◌, ℕ, zero, suc, ◌+◌, ◌%◌, ◌<◌, ◌≤◌, ◌⊎◌, inl, inr, Bool, true, false, List, [], ◌∷◌, length, Some, None, refl, sym, ap, ◌∙◌, subst, arith, if◌then◌else◌}
use Rattle.std.specs.Prelude.{nat_le, slice_get}
use Rattle.std.proofs.lemmas.Bool.{false≢true}
use Rattle.pass_proofs.specs.frame_layout.declared.layout.FieldKind.{FieldKind}
use Rattle.pass_proofs.specs.frame_layout.declared.layout.PlacedField.{PlacedField}
use Rattle.pass_proofs.specs.ir_model.Names.{function_at}
use Rattle.pass_proofs.specs.ir_model.declared.ir_type.IntWidth.{IntWidth}
use Rattle.pass_proofs.specs.pass_intrinsics.Shapes.{index_bytes, suspends_of}
use Rattle.pass_proofs.specs.pass_intrinsics.declared.shape.Part.{Part}
use Rattle.pass_split_proof.proofs.states.Fresh.{blank_twin}
use Rattle.pass_split_proof.proofs.states.Headed.{begins}
use Rattle.pass_split_proof.proofs.states.Standing.{twins_stand}
use Rattle.pass_split_proof.proofs.states.Started.{frames_start}
use Rattle.pass_split_proof.specs.states.Begun.{BeginsIn}
use Rattle.pass_split_proof.specs.states.Instances.{IsLaidOut, index_length}
use Rattle.pass_split_proof.specs.states.Memories.{AreBeside, AreTwins, AreTwinsAt}
use Rattle.pass_proofs.specs.run_framed.Framed.{is_open_kind}
use Rattle.pass_proofs.proofs.run_laws.memory.Written.{same_some}
use Rattle.pass_proofs.specs.run_laws.memory.Standing.{blank_block, byte_of, own_homes}
use Rattle.run_access_worked.proofs.run_laws_worked.Frames.{blank_byte}
use Rattle.run_access_worked.specs.run_laws_worked.Worked.{an_instance, frame_given, owned_block, worked_layout}
use Rattle.pass_proofs.specs.run_memory.declared.block.Kind.{Kind}
use Rattle.pass_proofs.specs.run_memory.declared.block.MemoryBlock.{MemoryBlock}
use Rattle.pass_proofs.specs.run_memory.declared.pointer.Value.{Value}
use Rattle.pass_proofs.specs.run_source.declared.state.Instance.{Instance}
use Rattle.pass_proofs.specs.run_source_tables.Given.{Given}

abbrev block : MemoryBlock
block = blank_block 48 16 Kind.Allocator

abbrev memory : List MemoryBlock
memory = block ∷ []

twins : AreTwins memory memory
twins = record { each = at; long = refl }
  where
    at : (b : ℕ) → AreTwinsAt (slice_get memory b) (slice_get memory b)
    at zero = blank_twin 48 16 Kind.Allocator (omega arith) (λ e. refl)
    at (suc b) = tt

-- the block is the first
only_one : (b : ℕ) (u : MemoryBlock) → slice_get memory b ≡ Some u → u ≡ block
only_one zero u e = sym (same_some block u e)
only_one (suc b) u e = absurd (cc)

none_in : {A : Type 0} (i : ℕ) (x : Instance) → slice_get [] i ≡ Some x → A
none_in i x e = absurd (cc)

module _ (given : Given) where
  pub before : AreBeside (frame_given given) [] memory memory
  before = record {
    twins = twins;
    stands = twins_stand (frame_given given) [] memory memory twins (λ i x y e there. none_in i x e)
        (λ b i u v e at live lt opened.
        let is = only_one b u e in
        blank_byte (own_homes 0 1) u 48 i (byte_of v i) (ap (λ (z : MemoryBlock). z.bytes) is)
        (subst (λ (k : ℕ). i < k) (ap (λ (z : MemoryBlock). z.size) is) lt));
  }

  -- its index takes a byte or two
  pub index_is : (n : ℕ) → (index_bytes (if nat_le n 256 then IntWidth.I8 else IntWidth.I16) ≡ 1)
      ⊎ (index_bytes (if nat_le n 256 then IntWidth.I8 else IntWidth.I16) ≡ 2)
  index_is n = on (nat_le n 256)
    where
      on : (t : Bool) → (index_bytes (if t then IntWidth.I8 else IntWidth.I16) ≡ 1)
          ⊎ (index_bytes (if t then IntWidth.I8 else IntWidth.I16) ≡ 2)
      on true = inl refl
      on false = inr refl

  long : (index_length (frame_given given) 0 ≡ 1) ⊎ (index_length (frame_given given) 0 ≡ 2)
  long = index_is (length (suspends_of (function_at given.code 0)))

  divides : (k : ℕ) → (k ≡ 1) ⊎ (k ≡ 2) → 16 % k ≡ 0
  divides k (inl e) = subst (λ (n : ℕ). 16 % n ≡ 0) (sym e) refl
  divides k (inr e) = subst (λ (n : ℕ). 16 % n ≡ 0) (sym e) refl

  small : (k : ℕ) → (k ≡ 1) ⊎ (k ≡ 2) → 16 + k ≤ 24
  small k (inl e) = omega arith
  small k (inr e) = omega arith

  pub laid : IsLaidOut (frame_given given) 0
  laid = record {
    alignment = inl refl;
    within = omega arith;
    behind = omega arith;
    index = let h = small (index_length (frame_given given) 0) long in omega arith;
    index_aligned = divides (index_length (frame_given given) 0) long;
    fields = field;
  }
    where
      field : (a : ℕ) (x : PlacedField) → slice_get worked_layout.fields a ≡ Some x → is_open_kind x.kind ≡ true
          → (16 ≤ x.offset) × ((x.offset + x.size ≤ 16) ⊎ (16 + index_length (frame_given given) 0 ≤ x.offset))
      field zero x e o = absurd (shut (same_some _ x e))
        where
          shut : record { kind = FieldKind.Index; name = None; offset = 16; size = 1 } ≡ x → ⊥
          shut is = false≢true (ap (λ (y : PlacedField). is_open_kind y.kind) is ∙ o)
      field (suc zero) x e o =
          let is : 24 ≡ x.offset = ap (λ (y : PlacedField). y.offset) (same_some _ x e) in
          let h = small (index_length (frame_given given) 0) long in
          (omega arith, inr (omega arith))
      field (suc (suc a)) x e o = absurd (cc)

  pub after : (resumes : Value) → BeginsIn (frame_given given) [] an_instance (owned_block 48 16 32 ∷ []) memory
      resumes Part.Destroy
  after resumes = begins (frame_given given) [] an_instance memory memory block 32 refl
      (record { live = refl; kind = refl; unowned = refl; room = omega arith })
      (frames_start (frame_given given) memory memory) before laid refl (record {
        start = refl;
        slots = refl;
        runs = refl;
        unfreed = refl;
      }) (omega arith) resumes Part.Destroy refl (λ e. absurd (false≢true e)) refl
