-- The worlds in which the runs start stand beside each other.
use Rattle.std.proofs.Common.{◌≡◌, ℕ, zero, suc, ◌<◌, ◌^◌, Bool, true, false, List, [], ◌∷◌, length, map, Some, refl, sym, ap, ◌∙◌, subst, if◌then◌else◌}
use Rattle.std.specs.Prelude.{slice_get}
use Rattle.pass_proofs.specs.ir_model.declared.module.GlobalItem.{GlobalItem}
use Rattle.pass_proofs.specs.ir_model.declared.module.Module.{Module}
use Rattle.pass_split_proof.proofs.states.OwnHomes.{own_home, own_pointer}
use Rattle.pass_split_proof.proofs.states.Standing.{twins_stand}
use Rattle.pass_split_proof.specs.states.Instances.{AreFrames}
use Rattle.pass_split_proof.specs.states.Memories.{AreContents, AreTwins, AreTwinsAt, AreWorldsBeside, IsTwin, plain_kind}
use Rattle.pass_proofs.specs.run_framed.Framed.{FramedGiven}
use Rattle.pass_proofs.proofs.run_laws.memory.Written.{same_some}
use Rattle.pass_proofs.specs.run_laws.memory.Pointers.{Home, IsByte}
use Rattle.pass_proofs.specs.run_laws.memory.Standing.{AreOffsets, byte_of, own_homes}
use Rattle.pass_proofs.proofs.run_memory.Digits.{length-encode}
use Rattle.pass_proofs.specs.run_memory.Memory.{access_bytes}
use Rattle.pass_proofs.specs.run_memory.declared.block.Byte.{Byte}
use Rattle.pass_proofs.specs.run_memory.declared.block.Kind.{Kind}
use Rattle.pass_proofs.specs.run_memory.declared.block.MemoryBlock.{MemoryBlock}
use Rattle.pass_proofs.specs.run_memory.declared.pointer.Pointer.{Pointer}
use Rattle.pass_proofs.specs.run_source.declared.state.Instance.{Instance}
use Rattle.pass_proofs.specs.run_step.Step.{first_world, global_block}
use Rattle.pass_proofs.specs.run_step.Values.{access_of, operand_value, stored}

-- a byte stands for itself
pub byte_itself : (n : ℕ) (c : Byte) → AreOffsets n c → IsByte (own_homes 0 n) c c
byte_itself n Byte.Undefined h = tt
byte_itself n (Byte.Number k) h = refl
byte_itself n (Byte.Part Pointer.Null k) h = (tt, refl)
byte_itself n (Byte.Part (Pointer.Func f) k) h = (tt, refl)
byte_itself n (Byte.Part (Pointer.At b o) k) h
    = (
      ap (λ (q : Home). q.is_seen) (own_home n b h.0),
      ap (λ (p : Pointer). Byte.Part p k)
          (sym (own_pointer n b o h.0 h.1)),
    )

abbrev kind_of : Bool → Kind
kind_of constant = if constant then Kind.Constant else Kind.Global

plain_global : (constant : Bool) → plain_kind (kind_of constant) ≡ kind_of constant
plain_global true = refl
plain_global false = refl

no_allocator : (constant : Bool) → kind_of constant ≡ Kind.Allocator → ⊥
no_allocator true e = cc
no_allocator false e = cc

twin_global : (m : Module) (x : GlobalItem) → (global_block m x).size < 2 ^ 64
    → IsTwin (global_block m x) (global_block m x)
twin_global m x small = record {
  is = ap (λ (k : Kind). record (global_block m x) { kind = k }) (sym (plain_global x.constant));
  life = refl;
  long = refl;
  full = λ left. length-encode (access_bytes (access_of x.ty))
      (stored (access_of x.ty) (operand_value m [] x.ty x.init));
  small = small;
  sixteen = λ e. absurd (no_allocator x.constant e);
}

twins_from : (m : Module) (xs : List GlobalItem) → ((b : ℕ) (x : MemoryBlock)
    → slice_get (map (global_block m) xs) b ≡ Some x → x.size < 2 ^ 64) → (b : ℕ)
    → AreTwinsAt (slice_get (map (global_block m) xs) b) (slice_get (map (global_block m) xs) b)
twins_from m [] small b = tt
twins_from m (x ∷ xs) small zero = twin_global m x (small 0 (global_block m x) refl)
twins_from m (x ∷ xs) small (suc b) = twins_from m xs (λ c y e. small (suc c) y e) b

none_in : {A : Type 0} (i : ℕ) (x : Instance) → slice_get [] i ≡ Some x → A
none_in i x e = absurd (cc)

module _ (g : FramedGiven) (m : Module) (contents : AreContents m) where
  abbrev memory : List MemoryBlock
  memory = (first_world m).memory

  twins : AreTwins memory memory
  twins = record { each = λ b. twins_from m m.globals contents.small b; long = refl }

  pub worlds_start : AreWorldsBeside g [] (first_world m) (first_world m)
  worlds_start = record {
    memory = record {
      twins = twins;
      stands = twins_stand g [] memory memory twins (λ i x y e there. none_in i x e)
          (λ b i u v e f live lt opened. subst (λ (z : MemoryBlock). IsByte (own_homes 0 (length memory)) (byte_of u i)
          (byte_of z i)) (same_some u v (sym e ∙ f)) (byte_itself (length memory) (byte_of u i)
          (contents.known b i u e)));
    };
    events = refl;
    answers = refl;
    allocs = refl;
  }

-- there are no frames yet
pub frames_start : (g : FramedGiven) (m n : List MemoryBlock) → AreFrames g [] m n
frames_start g m n = record {
  laid = record {
    known = λ i x e. none_in i x e;
    slots = λ i x e. none_in i x e;
    owned = λ i x y e a b c d. none_in i x e;
    gone = λ i x y e a b c. none_in i x e;
    lies = λ i x y e a. none_in i x e;
    closed = λ i x y at e a b. none_in i x e;
    apart = λ i j x y at ne e f a b c d. none_in i x e;
  };
  headed = λ i x e a. none_in i x e;
}
