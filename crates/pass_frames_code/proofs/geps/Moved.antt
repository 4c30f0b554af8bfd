-- What a getelementptr gives, and what its loaded indices stand for.
use Rattle.std.proofs.Common.{◌≡◌, ◌⊎◌, inl, inr, ℕ, ◌<◌, ◌≤◌, Bool, true, false, List, [], ◌∷◌, refl, sym, ap, ◌∙◌, subst, arith}
use Rattle.std.specs.Prelude.{None, Option, Some, slice_get, not, ◌&&◌, ◌≢◌, if◌then◌else◌}
use Rattle.pass_proofs.specs.ir_model.Ty.{Ty}
use Rattle.pass_proofs.specs.ir_model.declared.module.Module.{Module}
use Rattle.pass_proofs.specs.ir_model.declared.operand.Arg.{Arg}
use Rattle.pass_proofs.specs.ir_model.declared.operand.Operand.{Operand}
use Rattle.pass_proofs.specs.ir_parts.Contents.{arg_operands}
use Rattle.pass_proofs.specs.pass_fetch.Fetching.{fetch_of, next_after, next_by, operand_by}
use Rattle.pass_proofs.specs.pass_fetch.declared.fetch.Fetch.{Fetch}
use Rattle.pass_frames_code.specs.Fetched.{AreSeenAs}
use Rattle.pass_frames_code.specs.Geps.{IsNotName}
use Rattle.pass_frames_code.specs.Measured.{AreArgsStanding}
use Rattle.pass_frames_code.specs.Ordinary.{IsSeenFor}
use Rattle.pass_proofs.specs.run_laws.changed.Changed.{Each}
use Rattle.pass_proofs.specs.run_laws.memory.Pointers.{Home, IsValue}
use Rattle.pass_proofs.specs.run_memory.Pointers.{moved}
use Rattle.pass_proofs.specs.run_memory.declared.block.MemoryBlock.{MemoryBlock}
use Rattle.pass_proofs.specs.run_memory.declared.pointer.Offset.{Offset}
use Rattle.pass_proofs.specs.run_memory.declared.pointer.Pointer.{Pointer}
use Rattle.pass_proofs.specs.run_memory.declared.pointer.Value.{Value}
use Rattle.pass_proofs.specs.run_step.Step.{Context, Work}
use Rattle.pass_proofs.specs.run_step.Values.{Env, arg_value, element, is_in_bounds, operand_value, value_in}

-- ---- the address

-- poison, or an address in a block
abbrev pub IsAddress : Value → Type 0
IsAddress p = (p ≡ Value.Poison) ⊎ ((block : ℕ) × (o : Offset) × (p ≡ Value.Ptr (Pointer.At block o)))

-- poison, or so far behind its base
abbrev pub IsElement : Value → Option ℕ → Value → Type 0
IsElement p d v =
    (v ≡ Value.Poison)
    ⊎ ((block : ℕ) × (o : Offset) × (far : ℕ) × (p ≡ Value.Ptr (Pointer.At block o)) × (d ≡ Some far)
    × (v ≡ Value.Ptr (Pointer.At block (moved o far))))

from_poison : (memory : List MemoryBlock) (inbounds : Bool) (d : Option ℕ)
    → element memory inbounds Value.Poison d ≡ Value.Poison
from_poison memory inbounds None = refl
from_poison memory inbounds (Some far) = refl

from_address : (memory : List MemoryBlock) (inbounds : Bool) (block : ℕ) (o : Offset) (d : Option ℕ)
    → IsElement (Value.Ptr (Pointer.At block o)) d (element memory inbounds (Value.Ptr (Pointer.At block o)) d)
from_address memory inbounds block o None = inl refl
from_address memory inbounds block o (Some far) =
    on (inbounds && not (is_in_bounds (slice_get memory block) (moved o far)))
  where
    on : (out : Bool)
        → IsElement (Value.Ptr (Pointer.At block o)) (Some far)
        (if out then Value.Poison else Value.Ptr (Pointer.At block (moved o far)))
    on true = inl refl
    on false = inr (block, o, far, refl, refl, refl)

pub is_element : (memory : List MemoryBlock) (inbounds : Bool) (p : Value) (d : Option ℕ) → IsAddress p
    → IsElement p d (element memory inbounds p d)
is_element memory inbounds p d (inl e) =
    inl (ap (λ (q : Value). element memory inbounds q d) e ∙ from_poison memory inbounds d)
is_element memory inbounds p d (inr h) =
    subst (λ (q : Value). IsElement q d (element memory inbounds q d)) (sym h.2)
    (from_address memory inbounds h.0 h.1 d)

-- ---- indices

module _ (t : List (Option Fetch)) (homes : List Home) (given : ℕ → Value) (c d : Context) (w y z : Work) where
  -- each index stands for the source's, where operands are fetched
  pub args_stand : (k : ℕ) (args : List Arg) → Each (IsSeenFor homes t given c d w y) (arg_operands args)
      → AreSeenAs t given d y z k (arg_operands args)
      → AreArgsStanding t homes c.code d.code w.values z.values k args
  args_stand k [] h seen = tt
  args_stand k (a ∷ args) h seen = (
    subst (IsValue homes (arg_value c.code w.values a)) (sym (seen.0 a.ty)) (h.0 a.ty),
    args_stand (next_after t k a.value) args h.1 seen.1,
  )

module _ (t : List (Option Fetch)) (homes : List Home) (m k : Module) (env other now : Env) (r n : ℕ) (lt : r < n)
    (same : (u : ℕ) → u ≢ r → value_in now u ≡ value_in other u) where
  operand_same : (ty : Ty) (o : Operand) → IsNotName r o → operand_value k now ty o ≡ operand_value k other ty o
  operand_same ty (Operand.Local u) d = same u d
  operand_same ty (Operand.Global g) d = refl
  operand_same ty (Operand.Number g) d = refl
  operand_same ty Operand.True d = refl
  operand_same ty Operand.False d = refl
  operand_same ty Operand.Null d = refl
  operand_same ty Operand.None d = refl
  operand_same ty Operand.Poison d = refl

  fetched_same : (ty : Ty) (at : ℕ) (o : Operand) (f : Option Fetch) → n ≤ at → IsNotName r o
      → operand_value k now ty (operand_by at f o) ≡ operand_value k other ty (operand_by at f o)
  fetched_same ty at o None le d = operand_same ty o d
  fetched_same ty at o (Some f) le d = same at (λ e. absurd (omega (arith, e, le, lt)))

  rises : (at : ℕ) (f : Option Fetch) → n ≤ at → n ≤ next_by at f
  rises at None le = le
  rises at (Some f) le = omega (arith, le)

  -- they still do once a name is set that none of them is
  pub args_still_stand : (at : ℕ) (args : List Arg) → n ≤ at → Each (IsNotName r) (arg_operands args)
      → AreArgsStanding t homes m k env other at args → AreArgsStanding t homes m k env now at args
  args_still_stand at [] le d h = tt
  args_still_stand at (a ∷ args) le d h = (
    subst (IsValue homes (arg_value m env a)) (sym (fetched_same a.ty at a.value (fetch_of t a.value) le d.0)) h.0,
    args_still_stand (next_after t at a.value) args (rises at (fetch_of t a.value) le) d.1 h.1,
  )
