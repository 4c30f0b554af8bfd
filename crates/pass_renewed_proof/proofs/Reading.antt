-- What an instruction reads of a slot's addresses it uses.
use Rattle.std.proofs.Common.{◌≡◌, ℕ, zero, suc, Bool, true, false, List, [], ◌∷◌, length, Option, Some, None, refl}
use Rattle.std.proofs.Common.{ap, ◌∙◌, arith, ◌==◌, ◌||◌}
use Rattle.std.proofs.lemmas.Bool.{false≢true}
use Rattle.std.specs.Prelude.{IsTrue, slice_get}
use Rattle.pass_kept_proof.specs.ir_model.Names.{is_local}
use Rattle.pass_kept_proof.specs.ir_model.Ty.{Ty}
use Rattle.pass_kept_proof.specs.ir_model.declared.instr.Instr.{Instr}
use Rattle.pass_kept_proof.specs.ir_model.declared.module.Block.{Block}
use Rattle.pass_kept_proof.specs.ir_model.declared.module.Function.{Function}
use Rattle.pass_kept_proof.specs.ir_model.declared.operand.Arg.{Arg}
use Rattle.pass_kept_proof.specs.ir_model.declared.operand.Callee.{Callee}
use Rattle.pass_kept_proof.specs.ir_model.declared.operand.Intrinsic.{Intrinsic}
use Rattle.pass_kept_proof.specs.ir_paths.Slots.{addresses_of, has_name, is_in_args, occurs}
use Rattle.pass_kept_proof.specs.ir_paths.Windows.{instr_in, operand_at}
use Rattle.pass_kept_proof.specs.ir_paths.declared.point.Point.{Point}
use Rattle.frame_classes.specs.frame_slots.Spots.{At, IsUse}
use Rattle.frame_classes.specs.frame_slots.Uses.{ByInstr, ByTerm, UsesAt, is_no_use_in}
use Rattle.pass_kept_proof.proofs.Same.{or_left, or_right}
use Rattle.pass_kept_proof.specs.Needed.{reads, reads_at, reads_intrinsic}
use Rattle.run_laws.specs.embedded.Related.{HasNoSlot}
use Rattle.pass_kept_proof.specs.run_step.Step.{AtInstr, fetch, fetch_in, fetch_or}

in_args : (v : ℕ) (args : List Arg) (k : ℕ) → is_local v (operand_at args k) ≡ true → is_in_args v args ≡ true
in_args v [] k h = absurd (false≢true h)
in_args v (a ∷ args) zero h = or_left (is_local v a.value) _ h
in_args v (a ∷ args) (suc k) h = or_right (is_local v a.value) _ (in_args v args k h)

intrinsic_occurs : (v : ℕ) (i : Intrinsic) (args : List Arg) → reads_intrinsic v i args ≡ true
    → is_in_args v args ≡ true
intrinsic_occurs v Intrinsic.CoroBegin args h = in_args v args 1 h
intrinsic_occurs v Intrinsic.CoroResume args h = in_args v args 0 h
intrinsic_occurs v Intrinsic.CoroDestroy args h = in_args v args 0 h
intrinsic_occurs v Intrinsic.CoroDone args h = in_args v args 0 h
intrinsic_occurs v Intrinsic.CoroPromise args h = in_args v args 0 h
intrinsic_occurs v Intrinsic.LifetimeStart args h = h
intrinsic_occurs v Intrinsic.LifetimeEnd args h = h
intrinsic_occurs v Intrinsic.MemcpyI64 args h = h
intrinsic_occurs v Intrinsic.MemcpyI32 args h = h
intrinsic_occurs v _ args h = absurd (false≢true h)

-- the last of three
one_of_three : (a b c : Bool) → (a || (b || c)) ≡ true → ((a || b) || c) ≡ true
one_of_three true b c h = refl
one_of_three false b c h = h

reads_occur : (v : ℕ) (i : Instr) → reads v i ≡ true → occurs v i ≡ true
reads_occur v (Instr.Binary name op flags ty a b) h = h
reads_occur v (Instr.Icmp name pred ty a b) h = h
reads_occur v (Instr.Select name x a b) h = one_of_three (is_local v x) (is_local v a.value) (is_local v b.value) h
reads_occur v (Instr.Cast name op nneg arg to) h = h
reads_occur v (Instr.Alloca name ty align) h = h
reads_occur v (Instr.Load name ty p align) h = h
reads_occur v (Instr.Store arg p align) h = h
reads_occur v (Instr.Gep name inbounds ty base indices) h = h
reads_occur v (Instr.Call result must_tail ty (Callee.Named n) args) h = h
reads_occur v (Instr.Call result must_tail ty (Callee.Allocator a) args) h = h
reads_occur v (Instr.Call result must_tail ty (Callee.Intrinsic i) args) h = intrinsic_occurs v i args h
reads_occur v (Instr.Call result must_tail ty (Callee.Local f) args) h = h

-- a marker makes or marks a block, and coro.id reads nothing
intrinsic_is_use : (v : ℕ) (r : Option ℕ) (must_tail : Bool) (ty : Option Ty) (i : Intrinsic) (args : List Arg)
    → HasNoSlot (AtInstr (Instr.Call r must_tail ty (Callee.Intrinsic i) args)) → reads_intrinsic v i args ≡ true
    → is_no_use_in (Instr.Call r must_tail ty (Callee.Intrinsic i) args) ≡ false
intrinsic_is_use v r must_tail ty Intrinsic.LifetimeStart args n h = absurd n
intrinsic_is_use v r must_tail ty Intrinsic.LifetimeEnd args n h = absurd n
intrinsic_is_use v r must_tail ty Intrinsic.CoroId args n h = absurd (false≢true h)
intrinsic_is_use v r must_tail ty _ args n h = refl

is_use : (v : ℕ) (i : Instr) → HasNoSlot (AtInstr i) → reads v i ≡ true → is_no_use_in i ≡ false
is_use v (Instr.Binary name op flags ty a b) n h = refl
is_use v (Instr.Icmp name pred ty a b) n h = refl
is_use v (Instr.Select name x a b) n h = refl
is_use v (Instr.Cast name op nneg arg to) n h = refl
is_use v (Instr.Alloca name ty align) n h = refl
is_use v (Instr.Load name ty p align) n h = refl
is_use v (Instr.Store arg p align) n h = refl
is_use v (Instr.Gep name inbounds ty base indices) n h = refl
is_use v (Instr.Call result must_tail ty (Callee.Named f) args) n h = refl
is_use v (Instr.Call result must_tail ty (Callee.Allocator a) args) n h = refl
is_use v (Instr.Call result must_tail ty (Callee.Intrinsic i) args) n h = intrinsic_is_use v result must_tail ty i
    args n h
is_use v (Instr.Call result must_tail ty (Callee.Local f) args) n h = refl

-- ---- what stands at a point

module _ (f : Function) (p : Point) (v : ℕ) where
  used_by : (b : Option Block) → slice_get f.blocks p.block ≡ b → HasNoSlot (fetch_in b p.at)
      → reads_at v (fetch_in b p.at) ≡ true → UsesAt f v p
  used_by None e n h = absurd (false≢true h)
  used_by (Some b) e n h = on (slice_get b.instrs p.at) refl (p.at == length b.instrs) refl n h
    where
      same : (a b : ℕ) → (a == b) ≡ true → a ≡ b
      same a b e = grind arith

      on : (o : Option Instr) → slice_get b.instrs p.at ≡ o → (t : Bool) → (p.at == length b.instrs) ≡ t
          → HasNoSlot (fetch_or o t b.term) → reads_at v (fetch_or o t b.term) ≡ true → UsesAt f v p
      on (Some i) ei t et n h = ByInstr i (ap (λ o. instr_in o p.at) e ∙ ei) (is_use v i n h) (reads_occur v i h)
      on None ei true et n h = ByTerm b e (same p.at (length b.instrs) et) h
      on None ei false et n h = absurd (false≢true h)

  -- what is read of an address of the slot is a use of it
  pub read_used : (slot : ℕ) → IsTrue (has_name (addresses_of f slot) v) → HasNoSlot (fetch f p.block p.at)
      → IsTrue (reads_at v (fetch f p.block p.at)) → IsUse f slot (At p)
  read_used slot address n h = record {
    address = v;
    is_address = address;
    uses = used_by (slice_get f.blocks p.block) refl n h;
  }
