-- A coroutine that tests what coro.free gave, block by block.
use Rattle.std.proofs.Common.{◌≡◌, ◌+◌, ℕ, Bool, true, false, length, refl, ap, ◌∙◌}
use Rattle.std.proofs.lemmas.Bool.{false≢true}
use Rattle.std.specs.Prelude.{None, Option, Some, slice_get, if◌then◌else◌, ◌&&◌, ◌==◌}
use Rattle.elide_shape.specs.Calls.{deals_by, only_call}
use Rattle.elide_shape.specs.Edges.{edges_into, jumps_to, ways_on}
use Rattle.elide_shape.specs.Frees.{are_sides, are_sides_at, is_null_test, is_release_block, is_tested_next, not_null_first, releases, sides_of}
use Rattle.elide_shape.specs.declared.calls.Dealing.{Dealing}
use Rattle.pass_elide_ready.proofs.Guards.{IsJumpTo, IsOnlyCall, jump_is, local_is, only_call_is}
use Rattle.pass_elide_edges.proofs.pass_elide_proof.pass_proofs.ir_laws.facts.Truth.{and_first, and_second, equal_numbers}
use Rattle.pass_elide_edges.specs.pass_elide_proof.pass_proofs.ir_base.declared.ops.Pred.{Pred}
use Rattle.pass_elide_edges.specs.pass_elide_proof.pass_proofs.ir_model.Names.{is_local, position_of}
use Rattle.pass_elide_edges.specs.pass_elide_proof.pass_proofs.ir_model.Ty.{Ty}
use Rattle.pass_elide_edges.specs.pass_elide_proof.pass_proofs.ir_model.declared.instr.Instr.{Instr}
use Rattle.pass_elide_edges.specs.pass_elide_proof.pass_proofs.ir_model.declared.instr.Terminator.{Terminator}
use Rattle.pass_elide_edges.specs.pass_elide_proof.pass_proofs.ir_model.declared.module.Block.{Block}
use Rattle.pass_elide_edges.specs.pass_elide_proof.pass_proofs.ir_model.declared.module.Function.{Function}
use Rattle.pass_elide_edges.specs.pass_elide_proof.pass_proofs.ir_model.declared.operand.Operand.{Operand}
use Rattle.pass_elide_edges.specs.pass_elide_proof.pass_proofs.ir_paths.Windows.{call_operand}
use Rattle.pass_elide_edges.specs.pass_elide_proof.pass_proofs.rule_shape.Uses.{uses_of}

-- ---- the test

-- the last instruction of a block compares the name with null, and the block branches on that
pub record IsTestedAt (f : Function) (v : ℕ) (b : Block) (at : ℕ) : Type 0 where
  pub twice : uses_of f v ≡ 2
  pub last : at + 1 ≡ length b.instrs
  pub name : ℕ
  pub is_eq : Bool
  pub ty : Ty
  pub left : Operand
  pub right : Operand
  pub test : slice_get b.instrs at ≡ Some (Instr.Icmp name (if is_eq then Pred.Eq else Pred.Ne) ty left right)
  pub null : is_null_test v left right ≡ true
  pub once : uses_of f name ≡ 1
  pub one : ℕ
  pub other : ℕ
  pub branch : b.term ≡ Terminator.Branch (Operand.Local name) one other

-- where it leads: first where the name isn't null
abbrev pub free_label : (f : Function) (v : ℕ) (b : Block) (at : ℕ) → IsTestedAt f v b at → ℕ
free_label f v b at x = if x.is_eq then x.other else x.one

abbrev pub null_label : (f : Function) (v : ℕ) (b : Block) (at : ℕ) → IsTestedAt f v b at → ℕ
null_label f v b at x = if x.is_eq then x.one else x.other

-- ---- the block that frees

pub record IsRelease (f : Function) (v side null_side : ℕ) : Type 0 where
  pub into : edges_into f side ≡ 1
  pub block : Block
  pub got : slice_get f.blocks side ≡ Some block
  pub jump : IsJumpTo f null_side block.term
  pub call : Instr
  pub only : IsOnlyCall Dealing.Frees block call
  pub takes : call_operand call 0 ≡ Operand.Local v

release_is : (f : Function) (from v side null_side : ℕ) → are_sides f from v side null_side ≡ true
    → IsRelease f v side null_side
release_is f from v side null_side e =
    by_block (equal_numbers (edges_into f side) 1 (and_first (edges_into f side == 1) _ e)) (slice_get f.blocks side)
    refl (and_first (is_release_block f v null_side (slice_get f.blocks side)) _
    (and_second (edges_into f side == 1) _ e))
  where
    by_call : edges_into f side ≡ 1 → (b : Block) → slice_get f.blocks side ≡ Some b → IsJumpTo f null_side b.term
        → (o : Option Instr) → only_call Dealing.Frees b ≡ o → releases v o ≡ true → IsRelease f v side null_side
    by_call into b got jump None is h = absurd (false≢true h)
    by_call into b got jump (Some i) is h = record {
      into = into;
      block = b;
      got = got;
      jump = jump;
      call = i;
      only = only_call_is Dealing.Frees b i is;
      takes = local_is v (call_operand i 0) (and_second (deals_by Dealing.Frees i) _ h);
    }

    by_block : edges_into f side ≡ 1 → (o : Option Block) → slice_get f.blocks side ≡ o
        → is_release_block f v null_side o ≡ true → IsRelease f v side null_side
    by_block into None got h = absurd (false≢true h)
    by_block into (Some b) got h =
        by_call into b got (jump_is f null_side b.term (and_first (jumps_to f null_side b.term) _ h))
        (only_call Dealing.Frees b) refl (and_second (jumps_to f null_side b.term) _ h)

-- ---- both

pub record IsReleasedBy (f : Function) (v : ℕ) (b : Block) (at : ℕ) : Type 0 where
  pub test : IsTestedAt f v b at
  pub release : IsRelease f v (position_of f (free_label f v b at test)) (position_of f (null_label f v b at test))

-- a comparison with null stands there
record Tests (f : Function) (v : ℕ) (b : Block) (at c : ℕ) (pred : Pred) (ty : Ty) (x y : Operand) : Type 0 where
  twice : uses_of f v ≡ 2
  last : at + 1 ≡ length b.instrs
  there : slice_get b.instrs at ≡ Some (Instr.Icmp c pred ty x y)
  null : is_null_test v x y ≡ true
  once : uses_of f c ≡ 1

pub released_by : (f : Function) (from v : ℕ) (b : Block) (at : ℕ) → is_tested_next f from v b at ≡ true
    → IsReleasedBy f v b at
released_by f from v b at e =
    by_instr (equal_numbers (uses_of f v) 2 (and_first (uses_of f v == 2) _ e))
    (equal_numbers (at + 1) (length b.instrs) (and_first (at + 1 == length b.instrs) _ rest))
    (slice_get b.instrs at) refl (and_second (at + 1 == length b.instrs) _ rest)
  where
    rest : ((at + 1 == length b.instrs) && are_sides_at f from v (sides_of f v (slice_get b.instrs at) b.term)) ≡ true
    rest = and_second (uses_of f v == 2) _ e

    by_pred : (c : ℕ) (pred : Pred) (ty : Ty) (x y : Operand) → Tests f v b at c pred ty x y → (one other : ℕ)
        → b.term ≡ Terminator.Branch (Operand.Local c) one other
        → are_sides_at f from v (not_null_first pred (Some (one, other))) ≡ true → IsReleasedBy f v b at
    by_pred c Pred.Ne ty x y t one other branch h = record {
      test = record {
        twice = t.twice;
        last = t.last;
        name = c;
        is_eq = false;
        ty = ty;
        left = x;
        right = y;
        test = t.there;
        null = t.null;
        once = t.once;
        one = one;
        other = other;
        branch = branch;
      };
      release = release_is f from v (position_of f one) (position_of f other) h;
    }
    by_pred c Pred.Eq ty x y t one other branch h = record {
      test = record {
        twice = t.twice;
        last = t.last;
        name = c;
        is_eq = true;
        ty = ty;
        left = x;
        right = y;
        test = t.there;
        null = t.null;
        once = t.once;
        one = one;
        other = other;
        branch = branch;
      };
      release = release_is f from v (position_of f other) (position_of f one) h;
    }
    by_pred c _ ty x y t one other branch h = absurd (false≢true h)

    none_first : (pred : Pred) → are_sides_at f from v (not_null_first pred None) ≡ true → ⊥
    none_first Pred.Ne h = false≢true h
    none_first Pred.Eq h = false≢true h
    none_first _ h = false≢true h

    by_term : (c : ℕ) (pred : Pred) (ty : Ty) (x y : Operand) → Tests f v b at c pred ty x y → (t : Terminator)
        → b.term ≡ t
        → are_sides_at f from v (not_null_first pred (ways_on (Some c) t)) ≡ true → IsReleasedBy f v b at
    by_term c pred ty x y t (Terminator.Branch z one other) is h = on (is_local c z) refl h
      where
        on : (d : Bool) → is_local c z ≡ d
            → are_sides_at f from v (not_null_first pred (if d then Some (one, other) else None)) ≡ true
            → IsReleasedBy f v b at
        on true d k = by_pred c pred ty x y t one other
            (is ∙ ap (λ (w : Operand). Terminator.Branch w one other) (local_is c z d)) k
        on false d k = absurd (none_first pred k)
    by_term c pred ty x y t (Terminator.Jump label) is h = absurd (none_first pred h)
    by_term c pred ty x y t (Terminator.Switch arg default cases) is h = absurd (none_first pred h)
    by_term c pred ty x y t (Terminator.Ret value) is h = absurd (none_first pred h)
    by_term c pred ty x y t Terminator.Unreachable is h = absurd (none_first pred h)

    by_test : uses_of f v ≡ 2 → at + 1 ≡ length b.instrs → (c : ℕ) (pred : Pred) (ty : Ty) (x y : Operand)
        → slice_get b.instrs at ≡ Some (Instr.Icmp c pred ty x y) → (d : Bool)
        → (is_null_test v x y && (uses_of f c == 1)) ≡ d
        → are_sides_at f from v (if d then not_null_first pred (ways_on (Some c) b.term) else None) ≡ true
        → IsReleasedBy f v b at
    by_test twice last c pred ty x y there true d h =
        by_term c pred ty x y (record {
          twice = twice;
          last = last;
          there = there;
          null = and_first (is_null_test v x y) _ d;
          once = equal_numbers (uses_of f c) 1 (and_second (is_null_test v x y) _ d);
        }) b.term refl h
    by_test twice last c pred ty x y there false d h = absurd (false≢true h)

    by_instr : uses_of f v ≡ 2 → at + 1 ≡ length b.instrs → (o : Option Instr) → slice_get b.instrs at ≡ o
        → are_sides_at f from v (sides_of f v o b.term) ≡ true → IsReleasedBy f v b at
    by_instr twice last (Some (Instr.Icmp c pred ty x y)) there h =
        by_test twice last c pred ty x y there (is_null_test v x y && (uses_of f c == 1)) refl h
    by_instr twice last None there h = absurd (false≢true h)
    by_instr twice last (Some (Instr.Binary name op flags ty a c)) there h = absurd (false≢true h)
    by_instr twice last (Some (Instr.Select name x a c)) there h = absurd (false≢true h)
    by_instr twice last (Some (Instr.Cast name op nneg arg to)) there h = absurd (false≢true h)
    by_instr twice last (Some (Instr.Alloca name ty align)) there h = absurd (false≢true h)
    by_instr twice last (Some (Instr.Load name ty p align)) there h = absurd (false≢true h)
    by_instr twice last (Some (Instr.Store arg p align)) there h = absurd (false≢true h)
    by_instr twice last (Some (Instr.Gep name inbounds ty base indices)) there h = absurd (false≢true h)
    by_instr twice last (Some (Instr.Call result must_tail ty callee args)) there h = absurd (false≢true h)
