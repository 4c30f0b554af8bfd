-- What each instruction of a function that breaks no rule has: what is loaded or stored has bytes, allocas are small
-- and aligned, and a coroutine's own intrinsics stand in coroutines (Y1, Y4, K1).
use Rattle.std.proofs.Common.{◌≡◌, ◌<◌, ◌+◌, ◌/◌, ◌^◌, ℕ, Bool, true, false, List, [], ◌∷◌, refl, sym, subst, arith}
use Rattle.std.proofs.lemmas.Bool.{false≢true}
use Rattle.std.specs.List.{list_all}
use Rattle.std.specs.Prelude.{None, Option, Some, slice_get, ◌&&◌, ◌||◌, ◌==◌}
use Rattle.pass_elide_edges.proofs.pass_elide_proof.pass_proofs.rule_laws.rules.function_rules.Stages.{rules_larger}
use Rattle.pass_elide_edges.proofs.pass_elide_proof.ElidedFound.{fetched}
use Rattle.pass_elide_edges.specs.pass_elide_proof.Places.{instrs_of}
use Rattle.pass_elide_edges.specs.pass_elide_proof.Placing.{is_own}
use Rattle.pass_elide_edges.proofs.pass_elide_proof.pass_proofs.ir_laws.facts.Truth.{and_first, and_second, equal_numbers, holds}
use Rattle.pass_elide_edges.specs.pass_elide_proof.pass_proofs.ir_laws.facts.counted.Widths.{has_width, is_width}
use Rattle.pass_elide_edges.specs.pass_elide_proof.pass_proofs.ir_model.Layout.{size_of}
use Rattle.pass_elide_edges.specs.pass_elide_proof.pass_proofs.ir_model.Ty.{Ty, array, int, named, ptr, structure, token}
use Rattle.pass_elide_edges.specs.pass_elide_proof.pass_proofs.ir_model.declared.instr.Instr.{Instr}
use Rattle.pass_elide_edges.specs.pass_elide_proof.pass_proofs.ir_model.declared.module.Function.{Function}
use Rattle.pass_elide_edges.specs.pass_elide_proof.pass_proofs.ir_model.declared.module.Module.{Module}
use Rattle.pass_elide_edges.specs.pass_elide_proof.pass_proofs.ir_model.declared.operand.Arg.{Arg}
use Rattle.pass_elide_edges.specs.pass_elide_proof.pass_proofs.ir_model.declared.operand.Callee.{Callee}
use Rattle.pass_elide_edges.specs.pass_elide_proof.pass_proofs.ir_model.declared.operand.Intrinsic.{Intrinsic}
use Rattle.pass_elide_edges.specs.pass_elide_proof.pass_proofs.ir_parts.Contents.{instr_types}
use Rattle.pass_elide_edges.specs.pass_elide_proof.pass_proofs.rule_laws.rules.counted.Widths.{first_other_width, is_of_other_width}
use Rattle.pass_elide_edges.specs.pass_elide_proof.pass_proofs.rule_laws.rules.function_rules.Kept.{KeepsFunctionRules}
use Rattle.pass_elide_edges.specs.pass_elide_proof.pass_proofs.rule_locals.Extents.{breaks_extents, is_aligned, is_sized}
use Rattle.pass_elide_edges.specs.pass_elide_proof.pass_proofs.rule_locals.Instrs.{on_instr}
use Rattle.pass_elide_edges.specs.pass_elide_proof.pass_proofs.rule_locals.Intrinsics.{is_inner}
use Rattle.pass_elide_edges.specs.pass_elide_proof.pass_proofs.rule_names.declared.stage.Stage.{Stage}
use Rattle.pass_elide_edges.specs.pass_elide_proof.pass_proofs.run_laws.embedded.Related.{HasBytes}
use Rattle.pass_elide_edges.specs.pass_elide_proof.pass_proofs.run_memory.Memory.{access_bytes}
use Rattle.pass_elide_edges.specs.pass_elide_proof.pass_proofs.run_step.Step.{AtInstr, is_alignment}
use Rattle.pass_elide_edges.specs.pass_elide_proof.pass_proofs.run_step.Values.{access_of}
use Rattle.pass_split_proof.proofs.ready.Blocks.{is_small_alloca}
use Rattle.pass_split_proof.proofs.ready.Intrinsics.{in_coroutine}
use Rattle.pass_split_proof.proofs.ready.Rules.{at_instr}

-- ---- bytes

one_byte : (w n : ℕ) → (w == n) ≡ true → 0 < (n + 7) / 8 → 0 < (w + 7) / 8
one_byte w n e h = subst (λ (k : ℕ). 0 < (k + 7) / 8) (sym (equal_numbers w n e)) h

width_by : (w n : ℕ) (b rest : Bool) → (w == n) ≡ b → 0 < (n + 7) / 8 → (rest ≡ true → 0 < (w + 7) / 8)
    → (b || rest) ≡ true → 0 < (w + 7) / 8
width_by w n true rest e here later h = one_byte w n e here
width_by w n false rest e here later h = later h

width_some : (w : ℕ) → is_width w ≡ true → 0 < (w + 7) / 8
width_some w e = width_by w 1 (w == 1) _ refl (omega arith) (width_by w 8 (w == 8) _ refl (omega arith)
    (width_by w 16 (w == 16) _ refl (omega arith) (width_by w 32 (w == 32) _ refl (omega arith)
    (λ h. one_byte w 64 h (omega arith))))) e

has_bytes : (ty : Ty) → has_width ty ≡ true → 0 < access_bytes (access_of ty)
has_bytes (int w) e = width_some w e
has_bytes ptr e = omega arith
has_bytes token e = omega arith
has_bytes (array n t) e = omega arith
has_bytes (structure ts) e = omega arith
has_bytes (named n) e = omega arith

first_wide : (ty : Ty) (ts : List Ty) → list_all has_width (ty ∷ ts) ≡ true → has_width ty ≡ true
first_wide ty ts e = and_first (has_width ty) (list_all has_width ts) e

bytes_by : (i : Instr) → list_all has_width (instr_types i) ≡ true → HasBytes (AtInstr i)
bytes_by (Instr.Load name ty p align) e = has_bytes ty (first_wide ty [] e)
bytes_by (Instr.Store arg p align) e = has_bytes arg.ty (first_wide arg.ty [] e)
bytes_by (Instr.Binary name op flags ty a b) e = tt
bytes_by (Instr.Icmp name pred ty a b) e = tt
bytes_by (Instr.Select name x a b) e = tt
bytes_by (Instr.Cast name op nneg arg to) e = tt
bytes_by (Instr.Alloca name ty align) e = tt
bytes_by (Instr.Gep name inbounds ty base indices) e = tt
bytes_by (Instr.Call result must_tail ty callee args) e = tt

pub instr_bytes : (k : ℕ) (f : Function) → first_other_width k f ≡ None → (block at : ℕ) (i : Instr)
    → slice_get (instrs_of f block) at ≡ Some i → HasBytes (AtInstr i)
instr_bytes k f widths block at i there = bytes_by i (holds (list_all has_width (instr_types i))
    (at_instr k f is_of_other_width widths block at i (fetched f block at i there)))

-- ---- allocas

five : (a b c d e : Bool) → (a || (b || (c || (d || e)))) ≡ true → (a || b || c || d || e) ≡ true
five true b c d e h = refl
five false true c d e h = refl
five false false true d e h = refl
five false false false true e h = refl
five false false false false e h = h

pub aligned : (align : ℕ) → is_aligned align ≡ true → is_alignment align ≡ true
aligned align h = five (align == 1) (align == 2) (align == 4) (align == 8) (align == 16) h

module _ (m : Module) (k : ℕ) (f : Function) (rules : KeepsFunctionRules m k f) where
  pub alloca_aligned : (block at name align : ℕ) (ty : Ty)
      → slice_get (instrs_of f block) at ≡ Some (Instr.Alloca name ty align) → is_alignment align ≡ true
  alloca_aligned block at name align ty there =
      let i : Instr = Instr.Alloca name ty align in
      let e = at_instr k f (on_instr (breaks_extents Stage.Source m)) rules.local.extents block at i
      (fetched f block at i there) in
      aligned align (and_second (is_sized 1048576 (size_of m ty)) (is_aligned align)
      (holds (is_sized 1048576 (size_of m ty) && is_aligned align) e))

  pub alloca_small : (block at name align : ℕ) (ty : Ty)
      → slice_get (instrs_of f block) at ≡ Some (Instr.Alloca name ty align) → size_of m ty < 2 ^ 64
  alloca_small block at name align ty there =
      is_small_alloca m k f (rules_larger Stage.Source m k f rules) block at name align ty (fetched f block at (Instr.Alloca name ty align) there)

-- ---- own intrinsics

own_inner : (j : Intrinsic) → is_own j ≡ true → is_inner j ≡ true
own_inner Intrinsic.CoroResume e = absurd (false≢true e)
own_inner Intrinsic.CoroDestroy e = absurd (false≢true e)
own_inner Intrinsic.CoroDone e = absurd (false≢true e)
own_inner Intrinsic.CoroPromise e = absurd (false≢true e)
own_inner Intrinsic.LifetimeStart e = absurd (false≢true e)
own_inner Intrinsic.LifetimeEnd e = absurd (false≢true e)
own_inner Intrinsic.MemcpyI64 e = absurd (false≢true e)
own_inner Intrinsic.MemcpyI32 e = absurd (false≢true e)
own_inner _ e = refl

pub own_inside : (m : Module) (k : ℕ) (f : Function) → KeepsFunctionRules m k f → (block at : ℕ) (result : Option ℕ)
    (must_tail : Bool) (ty : Option Ty) (j : Intrinsic) (args : List Arg)
    → slice_get (instrs_of f block) at ≡ Some (Instr.Call result must_tail ty (Callee.Intrinsic j) args)
    → is_own j ≡ true → f.coroutine ≡ true
own_inside m k f rules block at result must_tail ty j args there own =
    in_coroutine m k f (rules_larger Stage.Source m k f rules) block at result must_tail ty j args
    (fetched f block at (Instr.Call result must_tail ty (Callee.Intrinsic j) args) there) (own_inner j own)
