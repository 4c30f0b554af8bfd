-- Lemmas on cell kinds.
use Rattle.std.proofs.Common.{◌≡◌, ◌⊎◌, ⊎_elim, ℕ, Bool, true, List, sym, ap, ◌∙◌, subst}
use Rattle.std.specs.Prelude.{Option, Some, None}
use Rattle.pass_edges_proof.proofs.rule_laws.rules.counted.Types.{is_cell_type}
use Rattle.pass_edges_proof.specs.ir_parts.Contents.{result_of}
use Rattle.ir_model.specs.Ty.{Ty, array, int, named, ptr, structure, token}
use Rattle.ir_model.specs.declared.instr.Instr.{Instr}
use Rattle.ir_model.specs.declared.operand.Arg.{Arg}
use Rattle.ir_model.specs.declared.operand.Callee.{Callee}
use Rattle.pass_edges_proof.specs.pass_cells.Kept.{answer_type, result_type}
use Rattle.pass_edges_proof.specs.rule_values.Kinds.{instr_kind, kind_if, kind_of, result_kind}
use Rattle.pass_edges_proof.specs.rule_values.declared.kinds.Kind.{Kind}
use Rattle.pass_edges_proof.proofs.rule_laws.frames.counted.CellKinds.{IsCellKind, save_or_kind}
use Rattle.pass_edges_proof.proofs.rule_laws.rules.counted.CellKinds.{own_if}

-- ---- the type of a result is that of its kind

call_typed : (r : ℕ) (must_tail : Bool) (ty : Option Ty) (c : Callee) (args : List Arg) → IsCellKind (kind_if r (result_kind c ty) r) → kind_if r (result_kind c ty) r ≡ Some (kind_of (answer_type ty))
call_typed r must_tail None c args h = absurd (none h.ty h.cell (sym (own_if r Kind.Other) ∙ h.kind))
  where
    none : (t : Ty) → is_cell_type t ≡ true → Some Kind.Other ≡ Some (kind_of t) → ⊥
    none (int w) x e = absurd (cc)
    none ptr x e = absurd (cc)
    none token x e = absurd (cc)
    none (array n t) x e = absurd (cc)
    none (structure ts) x e = absurd (cc)
    none (named n) x e = absurd (cc)
call_typed r must_tail (Some t) c args h =
    ⊎_elim (λ e. own_if r (result_kind c (Some t)) ∙ ap (λ (k : Kind). Some k) e)
    (λ e. absurd (none h.ty h.cell (sym (own_if r Kind.Saved) ∙ ap (λ (d : Callee). kind_if r (result_kind d (Some t)) r) (sym e) ∙ h.kind)))
    (save_or_kind c t)
  where
    none : (t : Ty) → is_cell_type t ≡ true → Some Kind.Saved ≡ Some (kind_of t) → ⊥
    none (int w) x e = absurd (cc)
    none ptr x e = absurd (cc)
    none token x e = absurd (cc)
    none (array n t) x e = absurd (cc)
    none (structure ts) x e = absurd (cc)
    none (named n) x e = absurd (cc)

pub result_typed : (i : Instr) (r : ℕ) → result_of i ≡ Some r → IsCellKind (instr_kind i r) → instr_kind i r ≡ Some (kind_of (result_type i))
result_typed (Instr.Binary n op flags ty left right) r e h = let same : n ≡ r = cc in ap (λ (x : ℕ). kind_if x (kind_of ty) r) same ∙ own_if r (kind_of ty)
result_typed (Instr.Icmp n pred ty left right) r e h = let same : n ≡ r = cc in ap (λ (x : ℕ). kind_if x (Kind.Int 1) r) same ∙ own_if r (Kind.Int 1)
result_typed (Instr.Select n x y z) r e h = let same : n ≡ r = cc in ap (λ (k : ℕ). kind_if k (kind_of y.ty) r) same ∙ own_if r (kind_of y.ty)
result_typed (Instr.Cast n op nneg arg to) r e h = let same : n ≡ r = cc in ap (λ (x : ℕ). kind_if x (kind_of to) r) same ∙ own_if r (kind_of to)
result_typed (Instr.Alloca n ty align) r e h = let same : n ≡ r = cc in ap (λ (x : ℕ). kind_if x Kind.Ptr r) same ∙ own_if r Kind.Ptr
result_typed (Instr.Load n ty address align) r e h = let same : n ≡ r = cc in ap (λ (x : ℕ). kind_if x (kind_of ty) r) same ∙ own_if r (kind_of ty)
result_typed (Instr.Store arg address align) r e h = absurd (cc)
result_typed (Instr.Gep n inbounds ty base indices) r e h = let same : n ≡ r = cc in ap (λ (x : ℕ). kind_if x Kind.Ptr r) same ∙ own_if r Kind.Ptr
result_typed (Instr.Call None must_tail ty callee args) r e h = absurd (cc)
result_typed (Instr.Call (Some n) must_tail ty callee args) r e h =
    let same : n ≡ r = cc in
    ap (λ (x : ℕ). kind_if x (result_kind callee ty) r) same ∙ call_typed r must_tail ty callee args (subst (λ (x : ℕ). IsCellKind (kind_if x (result_kind callee ty) r)) same h)
