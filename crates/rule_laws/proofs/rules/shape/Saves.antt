-- The token that a suspend takes is that of a save.
use Rattle.std.proofs.Common.{◌≡◌, ◌⊎◌, inl, inr, ⊎_elim, ℕ, suc, Bool, true, false, List, [], ◌∷◌, refl, ap}
use Rattle.std.specs.Prelude.{Some, None, Option, slice_get, if◌then◌else◌, ◌==◌}
use Rattle.ir_laws.proofs.facts.Truth.{equal_numbers}
use Rattle.ir_laws.specs.ir_model.Ty.{Ty, int, ptr, token}
use Rattle.ir_laws.specs.ir_model.declared.instr.Instr.{Instr}
use Rattle.ir_laws.specs.ir_model.declared.instr.Phi.{Phi}
use Rattle.ir_laws.specs.ir_model.declared.module.Block.{Block}
use Rattle.ir_laws.specs.ir_model.declared.module.Function.{Function}
use Rattle.ir_laws.specs.ir_model.declared.module.Param.{Param}
use Rattle.ir_laws.specs.ir_model.declared.operand.Arg.{Arg}
use Rattle.ir_laws.specs.ir_model.declared.operand.Callee.{Callee}
use Rattle.ir_laws.specs.ir_model.declared.operand.Intrinsic.{Intrinsic}
use Rattle.ir_laws.specs.ir_paths.Windows.{call_result, is_call_of, operand_at}
use Rattle.ir_laws.specs.ir_locals.Tables.{first_in, or_first}
use Rattle.rule_values.specs.Instrs.{is_save_or_none, is_saved, suspends_on}
use Rattle.rule_values.specs.Kinds.{block_kind, call_kind, instr_kind, kind_if, kind_of, param_kind, phi_kind, result_kind, value_kind}
use Rattle.rule_values.specs.declared.kinds.Kind.{Kind}

-- ---- a value of a save's kind is a save's

if_some : (b : Bool) (kind : Kind) → (if b then Some kind else None) ≡ Some Kind.Saved → (b ≡ true) × (kind ≡ Kind.Saved)
if_some true kind e = let same : kind ≡ Kind.Saved = cc in (refl, same)
if_some false kind e = absurd (cc)

type_unsaved : (ty : Ty) → kind_of ty ≡ Kind.Saved → ⊥
type_unsaved (int n) e = absurd (cc)
type_unsaved ptr e = absurd (cc)
type_unsaved token e = absurd (cc)
type_unsaved _ e = absurd (cc)

either_first : (a b : Option Kind) → or_first a b ≡ Some Kind.Saved → (a ≡ Some Kind.Saved) ⊎ (b ≡ Some Kind.Saved)
either_first None b e = inr e
either_first (Some x) b e = inl e

-- the first of a row that is of that kind
record IsInRow {A : Type 0} (one : A → ℕ → Option Kind) (xs : List A) (n : ℕ) : Type 0 where
  at : ℕ
  element : A
  there : slice_get xs at ≡ Some element
  kind : one element n ≡ Some Kind.Saved

in_row_of : {A : Type 0} (one : A → ℕ → Option Kind) (xs : List A) (n : ℕ) → first_in one xs n ≡ Some Kind.Saved → IsInRow one xs n
in_row_of one [] n e = absurd (cc)
in_row_of one (x ∷ xs) n e =
    ⊎_elim (λ h. record { at = 0; element = x; there = refl; kind = h })
    (λ h. let y = in_row_of one xs n h in record { at = suc y.at; element = y.element; there = y.there; kind = y.kind })
    (either_first (one x n) (first_in one xs n) e)

param_unsaved : (p : Param) (n : ℕ) → param_kind p n ≡ Some Kind.Saved → ⊥
param_unsaved p n e = type_unsaved p.ty (if_some (p.name == n) (kind_of p.ty) e).1

phi_unsaved : (p : Phi) (n : ℕ) → phi_kind p n ≡ Some Kind.Saved → ⊥
phi_unsaved p n e = type_unsaved p.ty (if_some (p.result == n) (kind_of p.ty) e).1

-- an instruction that makes the token of a save
record IsSaveOf (i : Instr) (n : ℕ) : Type 0 where
  pub saves : is_call_of Intrinsic.CoroSave i ≡ true
  pub makes : call_result i ≡ Some n

unsaved : {i : Instr} {n : ℕ} (r m : ℕ) (kind : Kind) → (kind ≡ Kind.Saved → ⊥) → kind_if r kind m ≡ Some Kind.Saved → IsSaveOf i n
unsaved r m kind h e = absurd (h (if_some (r == m) kind e).1)

call_saved : (r : Option ℕ) (must_tail : Bool) (ty : Option Ty) (c : Callee) (args : List Arg) (n : ℕ) → call_kind r (result_kind c ty) n ≡ Some Kind.Saved → IsSaveOf (Instr.Call r must_tail ty c args) n
call_saved None must_tail ty c args n e = absurd (cc)
call_saved (Some r) must_tail None c args n e = unsaved r n Kind.Other (λ d. absurd (cc)) e
call_saved (Some r) must_tail (Some t) (Callee.Intrinsic Intrinsic.CoroSave) args n e = record { saves = refl; makes = ap (λ (k : ℕ). Some k) (equal_numbers r n (if_some (r == n) Kind.Saved e).0) }
call_saved (Some r) must_tail (Some t) _ args n e = unsaved r n (kind_of t) (type_unsaved t) e

instr_saved : (i : Instr) (n : ℕ) → instr_kind i n ≡ Some Kind.Saved → IsSaveOf i n
instr_saved (Instr.Call r must_tail ty c args) n e = call_saved r must_tail ty c args n e
instr_saved (Instr.Binary r op flags ty x y) n e = unsaved r n (kind_of ty) (type_unsaved ty) e
instr_saved (Instr.Icmp r pred ty x y) n e = unsaved r n (Kind.Int 1) (λ d. absurd (cc)) e
instr_saved (Instr.Select r c a b) n e = unsaved r n (kind_of a.ty) (type_unsaved a.ty) e
instr_saved (Instr.Cast r op nneg a to) n e = unsaved r n (kind_of to) (type_unsaved to) e
instr_saved (Instr.Alloca r ty align) n e = unsaved r n Kind.Ptr (λ d. absurd (cc)) e
instr_saved (Instr.Load r ty x align) n e = unsaved r n (kind_of ty) (type_unsaved ty) e
instr_saved (Instr.Store a x align) n e = absurd (cc)
instr_saved (Instr.Gep r inbounds ty x args) n e = unsaved r n Kind.Ptr (λ d. absurd (cc)) e

pub record IsSave (f : Function) (n : ℕ) : Type 0 where
  pub position : ℕ
  pub block : Block
  pub got : slice_get f.blocks position ≡ Some block
  pub at : ℕ
  pub instr : Instr
  pub there : slice_get block.instrs at ≡ Some instr
  pub saves : is_call_of Intrinsic.CoroSave instr ≡ true
  pub makes : call_result instr ≡ Some n

pub saved_by : (f : Function) (n : ℕ) → value_kind f n ≡ Some Kind.Saved → IsSave f n
saved_by f n e = ⊎_elim in_params in_blocks (either_first (first_in param_kind f.params n) (first_in block_kind f.blocks n) e)
  where
    in_params : first_in param_kind f.params n ≡ Some Kind.Saved → IsSave f n
    in_params h = let x = in_row_of param_kind f.params n h in absurd (param_unsaved x.element n x.kind)

    in_phis : (b : Block) → first_in phi_kind b.phis n ≡ Some Kind.Saved → IsSave f n
    in_phis b h = let x = in_row_of phi_kind b.phis n h in absurd (phi_unsaved x.element n x.kind)

    in_instrs : (q : ℕ) (b : Block) → slice_get f.blocks q ≡ Some b → first_in instr_kind b.instrs n ≡ Some Kind.Saved → IsSave f n
    in_instrs q b got h =
        let x = in_row_of instr_kind b.instrs n h in
        let y = instr_saved x.element n x.kind in
        record { position = q; block = b; got = got; at = x.at; instr = x.element; there = x.there; saves = y.saves; makes = y.makes }

    in_blocks : first_in block_kind f.blocks n ≡ Some Kind.Saved → IsSave f n
    in_blocks h =
        let x = in_row_of block_kind f.blocks n h in
        ⊎_elim (in_phis x.element) (in_instrs x.at x.element x.there) (either_first (first_in phi_kind x.element.phis n) (first_in instr_kind x.element.instrs n) x.kind)

-- ---- the tokens of suspends

pub saved_kind : (o : Option Kind) → is_saved o ≡ true → o ≡ Some Kind.Saved
saved_kind None e = absurd (cc)
saved_kind (Some Kind.Saved) e = refl
saved_kind (Some _) e = absurd (cc)

pub first_saved : (kinds : ℕ → Option Kind) (args : List Arg) → suspends_on kinds args ≡ true → is_save_or_none kinds (operand_at args 0) ≡ true
first_saved kinds [] e = refl
first_saved kinds (a ∷ args) e = e
