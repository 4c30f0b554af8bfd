-- Lemmas on value kinds, that speak of no pass.
use Rattle.std.proofs.Common.{◌≡◌, inl, inr, ℕ, Bool, List, refl, sym, ap, ◌∙◌}
use Rattle.std.specs.Prelude.{None, Option, Some, map, if◌then◌else◌}
use Rattle.rule_uses.specs.Undefined.{params_of}
use Rattle.rule_laws.proofs.rules.local_rules.Names.{numbers}
use Rattle.ir_laws.proofs.facts.local_rules.Woven.{other_number}
use Rattle.rule_laws.proofs.rules.source_rules.Locals.{block_names, made_by}
use Rattle.ir_laws.proofs.paths.source_rules.Locals.{listed_left, listed_right}
use Rattle.ir_laws.proofs.facts.Lists.{phi_names, row_of}
use Rattle.ir_laws.specs.flow_solver.Paths.{IsListed}
use Rattle.ir_laws.specs.ir_model.declared.instr.Instr.{Instr}
use Rattle.ir_laws.specs.ir_model.declared.instr.Phi.{Phi}
use Rattle.ir_laws.specs.ir_model.declared.module.Block.{Block}
use Rattle.ir_laws.specs.ir_model.declared.module.Function.{Function}
use Rattle.ir_laws.specs.ir_model.declared.module.Param.{Param}
use Rattle.ir_laws.specs.ir_locals.Tables.{first_in, or_first}
use Rattle.rule_values.specs.Kinds.{block_kind, instr_kind, kind_if, kind_of, param_kind, phi_kind, result_kind, value_kind}
use Rattle.rule_values.specs.declared.kinds.Kind.{Kind}
use Rattle.rule_laws.proofs.rules.local_rules.Rows.{none_in_map, none_in_row}

-- ---- the kinds of values

pub kind_if_none : (r n : ℕ) (kind : Kind) → (n ≡ r → ⊥) → kind_if r kind n ≡ None
kind_if_none r n kind h = ap (λ (b : Bool). if b then Some kind else None) (other_number r n (λ e. h (sym e)))

pub instr_none : (n : ℕ) (i : Instr) → (IsListed n (made_by i) → ⊥) → instr_kind i n ≡ None
instr_none n (Instr.Binary r op flags ty left right) h = kind_if_none r n (kind_of ty) (λ e. h (inl e))
instr_none n (Instr.Icmp r pred ty left right) h = kind_if_none r n (Kind.Int 1) (λ e. h (inl e))
instr_none n (Instr.Select r c a b) h = kind_if_none r n (kind_of a.ty) (λ e. h (inl e))
instr_none n (Instr.Cast r op nneg arg to) h = kind_if_none r n (kind_of to) (λ e. h (inl e))
instr_none n (Instr.Alloca r ty align) h = kind_if_none r n Kind.Ptr (λ e. h (inl e))
instr_none n (Instr.Load r ty address align) h = kind_if_none r n (kind_of ty) (λ e. h (inl e))
instr_none n (Instr.Store arg address align) h = refl
instr_none n (Instr.Gep r inbounds ty base indices) h = kind_if_none r n Kind.Ptr (λ e. h (inl e))
instr_none n (Instr.Call None must_tail ty callee args) h = refl
instr_none n (Instr.Call (Some r) must_tail ty callee args) h = kind_if_none r n (result_kind callee ty) (λ e. h (inl e))

pub phis_none : (n : ℕ) (ps : List Phi) → (IsListed n (phi_names ps) → ⊥) → first_in phi_kind ps n ≡ None
phis_none n = none_in_map phi_kind (λ p. p.result) n (λ p h. kind_if_none p.result n (kind_of p.ty) h)

pub params_none : (n : ℕ) (ps : List Param) → (IsListed n (map (λ p. p.name) ps) → ⊥) → first_in param_kind ps n ≡ None
params_none n = none_in_map param_kind (λ p. p.name) n (λ p h. kind_if_none p.name n (kind_of p.ty) h)

pub block_none : (n : ℕ) (b : Block) → (IsListed n (block_names b) → ⊥) → block_kind b n ≡ None
block_none n b h =
    ap (λ (o : Option Kind). or_first o (first_in instr_kind b.instrs n)) (phis_none n b.phis (λ l. h (inr (listed_left n (phi_names b.phis) (row_of made_by b.instrs) l))))
    ∙ none_in_row instr_kind made_by n (instr_none n) b.instrs (λ l. h (inr (listed_right n (phi_names b.phis) (row_of made_by b.instrs) l)))

-- a number that isn't defined has no kind
pub kind_none : (f : Function) (n : ℕ) → (IsListed n (numbers f) → ⊥) → value_kind f n ≡ None
kind_none f n h =
    ap (λ (o : Option Kind). or_first o (first_in block_kind f.blocks n)) (params_none n f.params (λ l. h (listed_left n (params_of f) (row_of block_names f.blocks) l)))
    ∙ none_in_row block_kind block_names n (block_none n) f.blocks (λ l. h (listed_right n (params_of f) (row_of block_names f.blocks) l))
