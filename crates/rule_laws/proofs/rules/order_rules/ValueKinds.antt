-- The kind of a value of a renumbered function is that of the value.
use Rattle.std.proofs.Common.{◌≡◌, ℕ, List, refl, Option, Some, None}
use Rattle.std.specs.Prelude.{if◌then◌else◌, option_map}
use Rattle.ir_laws.specs.ir_base.declared.name.Name.{Name}
use Rattle.ir_laws.specs.ir_model.Ty.{Ty}
use Rattle.ir_laws.specs.ir_model.declared.instr.Instr.{Instr}
use Rattle.ir_laws.specs.ir_model.declared.module.Block.{Block}
use Rattle.ir_laws.specs.ir_model.declared.module.Function.{Function}
use Rattle.ir_laws.specs.ir_model.declared.operand.Callee.{Callee}
use Rattle.ir_laws.specs.ir_locals.Tables.{or_first}
use Rattle.rule_laws.proofs.rules.order_rules.Local.{noted_over}
use Rattle.ir_laws.proofs.facts.Renumbering.{equal_same}
use Rattle.ir_laws.specs.facts.order_rules.Renumbered.{StaysApart, renumbered_block, renumbered_callee, renumbered_function, renumbered_instr, renumbered_param, renumbered_phi}
use Rattle.rule_values.specs.Kinds.{block_kind, call_kind, instr_kind, kind_if, kind_of, param_kind, phi_kind, result_kind, value_kind}
use Rattle.rule_values.specs.declared.kinds.Kind.{Kind}

module _ (to : ℕ → ℕ) (apart : StaysApart to) (n : ℕ) where
  if_over : (r : ℕ) (kind : Kind) → kind_if (to r) kind (to n) ≡ kind_if r kind n
  if_over r kind = λ i. if equal_same to apart r n i then Some kind else None

  result_same : (c : Callee) (ty : Option Ty) → result_kind (renumbered_callee to c) ty ≡ result_kind c ty
  result_same (Callee.Named x) ty = refl
  result_same (Callee.Allocator a) ty = refl
  result_same (Callee.Intrinsic i) ty = refl
  result_same (Callee.Local x) None = refl
  result_same (Callee.Local x) (Some t) = refl

  call_over : (r : Option ℕ) (kind : Kind) → call_kind (option_map to r) kind (to n) ≡ call_kind r kind n
  call_over None kind = refl
  call_over (Some r) kind = if_over r kind

  instr_over : (x : Instr) → instr_kind (renumbered_instr to x) (to n) ≡ instr_kind x n
  instr_over (Instr.Binary r op flags ty left right) = if_over r (kind_of ty)
  instr_over (Instr.Icmp r pred ty left right) = if_over r (Kind.Int 1)
  instr_over (Instr.Select r c a b) = if_over r (kind_of a.ty)
  instr_over (Instr.Cast r op nneg arg ty) = if_over r (kind_of ty)
  instr_over (Instr.Alloca r ty align) = if_over r Kind.Ptr
  instr_over (Instr.Load r ty address align) = if_over r (kind_of ty)
  instr_over (Instr.Store arg address align) = refl
  instr_over (Instr.Gep r inbounds ty base indices) = if_over r Kind.Ptr
  instr_over (Instr.Call r must_tail ty callee args) = λ i. call_over r (result_same callee ty i) i

  block_over : (b : Block) → block_kind (renumbered_block to b) (to n) ≡ block_kind b n
  block_over b = λ i.
      or_first (noted_over (renumbered_phi to) phi_kind phi_kind n (to n) (λ p. if_over p.result (kind_of p.ty)) b.phis i)
      (noted_over (renumbered_instr to) instr_kind instr_kind n (to n) instr_over b.instrs i)

  pub kind_over : (names : List Name) (f : Function) → value_kind (renumbered_function to names f) (to n) ≡ value_kind f n
  kind_over names f = λ i.
      or_first (noted_over (renumbered_param to) param_kind param_kind n (to n) (λ p. if_over p.name (kind_of p.ty)) f.params i)
      (noted_over (renumbered_block to) block_kind block_kind n (to n) block_over f.blocks i)
