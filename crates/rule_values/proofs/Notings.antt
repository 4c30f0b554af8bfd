-- The table has the kinds of the values.
use Rattle.std.proofs.Common.{◌≡◌, ℕ, List, ap, ◌∙◌, Option, Some, None}
use Rattle.std.specs.Prelude.{◌==◌, if◌then◌else◌}
use Rattle.ir_parts.specs.Parts.{first_part, parts_of}
use Rattle.ir_model.specs.Ty.{Ty}
use Rattle.ir_model.specs.declared.instr.Instr.{Instr}
use Rattle.ir_model.specs.declared.instr.Phi.{Phi}
use Rattle.ir_model.specs.declared.module.Block.{Block}
use Rattle.ir_model.specs.declared.module.Function.{Function}
use Rattle.ir_model.specs.declared.module.Module.{Module}
use Rattle.ir_model.specs.declared.module.Param.{Param}
use Rattle.ir_locals.specs.Tables.{first_in, or_first}
use Rattle.ir_locals.proofs.Notes.{then_noted, from_empty}
use Rattle.rule_values.specs.Kinds.{block_kind, instr_kind, kind_if, kind_of, param_kind, phi_kind, value_kind}
use Rattle.rule_values.specs.Values.{breaks_values, first_wrong_value}
use Rattle.rule_values.specs.declared.kinds.Kind.{Kind}

pub kind_noted : (old new : ℕ → Option Kind) (r : ℕ) (kind : Kind) (t : Ty) → kind ≡ kind_of t → ((n : ℕ) → new n ≡ or_first (old n) (if r == n then Some kind else None)) → (n : ℕ) → new n ≡ or_first (old n) (kind_if r (kind_of t) n)
kind_noted old new r kind t e h n = h n ∙ ap (λ (k : Kind). or_first (old n) (if r == n then Some k else None)) e

pub block_noted : (b : Block) (phis : List Phi) (instrs : List Instr) (old mid new : ℕ → Option Kind) → phis ≡ b.phis → instrs ≡ b.instrs → ((n : ℕ) → mid n ≡ or_first (old n) (first_in phi_kind phis n)) → ((n : ℕ) → new n ≡ or_first (mid n) (first_in instr_kind instrs n)) → (n : ℕ) → new n ≡ or_first (old n) (block_kind b n)
block_noted b phis instrs old mid new ep ei h g n =
    then_noted old mid new (λ k. first_in phi_kind phis k) (λ k. first_in instr_kind instrs k) h g n
    ∙ ap (λ (l : List Phi). or_first (old n) (or_first (first_in phi_kind l n) (first_in instr_kind instrs n))) ep
    ∙ ap (λ (l : List Instr). or_first (old n) (or_first (first_in phi_kind b.phis n) (first_in instr_kind l n))) ei

pub function_noted : (f : Function) (params : List Param) (blocks : List Block) (old mid new : ℕ → Option Kind) → params ≡ f.params → blocks ≡ f.blocks → ((n : ℕ) → old n ≡ None) → ((n : ℕ) → mid n ≡ or_first (old n) (first_in param_kind params n)) → ((n : ℕ) → new n ≡ or_first (mid n) (first_in block_kind blocks n)) → (n : ℕ) → new n ≡ value_kind f n
function_noted f params blocks old mid new ep eb e h g n =
    from_empty old new (λ k. or_first (first_in param_kind params k) (first_in block_kind blocks k)) e (then_noted old mid new (λ k. first_in param_kind params k) (λ k. first_in block_kind blocks k) h g) n
    ∙ ap (λ (l : List Param). or_first (first_in param_kind l n) (first_in block_kind blocks n)) ep
    ∙ ap (λ (l : List Block). or_first (first_in param_kind f.params n) (first_in block_kind l n)) eb

pub wrong_by_table : (m : Module) (k : ℕ) (f : Function) (kinds : ℕ → Option Kind) → ((n : ℕ) → kinds n ≡ value_kind f n) → first_part (breaks_values m kinds f.result) (parts_of k f) ≡ first_wrong_value m k f
wrong_by_table m k f kinds h =
    let same : kinds ≡ value_kind f = λ i n. h n i in
    ap (λ (v : ℕ → Option Kind). first_part (breaks_values m v f.result) (parts_of k f)) same
