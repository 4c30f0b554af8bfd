-- What the rules of functions say of types at each place (rules N1, Y1 and Y2, and the widths of the grammar).
use Rattle.std.proofs.Common.{◌≡◌, ℕ, Bool, true, false, List, Option, Some, None, refl, sym, ap, ◌∙◌}
use Rattle.std.specs.Prelude.{slice_get, ◌==◌, if◌then◌else◌}
use Rattle.std.specs.List.{list_all}
use Rattle.pass_early_proof.proofs.ir_laws.facts.Members.{at_each}
use Rattle.pass_early_proof.proofs.ir_laws.facts.Truth.{and_first, equal_numbers, holds}
use Rattle.pass_early_proof.proofs.ir_laws.paths.renamed.Uses.{StandsIn, stands_in}
use Rattle.pass_early_proof.specs.ir_laws.facts.counted.Widths.{has_width}
use Rattle.ir_model.specs.Ty.{Ty}
use Rattle.ir_model.specs.declared.instr.Instr.{Instr}
use Rattle.ir_model.specs.declared.instr.Phi.{Phi}
use Rattle.ir_model.specs.declared.instr.Terminator.{Terminator}
use Rattle.ir_model.specs.declared.module.Block.{Block}
use Rattle.ir_model.specs.declared.module.Function.{Function}
use Rattle.ir_model.specs.declared.module.Module.{Module}
use Rattle.ir_model.specs.declared.module.Param.{Param}
use Rattle.ir_model.specs.declared.operand.Arg.{Arg}
use Rattle.ir_model.specs.declared.operand.Callee.{Callee}
use Rattle.ir_model.specs.declared.operand.Operand.{Operand}
use Rattle.pass_early_proof.specs.ir_parts.Contents.{instr_types, result_of as part_result}
use Rattle.pass_edges_proof.proofs.kept.sources.Definite.{call_fits, instr_fits, once, phis_fit, term_fits}
use Rattle.pass_early_proof.proofs.rule_laws.rules.counted.DefinedKinds.{kind_of_instr, kind_of_param, kind_of_phi}
use Rattle.pass_early_proof.proofs.rule_laws.rules.counted.PartFacts.{block_passes}
use Rattle.pass_early_proof.proofs.rule_laws.rules.sources.Places.{instr_there, point, term_there}
use Rattle.pass_early_proof.specs.rule_laws.rules.counted.Widths.{first_other_width, is_of_other_width}
use Rattle.pass_early_proof.specs.rule_laws.rules.function_rules.Kept.{KeepsFunctionRules}
use Rattle.pass_early_proof.specs.rule_types.Signatures.{fits_callee}
use Rattle.pass_early_proof.specs.rule_values.Instrs.{fits_instr}
use Rattle.pass_early_proof.specs.rule_values.Kinds.{call_kind, instr_kind, kind_if, kind_of, result_kind, value_kind}
use Rattle.pass_early_proof.specs.rule_values.Values.{fits_ending, fits_phi}
use Rattle.pass_early_proof.specs.rule_values.declared.kinds.Kind.{Kind}
use Rattle.pass_early_proof.specs.run_step.Step.{AtInstr, AtTerm, fetch}

-- ---- what has a kind

if_named : (r : ℕ) (own : Kind) (n : ℕ) (kind : Kind) → kind_if r own n ≡ Some kind → Some r ≡ Some n
if_named r own n kind e = on (r == n) refl e
  where
    on : (b : Bool) → (r == n) ≡ b → (if b then Some own else None) ≡ Some kind → Some r ≡ Some n
    on true d k = ap Some (equal_numbers r n d)
    on false d k = absurd (cc)

call_named : (r : Option ℕ) (own : Kind) (n : ℕ) (kind : Kind) → call_kind r own n ≡ Some kind → r ≡ Some n
call_named None own n kind e = absurd (cc)
call_named (Some r) own n kind e = if_named r own n kind e

-- an instruction that has a kind for a name makes that
kind_makes : (i : Instr) (n : ℕ) (kind : Kind) → instr_kind i n ≡ Some kind → part_result i ≡ Some n
kind_makes (Instr.Binary r op flags ty a b) n kind e = if_named r (kind_of ty) n kind e
kind_makes (Instr.Icmp r pred ty a b) n kind e = if_named r (Kind.Int 1) n kind e
kind_makes (Instr.Select r x a b) n kind e = if_named r (kind_of a.ty) n kind e
kind_makes (Instr.Cast r op nneg arg to) n kind e = if_named r (kind_of to) n kind e
kind_makes (Instr.Alloca r ty align) n kind e = if_named r Kind.Ptr n kind e
kind_makes (Instr.Load r ty address align) n kind e = if_named r (kind_of ty) n kind e
kind_makes (Instr.Store arg address align) n kind e = absurd (cc)
kind_makes (Instr.Gep r inbounds ty base indices) n kind e = if_named r Kind.Ptr n kind e
kind_makes (Instr.Call r must_tail ty callee args) n kind e = call_named r (result_kind callee ty) n kind e

module _ (m : Module) (k : ℕ) (f : Function) (rules : KeepsFunctionRules m k f) where
  -- ---- instructions and terminators

  module _ (block at : ℕ) (i : Instr) (stands : fetch f block at ≡ AtInstr i) where
    there : StandsIn f (point block at) i
    there = stands_in f (point block at) i (instr_there f block at i stands)

    pub instrs_fit : fits_instr m (value_kind f) i ≡ true
    instrs_fit = instr_fits m k f rules block there.block there.got at i there.stands

    pub names_given : (n : ℕ) (kind : Kind) → instr_kind i n ≡ Some kind → value_kind f n ≡ Some kind
    names_given n kind e =
        kind_of_instr f n (once m k f rules n) block there.block at i there.got there.stands (kind_makes i n kind e) ∙ e

    widths_known : first_other_width k f ≡ None → list_all has_width (instr_types i) ≡ true
    widths_known e =
        let x = at_each _ there.block.instrs at i (block_passes is_of_other_width k f e block there.block
        there.got).instrs
        there.stands in
        holds (list_all has_width (instr_types i)) x.2

  pub ends_fit : (block at : ℕ) (t : Terminator) → fetch f block at ≡ AtTerm t
      → fits_ending (value_kind f) f.result t ≡ true
  ends_fit block at t e =
      let x = term_there f block at t e in
      ap (fits_ending (value_kind f) f.result) (sym x.is) ∙ term_fits m k f rules block x.own x.got

  pub calls_fit : (block at : ℕ) (result : Option ℕ) (must_tail : Bool) (ty : Option Ty) (callee : Callee)
      (args : List Arg) → fetch f block at ≡ AtInstr (Instr.Call result must_tail ty callee args)
      → fits_callee m ty args callee ≡ true
  calls_fit block at result must_tail ty callee args e =
      let x = stands_in f (point block at) (Instr.Call result must_tail ty callee args)
      (instr_there f block at (Instr.Call result must_tail ty callee args) e) in
      call_fits m k f rules block x.block x.got at (Instr.Call result must_tail ty callee args) x.stands

  pub loads_fit : first_other_width k f ≡ None → (block at name : ℕ) (ty : Ty) (p : Operand) (align : ℕ)
      → fetch f block at ≡ AtInstr (Instr.Load name ty p align) → has_width ty ≡ true
  loads_fit widths block at name ty p align e =
      and_first (has_width ty) true (widths_known block at (Instr.Load name ty p align) e widths)

  -- ---- phis and parameters

  pub phi_fits : (block : ℕ) (b : Block) (at : ℕ) (p : Phi) → slice_get f.blocks block ≡ Some b
      → slice_get b.phis at ≡ Some p → fits_phi (value_kind f) p.ty p.incoming ≡ true
  phi_fits block b at p got e =
      at_each (λ (q : Phi). fits_phi (value_kind f) q.ty q.incoming ≡ true) b.phis at p
      (phis_fit m k f rules block b got) e

  pub phi_named : (block : ℕ) (b : Block) (at : ℕ) (p : Phi) → slice_get f.blocks block ≡ Some b
      → slice_get b.phis at ≡ Some p → value_kind f p.result ≡ Some (kind_of p.ty)
  phi_named block b at p got e = kind_of_phi f p.result (once m k f rules p.result) block b at p got e refl

  pub param_named : (at : ℕ) (p : Param) → slice_get f.params at ≡ Some p
      → value_kind f p.name ≡ Some (kind_of p.ty)
  param_named at p e = kind_of_param f p.name (once m k f rules p.name) at p e refl
