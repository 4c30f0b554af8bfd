-- The result of a suspend is an integer of eight bits, and a name of the function.
use Rattle.std.proofs.Common.{◌≡◌, inr, ℕ, ◌<◌, ◌≤◌, Bool, true, false, [], length, ap, ◌∙◌, subst}
use Rattle.std.specs.Prelude.{Some, None, if◌then◌else◌, ◌&&◌, ◌==◌}
use Rattle.rule_laws.proofs.rules.counted.DefinedKinds.{kind_of_instr, made_in}
use Rattle.rule_laws.proofs.rules.counted.PartFacts.{block_passes}
use Rattle.ir_laws.specs.ir_base.declared.outcome.Place.{Place}
use Rattle.rule_uses.specs.Undefined.{params_of}
use Rattle.ir_laws.proofs.facts.Members.{at_each}
use Rattle.ir_laws.proofs.facts.Truth.{equal_numbers, itself, and_first, holds}
use Rattle.rule_laws.proofs.rules.local_rules.Names.{numbers}
use Rattle.rule_laws.proofs.rules.local_rules.Woven.{apart_names}
use Rattle.ir_laws.proofs.paths.source_rules.Locals.{Apart, in_row, listed_right}
use Rattle.rule_laws.proofs.rules.source_rules.Locals.{block_names, made_by, names_are}
use Rattle.ir_laws.proofs.facts.Lists.{phi_names, row_of}
use Rattle.ir_laws.specs.flow_solver.Paths.{IsListed}
use Rattle.rule_laws.proofs.rules.shape.Ordered.{IsSuspendValue}
use Rattle.ir_laws.proofs.paths.shape.Steady.{is_suspend}
use Rattle.rule_laws.proofs.rules.shape.Stands.{StandsAt, suspend_stands}
use Rattle.rule_laws.proofs.rules.shape.Unneeded.{suspend_result}
use Rattle.ir_parts.specs.Locals.{locals_of}
use Rattle.ir_parts.specs.Parts.{OfInstr}
use Rattle.rule_laws.specs.rules.function_rules.Kept.{KeepsFunctionRules}
use Rattle.ir_laws.specs.ir_model.Ty.{Ty, int}
use Rattle.ir_laws.specs.ir_model.declared.instr.Instr.{Instr}
use Rattle.ir_laws.specs.ir_model.declared.module.Function.{Function}
use Rattle.ir_laws.specs.ir_model.declared.module.Module.{Module}
use Rattle.ir_laws.specs.ir_model.declared.operand.Callee.{Callee}
use Rattle.ir_laws.specs.ir_model.declared.operand.Intrinsic.{Intrinsic}
use Rattle.ir_laws.specs.ir_paths.Windows.{call_result}
use Rattle.rule_types.specs.Signatures.{are_wanted, calls_otherwise}
use Rattle.rule_types.specs.Wants.{intrinsic_params, is_basic}
use Rattle.rule_types.specs.declared.wants.Basic.{Basic}
use Rattle.rule_values.specs.Kinds.{instr_kind, kind_of, value_kind}
use Rattle.rule_values.specs.declared.kinds.Kind.{Kind}
use Rattle.rule_laws.proofs.rules.woven_rules.Once.{apart_once, names_below}
use Rattle.ir_laws.specs.facts.woven_rules.Pairs.{times}

byte_is : (ty : Ty) → is_basic Basic.I8 ty ≡ true → ty ≡ int 8
byte_is (int n) e = ap int (equal_numbers n 8 e)
byte_is _ e = absurd (cc)

kind_there : (v r : ℕ) (kind : Kind) → r ≡ v → (if r == v then Some kind else None) ≡ Some kind
kind_there v r kind e = ap (λ (t : Bool). if t then Some kind else None) (ap (λ (u : ℕ). u == v) e ∙ itself v)

suspend_byte : (m : Module) (p : Place) (v : ℕ) (i : Instr) → is_suspend i ≡ true → call_result i ≡ Some v → calls_otherwise m p (OfInstr i) ≡ false → instr_kind i v ≡ Some (Kind.Int 8)
suspend_byte m p v (Instr.Call None must_tail ty (Callee.Intrinsic Intrinsic.CoroSuspend) args) e d c = absurd (cc)
suspend_byte m p v (Instr.Call (Some r) must_tail None (Callee.Intrinsic Intrinsic.CoroSuspend) args) e d c = absurd (cc)
suspend_byte m p v (Instr.Call (Some r) must_tail (Some ty) (Callee.Intrinsic Intrinsic.CoroSuspend) args) e d c =
    let same : r ≡ v = cc in
    let byte : ty ≡ int 8 = byte_is ty (and_first (is_basic Basic.I8 ty) (are_wanted (intrinsic_params Intrinsic.CoroSuspend) args) (holds (is_basic Basic.I8 ty && are_wanted (intrinsic_params Intrinsic.CoroSuspend) args) c)) in
    kind_there v r (kind_of ty) same ∙ ap (λ (t : Ty). Some (kind_of t)) byte
suspend_byte m p v _ e d c = absurd (cc)

module _ (m : Module) (k : ℕ) (f : Function) (rules : KeepsFunctionRules m k f) where
  pub names_once : (n : ℕ) → times n (numbers f) ≤ 1
  names_once = apart_once (numbers f) (subst Apart (names_are k f) (apart_names [] (locals_of k f) rules.definitions))

  pub suspend_kind : (v : ℕ) → IsSuspendValue f v → value_kind f v ≡ Some (Kind.Int 8)
  suspend_kind v x =
      let s : StandsAt f Intrinsic.CoroSuspend v = suspend_stands f v x in
      let c = at_each _ s.block.instrs s.at s.instr (block_passes (calls_otherwise m) k f rules.calls s.position s.block s.got).instrs s.there in
      kind_of_instr f v (names_once v) s.position s.block s.at s.instr s.got s.there (suspend_result s.instr s.calls ∙ s.makes)
      ∙ suspend_byte m c.0 v s.instr s.calls s.makes c.2

  pub suspend_low : (v : ℕ) → IsSuspendValue f v → v < length f.names
  suspend_low v x =
      let s : StandsAt f Intrinsic.CoroSuspend v = suspend_stands f v x in
      let made : IsListed v (made_by s.instr) = made_in s.instr v (suspend_result s.instr s.calls ∙ s.makes) in
      names_below k f rules.tabled v
      (listed_right v (params_of f) (row_of block_names f.blocks)
      (in_row block_names f.blocks s.position v s.block s.got (inr (listed_right v (phi_names s.block.phis) (row_of made_by s.block.instrs) (in_row made_by s.block.instrs s.at v s.instr s.there made)))))
