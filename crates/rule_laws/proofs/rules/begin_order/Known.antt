-- The locals that a function names are names of its table.
use Rattle.std.proofs.Common.{◌≡◌, ◌⊎◌, ⊎_elim, ℕ, ◌<◌, Bool, true, false, List, [], ◌∷◌, length, refl, subst, inl, inr}
use Rattle.std.specs.List.{list_all}
use Rattle.std.specs.Prelude.{Some, map, slice_get, ◌&&◌, ◌==◌}
use Rattle.rule_laws.proofs.rules.counted.PartFacts.{block_passes}
use Rattle.ir_laws.specs.ir_base.declared.outcome.Place.{Place}
use Rattle.ir_laws.proofs.facts.Members.{at_each, each_there}
use Rattle.ir_laws.proofs.facts.Truth.{equal_numbers, and_first, and_second, holds}
use Rattle.ir_laws.specs.flow_solver.Paths.{IsListed}
use Rattle.ir_parts.specs.Contents.{ending_operands, instr_operands, part_labels, part_operands, part_types}
use Rattle.ir_parts.specs.Locals.{locals_of}
use Rattle.ir_parts.specs.Parts.{Ending, OfInstr, OfPhi, Part}
use Rattle.ir_parts.specs.declared.defined.Definition.{Definition}
use Rattle.rule_laws.specs.rules.function_rules.Kept.{KeepsFunctionRules}
use Rattle.ir_laws.specs.ir_model.declared.instr.Incoming.{Incoming}
use Rattle.ir_laws.specs.ir_model.declared.instr.Instr.{Instr}
use Rattle.ir_laws.specs.ir_model.declared.instr.Phi.{Phi}
use Rattle.ir_laws.specs.ir_model.declared.module.Block.{Block}
use Rattle.ir_laws.specs.ir_model.declared.module.Function.{Function}
use Rattle.ir_laws.specs.ir_model.declared.module.Module.{Module}
use Rattle.ir_laws.specs.ir_model.declared.operand.Operand.{Operand}
use Rattle.rule_names.specs.Known.{is_defined, is_kind, is_label, is_value, knows_called, knows_operand, knows_type, names_unknown}
use Rattle.ir_laws.specs.run_laws.changed.Changed.{Each}
use Rattle.ir_laws.proofs.facts.names_apart.Words.{either as either_holds}

pub definition_of : (ds : List Definition) (v : ℕ) → is_defined false ds v ≡ true → (d : Definition) × (IsListed d ds × (d.name ≡ v))
definition_of [] v h = absurd (cc)
definition_of (d ∷ ds) v h =
    ⊎_elim (λ a. (d, (inl refl, equal_numbers d.name v (and_second (is_kind false d) (d.name == v) a)))) (λ b. let x = definition_of ds v b in (x.0, (inr x.1.0, x.1.1)))
    (either_holds (is_kind false d && (d.name == v)) (is_defined false ds v) h)

-- the operand is no local, or a name of the function's table
abbrev pub IsOwn : Function → Operand → Type 0
IsOwn f (Operand.Local v) = v < length f.names
IsOwn f _ = Unit {0}

module _ (m : Module) (k : ℕ) (f : Function) (rules : KeepsFunctionRules m k f) where
  own_operand : (x : Operand) → knows_operand m (is_value k f) x ≡ true → IsOwn f x
  own_operand (Operand.Local v) h = let x = definition_of (locals_of k f) v h in subst (λ (n : ℕ). n < length f.names) x.1.1 (rules.tabled x.0 x.1.0)
  own_operand _ h = tt

  own_operands : (xs : List Operand) → list_all (knows_operand m (is_value k f)) xs ≡ true → Each (IsOwn f) xs
  own_operands [] h = tt
  own_operands (x ∷ xs) h =
      (own_operand x (and_first (knows_operand m (is_value k f) x) (list_all (knows_operand m (is_value k f)) xs) h), own_operands xs (and_second (knows_operand m (is_value k f) x) (list_all (knows_operand m (is_value k f)) xs) h))

  own_part : (x : Part) (p : Place) → names_unknown m (is_value k f) (is_label k f) p x ≡ false → Each (IsOwn f) (part_operands x)
  own_part x p e =
      let types : Bool = list_all (knows_type m) (part_types x) in
      let values : Bool = list_all (knows_operand m (is_value k f)) (part_operands x) in
      let rest : Bool = list_all (is_label k f) (part_labels x) && knows_called m x in
      own_operands (part_operands x) (and_first values rest (and_second types (values && rest) (holds (types && (values && rest)) e)))

  pub own_instrs : (q : ℕ) (b : Block) → slice_get f.blocks q ≡ Some b → Each (λ (i : Instr). Each (IsOwn f) (instr_operands i)) b.instrs
  own_instrs q b got =
      each_there _ b.instrs (λ at i e.
      let x = at_each _ b.instrs at i (block_passes (names_unknown m (is_value k f) (is_label k f)) k f rules.known q b got).instrs e in
      own_part (OfInstr i) x.0 x.2)

  pub own_term : (q : ℕ) (b : Block) → slice_get f.blocks q ≡ Some b → Each (IsOwn f) (ending_operands b.term)
  own_term q b got = let x = (block_passes (names_unknown m (is_value k f) (is_label k f)) k f rules.known q b got).ending in own_part (Ending b.term) x.0 x.1

  own_incoming : (is : List Incoming) → Each (IsOwn f) (map (λ i. i.value) is) → Each (λ (i : Incoming). IsOwn f i.value) is
  own_incoming [] h = tt
  own_incoming (i ∷ is) h = (h.0, own_incoming is h.1)

  pub own_phis : (q : ℕ) (b : Block) → slice_get f.blocks q ≡ Some b → Each (λ (p : Phi). Each (λ (i : Incoming). IsOwn f i.value) p.incoming) b.phis
  own_phis q b got =
      each_there _ b.phis (λ at p e.
      let x = at_each _ b.phis at p (block_passes (names_unknown m (is_value k f) (is_label k f)) k f rules.known q b got).phis e in
      own_incoming p.incoming (own_part (OfPhi p) x.0 x.2))

-- what holds of each with two facts
pub each_both : {A : Type 0} (P Q R : A → Type 0) → ((x : A) → P x → Q x → R x) → (xs : List A) → Each P xs → Each Q xs → Each R xs
each_both P Q R turn [] h k = tt
each_both P Q R turn (x ∷ xs) h k = (turn x h.0 k.0, each_both P Q R turn xs h.1 k.1)
