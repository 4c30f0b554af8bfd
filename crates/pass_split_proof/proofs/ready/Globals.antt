-- Globals hold the same where coroutines are split: no initial value names a function (Y1).
use Rattle.std.proofs.Common.{◌≡◌, ℕ, suc, true, List, [], ◌∷◌, map, refl, ap}
use Rattle.std.specs.Prelude.{Some, is_some, slice_get}
use Rattle.pass_proofs.specs.frame_layout.declared.layout.Layouts.{Layouts}
use Rattle.pass_proofs.proofs.ir_laws.facts.Truth.{and_second, holds}
use Rattle.pass_proofs.specs.ir_laws.facts.same_names.Short.{HaveShortNames}
use Rattle.pass_proofs.specs.ir_model.Names.{global_named}
use Rattle.pass_proofs.specs.ir_model.Ty.{Ty}
use Rattle.pass_proofs.specs.ir_model.declared.module.GlobalItem.{GlobalItem}
use Rattle.pass_proofs.specs.ir_model.declared.module.Module.{Module}
use Rattle.pass_proofs.specs.ir_model.declared.operand.Operand.{Operand}
use Rattle.pass_proofs.specs.exits.states.Exits.{exits_split}
use Rattle.pass_split_proof.proofs.ready.Moved.{names_moved}
use Rattle.pass_split_proof.proofs.ready.Operands.{address_kept}
use Rattle.pass_split_proof.specs.first_exits.Parted.{parted_module}
use Rattle.pass_split_proof.specs.ready.Names.{HasMovedNames}
use Rattle.pass_proofs.specs.rule_laws.rules.plain_rules.Items.{KeepsItemRules}
use Rattle.pass_proofs.specs.rule_names.declared.stage.Stage.{Stage}
use Rattle.pass_proofs.specs.rule_types.Wants.{is_ptr}
use Rattle.pass_proofs.specs.rule_values.Initials.{fits_initial}
use Rattle.pass_proofs.specs.run_memory.Memory.{access_bytes, encode}
use Rattle.pass_proofs.specs.run_memory.declared.block.MemoryBlock.{MemoryBlock}
use Rattle.pass_proofs.specs.run_memory.declared.pointer.Value.{Value}
use Rattle.pass_proofs.specs.run_step.Step.{first_world, global_block}
use Rattle.pass_proofs.specs.run_step.Values.{access_of, operand_value, stored}

mapped : {A B : Type 0} (f g : A → B) (xs : List A) → ((k : ℕ) (x : A) → slice_get xs k ≡ Some x → f x ≡ g x)
    → map f xs ≡ map g xs
mapped f g [] h = refl
mapped f g (x ∷ xs) h = λ i. h 0 x refl i ∷ mapped f g xs (λ k y e. h (suc k) y e) i

initial_kept : (ls : Layouts) (m : Module) → HasMovedNames ls m → (ty : Ty) (x : Operand) → fits_initial m ty x ≡ true
    → operand_value (parted_module ls m) [] ty x ≡ operand_value m [] ty x
initial_kept ls m names ty (Operand.Global n) e
    = (address_kept ls m n names (and_second (is_ptr ty) (is_some (global_named m n)) e)).same
initial_kept ls m names ty (Operand.Local v) e = refl
initial_kept ls m names ty (Operand.Number z) e = refl
initial_kept ls m names ty Operand.True e = refl
initial_kept ls m names ty Operand.False e = refl
initial_kept ls m names ty Operand.Null e = refl
initial_kept ls m names ty Operand.None e = refl
initial_kept ls m names ty Operand.Poison e = refl

block_kept : (ls : Layouts) (m : Module) → HasMovedNames ls m → (g : GlobalItem) → fits_initial m g.ty g.init ≡ true
    → global_block (parted_module ls m) g ≡ global_block m g
block_kept ls m names g e = ap (λ (v : Value). record (global_block m g) {
  bytes = encode (access_bytes (access_of g.ty)) (stored (access_of g.ty) v);
}) (initial_kept ls m names g.ty g.init e)

pub globals_kept : (ls : Layouts) (m : Module) → KeepsItemRules Stage.Source m → HaveShortNames m
    → first_world (parted_module ls (exits_split m)) ≡ first_world (exits_split m)
globals_kept ls m rules short = ap (λ (memory : List MemoryBlock). record (first_world m) { memory = memory })
    (mapped (global_block (parted_module ls (exits_split m))) (global_block (exits_split m)) m.globals
    (λ k g e. block_kept ls (exits_split m) (names_moved ls m rules short) g
    (holds (fits_initial (exits_split m) g.ty g.init) (rules.initials.globals k g e))))
