-- Each run agrees with that with the names of each function in the order of their first occurrence.
use Rattle.std.proofs.Common.{◌≡◌, ℕ, ◌<◌, List, [], ◌∷◌, length, Option, Some, None, refl, subst}
use Rattle.std.proofs.lemmas.Option.{slice_get_within}
use Rattle.std.specs.Prelude.{ℤ, map, slice_get, unwrap_or}
use Rattle.pass_proofs.specs.run_agreement.Agreements.{AgreesWithin}
use Rattle.ir_base.specs.declared.name.Name.{Name}
use Rattle.ir_base.specs.declared.outcome.Word.{Word}
use Rattle.pass_proofs.proofs.rule_laws.rules.source_rules.Shaped.{function_shaped}
use Rattle.ir_model.specs.Names.{function_at, no_function}
use Rattle.ir_model.specs.declared.instr.Instr.{Instr}
use Rattle.ir_model.specs.declared.instr.Phi.{Phi}
use Rattle.ir_model.specs.declared.module.Block.{Block}
use Rattle.ir_model.specs.declared.module.Function.{Function}
use Rattle.ir_model.specs.declared.module.Module.{Module}
use Rattle.ir_model.specs.declared.module.Param.{Param}
use Rattle.compiler.proofs.order.rules.Ordered.{ordered}
use Rattle.pass_proofs.specs.ir_laws.facts.names_apart.Apart.{AreApart, AreNamesApart}
use Rattle.pass_proofs.specs.ir_laws.facts.order_rules.Renumbered.{IsRenumbered, renumbered_block, renumbered_function, renumbered_instr, renumbered_param, renumbered_phi}
use Rattle.text_canonical.specs.order.Order.{function_order, module_order}
use Rattle.text_canonical.specs.order.Shape.{Each, IsBlock, IsFunction, IsInstr, IsParam, IsPhi, IsPlaced, IsShaped}
use Rattle.pass_proofs.specs.ir_laws.facts.order_meaning.Beside.{IsHeld, IsHeldResult}
use Rattle.compiler.proofs.order.meaning.Placed.{ordered_placed}
use Rattle.compiler.proofs.order.meaning.Simulation.{agrees}
use Rattle.compiler.specs.order.meaning.Beside.{HeldIn, IsBlockHeld, IsOrdered}
use Rattle.pass_proofs.specs.rule_laws.texts.order_meaning.Held.{HoldsResults, IsBlockPlaced, IsParamPlaced, IsPhiPlaced, SetsPlaced}
use Rattle.run_plain.specs.Plain.{PlainAt}
use Rattle.pass_proofs.specs.run_laws.changed.Changed.{result_of}
use Rattle.pass_proofs.proofs.rule_laws.texts.order_rules.Ordered.{each_of}

within : (names : List Name) (i : ℕ) → IsPlaced names i → i < length names
within names i h = slice_get_within names i h.0 h.1

-- what holds of each element and of what it becomes
each_both : {A B : Type 0} (P S : A → Type 0) (Q : B → Type 0) (become : A → B) → ((x : A) → P x → Q (become x) → S x) → (xs : List A) → Each P xs → Each Q (map become xs) → Each S xs
each_both P S Q become step [] h k = tt
each_both P S Q become step (x ∷ xs) h k = (step x h.0 k.0, each_both P S Q become step xs h.1 k.1)

module _ (to : ℕ → ℕ) (names all : List Name) where
  held : (r : ℕ) → IsPlaced names r → IsPlaced all (to r) → IsHeld to (length names) (length all) r
  held r h k = (within names r h, within all (to r) k)

  instr_held : (i : Instr) → IsInstr names i → SetsPlaced all (renumbered_instr to i) → IsHeldResult to (length names) (length all) (result_of i)
  instr_held (Instr.Binary r op flags ty a b) h k = held r h.0 k
  instr_held (Instr.Icmp r pred ty a b) h k = held r h.0 k
  instr_held (Instr.Select r x a b) h k = held r h.0 k
  instr_held (Instr.Cast r op nneg arg ty) h k = held r h.0 k
  instr_held (Instr.Alloca r ty align) h k = held r h.0 k
  instr_held (Instr.Load r ty p align) h k = held r h.0 k
  instr_held (Instr.Store arg p align) h k = tt
  instr_held (Instr.Gep r inbounds ty base indices) h k = held r h.0 k
  instr_held (Instr.Call None must_tail ty callee args) h k = tt
  instr_held (Instr.Call (Some r) must_tail ty callee args) h k = held r h.0 k

  block_held : (b : Block) → IsBlock names b → IsBlockPlaced all (renumbered_block to b) → Each (λ (p : Phi). IsHeld to (length names) (length all) p.result) b.phis × Each (λ (i : Instr). IsHeldResult to (length names) (length all) (result_of i)) b.instrs
  block_held b h k = (
    each_both (IsPhi names) (λ (p : Phi). IsHeld to (length names) (length all) p.result) (IsPhiPlaced all) (renumbered_phi to) (λ p x y. held p.result x.0 y) b.phis h.1 k.0,
    each_both (IsInstr names) (λ (i : Instr). IsHeldResult to (length names) (length all) (result_of i)) (SetsPlaced all) (renumbered_instr to) instr_held b.instrs h.2 k.1,
  )

function_ordered : (f : Function) → IsFunction f → AreApart f.names → IsOrdered f
function_ordered f h apart =
    let ren : IsRenumbered f (function_order f) = ordered f h apart in
    let all : List Name = (function_order f).names in
    let placed : HoldsResults (renumbered_function ren.to all f) = subst HoldsResults ren.is (ordered_placed f h) in
    record {
      renumbered = ren;
      params = each_both (IsParam f.names) (λ (p : Param). HeldIn ren.to f p.name) (IsParamPlaced all) (renumbered_param ren.to) (λ p x y. held ren.to f.names all p.name x.1 y) f.params h.1 placed.params;
      blocks = each_both (IsBlock f.names) (IsBlockHeld ren.to f) (IsBlockPlaced all) (renumbered_block ren.to) (block_held ren.to f.names all) f.blocks (each_of (IsBlock f.names) f.blocks h.2) placed.blocks;
    }

nothing_ordered : IsOrdered no_function
nothing_ordered = record { renumbered = record { to = λ v. v; apart = λ i j e. e; is = refl }; params = tt; blocks = tt }

pub all_ordered : (m : Module) → IsShaped m → AreNamesApart m → (func : ℕ) → IsOrdered (function_at m func)
all_ordered m shaped apart func = on (slice_get m.functions func) refl
  where
    on : (o : Option Function) → slice_get m.functions func ≡ o → IsOrdered (unwrap_or o no_function)
    on None e = nothing_ordered
    on (Some f) e = function_ordered f (function_shaped m.functions func f shaped.functions e) (apart func f e)

pub order_agrees : (m : Module) → IsShaped m → AreNamesApart m → (entry : ℕ) (args : List Word) (answers : List ℤ) → AgreesWithin 1 (PlainAt m entry args answers) (PlainAt (module_order m) entry args answers)
order_agrees m shaped apart entry args answers = agrees m answers (all_ordered m shaped apart) entry args
