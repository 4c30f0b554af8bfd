-- What stands at a place of a function that breaks no rule reads operands that may be read in its parts.
use Rattle.std.proofs.Common.{◌≡◌, ℕ, ◌+◌, Bool, true, false, List, [], ◌∷◌, length, refl, sym, ap, ◌∙◌, subst}
use Rattle.std.specs.List.{list_all}
use Rattle.std.specs.Prelude.{None, Some, is_some, map, not, slice_get, ◌&&◌, ◌||◌, if◌then◌else◌, ◌==◌}
use Rattle.pass_proofs.specs.flow_solver.Paths.{IsListed}
use Rattle.pass_proofs.specs.frame_layout.declared.layout.Layouts.{Layouts}
use Rattle.pass_proofs.specs.ir_base.declared.outcome.Place.{Place}
use Rattle.pass_proofs.proofs.ir_laws.paths.uses.Paths.{place_of}
use Rattle.pass_proofs.proofs.ir_laws.paths.woven_rules.Unbroken.{each_listed as each_of}
use Rattle.pass_proofs.specs.ir_model.Names.{first_where, same_name}
use Rattle.pass_proofs.specs.ir_model.declared.instr.Incoming.{Incoming}
use Rattle.pass_proofs.specs.ir_model.declared.instr.Instr.{Instr}
use Rattle.pass_proofs.specs.ir_model.declared.instr.Phi.{Phi}
use Rattle.pass_proofs.specs.ir_model.declared.instr.Terminator.{Terminator}
use Rattle.pass_proofs.specs.ir_model.declared.module.Block.{Block}
use Rattle.pass_proofs.specs.ir_model.declared.module.Function.{Function}
use Rattle.pass_proofs.specs.ir_model.declared.module.GlobalItem.{GlobalItem}
use Rattle.pass_proofs.specs.ir_model.declared.module.Module.{Module}
use Rattle.pass_proofs.specs.ir_model.declared.operand.Callee.{Callee}
use Rattle.pass_proofs.specs.ir_model.declared.operand.Operand.{Operand}
use Rattle.pass_proofs.specs.ir_parts.Contents.{ending_operands, instr_operands, part_operands}
use Rattle.pass_proofs.specs.ir_parts.Parts.{Ending, OfInstr, OfPhi, Part, instr_place}
use Rattle.pass_split_proof.proofs.ready.Operands.{all_readable, no_stop_outside, not_stopped, not_taken}
use Rattle.pass_split_proof.proofs.ready.Rules.{at_ending, at_instr, at_phi}
use Rattle.pass_split_proof.specs.first_exits.Parted.{parted_module}
use Rattle.pass_split_proof.specs.ready.Module.{IsRuled}
use Rattle.pass_split_proof.specs.ready.Names.{HasMovedNames}
use Rattle.pass_split_proof.specs.states.Values.{IsStopResult}
use Rattle.pass_split_proof.specs.steps.Operands.{IsReadable}
use Rattle.pass_proofs.specs.rule_locals.Addresses.{calls_indirectly, is_no_function, points_to_functions}
use Rattle.pass_proofs.specs.rule_shape.Uses.{phi_operands}
use Rattle.pass_proofs.specs.rule_uses.Uses.{locals_in}
use Rattle.pass_proofs.specs.rule_windows.Points.{phi_count}
use Rattle.pass_proofs.specs.run_laws.changed.Changed.{Each, operands_of, operands_of_term}
use Rattle.pass_proofs.specs.run_step.Step.{AtInstr, fetch, incoming_from}

-- ---- operands, as steps list them

pub operands_spelt : (i : Instr) → instr_operands i ≡ operands_of i
operands_spelt (Instr.Binary name op flags ty a b) = refl
operands_spelt (Instr.Icmp name pred ty a b) = refl
operands_spelt (Instr.Select name x a b) = refl
operands_spelt (Instr.Cast name op nneg arg to) = refl
operands_spelt (Instr.Alloca name ty align) = refl
operands_spelt (Instr.Load name ty p align) = refl
operands_spelt (Instr.Store arg p align) = refl
operands_spelt (Instr.Gep name inbounds ty base indices) = refl
operands_spelt (Instr.Call result must_tail ty (Callee.Named n) args) = refl
operands_spelt (Instr.Call result must_tail ty (Callee.Allocator a) args) = refl
operands_spelt (Instr.Call result must_tail ty (Callee.Intrinsic i) args) = refl
operands_spelt (Instr.Call result must_tail ty (Callee.Local v) args) = refl

pub ending_spelt : (t : Terminator) → ending_operands t ≡ operands_of_term t
ending_spelt (Terminator.Jump label) = refl
ending_spelt (Terminator.Branch c a b) = refl
ending_spelt (Terminator.Switch arg default cases) = refl
ending_spelt (Terminator.Ret None) = refl
ending_spelt (Terminator.Ret (Some a)) = refl
ending_spelt Terminator.Unreachable = refl

-- ---- no function's address (P1)

no_address : (m : Module) (place : Place) (x : Part) → points_to_functions m place x ≡ false
    → list_all (is_no_function m) (part_operands x) ≡ true
no_address m place x e = on (list_all (is_no_function m) (part_operands x)) e
  where
    on : (b : Bool) → (not b || calls_indirectly x) ≡ false → b ≡ true
    on true h = refl
    on false h = absurd (cc)

module _ (r m : Module) (globals : r.globals ≡ m.globals) where
  same_global : (x : Operand) → is_no_function m x ≡ is_no_function r x
  same_global (Operand.Global n) = ap (λ (gs : List GlobalItem). is_some (first_where (λ g. same_name g.name n) gs))
      (sym globals)
  same_global _ = refl

  -- in modules with the same globals alike
  same_globals : (xs : List Operand) → list_all (is_no_function m) xs ≡ list_all (is_no_function r) xs
  same_globals [] = refl
  same_globals (x ∷ xs) = λ i. same_global x i && same_globals xs i

module _ {r : Module} (ls : Layouts) (m : Module) (globals : r.globals ≡ m.globals) (names : HasMovedNames ls m)
    (k : ℕ) (f : Function) (ruled : IsRuled r k f) where
  abbrev Readable : Operand → Type 0
  Readable = IsReadable m (parted_module ls m) f

  read_instr : (block at : ℕ) (i : Instr) → fetch f block at ≡ AtInstr i → (v : ℕ)
      → IsListed v (locals_in (instr_operands i)) → IsStopResult f v → ⊥
  read_instr block at i here v l r = on f.coroutine refl
    where
      on : (c : Bool) → f.coroutine ≡ c → ⊥
      on true e = not_stopped k f e (ruled.switches e) block at v i here l r
      on false e = no_stop_outside k f ruled.rules.local.misplaced e v r

  pub instr_readable : (block at : ℕ) (i : Instr) → fetch f block at ≡ AtInstr i
      → Each (IsReadable m (parted_module ls m) f) (operands_of i)
  instr_readable block at i here = subst (λ (xs : List Operand). Each (IsReadable m (parted_module ls m) f) xs)
      (operands_spelt i) (all_readable ls m names f (instr_operands i) (read_instr block at i here)
      (same_globals r m globals (instr_operands i)
      ∙ no_address r (instr_place k block (phi_count f block + at)) (OfInstr i)
      (at_instr k f (points_to_functions r) ruled.rules.local.function_pointers block at i here)))

  -- a terminator that reads nothing that a suspend gives
  pub ending_readable : (block : ℕ) (b : Block) → slice_get f.blocks block ≡ Some b
      → ((v : ℕ) → IsListed v (locals_in (ending_operands b.term)) → IsStopResult f v → ⊥)
      → Each (IsReadable m (parted_module ls m) f) (operands_of_term b.term)
  ending_readable block b got read = subst (λ (xs : List Operand). Each (IsReadable m (parted_module ls m) f) xs)
      (ending_spelt b.term) (all_readable ls m names f (ending_operands b.term) read
      (same_globals r m globals (ending_operands b.term)
      ∙ no_address r (instr_place k block (length b.phis + length b.instrs)) (Ending b.term)
      (at_ending k f (points_to_functions r) ruled.rules.local.function_pointers block b got)))

  -- ---- phis

  taken : (label : ℕ) (is : List Incoming) → Each (IsReadable m (parted_module ls m) f)
      (map (λ (i : Incoming). i.value) is)
      → IsReadable m (parted_module ls m) f (incoming_from is label)
  taken label [] h = tt
  taken label (i ∷ is) h = on (i.from == label) (taken label is h.1)
    where
      on : (b : Bool) → IsReadable m (parted_module ls m) f (incoming_from is label)
          → IsReadable m (parted_module ls m) f (if b then i.value else incoming_from is label)
      on true rest = h.0
      on false rest = rest

  read_phi : (block : ℕ) (b : Block) (p : Phi) → slice_get f.blocks block ≡ Some b → IsListed p b.phis → (v : ℕ)
      → IsListed v (locals_in (phi_operands p)) → IsStopResult f v → ⊥
  read_phi block b p got n v l r = on f.coroutine refl
    where
      on : (c : Bool) → f.coroutine ≡ c → ⊥
      on true e = not_taken k f e (ruled.switches e) block v b p got n l r
      on false e = no_stop_outside k f ruled.rules.local.misplaced e v r

  pub phi_readable : (block label : ℕ) (b : Block) (p : Phi) → slice_get f.blocks block ≡ Some b → IsListed p b.phis
      → IsReadable m (parted_module ls m) f (incoming_from p.incoming label)
  phi_readable block label b p got n =
      let q = place_of b.phis p n in
      taken label p.incoming (all_readable ls m names f (phi_operands p) (read_phi block b p got n)
      (same_globals r m globals (phi_operands p) ∙ no_address r (instr_place k block q.0) (OfPhi p)
      (at_phi k f (points_to_functions r) ruled.rules.local.function_pointers block q.0 b p got q.1)))

  pub phis_readable : (block label : ℕ) (b : Block) → slice_get f.blocks block ≡ Some b
      → Each (λ (p : Phi). IsReadable m (parted_module ls m) f (incoming_from p.incoming label)) b.phis
  phis_readable block label b got = each_of (λ (p : Phi). IsReadable m (parted_module ls m) f
      (incoming_from p.incoming label)) b.phis (λ p n. phi_readable block label b p got n)
