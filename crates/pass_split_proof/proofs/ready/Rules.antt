-- What a rule says of what stands at a place of a function.
use Rattle.std.proofs.Common.{◌≡◌, ℕ, ◌+◌, Bool, false, length, refl, sym, ◌∙◌}
use Rattle.std.specs.Prelude.{None, Option, Some, slice_get, unwrap_or}
use Rattle.pass_proofs.specs.ir_base.declared.outcome.Place.{Place}
use Rattle.pass_proofs.specs.ir_model.Names.{function_at, no_function}
use Rattle.pass_proofs.specs.ir_model.declared.instr.Instr.{Instr}
use Rattle.pass_proofs.specs.ir_model.declared.instr.Phi.{Phi}
use Rattle.pass_proofs.specs.ir_model.declared.instr.Terminator.{Terminator}
use Rattle.pass_proofs.specs.ir_model.declared.module.Block.{Block}
use Rattle.pass_proofs.specs.ir_model.declared.module.Function.{Function}
use Rattle.pass_proofs.specs.ir_model.declared.module.Module.{Module}
use Rattle.pass_proofs.specs.ir_parts.Parts.{Part, OfPhi, OfInstr, Ending, first_part, instr_place, parts_of}
use Rattle.pass_proofs.proofs.rule_laws.rules.path_rules.Holding.{HoldsOf, of_parts}
use Rattle.pass_proofs.proofs.rule_laws.rules.renamed.Outside.{at_point}
use Rattle.pass_proofs.proofs.rule_laws.rules.renamed.Switches.{none_part}
use Rattle.pass_proofs.proofs.rule_laws.rules.sources.Places.{instr_there, point}
use Rattle.pass_proofs.specs.rule_windows.Points.{phi_count}
use Rattle.pass_proofs.specs.run_step.Step.{AtInstr, AtTerm, Fetched, Nowhere, fetch}

module _ (k : ℕ) (f : Function) (breaks : Place → Part → Bool) (none : first_part breaks (parts_of k f) ≡ None) where
  pub at_instr : (block at : ℕ) (i : Instr) → fetch f block at ≡ AtInstr i
      → breaks (instr_place k block (phi_count f block + at)) (OfInstr i) ≡ false
  at_instr block at i here = at_point (λ x. breaks x.0 x.1 ≡ false) k f (point block at) i
      (none_part breaks (parts_of k f) none) (instr_there f block at i here)

  all_parts : HoldsOf (λ x. breaks x.0 x.1 ≡ false) k f
  all_parts = of_parts (λ x. breaks x.0 x.1 ≡ false) k f (none_part breaks (parts_of k f) none)

  pub at_ending : (block : ℕ) (b : Block) → slice_get f.blocks block ≡ Some b
      → breaks (instr_place k block (length b.phis + length b.instrs)) (Ending b.term) ≡ false
  at_ending block b got = (all_parts.blocks block b got).ending

  pub at_phi : (block at : ℕ) (b : Block) (p : Phi) → slice_get f.blocks block ≡ Some b → slice_get b.phis at ≡ Some p
      → breaks (instr_place k block at) (OfPhi p) ≡ false
  at_phi block at b p got there = (all_parts.blocks block b got).phis at p there

-- where something stands there is a function
module _ (m : Module) (k block at : ℕ) where
  nowhere : (o : Option Function) → slice_get m.functions k ≡ o → (x : Fetched) → (x ≡ Nowhere → ⊥)
      → fetch (unwrap_or o no_function) block at ≡ x → slice_get m.functions k ≡ Some (unwrap_or o no_function)
  nowhere None e x some here = absurd (some (sym here ∙ none block))
    where
      none : (b : ℕ) → fetch no_function b at ≡ Nowhere
      none b = refl
  nowhere (Some f) e x some here = e

  pub function_of_instr : (i : Instr) → fetch (function_at m k) block at ≡ AtInstr i
      → slice_get m.functions k ≡ Some (function_at m k)
  function_of_instr i here = nowhere (slice_get m.functions k) refl (AtInstr i) no here
    where
      no : AtInstr i ≡ Nowhere → ⊥
      no e = absurd (cc)

  pub function_of_term : (t : Terminator) → fetch (function_at m k) block at ≡ AtTerm t
      → slice_get m.functions k ≡ Some (function_at m k)
  function_of_term t here = nowhere (slice_get m.functions k) refl (AtTerm t) no here
    where
      no : AtTerm t ≡ Nowhere → ⊥
      no e = absurd (cc)
