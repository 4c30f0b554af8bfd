-- In the ramp: a value without which a path comes from the entry isn't used.
use Rattle.std.proofs.Common.{◌≡◌, inl, inr, ⊎_elim, ℕ, List, [], ◌∷◌, ◌++◌, refl, sym, ap, ◌∙◌, subst}
use Rattle.std.specs.Prelude.{None, Option, Some, option_to_list, slice_get}
use Rattle.rule_laws.proofs.rules.counted.PartFacts.{AllMadeBefore}
use Rattle.rule_uses.specs.Undefined.{Next, ReachesWithout, params_of}
use Rattle.rule_uses.specs.Uses.{block_values, made_by_instrs, phi_values, values_in}
use Rattle.rule_laws.proofs.rules.renamed.Uses.{block_edge}
use Rattle.ir_laws.proofs.paths.source_rules.Locals.{listed_either}
use Rattle.rule_laws.proofs.rules.source_rules.Locals.{made_by}
use Rattle.ir_laws.specs.flow_solver.Paths.{IsListed}
use Rattle.ir_parts.specs.Contents.{result_of}
use Rattle.pass_intrinsics.specs.Shapes.{given_name}
use Rattle.pass_intrinsics.specs.declared.shape.Part.{Part}
use Rattle.pass_intrinsics.specs.declared.shape.Shape.{Shape}
use Rattle.ir_laws.specs.ir_model.Names.{position_of}
use Rattle.ir_laws.specs.ir_model.declared.instr.Instr.{Instr}
use Rattle.ir_laws.specs.ir_model.declared.module.Block.{Block}
use Rattle.ir_laws.specs.ir_model.declared.module.Function.{Function}
use Rattle.rule_laws.proofs.frames.uses.Lowering.{ComesBy, OfBegin, OfGiven, OfOperand}
use Rattle.rule_laws.proofs.frames.uses.Quiet.{IsQuiet}
use Rattle.rule_laws.specs.rules.replaced.Splittable.{AreBegun}
use Rattle.rule_laws.proofs.rules.uses.RampQuiet.{IsMade}

-- a path comes to a place without the value
pub record IsWithout (h : Function) (begin v q : ℕ) (b : Block) (is : List Instr) : Type 0 where
  pub reaches : ReachesWithout h v q
  pub before : List ℕ
  pub unmade : IsListed v before → ⊥
  pub made : AllMadeBefore h q before is
  pub begun : AreBegun h begin q before is
  pub whole : made_by_instrs before is ≡ block_values b

module _ (f h : Function) (s : Shape) (part : Part) (begin : ℕ) (named : s.begin ≡ begin) (rules : IsMade h begin) (v : ℕ) (no_param : IsListed v (params_of h) → ⊥) (no_given : part ≡ Part.GivenRamp → v ≡ given_name s → ⊥) where
  abbrev pub Without : ℕ → ℕ → Block → List Instr → Type 0
  Without q at b is = IsWithout h begin v q b is

  none_made : (i : Instr) (before : List ℕ) → (result_of i ≡ Some v → ⊥) → (IsListed v before → ⊥) → IsListed v (made_by i ++ before) → ⊥
  none_made i before other none l = ⊎_elim (on (result_of i) other) none (listed_either v (made_by i) before l)
    where
      on : (o : Option ℕ) → (o ≡ Some v → ⊥) → IsListed v (option_to_list o) → ⊥
      on None k m = m
      on (Some r) k (inl e) = k (ap (λ (n : ℕ). Some n) (sym e))
      on (Some r) k (inr m) = m

  comes : (q at : ℕ) (b : Block) (i : Instr) (is : List Instr) → IsWithout h begin v q b (i ∷ is) → ComesBy f s part i v → ⊥
  comes q at b i is n (OfOperand p l) = n.made.0 v l n.reaches n.unmade no_param
  comes q at b i is n (OfBegin e asks) =
      let is_begin : v ≡ begin = e ∙ named in
      n.unmade (subst (λ (u : ℕ). IsListed u n.before) (sym is_begin) (n.begun.0 asks (subst (λ (u : ℕ). ReachesWithout h u q) is_begin n.reaches)))
  comes q at b i is n (OfGiven e same) = no_given e same

  at_end : (q : ℕ) (b : Block) → IsWithout h begin v q b [] → IsListed v (block_values b) → ⊥
  at_end q b n l = n.unmade (subst (IsListed v) (sym n.whole) l)

  pub ramp_quiet : IsQuiet f h s part v (ReachesWithout h v) Without
  ramp_quiet =
      record {
        front = λ q b got a none. record { reaches = a; before = phi_values b; unmade = none; made = rules.instrs q b got; begun = rules.begun q b got; whole = refl };
        used = λ q at b i is spot n goes by. comes q at b i is n by;
        next = λ q at b i is spot n goes other. record { reaches = n.reaches; before = made_by i ++ n.before; unmade = none_made i n.before other n.unmade; made = n.made.1; begun = n.begun.1; whole = n.whole };
        term = λ q at b spot n l. rules.term v q b no_param spot.got n.reaches (at_end q b n) l;
        edge = λ q at b spot n label l.
            Next q (position_of h label) n.reaches (λ m. at_end q b n (subst (λ (o : Option Block). IsListed v (values_in o)) spot.got m)) (block_edge h q b label spot.got l);
        phi = λ q at b spot n to c x i got phi incoming local from.
            rules.phi v to c x i no_param got phi incoming local (subst (ReachesWithout h v) (sym from) n.reaches)
            (λ m. at_end q b n (subst (λ (o : Option Block). IsListed v (values_in o)) (ap (slice_get h.blocks) from ∙ spot.got) m));
      }
