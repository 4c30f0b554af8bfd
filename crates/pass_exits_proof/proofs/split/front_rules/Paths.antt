-- Lemmas on paths.
use Rattle.std.proofs.Common.{◌≡◌, ℕ, zero, suc, List, [], ◌∷◌, ap, refl, sym, subst, ◌∙◌}
use Rattle.std.specs.Prelude.{slice_get}
use Rattle.pass_split.specs.Reached.{entry_of, targets_at, targets_in}
use Rattle.pass_fetch_proof.specs.flow_solver.Paths.{IsListed}
use Rattle.pass_fetch_proof.specs.pass_front.Front.{with_allocas_first, with_front_allocas}
use Rattle.ir_model.specs.Names.{position_of}
use Rattle.ir_model.specs.declared.instr.Terminator.{Terminator}
use Rattle.ir_model.specs.declared.module.Block.{Block}
use Rattle.ir_model.specs.declared.module.Function.{Function}
use Rattle.pass_fetch_proof.specs.ir_paths.Paths.{targets}
use Rattle.pass_fetch_proof.proofs.ir_laws.facts.Numbers.{same_term}
use Rattle.pass_fetch_proof.proofs.ir_laws.facts.Lists.{source_of}
use Rattle.pass_fetch_proof.proofs.rule_laws.frames.front_rules.Shape.{same_suspends}
use Rattle.pass_fetch_proof.proofs.rule_laws.rules.front_rules.Uses.{same_position}
use Rattle.pass_exits_proof.specs.split.crossing.Ended.{AreEndedFirst}
use Rattle.pass_exits_proof.specs.split.rules.Reached.{Edge as LedOn, Entry as LedFirst, IsLedTo}
use Rattle.pass_fetch_proof.specs.rule_laws.frames.replaced.Splittable.{Across as ReturnsAcross, Here as ReturnsHere, IsEndedFirst, LeadsToReturn, is_return}
use Rattle.pass_fetch_proof.proofs.edges.front_rules.Paths.{same_end}

targets_by : (bs : List Block) (k : ℕ) → targets_in (slice_get (with_allocas_first bs) k) ≡ targets_in (slice_get bs k)
targets_by [] k = refl
targets_by (b ∷ bs) zero = refl
targets_by (b ∷ bs) (suc k) = refl

-- ---- returns

module _ (f : Function) where
  entry_by : (bs : List Block) → entry_of (with_allocas_first bs) ≡ entry_of bs
  entry_by [] = refl
  entry_by (b ∷ bs) = refl

  targets_same : (label : ℕ) → targets_at (with_front_allocas f) label ≡ targets_at f label
  targets_same label = ap (λ (n : ℕ). targets_in (slice_get (with_front_allocas f).blocks n)) (same_position f label) ∙ targets_by f.blocks (position_of f label)

  led_home : (label : ℕ) → IsLedTo (with_front_allocas f) label → IsLedTo f label
  led_home _ (LedFirst label l) = LedFirst label (subst (IsListed label) (entry_by f.blocks) l)
  led_home _ (LedOn from label r l) = LedOn from label (led_home from r) (subst (IsListed label) (targets_same from) l)

  returns_home : (b : ℕ) → LeadsToReturn (with_front_allocas f) b → LeadsToReturn f b
  returns_home _ (ReturnsHere b c out there is) =
      let x = source_of f.blocks b c there in
      ReturnsHere b x.0 (λ e. out (e ∙ sym (same_end f))) x.1.0 (ap is_return (sym (same_term x.0 c x.1.1).0) ∙ is)
  returns_home _ (ReturnsAcross b label c out there l rest) =
      let x = source_of f.blocks b c there in
      ReturnsAcross b label x.0 (λ e. out (e ∙ sym (same_end f))) x.1.0 (subst (λ (t : Terminator). IsListed label (targets t)) (same_term x.0 c x.1.1).0 l)
      (subst (LeadsToReturn f) (same_position f label) (returns_home (position_of (with_front_allocas f) label) rest))

  pub ends_kept : AreEndedFirst f → AreEndedFirst (with_front_allocas f)
  ends_kept given p l led =
      let old : IsEndedFirst f p = given p (subst (IsListed p) (same_suspends f) l) (led_home p.block led) in
      record {
        resume = λ r. old.resume (subst (LeadsToReturn f) (same_position f p.resume) (returns_home (position_of (with_front_allocas f) p.resume) r));
        destroy = λ r. old.destroy (subst (LeadsToReturn f) (same_position f p.destroy) (returns_home (position_of (with_front_allocas f) p.destroy) r));
      }
