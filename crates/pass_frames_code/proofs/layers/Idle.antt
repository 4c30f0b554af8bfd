-- Instructions that passes leave as they are.
use Rattle.std.proofs.Common.{◌≡◌, List, [], ◌∷◌, ◌++◌, refl, ap, ◌∙◌}
use Rattle.pass_proofs.specs.ir_model.declared.instr.Instr.{Instr}
use Rattle.pass_frames_code.proofs.layers.Grown.{both_becomes, grown_one}
use Rattle.pass_frames_code.specs.Layers.{IsIdle, Layer, both, grown, passed}
use Rattle.pass_proofs.specs.run_laws.changed.Changed.{Each}

module _ {S : Type 0} (L : Layer S) where
  pub all_stay : (is : List Instr) → Each (IsIdle L) is → (s : S) → grown L s is ≡ is
  all_stay [] h s = refl
  all_stay (i ∷ is) h s = λ k. h.0.stays s k ++ all_stay is h.1 (L.after s i) k

  pub state_stays : (is : List Instr) → Each (IsIdle L) is → (s : S) → passed L s is ≡ s
  state_stays [] h s = refl
  state_stays (i ∷ is) h s = state_stays is h.1 (L.after s i) ∙ h.0.state s

module _ {S T : Type 0} (L : Layer S) (M : Layer T) where
  pub both_idle : (i : Instr) → IsIdle L i → IsIdle M i → IsIdle (both L M) i
  both_idle i x y = record {
    stays = λ s. both_becomes L M s.0 s.1 i ∙ ap (grown M s.1) (x.stays s.0) ∙ grown_one M s.1 i ∙ y.stays s.1;
    state = λ s. (λ k. (x.state s.0 k, passed M s.1 (x.stays s.0 k))) ∙ ap (λ (t : T). (s.0, t)) (y.state s.1);
  }
