-- Lemmas on sources, that speak of no pass.
use Rattle.std.proofs.Common.{◌≡◌, ℕ, zero, suc, Bool, true, false, List, [], ◌∷◌, Some, ap, filter, map, refl, sym, ◌∙◌, if◌then◌else◌}
use Rattle.std.specs.Prelude.{slice_get}
use Rattle.rule_phis.specs.Edges.{is_empty}
use Rattle.ir_laws.specs.ir_model.declared.module.Block.{Block}

-- ---- the rule (F1)

pub none_filtered : (t : Block → Bool) (bs : List Block) → is_empty (map (λ b. b.label) (filter t bs)) ≡ true → (k : ℕ) (b : Block) → slice_get bs k ≡ Some b → t b ≡ true → ⊥
none_filtered t [] h k b e p = absurd (cc)
none_filtered t (c ∷ bs) h k b e p = on (t c) refl h k e (none_filtered t bs)
  where
    on : (x : Bool) → t c ≡ x → is_empty (map (λ d. d.label) (if x then c ∷ filter t bs else filter t bs)) ≡ true → (k : ℕ) → slice_get (c ∷ bs) k ≡ Some b → (is_empty (map (λ d. d.label) (filter t bs)) ≡ true → (k : ℕ) (b : Block) → slice_get bs k ≡ Some b → t b ≡ true → ⊥) → ⊥
    on true d s k e again = absurd (cc)
    on false d s zero e again = let same : c ≡ b = cc in let no : true ≡ false = sym p ∙ ap t (sym same) ∙ d in absurd (cc)
    on false d s (suc j) e again = again s j b e p
