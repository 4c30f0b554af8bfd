-- The blocks before begin.
use Rattle.std.proofs.Common.{◌≡◌, ℕ, Bool, true, false, List, [], ◌∷◌, refl, sym, subst, arith}
use Rattle.std.specs.Prelude.{◌==◌, if◌then◌else◌}
use Rattle.flow_blocks.specs.Reach.{AreReached, Edge, IsReached, Start}
use Rattle.ir_model.specs.declared.module.Function.{Function}
use Rattle.pass_frames.specs.Framed.{AreBefore, begin_block, starts_before}

none_reached : (f : Function) (avoided : List ℕ) (b : ℕ) → IsReached f [] avoided b → ⊥
none_reached f avoided b (Start at h) = h
none_reached f avoided b (Edge from to r listed apart) = none_reached f avoided from r

empty : (f : Function) (avoided : List ℕ) → AreReached f [] avoided []
empty f avoided = record {
  in_order = λ k lt. absurd (omega (arith, lt));
  is_block = λ b listed. absurd listed;
  is_reached = λ b listed. absurd listed;
  is_told = λ b lt reached. absurd (none_reached f avoided b reached);
}

starts_none : (t : Bool) → t ≡ true → if◌then◌else◌ {A = List ℕ} t [] (0 ∷ []) ≡ []
starts_none true e = refl
starts_none false e = absurd (cc)

starts_some : (t : Bool) → t ≡ false → if◌then◌else◌ {A = List ℕ} t [] (0 ∷ []) ≡ 0 ∷ []
starts_some true e = absurd (cc)
starts_some false e = refl

-- begin stands in the entry block, so no other block is before it
pub none_before : (f : Function) (begin : ℕ) (blocks : List ℕ) → begin ≡ begin_block f → (begin == 0) ≡ true → blocks ≡ [] → AreBefore f blocks
none_before f begin blocks is first none =
    subst (λ (n : ℕ). AreReached f (starts_before n) (n ∷ []) blocks) is
    (subst (λ (l : List ℕ). AreReached f l (begin ∷ []) blocks) (sym (starts_none (begin == 0) first))
    (subst (λ (l : List ℕ). AreReached f [] (begin ∷ []) l) (sym none) (empty f (begin ∷ []))))

-- begin stands elsewhere, so paths start at the entry
pub all_before : (f : Function) (begin : ℕ) (blocks : List ℕ) → begin ≡ begin_block f → (begin == 0) ≡ false → AreReached f (0 ∷ []) (begin ∷ []) blocks → AreBefore f blocks
all_before f begin blocks is later reached =
    subst (λ (n : ℕ). AreReached f (starts_before n) (n ∷ []) blocks) is
    (subst (λ (l : List ℕ). AreReached f l (begin ∷ []) blocks) (sym (starts_some (begin == 0) later)) reached)
