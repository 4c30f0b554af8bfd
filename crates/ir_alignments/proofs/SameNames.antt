-- The comparison of names that is derived is that of the definitions.
use Rattle.std.proofs.Common.{◌≡◌, ℕ, Bool, List, [], ◌∷◌, ◌==◌, ◌&&◌, refl, ap}
use Rattle.std.specs.Cmp.Lexicographic.{pointwise}
use Rattle.ir_base.specs.declared.name.Name.{Name}
use Rattle.ir_base.specs.contracts.name.NamePartialEq.TheImpl as derived
use Rattle.ir_model.specs.Names.{same_name, same_text}

texts : (s t : List ℕ) → pointwise ◌==◌ s t ≡ same_text s t
texts [] [] = refl
texts [] (b ∷ t) = refl
texts (a ∷ s) [] = refl
texts (a ∷ s) (b ∷ t) = ap (λ (x : Bool). (a == b) && x) (texts s t)

names : (m n : Name) → (derived.eq-value).it m n ≡ same_name m n
names (Name.Number m) (Name.Number n) = refl
names (Name.Number m) (Name.Text t) = refl
names (Name.Text s) (Name.Number n) = refl
names (Name.Text s) (Name.Text t) = texts s t

pub same_names : (derived.eq-value).it ≡ same_name
same_names = λ i m n. names m n i
