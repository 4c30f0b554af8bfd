-- What a table of called names finds.
use Rattle.std.proofs.Common.{◌≡◌, ℕ, suc, Bool, true, false, ◌||◌, ◌&&◌, List, [], ◌∷◌, Option, None, Some, refl, sym, ap, ◌∙◌}
use Rattle.std.proofs.lemmas.Bool.{eq-eqb, eqb-true}
use Rattle.std.specs.List.{list_any}
use Rattle.std.specs.Prelude.{is_some, option_map, if◌then◌else◌, ◌==◌}
use Rattle.ir_base.specs.declared.name.Name.{Name}
use Rattle.ir_model.specs.Names.{first_where, same_name, same_text}
use Rattle.pass_split.specs.declared.given.CalledName.{CalledName}

number_turned : (a b : ℕ) → (a == b) ≡ (b == a)
number_turned a b = on (a == b) (b == a) refl refl
  where
    on : (v w : Bool) → (a == b) ≡ v → (b == a) ≡ w → v ≡ w
    on true true e d = refl
    on true false e d = sym (sym d ∙ eq-eqb b a (sym (eqb-true a b e)))
    on false true e d = sym e ∙ eq-eqb a b (sym (eqb-true b a d))
    on false false e d = refl

pub text_turned : (s t : List ℕ) → same_text s t ≡ same_text t s
text_turned [] [] = refl
text_turned [] (y ∷ ys) = refl
text_turned (x ∷ xs) [] = refl
text_turned (x ∷ xs) (y ∷ ys) = ap (λ (b : Bool). b && same_text xs ys) (number_turned x y) ∙ ap (λ (b : Bool). (y == x) && b) (text_turned xs ys)

pub name_turned : (a b : Name) → same_name a b ≡ same_name b a
name_turned (Name.Number m) (Name.Number n) = number_turned m n
name_turned (Name.Number m) (Name.Text t) = refl
name_turned (Name.Text s) (Name.Number n) = refl
name_turned (Name.Text s) (Name.Text t) = text_turned s t

first_or_later : (b : Bool) (o : Option ℕ) → is_some (if b then Some 0 else option_map suc o) ≡ b || is_some o
first_or_later true o = refl
first_or_later false (Some n) = refl
first_or_later false None = refl

-- a name is found where one of the calls has it
pub found_alike : (n : Name) (names : List CalledName) → is_some (first_where (λ c. same_name c.name n) names) ≡ list_any (λ c. same_name n c.name) names
found_alike n [] = refl
found_alike n (c ∷ cs) =
    first_or_later (same_name c.name n) (first_where (λ (d : CalledName). same_name d.name n) cs)
    ∙ ap (λ (b : Bool). b || is_some (first_where (λ (d : CalledName). same_name d.name n) cs)) (name_turned c.name n)
    ∙ ap (λ (b : Bool). same_name n c.name || b) (found_alike n cs)
