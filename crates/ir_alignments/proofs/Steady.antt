-- Where going one name further tells nothing new, nothing further does.
use Rattle.std.proofs.Common.{◌≡◌, ◌<◌, ◌≤◌, ◌+◌, ◌-◌, ℕ, zero, suc, cond, Bool, true, false, List, [], ◌∷◌, Option, None, ◌==◌, ◌&&◌, refl, sym, ap, subst, ◌∙◌, add-one, arith}
use Rattle.std.specs.Prelude.{Some}
use Rattle.std.proofs.lemmas.Bool.{eqb-true, and_parts}
use Rattle.ir_base.specs.declared.name.Name.{Name}
use Rattle.ir_model.specs.Layout.{type_named}
use Rattle.ir_model.specs.Names.{same_name, same_text}
use Rattle.ir_model.specs.declared.module.TypeItem.{TypeItem}
use Rattle.ir_alignments.specs.Alignment.{alignment_in, of_named, alignment_at}
use Rattle.ir_alignments.specs.Level.{IsNext, same_alignment, agree_on}
use Rattle.ir_alignments.proofs.Levels.{level_turn}

text_is : (s t : List ℕ) → same_text s t ≡ true → s ≡ t
text_is [] [] e = refl
text_is [] (b ∷ t) e = absurd cc
text_is (a ∷ s) [] e = absurd cc
text_is (a ∷ s) (b ∷ t) e =
    let parts = and_parts (a == b) (same_text s t) e in
    let head : a ≡ b = eqb-true a b parts.0 in
    let tail : s ≡ t = text_is s t parts.1 in cc

name_is : (m n : Name) → same_name m n ≡ true → m ≡ n
name_is (Name.Number m) (Name.Number n) e = ap (λ (k : ℕ). Name.Number k) (eqb-true m n e)
name_is (Name.Number m) (Name.Text t) e = absurd cc
name_is (Name.Text s) (Name.Number n) e = absurd cc
name_is (Name.Text s) (Name.Text t) e = ap (λ (k : List ℕ). Name.Text k) (text_is s t e)

alignment_is : (a b : Option ℕ) → same_alignment a b ≡ true → a ≡ b
alignment_is None None e = refl
alignment_is None (Some b) e = absurd cc
alignment_is (Some a) None e = absurd cc
alignment_is (Some a) (Some b) e = ap (λ (k : ℕ). Some k) (eqb-true a b e)

-- tables that agree on the types' names agree on each name, where they agree on those that no type has
named_case : (f g : Name → Option ℕ) (t : TypeItem) (ts : List TypeItem) (n : Name) (b : Bool) → same_name t.name n ≡ b → f t.name ≡ g t.name → ((type_named ts n ≡ None → f n ≡ g n) → f n ≡ g n) → (cond b (Some t.ty) (type_named ts n) ≡ None → f n ≡ g n) → f n ≡ g n
named_case f g t ts n true is here rest none = let same : t.name ≡ n = name_is t.name n is in subst (λ (m : Name). f m ≡ g m) same here
named_case f g t ts n false is here rest none = rest none

agreed_case : (f g : Name → Option ℕ) (t : TypeItem) (ts : List TypeItem) (n : Name) (b : Bool) → same_alignment (f t.name) (g t.name) ≡ b → cond b (agree_on ts f g) false ≡ true → (agree_on ts f g ≡ true → (type_named ts n ≡ None → f n ≡ g n) → f n ≡ g n) → (type_named (t ∷ ts) n ≡ None → f n ≡ g n) → f n ≡ g n
agreed_case f g t ts n true is e rest none = named_case f g t ts n (same_name t.name n) refl (alignment_is (f t.name) (g t.name) is) (rest e) none
agreed_case f g t ts n false is e rest none = absurd cc

agreed : (types : List TypeItem) (f g : Name → Option ℕ) (n : Name) → agree_on types f g ≡ true → (type_named types n ≡ None → f n ≡ g n) → f n ≡ g n
agreed [] f g n e none = none refl
agreed (t ∷ ts) f g n e none = agreed_case f g t ts n (same_alignment (f t.name) (g t.name)) refl e (agreed ts f g n) none

-- a name that no type has is never known
never : (types : List TypeItem) (k : ℕ) (n : Name) → type_named types n ≡ None → alignment_at types k n ≡ None
never types zero n e = refl
never types (suc k) n e = ap (of_named (alignment_in (alignment_at types k) 64)) e

-- on from a table that stays
steady : (types : List TypeItem) (k j : ℕ) → alignment_at types (suc k) ≡ alignment_at types k → alignment_at types (j + k) ≡ alignment_at types k
steady types k zero e = ap (alignment_at types) (omega arith)
steady types k (suc j) e =
    let rest : alignment_at types (j + k) ≡ alignment_at types k = steady types k j e in
    let next : alignment_at types (suc (j + k)) ≡ alignment_at types (suc k) = λ i n. of_named (alignment_in (rest i) 64) (type_named types n) in
    let same : suc j + k ≡ suc (j + k) = omega arith in
    ap (alignment_at types) same ∙ next ∙ e

pub level_steady : (types : List TypeItem) (k : ℕ) (f g : Name → Option ℕ) → ((n : Name) → f n ≡ alignment_at types k n) → IsNext types f g → agree_on types g f ≡ true → k < 64 → (n : Name) → g n ≡ alignment_at types 64 n
level_steady types k f g h next agree lt n =
    let now : (m : Name) → g m ≡ alignment_at types (k + 1) m = level_turn types k f g h next in
    let one : k + 1 ≡ suc k = add-one k in
    let up : (m : Name) → g m ≡ alignment_at types (suc k) m = λ m. now m ∙ ap (λ (i : ℕ). alignment_at types i m) one in
    let same : (m : Name) → g m ≡ f m = λ m. agreed types g f m agree (λ e. up m ∙ never types (suc k) m e ∙ sym (never types k m e) ∙ sym (h m)) in
    let stays : alignment_at types (suc k) ≡ alignment_at types k = λ i m. (sym (up m) ∙ same m ∙ h m) i in
    let far : alignment_at types (64 - k + k) ≡ alignment_at types k = steady types k (64 - k) stays in
    let whole : 64 - k + k ≡ 64 = omega arith in
    same n ∙ h n ∙ ap (λ (f : Name → Option ℕ). f n) (sym far) ∙ ap (λ (i : ℕ). alignment_at types i n) whole
