-- The instructions of a block whose saves are written out.
use Rattle.std.proofs.Common.{◌≡◌, ℕ, zero, suc, ◌+◌, ◌<◌, Bool, true, false, List, [], ◌∷◌, length, refl, ap, ◌∙◌, arith, add-zero}
use Rattle.std.specs.Prelude.{Some, None, Option, slice_get, if◌then◌else◌}
use Rattle.std.proofs.lemmas.Option.{slice_get_past, slice_get_within}
use Rattle.pass_early.specs.Early.{save_call, saved}
use Rattle.ir_model.specs.declared.instr.Instr.{Instr}
use Rattle.rule_laws.proofs.ir_laws.facts.Lists.{get_expanded, none_past, place_beyond, place_end, place_far, place_next, place_past}
use Rattle.rule_laws.specs.ir_laws.facts.expanded.Expansion.{number_at}
use Rattle.pass_early_proof.specs.early.saves.SavesWritten.{behind_save, is_bare, with_save, with_saves}
use Rattle.pass_early_proof.specs.early.saves.Spots.{own_saves, place_in}

-- the name of the save of an instruction, or of the next one
abbrev pub name_at : Bool → ℕ → ℕ → List Instr → ℕ
name_at c k n is = number_at (with_save c) (behind_save c) k n is

bare_group : (c : Bool) (n : ℕ) (i : Instr) → is_bare c i ≡ true → with_save c n i ≡ save_call n ∷ saved n i ∷ []
bare_group c n i e = ap (λ (b : Bool). if b then save_call n ∷ saved n i ∷ [] else i ∷ []) e

lone_group : (c : Bool) (n : ℕ) (i : Instr) → is_bare c i ≡ false → with_save c n i ≡ i ∷ []
lone_group c n i e = ap (λ (b : Bool). if b then save_call n ∷ saved n i ∷ [] else i ∷ []) e

group_length : (c : Bool) (n : ℕ) (i : Instr) → length (with_save c n i) ≡ suc (own_saves c (Some i))
group_length c n i = on (is_bare c i)
  where
    on : (b : Bool) → length (if b then save_call n ∷ saved n i ∷ [] else i ∷ []) ≡ suc (if b then 1 else 0)
    on true = refl
    on false = refl

record Element {A : Type 0} (xs : List A) (k : ℕ) : Type 0 where
  element : A
  is : slice_get xs k ≡ Some element

element : {A : Type 0} (xs : List A) (k : ℕ) → k < length xs → Element xs k
element [] k lt = absurd (omega arith)
element (x ∷ xs) zero lt = record { element = x; is = refl }
element (x ∷ xs) (suc k) lt = let again = element xs k (omega arith) in record { element = again.element; is = again.is }

module _ (c : Bool) (k n : ℕ) (is : List Instr) where
  -- a save stands before a suspend whose save is written
  pub get_save : (i : Instr) → slice_get is k ≡ Some i → is_bare c i ≡ true → slice_get (with_saves c n is) (place_in c k n is) ≡ Some (save_call (name_at c k n is))
  get_save i e b =
      let group = bare_group c (name_at c k n is) i b in
      let len : length (with_save c (name_at c k n is) i) ≡ 2 = ap length group in
      let z : place_in c k n is ≡ place_in c k n is + 0 = omega arith in
      ap (slice_get (with_saves c n is)) z
      ∙ get_expanded (with_save c) (behind_save c) k n is i 0 e (omega (arith, len))
      ∙ ap (λ (xs : List Instr). slice_get xs 0) group

  pub get_saved : (i : Instr) → slice_get is k ≡ Some i → is_bare c i ≡ true → slice_get (with_saves c n is) (place_in c k n is + 1) ≡ Some (saved (name_at c k n is) i)
  get_saved i e b =
      let group = bare_group c (name_at c k n is) i b in
      let len : length (with_save c (name_at c k n is) i) ≡ 2 = ap length group in
      get_expanded (with_save c) (behind_save c) k n is i 1 e (omega (arith, len))
      ∙ ap (λ (xs : List Instr). slice_get xs 1) group

  pub get_lone : (i : Instr) → slice_get is k ≡ Some i → is_bare c i ≡ false → slice_get (with_saves c n is) (place_in c k n is) ≡ Some i
  get_lone i e b =
      let group = lone_group c (name_at c k n is) i b in
      let len : length (with_save c (name_at c k n is) i) ≡ 1 = ap length group in
      let z : place_in c k n is ≡ place_in c k n is + 0 = omega arith in
      ap (slice_get (with_saves c n is)) z
      ∙ get_expanded (with_save c) (behind_save c) k n is i 0 e (omega (arith, len))
      ∙ ap (λ (xs : List Instr). slice_get xs 0) group

  -- what the instruction itself is then
  abbrev pub instr_then : Option Instr → Option Instr
  instr_then None = None
  instr_then (Some i) = Some (if is_bare c i then saved (name_at c k n is) i else i)

  pub next_place : place_in c (suc k) n is ≡ suc (place_in c k n is + own_saves c (slice_get is k))
  next_place = on (slice_get is k) refl
    where
      on : (o : Option Instr) → slice_get is k ≡ o → place_in c (suc k) n is ≡ suc (place_in c k n is + own_saves c o)
      on None e = let next = place_past (with_save c) (behind_save c) k n is (none_past is k e) in omega (arith, next)
      on (Some i) e =
          let next = place_next (with_save c) (behind_save c) k n is i e in
          let len = group_length c (name_at c k n is) i in
          omega (arith, next, len)

  pub get_then : slice_get (with_saves c n is) (place_in c k n is + own_saves c (slice_get is k)) ≡ instr_then (slice_get is k)
  get_then = on (slice_get is k) refl
    where
      lone : (i : Instr) → slice_get is k ≡ Some i → (b : Bool) → is_bare c i ≡ b → slice_get (with_saves c n is) (place_in c k n is + (if b then 1 else 0)) ≡ Some (if b then saved (name_at c k n is) i else i)
      lone i e true b = get_saved i e b
      lone i e false b = ap (slice_get (with_saves c n is)) (add-zero (place_in c k n is)) ∙ get_lone i e b

      on : (o : Option Instr) → slice_get is k ≡ o → slice_get (with_saves c n is) (place_in c k n is + own_saves c o) ≡ instr_then o
      on None e =
          let past = place_beyond (with_save c) (behind_save c) k n is (none_past is k e) in
          slice_get_past (with_saves c n is) (place_in c k n is + 0) (omega (arith, past))
      on (Some i) e = lone i e (is_bare c i) refl

  -- the place of the instruction itself is inside, at the end or behind it as the instruction's
  pub back_inside : k < length is → place_in c k n is + own_saves c (slice_get is k) < length (with_saves c n is)
  back_inside lt =
      let there = element is k lt in
      slice_get_within (with_saves c n is) _ _ (get_then ∙ ap instr_then there.is)

  pub back_end : k ≡ length is → place_in c k n is + own_saves c (slice_get is k) ≡ length (with_saves c n is)
  back_end e =
      let none : own_saves c (slice_get is k) ≡ 0 = ap (own_saves c) (slice_get_past is k (omega (arith, e))) in
      let whole : place_in c k n is ≡ length (with_saves c n is) = ap (λ (l : ℕ). place_in c l n is) e ∙ place_end (with_save c) (behind_save c) n is in
      omega (arith, none, whole)

  pub back_past : length is < k → length (with_saves c n is) < place_in c k n is + own_saves c (slice_get is k)
  back_past lt = let far = place_far (with_save c) (behind_save c) k n is lt in omega (arith, far)
