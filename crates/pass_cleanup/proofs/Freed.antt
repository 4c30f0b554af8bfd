-- What is left holds no coro intrinsic, where none was called but coro.id.
use Rattle.std.proofs.Common.{◌≡◌, Bool, true, false, List, [], ◌∷◌, refl, ap, ◌∙◌}
use Rattle.std.specs.Prelude.{not, cond, filter, map, ◌&&◌, ◌||◌}
use Rattle.std.specs.List.{list_all}
use Rattle.pass_cleanup.specs.Cleanup.{clean_block, clean_function, clean_module, is_kept_declaration, is_kept_instr}
use Rattle.pass_cleanup.specs.Free.{calls_id_alone, is_free, is_free_module}
use Rattle.ir_model.specs.declared.instr.Instr.{Instr}
use Rattle.ir_model.specs.declared.module.Block.{Block}
use Rattle.ir_model.specs.declared.module.Function.{Function}
use Rattle.ir_model.specs.declared.module.Module.{Module}

first_of_both : (a b : Bool) → (a && b) ≡ true → a ≡ true
first_of_both true b h = refl
first_of_both false b h = absurd (cc)

second_of_both : (a b : Bool) → (a && b) ≡ true → b ≡ true
second_of_both true b h = h
second_of_both false b h = absurd (cc)

both : (a b : Bool) → a ≡ true → b ≡ true → (a && b) ≡ true
both a b p q = ap (λ c. c && b) p ∙ q

all_filtered : {A : Type 0} (keep free : A → Bool) (xs : List A) → list_all (λ x. not (keep x) || free x) xs ≡ true → list_all free (filter keep xs) ≡ true
all_filtered keep free [] h = refl
all_filtered keep free (x ∷ xs) h =
    on (keep x) (first_of_both (not (keep x) || free x) (list_all (λ y. not (keep y) || free y) xs) h) (all_filtered keep free xs (second_of_both (not (keep x) || free x) (list_all (λ y. not (keep y) || free y) xs) h))
  where
    on : (b : Bool) → (not b || free x) ≡ true → list_all free (filter keep xs) ≡ true → list_all free (cond b (x ∷ filter keep xs) (filter keep xs)) ≡ true
    on true e again = both (free x) (list_all free (filter keep xs)) e again
    on false e again = again

all_kept : {A : Type 0} (keep : A → Bool) (xs : List A) → list_all keep (filter keep xs) ≡ true
all_kept keep [] = refl
all_kept keep (x ∷ xs) = on (keep x) refl (all_kept keep xs)
  where
    on : (b : Bool) → keep x ≡ b → list_all keep (filter keep xs) ≡ true → list_all keep (cond b (x ∷ filter keep xs) (filter keep xs)) ≡ true
    on true e again = both (keep x) (list_all keep (filter keep xs)) e again
    on false e again = again

all_mapped : {A : Type 0} (p q : A → Bool) (f : A → A) → ((x : A) → p x ≡ true → q (f x) ≡ true) → (xs : List A) → list_all p xs ≡ true → list_all q (map f xs) ≡ true
all_mapped p q f h [] e = refl
all_mapped p q f h (x ∷ xs) e =
    both (q (f x)) (list_all q (map f xs)) (h x (first_of_both (p x) (list_all p xs) e)) (all_mapped p q f h xs (second_of_both (p x) (list_all p xs) e))

abbrev is_id_or_free : Instr → Bool
is_id_or_free i = not (is_kept_instr i) || is_free i

block_freed : (b : Block) → list_all is_id_or_free b.instrs ≡ true → list_all is_free (clean_block b).instrs ≡ true
block_freed b h = all_filtered is_kept_instr is_free b.instrs h

function_freed : (f : Function) → list_all (λ b. list_all is_id_or_free b.instrs) f.blocks ≡ true → list_all (λ b. list_all is_free b.instrs) (clean_function f).blocks ≡ true
function_freed f h = all_mapped (λ b. list_all is_id_or_free b.instrs) (λ b. list_all is_free b.instrs) clean_block block_freed f.blocks h

pub module_freed : (m : Module) → calls_id_alone m ≡ true → is_free_module (clean_module m) ≡ true
module_freed m h =
    both _ _ (all_mapped (λ f. list_all (λ b. list_all is_id_or_free b.instrs) f.blocks) (λ f. list_all (λ b. list_all is_free b.instrs) f.blocks) clean_function function_freed m.functions h) (all_kept is_kept_declaration m.declarations)

pub result_freed : (m x : Module) → x ≡ clean_module m → calls_id_alone m ≡ true → is_free_module x ≡ true
result_freed m x e h = ap is_free_module e ∙ module_freed m h
