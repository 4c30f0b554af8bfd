-- Arguments as words, one further.
use Rattle.std.proofs.Common.{◌≡◌, ℕ, ◌+◌, ◌<◌, List, [], ◌∷◌, ◌++◌, length, drop, map, get_or, refl, ap, sym, ◌∙◌, append_assoc, Option, Some, None}
use Rattle.std.specs.Prelude.{option_map}
use Rattle.run_memory.specs.declared.pointer.Value.{Value}
use Rattle.ir_base.specs.declared.outcome.Word.{Word}
use Rattle.run_step.specs.Step.{words_of}
use Rattle.run_step.specs.Effects.{word_of}
use Rattle.run_step.proofs.Lists.{drop-next, drop-end}

some-word : (v : Value) (w : Word) (vs : List Value) → Some w ≡ word_of v → words_of (v ∷ vs) ≡ option_map (λ ws. w ∷ ws) (words_of vs)
some-word (Value.Int x) w vs e = let s : x ≡ w = cc in ap (λ (y : Word). option_map (λ ws. y ∷ ws) (words_of vs)) s
some-word Value.Poison w vs e = absurd cc
some-word (Value.Ptr p) w vs e = absurd cc

no-word : (v : Value) (vs : List Value) → None ≡ word_of v → words_of (v ∷ vs) ≡ None
no-word (Value.Int x) vs e = absurd cc
no-word Value.Poison vs e = refl
no-word (Value.Ptr p) vs e = refl

onto-more : (done : List Word) (w : Word) (o : Option (List Word)) → option_map (λ ws. done ++ ws) (option_map (λ ws. w ∷ ws) o) ≡ option_map (λ ws. (done ++ w ∷ []) ++ ws) o
onto-more done w None = refl
onto-more done w (Some ws) = ap Some (sym (append_assoc done (w ∷ []) ws))

pub words-next : {A : Type 0} (f : A → Value) (xs : List A) (i : ℕ) (x : A) (done : List Word) (w : Word) (all : Option (List Word)) → i < length xs → x ≡ get_or xs i x → Some w ≡ word_of (f x) → all ≡ option_map (λ ws. done ++ ws) (words_of (map f (drop i xs))) → all ≡ option_map (λ ws. (done ++ w ∷ []) ++ ws) (words_of (map f (drop (i + 1) xs)))
words-next f xs i x done w all lt e is h =
    h
    ∙ ap (λ l. option_map (λ ws. done ++ ws) (words_of (map f l))) (drop-next xs i x lt e)
    ∙ ap (λ o. option_map (λ ws. done ++ ws) o) (some-word (f x) w (map f (drop (i + 1) xs)) is)
    ∙ onto-more done w (words_of (map f (drop (i + 1) xs)))

pub words-none : {A : Type 0} (f : A → Value) (xs : List A) (i : ℕ) (x : A) (done : List Word) (all : Option (List Word)) → i < length xs → x ≡ get_or xs i x → None ≡ word_of (f x) → all ≡ option_map (λ ws. done ++ ws) (words_of (map f (drop i xs))) → None ≡ all
words-none f xs i x done all lt e is h =
    sym (h
    ∙ ap (λ l. option_map (λ ws. done ++ ws) (words_of (map f l))) (drop-next xs i x lt e)
    ∙ ap (λ o. option_map (λ ws. done ++ ws) o) (no-word (f x) (map f (drop (i + 1) xs)) is))

append-none : (l : List Word) → l ++ [] ≡ l
append-none [] = refl
append-none (x ∷ xs) = ap (λ (l : List Word). x ∷ l) (append-none xs)

pub words-end : {A : Type 0} (f : A → Value) (xs : List A) (i : ℕ) (done : List Word) (all : Option (List Word)) → i ≡ length xs → all ≡ option_map (λ ws. done ++ ws) (words_of (map f (drop i xs))) → Some done ≡ all
words-end f xs i done all e h =
    sym (h ∙ ap (λ l. option_map (λ ws. done ++ ws) (words_of (map f l))) (drop-end xs i e) ∙ ap Some (append-none done))
