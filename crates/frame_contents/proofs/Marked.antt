-- Marks of names, and what is held by them.
use Rattle.std.proofs.Common.{◌≡◌, ℕ, zero, suc, ◌+◌, ◌<◌, ◌≤◌, Bool, true, false, List, [], ◌++◌, length, drop, get_or, replicate, Option, refl, sym, ap, ◌∙◌}
use Rattle.std.specs.Prelude.{◌||◌, ◌==◌}
use Rattle.std.proofs.lemmas.List.{drop_all, drop_more}
use mathlib.Core.Path.{fun_ext}
use Rattle.frame_contents.specs.Held.{crossing_values, frame_slots_from, held_blocks, held_by, held_of, held_params}
use Rattle.frame_contents.specs.declared.held.Holding.{Holding}
use Rattle.ir_model.specs.declared.module.Function.{Function}
use Rattle.ir_model.specs.declared.module.Module.{Module}
use Rattle.ir_model.specs.declared.module.Block.{Block}
use Rattle.ir_model.specs.declared.module.Param.{Param}
use Rattle.ir_paths.specs.Slots.{allocas_of, has_name, promise_of}
use Rattle.frame_conflicts.specs.frame_classes.declared.class.SlotClass.{SlotClass}

or_false : (a : Bool) → (a || false) ≡ a
or_false true = refl
or_false false = refl

or_assoc : (a b c : Bool) → ((a || b) || c) ≡ (a || (b || c))
or_assoc true b c = refl
or_assoc false b c = refl

none_marked : (n v : ℕ) → get_or (replicate n false) v false ≡ false
none_marked zero v = refl
none_marked (suc n) zero = refl
none_marked (suc n) (suc v) = none_marked n v

pub marks_begun : (n : ℕ) (names : List ℕ) (marks : List Bool) → marks ≡ replicate n false → (v : ℕ) → (get_or marks v false || has_name names v) ≡ has_name names v
marks_begun n names marks is v = ap (λ (b : Bool). b || has_name names v) (ap (λ (l : List Bool). get_or l v false) is ∙ none_marked n v)

pub marks_kept : (names : List ℕ) (i : ℕ) (old new : List Bool) → i < length names → ((v : ℕ) → (get_or old v false || has_name (drop i names) v) ≡ has_name names v) →
    ((v : ℕ) → get_or new v false ≡ (get_or old v false || (get_or names i 0 == v))) → (v : ℕ) → (get_or new v false || has_name (drop (i + 1) names) v) ≡ has_name names v
marks_kept names i old new lt h grown v =
    ap (λ (b : Bool). b || has_name (drop (i + 1) names) v) (grown v)
    ∙ or_assoc (get_or old v false) (get_or names i 0 == v) (has_name (drop (i + 1) names) v)
    ∙ ap (λ (b : Bool). get_or old v false || b) (sym (ap (λ (l : List ℕ). has_name l v) (drop_more names i 0 lt)))
    ∙ h v

pub marks_done : (names : List ℕ) (i : ℕ) (marks : List Bool) → length names ≤ i → ((v : ℕ) → (get_or marks v false || has_name (drop i names) v) ≡ has_name names v) → (v : ℕ) → get_or marks v false ≡ has_name names v
marks_done names i marks le h v = sym (or_false (get_or marks v false)) ∙ ap (λ (b : Bool). get_or marks v false || b) (sym (ap (λ (l : List ℕ). has_name l v) (drop_all i names le))) ∙ h v

pub held_same : (m : Module) (f : Function) (values slots : List Bool) (a b : List ℕ) → ((v : ℕ) → get_or values v false ≡ has_name a v) → ((v : ℕ) → get_or slots v false ≡ has_name b v) →
    held_by m f (λ v. get_or values v false) (λ v. get_or slots v false) ≡ held_by m f (has_name a) (has_name b)
held_same m f values slots a b h k =
    ap (λ (t : ℕ → Bool). held_by m f t (λ v. get_or slots v false)) (fun_ext h) ∙ ap (λ (t : ℕ → Bool). held_by m f (has_name a) t) (fun_ext k)

pub held_told : (m : Module) (f : Function) (classes : List SlotClass) (crossing : List (ℕ × ℕ)) (allocas : List ℕ) (values values2 slots slots2 : List Bool) (a a2 b b2 : List ℕ) → allocas ≡ allocas_of f →
    a ≡ crossing_values crossing → a2 ≡ a → b ≡ frame_slots_from classes 0 allocas → b2 ≡ b → ((v : ℕ) → get_or values v false ≡ has_name a2 v) → ((v : ℕ) → get_or slots v false ≡ has_name b2 v) → values2 ≡ values → slots2 ≡ slots →
    held_by m f (λ v. get_or values2 v false) (λ v. get_or slots2 v false) ≡ held_of m f classes crossing
held_told m f classes crossing allocas values values2 slots slots2 a a2 b b2 allocas_are a_is same_a b_is same_b h k same_values same_slots =
    held_same m f values2 slots2 a2 b2 (λ v. ap (λ (l : List Bool). get_or l v false) same_values ∙ h v) (λ v. ap (λ (l : List Bool). get_or l v false) same_slots ∙ k v)
    ∙ ap (λ (l : List ℕ). held_by m f (has_name l) (has_name b2)) (same_a ∙ a_is)
    ∙ ap (λ (l : List ℕ). held_by m f (has_name (crossing_values crossing)) (has_name l)) (same_b ∙ b_is ∙ ap (frame_slots_from classes 0) allocas_are)

pub held_joined : (m : Module) (f : Function) (is_value is_slot : ℕ → Bool) (promise : Option ℕ) (params : List Param) (blocks : List Block) (old mid new : List Holding) → old ≡ [] → promise ≡ promise_of f → params ≡ f.params → blocks ≡ f.blocks →
    mid ≡ old ++ held_params is_value params → new ≡ mid ++ held_blocks m promise is_value is_slot blocks → new ≡ held_by m f is_value is_slot
held_joined m f is_value is_slot promise params blocks old mid new none promise_is params_are blocks_are first second =
    second
    ∙ ap (λ (l : List Holding). l ++ held_blocks m promise is_value is_slot blocks) (first ∙ ap (λ (l : List Holding). l ++ held_params is_value params) none ∙ ap (held_params is_value) params_are)
    ∙ ap (λ (l : List Block). held_params is_value f.params ++ held_blocks m promise is_value is_slot l) blocks_are
    ∙ ap (λ (p : Option ℕ). held_params is_value f.params ++ held_blocks m p is_value is_slot f.blocks) promise_is
