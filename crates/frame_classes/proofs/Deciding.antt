-- The classes that the words of all chunks give.
use Rattle.std.proofs.Common.{◌≡◌, ℕ, zero, suc, ◌+◌, ◌*◌, ◌/◌, ◌%◌, ◌<◌, ◌≤◌, Bool, true, false, ◌||◌, List, [], ◌∷◌, ◌++◌, map, length, drop, take, Some, refl, sym, ap, ◌∙◌, subst, ⊎_elim, inl, inr, arith, length-append}
use Rattle.std.specs.Prelude.{◌↔◌, ◌⊎◌, ◌==◌, All, Err, IfOk, Ok, Result, slice_get}
use Rattle.std.specs.Int.{bit_at}
use Rattle.std.proofs.lemmas.Bool.{cases_lt, false≢true}
use Rattle.std.proofs.lemmas.Option.{slice_get_within}
use Rattle.flow_bits.specs.Bits.{HasBit}
use Rattle.ir_model.specs.declared.module.Function.{Function}
use Rattle.ir_paths.proofs.Search.{either, eq_from, eq_itself, or_left, or_right}
use Rattle.ir_paths.specs.Facts.{IsWindow}
use Rattle.ir_paths.specs.Paths.{has_point}
use Rattle.ir_paths.specs.Slots.{IsRampSlot, allocas_of, has_name}
use Rattle.ir_paths.specs.Windows.{saves_of}
use Rattle.ir_paths.specs.declared.point.Point.{Point}
use Rattle.ir_paths.specs.declared.point.Window.{Window}
use Rattle.frame_slots.specs.flow_facts.Slots.{AreRampSlots}
use Rattle.flow_points.specs.Rows.{is_marked}
use Rattle.frame_classes.proofs.Passing.{shape_of_parting}
use Rattle.frame_classes.proofs.Sentences.{frame_complete, frame_sound}
use Rattle.frame_classes.specs.Answer.{AreFrameWords, AreNamed, HaveFrameWords, IsFrameWordOf, class_by, class_of, classes_from, has_bit, is_named}
use Rattle.frame_classes.specs.Classes.{AreClasses, IsOf, NeedsFrame}
use Rattle.frame_classes.specs.Rows.{word_in}
use Rattle.frame_classes.specs.Words.{IsChunkOf, IsFrameWord, IsPlanOf, is_inside_any}
use Rattle.frame_classes.specs.declared.chunk.Chunk.{Chunk}
use Rattle.frame_classes.specs.declared.class.SlotClass.{SlotClass}
use Rattle.frame_classes.specs.declared.plan.Plan.{Plan}
use Rattle.frame_slots.specs.rule_slots.Closed.{IsInOneOf, IsInSomeWindow}
use Rattle.frame_slots.specs.rule_windows.Sets.{AreIn, AreThose}

pub of_ok : {T E : Type 0} (r : Result T E) (P Q : T → Type 0) → ((x : T) → P x → Q x) → IfOk r P → IfOk r Q
of_ok (Ok x) P Q h p = h x p
of_ok (Err e) P Q h p = tt

-- ---- windows

inside_sound : (f : Function) (ws : List Window) → All (IsWindow f) ws → (p : Point) → is_inside_any ws p ≡ true → IsInOneOf f (map (λ w. (w.save, w.suspend)) ws) p
inside_sound f [] all p h = absurd (false≢true h)
inside_sound f (w ∷ ws) all p h = ⊎_elim
    (λ here. inl (((all 0 w (omega arith)).inside p).0 here))
    (λ later. inr (inside_sound f ws (λ k d lt. all (suc k) d (omega arith)) p later))
    (either (has_point w.inside p) (is_inside_any ws p) h)

inside_complete : (f : Function) (ws : List Window) → All (IsWindow f) ws → (p : Point) → IsInOneOf f (map (λ w. (w.save, w.suspend)) ws) p → is_inside_any ws p ≡ true
inside_complete f [] all p h = absurd h
inside_complete f (w ∷ ws) all p (inl here) = or_left (has_point w.inside p) (is_inside_any ws p) (((all 0 w (omega arith)).inside p).1 here)
inside_complete f (w ∷ ws) all p (inr later) = or_right (has_point w.inside p) (is_inside_any ws p) (inside_complete f ws (λ k d lt. all (suc k) d (omega arith)) p later)

pub window_set_is : (f : Function) (ws : List Window) (old new : List (List Bool)) → map (λ w. (w.save, w.suspend)) ws ≡ saves_of f → All (IsWindow f) ws → AreIn [] old →
    ((p : Point) → is_marked new p ≡ (is_marked old p || is_inside_any ws p)) → AreThose (IsInSomeWindow f) new
window_set_is f ws old new saves all empty more = record { each = λ p. (sound p, complete p) }
  where
    same : (p : Point) → is_marked new p ≡ is_inside_any ws p
    same p = more p ∙ ap (λ (b : Bool). b || is_inside_any ws p) (empty.each p)

    sound : (p : Point) → is_marked new p ≡ true → IsInSomeWindow f p
    sound p h = subst (λ (l : List (Point × Point)). IsInOneOf f l p) saves (inside_sound f ws all p (sym (same p) ∙ h))

    complete : (p : Point) → IsInSomeWindow f p → is_marked new p ≡ true
    complete p h = same p ∙ inside_complete f ws all p (subst (λ (l : List (Point × Point)). IsInOneOf f l p) (sym saves) h)

-- ---- one chunk

pub chunk_told : (f : Function) (p : Plan) → IsPlanOf f p → (slots : List ℕ) (ch : Chunk) → IsChunkOf f slots ch → (word : ℕ) → IsFrameWord f p ch word → IsFrameWordOf f slots word
chunk_told f p plan slots ch is word w = record {
  each = λ c slot lt at. (
    frame_sound f p plan slots ch is c slot lt at word w,
    frame_complete f p plan slots ch is c slot lt at (shape_of_parting f ch (record { slots = slots; is_chunk = is })) word w,
  );
}

-- ---- chunk by chunk

take_place : (n : ℕ) (xs : List ℕ) (c : ℕ) → c < n → slice_get (take n xs) c ≡ slice_get xs c
take_place zero xs c lt = absurd (omega arith)
take_place (suc n) [] c lt = refl
take_place (suc n) (x ∷ xs) zero lt = refl
take_place (suc n) (x ∷ xs) (suc c) lt = take_place n xs c (omega arith)

drop_place : (n : ℕ) (xs : List ℕ) (c : ℕ) → slice_get (drop n xs) c ≡ slice_get xs (n + c)
drop_place zero xs c = let z : 0 + c ≡ c = omega arith in ap (slice_get xs) (sym z)
drop_place (suc n) [] c = refl
drop_place (suc n) (x ∷ xs) c = let z : suc n + c ≡ suc (n + c) = omega arith in drop_place n xs c ∙ ap (slice_get (x ∷ xs)) (sym z)

take_length : (n : ℕ) (xs : List ℕ) → length (take n xs) ≤ n
take_length zero xs = omega arith
take_length (suc n) [] = omega arith
take_length (suc n) (x ∷ xs) = let h = take_length n xs in omega (arith, h)

pub at_most : (chunk : ℕ) (slots part : List ℕ) → part ≡ take 64 (drop (64 * chunk) slots) → length part ≤ 64
at_most chunk slots part e = let h = take_length 64 (drop (64 * chunk) slots) in let k = ap length e in omega (arith, h, k)

word_front : (words : List ℕ) (word k : ℕ) → k < length words → word_in (words ++ word ∷ []) k ≡ word_in words k
word_front [] word k lt = absurd (omega arith)
word_front (w ∷ words) word zero lt = refl
word_front (w ∷ words) word (suc k) lt = word_front words word k (omega arith)

word_last : (words : List ℕ) (word : ℕ) → word_in (words ++ word ∷ []) (length words) ≡ word
word_last [] word = refl
word_last (w ∷ words) word = word_last words word

below_or_at : (k n : ℕ) → k < n + 1 → (k < n) ⊎ (k ≡ n)
below_or_at k n lt = ⊎_elim (λ l. inl l) (λ ge. inr (omega arith)) (cases_lt k n)

pub one_chunk_more : (f : Function) (slots : List ℕ) (chunk : ℕ) (words new part : List ℕ) (word : ℕ) → HaveFrameWords f slots chunk words → part ≡ take 64 (drop (64 * chunk) slots) → IsFrameWordOf f part word → new ≡ words ++ word ∷ [] →
    HaveFrameWords f slots (chunk + 1) new
one_chunk_more f slots chunk words new part word have e told en = record {
  is_long = let long = have.is_long in let h = length-append words (word ∷ []) in let k = ap length en in omega (arith, long, h, k);
  each = λ k slot lt at. subst (λ (l : List ℕ). HasBit (word_in l (k / 64)) (k % 64) ↔ NeedsFrame f slot) (sym en) (⊎_elim (older k slot at) (newest k slot at) (below_or_at (k / 64) chunk lt));
}
  where
    older : (k slot : ℕ) → slice_get slots k ≡ Some slot → k / 64 < chunk → HasBit (word_in (words ++ word ∷ []) (k / 64)) (k % 64) ↔ NeedsFrame f slot
    older k slot at below =
        let long = have.is_long in
        subst (λ (w : ℕ). HasBit w (k % 64) ↔ NeedsFrame f slot) (sym (word_front words word (k / 64) (omega (arith, below, long)))) (have.each k slot below at)

    newest : (k slot : ℕ) → slice_get slots k ≡ Some slot → k / 64 ≡ chunk → HasBit (word_in (words ++ word ∷ []) (k / 64)) (k % 64) ↔ NeedsFrame f slot
    newest k slot at here =
        let long = have.is_long in
        let small : k % 64 < 64 = omega arith in
        let place : 64 * chunk + k % 64 ≡ k = omega (arith, here) in
        let found : slice_get part (k % 64) ≡ Some slot = ap (λ (l : List ℕ). slice_get l (k % 64)) e ∙ take_place 64 (drop (64 * chunk) slots) (k % 64) small ∙ drop_place (64 * chunk) slots (k % 64) ∙ ap (slice_get slots) place ∙ at in
        subst (λ (n : ℕ). HasBit (word_in (words ++ word ∷ []) n) (k % 64) ↔ NeedsFrame f slot) (long ∙ sym here)
        (subst (λ (w : ℕ). HasBit w (k % 64) ↔ NeedsFrame f slot) (sym (word_last words word)) (told.each (k % 64) slot small found))

pub all_chunks : (f : Function) (slots : List ℕ) (count chunks : ℕ) (words : List ℕ) → count ≡ length slots → ((k : ℕ) → k < count → k / 64 < chunks) → HaveFrameWords f slots chunks words → AreFrameWords f slots words
all_chunks f slots count chunks words e enough have = record {
  each = λ k slot at. let lt = slice_get_within slots k slot at in have.each k slot (enough k (omega (arith, e, lt))) at;
}

-- ---- classes

classes_length : (ramp : List Bool) (words : List ℕ) (n : ℕ) (slots : List ℕ) → length (classes_from ramp words n slots) ≡ length slots
classes_length ramp words n [] = refl
classes_length ramp words n (slot ∷ slots) = ap suc (classes_length ramp words (n + 1) slots)

class_at : (ramp : List Bool) (words : List ℕ) (n : ℕ) (slots : List ℕ) (k slot : ℕ) (class : SlotClass) → slice_get slots k ≡ Some slot → slice_get (classes_from ramp words n slots) k ≡ Some class → class ≡ class_of ramp words (n + k) slot
class_at ramp words n [] k slot class e h = absurd (cc)
class_at ramp words n (s ∷ slots) zero slot class e h =
    let same : s ≡ slot = cc in
    let is : class ≡ class_of ramp words n s = cc in
    let z : n ≡ n + 0 = omega arith in
    is ∙ ap (class_of ramp words n) same ∙ ap (λ (m : ℕ). class_of ramp words m slot) z
class_at ramp words n (s ∷ slots) (suc k) slot class e h =
    let z : n + 1 + k ≡ n + suc k = omega arith in
    class_at ramp words (n + 1) slots k slot class e h ∙ ap (λ (m : ℕ). class_of ramp words m slot) z

slot_named : (slots : List ℕ) (k slot : ℕ) → slice_get slots k ≡ Some slot → has_name slots slot ≡ true
slot_named [] k slot e = absurd (cc)
slot_named (s ∷ slots) zero slot e = let same : s ≡ slot = cc in or_left (s == slot) (has_name slots slot) (subst (λ (x : ℕ). (s == x) ≡ true) same (eq_itself s))
slot_named (s ∷ slots) (suc k) slot e = or_right (s == slot) (has_name slots slot) (slot_named slots k slot e)

bit_true : (word c : ℕ) → has_bit word c ≡ true → HasBit word c
bit_true word c h = eq_from (bit_at word c) 1 h

true_bit : (word c : ℕ) → HasBit word c → has_bit word c ≡ true
true_bit word c h = ap (λ (n : ℕ). n == 1) h

pub classes_are : (f : Function) (slots names : List ℕ) (ramp : List Bool) (words : List ℕ) (classes : List SlotClass) → slots ≡ allocas_of f → AreRampSlots f names → AreNamed names ramp → AreFrameWords f slots words →
    classes ≡ classes_from ramp words 0 slots → AreClasses f classes
classes_are f slots names ramp words classes es are named told ec = record {
  count = ap length ec ∙ classes_length ramp words 0 slots ∙ ap length es;
  each = λ k slot class at here. each k slot class (subst (λ (l : List ℕ). slice_get l k ≡ Some slot) (sym es) at) (subst (λ (l : List SlotClass). slice_get l k ≡ Some class) ec here);
}
  where
    by : (k slot : ℕ) → slice_get slots k ≡ Some slot → (b d : Bool) → is_named ramp slot ≡ b → has_bit (word_in words (k / 64)) (k % 64) ≡ d → IsOf f slot (class_by b d)
    by k slot at true d is bit = ((are.each slot).0 (sym (named.each slot) ∙ is)).1
    by k slot at false d is bit = on d bit
      where
        not_ramp : IsRampSlot f slot → ⊥
        not_ramp r = false≢true (sym is ∙ named.each slot ∙ (are.each slot).1 (subst (λ (l : List ℕ). has_name l slot ≡ true) es (slot_named slots k slot at), r))

        on : (d : Bool) → has_bit (word_in words (k / 64)) (k % 64) ≡ d → IsOf f slot (class_by false d)
        on true bit = (not_ramp, (told.each k slot at).0 (bit_true (word_in words (k / 64)) (k % 64) bit))
        on false bit = (not_ramp, λ needs. false≢true (sym bit ∙ true_bit (word_in words (k / 64)) (k % 64) ((told.each k slot at).1 needs)))

    each : (k slot : ℕ) (class : SlotClass) → slice_get slots k ≡ Some slot → slice_get (classes_from ramp words 0 slots) k ≡ Some class → IsOf f slot class
    each k slot class at here =
        let z : 0 + k ≡ k = omega arith in
        let same = class_at ramp words 0 slots k slot class at here ∙ ap (λ (m : ℕ). class_of ramp words m slot) z in
        subst (IsOf f slot) (sym same) (by k slot at (is_named ramp slot) (has_bit (word_in words (k / 64)) (k % 64)) refl refl)
