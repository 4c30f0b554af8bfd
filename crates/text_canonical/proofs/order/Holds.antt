-- Phrases that stand at the front of printed symbols.
use Rattle.std.proofs.Common.{◌≡◌, ℕ, suc, Bool, true, false, cond, ◌==◌, inl, inr, List, [], ◌∷◌, ◌++◌, append_assoc, Option, refl, sym, ap, subst, ◌∙◌}
use Rattle.std.specs.Prelude.{slice_get}
use Rattle.std.proofs.lemmas.Bool.{and_from, and_parts, eqb-true, eq-eqb, both_ways}
use Rattle.ir_base.specs.declared.name.Name.{Name}
use Rattle.ir_model.specs.Names.{same_name, same_text}
use Rattle.text_symbols.specs.declared.sym.Mark.{Mark}
use Rattle.text_symbols.specs.declared.sym.Sym.{Sym}
use Rattle.text_symbols.specs.declared.word.Word.{Word}
use Rattle.text_canonical.specs.canonical.OperandSymbols.{local_symbol}
use Rattle.text_grammar.specs.Blocks.{label}
use Rattle.text_grammar.specs.Phrases.{Phrase, Naming, ◌⨾◌, each, mark, nothing, plain, these, word}
use Rattle.text_grammar.specs.Values.{IsPlace, local}
use Rattle.text_canonical.specs.order.Places.{behind, each_order, local_order, placed, placed_if}
use Rattle.text_canonical.specs.order.Shape.{Each, IsPlaced}
use Rattle.text_symbols.specs.declared.sym.Sym.TheVariants as syms

-- ---- outside functions

-- the phrase stands before anything
pub record Holds (P : Phrase) (ss : List Sym) : Type 0 where
  pub at : (more : List Sym) → P (ss ++ more) more

pub holds_seq : {P Q : Phrase} {xs ys : List Sym} → Holds P xs → Holds Q ys → Holds (P ⨾ Q) (xs ++ ys)
holds_seq {P} {Q} {xs} {ys} a b = record {
  at = λ more. (ys ++ more, subst (λ (l : List Sym). P l (ys ++ more)) (sym (append_assoc xs ys more)) (a.at (ys ++ more)), b.at more);
}

pub holds_same : {P : Phrase} {xs ys : List Sym} → xs ≡ ys → Holds P xs → Holds P ys
holds_same {P} {xs} {ys} e a = subst (λ (l : List Sym). Holds P l) e a

pub holds_these : (ws : List Sym) → Holds (these ws) ws
holds_these ws = record { at = λ more. refl }

pub holds_word : (w : Word) → Holds (word w) (syms.Word w ∷ [])
holds_word w = holds_these (syms.Word w ∷ [])

pub holds_mark : (m : Mark) → Holds (mark m) (syms.Mark m ∷ [])
holds_mark m = holds_these (syms.Mark m ∷ [])

pub holds_nothing : Holds nothing []
holds_nothing = record { at = λ more. refl }

-- one phrase after another, as their symbols are written
pub holds_each : {A : Type 0} (P : A → Phrase) (S : A → List Sym) (T : List A → List Sym) (Q : A → Type 0) → T [] ≡ [] → ((x : A) (xs : List A) → T (x ∷ xs) ≡ S x ++ T xs) → ((x : A) → Q x → Holds (P x) (S x)) → (xs : List A) → Each Q xs → Holds (each P xs) (T xs)
holds_each P S T Q none more step [] h = holds_same (sym none) holds_nothing
holds_each P S T Q none more step (x ∷ xs) h = holds_same (sym (more x xs)) (holds_seq (step x h.0) (holds_each P S T Q none more step xs h.1))

-- ---- inside a function

-- the phrase stands before anything, and makes these names of those
pub record Ordered (P : Naming) (ss : List Sym) (ns ns_end : List Name) : Type 0 where
  pub at : (more : List Sym) → P (ns, ss ++ more) (ns_end, more)

pub ordered_seq : {P Q : Naming} {xs ys : List Sym} {ns m ns_end : List Name} → Ordered P xs ns m → Ordered Q ys m ns_end → Ordered (P ⨾ Q) (xs ++ ys) ns ns_end
ordered_seq {P} {Q} {xs} {ys} {ns} {m} {ns_end} a b = record {
  at = λ more. ((m, ys ++ more), subst (λ (l : List Sym). P (ns, l) (m, ys ++ more)) (sym (append_assoc xs ys more)) (a.at (ys ++ more)), b.at more);
}

pub ordered_same : {P : Naming} {xs ys : List Sym} {ns ns_end : List Name} → xs ≡ ys → Ordered P xs ns ns_end → Ordered P ys ns ns_end
ordered_same {P} {xs} {ys} {ns} {ns_end} e a = subst (λ (l : List Sym). Ordered P l ns ns_end) e a

pub ordered_plain : {P : Phrase} {ss : List Sym} {ns : List Name} → Holds P ss → Ordered (plain P) ss ns ns
ordered_plain a = record { at = λ more. (refl, a.at more) }

pub ordered_nothing : {ns : List Name} → Ordered nothing [] ns ns
ordered_nothing = record { at = λ more. refl }

pub ordered_each : {A : Type 0} (f : A → List Name → A × List Name) (P : A → Naming) (S : A → List Sym) (T : List A → List Sym) (Q : A → Type 0) → T [] ≡ [] → ((x : A) (xs : List A) → T (x ∷ xs) ≡ S x ++ T xs)
    → ((x : A) (ns : List Name) → Q x → Ordered (P (f x ns).0) (S x) ns (f x ns).1) → (xs : List A) (ns : List Name) → Each Q xs → Ordered (each P (each_order f xs ns).0) (T xs) ns (each_order f xs ns).1
ordered_each f P S T Q none more step [] ns h = ordered_same (sym none) ordered_nothing
ordered_each f P S T Q none more step (x ∷ xs) ns h =
    ordered_same (sym (more x xs)) (ordered_seq (step x ns h.0) (ordered_each f P S T Q none more step xs (f x ns).1 h.1))

-- ---- names

text_same : (s t : List ℕ) → same_text s t ≡ true → s ≡ t
text_same [] [] h = refl
text_same [] (y ∷ ys) h = absurd cc
text_same (x ∷ xs) [] h = absurd cc
text_same (x ∷ xs) (y ∷ ys) h =
    let parts = and_parts (x == y) (same_text xs ys) h in
    ap (λ (n : ℕ). n ∷ xs) (eqb-true x y parts.0) ∙ ap (λ (l : List ℕ). y ∷ l) (text_same xs ys parts.1)

text_refl : (t : List ℕ) → same_text t t ≡ true
text_refl [] = refl
text_refl (x ∷ xs) = and_from (x == x) (same_text xs xs) (eq-eqb x x refl) (text_refl xs)

name_same : (m n : Name) → same_name m n ≡ true → m ≡ n
name_same (Name.Number a) (Name.Number b) h = ap (λ (x : ℕ). Name.Number x) (eqb-true a b h)
name_same (Name.Number a) (Name.Text t) h = absurd cc
name_same (Name.Text s) (Name.Number b) h = absurd cc
name_same (Name.Text s) (Name.Text t) h = ap (λ (l : List ℕ). Name.Text l) (text_same s t h)

name_refl : (n : Name) → same_name n n ≡ true
name_refl (Name.Number a) = eq-eqb a a refl
name_refl (Name.Text t) = text_refl t

name_differs : (m n : Name) → same_name m n ≡ false → m ≡ n → ⊥
name_differs m n h e = both_ways (same_name m n) h (ap (same_name m) (sym e) ∙ name_refl m)

-- a place behind another name
further : (m n : Name) (ns : List Name) (r : ℕ × List Name) → (m ≡ n → ⊥) → IsPlace ns n r.0 r.1 → IsPlace (m ∷ ns) n (behind m r).0 (behind m r).1
further m n ns r differs (inl h) = inl ((differs, h.0), ap (λ (l : List Name). m ∷ l) h.1)
further m n ns r differs (inr h) = inr ((differs, h.0), ap suc h.1, ap (λ (l : List Name). m ∷ l) h.2)

placed_by : (m n : Name) (ns : List Name) (b : Bool) → same_name m n ≡ b → IsPlace ns n (placed n ns).0 (placed n ns).1 → IsPlace (m ∷ ns) n (cond b (0, m ∷ ns) (behind m (placed n ns))).0 (cond b (0, m ∷ ns) (behind m (placed n ns))).1
placed_by m n ns true e h = inl (name_same m n e, refl)
placed_by m n ns false e h = further m n ns (placed n ns) (name_differs m n e) h

pub placed_is : (n : Name) (ns : List Name) → IsPlace ns n (placed n ns).0 (placed n ns).1
placed_is n [] = inr (tt, refl, refl)
placed_is n (m ∷ ns) = placed_by m n ns (same_name m n) refl (placed_is n ns)

abbrev OrderedAt : (ℕ → Naming) → (Option Name → Sym) → ℕ → List Name → Option Name → Type 0
OrderedAt P S i ns o = Ordered (P (placed_if o i ns).0) (S o ∷ []) ns (placed_if o i ns).1

pub local_ordered : (names : List Name) (i : ℕ) (ns : List Name) → IsPlaced names i → Ordered (local (local_order names i ns).0) (local_symbol names i ∷ []) ns (local_order names i ns).1
local_ordered names i ns h = subst (OrderedAt local (λ o. syms.Local o) i ns) (sym h.1) (record { at = λ more. (h.0, refl, placed_is h.0 ns) })

pub label_ordered : (names : List Name) (i : ℕ) (ns : List Name) → IsPlaced names i → Ordered (label (local_order names i ns).0) (syms.Label (slice_get names i) ∷ []) ns (local_order names i ns).1
label_ordered names i ns h = subst (OrderedAt label (λ o. syms.Label o) i ns) (sym h.1) (record { at = λ more. (h.0, refl, placed_is h.0 ns) })
