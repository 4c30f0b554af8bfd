-- Marks, and numbers told in their order.
use Rattle.std.proofs.Common.{◌≡◌, ℕ, ◌+◌, ◌<◌, ◌≤◌, Bool, true, false, List, [], ◌∷◌, ◌++◌, length, take, get_or, replicate, Some, sym, ap, ◌∙◌, subst, ⊎_elim, arith}
use Rattle.std.specs.Prelude.{slice_get, slice_set}
use Rattle.std.specs.List.Sorted.{IsStrictlyIncreasing}
use Rattle.std.proofs.lemmas.Bool.{cases_eq, cases_lt, false≢true}
use Rattle.std.proofs.lemmas.List.{length-append, length-replicate, length-set, take_more}
use Rattle.std.proofs.Math.ListN.{get_or-append}
use Rattle.std.proofs.Math.Seq.{get_or-append_seam}
use Rattle.std.proofs.lemmas.Option.{slice_get-get_or}
use Rattle.flow_bits.specs.Bits.{HasBit}
use Rattle.flow_blocks.specs.Words.{AreMarked, AreTold, word_at}
use Rattle.flow_bits.proofs.flow_solver.Lists.{listed_at, listed_cases, listed_front, listed_last, set_cases, set_here, set_other}
use Rattle.flow_bits.specs.flow_solver.Paths.{IsListed}
use Rattle.run_step.proofs.LabelPositions.{slice_get-replicate}

-- ---- marks

some_bool : (a b : Bool) → Some a ≡ Some b → a ≡ b
some_bool a b e = cc

pub none_marked : (nodes : ℕ) → AreMarked nodes [] (replicate nodes false)
none_marked nodes = record {
  marks_length = length-replicate nodes false;
  marks_listed = λ b at. absurd (false≢true (sym (slice_get-replicate nodes b false true at)));
  is_marked = λ b lt h. absurd h;
}

pub one_marked : (nodes block : ℕ) (blocks : List ℕ) (marks : List Bool) → AreMarked nodes blocks marks → AreMarked nodes (blocks ++ block ∷ []) (slice_set marks block true)
one_marked nodes block blocks marks m = record {
  marks_length = length-set marks block true ∙ m.marks_length;
  marks_listed = λ b at. ⊎_elim
      (λ here. subst (λ x. IsListed x (blocks ++ block ∷ [])) (sym here.0) (listed_last block blocks))
      (λ there. listed_front b blocks (block ∷ []) (m.marks_listed b there.0))
      (set_cases marks block b true true at);
  is_marked = λ b lt h. ⊎_elim
      (λ here. let len = m.marks_length in let within : block < length marks = omega (arith, here, lt, len) in ap (slice_get (slice_set marks block true)) here ∙ set_here marks block true within)
      (λ other. ⊎_elim (λ old. set_other marks block b true other ∙ m.is_marked b lt old) (λ same. absurd (other same)) (listed_cases b block blocks h))
      (cases_eq b block);
}

pub more_marked : (nodes i : ℕ) (blocks : List ℕ) (marks marks2 : List Bool) → i < length blocks → marks2 ≡ slice_set marks (get_or blocks i 0) true → AreMarked nodes (take i blocks) marks → AreMarked nodes (take (i + 1) blocks) marks2
more_marked nodes i blocks marks marks2 lt is m =
    subst (AreMarked nodes (take (i + 1) blocks)) (sym is)
    (subst (λ l. AreMarked nodes l (slice_set marks (get_or blocks i 0) true)) (sym (take_more blocks i 0 lt))
    (one_marked nodes (get_or blocks i 0) (take i blocks) marks m))

-- ---- numbers in their order

rises_on : (xs : List ℕ) (x : ℕ) → IsStrictlyIncreasing xs → ((y : ℕ) → IsListed y xs → y < x) → IsStrictlyIncreasing (xs ++ x ∷ [])
rises_on xs x rising below k lt = ⊎_elim inside last (cases_lt (k + 1) (length xs))
  where
    before : k < length xs → get_or (xs ++ x ∷ []) k 0 ≡ get_or xs k 0
    before less = get_or-append xs (x ∷ []) 0 k less

    inside : k + 1 < length xs → get_or (xs ++ x ∷ []) k 0 < get_or (xs ++ x ∷ []) (k + 1) 0
    inside less =
        let here = before (omega arith) in
        let next = get_or-append xs (x ∷ []) 0 (k + 1) less in
        let rise = rising k less in
        omega (arith, here, next, rise)

    last : length xs ≤ k + 1 → get_or (xs ++ x ∷ []) k 0 < get_or (xs ++ x ∷ []) (k + 1) 0
    last more =
        let len = length-append xs (x ∷ []) in
        let at_end : k + 1 ≡ length xs = omega (arith, lt, len, more) in
        let less : k < length xs = omega (arith, at_end) in
        let here = before less in
        let seam : get_or (xs ++ x ∷ []) (k + 1) 0 ≡ x = ap (λ n. get_or (xs ++ x ∷ []) n 0) at_end ∙ get_or-append_seam xs x [] 0 in
        let under = below (get_or xs k 0) (listed_at xs k (get_or xs k 0) (slice_get-get_or xs k 0 less)) in
        omega (arith, here, seam, under)

pub none_told : (words : List ℕ) → AreTold words 0 []
none_told words = record {
  in_order = λ k lt. absurd (omega arith);
  below = λ b h. absurd h;
  has_bit = λ b h. absurd h;
  listed = λ b lt has. absurd (omega arith);
}

pub told_here : (words : List ℕ) (at : ℕ) (blocks : List ℕ) → HasBit (word_at words at) 0 → AreTold words at blocks → AreTold words (at + 1) (blocks ++ at ∷ [])
told_here words at blocks has t = record {
  in_order = rises_on blocks at t.in_order t.below;
  below = λ b h. ⊎_elim (λ old. let lt = t.below b old in omega (arith, lt)) (λ same. omega (arith, same)) (listed_cases b at blocks h);
  has_bit = λ b h. ⊎_elim (λ old. t.has_bit b old) (λ same. subst (λ x. HasBit (word_at words x) 0) (sym same) has) (listed_cases b at blocks h);
  listed = λ b lt h. ⊎_elim
      (λ less. listed_front b blocks (at ∷ []) (t.listed b less h))
      (λ more. let same : b ≡ at = omega (arith, lt, more) in subst (λ x. IsListed x (blocks ++ at ∷ [])) (sym same) (listed_last at blocks))
      (cases_lt b at);
}

pub not_told : (words : List ℕ) (at : ℕ) (blocks : List ℕ) → (HasBit (word_at words at) 0 → ⊥) → AreTold words at blocks → AreTold words (at + 1) blocks
not_told words at blocks none t = record {
  in_order = t.in_order;
  below = λ b h. let lt = t.below b h in omega (arith, lt);
  has_bit = t.has_bit;
  listed = λ b lt h. ⊎_elim
      (λ less. t.listed b less h)
      (λ more. let same : b ≡ at = omega (arith, lt, more) in absurd (none (subst (λ x. HasBit (word_at words x) 0) same h)))
      (cases_lt b at);
}
