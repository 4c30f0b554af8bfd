-- The labels of the edges that leave windows are all different, and none is one of a suspend.
use Rattle.std.proofs.Common.{◌≡◌, ℕ, zero, suc, ◌+◌, ◌/◌, ◌%◌, ◌<◌, ◌≤◌, ◌^◌, Bool, true, false, List, [], ◌∷◌, ◌++◌, append_assoc, length, refl, sym, ap, ◌∙◌, subst, arith, decimal}
use Rattle.std.specs.Prelude.{codes, if◌then◌else◌, ◌==◌}
use Rattle.std.specs.Fmt.{digit_glyph, digits, digits_onto}
use Rattle.std.proofs.lemmas.Bool.Decides.{nat_tests}
use Rattle.std.proofs.lemmas.Fmt.{decimal_injective}
use Rattle.std.proofs.lemmas.List.{append_cancel_left}
use Rattle.pass_fetch_proof.specs.ir_base.declared.name.Name.{Name}
use Rattle.ir_model.specs.Names.{numbered}
use Rattle.pass_split.specs.pass_exits.ExitBlocks.{exit_name, exit_names}
use Rattle.pass_split.specs.pass_exits.declared.exit.Exit.{Exit}
use Rattle.pass_fetch_proof.specs.run_laws.changed.Changed.{Each}
use Rattle.pass_fetch_proof.proofs.ir_laws.facts.Lists.{AreDifferent, IsNone}
use Rattle.pass_fetch_proof.proofs.rule_laws.rules.names_apart.Numbered.{text_in}
use Rattle.pass_fetch_proof.proofs.rule_laws.rules.names_apart.Words.{AreNew}
use Rattle.pass_fetch_proof.specs.rule_laws.rules.names_apart.Words.{begins_with_one}

-- ---- a number's text has no dot

abbrev AreNoDots : List ℕ → Type 0
AreNoDots ds = Each (λ c. c ≡ 46 → ⊥) ds

glyph_no_dot : (n : ℕ) → digit_glyph false (n % 10) ≡ 46 → ⊥
glyph_no_dot n e =
    let low : n % 10 < 10 = omega arith in
    let is : digit_glyph false (n % 10) ≡ 48 + n % 10 = grind (arith, nat_tests) in
    omega (arith, e, is)

onto_no_dots : (k n : ℕ) (acc : List ℕ) → AreNoDots acc → AreNoDots (digits_onto k 10 false n acc)
onto_no_dots zero n acc h = h
onto_no_dots (suc k) n acc h = on (n / 10 == 0) (onto_no_dots k (n / 10) (digit_glyph false (n % 10) ∷ acc) (glyph_no_dot n, h))
  where
    on : (b : Bool) → AreNoDots (digits_onto k 10 false (n / 10) (digit_glyph false (n % 10) ∷ acc)) → AreNoDots (if b then digit_glyph false (n % 10) ∷ acc else digits_onto k 10 false (n / 10) (digit_glyph false (n % 10) ∷ acc))
    on true rest = (glyph_no_dot n, h)
    on false rest = rest

decimal_no_dots : (n : ℕ) → AreNoDots (decimal n)
unfolding digits
decimal_no_dots n = onto_no_dots 64 n [] tt

-- what stands behind the first dot
behind_dot : (d e r s : List ℕ) → AreNoDots d → AreNoDots e → d ++ 46 ∷ r ≡ e ++ 46 ∷ s → r ≡ s
behind_dot [] [] r s h k same = cc
behind_dot [] (y ∷ e) r s h k same = let dot : y ≡ 46 = cc in absurd (k.0 dot)
behind_dot (x ∷ d) [] r s h k same = let dot : x ≡ 46 = cc in absurd (h.0 dot)
behind_dot (x ∷ d) (y ∷ e) r s h k same = behind_dot d e r s h.1 k.1 (cc)

dot_within : (d r : List ℕ) → AreNoDots (d ++ 46 ∷ r) → ⊥
dot_within [] r h = h.0 refl
dot_within (x ∷ d) r h = dot_within d r h.1

-- ---- two labels

abbrev behind_word : ℕ → ℕ → List ℕ
behind_word s k = (decimal s ++ codes ".") ++ decimal k

exits_differ : (s t k m : ℕ) → k < m → m < 2 ^ 64 → exit_name s k ≡ exit_name t m → ⊥
exits_differ s t k m less small same =
    let rest : behind_word s k ≡ behind_word t m = append_cancel_left (codes "$c.back.") (behind_word s k) (behind_word t m) (ap text_in same) in
    let dotted : decimal s ++ 46 ∷ decimal k ≡ decimal t ++ 46 ∷ decimal m = sym (append_assoc (decimal s) (codes ".") (decimal k)) ∙ rest ∙ append_assoc (decimal t) (codes ".") (decimal m) in
    let numbers : decimal k ≡ decimal m = behind_dot (decimal s) (decimal t) (decimal k) (decimal m) (decimal_no_dots s) (decimal_no_dots t) dotted in
    let equal : k ≡ m = decimal_injective k m (omega arith) small numbers in
    omega (arith, equal)

-- the label of an edge
abbrev pub IsExitName : Name → Type 0
IsExitName n = (s : ℕ) × (k : ℕ) × (n ≡ exit_name s k)

pub exit_is_no_back : (n : Name) (j : ℕ) → IsExitName n → n ≡ numbered (codes "$c.back.") j → ⊥
exit_is_no_back n j e same =
    let rest : behind_word e.0 e.1 ≡ decimal j = append_cancel_left (codes "$c.back.") (behind_word e.0 e.1) (decimal j) (ap text_in (sym e.2 ∙ same)) in
    let dotted : decimal j ≡ decimal e.0 ++ 46 ∷ decimal e.1 = sym rest ∙ append_assoc (decimal e.0) (codes ".") (decimal e.1) in
    dot_within (decimal e.0) (decimal e.1) (subst AreNoDots dotted (decimal_no_dots j))

-- ---- all labels

exit_alone : (s k m : ℕ) (es : List Exit) → k < m → m + length es ≤ 2 ^ 64 → IsNone (exit_name s k) (exit_names m es)
exit_alone s k m [] less small = tt
exit_alone s k m (e ∷ es) less small = (exits_differ s e.suspend k m less (omega arith), exit_alone s k (m + 1) es (omega arith) (omega arith))

exits_different : (k : ℕ) (es : List Exit) → k + length es ≤ 2 ^ 64 → AreDifferent (exit_names k es)
exits_different k [] small = tt
exits_different k (e ∷ es) small = (exit_alone e.suspend k (k + 1) es (omega arith) (omega arith), exits_different (k + 1) es (omega arith))

exits_begin : (k : ℕ) (es : List Exit) → Each (λ n. begins_with_one (codes "$c.back." ∷ []) n ≡ true) (exit_names k es)
exits_begin k [] = tt
exits_begin k (e ∷ es) = (refl, exits_begin (k + 1) es)

pub exits_new : (k : ℕ) (es : List Exit) → k + length es ≤ 2 ^ 64 → AreNew (codes "$c.back." ∷ []) (exit_names k es)
exits_new k es small = record { different = exits_different k es small; words = exits_begin k es }

pub are_exit_names : (k : ℕ) (es : List Exit) → Each IsExitName (exit_names k es)
are_exit_names k [] = tt
are_exit_names k (e ∷ es) = ((e.suspend, k, refl), are_exit_names (k + 1) es)
