-- Activations that hold different blocks, where one comes, goes or changes.
use Rattle.std.proofs.Common.{◌≡◌, ◌+◌, ℕ, zero, suc, List, ◌∷◌, Option, refl, sym, ap, ◌∙◌, arith}
use Rattle.std.specs.Prelude.{None, Some}
use Rattle.pass_elide_proof.specs.Elision.{Elision}
use Rattle.pass_elide_proof.specs.Match.{HoldApart, held_blocks, held_name, holds_one, is_given_mode}
use Rattle.pass_proofs.specs.run_source.declared.state.Activation.{Activation}
use Rattle.pass_proofs.specs.run_step.Values.{value_in}

module _ (e : Elision) where
  -- what an activation holds
  abbrev pub held_by : Activation → Activation → Option ℕ
  held_by a c = held_name e (is_given_mode c.mode) a

  none_some : (o : Option ℕ) (u : ℕ) → o ≡ None → o ≡ Some u → ⊥
  none_some None u n s = absurd (cc)
  none_some (Some v) u n s = absurd (cc)

  -- one that holds nothing comes
  pub apart_more : (bs cs : List Activation) (a c : Activation) → held_by a c ≡ None → HoldApart e bs cs
      → HoldApart e (a ∷ bs) (c ∷ cs)
  apart_more bs cs a c none h zero zero u v p q r s ne ep eq er es hp hq same = ne refl
  apart_more bs cs a c none h zero (suc k) u v p q r s ne ep eq er es hp hq same =
      let first : a ≡ p = cc in
      let second : c ≡ r = cc in
      none_some (held_by a c) u none ((λ i. held_by (first i) (second i)) ∙ hp)
  apart_more bs cs a c none h (suc j) zero u v p q r s ne ep eq er es hp hq same =
      let first : a ≡ q = cc in
      let second : c ≡ s = cc in
      none_some (held_by a c) v none ((λ i. held_by (first i) (second i)) ∙ hq)
  apart_more bs cs a c none h (suc j) (suc k) u v p q r s ne ep eq er es hp hq same =
      h j k u v p q r s (λ is. ne (ap suc is)) ep eq er es hp hq same

  -- one goes
  pub apart_less : (bs cs : List Activation) (a c : Activation) → HoldApart e (a ∷ bs) (c ∷ cs) → HoldApart e bs cs
  apart_less bs cs a c h j k u v p q r s ne ep eq er es hp hq same =
      h (suc j) (suc k) u v p q r s (λ is. ne (next j k is)) ep eq er es hp hq same
    where
      next : (j k : ℕ) → suc j ≡ suc k → j ≡ k
      next j k is = omega (arith, is)

  -- the first holds the same block as before
  pub apart_same : (bs cs : List Activation) (a c a' c' : Activation) → held_by a' c' ≡ held_by a c
      → ((u : ℕ) → held_by a c ≡ Some u → value_in a'.values u ≡ value_in a.values u)
      → HoldApart e (a ∷ bs) (c ∷ cs) → HoldApart e (a' ∷ bs) (c' ∷ cs)
  apart_same bs cs a c a' c' names values h zero zero u v p q r s ne ep eq er es hp hq same = ne refl
  apart_same bs cs a c a' c' names values h zero (suc k) u v p q r s ne ep eq er es hp hq same =
      let first : a' ≡ p = cc in
      let second : c' ≡ r = cc in
      let old : held_by a c ≡ Some u = sym names ∙ ((λ i. held_by (first i) (second i)) ∙ hp) in
      let value : value_in a.values u ≡ value_in p.values u
      = sym (values u old) ∙ ap (λ (z : Activation). value_in z.values u) first in
      h zero (suc k) u v a q c s ne refl eq refl es old hq (value ∙ same)
  apart_same bs cs a c a' c' names values h (suc j) zero u v p q r s ne ep eq er es hp hq same =
      let first : a' ≡ q = cc in
      let second : c' ≡ s = cc in
      let old : held_by a c ≡ Some v = sym names ∙ ((λ i. held_by (first i) (second i)) ∙ hq) in
      let value : value_in a.values v ≡ value_in q.values v
      = sym (values v old) ∙ ap (λ (z : Activation). value_in z.values v) first in
      h (suc j) zero u v p a r c ne ep refl er refl hp old (same ∙ sym value)
  apart_same bs cs a c a' c' names values h (suc j) (suc k) u v p q r s ne ep eq er es hp hq same =
      h (suc j) (suc k) u v p q r s ne ep eq er es hp hq same

  -- as many blocks are held
  pub held_more : (bs cs : List Activation) (a c : Activation) → held_by a c ≡ None
      → held_blocks e (a ∷ bs) (c ∷ cs) ≡ held_blocks e bs cs
  held_more bs cs a c none = ap (λ (o : Option ℕ). holds_one o + held_blocks e bs cs) none ∙ nothing
      (held_blocks e bs cs)
    where
      nothing : (n : ℕ) → 0 + n ≡ n
      nothing n = omega arith
