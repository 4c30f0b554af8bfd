-- Words of bits obey the laws of the solver.
use Rattle.std.proofs.Common.{◌≡◌, ℕ, zero, suc, ◌+◌, ◌<◌, ◌≤◌, ◌⊎◌, List, sym, subst, ⊎_elim, inl, inr, arith}
use Rattle.std.specs.Prelude.{bit_and, bit_or}
use Rattle.std.specs.Int.{bit_at}
use Rattle.std.proofs.lemmas.Bool.{cases_lt}
use Rattle.std.proofs.lemmas.Nat.Bits.{bit_at_and, bit_at_or, bit_at-zero, bit_at-lt}
use Rattle.flow_bits.specs.Bits.{IsWithin, bits_below, kept_at, words}
use Rattle.flow_solver.specs.Domain.{IsLattice}

-- of the lowest bits each of the first is one of the second
abbrev IsBelow : ℕ → ℕ → ℕ → Type 0
IsBelow k a b = (c : ℕ) → c < k → bit_at a c ≤ bit_at b c

bits_bounded : (k a : ℕ) → bits_below k a ≤ k
unfolding bits_below
bits_bounded zero a = omega arith
bits_bounded (suc k) a =
    let here = bit_at-lt a k in
    let rest = bits_bounded k a in
    omega (arith, here, rest)

bits_mono : (k a b : ℕ) → IsBelow k a b → bits_below k a ≤ bits_below k b
unfolding bits_below
bits_mono zero a b h = omega arith
bits_mono (suc k) a b h =
    let here = h k (omega arith) in
    let rest = bits_mono k a b (λ c lt. h c (omega arith)) in
    omega (arith, here, rest)

-- a word that is within another has the same low bits, or fewer
same_or_fewer : (k a b : ℕ) → IsBelow k a b → IsBelow k b a ⊎ (bits_below k a < bits_below k b)
unfolding bits_below
same_or_fewer zero a b h = inl (λ c lt. absurd (omega arith))
same_or_fewer (suc k) a b h = ⊎_elim same (λ fewer. let here = h k (omega arith) in inr (omega (arith, here, fewer))) (same_or_fewer k a b (λ c lt. h c (omega arith)))
  where
    last : bit_at b k ≤ bit_at a k → IsBelow k b a → IsBelow (suc k) b a
    last here low c lt = ⊎_elim (λ below. low c below)
        (λ above. let at : c ≡ k = omega (arith, above, lt) in subst (λ x. bit_at b x ≤ bit_at a x) (sym at) here)
        (cases_lt c k)

    same : IsBelow k b a → IsBelow (suc k) b a ⊎ (bit_at a k + bits_below k a < bit_at b k + bits_below k b)
    same low = ⊎_elim
        (λ less. let rest = bits_mono k a b (λ c lt. h c (omega arith)) in inr (omega (arith, less, rest)))
        (λ not_less. inl (last not_less low))
        (cases_lt (bit_at a k) (bit_at b k))

rises : (k a b : ℕ) → IsBelow k a b → (IsBelow k b a → ⊥) → bits_below k a < bits_below k b
rises k a b h new = ⊎_elim (λ low. absurd (new low)) (λ fewer. fewer) (same_or_fewer k a b h)

or_left : (a b : ℕ) → IsWithin a (bit_or a b)
or_left a b c lt = let at = bit_at_or a b c in omega (arith, at)

or_right : (a b : ℕ) → IsWithin b (bit_or a b)
or_right a b c lt = let at = bit_at_or a b c in omega (arith, at)

or_least : (a b m : ℕ) → IsWithin a m → IsWithin b m → IsWithin (bit_or a b) m
or_least a b m ha hb c lt = let at = bit_at_or a b c in let pa = ha c lt in let pb = hb c lt in omega (arith, at, pa, pb)

and_rises : (a b k : ℕ) → IsWithin a b → IsWithin (bit_and a k) (bit_and b k)
and_rises a b k h c lt = let pa = bit_at_and a k c in let pb = bit_at_and b k c in let at = h c lt in omega (arith, pa, pb, at)

and_within : (a k : ℕ) → IsWithin (bit_and a k) a
and_within a k c lt = let at = bit_at_and a k c in omega (arith, at)

and_or : (a b k : ℕ) → IsWithin (bit_and (bit_or a b) k) (bit_or (bit_and a k) (bit_and b k))
and_or a b k c lt =
    let left = bit_at_and (bit_or a b) k c in
    let both = bit_at_or a b c in
    let right = bit_at_or (bit_and a k) (bit_and b k) c in
    let one = bit_at_and a k c in
    let two = bit_at_and b k c in
    omega (arith, left, both, right, one, two)

pub words_are_lattice : (kept : List ℕ) → IsLattice (words kept)
words_are_lattice kept = record {
  reflexive = λ a c lt. omega arith;
  transitive = λ a b d ab bd c lt. let p = ab c lt in let q = bd c lt in omega (arith, p, q);
  bottom_is_fact = tt;
  bottom_below = λ a is c lt. let at = bit_at-zero c in omega (arith, at);
  joined_is_fact = λ a b a_is b_is. tt;
  joined_left = λ a b a_is b_is. or_left a b;
  joined_right = λ a b a_is b_is. or_right a b;
  joined_least = λ a b m a_is b_is ha hb. or_least a b m ha hb;
  carried_is_fact = λ e a known is. tt;
  carried_rises = λ e a b known a_is b_is h. and_rises a b (kept_at kept e) h;
  carried_bottom = λ e known. and_within 0 (kept_at kept e);
  carried_joined = λ e a b known a_is b_is. and_or a b (kept_at kept e);
  rank_bounded = λ a is. bits_bounded 64 a;
  rank_rises = λ a b a_is b_is h new. rises 64 a b h new;
}
