-- What a row of passes does to a question.
use Rattle.std.proofs.Common.{◌≡◌, ℕ, zero, suc, ◌+◌, ◌<◌, ◌⊎◌, List, [], ◌∷◌, length, Some, refl, ap, ⊎_elim, inl, inr, arith}
use Rattle.std.specs.Prelude.{bit_or, slice_get}
use Rattle.flow_bits.specs.Bits.{HasBit}
use Rattle.flow_reach.proofs.Each.{some_same}
use Rattle.flow_reach.proofs.Bits.{in_without, left_bit, one_bit, right_bit, still_without}
use Rattle.flow_reach.specs.Rows.{out_word, row_words, stepped, stops_word, without}
use Rattle.flow_reach.specs.declared.question.Pass.{Pass}

-- the question goes on behind a point to which it comes, if it does
abbrev pub GoesOn : ℕ → Pass → ℕ → Type 0
GoesOn shut pass c = (HasBit pass.stops c → ⊥) × (HasBit shut c → ⊥)

pub stepped_has : (shut : ℕ) (pass : Pass) (word c : ℕ) → c < 64 → HasBit (stepped shut pass word) c → HasBit pass.begins c ⊎ (HasBit word c × GoesOn shut pass c)
stepped_has shut pass word c lt h = ⊎_elim
    (λ kept. let k = in_without word (bit_or pass.stops shut) c lt kept in inr (k.0, (λ s. k.1 (left_bit pass.stops shut c s), λ s. k.1 (right_bit pass.stops shut c s))))
    (λ begins. inl begins)
    (one_bit (without word (bit_or pass.stops shut)) pass.begins c h)

pub begins_stepped : (shut : ℕ) (pass : Pass) (word c : ℕ) → HasBit pass.begins c → HasBit (stepped shut pass word) c
begins_stepped shut pass word c h = right_bit (without word (bit_or pass.stops shut)) pass.begins c h

pub goes_stepped : (shut : ℕ) (pass : Pass) (word c : ℕ) → c < 64 → HasBit word c → GoesOn shut pass c → HasBit (stepped shut pass word) c
goes_stepped shut pass word c lt h goes =
    left_bit (without word (bit_or pass.stops shut)) pass.begins c
    (still_without word (bit_or pass.stops shut) c lt h (λ s. ⊎_elim goes.0 goes.1 (one_bit pass.stops shut c s)))

-- ---- a whole row

-- the question goes on behind each point of the row
abbrev pub GoesThrough : ℕ → ℕ → List Pass → Type 0
GoesThrough shut c [] = Unit {0}
GoesThrough shut c (pass ∷ row) = GoesOn shut pass c × GoesThrough shut c row

pub through_out : (shut : ℕ) (row : List Pass) (word c : ℕ) → c < 64 → HasBit word c → GoesThrough shut c row → HasBit (out_word shut word row) c
through_out shut [] word c lt h goes = h
through_out shut (pass ∷ row) word c lt h goes = through_out shut row (stepped shut pass word) c lt (goes_stepped shut pass word c lt h goes.0) goes.1

-- what leaves the block begins in it, or comes to its front and goes through
pub out_has : (shut : ℕ) (row : List Pass) (word other c : ℕ) → c < 64 → HasBit (out_word shut word row) c → HasBit (out_word shut other row) c ⊎ (HasBit word c × GoesThrough shut c row)
out_has shut [] word other c lt h = inr (h, tt)
out_has shut (pass ∷ row) word other c lt h = ⊎_elim
    (λ made. inl made)
    (λ through. ⊎_elim
    (λ begins. inl (through_out shut row (stepped shut pass other) c lt (begins_stepped shut pass other c begins) through.1))
    (λ k. inr (k.0, (k.1, through.1)))
    (stepped_has shut pass word c lt through.0))
    (out_has shut row (stepped shut pass word) (stepped shut pass other) c lt h)

pub none_stopped : (shut : ℕ) (row : List Pass) (word c : ℕ) → (HasBit (stops_word word row) c → ⊥) → HasBit word c → ⊥
none_stopped shut [] word c none h = none h
none_stopped shut (pass ∷ row) word c none h = none_stopped shut row (bit_or word pass.stops) c none (left_bit word pass.stops c h)

pub stops_through : (shut : ℕ) (row : List Pass) (word c : ℕ) → (HasBit shut c → ⊥) → (HasBit (stops_word word row) c → ⊥) → GoesThrough shut c row
stops_through shut [] word c clear none = tt
stops_through shut (pass ∷ row) word c clear none =
    ((λ s. none_stopped shut row (bit_or word pass.stops) c none (right_bit word pass.stops c s), clear), stops_through shut row (bit_or word pass.stops) c clear none)

pub through_stops : (shut : ℕ) (row : List Pass) (word c : ℕ) → (HasBit word c → ⊥) → GoesThrough shut c row → HasBit (stops_word word row) c → ⊥
through_stops shut [] word c none goes h = none h
through_stops shut (pass ∷ row) word c none goes h =
    through_stops shut row (bit_or word pass.stops) c (λ s. ⊎_elim none goes.0.0 (one_bit word pass.stops c s)) goes.1 h

-- ---- point by point

-- the word at a position of the row, and that behind the last
abbrev pub word_after : ℕ → ℕ → List Pass → ℕ → ℕ
word_after shut word row zero = word
word_after shut word [] (suc k) = word
word_after shut word (pass ∷ row) (suc k) = word_after shut (stepped shut pass word) row k

pub length_words : (shut word : ℕ) (row : List Pass) → length (row_words shut word row) ≡ length row
length_words shut word [] = refl
length_words shut word (pass ∷ row) = ap suc (length_words shut (stepped shut pass word) row)

pub word_stands : (shut word : ℕ) (row : List Pass) (k : ℕ) → k < length row → slice_get (row_words shut word row) k ≡ Some (word_after shut word row k)
word_stands shut word [] k lt = absurd (omega arith)
word_stands shut word (pass ∷ row) zero lt = refl
word_stands shut word (pass ∷ row) (suc k) lt = word_stands shut (stepped shut pass word) row k (omega arith)

pub after_step : (shut word : ℕ) (row : List Pass) (k : ℕ) (pass : Pass) → slice_get row k ≡ Some pass → word_after shut word row (suc k) ≡ stepped shut pass (word_after shut word row k)
after_step shut word [] k pass e = absurd (cc)
after_step shut word (p ∷ row) zero pass e = ap (λ (x : Pass). stepped shut x word) (some_same p pass e)
after_step shut word (p ∷ row) (suc k) pass e = after_step shut (stepped shut p word) row k pass e

pub after_all : (shut word : ℕ) (row : List Pass) → word_after shut word row (length row) ≡ out_word shut word row
after_all shut word [] = refl
after_all shut word (pass ∷ row) = after_all shut (stepped shut pass word) row

-- behind the last point
pub out_step : (shut word : ℕ) (row : List Pass) (n : ℕ) (pass : Pass) → length row ≡ n + 1 → slice_get row n ≡ Some pass → out_word shut word row ≡ stepped shut pass (word_after shut word row n)
out_step shut word [] n pass len e = absurd (cc)
out_step shut word (p ∷ []) zero pass len e = ap (λ (x : Pass). stepped shut x word) (some_same p pass e)
out_step shut word (p ∷ q ∷ row) zero pass len e = absurd (omega (arith, len))
out_step shut word (p ∷ row) (suc n) pass len e = out_step shut (stepped shut p word) row n pass (omega (arith, len)) e
