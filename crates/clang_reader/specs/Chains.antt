-- What chains of bitcasts come to.
use Rattle.std.specs.Prelude.{◌≡◌, ◌<◌, ℕ, zero, suc, true, List, is_some}
use Rattle.clang_reader.specs.Bitcasts.{place_of, stands_for}
use Rattle.clang_reader.specs.declared.bitcasts.Bitcast.{Bitcast}

-- what stands for a token, so many times over
abbrev pub after : ℕ → List Bitcast → List ℕ → List ℕ
after zero all t = t
after (suc n) all t = after n all (stands_for all t)

-- No chain of these goes in a circle: the rank of a result is above that of the operand.
pub record AreRanked (all : List Bitcast) (rank : List ℕ → ℕ) : Type 0 where
  pub falls : (t : List ℕ) → is_some (place_of all t) ≡ true → rank (stands_for all t) < rank t
