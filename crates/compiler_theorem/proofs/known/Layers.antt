-- Where an instruction stands in what a layer makes of its block, and that no instruction before it passes a test.
use Rattle.std.proofs.Common.{◌≡◌, ℕ, zero, suc, ◌+◌, ◌<◌, Bool, false, List, [], ◌∷◌, ◌++◌, length, Option, Some, None}
use Rattle.std.proofs.Common.{refl, sym, ap, ◌∙◌, subst, arith}
use Rattle.std.specs.Prelude.{option_to_list, slice_get, take}
use Rattle.compiler.proofs.ir_laws.facts.Members.{each_joined}
use Rattle.compiler.specs.ir_model.declared.instr.Instr.{Instr}
use Rattle.compiler.specs.ir_parts.Contents.{result_of}
use Rattle.pass_frames_meaning.proofs.pass_frames_proof.layers.Standing.{rest, split_woven}
use Rattle.pass_frames_meaning.proofs.pass_frames_proof.tests.Kept.{grown_fails}
use Rattle.pass_frames_meaning.specs.pass_frames_proof.Layers.{Layer, becomes, both, grown, here_of, met, passed, state_at, up_to, woven}
use Rattle.pass_frames_meaning.specs.pass_frames_proof.Tests.{AllFail, KeepsTest}

-- ---- lists

module _ {A : Type 0} where
  in_second : (xs ys : List A) (n : ℕ) → slice_get (xs ++ ys) (length xs + n) ≡ slice_get ys n
  in_second [] ys n = let same : 0 + n ≡ n = omega arith in ap (slice_get ys) same
  in_second (x ∷ xs) ys n =
      let next : suc (length xs) + n ≡ suc (length xs + n) = omega arith in
      ap (slice_get (x ∷ xs ++ ys)) next ∙ in_second xs ys n

  at_middle : (xs : List A) (y : A) (zs ws : List A) → slice_get ((xs ++ y ∷ zs) ++ ws) (length xs) ≡ Some y
  at_middle [] y zs ws = refl
  at_middle (x ∷ xs) y zs ws = at_middle xs y zs ws

  in_left : (xs ys zs : List A) (n : ℕ) → n < length xs → slice_get ((xs ++ ys) ++ zs) n ≡ slice_get xs n
  in_left [] ys zs n lt = absurd (omega (arith, lt))
  in_left (x ∷ xs) ys zs zero lt = refl
  in_left (x ∷ xs) ys zs (suc n) lt = in_left xs ys zs n (omega (arith, lt))

module _ (test : Instr → Bool) where
  pub one_fails : (xs : List Instr) → AllFail test xs → (x : Instr) (k : ℕ) → slice_get xs k ≡ Some x → test x ≡ false
  one_fails [] h x k e = absurd (cc)
  one_fails (y ∷ xs) h x zero e = let same : y ≡ x = cc in subst (λ (z : Instr). test z ≡ false) same h.0
  one_fails (y ∷ xs) h x (suc k) e = one_fails xs h.1 x k e

  pub each_fails : (xs : List Instr) → ((x : Instr) (k : ℕ) → slice_get xs k ≡ Some x → test x ≡ false)
      → AllFail test xs
  each_fails [] h = tt
  each_fails (x ∷ xs) h = (h x 0 refl, each_fails xs (λ y k e. h y (suc k) e))

  first_fail : (xs : List Instr) (n : ℕ)
      → ((x : Instr) (k : ℕ) → k < n → slice_get xs k ≡ Some x → test x ≡ false) → AllFail test (take n xs)
  first_fail xs zero h = tt
  first_fail [] (suc n) h = tt
  first_fail (x ∷ xs) (suc n) h =
      (h x 0 (omega arith) refl, first_fail xs n (λ y k lt e. h y (suc k) (omega (arith, lt)) e))

  -- what stands before the middle
  before_middle : (xs ys zs ws : List Instr) → AllFail test xs → AllFail test ys → (n : ℕ) (y : Instr)
      → n < length xs + length ys → slice_get (xs ++ ((ys ++ zs) ++ ws)) n ≡ Some y → test y ≡ false
  before_middle [] ys zs ws h k n y lt e =
      one_fails ys k y n (sym (in_left ys zs ws n (omega (arith, lt))) ∙ e)
  before_middle (x ∷ xs) ys zs ws h k zero y lt e = let same : x ≡ y = cc in subst
      (λ (z : Instr). test z ≡ false) same h.0
  before_middle (x ∷ xs) ys zs ws h k (suc n) y lt e = before_middle xs ys zs ws h.1 k n y (omega (arith, lt)) e

-- ---- a layer

module _ (test : Instr → Bool) {S : Type 0} (L : Layer S) (keeps : KeepsTest test L) where
  -- where no instruction passes, none of what it makes of them does
  pub all_fail : (is : List Instr) → AllFail test is → AllFail test (woven L is)
  all_fail is h =
      each_joined (λ (j : Instr). test j ≡ false) L.front
      (grown L L.start is ++ L.back (passed L L.start is)) keeps.front
      (each_joined (λ (j : Instr). test j ≡ false) (grown L L.start is) (L.back (passed L L.start is))
      (grown_fails test L keeps L.start is h) (keeps.back (passed L L.start is)))

  pub own_index : List Instr → ℕ → Instr → ℕ
  own_index is at i = length (up_to L is at) + length (L.before (state_at L is at) i)

  -- what stands in its place
  pub own_stands : (is : List Instr) (at : ℕ) (i j : Instr) → slice_get is at ≡ Some i
      → L.here (state_at L is at) i ≡ Some j → slice_get (woven L is) (own_index is at i) ≡ Some j
  unfolding own_index
  own_stands is at i j there here =
      let s : S = state_at L is at in
      ap (λ (xs : List Instr). slice_get xs (length (up_to L is at) + length (L.before s i)))
      (split_woven L is at i there)
      ∙ in_second (up_to L is at) (becomes L s i ++ rest L is at i) (length (L.before s i))
      ∙ ap (λ (o : Option Instr). slice_get ((L.before s i ++ (option_to_list o ++ L.behind s i)) ++ rest L is at i)
      (length (L.before s i))) here
      ∙ at_middle (L.before s i) j (L.behind s i) (rest L is at i)

  -- and nothing before it passes, where no instruction before it does
  pub none_before : (is : List Instr) (at : ℕ) (i : Instr) → slice_get is at ≡ Some i
      → ((x : Instr) (k : ℕ) → k < at → slice_get is k ≡ Some x → test x ≡ false)
      → (n : ℕ) (y : Instr) → n < own_index is at i → slice_get (woven L is) n ≡ Some y → test y ≡ false
  unfolding own_index
  none_before is at i there h n y lt e =
      let s : S = state_at L is at in
      before_middle test (up_to L is at) (L.before s i) (option_to_list (L.here s i) ++ L.behind s i) (rest L is at i)
      (each_joined (λ (j : Instr). test j ≡ false) L.front (grown L L.start (take at is)) keeps.front
      (grown_fails test L keeps L.start (take at is) (first_fail test is at h)))
      (keeps.before s i) n y lt
      (ap (λ (xs : List Instr). slice_get xs n) (sym (split_woven L is at i there)) ∙ e)

-- ---- results

-- what stands in the place of an instruction gives what that gives
abbrev pub KeepsResults : {S : Type 0} → Layer S → Type 0
KeepsResults {S} L = (s : S) (i j : Instr) → L.here s i ≡ Some j → result_of j ≡ result_of i

pub both_results : {S T : Type 0} (L : Layer S) (M : Layer T) → KeepsResults L → KeepsResults M
    → KeepsResults (both L M)
both_results L M one other x i j e = on (L.here x.0 i) refl e
  where
    on : (o : Option Instr) → L.here x.0 i ≡ o → here_of M (met L M x.0 x.1 i) o ≡ Some j → result_of j ≡ result_of i
    on None d h = absurd (cc)
    on (Some k) d h = other (met L M x.0 x.1 i) k j h ∙ one x.0 i k d
