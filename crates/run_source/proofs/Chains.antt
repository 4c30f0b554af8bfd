-- The instances that began in a block, from the last on.
use Rattle.std.proofs.Common.{◌≡◌, ℕ, zero, suc, ◌<◌, ◌≤◌, Bool, true, false, ◌&&◌, List, [], ◌∷◌, length, take, refl, ap, sym, ◌∙◌, arith, Option, Some, None}
use Rattle.std.specs.Prelude.{slice_get, if◌then◌else◌, ◌==◌}
use Rattle.std.proofs.lemmas.Bool.{false≢true}
use Rattle.std.proofs.lemmas.Bool.Decides.{nat_tests}
use Rattle.std.proofs.lemmas.List.{take_all}
use Rattle.std.proofs.lemmas.Option.{same_Some}
use Rattle.run_source.specs.Indexes.{is_in, last_of}
use Rattle.run_source.specs.State.{began_at, last_from}
use Rattle.run_source.specs.declared.state.Instance.{Instance}
use Rattle.run_source.proofs.Indexes.{Found, There, is-there, last-found, last-step}

-- a test that only instances of a block pass
pub record IsOfBlock (test : Instance → Bool) (b : ℕ) : Type 0 where
  pub in_block : (x : Instance) → test x ≡ true → is_in b x ≡ true

skipped : (test : Instance → Bool) (b n : ℕ) (y : Instance) (o : Option ℕ) (v : Bool) → IsOfBlock test b → is_in b y ≡ false → test y ≡ v → (if v then Some n else o) ≡ o
skipped test b n y o true h e t = absurd (false≢true (sym e ∙ h.in_block y t))
skipped test b n y o false h e t = refl

skip : (test : Instance → Bool) (b : ℕ) (xs : List Instance) (n : ℕ) (y : Instance) → IsOfBlock test b → slice_get xs n ≡ Some y → is_in b y ≡ false → last_from test 0 (take (suc n) xs) ≡ last_from test 0 (take n xs)
skip test b xs n y h g e = last-step test xs n y g ∙ skipped test b n y (last_from test 0 (take n xs)) (test y) h e refl

step-by : (test : Instance → Bool) (b : ℕ) (xs : List Instance) (n i : ℕ) (y x : Instance) (v : Bool) → IsOfBlock test b → slice_get xs n ≡ Some y → is_in b y ≡ v → (if v then Some n else last_of b n xs) ≡ Some i → slice_get xs i ≡ Some x → (last_of b n xs ≡ Some i → last_from test 0 (take n xs) ≡ (if test x then Some i else last_from test 0 (take i xs))) → last_from test 0 (take (suc n) xs) ≡ (if test x then Some i else last_from test 0 (take i xs))
step-by test b xs n i y x true h g e is gx r =
    let same : n ≡ i = same_Some n i is in
    let sx : y ≡ x = same_Some y x (sym g ∙ ap (slice_get xs) same ∙ gx) in
    last-step test xs n y g
    ∙ ap (λ m. if test y then Some m else last_from test 0 (take m xs)) same
    ∙ ap (λ (z : Instance). if test z then Some i else last_from test 0 (take i xs)) sx
step-by test b xs n i y x false h g e is gx r = skip test b xs n y h g e ∙ r is

step-at : (test : Instance → Bool) (b : ℕ) (xs : List Instance) (n i : ℕ) (x : Instance) (t : There xs n) → IsOfBlock test b → last_of b (suc n) xs ≡ Some i → slice_get xs i ≡ Some x → (last_of b n xs ≡ Some i → last_from test 0 (take n xs) ≡ (if test x then Some i else last_from test 0 (take i xs))) → last_from test 0 (take (suc n) xs) ≡ (if test x then Some i else last_from test 0 (take i xs))
step-at test b xs n i x t h e gx r = step-by test b xs n i t.instance x (is_in b t.instance) h t.got refl (sym (last-step (is_in b) xs n t.instance t.got) ∙ e) gx r

-- the last one that passes the test is the candidate, or one before it
pub chain-step : (test : Instance → Bool) (b : ℕ) (xs : List Instance) (n i : ℕ) (x : Instance) → IsOfBlock test b → n ≤ length xs → last_of b n xs ≡ Some i → slice_get xs i ≡ Some x → last_from test 0 (take n xs) ≡ (if test x then Some i else last_from test 0 (take i xs))
chain-step test b xs zero i x h le e gx = absurd cc
chain-step test b xs (suc n) i x h le e gx = step-at test b xs n i x (is-there xs n (omega arith)) h e gx (λ f. chain-step test b xs n i x h (omega arith) f gx)

end-by : (test : Instance → Bool) (b : ℕ) (xs : List Instance) (n : ℕ) (y : Instance) (v : Bool) → IsOfBlock test b → slice_get xs n ≡ Some y → is_in b y ≡ v → (if v then Some n else last_of b n xs) ≡ None → (last_of b n xs ≡ None → last_from test 0 (take n xs) ≡ None) → last_from test 0 (take (suc n) xs) ≡ None
end-by test b xs n y true h g e is r = absurd cc
end-by test b xs n y false h g e is r = skip test b xs n y h g e ∙ r is

end-at : (test : Instance → Bool) (b : ℕ) (xs : List Instance) (n : ℕ) (t : There xs n) → IsOfBlock test b → last_of b (suc n) xs ≡ None → (last_of b n xs ≡ None → last_from test 0 (take n xs) ≡ None) → last_from test 0 (take (suc n) xs) ≡ None
end-at test b xs n t h e r = end-by test b xs n t.instance (is_in b t.instance) h t.got refl (sym (last-step (is_in b) xs n t.instance t.got) ∙ e) r

-- where there is no candidate none passes
pub chain-end : (test : Instance → Bool) (b : ℕ) (xs : List Instance) (n : ℕ) → IsOfBlock test b → n ≤ length xs → last_of b n xs ≡ None → last_from test 0 (take n xs) ≡ None
chain-end test b xs zero h le e = refl
chain-end test b xs (suc n) h le e = end-at test b xs n (is-there xs n (omega arith)) h e (λ f. chain-end test b xs n h (omega arith) f)

and-left : (a b : Bool) → (a && b) ≡ true → a ≡ true
and-left true b e = refl
and-left false b e = e

-- an instance that began at an offset of a block did so in the block
pub began-in : (b o : ℕ) → IsOfBlock (began_at b o) b
began-in b o = record { in_block = λ x e. and-left (x.block == b) (x.start == o) e }

-- ---- the walk

pub record IsCandidate (test : Instance → Bool) (b : ℕ) (xs : List Instance) (o : Option ℕ) : Type 0 where
  pub bound : ℕ
  pub within : bound ≤ length xs
  pub candidate : o ≡ last_of b bound xs
  pub rest : last_from test 0 xs ≡ last_from test 0 (take bound xs)

abbrev pub after : Option ℕ → ℕ
after None = 0
after (Some i) = suc i

pub candidate-first : (test : Instance → Bool) (b : ℕ) (xs : List Instance) (o : Option ℕ) → o ≡ last_of b (length xs) xs → IsCandidate test b xs o
candidate-first test b xs o e =
    let le : length xs ≤ length xs = omega arith in
    record { bound = length xs; within = le; candidate = e; rest = ap (last_from test 0) (sym (take_all (length xs) xs le)) }

same-block : (m n : ℕ) → (m == n) ≡ true → m ≡ n
same-block m n e = grind (arith, nat_tests)

pub candidate-here : (test : Instance → Bool) (b : ℕ) (xs : List Instance) (o : Option ℕ) (i : ℕ) (x : Instance) → IsOfBlock test b → IsCandidate test b xs o → o ≡ Some i → slice_get xs i ≡ Some x → test x ≡ true → Some i ≡ last_from test 0 xs
candidate-here test b xs o i x h k is g t =
    sym
    (k.rest
    ∙ chain-step test b xs k.bound i x h k.within (sym k.candidate ∙ is) g
    ∙ ap (λ v. if v then Some i else last_from test 0 (take i xs)) t)

pub candidate-next : (test : Instance → Bool) (b : ℕ) (xs : List Instance) (o next : Option ℕ) (i : ℕ) (x : Instance) → IsOfBlock test b → IsCandidate test b xs o → o ≡ Some i → slice_get xs i ≡ Some x → test x ≡ false → next ≡ last_of x.block i xs → IsCandidate test b xs next
candidate-next test b xs o next i x h k is g t n =
    let e : last_of b k.bound xs ≡ Some i = sym k.candidate ∙ is in
    let f : Found (is_in b) xs k.bound i = last-found (is_in b) xs k.bound i k.within e in
    let same : x.block ≡ b = same-block x.block b (ap (is_in b) (same_Some x f.instance (sym g ∙ f.got)) ∙ f.passes) in
    record {
      bound = i;
      within = omega (arith, f.below, k.within);
      candidate = n ∙ ap (λ c. last_of c i xs) same;
      rest = k.rest ∙ chain-step test b xs k.bound i x h k.within e g ∙ ap (λ v. if v then Some i else last_from test 0 (take i xs)) t;
    }

below-by : (b : ℕ) (xs : List Instance) (n : ℕ) (o : Option ℕ) → n ≤ length xs → o ≡ last_of b n xs → after o ≤ n
below-by b xs n None le e = omega arith
below-by b xs n (Some j) le e = let f : Found (is_in b) xs n j = last-found (is_in b) xs n j le (sym e) in omega (arith, f.below)

pub candidate-less : (test : Instance → Bool) (b : ℕ) (xs : List Instance) (o next : Option ℕ) (i : ℕ) (x : Instance) → IsCandidate test b xs o → o ≡ Some i → slice_get xs i ≡ Some x → next ≡ last_of x.block i xs → after next < after o
candidate-less test b xs o next i x k is g n =
    let f : Found (is_in b) xs k.bound i = last-found (is_in b) xs k.bound i k.within (sym k.candidate ∙ is) in
    let le : i ≤ length xs = omega (arith, f.below, k.within) in
    let at : after o ≡ suc i = ap after is in
    omega (arith, below-by x.block xs i next le n, at)

pub candidate-there : (test : Instance → Bool) (b : ℕ) (xs : List Instance) (o : Option ℕ) (i : ℕ) → IsCandidate test b xs o → o ≡ Some i → slice_get xs i ≡ None → ⊥
candidate-there test b xs o i k is none =
    let f : Found (is_in b) xs k.bound i = last-found (is_in b) xs k.bound i k.within (sym k.candidate ∙ is) in
    let e : Some f.instance ≡ None = sym f.got ∙ none in
    absurd cc

pub candidate-none : (test : Instance → Bool) (b : ℕ) (xs : List Instance) (o : Option ℕ) → IsOfBlock test b → IsCandidate test b xs o → o ≡ None → None ≡ last_from test 0 xs
candidate-none test b xs o h k is = sym (k.rest ∙ chain-end test b xs k.bound h k.within (sym k.candidate ∙ is))
