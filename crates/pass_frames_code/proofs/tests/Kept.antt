-- Where instructions that pass a test stand behind passes that keep it.
use Rattle.std.proofs.Common.{◌≡◌, ℕ, suc, ◌+◌, Bool, true, false, List, [], ◌∷◌, ◌++◌, length, refl, sym, ap, ◌∙◌, arith, append-nil}
use Rattle.std.proofs.lemmas.List.{length-append}
use Rattle.std.specs.Prelude.{None, Option, Some, filter, map, option_to_list, slice_get, take, if◌then◌else◌}
use Rattle.pass_proofs.proofs.ir_laws.facts.Lists.{map_map, map_same, places}
use Rattle.pass_proofs.proofs.ir_laws.facts.Members.{each_joined}
use Rattle.pass_proofs.specs.ir_model.declared.instr.Instr.{Instr}
use Rattle.pass_proofs.specs.pass_front.Front.{is_alloca, is_no_alloca}
use Rattle.pass_frames_code.specs.Layers.{Layer, after_of, becomes, before_of, behind_of, both, grown, here_of, met, only, own_place_in, passed, woven}
use Rattle.pass_frames_code.specs.Passes.{allocas_led}
use Rattle.pass_frames_code.specs.Tests.{AllFail, KeepsTest, PassesLike}

module _ (test : Instr → Bool) where
  abbrev Fails : Instr → Type 0
  Fails j = test j ≡ false

  joined : (xs ys : List Instr) → AllFail test xs → AllFail test ys → AllFail test (xs ++ ys)
  joined xs ys a b = each_joined Fails xs ys a b

  -- ---- positions in lists

  pub none_passes : (xs : List Instr) → AllFail test xs → places test xs ≡ []
  none_passes [] h = refl
  none_passes (x ∷ xs) h =
      ap (λ (b : Bool). if b then 0 ∷ map suc (places test xs) else map suc (places test xs)) h.0
      ∙ ap (map suc) (none_passes xs h.1)

  shifted_none : (ks : List ℕ) → ks ≡ map (λ k. 0 + k) ks
  shifted_none [] = refl
  shifted_none (k ∷ ks) = let e : k ≡ 0 + k = omega arith in λ i. e i ∷ shifted_none ks i

  pub places_joined : (xs ys : List Instr)
      → places test (xs ++ ys) ≡ places test xs ++ map (λ k. length xs + k) (places test ys)
  places_joined [] ys = shifted_none (places test ys)
  places_joined (x ∷ xs) ys = on (later (places_joined xs ys)) (test x)
    where
      later : places test (xs ++ ys) ≡ places test xs ++ map (λ k. length xs + k) (places test ys)
          → map suc (places test (xs ++ ys)) ≡ map suc (places test xs)
          ++ map (λ k. suc (length xs) + k) (places test ys)
      later again =
          ap (map suc) again
          ∙ map_joined suc (places test xs) (map (λ k. length xs + k) (places test ys))
          ∙ ap (λ (ks : List ℕ). map suc (places test xs) ++ ks)
          (map_map suc (λ k. length xs + k) (places test ys)
          ∙ map_same (λ k. suc (length xs + k)) (λ k. suc (length xs) + k) (λ k. omega arith) (places test ys))
        where
          map_joined : (f : ℕ → ℕ) (js ks : List ℕ) → map f (js ++ ks) ≡ map f js ++ map f ks
          map_joined f [] ks = refl
          map_joined f (j ∷ js) ks = ap (λ (is : List ℕ). f j ∷ is) (map_joined f js ks)

      on : map suc (places test (xs ++ ys)) ≡ map suc (places test xs)
          ++ map (λ k. suc (length xs) + k) (places test ys) → (b : Bool)
          → (if b then 0 ∷ map suc (places test (xs ++ ys)) else map suc (places test (xs ++ ys)))
          ≡ (if b then 0 ∷ map suc (places test xs) else map suc (places test xs))
          ++ map (λ k. suc (length xs) + k) (places test ys)
      on more true = ap (λ (ks : List ℕ). 0 ∷ ks) more
      on more false = more

  -- behind instructions that fail
  pub places_behind : (xs ys : List Instr) → AllFail test xs
      → places test (xs ++ ys) ≡ map (λ k. length xs + k) (places test ys)
  places_behind xs ys h =
      places_joined xs ys ∙ ap (λ (ks : List ℕ). ks ++ map (λ k. length xs + k) (places test ys)) (none_passes xs h)

  -- in front of them
  pub places_ahead : (xs ys : List Instr) → AllFail test ys → places test (xs ++ ys) ≡ places test xs
  places_ahead xs ys h =
      places_joined xs ys ∙ ap (λ (ks : List ℕ). places test xs ++ map (λ k. length xs + k) ks) (none_passes ys h)
      ∙ append-nil (places test xs)

  -- ---- one pass

  module _ {S : Type 0} (L : Layer S) (keeps : KeepsTest test L) where
    -- what stands in the place of an instruction
    own_place_of : (i : Instr) (h : Option Instr) → PassesLike test i h
        → places test (option_to_list h) ≡ (if test i then 0 ∷ [] else [])
    own_place_of i None e = sym (ap (λ (b : Bool). if b then 0 ∷ [] else []) e)
    own_place_of i (Some j) e = ap (λ (b : Bool). if b then 0 ∷ [] else []) e

    pub one_place : (s : S) (i : Instr)
        → places test (becomes L s i) ≡ (if test i then length (L.before s i) ∷ [] else [])
    one_place s i =
        places_behind (L.before s i) (option_to_list (L.here s i) ++ L.behind s i) (keeps.before s i)
        ∙ ap (map (λ k. length (L.before s i) + k))
        (places_ahead (option_to_list (L.here s i)) (L.behind s i) (keeps.behind s i)
        ∙ own_place_of i (L.here s i) (keeps.here s i))
        ∙ on (test i)
      where
        none : length (L.before s i) + 0 ≡ length (L.before s i)
        none = omega arith

        on : (b : Bool)
            → map (λ k. length (L.before s i) + k) (if b then 0 ∷ [] else [])
            ≡ (if b then length (L.before s i) ∷ [] else [])
        on true = ap (λ (k : ℕ). k ∷ []) none
        on false = refl

    -- how far behind the front the place of an instruction is
    abbrev offset : S → List Instr → ℕ → ℕ
    offset s is k = length (grown L s (take k is)) + length (before_of L (passed L s (take k is)) (slice_get is k))

    grown_places : (s : S) (is : List Instr) → places test (grown L s is) ≡ map (offset s is) (places test is)
    grown_places s [] = refl
    grown_places s (i ∷ is) =
        places_joined (becomes L s i) (grown L (L.after s i) is)
        ∙ (λ k. one_place s i k ++ map (λ j. length (becomes L s i) + j) (grown_places (L.after s i) is k))
        ∙ on (test i)
      where
        further : (k : ℕ) → length (becomes L s i) + offset (L.after s i) is k ≡ offset s (i ∷ is) (suc k)
        further k =
            let long = length-append (becomes L s i) (grown L (L.after s i) (take k is)) in
            omega (arith, long)

        rest : map (λ j. length (becomes L s i) + j) (map (offset (L.after s i) is) (places test is))
            ≡ map (offset s (i ∷ is)) (map suc (places test is))
        rest =
            map_map (λ j. length (becomes L s i) + j) (offset (L.after s i) is) (places test is)
            ∙ map_same (λ k. length (becomes L s i) + offset (L.after s i) is k) (λ k. offset s (i ∷ is) (suc k))
            further (places test is)
            ∙ sym (map_map (offset s (i ∷ is)) suc (places test is))

        first : length (L.before s i) ≡ 0 + length (L.before s i)
        first = omega arith

        on : (b : Bool)
            → (if b then length (L.before s i) ∷ [] else [])
            ++ map (λ j. length (becomes L s i) + j) (map (offset (L.after s i) is) (places test is))
            ≡ map (offset s (i ∷ is)) (if b then 0 ∷ map suc (places test is) else map suc (places test is))
        on true = λ k. first k ∷ rest k
        on false = rest

    pub woven_places : (is : List Instr) → places test (woven L is) ≡ map (own_place_in L is) (places test is)
    woven_places is =
        places_behind L.front (grown L L.start is ++ L.back (passed L L.start is)) keeps.front
        ∙ ap (map (λ k. length L.front + k))
        (places_ahead (grown L L.start is) (L.back (passed L L.start is)) (keeps.back (passed L L.start is))
        ∙ grown_places L.start is)
        ∙ map_map (λ k. length L.front + k) (offset L.start is) (places test is)
        ∙ map_same (λ k. length L.front + offset L.start is k) (own_place_in L is) further (places test is)
      where
        further : (k : ℕ) → length L.front + offset L.start is k ≡ own_place_in L is k
        further k =
            let long = length-append L.front (grown L L.start (take k is)) in
            omega (arith, long)

    -- instructions that fail become such
    one_fails : (s : S) (j : Instr) → test j ≡ false → AllFail test (becomes L s j)
    one_fails s j e =
        joined (L.before s j) (option_to_list (L.here s j) ++ L.behind s j) (keeps.before s j)
        (joined (option_to_list (L.here s j)) (L.behind s j) (own (L.here s j) (keeps.here s j)) (keeps.behind s j))
      where
        own : (h : Option Instr) → PassesLike test j h → AllFail test (option_to_list h)
        own None d = tt
        own (Some y) d = (d ∙ e, tt)

    pub grown_fails : (s : S) (js : List Instr) → AllFail test js → AllFail test (grown L s js)
    grown_fails s [] h = tt
    grown_fails s (j ∷ js) h =
        joined (becomes L s j) (grown L (L.after s j) js) (one_fails s j h.0) (grown_fails (L.after s j) js h.1)

  -- ---- a pass behind another one

  module _ {S T : Type 0} (L : Layer S) (M : Layer T) (one : KeepsTest test L) (other : KeepsTest test M) where
    before_fails : (t : T) (h : Option Instr) → AllFail test (before_of M t h)
    before_fails t None = tt
    before_fails t (Some j) = other.before t j

    behind_fails : (t : T) (h : Option Instr) → AllFail test (behind_of M t h)
    behind_fails t None = tt
    behind_fails t (Some j) = other.behind t j

    here_passes : (t : T) (i : Instr) (h : Option Instr) → PassesLike test i h → PassesLike test i (here_of M t h)
    here_passes t i None e = e
    here_passes t i (Some j) e = on (M.here t j) (other.here t j)
      where
        on : (y : Option Instr) → PassesLike test j y → PassesLike test i y
        on None d = sym e ∙ d
        on (Some k) d = d ∙ e

    pub both_keep : KeepsTest test (both L M)
    both_keep = record {
      front = joined M.front (grown M M.start L.front) other.front (grown_fails M other M.start L.front one.front);
      before = λ x i. joined (grown M x.1 (L.before x.0 i)) (before_of M (met L M x.0 x.1 i) (L.here x.0 i))
          (grown_fails M other x.1 (L.before x.0 i) (one.before x.0 i))
          (before_fails (met L M x.0 x.1 i) (L.here x.0 i));
      here = λ x i. here_passes (met L M x.0 x.1 i) i (L.here x.0 i) (one.here x.0 i);
      behind = λ x i.
          joined (behind_of M (met L M x.0 x.1 i) (L.here x.0 i))
          (grown M (after_of M (met L M x.0 x.1 i) (L.here x.0 i)) (L.behind x.0 i))
          (behind_fails (met L M x.0 x.1 i) (L.here x.0 i))
          (grown_fails M other (after_of M (met L M x.0 x.1 i) (L.here x.0 i)) (L.behind x.0 i)
          (one.behind x.0 i));
      back = λ x. joined (grown M x.1 (L.back x.0)) (M.back (passed M x.1 (L.back x.0)))
          (grown_fails M other x.1 (L.back x.0) (one.back x.0)) (other.back (passed M x.1 (L.back x.0)));
    }

  -- ---- allocas in front

  -- what passes isn't an alloca
  module _ (no_alloca : (j : Instr) → is_alloca j ≡ true → test j ≡ false) where
    only_keeps : KeepsTest test (only is_no_alloca)
    only_keeps = record
        { front = tt; before = λ s i. tt; here = λ s i. on i (is_alloca i) refl; behind = λ s i. tt; back = λ s. tt }
      where
        on : (i : Instr) (b : Bool) → is_alloca i ≡ b
            → PassesLike test i (if (if b then false else true) then Some i else None)
        on i true e = no_alloca i e
        on i false e = refl

    allocas_fail : (is : List Instr) → AllFail test (filter is_alloca is)
    allocas_fail [] = tt
    allocas_fail (i ∷ is) = on (allocas_fail is) (is_alloca i) refl
      where
        on : AllFail test (filter is_alloca is) → (b : Bool) → is_alloca i ≡ b
            → AllFail test (if b then i ∷ filter is_alloca is else filter is_alloca is)
        on rest true e = (no_alloca i e, rest)
        on rest false e = rest

    pub led_keeps : {S : Type 0} (L : Layer S) (is : List Instr) → KeepsTest test L
        → KeepsTest test (allocas_led L is)
    led_keeps L is k =
        let two = both_keep L (only is_no_alloca) k only_keeps in
        record {
          front = joined (filter is_alloca (woven L is)) (both L (only is_no_alloca)).front
              (allocas_fail (woven L is)) two.front;
          before = two.before;
          here = two.here;
          behind = two.behind;
          back = two.back;
        }
