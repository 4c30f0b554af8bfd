-- Operands are fetched by one table and then by another, one behind the other.
use Rattle.std.proofs.Common.{◌≡◌, ℕ, ◌<◌, ◌≤◌, Bool, true, false, List, [], ◌∷◌, length, refl, sym, ap, ◌∙◌, subst, arith}
use Rattle.std.specs.Prelude.{None, Option, Some}
use Rattle.pass_proofs.specs.ir_model.Ty.{Ty}
use Rattle.pass_proofs.specs.ir_model.declared.instr.Instr.{Instr}
use Rattle.pass_proofs.specs.ir_model.declared.operand.Operand.{Operand}
use Rattle.pass_proofs.specs.ir_parts.Contents.{instr_operands}
use Rattle.pass_proofs.specs.pass_fetch.Fetching.{fetch_into, fetch_of, fetched_operand, fetches_of_all, next_after, next_after_all, next_by, operand_by}
use Rattle.pass_proofs.specs.pass_fetch.Instrs.{with_fetched}
use Rattle.pass_proofs.specs.pass_fetch.declared.fetch.Fetch.{Fetch}
use Rattle.pass_proofs.proofs.ir_laws.facts.Members.{each_joined}
use Rattle.pass_frames_code.proofs.code.Left.{all_by}
use Rattle.pass_frames_code.proofs.distances.Sums.{more_below, sets_on, value_stays}
use Rattle.pass_frames_code.proofs.fetched.Runs.{fetched, given_stays}
use Rattle.pass_frames_code.proofs.led.Twice.{AreTwice, instr_twice, operands_fetched}
use Rattle.pass_frames_code.specs.Distances.{IsBelow, SetsFrom}
use Rattle.pass_frames_code.specs.Fetched.{AreFetched, AreSeenAs, CanFetch, IsSeenAs, seen_by, seen_of}
use Rattle.pass_frames_code.specs.Led.{IsLed, IsStill, IsTwiceFor, MayBeLed, fetched_all, seen_twice, twice_by, twice_front}
use Rattle.pass_proofs.proofs.fetch.rules.Puts.{fetch_rises}
use Rattle.pass_proofs.specs.fetch.rules.Fetches.{base_of}
use Rattle.pass_proofs.proofs.run_laws.access.Lines.{runs_append}
use Rattle.pass_proofs.specs.run_laws.changed.Changed.{Each}
use Rattle.pass_proofs.specs.run_laws.memory.Pointers.{Home, IsValue}
use Rattle.pass_proofs.specs.run_laws.transfer.Shapes.{InstrStays}
use Rattle.pass_proofs.specs.run_laws.transfer.Transfer.{StandsFor, looks_at}
use Rattle.pass_proofs.specs.run_memory.declared.pointer.Value.{Value}
use Rattle.pass_proofs.specs.run_step.Step.{AtInstr, Context, Work, value_at}
use Rattle.pass_proofs.specs.run_step.Values.{operand_value}

-- what fetches leaves the world as it is
fetch_still : (n : ℕ) (f : Fetch) → IsStill (fetch_into n f)
fetch_still n (Fetch.Load ty cell) = tt
fetch_still n (Fetch.Address base distance) = tt

pub all_still : (t : List (Option Fetch)) (n : ℕ) (xs : List Operand) → Each IsStill (fetches_of_all t n xs)
all_still t n xs = all_by t IsStill 0 (λ k y f low e. fetch_still k f) n xs (omega arith)

module _ (t u : List (Option Fetch)) (given more : ℕ → Value) (d : Context) (n : ℕ)
    (apart : (v : ℕ) → n ≤ v → fetch_of u (Operand.Local v) ≡ None) where
  -- ---- what the second table is asked behind the first

  pub can_later : (w x : Work) (a : Operand) (m : ℕ) → SetsFrom n w x → n ≤ m → CanFetch u more n d w a
      → CanFetch u more m d x a
  can_later w x (Operand.Local v) m s le h = λ f e. let y = h f e in
      let low : base_of f < n = y.1 in
      (given_stays u more d n w x f (more v) s y.1 y.0, omega (arith, low, le))
  can_later w x _ m s le h = tt

  can_by : (w x : Work) (a : Operand) (k m : ℕ) (o : Option Fetch) → SetsFrom n w x → n ≤ k → n ≤ m
      → CanFetch u more n d w a → CanFetch u more m d x (operand_by k o a)
  can_by w x a k m None s low le h = can_later w x a m s le h
  can_by w x a k m (Some f) s low le h = λ g e. let none = sym (apart k low) ∙ e in absurd (cc)

  all_can : (w x : Work) (xs : List Operand) (k m : ℕ) → SetsFrom n w x → n ≤ k → n ≤ m
      → Each (CanFetch u more n d w) xs → Each (CanFetch u more m d x) (fetched_all t k xs)
  all_can w x [] k m s low le h = tt
  all_can w x (a ∷ xs) k m s low le h =
      let up : k ≤ next_after t k a = fetch_rises t k (a ∷ []) in (
        can_by w x a k m (fetch_of t a) s low le h.0,
        all_can w x xs (next_after t k a) m s (omega (arith, low, up)) le h.1,
      )

  below_by : (a : Operand) (k m : ℕ) (o : Option Fetch) → n ≤ m → next_by k o ≤ m → IsBelow n a
      → IsBelow m (operand_by k o a)
  below_by a k m None le fit h = more_below n m a le h
  below_by a k m (Some f) le fit h = omega (arith, fit)

  pub all_low : (xs : List Operand) (k m : ℕ) → n ≤ m → next_after_all t k xs ≤ m → Each (IsBelow n) xs
      → Each (IsBelow m) (fetched_all t k xs)
  all_low [] k m le fit h = tt
  all_low (a ∷ xs) k m le fit h =
      let up : next_after t k a ≤ next_after_all t (next_after t k a) xs = fetch_rises t (next_after t k a) xs in (
        below_by a k m (fetch_of t a) le (omega (arith, fit, up)) h.0,
        all_low xs (next_after t k a) m le fit h.1,
      )

  -- ---- what is seen behind both

  one_seen : (y z x : Work) (a : Operand) (k l : ℕ) (ty : Ty) → n ≤ k → SetsFrom n y z → IsBelow n a
      → IsSeenAs t given d y z a (fetched_operand t k a)
      → IsSeenAs u more d z x (fetched_operand t k a) (fetched_operand u l (fetched_operand t k a))
      → value_at d x ty (fetched_operand u l (fetched_operand t k a)) ≡ seen_twice t u given more d y ty a
  one_seen y z x a k l ty low sets below first second = second ty ∙ on (fetch_of t a) (first ty)
    where
      -- what isn't fetched first is what it was
      later : (o : Option Fetch) → seen_by more d z ty a o ≡ seen_by more d y ty a o
      later None = value_stays d n y z ty a sets below
      later (Some f) = refl

      on : (o : Option Fetch) → value_at d z ty (operand_by k o a) ≡ seen_by given d y ty a o
          → seen_of u more d z ty (operand_by k o a) ≡ twice_by u given more d y ty a o
      on None e = later (fetch_of u a)
      on (Some f) e = ap (seen_by more d z ty (Operand.Local k)) (apart k low) ∙ e

  all_twice : (R : Operand → Operand → Type 0) (y z x : Work) (xs : List Operand) (k l : ℕ) → n ≤ k → SetsFrom n y z
      → Each (IsBelow n) xs
      → ((a b : Operand) → ((ty : Ty) → value_at d x ty b ≡ seen_twice t u given more d y ty a) → R a b)
      → AreSeenAs t given d y z k xs → AreSeenAs u more d z x l (fetched_all t k xs) → AreTwice t u R k l xs
  all_twice R y z x [] k l low sets below turns first second = tt
  all_twice R y z x (a ∷ xs) k l low sets below turns first second =
      let up : k ≤ next_after t k a = fetch_rises t k (a ∷ []) in (
        turns a (fetched_operand u l (fetched_operand t k a))
            (λ ty. one_seen y z x a k l ty low sets below.0 first.0 second.0),
        all_twice R y z x xs (next_after t k a) (next_after u l (fetched_operand t k a)) (omega (arith, low, up)) sets
            below.1 turns first.1 second.1,
      )

-- so they stand for what the source has
module _ (t u : List (Option Fetch)) (given more : ℕ → Value) (homes : List Home) (c d : Context) (w y : Work)
    (looks : Bool) where
  all_turned : (R : Operand → Operand → Type 0) (x : Work)
      → ((a b : Operand) → IsTwiceFor homes t u given more c d w y a
      → ((ty : Ty) → value_at d x ty b ≡ seen_twice t u given more d y ty a) → R a b)
      → (xs : List Operand) (k l : ℕ) → Each (IsTwiceFor homes t u given more c d w y) xs
      → AreTwice t u (λ a b. (ty : Ty) → value_at d x ty b ≡ seen_twice t u given more d y ty a) k l xs
      → AreTwice t u R k l xs
  all_turned R x turns [] k l h seen = tt
  all_turned R x turns (a ∷ xs) k l h seen = (
    turns a (fetched_operand u l (fetched_operand t k a)) h.0 seen.0,
    all_turned R x turns xs (next_after t k a) (next_after u l (fetched_operand t k a)) h.1 seen.1,
  )

  pub stands : (x : Work) (a b : Operand) → IsTwiceFor homes t u given more c d w y a
      → ((ty : Ty) → value_at d x ty b ≡ seen_twice t u given more d y ty a)
      → StandsFor looks (IsValue homes) c d w.values x.values a b
  stands x a b h seen = on looks
    where
      on : (k : Bool) → StandsFor k (IsValue homes) c d w.values x.values a b
      on false = tt
      on true = λ ty. subst (IsValue homes (operand_value c.code w.values ty a)) (sym (seen ty)) (h ty)

-- what an intrinsic asks for is looked at too
pub record IsShownLed (homes : List Home) (c d : Context) (w y : Work) (n : ℕ) (i j : Instr) (front : List Instr)
    : Type 0 where
  pub led : IsLed homes c d w y n i j front
  pub shown : InstrStays (StandsFor true (IsValue homes) c d w.values led.work.values) i j

module _ (homes : List Home) (t u : List (Option Fetch)) (given more : ℕ → Value) (c d : Context) (w y : Work)
    (n m : ℕ) (i : Instr) (h : MayBeLed homes t u given more c d w y n m i) where
  abbrev xs : List Operand
  xs = instr_operands i

  rises : n ≤ next_after_all t n xs
  rises = fetch_rises t n xs

  up : n ≤ m
  up = let a = rises in let b = h.over in omega (arith, a, b)

  low_enough : next_after_all t n xs ≤ length y.values
  low_enough =
      let a : m ≤ next_after_all u m (instr_operands (with_fetched t n i)) =
      fetch_rises u m (instr_operands (with_fetched t n i)) in
      let b = h.over in let k = h.room in omega (arith, a, b, k)

  first : AreFetched t given d n xs y
  first = fetched t given d n xs y h.can h.below low_enough

  ops : instr_operands (with_fetched t n i) ≡ fetched_all t n xs
  ops = operands_fetched t n i

  second : AreFetched u more d m (instr_operands (with_fetched t n i)) first.work
  second =
      fetched u more d m (instr_operands (with_fetched t n i)) first.work
      (subst (Each (CanFetch u more m d first.work)) (sym ops)
      (all_can t u given more d n h.apart y first.work xs n m first.sets (omega arith) up h.can_more))
      (subst (Each (IsBelow m)) (sym ops)
      (all_low t u given more d n h.apart xs n m up h.over h.below))
      (subst (λ (k : ℕ). next_after_all u m (instr_operands (with_fetched t n i)) ≤ k) (sym first.sets.room) h.room)

  seen : AreTwice t u (λ a b. (ty : Ty) → value_at d second.work ty b ≡ seen_twice t u given more d y ty a) n m xs
  seen =
      all_twice t u given more d n h.apart
      (λ a b. (ty : Ty) → value_at d second.work ty b ≡ seen_twice t u given more d y ty a) y first.work second.work xs
      n m (omega arith) first.sets h.below (λ a b e. e) first.seen
      (subst (AreSeenAs u more d first.work second.work m) ops second.seen)

  pub led_twice : IsLed homes c d w y n i (with_fetched u m (with_fetched t n i)) (twice_front t u n m i)
  led_twice = record {
    work = second.work;
    runs = runs_append d (fetches_of_all t n xs) (fetches_of_all u m (instr_operands
        (with_fetched t n i))) y first.work
        second.work first.runs second.runs;
    still = each_joined IsStill (fetches_of_all t n xs) (fetches_of_all u m (instr_operands (with_fetched t n i)))
        (all_still t n xs) (all_still u m (instr_operands (with_fetched t n i)));
    sets = sets_on n m y first.work second.work up first.sets second.sets;
    shape = instr_twice t u (StandsFor (looks_at (AtInstr i)) (IsValue homes) c d w.values second.work.values) n m i
        (all_turned t u given more homes c d w y (looks_at (AtInstr i))
        (StandsFor (looks_at (AtInstr i)) (IsValue homes) c d w.values second.work.values) second.work
        (stands t u given more homes c d w y (looks_at (AtInstr i)) second.work) xs n m h.seen seen);
  }

  pub led_shown : IsShownLed homes c d w y n i (with_fetched u m (with_fetched t n i)) (twice_front t u n m i)
  unfolding led_twice
  led_shown = record {
    led = led_twice;
    shown = instr_twice t u (StandsFor true (IsValue homes) c d w.values second.work.values) n m i
        (all_turned t u given more homes c d w y true (StandsFor true (IsValue homes) c d w.values second.work.values)
        second.work (stands t u given more homes c d w y true second.work) xs n m h.seen seen);
  }
