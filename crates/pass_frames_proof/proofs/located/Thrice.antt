-- Operands are fetched by one table, those that it doesn't fetch by a second, and those that are left by a third.
use Rattle.std.proofs.Common.{◌≡◌, ◌≤◌, ◌∷◌, ◌++◌, ◌∙◌, [], List, None, Option, Some, ap, arith, length, refl, subst}
use Rattle.std.proofs.Common.{sym, ℕ}
use Rattle.pass_frames_steps.proofs.ir_laws.facts.Members.{each_joined}
use Rattle.pass_frames_steps.specs.ir_model.Ty.{Ty}
use Rattle.pass_frames_steps.specs.ir_model.declared.instr.Instr.{Instr}
use Rattle.pass_frames_steps.specs.ir_model.declared.operand.Operand.{Operand}
use Rattle.pass_frames_steps.specs.ir_parts.Contents.{instr_operands}
use Rattle.pass_frames_steps.specs.pass_fetch.Fetching.{fetch_of, fetched_operand, fetches_of_all, next_after}
use Rattle.pass_frames_steps.specs.pass_fetch.Fetching.{next_after_all, operand_by}
use Rattle.pass_frames_steps.specs.pass_fetch.Instrs.{with_fetched}
use Rattle.pass_frames_steps.specs.pass_fetch.declared.fetch.Fetch.{Fetch}
use Rattle.pass_frames_steps.proofs.distances.Sums.{sets_on, value_stays}
use Rattle.pass_frames_steps.proofs.fetched.Runs.{fetched}
use Rattle.pass_frames_steps.proofs.led.Front.{all_low, all_still, can_later}
use Rattle.pass_frames_steps.proofs.led.Twice.{operands_fetched}
use Rattle.pass_frames_steps.specs.Distances.{IsBelow, SetsFrom}
use Rattle.pass_frames_steps.specs.Fetched.{AreFetched, AreSeenAs, CanFetch, IsSeenAs, given_of, seen_by, seen_of}
use Rattle.pass_frames_steps.specs.Led.{IsStill, fetched_all}
use Rattle.pass_frames_steps.proofs.pass_proofs.fetch.rules.Puts.{fetch_rises}
use Rattle.pass_frames_steps.proofs.run_laws.access.Lines.{runs_append}
use Rattle.pass_frames_steps.specs.run_laws.access.Lines.{Runs}
use Rattle.pass_frames_steps.specs.run_laws.changed.Changed.{Each}
use Rattle.pass_frames_steps.specs.run_memory.declared.pointer.Value.{Value}
use Rattle.pass_frames_steps.specs.run_step.Step.{Context, Work, value_at}

-- ---- what is seen of an operand

abbrev pub thrice_by : List (Option Fetch) → (one two three : ℕ → Value) → Context → Work → Ty → Operand
    → (first second : Option Fetch) → Value
thrice_by z one two three d y ty a (Some f) o = given_of one a
thrice_by z one two three d y ty a None (Some f) = given_of two a
thrice_by z one two three d y ty a None None = seen_of z three d y ty a

abbrev pub thrice : (t u z : List (Option Fetch)) → (one two three : ℕ → Value) → Context → Work → Ty → Operand
    → Value
thrice t u z one two three d y ty a = thrice_by z one two three d y ty a (fetch_of t a) (fetch_of u a)

-- an operand behind all three
abbrev pub third : (t u z : List (Option Fetch)) → (n k m : ℕ) → Operand → Operand
third t u z n k m a = fetched_operand z m (fetched_operand u k (fetched_operand t n a))

-- operand by operand, from new names on
abbrev pub AreThrice : (t u z : List (Option Fetch)) → (Operand → Operand → Type 0) → (n k m : ℕ) → List Operand
    → Type 0
AreThrice t u z R n k m [] = Unit {0}
AreThrice t u z R n k m (a ∷ xs) =
    R a (third t u z n k m a)
    × AreThrice t u z R (next_after t n a) (next_after u k (fetched_operand t n a))
    (next_after z m (fetched_operand u k (fetched_operand t n a))) xs

abbrev pub thrice_front : (t u z : List (Option Fetch)) → (n k m : ℕ) → Instr → List Instr
thrice_front t u z n k m i =
    fetches_of_all t n (instr_operands i)
    ++ (fetches_of_all u k (instr_operands (with_fetched t n i))
    ++ fetches_of_all z m (instr_operands (with_fetched u k (with_fetched t n i))))

module _ (t u z : List (Option Fetch)) (one two three : ℕ → Value) (d : Context) (n : ℕ)
    (apart : (v : ℕ) → n ≤ v → fetch_of u (Operand.Local v) ≡ None)
    (apart_too : (v : ℕ) → n ≤ v → fetch_of z (Operand.Local v) ≡ None) (y : Work) where
  -- ---- one operand

  one_seen : (y1 y2 y3 : Work) (a : Operand) (j k l : ℕ) (ty : Ty) → n ≤ j → n ≤ k → SetsFrom n y y2 → IsBelow n a
      → IsSeenAs t one d y y1 a (fetched_operand t j a)
      → IsSeenAs u two d y1 y2 (fetched_operand t j a) (fetched_operand u k (fetched_operand t j a))
      → IsSeenAs z three d y2 y3 (fetched_operand u k (fetched_operand t j a)) (third t u z j k l a)
      → value_at d y3 ty (third t u z j k l a) ≡ thrice t u z one two three d y ty a
  one_seen y1 y2 y3 a j k l ty low high sets below first second last =
      last ty ∙ on (fetch_of t a) (first ty) (second ty)
    where
      later : (o : Option Fetch) → seen_by three d y2 ty a o ≡ seen_by three d y ty a o
      later None = value_stays d n y y2 ty a sets below
      later (Some f) = refl

      unloaded : (p : Option Fetch) → value_at d y2 ty (operand_by k p a) ≡ seen_by two d y1 ty a p
          → value_at d y1 ty a ≡ value_at d y ty a
          → seen_of z three d y2 ty (operand_by k p a) ≡ thrice_by z one two three d y ty a None p
      unloaded (Some f) e same = ap (seen_by three d y2 ty (Operand.Local k)) (apart_too k high) ∙ e
      unloaded None e same = later (fetch_of z a)

      on : (o : Option Fetch) → value_at d y1 ty (operand_by j o a) ≡ seen_by one d y ty a o
          → value_at d y2 ty (fetched_operand u k (operand_by j o a)) ≡ seen_of u two d y1 ty (operand_by j o a)
          → seen_of z three d y2 ty (fetched_operand u k (operand_by j o a))
          ≡ thrice_by z one two three d y ty a o (fetch_of u a)
      on (Some f) e g =
          ap (λ (p : Option Fetch). seen_of z three d y2 ty (operand_by k p (Operand.Local j))) (apart j low)
          ∙ ap (seen_by three d y2 ty (Operand.Local j)) (apart_too j low)
          ∙ sym (ap (λ (p : Option Fetch). value_at d y2 ty (operand_by k p (Operand.Local j))) (apart j low))
          ∙ g
          ∙ ap (seen_by two d y1 ty (Operand.Local j)) (apart j low)
          ∙ e
      on None e g = unloaded (fetch_of u a) g e

  -- ---- all of them

  all_seen : (y1 y2 y3 : Work) (xs : List Operand) (j k l : ℕ) → n ≤ j → n ≤ k → SetsFrom n y y2
      → Each (IsBelow n) xs → AreSeenAs t one d y y1 j xs → AreSeenAs u two d y1 y2 k (fetched_all t j xs)
      → AreSeenAs z three d y2 y3 l (fetched_all u k (fetched_all t j xs))
      → AreThrice t u z (λ a b. (ty : Ty) → value_at d y3 ty b ≡ thrice t u z one two three d y ty a) j k l xs
  all_seen y1 y2 y3 [] j k l low high sets below first second last = tt
  all_seen y1 y2 y3 (a ∷ xs) j k l low high sets below first second last =
      let up : j ≤ next_after t j a = fetch_rises t j (a ∷ []) in
      let more : k ≤ next_after u k (fetched_operand t j a) = fetch_rises u k (fetched_operand t j a ∷ []) in (
        λ ty. one_seen y1 y2 y3 a j k l ty low high sets below.0 first.0 second.0 last.0,
        all_seen y1 y2 y3 xs (next_after t j a) (next_after u k (fetched_operand t j a))
            (next_after z l (fetched_operand u k (fetched_operand t j a))) (omega (arith, low, up))
            (omega (arith, high, more)) sets below.1 first.1 second.1 last.1,
      )

  -- ---- what the tables are asked

  -- by the second table, behind the first
  abbrev pub CanThen : ℕ → List Instr → Operand → Type 0
  CanThen k line a = (w : Work) → Runs d line y w → SetsFrom n y w → CanFetch u two k d w a

  -- by the third, where the second doesn't fetch it
  abbrev pub CanLast : Operand → Type 0
  CanLast a = fetch_of u a ≡ None → CanFetch z three n d y a

  then_by : (k : ℕ) (line : List Instr) (w : Work) (a : Operand) (j : ℕ) (o : Option Fetch) → n ≤ j
      → Runs d line y w → SetsFrom n y w → CanThen k line a → CanFetch u two k d w (operand_by j o a)
  then_by k line w a j None low runs sets h = h w runs sets
  then_by k line w a j (Some f) low runs sets h = λ g e. let none = sym (apart j low) ∙ e in absurd (cc)

  all_then : (k : ℕ) (line : List Instr) (w : Work) (xs : List Operand) (j : ℕ) → n ≤ j → Runs d line y w
      → SetsFrom n y w → Each (CanThen k line) xs → Each (CanFetch u two k d w) (fetched_all t j xs)
  all_then k line w [] j low runs sets h = tt
  all_then k line w (a ∷ xs) j low runs sets h =
      let up : j ≤ next_after t j a = fetch_rises t j (a ∷ []) in (
        then_by k line w a j (fetch_of t a) low runs sets h.0,
        all_then k line w xs (next_after t j a) (omega (arith, low, up)) runs sets h.1,
      )

  new_last : (m : ℕ) (w : Work) (j : ℕ) → n ≤ j → CanFetch z three m d w (Operand.Local j)
  new_last m w j low = λ g e. let none = sym (apart_too j low) ∙ e in absurd (cc)

  last_by : (m : ℕ) (w : Work) (a : Operand) (j k : ℕ) (o p : Option Fetch) → n ≤ j → n ≤ k → n ≤ m
      → SetsFrom n y w → fetch_of u a ≡ p → CanLast a
      → CanFetch z three m d w (operand_by k (fetch_of u (operand_by j o a)) (operand_by j o a))
  last_by m w a j k (Some f) p low high most sets e h =
      subst (λ (q : Option Fetch). CanFetch z three m d w (operand_by k q (Operand.Local j))) (sym (apart j low))
      (new_last m w j low)
  last_by m w a j k None None low high most sets e h =
      subst (λ (q : Option Fetch). CanFetch z three m d w (operand_by k q a)) (sym e)
      (can_later t z one three d n apart_too y w a m sets most (h e))
  last_by m w a j k None (Some g) low high most sets e h =
      subst (λ (q : Option Fetch). CanFetch z three m d w (operand_by k q a)) (sym e) (new_last m w k high)

  all_last : (m : ℕ) (w : Work) (xs : List Operand) (j k : ℕ) → n ≤ j → n ≤ k → n ≤ m → SetsFrom n y w
      → Each CanLast xs → Each (CanFetch z three m d w) (fetched_all u k (fetched_all t j xs))
  all_last m w [] j k low high most sets h = tt
  all_last m w (a ∷ xs) j k low high most sets h =
      let up : j ≤ next_after t j a = fetch_rises t j (a ∷ []) in
      let more : k ≤ next_after u k (fetched_operand t j a) = fetch_rises u k (fetched_operand t j a ∷ []) in (
        last_by m w a j k (fetch_of t a) (fetch_of u a) low high most sets refl h.0,
        all_last m w xs (next_after t j a) (next_after u k (fetched_operand t j a)) (omega (arith, low, up))
            (omega (arith, high, more)) most sets h.1,
      )

  -- ---- an instruction

  pub record IsLedThrice (k m : ℕ) (i : Instr) : Type 0 where
    pub work : Work
    pub runs : Runs d (thrice_front t u z n k m i) y work
    pub still : Each IsStill (thrice_front t u z n k m i)
    pub sets : SetsFrom n y work
    pub seen : AreThrice t u z (λ a b. (ty : Ty) → value_at d work ty b ≡ thrice t u z one two three d y ty a) n k m
        (instr_operands i)

  module _ (k m : ℕ) (i : Instr) (can : Each (CanFetch t one n d y) (instr_operands i))
      (can_then : Each (CanThen k (fetches_of_all t n (instr_operands i))) (instr_operands i))
      (can_last : Each CanLast (instr_operands i)) (below : Each (IsBelow n) (instr_operands i))
      (over : next_after_all t n (instr_operands i) ≤ k)
      (over_too : next_after_all u k (instr_operands (with_fetched t n i)) ≤ m)
      (room : next_after_all z m (instr_operands (with_fetched u k (with_fetched t n i))) ≤ length y.values) where
    abbrev xs : List Operand
    xs = instr_operands i

    abbrev i1 : Instr
    i1 = with_fetched t n i

    abbrev i2 : Instr
    i2 = with_fetched u k i1

    rises : n ≤ next_after_all t n xs
    rises = fetch_rises t n xs

    rises_too : k ≤ next_after_all u k (instr_operands i1)
    rises_too = fetch_rises u k (instr_operands i1)

    rises_last : m ≤ next_after_all z m (instr_operands i2)
    rises_last = fetch_rises z m (instr_operands i2)

    up : n ≤ k
    up = let p = rises in omega (arith, p, over)

    up_too : k ≤ m
    up_too = let p = rises_too in omega (arith, p, over_too)

    ops : instr_operands i1 ≡ fetched_all t n xs
    ops = operands_fetched t n i

    ops_too : instr_operands i2 ≡ fetched_all u k (fetched_all t n xs)
    ops_too = operands_fetched u k i1 ∙ ap (fetched_all u k) ops

    first : AreFetched t one d n xs y
    first = fetched t one d n xs y can below fits
      where
        fits : next_after_all t n xs ≤ length y.values
        fits =
            let a = up_too in let b = rises_too in let c = rises_last in
            omega (arith, a, b, c, over, over_too, room)

    below_first : Each (IsBelow k) (fetched_all t n xs)
    below_first = all_low t u one two d n apart xs n k up over below

    second : AreFetched u two d k (instr_operands i1) first.work
    second =
        fetched u two d k (instr_operands i1) first.work
        (subst (Each (CanFetch u two k d first.work)) (sym ops)
        (all_then k (fetches_of_all t n xs) first.work xs n (omega arith) first.runs first.sets can_then))
        (subst (Each (IsBelow k)) (sym ops) below_first) fits
      where
        fits : next_after_all u k (instr_operands i1) ≤ length first.work.values
        fits =
            let c = rises_last in let long = first.sets.room in
            omega (arith, c, over_too, room, long)

    sets_both : SetsFrom n y second.work
    sets_both = sets_on n k y first.work second.work up first.sets second.sets

    last : AreFetched z three d m (instr_operands i2) second.work
    last =
        fetched z three d m (instr_operands i2) second.work
        (subst (Each (CanFetch z three m d second.work)) (sym ops_too)
        (all_last m second.work xs n k (omega arith) up most sets_both can_last))
        (subst (Each (IsBelow m)) (sym ops_too)
        (all_low u z two three d k (λ v le. apart_too v (further v le)) (fetched_all t n xs) k m up_too
        (subst (λ (os : List Operand). next_after_all u k os ≤ m) ops over_too) below_first))
        (subst (λ (l : ℕ). next_after_all z m (instr_operands i2) ≤ l) (sym sets_both.room) room)
      where
        most : n ≤ m
        most = let a = up in let b = up_too in omega (arith, a, b)

        further : (v : ℕ) → k ≤ v → n ≤ v
        further v le = let a = up in omega (arith, a, le)

    pub led_thrice : IsLedThrice k m i
    led_thrice = record {
      work = last.work;
      runs = runs_append d (fetches_of_all t n xs)
          (fetches_of_all u k (instr_operands i1) ++ fetches_of_all z m (instr_operands i2)) y first.work last.work
          first.runs
          (runs_append d (fetches_of_all u k (instr_operands i1)) (fetches_of_all z m (instr_operands i2)) first.work
          second.work last.work second.runs last.runs);
      still = each_joined IsStill (fetches_of_all t n xs)
          (fetches_of_all u k (instr_operands i1) ++ fetches_of_all z m (instr_operands i2)) (all_still t n xs)
          (each_joined IsStill (fetches_of_all u k (instr_operands i1)) (fetches_of_all z m (instr_operands i2))
          (all_still u k (instr_operands i1)) (all_still z m (instr_operands i2)));
      sets = sets_on n m y second.work last.work all_up sets_both last.sets;
      seen = all_seen first.work second.work last.work xs n k m (omega arith) up sets_both below first.seen
          (subst (AreSeenAs u two d first.work second.work k) ops second.seen)
          (subst (AreSeenAs z three d second.work last.work m) ops_too last.seen);
    }
      where
        all_up : n ≤ m
        all_up = let a = up in let b = up_too in omega (arith, a, b)
