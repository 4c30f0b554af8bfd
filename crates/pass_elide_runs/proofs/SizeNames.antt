-- A name that coro.size alone gives has the size of its function's frame.
use Rattle.std.proofs.Common.{◌≡◌, ◌⊎◌, inl, inr, ◌∙◌, ◌<◌, ◌^◌, ℕ, List, Ok, Option, ap, refl, sym, subst, arith}
use Rattle.std.proofs.Math.Nat.{mod-eq_of_lt}
use Rattle.std.specs.Prelude.{pos}
use Rattle.pass_elide_proof.proofs.BeginSteps.{sizes_are}
use Rattle.pass_elide_proof.specs.Elision.{Elision, framed, function_in}
use Rattle.pass_elide_proof.specs.Match.{frame_size}
use Rattle.pass_elide_proof.specs.PlacingStates.{BeginsInCoroutines}
use Rattle.pass_elide_runs.proofs.GivenNames.{given_in_runs}
use Rattle.pass_elide_runs.specs.Names.{AsksAlloc, AsksSize, HaveGiven, IsGivenBy}
use Rattle.pass_elide_proof.specs.pass_proofs.ir_base.declared.outcome.Word.{Word}
use Rattle.pass_elide_proof.specs.pass_proofs.ir_model.declared.operand.Arg.{Arg}
use Rattle.pass_elide_proof.specs.pass_proofs.ir_model.declared.operand.Intrinsic.{Intrinsic}
use Rattle.pass_elide_proof.specs.pass_proofs.run_agreement.Machines.{IsFine}
use Rattle.pass_elide_proof.specs.pass_proofs.run_framed.Framed.{FramedGiven, allocates, framed_coro, framed_state_at}
use Rattle.pass_elide_proof.specs.pass_proofs.run_ints.Numbers.{word_of}
use Rattle.pass_elide_proof.specs.pass_proofs.run_memory.declared.pointer.Value.{Value}
use Rattle.pass_elide_proof.specs.pass_proofs.run_source.State.{gives, own_frame}
use Rattle.pass_elide_proof.specs.pass_proofs.run_source.declared.state.Mode.{Mode}
use Rattle.pass_elide_proof.specs.pass_proofs.run_source.declared.state.State.{State}
use Rattle.pass_elide_proof.specs.pass_proofs.run_step.Step.{Context, Coro, Work, intrinsic_call}
use Rattle.pass_elide_proof.specs.pass_proofs.run_step.Values.{integer, truth_value, value_in}

same_word : (x y : Word) → Value.Int x ≡ Value.Int y → x ≡ y
same_word x y h = cc

-- ---- sizes

module _ (e : Elision) (small : (func : ℕ) → frame_size e func < 2 ^ 32) where
  abbrev FitsSize : ℕ → Mode → Value → Type 0
  FitsSize func mode v = (word : Word) → v ≡ Value.Int word → word.bits ≡ frame_size e func

  acts_by : (c : Context) (w : Work) (j : Intrinsic) → AsksSize j → (result : Option ℕ) (args : List Arg)
      (vs : List Value) → intrinsic_call c w j result args vs ≡ Coro j args result
  acts_by c w Intrinsic.CoroSizeI32 h result args vs = refl
  acts_by c w Intrinsic.CoroSizeI64 h result args vs = refl
  acts_by c w _ h result args vs = absurd h

  narrow : (func n : ℕ) → n ≡ frame_size e func → (word : Word) → integer 32 (pos n) ≡ Value.Int word
      → word.bits ≡ frame_size e func
  narrow func n is word same =
      let lt = small func in
      let less : n < 2 ^ 32 = subst (λ (k : ℕ). k < 2 ^ 32) (sym is) lt in
      ap (λ (x : Word). x.bits) (sym (same_word (word_of 32 (pos n)) word same)) ∙ (mod-eq_of_lt less ∙ is)

  wide : (func n : ℕ) → n ≡ frame_size e func → (word : Word) → integer 64 (pos n) ≡ Value.Int word
      → word.bits ≡ frame_size e func
  wide func n is word same =
      let lt = small func in
      let less : n < 2 ^ 64 = omega (arith, lt, is) in
      ap (λ (x : Word). x.bits) (sym (same_word (word_of 64 (pos n)) word same)) ∙ (mod-eq_of_lt less ∙ is)

  size_is : (s : State) → (own_frame (framed e).given s).size ≡ frame_size e s.top.func
  size_is s = sizes_are e.layouts.coroutines s.top.func

  gives_by : (s : State) (j : Intrinsic) → AsksSize j → (args : List Arg) (vs : List Value) (result : Option ℕ)
      → (v : Value) × (framed_coro (framed e) s j args vs result ≡ Ok (gives s result v))
      × FitsSize s.top.func s.top.mode v
  gives_by s Intrinsic.CoroSizeI32 h args vs result = (
    integer 32 (pos (own_frame (framed e).given s).size),
    refl,
    narrow s.top.func (own_frame (framed e).given s).size (size_is s),
  )
  gives_by s Intrinsic.CoroSizeI64 h args vs result = (
    integer 64 (pos (own_frame (framed e).given s).size),
    refl,
    wide s.top.func (own_frame (framed e).given s).size (size_is s),
  )
  gives_by s _ h args vs result = absurd h

  pub sizes_in_runs : BeginsInCoroutines e.code → (entry : ℕ) (args : List Word) (n : ℕ)
      → IsFine (framed_state_at (framed e) entry args n).outcome
      → HaveGiven FitsSize AsksSize e.code (framed_state_at (framed e) entry args n)
  sizes_in_runs begins entry args n fine =
      given_in_runs (framed e) FitsSize AsksSize acts_by gives_by
      ((λ h. h), ((λ h. h), ((λ h. h), (λ h. h))))
      (λ func from label v fit. fit) begins entry args n fine

  pub size_in : (s : State) → HaveGiven FitsSize AsksSize e.code s → (v : ℕ)
      → IsGivenBy AsksSize (function_in e s.top.func) v → (word : Word) → value_in s.top.values v ≡ Value.Int word
      → word.bits ≡ frame_size e s.top.func
  size_in s h v given word is = by (h.0 v given)
    where
      never : (x : Value) → x ≡ Value.Poison → x ≡ Value.Int word → ⊥
      never x none is = no (sym none ∙ is)
        where
          no : Value.Poison ≡ Value.Int word → ⊥
          no h = cc

      by : (value_in s.top.values v ≡ Value.Poison) ⊎ FitsSize s.top.func s.top.mode (value_in s.top.values v)
          → word.bits ≡ frame_size e s.top.func
      by (inl none) = absurd (never (value_in s.top.values v) none is)
      by (inr fit) = fit word is

-- ---- answers of coro.alloc

abbrev pub FitsAlloc : ℕ → Mode → Value → Type 0
FitsAlloc func mode v = v ≡ truth_value (allocates mode)

module _ (g : FramedGiven) where
  alloc_acts : (c : Context) (w : Work) (j : Intrinsic) → AsksAlloc j → (result : Option ℕ) (args : List Arg)
      (vs : List Value) → intrinsic_call c w j result args vs ≡ Coro j args result
  alloc_acts c w Intrinsic.CoroAlloc h result args vs = refl
  alloc_acts c w _ h result args vs = absurd h

  alloc_gives : (s : State) (j : Intrinsic) → AsksAlloc j → (args : List Arg) (vs : List Value) (result : Option ℕ)
      → (v : Value) × (framed_coro g s j args vs result ≡ Ok (gives s result v)) × FitsAlloc s.top.func s.top.mode v
  alloc_gives s Intrinsic.CoroAlloc h args vs result = (truth_value (allocates s.top.mode), refl, refl)
  alloc_gives s _ h args vs result = absurd h

  pub answers_in_runs : BeginsInCoroutines g.given.code → (entry : ℕ) (args : List Word) (n : ℕ)
      → IsFine (framed_state_at g entry args n).outcome
      → HaveGiven FitsAlloc AsksAlloc g.given.code (framed_state_at g entry args n)
  answers_in_runs begins entry args n fine =
      given_in_runs g FitsAlloc AsksAlloc alloc_acts alloc_gives
      ((λ h. h), ((λ h. h), ((λ h. h), (λ h. h))))
      (λ func from label v fit. fit) begins entry args n fine
