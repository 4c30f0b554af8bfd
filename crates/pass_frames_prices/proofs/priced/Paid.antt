-- Each step pays: over coroutines and other functions, by modes, by what stands there, and by what comes of it.
use Rattle.std.proofs.Common.{◌≡◌, ℕ, ◌+◌, ◌-◌, ◌*◌, ◌≤◌, Bool, true, false, List, [], ◌∷◌, Option}
use Rattle.std.proofs.Common.{Some, None, Result, Ok, Err, refl, sym, ap, ◌∙◌, subst, arith}
use Rattle.std.specs.Prelude.{length, slice_get, unwrap_or, if◌then◌else◌, ◌==◌}
use Rattle.pass_frames_proof.specs.ir_base.declared.cause.Cause.{Cause}
use Rattle.pass_frames_proof.specs.ir_model.Names.{function_at, position_of}
use Rattle.pass_frames_proof.specs.ir_model.declared.instr.Instr.{Instr}
use Rattle.pass_frames_proof.specs.ir_model.declared.instr.Terminator.{Terminator}
use Rattle.pass_frames_proof.specs.ir_model.declared.module.Block.{Block}
use Rattle.pass_frames_proof.specs.ir_model.declared.module.Function.{Function}
use Rattle.pass_frames_proof.specs.ir_model.declared.operand.Intrinsic.{Intrinsic}
use Rattle.pass_frames_prices.proofs.bounds.Paid.{none_cost}
use Rattle.pass_frames_prices.proofs.priced.Acts.{added}
use Rattle.pass_frames_prices.proofs.priced.Jumps.{leads}
use Rattle.pass_frames_prices.proofs.priced.Steps.{behind_few, call_few, end_few, instr_few, instr_price, jump_few}
use Rattle.pass_frames_prices.proofs.priced.Steps.{own_paid, phis_few, return_few, return_price}
use Rattle.pass_frames_prices.specs.Bounds.{more_of}
use Rattle.pass_frames_proof.specs.Costs.{allocas_before, call_cost, instr_cost, jump_cost, whole}
use Rattle.pass_frames_prices.specs.FramePrices.{AreWithin, ComesBehindOne, IsWithin, coroutine_price, credit, first_flagged}
use Rattle.pass_frames_prices.specs.FramePrices.{frame_prices, full_price}
use Rattle.pass_frames_proof.specs.Framings.{IsFraming}
use Rattle.pass_frames_proof.specs.Meaning.{action_at, behind_at, behind_cost, coroutine_cost}
use Rattle.pass_frames_proof.specs.Meaning.{entered_cost, other_cost, own_cost, step_cost, woken_cost}
use Rattle.pass_frames_prices.specs.Numbers.{phis_of_blocks}
use Rattle.pass_frames_proof.specs.Passes.{block_at, no_block}
use Rattle.pass_frames_proof.specs.Places.{Framing, copies, edged, instrs_at, place, plan}
use Rattle.pass_frames_proof.specs.Related.{Building, is_coroutine, point_of}
use Rattle.pass_frames_proof.specs.Stepping.{AreGiven}
use Rattle.pass_frames_proof.specs.pass_renewed_proof.Prices.{Prices, coroutine_of, price_in, price_of, renewed_price, resumed_by}
use Rattle.pass_frames_proof.specs.pass_renewed_proof.Prices.{resumed_in}
use Rattle.pass_frames_proof.specs.pass_renewed_proof.Renewed.{RenewedGiven}
use Rattle.pass_frames_proof.proofs.rule_laws.rules.sources.Places.{IsEnd, term_there}
use Rattle.pass_frames_proof.specs.rule_laws.frames.rows.Returns.{HaveOwnReturns}
use Rattle.pass_frames_proof.specs.run_source.Source.{Sleeper, context_of, sleeper_at}
use Rattle.pass_frames_proof.specs.run_source.State.{function_of, work_of}
use Rattle.pass_frames_proof.specs.run_source.declared.state.Activation.{Activation}
use Rattle.pass_frames_proof.specs.run_source.declared.state.Mode.{Mode}
use Rattle.pass_frames_proof.specs.run_source.declared.state.State.{State}
use Rattle.pass_frames_proof.specs.run_step.Step.{Action, AtInstr, AtTerm, Context, Coro, Enter, Fetched, GoTo, Nowhere, Return, Work}
use Rattle.pass_frames_proof.specs.run_step.Step.{action_of, fetch, fetch_in, fetch_or}
use Rattle.pass_frames_proof.specs.run_step.Values.{arg_values, nth}

-- ---- sums

enter_fits : (own entered names operands price : ℕ) → own ≤ 3 + operands → entered ≤ 4 * names
    → full_price names operands ≤ price → own + entered ≤ price
enter_fits own entered names operands price a c d = omega (arith, a, c, d)

end_fits : (own behind names operands price : ℕ) → own ≤ 2 + operands → behind ≤ 1
    → full_price names operands ≤ price → own + behind ≤ price
end_fits own behind names operands price a c d = omega (arith, a, c, d)

return_fits : (own behind phis names operands price : ℕ) → own ≤ 2 * phis + 3
    → behind + 2 * phis ≤ 1 + 4 * names + 3 * operands → full_price names operands ≤ price → own + behind ≤ price
return_fits own behind phis names operands price a c d = omega (arith, a, c, d)

less : (a c d : ℕ) → a ≤ c → c ≤ d → a ≤ d
less a c d h k = omega (arith, h, k)

small : (n operands names price : ℕ) → n ≤ 3 + operands → full_price names operands ≤ price → n + 0 ≤ price
small n operands names price a c = omega (arith, a, c)

woken_fits : (n operands allocas : ℕ) → n ≤ 3 + operands → n + (1 + allocas - 1) ≤ 3 + operands + allocas
woken_fits n operands allocas a = omega (arith, a)

nothing : (n price : ℕ) → n ≡ 0 → n ≤ price
nothing n price e = omega (arith, e)

-- ---- what stands at a place

instr_in : (f : Function) (k at : ℕ) (i : Instr) → fetch f k at ≡ AtInstr i
    → slice_get (block_at f k).instrs at ≡ Some i
instr_in f k at i e = on (slice_get f.blocks k) e
  where
    by : (o : Option Instr) (last : Bool) (t : Terminator) → fetch_or o last t ≡ AtInstr i → o ≡ Some i
    by None true t h = absurd (cc)
    by None false t h = absurd (cc)
    by (Some j) last t h = cc

    on : (o : Option Block) → fetch_in o at ≡ AtInstr i → slice_get (unwrap_or o no_block).instrs at ≡ Some i
    on None h = absurd (cc)
    on (Some c) h = by (slice_get c.instrs at) (at == length c.instrs) c.term h

none_in : (f : Function) (k at : ℕ) → ((i : Instr) → fetch f k at ≡ AtInstr i → ⊥)
    → slice_get (block_at f k).instrs at ≡ None
none_in f k at h = on (slice_get f.blocks k) h
  where
    by : (o : Option Instr) (last : Bool) (t : Terminator) → ((i : Instr) → fetch_or o last t ≡ AtInstr i → ⊥)
        → o ≡ None
    by None last t n = refl
    by (Some j) last t n = absurd (n j refl)

    on : (o : Option Block) → ((i : Instr) → fetch_in o at ≡ AtInstr i → ⊥)
        → slice_get (unwrap_or o no_block).instrs at ≡ None
    on None n = refl
    on (Some c) n = by (slice_get c.instrs at) (at == length c.instrs) c.term n

module _ (b : Building) (g : RenewedGiven) (given : AreGiven b g)
    (own : (func : ℕ) → is_coroutine b func ≡ true → HaveOwnReturns (edged (b.framing func)))
    (names operands : ℕ) (within : AreWithin b names operands) where
  abbrev P : Prices
  P = frame_prices b g.flags g.given.code names operands

  abbrev full : ℕ
  full = full_price names operands

  abbrev phis : ℕ → ℕ
  phis func = phis_of_blocks (edged (b.framing func)).blocks

  -- ---- what is entered and come back to

  entered_few : (func : ℕ) → entered_cost b func ≤ 4 * names
  entered_few func = on (is_coroutine b func) refl
    where
      on : (t : Bool) → is_coroutine b func ≡ t
          → (if t then call_cost (b.framing func) else 0) ≤ 4 * names
      on false e = omega arith
      on true e =
          let a = call_few (b.framing func) (given.framings func e) in
          let c = (within.each func e).few in
          omega (arith, a, c)

  behind_any : (below : List Activation) → ComesBehindOne b below → behind_cost b below ≤ 1
  behind_any [] back = omega arith
  behind_any (a ∷ below) back = on (is_coroutine b a.func) refl
    where
      on : (t : Bool) → is_coroutine b a.func ≡ t
          → (if t then behind_at (b.framing a.func) a.block a.at else 0) ≤ 1
      on false e = omega arith
      on true e = behind_few (b.framing a.func) (given.framings a.func e) a (back e)

  module _ (func : ℕ) (coroutine : is_coroutine b func ≡ true) where
    -- with the phis at whose end it is returned
    behind_with : (below : List Activation) → ComesBehindOne b below
        → behind_cost b below + 2 * phis func ≤ 1 + 4 * names + 3 * operands
    behind_with below back =
        let a = behind_any below back in
        let c = phis_few (b.framing func) (given.framings func coroutine) in
        let d = (within.each func coroutine).few in
        omega (arith, a, c, d)

  -- ---- one state

  module _ (s : State) (back : ComesBehindOne b s.below) where
    abbrev x : Framing
    x = b.framing s.top.func

    abbrev step : ℕ
    step = P.step s.top.func s.top.block s.top.at

    -- a resume or a destroy, whose own step takes so much
    woken : (n : ℕ) → n ≤ 3 + operands → full ≤ step → (r : Result Sleeper Cause)
        → n + woken_cost b g r ≤ price_of P s (coroutine_of r)
    woken n low enough (Err cause) = small n operands names step low enough
    woken n low enough (Ok y) =
        woken_fits n operands
        (allocas_before (b.framing y.instance.coroutine)
        (first_flagged g.flags g.given.code y.instance.coroutine 0)) low

    -- of a function that is no coroutine
    module _ (e : is_coroutine b s.top.func ≡ false) where
      plain_price : full ≤ step
      plain_price =
          let a : step ≡ full =
          ap (λ (t : Bool). if t then coroutine_price full (credit names) x s.top.block s.top.at else full) e in
          omega (arith, a)

      plain_fits : (n : ℕ) → n ≤ 1 + 4 * names + 3 * operands → 1 + n ≤ step
      plain_fits n h = let a = plain_price in omega (arith, a, h)

      one_fits : 1 ≤ step
      one_fits = let a = plain_price in omega (arith, a)

      other_paid : (a : Action) → other_cost b g s a ≤ price_of P s (resumed_by g.given s a)
      other_paid (Enter to args result must_tail) =
          let c = entered_few to in plain_fits (entered_cost b to) (omega (arith, c))
      other_paid (Coro Intrinsic.CoroResume args result) =
          woken 1 (omega arith) plain_price (sleeper_at s (nth (arg_values g.given.code s.top.values args) 0))
      other_paid (Coro Intrinsic.CoroDestroy args result) =
          woken 1 (omega arith) plain_price (sleeper_at s (nth (arg_values g.given.code s.top.values args) 0))
      other_paid (Return v) =
          let c = behind_any s.below back in plain_fits (behind_cost b s.below) (omega (arith, c))
      other_paid _ = one_fits

    -- of a coroutine
    module _ (e : is_coroutine b s.top.func ≡ true) where
      abbrev is : IsFraming (b.framing s.top.func)
      is = given.framings s.top.func e

      abbrev fits : IsWithin names operands (b.framing s.top.func)
      fits = within.each s.top.func e

      abbrev returns : HaveOwnReturns (edged (b.framing s.top.func))
      returns = own s.top.func e

      same : function_at g.given.code s.top.func ≡ edged x
      same = given.coroutines s.top.func e

      -- what the price of the place pays for, the step's does
      priced : (n : ℕ) → n ≤ coroutine_price full (credit names) x s.top.block s.top.at → n ≤ step
      priced n h =
          let a : step ≡ coroutine_price full (credit names) x s.top.block s.top.at =
          ap (λ (t : Bool). if t then coroutine_price full (credit names) x s.top.block s.top.at else full) e in
          omega (arith, a, h)

      abbrev at_fetch : Fetched
      at_fetch = fetch (function_of g.given s) s.top.block s.top.at

      there : (y : Fetched) → at_fetch ≡ y → fetch (edged x) s.top.block s.top.at ≡ y
      there y d = ap (λ (f : Function). fetch f s.top.block s.top.at) (sym same) ∙ d

      abbrev c : Context
      c = context_of g.given s

      abbrev w : Work
      w = work_of s

      none_paid : ((i : Instr) → fetch (edged x) s.top.block s.top.at ≡ AtInstr i → ⊥)
          → instr_cost x (point_of s.top) ≤ step
      none_paid h =
          nothing (instr_cost x (point_of s.top)) step
          (none_cost x s.top.block s.top.at (none_in (edged x) s.top.block s.top.at h))

      module _ (i : Instr) (d : at_fetch ≡ AtInstr i) where
        stands : slice_get (instrs_at x s.top.block) s.top.at ≡ Some i
        stands = instr_in (edged x) s.top.block s.top.at i (there (AtInstr i) d)

        enough : full ≤ step
        enough = priced full
            (instr_price x is names operands fits returns s.top.block s.top.at i stands)

        own_low : more_of x i ≡ 0
            → own_cost x (point_of s.top) ≤ 3 + operands
        own_low none = own_paid x is names operands fits returns s.top.block s.top.at i stands none

        instr_low : instr_cost x (point_of s.top) ≤ step
        instr_low =
            less (instr_cost x (point_of s.top)) full step
            (instr_few x is names operands fits returns s.top.block s.top.at i stands) enough

        instr_paid : (a : Action) → action_of c w (AtInstr i) ≡ a
            → coroutine_cost b g s a ≤ price_of P s (resumed_by g.given s a)
        instr_paid (Enter to args result must_tail) h =
            enter_fits (own_cost x (point_of s.top)) (entered_cost b to) names
            operands step
            (own_low (added c w (length (plan x).kept) (length (copies x).slots) i (Enter to args result must_tail) h))
            (entered_few to) enough
        instr_paid (Coro Intrinsic.CoroResume args result) h =
            woken (own_cost x (point_of s.top))
            (own_low (added c w (length (plan x).kept) (length (copies x).slots) i
            (Coro Intrinsic.CoroResume args result) h)) enough
            (sleeper_at s (nth (arg_values g.given.code s.top.values args) 0))
        instr_paid (Coro Intrinsic.CoroDestroy args result) h =
            woken (own_cost x (point_of s.top))
            (own_low (added c w (length (plan x).kept) (length (copies x).slots) i
            (Coro Intrinsic.CoroDestroy args result) h)) enough
            (sleeper_at s (nth (arg_values g.given.code s.top.values args) 0))
        instr_paid (Coro Intrinsic.CoroEnd args result) h =
            end_fits (instr_cost x (point_of s.top)) (behind_cost b s.below) names operands step
            (end_few x is names operands fits returns s.top.block s.top.at i stands
            (added c w (length (plan x).kept) (length (copies x).slots) i (Coro Intrinsic.CoroEnd args result) h))
            (behind_any s.below back) enough
        instr_paid (GoTo label) h =
            absurd (added c w (length (plan x).kept) (length (copies x).slots) i (GoTo label) h)
        instr_paid (Return v) h = absurd (added c w (length (plan x).kept) (length (copies x).slots) i (Return v) h)
        instr_paid _ h = instr_low

      module _ (t : Terminator) (d : at_fetch ≡ AtTerm t) where
        end : IsEnd (edged x) s.top.block s.top.at t
        end = term_there (edged x) s.top.block s.top.at t (there (AtTerm t) d)

        no_instr : (i : Instr) → fetch (edged x) s.top.block s.top.at ≡ AtInstr i → ⊥
        no_instr i h = let no : AtTerm t ≡ AtInstr i = sym (there (AtTerm t) d) ∙ h in absurd (cc)

        term_paid : (a : Action) → action_of c w (AtTerm t) ≡ a
            → coroutine_cost b g s a ≤ price_of P s (resumed_by g.given s a)
        term_paid (Enter to args result must_tail) h = absurd (leads c w t (Enter to args result must_tail) h)
        term_paid (Coro i args result) h = absurd (leads c w t (Coro i args result) h)
        term_paid (GoTo label) h =
            subst (λ (f : Function).
            jump_cost x s.top.block (position_of f label) ≤ step) (sym same)
            (priced (jump_cost x s.top.block (position_of (edged x) label))
            (jump_few x is names operands fits returns s.top.block s.top.at t end label
            (leads c w t (GoTo label) h)))
        term_paid (Return v) h =
            return_fits
            (whole x s.top.block
            - (place x (point_of s.top)).at) (behind_cost b s.below)
            (phis s.top.func) names operands step
            (return_few x is names operands fits returns s.top.block s.top.at t end (leads c w t (Return v) h))
            (behind_with s.top.func e s.below back)
            (priced full (return_price x is names operands fits returns s.top.block s.top.at t end
            (leads c w t (Return v) h)))
        term_paid _ h = none_paid no_instr

      no_fetched : at_fetch ≡ Nowhere → (i : Instr) → fetch (edged x) s.top.block s.top.at ≡ AtInstr i → ⊥
      no_fetched d i h = let no : Nowhere ≡ AtInstr i = sym (there Nowhere d) ∙ h in absurd (cc)

      coroutine_paid : (y : Fetched) → at_fetch ≡ y
          → coroutine_cost b g s (action_of c w y) ≤ price_of P s (resumed_by g.given s (action_of c w y))
      coroutine_paid Nowhere d = none_paid (no_fetched d)
      coroutine_paid (AtInstr i) d = instr_paid i d (action_of c w (AtInstr i)) refl
      coroutine_paid (AtTerm t) d = term_paid t d (action_of c w (AtTerm t)) refl

    ordinary : (t : Bool) → is_coroutine b s.top.func ≡ t
        → (if t then coroutine_cost b g s (action_at g s) else other_cost b g s (action_at g s))
        ≤ price_of P s (resumed_in g.given s)
    ordinary true e = coroutine_paid e (fetch (function_of g.given s) s.top.block s.top.at) refl
    ordinary false e = other_paid e (action_at g s)

    pays_by : (m : Mode) → step_cost b g s m ≤ price_in P s (resumed_in g.given s) m
    pays_by (Mode.Entering from label) = omega arith
    pays_by Mode.Plain = ordinary (is_coroutine b s.top.func) refl
    pays_by Mode.Ramp = ordinary (is_coroutine b s.top.func) refl
    pays_by Mode.Resumed = ordinary (is_coroutine b s.top.func) refl
    pays_by (Mode.GivenRamp frame) = ordinary (is_coroutine b s.top.func) refl

  pub pays : (s : State) → ComesBehindOne b s.below
      → step_cost b g s s.top.mode
      ≤ renewed_price (frame_prices b g.flags g.given.code names operands) g.given s
  pays s back = pays_by s back s.top.mode
