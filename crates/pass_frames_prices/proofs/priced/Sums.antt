-- Where each step is afforded, a run is paid for. A place costs at most what is left there more than what is full.
use Rattle.std.proofs.Common.{◌≡◌, ℕ, zero, suc, ◌+◌, ◌*◌, ◌<◌, ◌≤◌, Bool, true, false, subst, arith}
use Rattle.std.specs.Prelude.{if◌then◌else◌, ◌&&◌, ◌==◌}
use Rattle.pass_frames_proof.specs.ir_model.declared.module.Module.{Module}
use Rattle.pass_frames_prices.specs.FramePrices.{IsAfforded, credit, frame_prices, full_price, goes_on, left_at}
use Rattle.pass_frames_prices.specs.FramePrices.{price_by}
use Rattle.pass_frames_proof.specs.Places.{is_return}
use Rattle.pass_frames_proof.specs.Related.{Building, is_coroutine}
use Rattle.pass_frames_proof.specs.pass_renewed_proof.Renewed.{Flags}
use Rattle.pass_frames_proof.specs.run_agreement.Costs.{cost_at, cost_from}
use Rattle.pass_frames_proof.specs.run_agreement.Machines.{Machine, iterate, state_at}
use Rattle.pass_frames_proof.specs.run_source.declared.state.State.{State}

one_more : (n full price left next cost last : ℕ) → price + next ≤ full + left → cost + last ≤ full * n + next
    → price + cost + last ≤ full * suc n + left
one_more n full price left next cost last a c =
    let e : full * suc n ≡ full + full * n = grind arith in omega (arith, a, c, e)

none_more : (full left : ℕ) → 0 + left ≤ full * 0 + left
none_more full left = let e : full * 0 ≡ 0 = grind arith in omega (arith, e)

module _ (step : State → State) (full : ℕ) (left price : State → ℕ) where
  sum_few : (n : ℕ) (s : State)
      → ((k : ℕ) → k < n → IsAfforded full left price (iterate step k s) (iterate step (suc k) s))
      → cost_from step price n s + left (iterate step n s) ≤ full * n + left s
  sum_few zero s h = none_more full (left s)
  sum_few (suc n) s h =
      one_more n full (price s) (left s) (left (step s)) (cost_from step price n (step s))
      (left (iterate step n (step s))) (h 0 (omega arith))
      (sum_few n (step s) (λ k low. h (suc k) (omega (arith, low))))

pub run_paid : (a : Machine State) (full : ℕ) (left price : State → ℕ) → left a.start ≡ 0 → (n : ℕ)
    → ((k : ℕ) → k < n → IsAfforded full left price (state_at a k) (state_at a (k + 1)))
    → cost_at a price n ≤ full * n
run_paid a full left price none n h =
    let all = sum_few a.step full left price n a.start
    (λ k low. let same : k + 1 ≡ suc k = omega arith in
    subst (λ (j : ℕ). IsAfforded full left price (state_at a k) (state_at a j)) same (h k low)) in
    omega (arith, all, none)

-- ---- the price of a place

place_by : (full left : ℕ) (c r g : Bool)
    → (if c then price_by full left r g else full) ≤ full + (if c && r then left else 0)
place_by full left false r g = omega arith
place_by full left true true g = omega arith
place_by full left true false true = omega arith
place_by full left true false false = omega arith

pub place_few : (b : Building) (flags : Flags) (code : Module) (names operands : ℕ) (s : State)
    → (frame_prices b flags code names operands).step s.top.func s.top.block s.top.at
    ≤ full_price names operands + left_at b names s
place_few b flags code names operands s =
    place_by (full_price names operands) (credit names) (is_coroutine b s.top.func)
    (is_return (b.framing s.top.func) s.top.block && (s.top.at == 0))
    (goes_on (b.framing s.top.func) s.top.block s.top.at)
