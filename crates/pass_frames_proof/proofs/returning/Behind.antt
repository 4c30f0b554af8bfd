-- Calls that enter an activation or leave one: where they stand in the framed form, and what stands behind them.
use Rattle.std.proofs.Common.{◌≡◌, ℕ, ◌+◌, Bool, true, false, List, [], ◌∷◌, ◌++◌, length, refl, sym, ap, ◌∙◌, subst, arith, append-nil}
use Rattle.std.proofs.lemmas.List.{length-append}
use Rattle.std.specs.Prelude.{None, Option, Some, slice_get}
use Rattle.pass_frames_steps.specs.ir_model.declared.instr.Instr.{Instr}
use Rattle.pass_frames_steps.specs.ir_model.declared.module.Function.{Function}
use Rattle.pass_frames_steps.specs.ir_model.declared.operand.Callee.{Callee}
use Rattle.pass_frames_steps.specs.ir_model.declared.operand.Intrinsic.{Intrinsic}
use Rattle.pass_frames_steps.specs.ir_model.declared.operand.Operand.{Operand}
use Rattle.pass_frames_steps.specs.ir_parts.Contents.{result_of}
use Rattle.pass_frames_steps.specs.pass_cells.Cells.{fetches_of}
use Rattle.pass_frames_steps.specs.pass_cells.Written.{distance_behind, stored_result}
use Rattle.pass_frames_steps.specs.pass_fetch.Fetching.{callee_by, fetch_of}
use Rattle.pass_frames_steps.specs.pass_fetch.Instrs.{with_fetched}
use Rattle.pass_frames_steps.specs.pass_fetch.declared.fetch.Fetch.{Fetch}
use Rattle.pass_frames_steps.proofs.stepping.Line.{stored_no_alloca}
use Rattle.pass_frames_steps.proofs.stepping.Owns.{alone_stands}
use Rattle.pass_frames_steps.specs.Code.{address_state, load_name, loaded, slot_table, stores}
use Rattle.pass_frames_steps.specs.Framings.{IsFraming}
use Rattle.pass_frames_steps.specs.Operands.{IsLeftAlone, StandsAlone}
use Rattle.pass_frames_steps.specs.Places.{Framing, Placed, framed, instrs_at, is_return, own_place, place, plan}
use Rattle.pass_frames_steps.specs.Returning.{SwitchesTo, IsSwitching}
use Rattle.pass_frames_steps.specs.Stepping.{IsUnlocated, placed_front, placed_instr, state_in}
use Rattle.pass_frames_steps.specs.pass_front.Front.{is_no_alloca}
use Rattle.pass_frames_steps.proofs.pass_proofs.fetch.rules.Times.{with_result}
use Rattle.pass_frames_steps.specs.pass_renewed_proof.Renewed.{is_idle}
use Rattle.pass_frames_steps.specs.run_laws.access.Lines.{StandAt}
use Rattle.pass_frames_steps.specs.run_laws.changed.Changed.{Each}
use Rattle.pass_frames_steps.specs.run_step.Step.{AtInstr, fetch}

-- ---- tests that such a call passes

pub switching_fetched : (t : List (Option Fetch)) (n : ℕ) (i : Instr) → IsSwitching i → IsSwitching (with_fetched t n i)
switching_fetched t n (Instr.Call r must_tail ty (Callee.Named name) args) q = tt
switching_fetched t n (Instr.Call r must_tail ty (Callee.Local v) args) q = on (fetch_of t (Operand.Local v))
  where
    on : (o : Option Fetch) → SwitchesTo (callee_by n o (Callee.Local v))
    on None = tt
    on (Some f) = tt
switching_fetched t n (Instr.Call r must_tail ty (Callee.Intrinsic i) args) q = q
switching_fetched t n (Instr.Call r must_tail ty (Callee.Allocator a) args) q = absurd q
switching_fetched t n (Instr.Binary r op flags ty a b) q = absurd q
switching_fetched t n (Instr.Icmp r pred ty a b) q = absurd q
switching_fetched t n (Instr.Select r k a b) q = absurd q
switching_fetched t n (Instr.Cast r op nneg a to) q = absurd q
switching_fetched t n (Instr.Alloca r ty align) q = absurd q
switching_fetched t n (Instr.Load r ty p align) q = absurd q
switching_fetched t n (Instr.Store a p align) q = absurd q
switching_fetched t n (Instr.Gep r inbounds ty p indices) q = absurd q

pub switching_left : (x : Framing) (i : Instr) → IsSwitching i → IsLeftAlone x i
switching_left x (Instr.Call None must_tail ty (Callee.Named n) args) q =
    record { row = refl; behind_it = refl; stays_it = refl; same = refl; outside = refl; no_alloca = refl }
switching_left x (Instr.Call (Some r) must_tail ty (Callee.Named n) args) q =
    record { row = refl; behind_it = refl; stays_it = refl; same = refl; outside = refl; no_alloca = refl }
switching_left x (Instr.Call None must_tail ty (Callee.Local v) args) q =
    record { row = refl; behind_it = refl; stays_it = refl; same = refl; outside = refl; no_alloca = refl }
switching_left x (Instr.Call (Some r) must_tail ty (Callee.Local v) args) q =
    record { row = refl; behind_it = refl; stays_it = refl; same = refl; outside = refl; no_alloca = refl }
switching_left x (Instr.Call None must_tail ty (Callee.Intrinsic Intrinsic.CoroResume) args) q =
    record { row = refl; behind_it = refl; stays_it = refl; same = refl; outside = refl; no_alloca = refl }
switching_left x (Instr.Call (Some r) must_tail ty (Callee.Intrinsic Intrinsic.CoroResume) args) q =
    record { row = refl; behind_it = refl; stays_it = refl; same = refl; outside = refl; no_alloca = refl }
switching_left x (Instr.Call None must_tail ty (Callee.Intrinsic Intrinsic.CoroDestroy) args) q =
    record { row = refl; behind_it = refl; stays_it = refl; same = refl; outside = refl; no_alloca = refl }
switching_left x (Instr.Call (Some r) must_tail ty (Callee.Intrinsic Intrinsic.CoroDestroy) args) q =
    record { row = refl; behind_it = refl; stays_it = refl; same = refl; outside = refl; no_alloca = refl }
switching_left x (Instr.Call None must_tail ty (Callee.Intrinsic Intrinsic.CoroEnd) args) q =
    record { row = refl; behind_it = refl; stays_it = refl; same = refl; outside = refl; no_alloca = refl }
switching_left x (Instr.Call (Some r) must_tail ty (Callee.Intrinsic Intrinsic.CoroEnd) args) q =
    record { row = refl; behind_it = refl; stays_it = refl; same = refl; outside = refl; no_alloca = refl }
switching_left x (Instr.Call r must_tail ty (Callee.Intrinsic _) args) q = absurd q
switching_left x (Instr.Call r must_tail ty (Callee.Allocator a) args) q = absurd q
switching_left x (Instr.Binary r op flags ty a b) q = absurd q
switching_left x (Instr.Icmp r pred ty a b) q = absurd q
switching_left x (Instr.Select r k a b) q = absurd q
switching_left x (Instr.Cast r op nneg a to) q = absurd q
switching_left x (Instr.Alloca r ty align) q = absurd q
switching_left x (Instr.Load r ty p align) q = absurd q
switching_left x (Instr.Store a p align) q = absurd q
switching_left x (Instr.Gep r inbounds ty p indices) q = absurd q

switching_stores_by : (x : Framing) (n : ℕ) (i : Instr) → IsSwitching i
    → stored_result (plan x) (result_of i) ++ distance_behind x.code (plan x) n i
    ≡ stored_result (plan x) (result_of i)
switching_stores_by x n (Instr.Call r must_tail ty callee args) q = append-nil (stored_result (plan x) r)
switching_stores_by x n (Instr.Binary r op flags ty a b) q = absurd q
switching_stores_by x n (Instr.Icmp r pred ty a b) q = absurd q
switching_stores_by x n (Instr.Select r k a b) q = absurd q
switching_stores_by x n (Instr.Cast r op nneg a to) q = absurd q
switching_stores_by x n (Instr.Alloca r ty align) q = absurd q
switching_stores_by x n (Instr.Load r ty p align) q = absurd q
switching_stores_by x n (Instr.Store a p align) q = absurd q
switching_stores_by x n (Instr.Gep r inbounds ty p indices) q = absurd q

-- ---- where it stands

pub stand_behind : (f : Function) (k at : ℕ) (xs ys : List Instr) → StandAt f k at (xs ++ ys)
    → StandAt f k (at + length xs) ys
stand_behind f k at [] ys h = let e : at ≡ at + 0 = omega arith in subst (λ (n : ℕ). StandAt f k n ys) e h
stand_behind f k at (x ∷ xs) ys h =
    let e : at + 1 + length xs ≡ at + length (x ∷ xs) = omega arith in
    subst (λ (n : ℕ). StandAt f k n ys) e (stand_behind f k (at + 1) xs ys h.1)

pub stand_before : (f : Function) (k at : ℕ) (xs ys : List Instr) → StandAt f k at (xs ++ ys) → StandAt f k at xs
stand_before f k at [] ys h = tt
stand_before f k at (x ∷ xs) ys h = (h.0, stand_before f k (at + 1) xs ys h.1)

-- its own place is behind what fetches its operands, and behind it stands the store of its result
pub record CallStands (x : Framing) (k at : ℕ) (i : Instr) : Type 0 where
  pub front : StandAt (framed x) k (place x (record { block = k; at = at })).at (placed_front x (state_in x k at) i)
  pub own : (own_place x (record { block = k; at = at })).at
      ≡ (place x (record { block = k; at = at })).at + length (placed_front x (state_in x k at) i)
  pub there : fetch (framed x) k (own_place x (record { block = k; at = at })).at
      ≡ AtInstr (placed_instr x (state_in x k at) i)
  pub behind : StandAt (framed x) k ((own_place x (record { block = k; at = at })).at + 1)
      (stored_result (plan x) (result_of i))
  pub next : (place x (record { block = k; at = at + 1 })).at
      ≡ (own_place x (record { block = k; at = at })).at + 1 + length (stored_result (plan x) (result_of i))

module _ (x : Framing) (is : IsFraming x) (k at : ℕ) (i : Instr) (there : slice_get (instrs_at x k) at ≡ Some i)
    (unreturned : is_return x k ≡ false) (enters : IsSwitching i) (u : IsUnlocated x (state_in x k at) i) where
  abbrev n : Placed
  n = state_in x k at

  abbrev here : ℕ
  here = (place x (record { block = k; at = at })).at

  abbrev front : List Instr
  front = placed_front x n i

  abbrev last : Instr
  last = placed_instr x n i

  abbrev rest : List Instr
  rest = stored_result (plan x) (result_of i)

  one : IsSwitching (loaded x n i)
  one = switching_fetched (fetches_of (plan x)) (load_name n) i enters

  stores_are : stores x n i ≡ rest
  stores_are =
      switching_stores_by x _ (loaded x n i) one
      ∙ ap (stored_result (plan x)) (with_result (fetches_of (plan x)) (load_name n) i)

  alone : StandsAlone x k at front last rest
  alone =
      subst (StandsAlone x k at front last) stores_are
      (alone_stands x is k at i there unreturned (switching_left x (loaded x n i) one)
      (switching_left x last (switching_fetched (slot_table x) (address_state n).0 (loaded x n i) one)) u
      (subst (Each (λ (j : Instr). is_no_alloca j ≡ true)) (sym stores_are) (stored_no_alloca x (result_of i))))

  both : StandAt (framed x) k (here + length front) (last ∷ rest)
  both = stand_behind (framed x) k here front (last ∷ rest) alone.stand

  pub call_stands : CallStands x k at i
  call_stands = record {
    front = stand_before (framed x) k here front (last ∷ rest) alone.stand;
    own = alone.own;
    there = subst (λ (n : ℕ). fetch (framed x) k n ≡ AtInstr last) (sym alone.own) both.0;
    behind = subst (λ (n : ℕ). StandAt (framed x) k (n + 1) rest) (sym alone.own) both.1;
    next =
        let long : length (front ++ (last ∷ rest)) ≡ length front + length (last ∷ rest) =
        length-append front (last ∷ rest) in
        let e = alone.next in
        let o = alone.own in
        omega (arith, long, e, o);
  }

pub switching_never : (flags : ℕ → Bool) (i : Instr) → IsSwitching i → is_idle flags (AtInstr i) ≡ false
switching_never flags (Instr.Call r must_tail ty (Callee.Named n) args) q = refl
switching_never flags (Instr.Call r must_tail ty (Callee.Local v) args) q = refl
switching_never flags (Instr.Call r must_tail ty (Callee.Intrinsic Intrinsic.CoroResume) args) q = refl
switching_never flags (Instr.Call r must_tail ty (Callee.Intrinsic Intrinsic.CoroDestroy) args) q = refl
switching_never flags (Instr.Call r must_tail ty (Callee.Intrinsic Intrinsic.CoroEnd) args) q = refl
switching_never flags (Instr.Call r must_tail ty (Callee.Intrinsic _) args) q = absurd q
switching_never flags (Instr.Call r must_tail ty (Callee.Allocator a) args) q = absurd q
switching_never flags (Instr.Binary r op fs ty a b) q = absurd q
switching_never flags (Instr.Icmp r pred ty a b) q = absurd q
switching_never flags (Instr.Select r k a b) q = absurd q
switching_never flags (Instr.Cast r op nneg a to) q = absurd q
switching_never flags (Instr.Alloca r ty align) q = absurd q
switching_never flags (Instr.Load r ty p align) q = absurd q
switching_never flags (Instr.Store a p align) q = absurd q
switching_never flags (Instr.Gep r inbounds ty p indices) q = absurd q
