-- An activation, of a coroutine or not, is given the result of its call.
use Rattle.std.proofs.Common.{◌≡◌, ℕ, suc, ◌+◌, ◌-◌, ◌<◌, Bool, true, false, List, length, refl, sym, ap, ◌∙◌, subst, arith}
use Rattle.std.specs.Prelude.{None, Option, Some, if◌then◌else◌}
use Rattle.pass_frames_steps.specs.ir_base.declared.outcome.Outcome.{Outcome}
use Rattle.pass_frames_steps.specs.ir_paths.declared.point.Point.{Point}
use Rattle.pass_frames_steps.specs.pass_cells.Written.{stored_result}
use Rattle.pass_frames_proof.proofs.returning.Given.{cost, leads, own_at, related, shown}
use Rattle.pass_frames_steps.proofs.stepping.Other.{AreStanding, memory_left, one_standing, related_left, stands}
use Rattle.pass_frames_steps.specs.Followed.{IsOn}
use Rattle.pass_frames_steps.specs.Meaning.{behind_at}
use Rattle.pass_frames_steps.specs.Places.{Framing, own_place, place, plan}
use Rattle.pass_frames_steps.specs.Related.{AreBuiltOf, Building, behind_place, below_place, is_coroutine, point_of}
use Rattle.pass_frames_steps.specs.Returning.{FitsResult, GoesBehind, IsBehindCall, IsGivenBehind, behind_state}
use Rattle.pass_frames_steps.specs.Stepping.{AreGiven, IsNotEntering}
use Rattle.pass_frames_steps.specs.pass_renewed_proof.Renewed.{RenewedGiven}
use Rattle.pass_frames_steps.specs.run_agreement.Machines.{iterate}
use Rattle.pass_frames_steps.specs.run_framed.Framed.{framed_step}
use Rattle.pass_frames_steps.specs.run_laws.memory.Pointers.{Home, IsValue}
use Rattle.pass_frames_steps.specs.run_memory.declared.pointer.Value.{Value}
use Rattle.pass_frames_steps.specs.run_source.declared.state.State.{State}
use Rattle.pass_frames_steps.specs.run_step.Values.{Env, with_result}

result_standing : (homes : List Home) (env other : Env) (o : Option ℕ) (v u : Value) → AreStanding homes env other
    → IsValue homes v u → AreStanding homes (with_result env o v) (with_result other o u)
result_standing homes env other None v u h e = h
result_standing homes env other (Some q) v u h e = one_standing homes env other q v u h e

module _ (b : Building) (g : RenewedGiven) (given : AreGiven b g) (s t : State) (r : AreBuiltOf b s t)
    (running : t.outcome ≡ Outcome.Running) (o : Option ℕ) (v u : Value) (stand : IsValue r.homes v u) where
  abbrev start : State
  start = behind_state b s t o u

  -- ---- of a function that is no coroutine

  other_given : is_coroutine b s.top.func ≡ false → IsNotEntering s.top.mode → IsGivenBehind b s t o v u
  other_given plain mode = record {
    steps = 0;
    cost = λ below. ap (λ (k : Bool). if k then behind_at (b.framing s.top.func) s.top.block s.top.at else 0) plain;
    shown = λ i lt. absurd (none i lt);
    related = subst (λ (p : Point). AreBuiltOf b (record s { top = record s.top { values = with_result s.top.values o v } })
        (record t { top = record t.top { block = p.block; at = p.at; values = with_result t.top.values o u } }))
        (sym (ap (λ (k : Bool). if k then record {
          block = s.top.block;
          at = behind_place (b.framing s.top.func) s.top.block s.top.at;
        } else point_of s.top) plain))
        (related_left b g given s t r plain runs mode s.world t.world s.top.block s.top.at
        (with_result s.top.values o v) (with_result t.top.values o u) r.world
        (memory_left b g given s t r plain runs mode s.world t.world refl refl)
        (result_standing r.homes s.top.values t.top.values o v u (stands b g given s t r plain runs mode) stand));
  }
    where
      runs : s.outcome ≡ Outcome.Running
      runs = sym r.outcome ∙ running

      none : (i : ℕ) → i < 0 → ⊥
      none i lt = omega arith

  -- ---- of a coroutine

  module _ (coroutine : is_coroutine b s.top.func ≡ true) (behind : IsBehindCall b s.top o)
      (fits : FitsResult (b.framing s.top.func) o v) where
    abbrev x : Framing
    x = b.framing s.top.func

    abbrev at : ℕ
    at = own_at b g given s t r running coroutine o behind v u fits stand

    place_is : below_place b s.top ≡ record { block = s.top.block; at = at }
    place_is =
        ap (λ (k : Bool). if k then record {
          block = s.top.block;
          at = behind_place x s.top.block s.top.at;
        } else point_of s.top) coroutine
        ∙ ap (λ (n : ℕ). record { block = s.top.block; at = behind_place x s.top.block n })
        (behind.behind ∙ next behind.at)
      where
        next : (n : ℕ) → n + 1 ≡ suc n
        next n = omega arith

    state_is : start ≡ record t {
      top = record t.top {
        block = s.top.block;
        at = at;
        values = with_result t.top.values o u;
      };
    }
    state_is =
        ap (λ (p : Point). record t {
          top = record t.top {
            block = p.block;
            at = p.at;
            values = with_result t.top.values o u;
          };
        }) place_is

    abbrev count : ℕ
    count = length (stored_result (plan x) o)

    coroutine_given : IsGivenBehind b s t o v u
    coroutine_given = record {
      steps = count;
      cost = λ below.
          ap (λ (k : Bool). if k then behind_at x s.top.block s.top.at else 0) coroutine
          ∙ ap (λ (n : ℕ). (place x (record { block = s.top.block; at = s.top.at })).at
          - ((own_place x (record { block = s.top.block; at = n })).at + 1)) (before s.top.at behind.at behind.behind)
          ∙ cost b g given s t r running coroutine o behind v u fits stand;
      shown = λ i lt.
          subst (λ (p : State). IsOn b s (iterate (framed_step b.given) i p)) (sym state_is)
          (shown b g given s t r running coroutine o behind v u fits stand i lt);
      related = subst
          (λ (p : State). AreBuiltOf b (record s { top = record s.top { values = with_result s.top.values o v } })
          (iterate (framed_step b.given) count p)) (sym state_is)
          (subst (AreBuiltOf b (record s { top = record s.top { values = with_result s.top.values o v } }))
          (sym (leads b g given s t r running coroutine o behind v u fits stand))
          (related b g given s t r running coroutine o behind v u fits stand));
    }
      where
        before : (n m : ℕ) → n ≡ m + 1 → n - 1 ≡ m
        before n m e = omega (arith, e)

  pub result_given : GoesBehind b s.top o v → IsGivenBehind b s t o v u
  result_given h = on (is_coroutine b s.top.func) refl
    where
      on : (k : Bool) → is_coroutine b s.top.func ≡ k → IsGivenBehind b s t o v u
      on false e = other_given e h.mode
      on true e = let z = h.call e in coroutine_given e z.0 z.1
