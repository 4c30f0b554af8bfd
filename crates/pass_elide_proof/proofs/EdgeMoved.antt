-- Both topmost activations come to the front of the same block, by its phis.
use Rattle.std.proofs.Common.{◌≡◌, ◌<◌, ◌≤◌, ◌+◌, inr, ℕ, Bool, true, false, List, [], ◌∷◌, length, refl, arith}
use Rattle.pass_elide.specs.Elided.{function_frames}
use Rattle.pass_elide_proof.proofs.EdgeValues.{all_made, asked_kept, each_kept, operand_stands, released_kept}
use Rattle.pass_elide_proof.proofs.PhiValues.{StandsBut, all_long, answers_apart, each_as, held_on, names_apart, phis_but, phis_elsewhere}
use Rattle.pass_elide_proof.proofs.TopMoved.{SameHeld, gone_on, moved}
use Rattle.pass_elide_proof.specs.Edges.{IsHeldOn, IsNoAnswer, IsPhiAlike, label_from, phis_at}
use Rattle.pass_elide_proof.specs.Elision.{Elision, differs_in, function_in, rooms}
use Rattle.pass_elide_proof.specs.Match.{AreElided, AreNamed, Beside, HasAllocas, Sides, held_name, is_given_mode, sides, was_given}
use Rattle.pass_elide_proof.specs.Places.{allocas_ahead}
use Rattle.pass_proofs.specs.ir_model.declared.instr.Phi.{Phi}
use Rattle.pass_proofs.specs.ir_model.declared.module.Function.{Function}
use Rattle.pass_proofs.specs.run_laws.changed.Changed.{Each}
use Rattle.pass_proofs.specs.run_source.declared.state.Activation.{Activation}
use Rattle.pass_proofs.specs.run_source.declared.state.State.{State}
use Rattle.pass_proofs.specs.run_step.Step.{incoming_from, phi_values, with_all}
use Rattle.pass_proofs.specs.run_step.Values.{Env, value_in}

module _ (e : Elision) (s t : State) (r : AreElided e s t) (to : ℕ) (left right : Bool) (lefts : right ≡ left)
    (made : length t.top.slots
    ≡ length s.top.slots + length (allocas_ahead (rooms e s.top.func) (function_in e s.top.func)))
    (alike : Each (IsPhiAlike e s t (label_from (function_in e s.top.func) s.top.block))
    (phis_at (function_in e s.top.func) to)) (holds : is_given_mode t.top.mode ≡ true → IsHeldOn e s to) where
  abbrev f : Function
  f = function_in e s.top.func

  abbrev from : ℕ
  from = label_from f s.top.block

  abbrev phis : List Phi
  phis = phis_at f to

  abbrev vs : Env
  vs = with_all s.top.values (phi_values e.code s.top.values from phis)

  abbrev ws : Env
  ws = with_all t.top.values (phi_values e.code t.top.values from phis)

  abbrev d : Sides
  d = sides s t

  abbrev mode : Bool
  mode = is_given_mode t.top.mode

  abbrev differs : ℕ → Bool
  differs = differs_in (e.shape s.top.func) mode (was_given d t.top)

  abbrev a : Activation
  a = gone_on s.top to 0 vs left

  abbrev c : Activation
  c = gone_on t.top to 0 ws right

  stands : (ps : List Phi) → Each (IsPhiAlike e s t from) ps
      → Each (StandsBut differs r.homes e.code s.top.values t.top.values from from) ps
  stands [] h = tt
  stands (p ∷ ps) h = (
    λ same. operand_stands e s t r (incoming_from p.incoming from) (h.0.takes same) p.ty,
    stands ps h.1,
  )

  named : AreNamed e r.homes (was_given d t.top) a c
  named = record {
    each = phis_but differs r.homes e.code s.top.values t.top.values from from phis s.top.values t.top.values
        r.top.values.room r.top.values.each (stands phis alike);
    room =
        let few = all_long s.top.values (phi_values e.code s.top.values from phis) in
        let many = all_long t.top.values (phi_values e.code t.top.values from phis) in
        let old = r.top.values.room in
        omega (arith, few, many, old);
  }

  no_answers : Each (λ (p : Phi). IsNoAnswer (e.shape s.top.func) p.result) phis
  no_answers =
      each_as (IsPhiAlike e s t from) (λ (p : Phi). IsNoAnswer (e.shape s.top.func) p.result) (λ p h. h.answers) phis
      alike

  old_names : Each (λ (p : Phi). p.result < length f.names) phis
  old_names =
      each_as (IsPhiAlike e s t from) (λ (p : Phi). p.result < length f.names) (λ p h. h.known) phis alike

  kept_first : (v : ℕ) → (IsNoAnswer (e.shape s.top.func) v → ⊥) → value_in vs v ≡ value_in s.top.values v
  kept_first v bars =
      phis_elsewhere e.code s.top.values from phis s.top.values v
      (answers_apart (e.shape s.top.func) v bars phis no_answers)

  kept_second : (v : ℕ) → (IsNoAnswer (e.shape s.top.func) v → ⊥) → value_in ws v ≡ value_in t.top.values v
  kept_second v bars =
      phis_elsewhere e.code t.top.values from phis t.top.values v
      (answers_apart (e.shape s.top.func) v bars phis no_answers)

  kept_new : (v : ℕ) → length f.names ≤ v → value_in ws v ≡ value_in t.top.values v
  kept_new v le =
      phis_elsewhere e.code t.top.values from phis t.top.values v (names_apart (length f.names) v le phis old_names)

  allocas : HasAllocas e r.homes r.hides d a c r.top.own
  allocas =
      let h = all_made e s t r made in
      inr (
        each_kept r.homes r.hides d t.top c r.top.own (length f.names) kept_new (length f.names)
            (function_frames (rooms e s.top.func) f) (omega arith) h.0,
        h.1,
      )

  held : (b : Bool) → mode ≡ b → SameHeld s.top.values vs (held_name e b s.top) (held_name e b a)
  held true is =
      held_on e.code s.top.values from phis ((e.shape s.top.func).holds s.top.block s.top.at)
      ((e.shape s.top.func).holds to 0) (holds is)
  held false is = tt

  pub edge_moved : AreElided e (record s { top = a }) (record t { top = c })
  edge_moved =
      moved e s t r to 0 vs left to 0 ws right lefts (Beside refl refl) named
      (λ ramp. asked_kept (e.shape s.top.func) d s.top t.top to 0 vs left to 0 ws right kept_first kept_second
      (r.top.asked ramp))
      (λ given. released_kept (e.shape s.top.func) d s.top t.top to 0 vs left to 0 ws right kept_first kept_second
      (r.top.released given)) allocas (held mode refl)
