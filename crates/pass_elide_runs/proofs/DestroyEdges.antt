-- A destroy wakes an instance by a destroy edge.
use Rattle.std.proofs.Common.{◌≡◌, ℕ, Bool, true, false, List, refl, subst}
use Rattle.elide_sites.specs.Destroyed.{IsOn, Start, Step}
use Rattle.elide_sites.specs.declared.destroyed.Way.{Way}
use Rattle.pass_elide_proof.proofs.DestroyingWays.{destroys_on_way}
use Rattle.pass_elide_proof.specs.Callers.{WakesByEdge}
use Rattle.pass_elide_proof.specs.Elision.{Elision, elided, elided_code, framed, function_in}
use Rattle.pass_elide_proof.specs.Placing.{KeepsPlaces}
use Rattle.pass_elide_runs.proofs.Elided.{coroutine_same, elided_none, elided_switched, elided_switches, fetched_none, suspend_own}
use Rattle.pass_elide_runs.proofs.Led.{sound_there, state_reached}
use Rattle.pass_elide_proof.specs.pass_proofs.edges.rules.Returns.{AreSwitched}
use Rattle.pass_elide_proof.specs.pass_proofs.ir_base.declared.outcome.Word.{Word}
use Rattle.pass_elide_proof.specs.pass_proofs.ir_model.Names.{function_at, position_of}
use Rattle.pass_elide_proof.specs.pass_proofs.ir_model.declared.module.Function.{Function}
use Rattle.pass_elide_proof.specs.pass_proofs.ir_paths.Windows.{destroy_label}
use Rattle.pass_elide_proof.specs.pass_proofs.ir_paths.declared.point.Point.{Point}
use Rattle.pass_elide_proof.specs.pass_proofs.pass_kept_proof.Related.{AreSoundInstances, IsSoundStatus}
use Rattle.pass_elide_proof.specs.pass_proofs.run_framed.Framed.{framed_state_at}
use Rattle.pass_elide_proof.specs.pass_proofs.run_source.declared.state.State.{State}
use Rattle.run_hooks.specs.Reached.{AllHaveSwitches}

-- a path without a coro.free is one of any kind
destroyed_too : (f : Function) (b : ℕ) → IsOn Way.Unfreed f b → IsOn Way.Destroyed f b
destroyed_too f _ (Start b listed) = Start b listed
destroyed_too f _ (Step edge h listed passes) = Step edge (destroyed_too f edge.from h) listed refl

abbrev DestroyEdge : Function → Point → Type 0
DestroyEdge f q = IsOn Way.Destroyed f (position_of f (destroy_label f q))

module _ (e : Elision) (keeps : KeepsPlaces e) (switches : AllHaveSwitches e.code)
    (switched : (func : ℕ) → AreSwitched (function_in e func)) (entry : ℕ) (args : List Word) (n : ℕ) where
  pub framed_wakes : WakesByEdge e (framed_state_at (framed e) entry args n)
  framed_wakes number x q values there status =
      destroyed_too (function_in e x.coroutine)
      (position_of (function_in e x.coroutine) (destroy_label (function_in e x.coroutine) q))
      (destroys_on_way (framed e).given (framed_state_at (framed e) entry args n).instances switched
      (state_reached (framed e) switches entry args n).instances number x q values there status)

  abbrev t : State
  t = framed_state_at (elided e) entry args n

  sound : AreSoundInstances (elided e).given t.instances
  sound = (state_reached (elided e) (elided_switches e keeps switches) entry args n).instances

  pub giving_wakes : WakesByEdge e t
  giving_wakes number x q values there status = by (function_in e x.coroutine).coroutine refl
    where
      by : (b : Bool) → (function_in e x.coroutine).coroutine ≡ b → DestroyEdge (function_in e x.coroutine) q
      by true is =
          subst (λ (f : Function). DestroyEdge f q) (coroutine_same e keeps x.coroutine is)
          (destroyed_too (function_at (elided_code e) x.coroutine)
          (position_of (function_at (elided_code e) x.coroutine)
          (destroy_label (function_at (elided_code e) x.coroutine) q))
          (destroys_on_way (elided e).given t.instances (elided_switched e keeps switched) sound number x q values
          there status))
      by false is =
          let c = (subst (IsSoundStatus (elided e).given x.coroutine) status
          (sound_there (elided e).given t.instances sound number x there)).1 in
          absurd (fetched_none (function_at (elided_code e) x.coroutine)
          (elided_none e keeps x.coroutine is) q.block q.at
          c.instr c.stands (suspend_own c.instr c.is))
