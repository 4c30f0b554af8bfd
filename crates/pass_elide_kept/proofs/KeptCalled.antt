-- The activation that keeps a handle is the caller whose alloca has the frame, since that alloca lives.
use Rattle.std.proofs.Common.{◌≡◌, ◌⊎◌, ◌∙◌, ◌∷◌, [], ap, Bool, inl, inr, length, List, Option, refl, subst, sym, true, ℕ, false}
use Rattle.std.specs.Prelude.{None, Some, slice_get}
use Rattle.pass_elide_kept.proofs.PlainPlaces.{keeper_apart, stands_beside}
use Rattle.pass_elide_kept.specs.Kept.{HasKeeper, IsKeptIn, Keeps}
use Rattle.pass_elide_kept.specs.Modules.{KeepsHandlesAndEnds}
use Rattle.pass_elide_proof.proofs.Sites.{alloca_there}
use Rattle.pass_elide_proof.specs.Elision.{Elision, function_in, rooms}
use Rattle.pass_elide_proof.specs.Invariant.{Below, HasCaller, Here, Holds, IsCalledIn, IsSiteOf, behind}
use Rattle.pass_elide_proof.specs.Match.{AreActivations, AreBelow, AreElided, HasAlloca, Sides, sides, was_given}
use Rattle.pass_elide_proof.specs.Places.{allocas_ahead, front_at, name_at}
use Rattle.pass_elide_proof.specs.Placing.{KeepsPlaces}
use Rattle.pass_elide_proof.specs.pass_proofs.ir_model.Ty.{array, int}
use Rattle.pass_elide_proof.specs.pass_proofs.ir_model.declared.instr.Instr.{Instr}
use Rattle.pass_elide_proof.specs.pass_proofs.ir_paths.declared.point.Point.{Point}
use Rattle.pass_elide_proof.specs.pass_proofs.run_laws.changed.Changed.{Each}
use Rattle.pass_elide_proof.specs.pass_proofs.run_laws.memory.Pointers.{Home}
use Rattle.pass_elide_proof.specs.pass_proofs.run_memory.Memory.{is_live}
use Rattle.pass_elide_proof.specs.pass_proofs.run_memory.declared.block.MemoryBlock.{MemoryBlock}
use Rattle.pass_elide_proof.specs.pass_proofs.run_source.declared.state.Activation.{Activation}
use Rattle.pass_elide_proof.specs.pass_proofs.run_source.declared.state.Instance.{Instance}
use Rattle.pass_elide_proof.specs.pass_proofs.run_source.declared.state.State.{State}
use Rattle.pass_elide_proof.specs.pass_proofs.run_step.Values.{pointer_to, value_in}

holds_too : (e : Elision) (y : Instance) (number : ℕ) (call : Point) (i : Instr) (c : Activation)
    (above : Option Activation) (aboves : List Activation) → Keeps e y number call i c above
    → above ≡ slice_get aboves 0 → Holds e y number call i c aboves
holds_too e y number call i c _ [] (Keeps.Calling d stands func result instance mode) is = absurd (cc)
holds_too e y number call i c _ (x ∷ xs) (Keeps.Calling d stands func result instance mode) is =
    let one : d ≡ x = cc in
    subst (λ (q : Activation). Holds e y number call i c (q ∷ xs)) one
    (Holds.Calling d xs stands func result instance mode)
holds_too e y number call i c _ aboves (Keeps.Held p above stands reached handle) is =
    Holds.Held p aboves stands reached handle
holds_too e y number call i c _ [] (Keeps.Destroying p j v d stands there of result destroys) is = absurd (cc)
holds_too e y number call i c _ (x ∷ xs) (Keeps.Destroying p j v d stands there of result destroys) is =
    let one : d ≡ x = cc in
    subst (λ (q : Activation). Holds e y number call i c (q ∷ xs)) one
    (Holds.Destroying (behind p) v d xs stands result destroys)

module _ (e : Elision) (places : KeepsPlaces e) (keeps : KeepsHandlesAndEnds e) (homes : List Home)
    (hides : ℕ → Bool) (d : Sides) (y : Instance) (number : ℕ) where
  abbrev Lives : Type 0
  Lives = (z : MemoryBlock) × (slice_get d.other y.block ≡ Some z) × (is_live z.life ≡ true)

  same_block : (m n : ℕ) → pointer_to m ≡ pointer_to n → m ≡ n
  same_block m n is = cc

  abbrev named_by : Instr → ℕ
  named_by (Instr.Alloca n ty align) = n
  named_by _ = 0

  module _ (a c : Activation) (k : AreActivations e homes hides d a c) (above : Option Activation)
      (h : HasKeeper e y number c above) where
    plain : (function_in e a.func).coroutine ≡ false
    plain = ap (λ (n : ℕ). (function_in e n).coroutine) (sym k.func) ∙ h.site.plain

    abbrev Stands : Type 0
    Stands = (c.block ≡ a.block) × (c.at ≡ front_at (rooms e a.func) (function_in e a.func) a.block a.at)

    stands : Stands
    stands = stands_beside e places homes (was_given d c) a c plain k.place

    lives : Lives
    lives = by k.allocas
      where
        by : ((a.block ≡ 0) × (a.at ≡ 0) × (k.own ≡ []))
            ⊎ (Each (HasAlloca homes hides d c k.own) (allocas_ahead (rooms e a.func) (function_in e a.func))
            × (length k.own ≡ length (allocas_ahead (rooms e a.func) (function_in e a.func)))) → Lives
        by (inl entry) =
            absurd (keeper_apart e keeps y number h.call h.instr c above (stands.0 ∙ entry.0)
            (stands.1 ∙ ap (front_at (rooms e a.func) (function_in e a.func) a.block) entry.1) h.keeps)
        by (inr made) =
            let site : IsSiteOf e a.func h.call h.instr h.name
            = subst (λ (n : ℕ). IsSiteOf e n h.call h.instr h.name) k.func h.site in
            let room : HasAlloca homes hides d c k.own
            (Instr.Alloca (name_at (rooms e a.func) (function_in e a.func) h.call.block h.call.at)
            (array site.size (int 8)) site.align)
            = alloca_there (rooms e a.func) (function_in e a.func) h.call.block h.call.at h.instr site.size site.align
            (HasAlloca homes hides d c k.own) made.0 site.there site.room in
            let name : h.name ≡ room.name = site.is_name ∙ ap named_by room.is in
            let block : room.block ≡ y.block
            = same_block room.block y.block (sym room.address ∙ (ap (value_in c.values) (sym name) ∙ h.address)) in
            (room.there, ap (slice_get d.other) (sym block) ∙ room.is_there, room.live)

    called_by : (aboves : List Activation) → above ≡ slice_get aboves 0 → HasCaller e d.other y number c aboves
    called_by aboves is = record {
      call = h.call;
      instr = h.instr;
      name = h.name;
      site = h.site;
      start = h.start;
      address = h.address;
      slot = h.slot;
      lives = lives;
      holds = holds_too e y number h.call h.instr c above aboves h.keeps is;
    }

  called_below : (more cs : List Activation) → AreBelow e homes hides d more cs → (above : Option Activation)
      (aboves : List Activation) → above ≡ slice_get aboves 0 → IsKeptIn e y number above cs
      → IsCalledIn e d.other y number aboves cs
  called_below [] [] pairs above aboves is h = absurd h
  called_below [] (c ∷ cs) pairs above aboves is h = absurd pairs
  called_below (a ∷ more) [] pairs above aboves is h = absurd pairs
  called_below (a ∷ more) (c ∷ cs) pairs above aboves is (inl k) =
      Here c aboves cs (called_by a c pairs.0.1 above k aboves is)
  called_below (a ∷ more) (c ∷ cs) pairs above aboves is (inr k) =
      Below c aboves cs (called_below more cs pairs.1 (Some c) (c ∷ aboves) refl k)

pub kept_called : (e : Elision) → KeepsPlaces e → KeepsHandlesAndEnds e → (s t : State) → AreElided e s t
    → (y : Instance) (number : ℕ) → IsKeptIn e y number None (t.top ∷ t.below)
    → IsCalledIn e t.world.memory y number [] (t.top ∷ t.below)
kept_called e places keeps s t r y number (inl k) =
    Here t.top [] t.below
    (called_by e places keeps r.homes r.hides (sides s t) y number s.top t.top r.top None k [] refl)
kept_called e places keeps s t r y number (inr k) =
    Below t.top [] t.below
    (called_below e places keeps r.homes r.hides (sides s t) y number s.below t.below r.below (Some t.top) (t.top ∷ [])
    refl k)
