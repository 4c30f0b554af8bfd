-- coro.free marks the instance released in both runs, and gives its frame address.
use Rattle.std.proofs.Common.{◌≡◌, ℕ, true, List, Option, Some, None, refl}
use Rattle.std.proofs.Common.{sym, ap, ◌∙◌, ◌+◌, arith, subst, ⊎_elim}
use Rattle.std.proofs.lemmas.Bool.{cases_eq}
use Rattle.std.specs.List.{Contains}
use Rattle.std.specs.Prelude.{option_and_then, option_map, slice_get, slice_set}
use Rattle.pass_kept_proof.specs.ir_model.Names.{function_at}
use Rattle.pass_kept_proof.specs.ir_model.declared.instr.Instr.{Instr}
use Rattle.pass_kept_proof.specs.ir_model.declared.module.Module.{Module}
use Rattle.run_laws.proofs.memory.Written.{same_some}
use Rattle.run_laws.specs.memory.Pointers.{IsValue}
use Rattle.pass_kept_proof.specs.run_memory.declared.pointer.Value.{Value}
use Rattle.pass_kept_proof.specs.run_source.Source.{change_own, frame_address, is_over, release}
use Rattle.pass_kept_proof.specs.run_source.State.{gives, is_suspended, numbered, own_instance, with_instance}
use Rattle.pass_kept_proof.specs.run_source.declared.state.Activation.{Activation}
use Rattle.pass_kept_proof.specs.run_source.declared.state.Instance.{Instance}
use Rattle.pass_kept_proof.specs.run_source.declared.state.State.{State}
use Rattle.pass_kept_proof.specs.run_step.declared.world.Slot.{Slot}
use Rattle.pass_renewed_proof.proofs.Giving.{gives_beside}
use Rattle.pass_renewed_proof.proofs.Listing.{instances_on, instances_set, set_here, set_other, status_like}
use Rattle.pass_renewed_proof.proofs.Owning.{address_of, own_beside}
use Rattle.pass_renewed_proof.specs.Beside.{Begun, Early, GoesOn, IsBeside, IsInstanceBeside}
use Rattle.pass_renewed_proof.specs.Beside.{IsOverOf, IsSlotOf, Leaves, NotLeft}
use Rattle.pass_renewed_proof.specs.Found.{AreFound}
use Rattle.pass_renewed_proof.specs.Ledger.{Ledger}
use Rattle.pass_renewed_proof.specs.Making.{IsGiving}
use Rattle.pass_renewed_proof.specs.Renewed.{Flags, Roots}
use Rattle.pass_renewed_proof.specs.SlotRules.{KeepsSlots}

-- ---- an instance that is released

module _ (xs : List Instance) (i : ℕ) (x : Instance) (there : slice_get xs i ≡ Some x) where
  abbrev x' : Instance
  x' = record x { released = true }

  abbrev ys : List Instance
  ys = slice_set xs i (record x { released = true })

  now : slice_get (slice_set xs i (record x { released = true })) i ≡ Some (record x { released = true })
  now = set_here xs i x (record x { released = true }) there

  goes_before : (depth : ℕ) (a : Activation) → GoesOn (slice_set xs i (record x { released = true })) depth a
      → GoesOn xs depth a
  goes_before depth a (NotLeft e) = NotLeft e
  goes_before depth a (Leaves g) = ⊎_elim
      (λ same.
      let q : x' ≡ g.instance = same_some x' g.instance (sym now ∙ ap (slice_get ys) (sym same) ∙ g.there) in
      Leaves (record {
        number = i;
        own = g.own ∙ ap Some same;
        instance = x;
        there = there;
        suspended = subst (λ (z : Instance). is_suspended z.status ≡ true) (sym q) g.suspended;
        saved = g.saved;
        last = ap (λ (z : Instance). z.last_save) q ∙ g.last;
        is_its = g.is_its;
      }))
      (λ ne. Leaves (record {
        number = g.number;
        own = g.own;
        instance = g.instance;
        there = sym (set_other xs i g.number x' ne) ∙ g.there;
        suspended = g.suspended;
        saved = g.saved;
        last = g.last;
        is_its = g.is_its;
      }))
      (cases_eq g.number i)

  slots_still : (a : Activation) (slot : Slot) → IsSlotOf xs a slot
      → IsSlotOf (slice_set xs i (record x { released = true })) a slot
  slots_still a slot (Early none c) = Early none c
  slots_still a slot (Begun j w own at c) = ⊎_elim
      (λ same. Begun i x' (own ∙ ap Some same) now (subst (λ (q : Instance). Contains q.slots slot) (same_some w x (sym
      at ∙ ap (slice_get xs) same ∙ there)) c))
      (λ ne. Begun j w own (set_other xs i j x' ne ∙ at) c)
      (cases_eq j i)

  over_still : (a : Activation) → IsOverOf xs a → IsOverOf (slice_set xs i (record x { released = true })) a
  over_still a o = ⊎_elim
      (λ same. record {
        number = i;
        own = o.own ∙ ap Some same;
        instance = x';
        there = now;
        over = ap is_over (sym (same_some o.instance x (sym o.there ∙ ap (slice_get xs) same ∙ there))) ∙ o.over;
      })
      (λ ne. record {
        number = o.number;
        own = o.own;
        instance = o.instance;
        there = set_other xs i o.number x' ne ∙ o.there;
        over = o.over;
      })
      (cases_eq o.number i)

-- ---- the states

module _ (m : Module) (flags : Flags) (roots : Roots) (keeps : (func : ℕ)
    → KeepsSlots m (function_at m func) (flags func) (roots func)) (s t : State) (beside : IsBeside m flags roots s t)
    (c : Instr) (result : Option ℕ) (giving : IsGiving m roots s.top c result) where
  abbrev l : Ledger
  l = beside.ledger

  instance_released : (i : ℕ) (x y : Instance) → IsInstanceBeside m flags roots beside.ledger s.world.memory i x y
      → IsInstanceBeside m flags roots beside.ledger s.world.memory i (record x { released = true }) (record y {
        released = true;
      })
  instance_released i x y h = record {
    block = h.block;
    slots = h.slots;
    status = h.status;
    is = ap (λ (z : Instance). record z { released = true }) h.is;
    home = h.home;
    unseated = h.unseated;
    start = h.start;
    listed = h.listed;
    statuses = status_like m flags roots l s.world.memory (record x { released = true }) x refl (λ d is. is) x.status
        h.status h.statuses;
    over = h.over;
  }

  with_released : (i : ℕ) (x y : Instance) (v w : Value) → slice_get s.instances i ≡ Some x
      → IsInstanceBeside m flags roots beside.ledger s.world.memory i x y → IsValue beside.ledger.homes v w
      → IsBeside m flags roots (gives (with_instance s i (record x { released = true })) result v) (gives (with_instance
      t i (record y { released = true })) result w)
  with_released i x y v w there h stands =
      let number : i ≡ 0 + i = omega arith in
      gives_beside m flags roots keeps (with_instance s i (record x { released = true })) (with_instance t i (record y {
        released = true;
      })) (instances_on m flags roots s t beside (slice_set s.instances i (record x { released = true })) (slice_set
      t.instances i (record y { released = true })) (λ depth a. record {
        goes_on = goes_before s.instances i x there depth a;
        slots = slots_still s.instances i x there a;
      }) (over_still s.instances i x there) (instances_set m flags roots l s.world.memory 0 s.instances t.instances i _ _
      beside.instances (subst (λ n. IsInstanceBeside m flags roots l s.world.memory n (record x { released = true })
      (record y { released = true })) number (instance_released i x y h)))) c result (record {
        place = giving.place;
        here = giving.here;
        no_start = giving.no_start;
        no_end = giving.no_end;
        no_part = giving.no_part;
        no_alloca = giving.no_alloca;
      }) v w stands

  abbrev Frees : Option (ℕ × Instance) → Option (ℕ × Instance) → Type 0
  Frees o q = IsBeside m flags roots (gives (change_own s (λ x. record x { released = true }) o) result (frame_address
      o)) (gives (change_own t (λ x. record x { released = true }) q) result (frame_address q))

  found_there : (o : Option ℕ) (p : ℕ × Instance) → option_and_then (numbered s.instances) o ≡ Some p
      → slice_get s.instances p.0 ≡ Some p.1
  found_there None p e = absurd (cc)
  found_there (Some j) p e = on (slice_get s.instances j) refl e
    where
      on : (o : Option Instance) → slice_get s.instances j ≡ o → option_map (λ x. (j, x)) o ≡ Some p
          → slice_get s.instances p.0 ≡ Some p.1
      on None at k = absurd (cc)
      on (Some x) at k = subst (λ (z : ℕ × Instance). slice_get s.instances z.0 ≡ Some z.1) (same_some (j, x) p k) at

  by : (o q : Option (ℕ × Instance)) → own_instance s ≡ o
      → AreFound m flags roots beside.ledger s.world.memory o q → Frees o q
  by None q e found = subst (Frees None) (sym found) (gives_beside m flags roots keeps s t beside c result giving
      Value.Poison Value.Poison tt)
  by (Some p) q e found = subst (Frees (Some p)) (sym found.1) (with_released p.0 p.1 found.0 (frame_address (Some
      p)) (frame_address (Some (p.0, found.0))) (found_there s.top.instance p e) found.2 (address_of m flags roots s t
      beside (Some p) (Some (p.0, found.0)) (found.0, refl, found.2)))

  pub freed_beside : IsBeside m flags roots (gives (release s) result (frame_address (own_instance s))) (gives (release
      t) result (frame_address (own_instance t)))
  freed_beside = by (own_instance s) (own_instance t) refl (own_beside m flags roots s t beside)
