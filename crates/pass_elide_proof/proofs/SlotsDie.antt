-- The slots of the topmost activations die in both runs.
use Rattle.std.proofs.Common.{◌≡◌, ◌≢◌, ◌<◌, ⊎_elim, ℕ, Bool, true, false, List, [], ◌∷◌, not, refl, sym, ap, ◌∙◌, subst, ◌||◌, ◌==◌}
use Rattle.std.proofs.lemmas.Bool.{cases_eq}
use Rattle.std.specs.Option.{option_map_or}
use Rattle.std.specs.Prelude.{None, Option, Some, map, slice_get}
use Rattle.pass_elide_proof.proofs.BothDie.{NoneGivenIn, both_die, given_still, hidden_stay, homes_stay}
use Rattle.pass_elide_proof.specs.Elision.{Elision}
use Rattle.pass_elide_proof.specs.Match.{AreElided, IsNoGivenFrame, Sides, sides}
use Rattle.pass_proofs.proofs.run_laws.memory.Written.{changed_elsewhere, changed_here}
use Rattle.pass_proofs.specs.run_framed.Framed.{is_given, is_stack_block}
use Rattle.pass_proofs.specs.run_laws.changed.Changed.{Each}
use Rattle.pass_proofs.specs.run_laws.embedded.Deaths.{moved_slot}
use Rattle.pass_proofs.specs.run_laws.embedded.Making.{whole_home}
use Rattle.pass_proofs.specs.run_laws.memory.Pointers.{Home, home_of}
use Rattle.pass_proofs.specs.run_memory.Memory.{killed, killed_block, same_kind}
use Rattle.pass_proofs.specs.run_memory.declared.block.Byte.{Byte}
use Rattle.pass_proofs.specs.run_memory.declared.block.Kind.{Kind}
use Rattle.pass_proofs.specs.run_memory.declared.block.MemoryBlock.{MemoryBlock}
use Rattle.pass_proofs.specs.run_source.State.{with_memory}
use Rattle.pass_proofs.specs.run_source.declared.state.Instance.{Instance}
use Rattle.pass_proofs.specs.run_source.declared.state.State.{State}
use Rattle.pass_proofs.specs.run_step.Step.{without_slots}
use Rattle.pass_proofs.specs.run_step.declared.world.Slot.{Slot}

-- the block of a slot isn't hidden, is no stack block and has no frame that was given
pub record MayDie (hides : ℕ → Bool) (d : Sides) (z : Slot) : Type 0 where
  pub there : MemoryBlock
  pub is_there : slice_get d.memory z.block ≡ Some there
  pub kind : same_kind there.kind Kind.Stack ≡ false
  pub shown : hides z.block ≡ false
  pub own : IsNoGivenFrame d z.block

abbrev pub StartAtZero : State → Type 0
StartAtZero t = (i : ℕ) (y : Instance) → slice_get t.instances i ≡ Some y → y.start ≡ 0

lit : (a : Bool) → a ≡ true → a ≡ false → ⊥
lit true y n = absurd (cc)
lit false y n = absurd (cc)

-- ---- one slot

module _ (e : Elision) (s t : State) (r : AreElided e s t) (starts : StartAtZero t) (z : Slot)
    (h : MayDie r.hides (sides s t) z) where
  abbrev b : ℕ
  b = z.block

  mate : (k : ℕ) × (bytes : List Byte) × (home_of r.homes b ≡ whole_home k)
      × (slice_get t.world.memory k ≡ Some (record h.there { bytes = bytes }))
  mate = r.mates.each b h.there h.is_there h.shown h.own

  abbrev k : ℕ
  k = mate.0

  apart : NoneGivenIn (sides s t) k
  apart i y v here beside given same =
      lit (is_given t.world.memory v) given
      ((λ i. is_stack_block t.world.memory (same i) || not (v.start == 0))
      ∙ ((λ j. is_stack_block t.world.memory k || not (starts i v beside j == 0))
      ∙ (ap (λ (o : Option MemoryBlock). option_map_or (λ (y : MemoryBlock). same_kind y.kind Kind.Stack) o false
      || false) mate.3 ∙ ap (λ (c : Bool). c || false) h.kind)))

  abbrev u : State
  u = with_memory s (killed s.world.memory b)

  abbrev w : State
  w = with_memory t (killed t.world.memory k)

  one : AreElided e u w
  one = both_die e s t r b k h.there mate.1 h.is_there h.shown h.own mate.2 mate.3 apart

  same_homes : one.homes ≡ r.homes
  unfolding one
  same_homes = homes_stay e s t r b k h.there mate.1 h.is_there h.shown h.own mate.2 mate.3 apart

  same_hidden : one.hides ≡ r.hides
  unfolding one
  same_hidden = hidden_stay e s t r b k h.there mate.1 h.is_there h.shown h.own mate.2 mate.3 apart

  -- others may die still
  still : (v : Slot) → MayDie r.hides (sides s t) v → MayDie one.hides (sides u w) v
  still v old =
      ⊎_elim
      (λ same. record {
        there = killed_block old.there;
        is_there = subst (λ (c : ℕ). slice_get (killed s.world.memory c) v.block ≡ Some (killed_block old.there)) same
            (changed_here s.world.memory v.block killed_block old.there old.is_there);
        kind = old.kind;
        shown = shown_still;
        own = own_still;
      })
      (λ ne. record {
        there = old.there;
        is_there = changed_elsewhere s.world.memory b v.block killed_block ne ∙ old.is_there;
        kind = old.kind;
        shown = shown_still;
        own = own_still;
      }) (cases_eq v.block b)
    where
      shown_still : one.hides v.block ≡ false
      shown_still = ap (λ (q : ℕ → Bool). q v.block) same_hidden ∙ old.shown

      own_still : IsNoGivenFrame (sides u w) v.block
      own_still i y x here beside given same =
          old.own i y x here beside (sym (given_still t.world.memory k x) ∙ given) same

  all_still : (zs : List Slot) → Each (MayDie r.hides (sides s t)) zs → Each (MayDie one.hides (sides u w)) zs
  all_still [] old = tt
  all_still (v ∷ zs) old = (still v old.0, all_still zs old.1)

-- ---- all slots

pub slots_die : (e : Elision) (zs : List Slot) (s t : State) (r : AreElided e s t) → StartAtZero t
    → Each (MayDie r.hides (sides s t)) zs
    → AreElided e (with_memory s (without_slots s.world.memory zs))
    (with_memory t (without_slots t.world.memory (map (moved_slot r.homes) zs)))
slots_die e [] s t r starts h = r
slots_die e (z ∷ zs) s t r starts h =
    let k = (mate e s t r starts z h.0).0 in
    let home : k ≡ (home_of r.homes z.block).block
    = sym (ap (λ (q : Home). q.block) (mate e s t r starts z h.0).2) in
    let rest = slots_die e zs (with_memory s (killed s.world.memory z.block))
    (with_memory t (killed t.world.memory k)) (one e s t r starts z h.0) starts
    (all_still e s t r starts z h.0 zs h.1) in
    subst (λ (l : List MemoryBlock).
    AreElided e (with_memory s (without_slots (killed s.world.memory z.block) zs)) (with_memory t l))
    (λ i. without_slots (killed t.world.memory (home i)) (map (moved_slot (same_homes e s t r starts z h.0 i)) zs))
    rest
